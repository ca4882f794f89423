-- Words spell one command, and only its answer is due.
use Rattle.std.proofs.Common.{◌≡◌, ◌↔◌, ℕ, ◌≤◌, List, [], ◌∷◌, ap, sym, ◌∙◌, refl, subst, arith, codes, decimal, inl, inr}
use Rattle.std.proofs.lemmas.Fmt.{decimal_injective}
use Rattle.command_answers.specs.Answer.{Port, AnswersCheck, AnswersCopy, AnswersGen, AnswersRun}
use Rattle.command_answers.specs.declared.status.Status.{Status}
use Rattle.command_answers.specs.declared.status.Status.TheVariants as s
use Rattle.module_gen.specs.Generated.{generated}
use Rattle.bits_top.specs.Answer.{AnswersCommand, AnswersPlain, DoesWell}
use Rattle.bits_top.specs.Command.{SpellsCommand, SpellsCopy, SpellsGen, SpellsGenerated, SpellsLoad, SpellsNumber, SpellsPlain, SpellsRun}
use Rattle.bits_top.specs.declared.command.Command.{Command}
use Rattle.bits_top.specs.declared.command.Command.TheVariants as c
use Rattle.bits_top.specs.declared.command.Generated.{Generated}
use Rattle.bits_top.specs.declared.command.Load.{Load}
use Rattle.bits_top.specs.declared.command.Run.{Run}
use Rattle.bits_top.specs.declared.plain.Plain as plain
use Rattle.bits_top.specs.declared.plain.Plain.TheVariants as p
use Rattle.bits_top.proofs.Words.{different}

one_number : (word other : List ℕ) (low high n k : ℕ) → word ≡ other → high ≤ 4_294_967_295 → SpellsNumber word low high n → SpellsNumber other low high k → n ≡ k
one_number word other low high n k same bound h g =
    let e : decimal n ≡ decimal k = cc (h.spelled, g.spelled, same) in
    decimal_injective n k (omega (arith, h.at_most)) (omega (arith, g.at_most)) e

one_run : (words : List (List ℕ)) (a b : Run) → SpellsRun words a → SpellsRun words b → a ≡ b
one_run words a b h k =
    let s : h.schedulers ≡ k.schedulers = cc (h.words_are, k.words_are) in
    let r : h.reductions ≡ k.reductions = cc (h.words_are, k.words_are) in
    let se : a.schedulers ≡ b.schedulers = one_number h.schedulers k.schedulers 1 64 a.schedulers b.schedulers s (omega arith) h.schedulers_are k.schedulers_are in
    let re : a.reductions ≡ b.reductions = one_number h.reductions k.reductions 1 4_000_000 a.reductions b.reductions r (omega arith) h.reductions_are k.reductions_are in
    let f : ℕ → ℕ → Run = λ x y. record { schedulers = x; reductions = y } in
    ap (λ x. f x a.reductions) se ∙ ap (λ y. f b.schedulers y) re

one_copy : (words : List (List ℕ)) (m n : ℕ) → SpellsCopy words m → SpellsCopy words n → m ≡ n
one_copy words m n h k =
    let r : h.reductions ≡ k.reductions = cc (h.words_are, k.words_are) in
    one_number h.reductions k.reductions 1 4_000_000 m n r (omega arith) h.reductions_are k.reductions_are

one_input : (seed other_seed size other_size : List ℕ) (a b : Generated) → seed ≡ other_seed → size ≡ other_size → SpellsGenerated seed size a → SpellsGenerated other_seed other_size b → a ≡ b
one_input seed other_seed size other_size a b se ze h k =
    let s : a.seed ≡ b.seed = one_number seed other_seed 0 4_294_967_295 a.seed b.seed se (omega arith) h.seed_is k.seed_is in
    let z : a.size ≡ b.size = one_number size other_size 1 100_000 a.size b.size ze (omega arith) h.size_is k.size_is in
    let f : ℕ → ℕ → Generated = λ x y. record { seed = x; size = y } in
    ap (λ x. f x a.size) s ∙ ap (λ y. f b.seed y) z

one_gen : (words : List (List ℕ)) (a b : Generated) → SpellsGen words a → SpellsGen words b → a ≡ b
one_gen words a b h k =
    let s : h.seed ≡ k.seed = cc (h.words_are, k.words_are) in
    let z : h.size ≡ k.size = cc (h.words_are, k.words_are) in
    one_input h.seed k.seed h.size k.size a b s z h.input_is k.input_is

one_load : (words : List (List ℕ)) (a b : Load) → SpellsLoad words a → SpellsLoad words b → a ≡ b
one_load words a b h k =
    let s : h.seed ≡ k.seed = cc (h.words_are, k.words_are) in
    let z : h.size ≡ k.size = cc (h.words_are, k.words_are) in
    let t : h.schedulers ≡ k.schedulers = cc (h.words_are, k.words_are) in
    let ie : a.input ≡ b.input = one_input h.seed k.seed h.size k.size a.input b.input s z h.input_is k.input_is in
    let te : a.schedulers ≡ b.schedulers = one_number h.schedulers k.schedulers 1 64 a.schedulers b.schedulers t (omega arith) h.schedulers_are k.schedulers_are in
    let f : Generated → ℕ → Load = λ x y. record { input = x; schedulers = y } in
    ap (λ x. f x a.schedulers) ie ∙ ap (λ y. f b.input y) te

-- the first word is the command's name
abbrev first_word : List (List ℕ) → List ℕ
first_word [] = []
first_word (word ∷ words) = word

abbrev plain_name : plain.Plain → List ℕ
plain_name p.Check = codes "check"
plain_name (p.Copy reductions) = codes "copy"
plain_name (p.Gen seed size) = codes "gen"

plain_named : (words : List (List ℕ)) (plain : plain.Plain) → SpellsPlain words plain → first_word words ≡ plain_name plain
plain_named words p.Check h = ap first_word h.words_are
plain_named words (p.Copy reductions) h = ap first_word h.words_are
plain_named words (p.Gen seed size) h = ap first_word h.words_are

no_plain_run : (plain : plain.Plain) → codes "run" ≡ plain_name plain → ⊥
no_plain_run p.Check e = different (codes "run") (codes "check") refl e
no_plain_run (p.Copy reductions) e = different (codes "run") (codes "copy") refl e
no_plain_run (p.Gen seed size) e = different (codes "run") (codes "gen") refl e

no_plain_load : (plain : plain.Plain) → codes "load" ≡ plain_name plain → ⊥
no_plain_load p.Check e = different (codes "load") (codes "check") refl e
no_plain_load (p.Copy reductions) e = different (codes "load") (codes "copy") refl e
no_plain_load (p.Gen seed size) e = different (codes "load") (codes "gen") refl e

run_or_plain : (words : List (List ℕ)) (run : Run) (plain : plain.Plain) → SpellsRun words run → SpellsPlain words plain → ⊥
run_or_plain words run plain h k = no_plain_run plain (sym (ap first_word h.words_are) ∙ plain_named words plain k)

load_or_plain : (words : List (List ℕ)) (load : Load) (plain : plain.Plain) → SpellsLoad words load → SpellsPlain words plain → ⊥
load_or_plain words load plain h k = no_plain_load plain (sym (ap first_word h.words_are) ∙ plain_named words plain k)

run_or_load : (words : List (List ℕ)) (run : Run) (load : Load) → SpellsRun words run → SpellsLoad words load → ⊥
run_or_load words run load h k = different (codes "run") (codes "load") refl (sym (ap first_word h.words_are) ∙ ap first_word k.words_are)

one_name : (words : List (List ℕ)) (a b : plain.Plain) → SpellsPlain words a → SpellsPlain words b → plain_name a ≡ plain_name b
one_name words a b h k = sym (plain_named words a h) ∙ plain_named words b k

one_plain : (words : List (List ℕ)) (a b : plain.Plain) → SpellsPlain words a → SpellsPlain words b → a ≡ b
one_plain words p.Check p.Check h k = refl
one_plain words p.Check (p.Copy n) h k = absurd (different (codes "check") (codes "copy") refl (one_name words p.Check (p.Copy n) h k))
one_plain words p.Check (p.Gen s z) h k = absurd (different (codes "check") (codes "gen") refl (one_name words p.Check (p.Gen s z) h k))
one_plain words (p.Copy m) p.Check h k = absurd (different (codes "copy") (codes "check") refl (one_name words (p.Copy m) p.Check h k))
one_plain words (p.Copy m) (p.Copy n) h k = ap p.Copy (one_copy words m n h k)
one_plain words (p.Copy m) (p.Gen s z) h k = absurd (different (codes "copy") (codes "gen") refl (one_name words (p.Copy m) (p.Gen s z) h k))
one_plain words (p.Gen s z) p.Check h k = absurd (different (codes "gen") (codes "check") refl (one_name words (p.Gen s z) p.Check h k))
one_plain words (p.Gen s z) (p.Copy n) h k = absurd (different (codes "gen") (codes "copy") refl (one_name words (p.Gen s z) (p.Copy n) h k))
one_plain words (p.Gen s z) (p.Gen t y) h k = ap (λ (g : Generated). p.Gen g.seed g.size) (one_gen words (record { seed = s; size = z }) (record { seed = t; size = y }) h k)

-- words spell one command
one_command : (words : List (List ℕ)) (a b : Command) → SpellsCommand words a → SpellsCommand words b → a ≡ b
one_command words (c.Run a) (c.Run b) h k = ap c.Run (one_run words a b h k)
one_command words (c.Run a) (c.Load b) h k = absurd (run_or_load words a b h k)
one_command words (c.Run a) (c.Plain b) h k = absurd (run_or_plain words a b h k)
one_command words (c.Load a) (c.Run b) h k = absurd (run_or_load words b a k h)
one_command words (c.Load a) (c.Load b) h k = ap c.Load (one_load words a b h k)
one_command words (c.Load a) (c.Plain b) h k = absurd (load_or_plain words a b h k)
one_command words (c.Plain a) (c.Run b) h k = absurd (run_or_plain words b a k h)
one_command words (c.Plain a) (c.Load b) h k = absurd (load_or_plain words b a k h)
one_command words (c.Plain a) (c.Plain b) h k = ap c.Plain (one_plain words a b h k)

-- no answer to a command is Usage

check_unlike_usage : (source report : Port) → AnswersCheck s.Usage source report → ⊥
check_unlike_usage source report h = elim h [ inl w ↦ w | inr w ↦ elim w.answer [ inl v ↦ cc | inr v ↦ cc ] ]

copy_unlike_usage : (reductions : ℕ) (source order_in report : Port) → AnswersCopy reductions s.Usage source order_in report → ⊥
copy_unlike_usage reductions source order_in report h = elim h [ inl w ↦ w.0 | inr w ↦ w.answer ]

gen_unlike_usage : (text : List ℕ) (report : Port) → AnswersGen text s.Usage report → ⊥
gen_unlike_usage text report h = elim h [ inl w ↦ (let e : s.Usage ≡ s.NoMemory = w.0 in cc) | inr w ↦ elim w [ inl v ↦ cc | inr v ↦ cc ] ]

run_unlike_usage : (reductions : ℕ) (source report order : Port) → AnswersRun reductions s.Usage source report order → ⊥
run_unlike_usage reductions source report order h = elim h [ inl w ↦ w.0 | inr w ↦ w.answer ]

plain_unlike_usage : (plain : plain.Plain) (source order_in report : Port) → AnswersPlain plain s.Usage source order_in report → ⊥
plain_unlike_usage p.Check source order_in report h = check_unlike_usage source report h.0
plain_unlike_usage (p.Copy reductions) source order_in report h = copy_unlike_usage reductions source order_in report h
plain_unlike_usage (p.Gen seed size) source order_in report h = gen_unlike_usage (generated seed size) report h.0

pub no_usage_run : (reductions : ℕ) (status : Status) (source report order : Port) → AnswersRun reductions status source report order → status ≡ s.Usage → ⊥
no_usage_run reductions status source report order answer e =
    let P : Status → Type 0 = λ v. AnswersRun reductions v source report order in
    run_unlike_usage reductions source report order (subst P e answer)

pub no_usage_plain : (plain : plain.Plain) (status : Status) (source order_in report : Port) → AnswersPlain plain status source order_in report → status ≡ s.Usage → ⊥
no_usage_plain plain status source order_in report answer e =
    let P : Status → Type 0 = λ v. AnswersPlain plain v source order_in report in
    plain_unlike_usage plain source order_in report (subst P e answer)

pub usage_for_none : (words : List (List ℕ)) (spelled : Command) (status : Status) → SpellsCommand words spelled → (status ≡ s.Usage → ⊥) → (status ≡ s.Usage) ↔ ((command : Command) → SpellsCommand words command → ⊥)
usage_for_none words spelled status h other = (λ e. absurd (other e), λ none. absurd (none spelled h))

-- ---- what is said of the command that was spelled is said of each that the words spell

pub answers_all : (words : List (List ℕ)) (spelled made : Command) (status : Status) (source order_in report order_out : Port) → spelled ≡ made → SpellsCommand words spelled → AnswersCommand made status source order_in report order_out →
    (command : Command) → SpellsCommand words command → AnswersCommand command status source order_in report order_out
answers_all words spelled made status source order_in report order_out is h answer = λ command g.
    let P : Command → Type 0 = λ v. AnswersCommand v status source order_in report order_out in
    subst P (sym is ∙ one_command words spelled command h g) answer

pub all_do_well : (words : List (List ℕ)) (spelled made : Command) (status : Status) (source order_in report order_out : Port) → spelled ≡ made → SpellsCommand words spelled → DoesWell made status source order_in report order_out →
    (command : Command) → SpellsCommand words command → DoesWell command status source order_in report order_out
all_do_well words spelled made status source order_in report order_out is h well = λ command g.
    let P : Command → Type 0 = λ v. DoesWell v status source order_in report order_out in
    subst P (sym is ∙ one_command words spelled command h g) well
