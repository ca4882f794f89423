-- The module that a text spells, and the fault of a text that spells none.
use Rattle.std.proofs.Common.{◌≡◌, ℕ, ◌+◌, ◌≤◌, ◌<◌, ◌⊎◌, inl, inr, Bool, true, false, if◌then◌else◌, map, List, [], ◌∷◌, ◌++◌, length, drop, Option, Some, None, Ok, Err, refl, sym, ap, subst, ◌∙◌, arith}
use Rattle.std.proofs.lemmas.List.{length-map}
use Rattle.erl_syntax.specs.declared.span.Span.{Span}
use Rattle.erl_syntax.specs.declared.token.Token.{Token}
use Rattle.erl_syntax.specs.declared.token.LexFault.{LexFault}
use Rattle.erl_syntax.specs.declared.token.LexCause.{LexCause}
use Rattle.erl_syntax.specs.declared.token.LexCause.TheVariants.{NoMemory}
use Rattle.erl_syntax.specs.declared.module.Module.{Module}
use Rattle.erl_syntax.specs.Word.{Word}
use Rattle.erl_syntax.specs.Tokens.{Lexes, place}
use Rattle.erl_syntax.specs.Reading.{Reads, longest_text, atoms_of, words_of, word_of, are_strings, before, strings_joined}
use Rattle.erl_syntax.specs.Grammar.{Limits, Spells, ends, strict}
use Rattle.erl_tokens.specs.Cutting.{IsFault}
use Rattle.pattern_read.specs.declared.fault.Cause.{Cause}
use Rattle.pattern_read.specs.declared.fault.Cause.TheVariants.{Syntax, TooDeep, UnknownAttribute, UnknownSegmentType, Undecided}
use Rattle.clause_read.specs.declared.forms.ModuleForms.{ModuleForms}
use Rattle.clause_read.specs.declared.read.ReadFault.{ReadFault}
use Rattle.clause_read.specs.declared.read.ReadCause.{ReadCause}
use Rattle.clause_read.specs.declared.read.ReadCause.TheVariants as r
use Rattle.pattern_read.specs.declared.cursor.Numbered.{Numbered}
use Rattle.pattern_read.specs.Cursor.{Readable, words}
use Rattle.pattern_read.specs.Reading.{Passes, IsRefused, IsWide, Stops, SameHead, Follows, nothing}
use Rattle.pattern_read.specs.declared.fault.Fault.TheVariants.{Refused}
use Rattle.clause_read.specs.WantedForms.{anything, forms_in, ReadsForms}
use Rattle.clause_read.specs.ReadText.{IsReadFault, memory, of_token, of_word, fault_at, place_in, IsTold, told_of_token}

abbrev pub module_with : ModuleForms → List (List ℕ) → Span → Module
module_with fs atoms last = record { heads = fs.heads; exports = fs.exports; functions = fs.functions; atoms = atoms; last = last }

abbrev forms_of : Module → ModuleForms
forms_of m = record { heads = m.heads; exports = m.exports; functions = m.functions }

-- a text has one list of tokens
abbrev pub OneReading : Type 0
OneReading = (text : List ℕ) (s t : List Token) (f g : Option LexFault) → Lexes text s f → Lexes text t g → (s ≡ t) × (f ≡ g)

nothing_follows : Follows strict anything []
nothing_follows t w h d = elim d [ ]

wide : IsWide strict strict
wide = record { trees = omega arith; brackets = omega arith }

same_head : (w : List Word) → SameHead w w
same_head [] = tt
same_head (j ∷ w) = refl

spells_whole : (ws : List Word) (fs : ModuleForms) → Passes strict anything forms_in ws nothing [] (λ u. fs) → Spells strict (forms_in fs) ws
spells_whole ws fs p = let P : List Word → Type 0 = λ w. Spells strict (forms_in fs) w in subst P (sym p.whole) (p.back strict wide tt [] [] ends)

pub module_read : (text : List ℕ) (tokens : List Token) (ws : List Word) (atoms : List (List ℕ)) (fs : ModuleForms) (last : Span) (m : Module) → length text ≤ longest_text → Lexes text tokens None →
    atoms ≡ atoms_of text tokens → ws ≡ words_of text (atoms_of text tokens) tokens → Passes strict anything forms_in ws nothing [] (λ u. fs) → last ≡ place text (length text) → m ≡ module_with fs atoms last → Reads text m
module_read text tokens ws atoms fs last m h d a w p l e =
    let P : List Word → Type 0 = λ v. Spells strict (forms_in fs) v in
    let Q : List (List ℕ) → Type 0 = λ t. Spells strict (forms_in fs) (words_of text t tokens) in
    let R : Module → Type 0 = λ n. Reads text n in
    subst R (sym e) (record { short = h; tokens = tokens; lexes = d; atoms = a; spells = subst Q (sym a) (subst P w (spells_whole ws fs p)); last = l })

-- the words that another reading of the text spells
spells_other : (text : List ℕ) (tokens : List Token) (m : Module) → (r : Reads text m) → r.tokens ≡ tokens → Spells strict (forms_in (forms_of m)) (words_of text (atoms_of text tokens) tokens)
spells_other text tokens m r e =
    let P : List (List ℕ) → Type 0 = λ t. Spells strict (forms_in (forms_of m)) (words_of text t r.tokens) in
    let Q : List Token → Type 0 = λ ts. Spells strict (forms_in (forms_of m)) (words_of text (atoms_of text ts) ts) in
    subst Q e (subst P r.atoms r.spells)

module_made : (m : Module) (fs : ModuleForms) (atoms : List (List ℕ)) (last : Span) → forms_of m ≡ fs → m.atoms ≡ atoms → m.last ≡ last → m ≡ module_with fs atoms last
module_made m fs atoms last e a l =
    ap (λ v. module_with v m.atoms m.last) e ∙ ap (λ v. module_with fs v m.last) a ∙ ap (λ v. module_with fs atoms v) l

pub module_only : OneReading → (text : List ℕ) (tokens : List Token) (ws : List Word) (atoms : List (List ℕ)) (fs : ModuleForms) (last : Span) (m : Module) → Lexes text tokens None →
    atoms ≡ atoms_of text tokens → ws ≡ words_of text (atoms_of text tokens) tokens → Passes strict anything forms_in ws nothing [] (λ u. fs) → last ≡ place text (length text) → m ≡ module_with fs atoms last →
    (other : Module) → Reads text other → other ≡ m
module_only one text tokens ws atoms fs last m d a w p l e other r =
    let same : r.tokens ≡ tokens = (one text r.tokens tokens None None r.lexes d).0 in
    let P : List Word → Type 0 = λ v. Spells strict (forms_in (forms_of other)) v in
    let spelled : Spells strict (forms_in (forms_of other)) (p.front ++ []) = subst P (sym w ∙ p.whole) (spells_other text tokens other r same) in
    let found = p.forth strict (forms_of other) [] [] nothing_follows tt spelled in
    module_made other fs atoms last found.1 (r.atoms ∙ ap (atoms_of text) same ∙ sym a) (r.last ∙ sym l) ∙ sym e

-- ---- Faults

stops_strict : (why : Cause) → Stops strict why strict
stops_strict Syntax = tt
stops_strict TooDeep = record { trees = refl; brackets = refl; any_attribute = refl; any_type = refl }
stops_strict UnknownAttribute = refl
stops_strict UnknownSegmentType = refl
stops_strict Undecided = record { trees = refl; brackets = refl; any_attribute = refl; any_type = refl }

pub word_none : OneReading → (text : List ℕ) (tokens : List Token) (ws rest : List Word) (why : Cause) → Lexes text tokens None → ws ≡ words_of text (atoms_of text tokens) tokens → IsRefused strict anything forms_in ws rest why →
    (m : Module) → Reads text m → ⊥
word_none one text tokens ws rest why d w p m r =
    let same : r.tokens ≡ tokens = (one text r.tokens tokens None None r.lexes d).0 in
    let P : List Word → Type 0 = λ v. Spells strict (forms_in (forms_of m)) v in
    let spelled : Spells strict (forms_in (forms_of m)) (p.front ++ rest) = subst P (sym w ∙ p.whole) (spells_other text tokens m r same) in
    p.stops strict (stops_strict why) (forms_of m) [] rest nothing_follows (same_head rest) spelled

pub word_fault : (text : List ℕ) (tokens : List Token) (ws rest : List Word) (cause : ReadCause) (place_is : Span) (fault : ReadFault) → length text ≤ longest_text → Lexes text tokens None → ws ≡ words_of text (atoms_of text tokens) tokens →
    (cause ≡ r.NoMemory) ⊎ IsTold ws rest cause → place_is ≡ place_in (place text (length text)) rest → fault ≡ fault_at place_is cause → IsReadFault text fault
word_fault text tokens ws rest cause at fault h d w (inl m) l e = memory (ap (λ f. f.why) e ∙ m)
word_fault text tokens ws rest cause at fault h d w (inr p) l e =
    let P : List Word → Type 0 = λ v. IsTold v rest cause in
    of_word tokens rest cause h d (subst P w p) (e ∙ ap (λ v. fault_at v cause) l)

pub long_none : (text : List ℕ) → longest_text < length text → (m : Module) → Reads text m → ⊥
long_none text h m r = let s : length text ≤ longest_text = r.short in omega (arith, h, s)

some_no_none : {x : LexFault} → (let P : Option LexFault = Some x in P) ≡ None → ⊥
some_no_none e = cc

token_cause : (cause : LexCause) → (cause ≡ NoMemory) ⊎ (told_of_token cause ≡ r.Token cause)
token_cause NoMemory = inl refl
token_cause _ = inr refl

pub token_fault : (text : List ℕ) (first : LexFault) (fault : ReadFault) → length text ≤ longest_text → IsFault text first → fault ≡ fault_at first.at (told_of_token first.why) → IsReadFault text fault
token_fault text first fault h (inl m) e = memory (ap (λ f. f.why) e ∙ ap told_of_token m)
token_fault text first fault h (inr d) e = by (token_cause first.why)
  where
    by : (first.why ≡ NoMemory) ⊎ (told_of_token first.why ≡ r.Token first.why) → IsReadFault text fault
    by (inl m) = memory (ap (λ f. f.why) e ∙ ap told_of_token m)
    by (inr t) = of_token d.0 first h d.1 (e ∙ ap (fault_at first.at) t)

pub token_none : OneReading → (text : List ℕ) (first : LexFault) (fault : ReadFault) → IsFault text first → fault ≡ fault_at first.at (told_of_token first.why) →
    (fault.why ≡ r.NoMemory) ⊎ ((m : Module) → Reads text m → ⊥)
token_none one text first fault (inl m) e = inl (ap (λ f. f.why) e ∙ ap told_of_token m)
token_none one text first fault (inr d) e = inr (λ m r. some_no_none {x = first} (one text d.0 r.tokens (Some first) None d.1 r.lexes).1)

-- the words of a cursor that has the text and its numbered tokens
pub cursor_words : (text copy : List ℕ) (tokens : List Token) (strings : List (List ℕ)) (numbered : List Numbered) (all : List Word) → all ≡ words copy strings numbered → copy ≡ text →
    words text strings numbered ≡ words_of text (atoms_of text tokens) tokens → all ≡ words_of text (atoms_of text tokens) tokens
cursor_words text copy tokens strings numbered all e s w = e ∙ ap (λ t. words t strings numbered) s ∙ w

-- what is read of a cursor with the limits of modules
pub forms_strict : (s : Readable) (fs : ModuleForms) → s.limits ≡ strict → ReadsForms s (Ok fs) → Passes strict anything forms_in s.words nothing [] (λ u. fs)
forms_strict s fs e g = let P : Limits → Type 0 = λ m. Passes m anything forms_in s.words nothing [] (λ u. fs) in subst P e g

pub refused_strict : (s : Readable) (at : ℕ) (why : Cause) → s.limits ≡ strict → ReadsForms s (Err (Refused at why)) → IsRefused strict anything forms_in s.words (drop at s.words) why
refused_strict s at why e g = let P : Limits → Type 0 = λ m. IsRefused m anything forms_in s.words (drop at s.words) why in subst P e g

-- there are no more words than tokens
before_short : (w : Word) (ws : List Word) → length (before w ws) ≤ 1 + length ws
before_short w [] = omega arith
before_short w (v ∷ ws) = by (are_strings w.kind v.kind)
  where
    one : Word
    one = record { kind = w.kind; at = w.at; number = w.number; chars = w.chars ++ v.chars }

    by : (b : Bool) → length (if b then one ∷ ws else w ∷ v ∷ ws) ≤ 1 + length (v ∷ ws)
    by true = omega arith
    by false = omega arith

joined_short : (ws : List Word) → length (strings_joined ws) ≤ length ws
joined_short [] = omega arith
joined_short (w ∷ ws) = let h : length (strings_joined ws) ≤ length ws = joined_short ws in let k : length (before w (strings_joined ws)) ≤ 1 + length (strings_joined ws) = before_short w (strings_joined ws) in omega (arith, h, k)

pub cursor_short : (text : List ℕ) (tokens : List Token) (all : List Word) (n : ℕ) → all ≡ words_of text (atoms_of text tokens) tokens → length tokens < n → length all < n
cursor_short text tokens all n e h =
    let f : Token → Word = word_of text (atoms_of text tokens) in
    let s : length (strings_joined (map f tokens)) ≤ length (map f tokens) = joined_short (map f tokens) in
    let l : length all ≡ length (strings_joined (map f tokens)) = ap length e in
    let m : length (map f tokens) ≡ length tokens = length-map tokens f in omega (arith, l, s, m, h)

pub refused_place : (text : List ℕ) (all : List Word) (at : ℕ) (last here : Span) → here ≡ place_in last (drop at all) → last ≡ place text (length text) → here ≡ place_in (place text (length text)) (drop at all)
refused_place text all at last here h l = h ∙ ap (λ v. place_in v (drop at all)) l
