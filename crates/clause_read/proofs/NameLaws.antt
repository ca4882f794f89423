-- The laws of forms without effect and of lists of names.
use Rattle.std.proofs.Common.{◌≡◌, List, [], ◌∷◌, ◌++◌, pos, refl, sym, ap, subst, ◌∙◌}
use Rattle.erl_syntax.specs.declared.token.TokenKind.TheVariants as k
use Rattle.erl_syntax.specs.declared.module.Name.{Name}
use Rattle.erl_syntax.specs.Word.{Word}
use Rattle.erl_syntax.specs.Grammar.{Limits, Goal, Mark, The, Of, Skipped, Names, MoreNames, AName, end_skipped, skips, no_names, names, more_names, end_names, name, Spells, takes, this, expands}
use Rattle.pattern_read.specs.declared.fault.Cause.TheVariants.{Syntax}
use Rattle.pattern_read.specs.Reading.{Passes, IsRefused, SameHead, closed, nothing}
use Rattle.pattern_read.specs.Wanted.{NoMark, no_mark_end, no_mark}
use Rattle.clause_read.specs.WantedForms.{skipped_in, names_in, name_in}
use Rattle.pattern_read.proofs.Passing.{Spelled}
use Rattle.pattern_read.proofs.Operands.{mark_word}
use Rattle.clause_read.proofs.FormSteps.{Opens, Meaning, meaning, word_as, word_is, marked, worded}

-- ---- A form without effect

skips_forth : (l : Limits) (gs : List Goal) (j : Word) (w : List Word) → (j.kind ≡ k.FullStop → ⊥) → Spells l (Of Skipped ∷ gs) (j ∷ w) → Spells l (Of Skipped ∷ gs) w
skips_forth l gs j w n (expands _ end_skipped (takes t kk z)) = absurd (n kk)
skips_forth l gs j w n (expands _ (skips t q0) (this z)) = z

pub on_skips : {most : Limits} (j : Word) (rest : List Word) → (j.kind ≡ k.FullStop → ⊥) → Passes most {X = Unit {0}} {Y = Unit {0}} closed skipped_in (j ∷ rest) skipped_in rest (λ u. tt)
on_skips j rest n = record {
  front = j ∷ [];
  whole = refl;
  back = λ l v u gs w d. expands _ (skips j n) (this d);
  forth = λ l u gs w f s d. (tt, refl, skips_forth l gs j w n d);
}

stop_forth : (l : Limits) (gs : List Goal) (j : Word) (w : List Word) → j.kind ≡ k.FullStop → Spells l (Of Skipped ∷ gs) (j ∷ w) → Spells l gs w
stop_forth l gs j w h (expands _ end_skipped (takes t kk z)) = z
stop_forth l gs j w h (expands _ (skips t q0) (this z)) = absurd (q0 h)

pub on_stop : {most : Limits} (j : Word) (rest : List Word) → j.kind ≡ k.FullStop → Passes most {X = Unit {0}} {Y = Unit {0}} closed skipped_in (j ∷ rest) nothing rest (λ u. tt)
on_stop j rest h = record {
  front = j ∷ [];
  whole = refl;
  back = λ l v u gs w d. expands _ end_skipped (takes j h d);
  forth = λ l u gs w f s d. (tt, refl, stop_forth l gs j w h d);
}

skipped_stops : (l : Limits) (gs : List Goal) (w : List Word) → SameHead w [] → Spells l (Of Skipped ∷ gs) w → ⊥
skipped_stops l gs _ s (expands _ end_skipped (takes t kk z)) = s
skipped_stops l gs _ s (expands _ (skips t q0) (this z)) = s

pub skipped_refused : {most : Limits} → IsRefused most {X = Unit {0}} closed skipped_in [] [] Syntax
skipped_refused = record {
  front = [];
  whole = refl;
  tree = tt;
  more = mark_word k.FullStop ∷ [];
  goes_on = λ l v gs w d. expands _ end_skipped (takes (mark_word k.FullStop) refl d);
  stops = λ l i u gs w f s d. skipped_stops l gs w s d;
  excused = tt;
}

pub skipped_spelled : {most : Limits} {Y : Type 0} (b : Y → List Goal) → Opens most b → Opens most {Y = Unit {0} × Y} (λ p. skipped_in p.0 ++ b p.1)
skipped_spelled b o = record { tree = (tt, o.tree); words = mark_word k.FullStop ∷ o.words; spelled = λ l v gs w d. expands _ end_skipped (takes (mark_word k.FullStop) refl (o.spelled l v gs w d)) }

-- ---- Names

-- a name's tokens
abbrev pub name_left : Meaning × (Meaning × Unit {0}) → List Goal
name_left = worded k.Atom (λ m. marked k.Slash (worded k.Integer (λ n. nothing)))

abbrev pub named_by : Meaning × (Meaning × Unit {0}) → Name
named_by p = record { at = p.0.at; name = p.0.number; arity = pos p.1.0.number }

name_words : (l : Limits) (t i : Word) (gs : List Goal) (w : List Word) → t.kind ≡ k.Atom → i.kind ≡ k.Integer → Spells l (The t ∷ Mark k.Slash ∷ The i ∷ gs) w → Spells l (name_left (meaning t, (meaning i, tt)) ++ gs) w
name_words l t i gs w h e d =
    let P : Word → Type 0 = λ v. Spells l (The v ∷ Mark k.Slash ∷ The (word_as k.Integer (meaning i)) ∷ gs) w in
    let Q : Word → Type 0 = λ v. Spells l (The t ∷ Mark k.Slash ∷ The v ∷ gs) w in
    subst P (word_is t k.Atom h) (subst Q (word_is i k.Integer e) d)

name_forth : (l : Limits) (n : Name) (gs : List Goal) (w : List Word) → Spells l (Of (AName n) ∷ gs) w → (p : Meaning × (Meaning × Unit {0})) × (n ≡ named_by p) × Spells l (name_left p ++ gs) w
name_forth l n gs w (expands _ (name n_0 t i q0 q1 q2) z) = ((meaning t, (meaning i, tt)), q2, name_words l t i gs w q0 q1 z)

pub on_name : {most : Limits} (rest : List Word) → Passes most {X = Name} {Y = Meaning × (Meaning × Unit {0})} closed name_in rest name_left rest named_by
on_name rest = record {
  front = [];
  whole = refl;
  back = λ l v p gs w d. expands _ (name (named_by p) (word_as k.Atom p.0) (word_as k.Integer p.1.0) refl refl refl) d;
  forth = λ l n gs w f s d. name_forth l n gs w d;
}

pub opens_nothing : {most : Limits} → Opens most nothing
opens_nothing = record { tree = tt; words = []; spelled = λ l v gs w d. d }

-- names up to the bracket, behind the first one
abbrev pub more_names_in : List Name → List Goal
more_names_in ns = Of (MoreNames ns) ∷ []

abbrev pub name_and_more : Name × List Name → List Goal
name_and_more p = name_in p.0 ++ more_names_in p.1

abbrev pub with_name : Name × List Name → List Name
with_name p = p.0 ∷ p.1

none_forth : (l : Limits) (ns : List Name) (gs : List Goal) (j : Word) (w : List Word) → j.kind ≡ k.RightBracket → Spells l (Of (Names ns) ∷ gs) (j ∷ w) → (ns ≡ []) × Spells l gs w
none_forth l _ gs j w h (expands _ no_names (takes t kk z)) = (refl, z)
none_forth l _ gs j w h (expands _ (names n ns) (expands _ (name n_0 t i q0 q1 q2) (this z))) = let e : k.RightBracket ≡ k.Atom = sym h ∙ q0 in absurd (no_bracket e)
  where
    no_bracket : k.RightBracket ≡ k.Atom → ⊥
    no_bracket e = cc

pub on_no_names : {most : Limits} (j : Word) (rest : List Word) → j.kind ≡ k.RightBracket → Passes most {X = List Name} {Y = Unit {0}} closed names_in (j ∷ rest) nothing rest (λ u. [])
on_no_names j rest h = record {
  front = j ∷ [];
  whole = refl;
  back = λ l v u gs w d. expands _ no_names (takes j h d);
  forth = λ l ns gs w f s d. let m = none_forth l ns gs j w h d in (tt, m.0, m.1);
}

names_forth : (l : Limits) (ns : List Name) (gs : List Goal) (rest w : List Word) → NoMark k.RightBracket rest → SameHead w rest → Spells l (Of (Names ns) ∷ gs) w → (p : Name × List Name) × (ns ≡ with_name p) × Spells l (name_and_more p ++ gs) w
names_forth l _ gs rest w n s (expands _ (names a ns) z) = ((a, ns), refl, z)
names_forth l _ gs _ w no_mark_end s (expands _ no_names (takes t kk z)) = absurd s
names_forth l _ gs _ w (no_mark j rest n) s (expands _ no_names (takes t kk z)) = absurd (n (ap (λ v. v.kind) (sym s) ∙ kk))

pub on_names : {most : Limits} (rest : List Word) → NoMark k.RightBracket rest → Passes most {X = List Name} {Y = Name × List Name} closed names_in rest name_and_more rest with_name
on_names rest n = record {
  front = [];
  whole = refl;
  back = λ l v p gs w d. expands _ (names p.0 p.1) d;
  forth = λ l ns gs w f s d. names_forth l ns gs rest w n s d;
}

no_comma : k.Comma ≡ k.RightBracket → ⊥
no_comma e = cc

next_forth : (l : Limits) (ns : List Name) (gs : List Goal) (j : Word) (w : List Word) → j.kind ≡ k.Comma → Spells l (Of (MoreNames ns) ∷ gs) (j ∷ w) → (p : Name × List Name) × (ns ≡ with_name p) × Spells l (name_and_more p ++ gs) w
next_forth l _ gs j w h (expands _ (more_names a ns) (takes t kk z)) = ((a, ns), refl, z)
next_forth l _ gs j w h (expands _ end_names (takes t kk z)) = absurd (no_comma (sym h ∙ kk))

pub on_next_name : {most : Limits} (j : Word) (rest : List Word) → j.kind ≡ k.Comma → Passes most {X = List Name} {Y = Name × List Name} closed more_names_in (j ∷ rest) name_and_more rest with_name
on_next_name j rest h = record {
  front = j ∷ [];
  whole = refl;
  back = λ l v p gs w d. expands _ (more_names p.0 p.1) (takes j h d);
  forth = λ l ns gs w f s d. next_forth l ns gs j w h d;
}

last_forth : (l : Limits) (ns : List Name) (gs : List Goal) (j : Word) (w : List Word) → j.kind ≡ k.RightBracket → Spells l (Of (MoreNames ns) ∷ gs) (j ∷ w) → (ns ≡ []) × Spells l gs w
last_forth l _ gs j w h (expands _ (more_names a ns) (takes t kk z)) = absurd (no_comma (sym kk ∙ h))
last_forth l _ gs j w h (expands _ end_names (takes t kk z)) = (refl, z)

pub on_last_name : {most : Limits} (j : Word) (rest : List Word) → j.kind ≡ k.RightBracket → Passes most {X = List Name} {Y = Unit {0}} closed more_names_in (j ∷ rest) nothing rest (λ u. [])
on_last_name j rest h = record {
  front = j ∷ [];
  whole = refl;
  back = λ l v u gs w d. expands _ end_names (takes j h d);
  forth = λ l ns gs w f s d. let m = last_forth l ns gs j w h d in (tt, m.0, m.1);
}

more_stops : (l : Limits) (ns : List Name) (gs : List Goal) (rest w : List Word) → NoMark k.Comma rest → NoMark k.RightBracket rest → SameHead w rest → Spells l (Of (MoreNames ns) ∷ gs) w → ⊥
more_stops l _ gs _ w no_mark_end b s (expands _ (more_names a ns) (takes t kk z)) = s
more_stops l _ gs _ w (no_mark j rest n) b s (expands _ (more_names a ns) (takes t kk z)) = n (ap (λ v. v.kind) (sym s) ∙ kk)
more_stops l _ gs _ w c no_mark_end s (expands _ end_names (takes t kk z)) = s
more_stops l _ gs _ w c (no_mark j rest n) s (expands _ end_names (takes t kk z)) = n (ap (λ v. v.kind) (sym s) ∙ kk)

pub no_more_names : {most : Limits} (rest : List Word) → NoMark k.Comma rest → NoMark k.RightBracket rest → IsRefused most {X = List Name} closed more_names_in rest rest Syntax
no_more_names rest a b = record {
  front = [];
  whole = refl;
  tree = [];
  more = mark_word k.RightBracket ∷ [];
  goes_on = λ l v gs w d. expands _ end_names (takes (mark_word k.RightBracket) refl d);
  stops = λ l i ns gs w f s d. more_stops l ns gs rest w a b s d;
  excused = tt;
}

pub more_names_spelled : {most : Limits} → Spelled most {X = Name} {Y = List Name} (λ n. more_names_in) (mark_word k.RightBracket ∷ [])
more_names_spelled = record { tree = λ n. []; spelled = λ l v n gs w d. expands _ end_names (takes (mark_word k.RightBracket) refl d) }

-- names have the spelling `]`
pub names_spelled : {most : Limits} {Y : Type 0} (b : List Name → Y → List Goal) → Opens most (b []) → Opens most {Y = List Name × Y} (λ p. names_in p.0 ++ b p.0 p.1)
names_spelled b o = record { tree = ([], o.tree); words = mark_word k.RightBracket ∷ o.words; spelled = λ l v gs w d. expands _ no_names (takes (mark_word k.RightBracket) refl (o.spelled l v gs w d)) }
