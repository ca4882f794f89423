-- The returns of the readers of attributes' forms.
use Rattle.std.proofs.Common.{◌≡◌, ℕ, ◌+◌, Bool, List, [], ◌∷◌, ◌++◌, drop, Result, Ok, Err, refl, sym, ap, subst, ◌∙◌, arith}
use Rattle.erl_syntax.specs.declared.span.Span.{Span}
use Rattle.erl_syntax.specs.declared.module.Head.{Head}
use Rattle.erl_syntax.specs.declared.module.Name.{Name}
use Rattle.erl_syntax.specs.declared.token.TokenKind.{TokenKind}
use Rattle.erl_syntax.specs.declared.token.TokenKind.TheVariants as k
use Rattle.erl_syntax.specs.Grammar.{Goal, takes}
use Rattle.erl_syntax.specs.Word.{Word}
use Rattle.pattern_read.specs.declared.fault.Fault.{Fault}
use Rattle.pattern_read.specs.declared.fault.Fault.TheVariants.{Memory, Refused}
use Rattle.pattern_read.specs.declared.fault.Cause.TheVariants.{Syntax}
use Rattle.clause_read.specs.declared.forms.ModuleForms.{ModuleForms}
use Rattle.clause_read.specs.declared.forms.Attribute.TheVariants as a
use Rattle.pattern_read.specs.declared.cursor.Numbered.{Numbered}
use Rattle.pattern_read.specs.Reading.{Passes, IsRefused, closed, Gives}
use Rattle.pattern_read.specs.Cursor.{StandsAt, number_of}
use Rattle.pattern_read.specs.Wanted.{IsAt, NoMark, no_mark, no_mark_end}
use Rattle.clause_read.specs.WantedForms.{anything, forms_in, skipped_in, names_in, with_head, with_exports, with_skipped, listed, Adds, AttributeAt, TokenOf}
use Rattle.pattern_read.proofs.Passing.{behind_closed, at_token, remade, Spelled}
use Rattle.pattern_read.proofs.Operands.{mark_word}
use Rattle.clause_read.proofs.FormSteps.{Opens, Meaning, meaning, marked, worded, opens_marked, opens_worded, then_mark, then_no_mark, then_word, then_no_word, then_part, then_fault}
use Rattle.clause_read.proofs.FormLaws.{no_more_forms, forms_end, opens_forms, module_left, export_left, exports_left, skipped_left, head_at, on_module, on_export, on_skipped}
use Rattle.clause_read.proofs.NameLaws.{names_spelled}
use Rattle.pattern_read.specs.Cursor.{Readable}
use Rattle.erl_syntax.specs.Grammar.{Limits}

-- the same at a place that is written otherwise
pub passes_at : {X Y : Type 0} {longer : TokenKind → Bool} {w : X → List Goal} {b : Y → List Goal} {f : Y → X} (ws : Readable) (at i j : ℕ) → i ≡ j → Passes ws.limits longer w (drop at ws.words) b (drop i ws.words) f → Passes ws.limits longer w (drop at ws.words) b (drop j ws.words) f
passes_at {longer = longer} {w = w} {b = b} {f = f} ws at i j e p = let P : ℕ → Type 0 = λ n. Passes ws.limits longer w (drop at ws.words) b (drop n ws.words) f in subst P e p

first_same : (ws : List Word) (j w : Word) (u v : List Word) → ws ≡ j ∷ u → ws ≡ w ∷ v → j ≡ w
first_same ws j w u v e f = let g : j ∷ u ≡ w ∷ v = sym e ∙ f in cc

-- ---- `-module(name).`

abbrev module_end : Meaning → ModuleForms → List Goal
module_end m = marked k.RightParen (marked k.FullStop forms_in)

opens_end : {most : Limits} (m : Meaning) → Opens most (module_end m)
opens_end m = opens_marked k.RightParen (marked k.FullStop forms_in) (opens_marked k.FullStop forms_in opens_forms)

opens_name : {most : Limits} → Opens most (worded k.Atom module_end)
opens_name = opens_worded k.Atom module_end (record { opens = opens_end })

pub module_0 : (ws : Readable) (at : ℕ) (s : AttributeAt ws at a.Module) → Passes ws.limits anything forms_in (drop at ws.words) module_left (drop (at + 2) ws.words) (λ p. with_head (head_at s.minus p.0) p.1)
module_0 ws at s = at_token s.is (on_module s.minus s.name (drop (at + 2) ws.words) s.kind s.atom s.means)

pub module_no_open : (ws : Readable) (at : ℕ) → AttributeAt ws at a.Module → NoMark k.LeftParen (drop (at + 2) ws.words) → IsRefused ws.limits anything forms_in (drop at ws.words) (drop (at + 2) ws.words) Syntax
module_no_open ws at s n = then_no_mark (worded k.Atom module_end) ws at (at + 2) k.LeftParen (module_0 ws at s) opens_name n

pub module_1 : (ws : Readable) (at : ℕ) (s : AttributeAt ws at a.Module) → IsAt ws (at + 2) k.LeftParen → Passes ws.limits anything forms_in (drop at ws.words) (worded k.Atom module_end) (drop (at + 3) ws.words) (λ p. with_head (head_at s.minus p.0) p.1)
module_1 ws at s p = passes_at ws at (at + 2 + 1) (at + 3) (omega arith) (then_mark (worded k.Atom module_end) ws at (at + 2) k.LeftParen (module_0 ws at s) p)

pub module_no_name : (ws : Readable) (at : ℕ) → AttributeAt ws at a.Module → IsAt ws (at + 2) k.LeftParen → NoMark k.Atom (drop (at + 3) ws.words) → IsRefused ws.limits anything forms_in (drop at ws.words) (drop (at + 3) ws.words) Syntax
module_no_name ws at s p n = then_no_word module_end ws at (at + 3) k.Atom (module_1 ws at s p) (record { opens = opens_end }) n

pub module_2 : (ws : Readable) (at : ℕ) (s : AttributeAt ws at a.Module) → IsAt ws (at + 2) k.LeftParen → (n : IsAt ws (at + 3) k.Atom) →
    Passes ws.limits anything forms_in (drop at ws.words) (module_end (meaning n.word)) (drop (at + 4) ws.words) (λ r. with_head (head_at s.minus (meaning n.word)) r)
module_2 ws at s p n = passes_at ws at (at + 3 + 1) (at + 4) (omega arith) (then_word module_end ws at (at + 3) k.Atom (module_1 ws at s p) n)

pub module_no_close : (ws : Readable) (at : ℕ) → AttributeAt ws at a.Module → IsAt ws (at + 2) k.LeftParen → IsAt ws (at + 3) k.Atom → NoMark k.RightParen (drop (at + 4) ws.words) → IsRefused ws.limits anything forms_in (drop at ws.words) (drop (at + 4) ws.words) Syntax
module_no_close ws at s p n q = then_no_mark (marked k.FullStop forms_in) ws at (at + 4) k.RightParen (module_2 ws at s p n) (opens_marked k.FullStop forms_in opens_forms) q

pub module_3 : (ws : Readable) (at : ℕ) (s : AttributeAt ws at a.Module) → IsAt ws (at + 2) k.LeftParen → (n : IsAt ws (at + 3) k.Atom) → IsAt ws (at + 4) k.RightParen →
    Passes ws.limits anything forms_in (drop at ws.words) (marked k.FullStop forms_in) (drop (at + 5) ws.words) (λ r. with_head (head_at s.minus (meaning n.word)) r)
module_3 ws at s p n q = passes_at ws at (at + 4 + 1) (at + 5) (omega arith) (then_mark (marked k.FullStop forms_in) ws at (at + 4) k.RightParen (module_2 ws at s p n) q)

pub module_no_stop : (ws : Readable) (at : ℕ) → AttributeAt ws at a.Module → IsAt ws (at + 2) k.LeftParen → IsAt ws (at + 3) k.Atom → IsAt ws (at + 4) k.RightParen → NoMark k.FullStop (drop (at + 5) ws.words) →
    IsRefused ws.limits anything forms_in (drop at ws.words) (drop (at + 5) ws.words) Syntax
module_no_stop ws at s p n q m = then_no_mark forms_in ws at (at + 5) k.FullStop (module_3 ws at s p n q) opens_forms m

pub module_whole : (ws : Readable) (at : ℕ) (minus name : Numbered) (h : Head) → (s : AttributeAt ws at a.Module) → StandsAt ws at minus → IsAt ws (at + 2) k.LeftParen → (n : StandsAt ws (at + 3) name) → name.token.kind ≡ k.Atom →
    IsAt ws (at + 4) k.RightParen → IsAt ws (at + 5) k.FullStop → h ≡ record { at = minus.token.span; name = name.number } → Adds with_head ws at (Ok (h, at + 6))
module_whole ws at minus name h s m p n g q t e =
    let i : IsAt ws (at + 3) k.Atom = record { word = n.word; is = n.is; kind_is = n.kind ∙ g } in
    let place : s.minus.at ≡ minus.token.span = ap (λ w. w.at) (first_same (drop at ws.words) s.minus m.word _ _ s.is m.is) ∙ m.place in
    let number : n.word.number ≡ name.number = n.number ∙ ap (number_of name) g in
    let f : Span → ℕ → Head = λ v w. record { at = v; name = w } in
    let made : head_at s.minus (meaning n.word) ≡ h = ap (λ v. f v n.word.number) place ∙ ap (λ w. f minus.token.span w) number ∙ sym e in
    passes_at ws at (at + 5 + 1) (at + 6) (omega arith) (remade (λ r. ap (λ v. with_head v r) made) (then_mark forms_in ws at (at + 5) k.FullStop (module_3 ws at s p i q) t))

-- ---- `-export([names]).`

abbrev exported : List Name × ModuleForms → List Goal
exported p = names_in p.0 ++ exports_left p.0 p.1

opens_exported : {most : Limits} → Opens most exported
opens_exported = names_spelled exports_left (opens_marked k.RightParen (marked k.FullStop forms_in) (opens_marked k.FullStop forms_in opens_forms))

pub export_0 : (ws : Readable) (at : ℕ) → AttributeAt ws at a.Export → Passes ws.limits anything forms_in (drop at ws.words) export_left (drop (at + 2) ws.words) (λ p. with_exports p.0 p.1)
export_0 ws at s = at_token s.is (on_export s.minus s.name (drop (at + 2) ws.words) s.kind s.atom s.means)

pub export_no_open : (ws : Readable) (at : ℕ) → AttributeAt ws at a.Export → NoMark k.LeftParen (drop (at + 2) ws.words) → IsRefused ws.limits anything forms_in (drop at ws.words) (drop (at + 2) ws.words) Syntax
export_no_open ws at s n = then_no_mark (marked k.LeftBracket exported) ws at (at + 2) k.LeftParen (export_0 ws at s) (opens_marked k.LeftBracket exported opens_exported) n

pub export_1 : (ws : Readable) (at : ℕ) → AttributeAt ws at a.Export → IsAt ws (at + 2) k.LeftParen → Passes ws.limits anything forms_in (drop at ws.words) (marked k.LeftBracket exported) (drop (at + 3) ws.words) (λ p. with_exports p.0 p.1)
export_1 ws at s p = passes_at ws at (at + 2 + 1) (at + 3) (omega arith) (then_mark (marked k.LeftBracket exported) ws at (at + 2) k.LeftParen (export_0 ws at s) p)

pub export_no_list : (ws : Readable) (at : ℕ) → AttributeAt ws at a.Export → IsAt ws (at + 2) k.LeftParen → NoMark k.LeftBracket (drop (at + 3) ws.words) → IsRefused ws.limits anything forms_in (drop at ws.words) (drop (at + 3) ws.words) Syntax
export_no_list ws at s p n = then_no_mark exported ws at (at + 3) k.LeftBracket (export_1 ws at s p) opens_exported n

pub export_2 : (ws : Readable) (at : ℕ) → AttributeAt ws at a.Export → IsAt ws (at + 2) k.LeftParen → IsAt ws (at + 3) k.LeftBracket → Passes ws.limits anything forms_in (drop at ws.words) exported (drop (at + 4) ws.words) (λ p. with_exports p.0 p.1)
export_2 ws at s p b = passes_at ws at (at + 3 + 1) (at + 4) (omega arith) (then_mark exported ws at (at + 3) k.LeftBracket (export_1 ws at s p) b)

exports_spelled : {most : Limits} → Spelled most {X = List Name} {Y = ModuleForms} exports_left (mark_word k.RightParen ∷ mark_word k.FullStop ∷ [])
exports_spelled = record { tree = λ ns. no_more_forms; spelled = λ l v ns gs w d. takes (mark_word k.RightParen) refl (takes (mark_word k.FullStop) refl (forms_end l gs w d)) }

adds_fault : {X : Type 0} (add : X → ModuleForms → ModuleForms) (ws : Readable) (at : ℕ) (fault : Fault) → Gives anything forms_in ws at (Err fault) → Adds add ws at (Err fault)
adds_fault add ws at Memory g = tt
adds_fault add ws at (Refused n why) g = g

pub exports_fault : (ws : Readable) (at : ℕ) (r : Result (List Name × ℕ) Fault) (fault : Fault) → AttributeAt ws at a.Export → IsAt ws (at + 2) k.LeftParen → IsAt ws (at + 3) k.LeftBracket → r ≡ Err fault → Gives closed names_in ws (at + 4) r → Adds with_exports ws at r
exports_fault ws at r fault s p b e g =
    let P : Result (List Name × ℕ) Fault → Type 0 = λ v. Gives closed names_in ws (at + 4) v in
    let Q : Result (List Name × ℕ) Fault → Type 0 = λ v. Adds with_exports ws at v in
    subst Q (sym e) (adds_fault with_exports ws at fault (then_fault names_in exports_left ws at (at + 4) fault (behind_closed anything exports_left) exports_spelled (export_2 ws at s p b) (subst P e g)))

pub export_3 : (ws : Readable) (at next : ℕ) (ns : List Name) → AttributeAt ws at a.Export → IsAt ws (at + 2) k.LeftParen → IsAt ws (at + 3) k.LeftBracket → Gives closed names_in ws (at + 4) (Ok (ns, next)) →
    Passes ws.limits anything forms_in (drop at ws.words) (exports_left ns) (drop next ws.words) (λ r. with_exports ns r)
export_3 ws at next ns s p b g = then_part names_in exports_left ws at (at + 4) next ns (behind_closed anything exports_left) (export_2 ws at s p b) g

pub export_no_close : (ws : Readable) (at next : ℕ) (ns : List Name) → AttributeAt ws at a.Export → IsAt ws (at + 2) k.LeftParen → IsAt ws (at + 3) k.LeftBracket → Gives closed names_in ws (at + 4) (Ok (ns, next)) →
    NoMark k.RightParen (drop next ws.words) → IsRefused ws.limits anything forms_in (drop at ws.words) (drop next ws.words) Syntax
export_no_close ws at next ns s p b g n = then_no_mark (marked k.FullStop forms_in) ws at next k.RightParen (export_3 ws at next ns s p b g) (opens_marked k.FullStop forms_in opens_forms) n

pub export_no_stop : (ws : Readable) (at next : ℕ) (ns : List Name) → AttributeAt ws at a.Export → IsAt ws (at + 2) k.LeftParen → IsAt ws (at + 3) k.LeftBracket → Gives closed names_in ws (at + 4) (Ok (ns, next)) →
    IsAt ws next k.RightParen → NoMark k.FullStop (drop (next + 1) ws.words) → IsRefused ws.limits anything forms_in (drop at ws.words) (drop (next + 1) ws.words) Syntax
export_no_stop ws at next ns s p b g q n = then_no_mark forms_in ws at (next + 1) k.FullStop (then_mark (marked k.FullStop forms_in) ws at next k.RightParen (export_3 ws at next ns s p b g) q) opens_forms n

pub export_whole : (ws : Readable) (at next : ℕ) (ns : List Name) → AttributeAt ws at a.Export → IsAt ws (at + 2) k.LeftParen → IsAt ws (at + 3) k.LeftBracket → Gives closed names_in ws (at + 4) (Ok (ns, next)) →
    IsAt ws next k.RightParen → IsAt ws (next + 1) k.FullStop → Adds with_exports ws at (Ok (ns, next + 2))
export_whole ws at next ns s p b g q t = passes_at ws at (next + 1 + 1) (next + 2) (omega arith) (then_mark forms_in ws at (next + 1) k.FullStop (then_mark (marked k.FullStop forms_in) ws at next k.RightParen (export_3 ws at next ns s p b g) q) t)

-- a token that is wanted in a form
pub form_token : {X : Type 0} (add : X → ModuleForms → ModuleForms) (ws : Readable) (at next : ℕ) (kind : TokenKind) (fault : Fault) →
    (NoMark kind (drop next ws.words) → IsRefused ws.limits anything forms_in (drop at ws.words) (drop next ws.words) Syntax) → TokenOf ws next kind (Err fault) → Adds add ws at (Err fault)
form_token add ws at next kind Memory f t = tt
form_token add ws at next kind (Refused n why) f t =
    let P : ℕ → Type 0 = λ i. IsRefused ws.limits anything forms_in (drop at ws.words) (drop i ws.words) why in
    let Q : _ → Type 0 = λ v. IsRefused ws.limits anything forms_in (drop at ws.words) (drop next ws.words) v in
    subst P (sym t.0) (subst Q (sym t.1) (f t.2))

-- the same where the answer is a vector
pub listed_token : (ws : Readable) (at next : ℕ) (kind : TokenKind) (fault : Fault) →
    (NoMark kind (drop next ws.words) → IsRefused ws.limits anything forms_in (drop at ws.words) (drop next ws.words) Syntax) → TokenOf ws next kind (Err fault) → Adds with_exports ws at (listed (Err fault))
listed_token ws at next kind fault f t = form_token with_exports ws at next kind fault f t

-- a form begins with its `-`
pub minus_stands : {attribute : _} (ws : Readable) (at : ℕ) → AttributeAt ws at attribute → NoMark k.Minus (drop at ws.words) → IsRefused ws.limits anything forms_in (drop at ws.words) (drop at ws.words) Syntax
minus_stands ws at s n = absurd (stands (drop at ws.words) s.minus _ s.kind s.is n)
  where
    stands : (w : List Word) (j : Word) (rest : List Word) → j.kind ≡ k.Minus → w ≡ j ∷ rest → NoMark k.Minus w → ⊥
    stands _ j rest h e no_mark_end = cc
    stands _ j rest h e (no_mark i more n) = n (ap (λ v. v.kind) (first_same (i ∷ more) i j more rest refl e) ∙ h)

-- ---- Forms without effect

skipped_0 : (ws : Readable) (at : ℕ) → AttributeAt ws at a.Skipped → Passes ws.limits anything forms_in (drop at ws.words) skipped_left (drop (at + 2) ws.words) (λ p. with_skipped p.0 p.1)
skipped_0 ws at s = at_token s.is (on_skipped s.minus s.name (drop (at + 2) ws.words) s.kind s.atom s.means)

forms_spelled : {most : Limits} → Spelled most {X = Unit {0}} {Y = ModuleForms} (λ u. forms_in) []
forms_spelled = record { tree = λ u. no_more_forms; spelled = λ l v u gs w d. forms_end l gs w d }

pub skipped_form : (ws : Readable) (at : ℕ) (r : Result (Unit {0} × ℕ) Fault) → AttributeAt ws at a.Skipped → Gives closed skipped_in ws (at + 2) r → Adds with_skipped ws at r
skipped_form ws at (Ok r) s g = then_part skipped_in (λ u. forms_in) ws at (at + 2) r.1 r.0 (behind_closed anything (λ u. forms_in)) (skipped_0 ws at s) g
skipped_form ws at (Err fault) s g = adds_fault with_skipped ws at fault (then_fault skipped_in (λ u. forms_in) ws at (at + 2) fault (behind_closed anything (λ u. forms_in)) forms_spelled (skipped_0 ws at s) g)
