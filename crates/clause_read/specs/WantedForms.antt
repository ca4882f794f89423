-- What the readers of forms want, and the tokens with which it could go on.
use Rattle.std.specs.Prelude.{◌≡◌, ℕ, ◌+◌, Bool, true, List, [], ◌∷◌, ◌++◌, drop, Result, Ok, Err}
use Rattle.std.specs.List.{Contains}
use Rattle.std.specs.declared.vec.Vec.{Vec}
use Rattle.std.specs.declared.alloc.Global.{Global}
use Rattle.erl_syntax.specs.Grammar.{Goal, Of, Forms, Skipped, Names, AName, AClause}
use Rattle.erl_syntax.specs.Names.{module_word, export_word, skipped_words}
use Rattle.erl_syntax.specs.Word.{Word}
use Rattle.erl_syntax.specs.declared.token.TokenKind.{TokenKind}
use Rattle.erl_syntax.specs.declared.token.TokenKind.TheVariants as k
use Rattle.erl_syntax.specs.declared.module.Head.{Head}
use Rattle.erl_syntax.specs.declared.module.Name.{Name}
use Rattle.erl_syntax.specs.declared.module.Function.{Function}
use Rattle.erl_syntax.specs.declared.module.Clause.{Clause}
use Rattle.pattern_read.specs.declared.fault.Fault.{Fault}
use Rattle.pattern_read.specs.declared.fault.Fault.TheVariants.{Memory, Refused}
use Rattle.clause_read.specs.declared.forms.Attribute.{Attribute}
use Rattle.clause_read.specs.declared.forms.Attribute.TheVariants as a
use Rattle.clause_read.specs.declared.forms.ModuleForms.{ModuleForms}
use Rattle.clause_read.specs.declared.forms.Form.{Form}
use Rattle.clause_read.specs.declared.forms.Form.TheVariants as f
use Rattle.clause_read.specs.declared.forms.Collected.{Collected}
use Rattle.pattern_read.specs.declared.fault.Cause.TheVariants.{Syntax}
use Rattle.pattern_read.specs.declared.cursor.Numbered.{Numbered}
use Rattle.pattern_read.specs.Reading.{Passes, IsRefused, nothing}
use Rattle.pattern_read.specs.Cursor.{Readable, StandsAt}
use Rattle.pattern_read.specs.Wanted.{NoMark}

-- what ends only with the text could go on with any token
abbrev pub anything : TokenKind → Bool
anything kind = true

abbrev pub forms_in : ModuleForms → List Goal
forms_in r = Of (Forms r.heads r.exports r.functions) ∷ []

-- the rest of a form without effect
abbrev pub skipped_in : Unit {0} → List Goal
skipped_in u = Of Skipped ∷ []

-- names up to the closing bracket
abbrev pub names_in : List Name → List Goal
names_in ns = Of (Names ns) ∷ []

abbrev pub name_in : Name → List Goal
name_in n = Of (AName n) ∷ []

abbrev pub clause_in : Clause → List Goal
clause_in cl = Of (AClause cl) ∷ []

-- one more form of each kind, before others
abbrev pub with_head : Head → ModuleForms → ModuleForms
with_head h r = record { heads = h ∷ r.heads; exports = r.exports; functions = r.functions }

abbrev pub with_exports : List Name → ModuleForms → ModuleForms
with_exports ns r = record { heads = r.heads; exports = ns ++ r.exports; functions = r.functions }

abbrev pub with_skipped : Unit {0} → ModuleForms → ModuleForms
with_skipped u r = r

abbrev pub with_function : Function → ModuleForms → ModuleForms
with_function f r = record { heads = r.heads; exports = r.exports; functions = f ∷ r.functions }

-- What a reader of one form answers at its place: what the form adds and the place behind it, or the place of the refused token.
abbrev pub Adds : {X : Type 0} → (X → ModuleForms → ModuleForms) → Readable → ℕ → Result (X × ℕ) Fault → Type 0
Adds add ws at (Ok r) = Passes ws.limits anything forms_in (drop at ws.words) forms_in (drop r.1 ws.words) (add r.0)
Adds add ws at (Err Memory) = Unit {0}
Adds add ws at (Err (Refused n why)) = IsRefused ws.limits anything forms_in (drop at ws.words) (drop n ws.words) why

-- the characters are those of such an attribute
abbrev pub Means : Attribute → List ℕ → Type 0
Means a.Module chars = chars ≡ module_word
Means a.Export chars = chars ≡ export_word
Means a.Skipped chars = Contains skipped_words chars

-- a form of such an attribute begins there
pub record AttributeAt (ws : Readable) (at : ℕ) (attribute : Attribute) : Type 0 where
  pub minus : Word
  pub name : Word
  pub is : drop at ws.words ≡ minus ∷ name ∷ drop (at + 2) ws.words
  pub kind : minus.kind ≡ k.Minus
  pub atom : name.kind ≡ k.Atom
  pub means : Means attribute name.chars

-- what a reader says of the attribute with which a form begins
abbrev pub BeginsForm : Readable → ℕ → Result Attribute Fault → Type 0
BeginsForm ws at (Ok attribute) = AttributeAt ws at attribute
BeginsForm ws at (Err Memory) = Unit {0}
BeginsForm ws at (Err (Refused n why)) = IsRefused ws.limits anything forms_in (drop at ws.words) (drop n ws.words) why

-- What a reader of one token of a kind says: it stands there, or none does.
abbrev pub TokenOf : Readable → ℕ → TokenKind → Result Numbered Fault → Type 0
TokenOf ws at kind (Ok n) = StandsAt ws at n × (n.token.kind ≡ kind)
TokenOf ws at kind (Err Memory) = ⊥
TokenOf ws at kind (Err (Refused n why)) = (n ≡ at) × (why ≡ Syntax) × NoMark kind (drop at ws.words)

-- an answer with the items of a vector
abbrev pub listed : {X : Type 0} → Result (Vec X Global × ℕ) Fault → Result (List X × ℕ) Fault
listed (Ok r) = Ok (r.0.items, r.1)
listed (Err e) = Err e

-- a form that was read, before others
abbrev pub with_form : Form → ModuleForms → ModuleForms
with_form (f.Head h) r = with_head h r
with_form (f.Exports names) r = with_exports names.items r
with_form f.Skipped r = r
with_form (f.Function fn) r = with_function fn r

-- the forms that were collected, before others
abbrev pub collected_before : Collected → ModuleForms → ModuleForms
collected_before all r = record { heads = all.heads.items ++ r.heads; exports = all.exports.items ++ r.exports; functions = all.functions.items ++ r.functions }

-- What a reader of all forms answers: what they hold, or the place of the first token with which no forms go on.
abbrev pub ReadsForms : Readable → Result ModuleForms Fault → Type 0
ReadsForms ws (Ok r) = Passes ws.limits anything forms_in ws.words nothing [] (λ u. r)
ReadsForms ws (Err Memory) = Unit {0}
ReadsForms ws (Err (Refused n why)) = IsRefused ws.limits anything forms_in ws.words (drop n ws.words) why
