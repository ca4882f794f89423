-- Where the variables of a function stand, by the part to which they belong.
use Rattle.std.specs.Prelude.{◌≡◌, ℕ, List, Option, Some, None, ◌⊎◌}
use Rattle.std.specs.List.{Contains}
use Rattle.erl_syntax.specs.Bindings.{Bound}
use Rattle.erl_syntax.specs.Scopes.{Scope, Part, AnExpr, APattern, ABody, ASegment, Found, IsKnown}
use Rattle.erl_syntax.specs.Checking.{Place}
use Rattle.erl_syntax.specs.declared.span.Span.{Span}
use Rattle.erl_syntax.specs.declared.expr.Expr.{Expr, out-Expr}
use Rattle.erl_syntax.specs.declared.expr.Expr.TheOpen as O
use Rattle.erl_syntax.specs.declared.pattern.Pattern.{Pattern, out-Pattern}
use Rattle.erl_syntax.specs.declared.segment.Segment.{Segment}
use Rattle.erl_syntax.specs.declared.qual.Qual.{Qual}
use Rattle.erl_syntax.specs.declared.clause.Item.{Item}
use Rattle.erl_syntax.specs.declared.clause.Guard.{Guard}
use Rattle.erl_syntax.specs.declared.clause.Alt.{Alt}
use Rattle.erl_syntax.specs.declared.clause.Branch.{Branch}
use Rattle.erl_syntax.specs.declared.module.Function.{Function}
use Rattle.erl_syntax.specs.declared.typing.SideUse.{SideUse}
use Rattle.erl_syntax.specs.declared.typing.SideUse.TheVariants as side
use Rattle.module_check.specs.declared.places.Position.{Position}
use Rattle.module_check.specs.declared.places.Occurrence.{Occurrence}
use Rattle.module_check.specs.Spots.{Spot, IsUnder}

abbrev pub span_of : Position → Span
span_of p = record { line = p.line; column = p.column }

abbrev pub position_of : Span → Position
position_of at = record { line = at.line; column = at.column }

abbrev pub seen : Occurrence → Place
seen o = record { at = span_of o.at; bound_at = span_of o.bound_at }

abbrev pub kept : Place → Occurrence
kept a = record { at = position_of a.at; bound_at = position_of a.bound_at }

-- a variable that is read
abbrev pub Reads : List Bound → Span → List ℕ → Place → Type 0
Reads known at name a = (a.at ≡ at) × Found known name a.bound_at

-- one that a pattern compares or binds
abbrev pub Meets : List Bound → Span → List ℕ → Place → Type 0
Meets known at name a = (a.at ≡ at) × (Found known name a.bound_at ⊎ ((IsKnown known name → ⊥) × (a.bound_at ≡ at)))

abbrev pub ExprPlace : Scope → O.Expr-F Expr Pattern Qual Alt Branch Guard Item Segment → Place → Type 0
ExprPlace s (O.Expr::Var at name) a = Reads s.known at name a
ExprPlace s _ a = ⊥

abbrev pub PatternPlace : Scope → O.Pattern-F Expr Pattern Qual Alt Branch Guard Item Segment → Place → Type 0
PatternPlace s (O.Pattern::Var at name) a = Meets s.known at name a
PatternPlace s _ a = ⊥

-- of a variable that is the value of a pattern's segment
abbrev pub ValuePlace : Scope → O.Expr-F Expr Pattern Qual Alt Branch Guard Item Segment → Place → Type 0
ValuePlace s (O.Expr::Var at name) a = Meets s.known at name a
ValuePlace s _ a = ⊥

abbrev pub SegmentPlace : Scope → SideUse → Segment → Place → Type 0
SegmentPlace s side.Build sg a = ⊥
SegmentPlace s side.Match sg a = ValuePlace s (out-Expr sg.value) a
SegmentPlace s side.Generator sg a = ValuePlace s (out-Expr sg.value) a

-- the variable that a part is by itself
abbrev pub OwnPlace : Scope → Part → Place → Type 0
OwnPlace s (AnExpr e) a = ExprPlace s (out-Expr e) a
OwnPlace s (APattern pt) a = PatternPlace s (out-Pattern pt) a
OwnPlace s (ABody is) a = ⊥
OwnPlace s (ASegment on last sg) a = SegmentPlace s on sg a

abbrev pub InnerPlace : Function → Place → Type 0
InnerPlace f a = (d : Spot) × (IsUnder f d × OwnPlace d.scope d.part a)

-- it holds of this place alone, or of none
abbrev pub IsOnly : (Place → Type 0) → Option Occurrence → Type 0
IsOnly Holds None = (a : Place) → Holds a → ⊥
IsOnly Holds (Some o) = Holds (seen o) × ((a : Place) → Holds a → a ≡ seen o)

-- those of which it holds, in any order
pub record AreAll (Holds : Place → Type 0) (found : List Occurrence) : Type 0 where
  pub hold : (o : Occurrence) → Contains found o → Holds (seen o)
  pub whole : (a : Place) → Holds a → Contains found (kept a)

-- no two variables stand at one place: where two stand is the same only where they are one
abbrev pub Apart : List Occurrence → Type 0
Apart os = (a b : Occurrence) → Contains os a → Contains os b → a.at ≡ b.at → a.bound_at ≡ b.bound_at
