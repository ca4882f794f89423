-- Which numbers the variables of a function have (Erlang Reference Manual, "Expressions": "Variables").
use Rattle.std.specs.Prelude.{◌≡◌, List}
use Rattle.erl_syntax.specs.Checking.{IsNumbered, IsPlace, Place, binders, number_at, number_of}
use Rattle.erl_syntax.specs.declared.checking.VarUse.{VarUse}
use Rattle.erl_syntax.specs.declared.module.Function.{Function}
use Rattle.erl_syntax.specs.declared.span.Span.{Span}

-- What is looked up at a variable's place is the number of the place at which it gets its value. So variables that get theirs at
-- one place have one number.
abbrev pub NumbersAreOfPlaces : Type 0
NumbersAreOfPlaces = (f : Function) (uses : List VarUse) (numbered : IsNumbered f uses) (a : Place) → IsPlace f a → number_at uses a.at ≡ number_of (binders numbered.places) a

-- Variables that get their values at different places have different numbers.
abbrev pub NumbersDiffer : Type 0
NumbersDiffer = (f : Function) (uses : List VarUse) → IsNumbered f uses → (at other : Span) → IsPlace f (record { at = at; bound_at = at }) → IsPlace f (record { at = other; bound_at = other }) → number_at uses at ≡ number_at uses other → at ≡ other
