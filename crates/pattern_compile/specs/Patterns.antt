-- Which lists of segments are patterns, and which variables programs need and bind (this project's own; shapes: its rule for bit
-- generators).
use Rattle.std.specs.Prelude.{◌≡◌, ℕ, ◌<◌, Bool, true, false, ◌||◌, List, [], ◌∷◌, Option, Some, None, cond, nat_eq}
use Rattle.std.specs.List.{list_any}
use Rattle.erl_syntax.specs.declared.typing.Kind.{Kind}
use Rattle.erl_syntax.specs.declared.typing.Kind.TheVariants as k
use Rattle.erl_syntax.specs.declared.typing.SizeUse.{SizeUse}
use Rattle.erl_syntax.specs.declared.typing.SizeUse.TheVariants as z
use Rattle.term_value.specs.Rows.{uses, and_variable}
use Rattle.term_value.specs.Tree.{Tree, Segments}
use Rattle.pattern_compile.specs.declared.pattern.Want.TheVariants.{Literal, Var}
use Rattle.pattern_compile.specs.declared.pattern.Target.{Target}
use Rattle.pattern_compile.specs.declared.pattern.Target.TheVariants.{Bind, Same, Any}
use Rattle.pattern_compile.specs.declared.pattern.SizeForm.{SizeForm}
use Rattle.pattern_compile.specs.declared.pattern.SizeForm.TheVariants.{Fixed, Given}
use Rattle.pattern_compile.specs.declared.pattern.PatSegment.{PatSegment}
use Rattle.pattern_compile.specs.Meaning.{target_of, segments_of}

-- a size is given exactly where the type says so, and a character has none
abbrev pub HasForm : Kind → SizeUse → Option SizeForm → Type 0
HasForm (k.Utf kind) z.NoSize None = Unit {0}
HasForm (k.Utf kind) size form = ⊥
HasForm kind z.Given (Some form) = Unit {0}
HasForm kind (z.Default n) None = Unit {0}
HasForm k.Int z.Whole None = ⊥
HasForm kind z.Whole None = Unit {0}
HasForm kind size form = ⊥

abbrev pub IsTyped : PatSegment → Type 0
IsTyped p = HasForm p.typed.kind p.typed.size p.size

-- A variable that is bound is a new one, and `used` says whether a size further right uses it; a variable that is compared stands
-- further left.
abbrev pub HasMark : List ℕ → Target → Bool → Segments → Type 0
HasMark earlier (Bind x) used later = (list_any (nat_eq x) earlier ≡ false) × (used ≡ uses x later)
HasMark earlier (Same (Literal n)) used later = Unit {0}
HasMark earlier (Same (Var x)) used later = list_any (nat_eq x) earlier ≡ true
HasMark earlier Any used later = Unit {0}

-- of a generator's pattern, behind these variables
abbrev pub IsMarked : (ℕ → Tree) → List ℕ → List PatSegment → Type 0
IsMarked trees earlier [] = Unit {0}
IsMarked trees earlier (p ∷ ps) = HasMark earlier p.target p.used (segments_of trees ps) × IsMarked trees (and_variable earlier (target_of p.target)) ps

abbrev pub target_in : PatSegment → Target
target_in p = p.target

-- what a segment wants in the pattern's shape
abbrev pub target_used : Bool → Target → Target
target_used used (Bind x) = cond used (Bind x) Any
target_used used (Same want) = Any
target_used used Any = Any

abbrev pub shape_target : PatSegment → Target
shape_target p = target_used p.used p.target

-- the number of a size expression
abbrev pub given : Option SizeForm → Option ℕ
given (Some (Given e)) = Some e
given (Some (Fixed n)) = None
given None = None

abbrev pub size_in : PatSegment → Option ℕ
size_in p = given p.size

-- ---- The variables that a program needs and binds

-- `n` variables have numbers, and `known` tells those that are bound: one that is bound by the target isn't yet, and one that it is
-- compared with is
abbrev pub TargetFits : ℕ → (ℕ → Bool) → Target → Type 0
TargetFits n known (Bind x) = (x < n) × (known x ≡ false)
TargetFits n known (Same (Var x)) = (x < n) × (known x ≡ true)
TargetFits n known (Same (Literal m)) = Unit {0}
TargetFits n known Any = Unit {0}

-- the variable that the target binds has a number below `n`
abbrev pub TargetInRange : ℕ → Target → Type 0
TargetInRange n (Bind x) = x < n
TargetInRange n (Same want) = Unit {0}
TargetInRange n Any = Unit {0}

-- the target binds the variable
abbrev pub binds : Target → ℕ → Bool
binds (Bind x) y = nat_eq x y
binds (Same want) y = false
binds Any y = false

abbrev pub also : (ℕ → Bool) → Target → ℕ → Bool
also known target y = binds target y || known y

abbrev pub TargetsFit : ℕ → (ℕ → Bool) → List Target → Type 0
TargetsFit n known [] = Unit {0}
TargetsFit n known (target ∷ targets) = TargetFits n known target × TargetsFit n (also known target) targets

-- one of the targets binds the variable
abbrev pub one_binds : List Target → ℕ → Bool
one_binds [] y = false
one_binds (target ∷ targets) y = binds target y || one_binds targets y

-- the size expression has a number below `n`
abbrev pub SizeFits : ℕ → Option ℕ → Type 0
SizeFits n (Some e) = e < n
SizeFits n None = Unit {0}
