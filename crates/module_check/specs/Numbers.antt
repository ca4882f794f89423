-- The order of the places in a text.
use Rattle.std.specs.Prelude.{Bool, List, [], ◌∷◌, nat_eq, ◌&&◌, cond}
use Rattle.std.specs.List.{flat_map}
use Rattle.std.specs.declared.cmp.Ordering.{Ordering}
use Rattle.std.specs.Ordering.{ordering_then, nat_cmp}
use Rattle.module_check.specs.declared.places.Position.{Position}
use Rattle.module_check.specs.declared.places.Occurrence.{Occurrence}

-- by line, and then by column
abbrev pub position_cmp : Position → Position → Ordering
position_cmp a b = ordering_then (nat_cmp a.line b.line) (nat_cmp a.column b.column)

-- by where it stands, and then by where it gets its value
abbrev pub occurrence_cmp : Occurrence → Occurrence → Ordering
occurrence_cmp a b = ordering_then (position_cmp a.at b.at) (position_cmp a.bound_at b.bound_at)

abbrev pub same_position : Position → Position → Bool
same_position a b = nat_eq a.line b.line && nat_eq a.column b.column

-- the place of a variable that gets its value there
abbrev pub binder_in : Occurrence → List Position
binder_in o = cond (same_position o.at o.bound_at) (o.at ∷ []) []

abbrev pub binders_in : List Occurrence → List Position
binders_in os = flat_map binder_in os
