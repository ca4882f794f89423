-- What the parts of an expression leave unsafe.
use Rattle.std.specs.Prelude.{ℕ, List, [], ◌++◌, Option, Some, None}
use Rattle.std.specs.List.{flat_map}
use Rattle.erl_syntax.specs.Bindings.{names, targets, targets_of, vars_of}
use Rattle.erl_syntax.specs.declared.expr.Expr.{Expr}
use Rattle.erl_syntax.specs.declared.segment.Segment.{Segment}
use Rattle.erl_syntax.specs.declared.clause.Item.{Item}
use Rattle.erl_syntax.specs.declared.clause.Alt.{Alt, out-Alt}
use Rattle.erl_syntax.specs.declared.clause.Branch.{Branch, out-Branch}

abbrev pub unsafe_of : List Expr → List (List ℕ)
unsafe_of es = flat_map (λ e. (vars_of e).left_unsafe) es

abbrev pub size_part : Option Expr → List (List ℕ)
size_part None = []
size_part (Some e) = (vars_of e).left_unsafe

abbrev pub part_unsafe : Segment → List (List ℕ)
part_unsafe sg = (vars_of sg.value).left_unsafe ++ size_part sg.size

abbrev pub segment_unsafe : List Segment → List (List ℕ)
segment_unsafe sgs = flat_map part_unsafe sgs

abbrev pub item_unsafe : Item → List (List ℕ)
item_unsafe i = names (targets_of i.patterns) ++ (vars_of i.value).left_unsafe

abbrev pub items_unsafe : List Item → List (List ℕ)
items_unsafe is = flat_map item_unsafe is

abbrev pub alt_unsafe : Alt → List (List ℕ)
alt_unsafe y = names (targets (out-Alt y).pattern) ++ items_unsafe (out-Alt y).body

abbrev pub alts_unsafe : List Alt → List (List ℕ)
alts_unsafe alts = flat_map alt_unsafe alts

abbrev pub branch_unsafe : Branch → List (List ℕ)
branch_unsafe y = items_unsafe (out-Branch y).body

abbrev pub branches_unsafe : List Branch → List (List ℕ)
branches_unsafe bs = flat_map branch_unsafe bs

-- the variables of the patterns of an item
abbrev pub item_bound : Item → List (List ℕ)
item_bound i = names (targets_of i.patterns)

-- those of a body, but of none inside its expressions
abbrev pub items_bound : List Item → List (List ℕ)
items_bound is = flat_map item_bound is

abbrev pub alt_bound : Alt → List (List ℕ)
alt_bound y = names (targets (out-Alt y).pattern) ++ items_bound (out-Alt y).body
