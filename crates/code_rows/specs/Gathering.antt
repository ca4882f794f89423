-- What a comprehension has collected (Erlang Reference Manual, "Comprehensions").
use Rattle.std.specs.Prelude.{◌≡◌, Bool, List, map, Option, Some, None}
use Rattle.erl_syntax.specs.Atoms.{a_badarg}
use Rattle.term_value.specs.Value.{Value, VBits}
use Rattle.term_value.specs.Result.{Result, Gives, Stops, Limit as AtLimit, raise}
use Rattle.term_value.specs.Step.{Step, Goes as Proceeds, Falls}
use Rattle.term_value.specs.Tree as t
use Rattle.code_tree.specs.PlainTerms.{value}
use Rattle.code_rows.specs.declared.gathered.Gathered.{Gathered}
use Rattle.code_rows.specs.declared.gathered.Gathered.TheVariants.{Items, Bits}
use Rattle.code_rows.specs.declared.gathered.Collecting.{Collecting}
use Rattle.code_rows.specs.declared.gathered.Collecting.TheVariants.{Goes, Limit, BadArg}

-- what has been collected
abbrev pub got_of : Gathered → t.Got
got_of (Items seen) = t.Items (map value seen)
got_of (Bits room) = t.Bits room.bits

-- what a value comes to that is collected, where this is collected behind it
abbrev pub step_of : Collecting → t.Got → Step Value t.Got
step_of (Goes made) got = Proceeds 0 made got
step_of Limit got = Falls 0 AtLimit
step_of BadArg got = Falls 0 (raise a_badarg)

-- a refused value changes nothing
abbrev pub StaysIfRefused : Collecting → Gathered → Gathered → Type 0
StaysIfRefused (Goes made) old new = Unit {0}
StaysIfRefused Limit old new = new ≡ old
StaysIfRefused BadArg old new = new ≡ old
