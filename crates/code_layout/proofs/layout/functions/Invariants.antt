use Rattle.std.proofs.Common.{◌≡◌, ◌++◌, map, drop}
use Rattle.std.specs.List.{zip}
use Rattle.erl_syntax.specs.Checking.{number_at}
use Rattle.term_value.specs.ReadTrees as text
use Rattle.term_value.specs.ReadTrees.{reading}
use Rattle.code_tree.specs.Reading.{function_of}
use Rattle.code_layout.proofs.layout.functions.Given as goal

abbrev pub invariant-loop-read : goal.invariant-loop-read
invariant-loop-read l =
    map (λ f. text.function_of (reading (number_at f.1) l.names) l.names.exports f.0) (zip l.reads l.vars)
    ≡ map function_of l.found.items ++ map (λ f. text.function_of (reading (number_at f.1) l.names) l.names.exports f.0) (zip (drop l.read-index l.reads) l.left)
