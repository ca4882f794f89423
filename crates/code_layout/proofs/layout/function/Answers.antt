use Rattle.std.proofs.Common.{◌≡◌, ◌∙◌, ap}
use Rattle.erl_syntax.specs.Checking.{number_at}
use Rattle.term_value.specs.Tree as tree
use Rattle.term_value.specs.ReadTrees as text
use Rattle.term_value.specs.ReadTrees.{reading}
use Rattle.code_tree.specs.Reading.{clauses_of}
use Rattle.code_layout.specs.Layout.{reading_of}
use Rattle.code_layout.proofs.layout.function.Goals as goal

pub returns : goal.returns
unfolding reading_of
returns c =
    ap {B = tree.Function} (λ z. record { name = c.args.read.now.name; arity = c.args.read.now.arity; exported = z; clauses = clauses_of c.in_ok-clauses.clauses }) c.exports.ensures
    ∙ ap {B = tree.Function} (λ z. record { name = c.args.read.now.name; arity = c.args.read.now.arity; exported = text.is_exported c.args.names.now.exports c.args.read.now.name c.args.read.now.arity; clauses = z })
    (c.in_ok-clauses.ensures ∙ ap (λ us. text.function_clauses (reading (number_at us) c.args.names.now) c.items.result.now) c.in_ok-numbers.ensures ∙ ap (text.function_clauses (reading (number_at c.args.uses.now) c.args.names.now)) c.items.ensures)
