use Rattle.std.proofs.Common.{sym}
use Rattle.erl_syntax.specs.Typing.{is_of}
use Rattle.segment_type.proofs.FirstWords.{find_none, differ}
use Rattle.segment_type.proofs.words.only.Goals as goal

pub returns-in-None-clause-one : goal.returns-in-None-clause-one
returns-in-None-clause-one c = λ a b ha hb pa pb. absurd (find_none (is_of c.args.kind) c.args.specs.now (sym c.in-None.ensures) a ha pa)

pub returns-in-Some-2-clause-differ : goal.returns-in-Some-2-clause-differ
returns-in-Some-2-clause-differ c = differ c.args.kind c.args.specs.now c.in-Some.first (sym c.in-Some.ensures) c.if-all_are.ensures
