use Rattle.std.proofs.Common.{arith}
use Rattle.code_tree.specs.Reading.{clauses_of}
use Rattle.code_match.specs.Binds.{bounds}
use Rattle.plain_moves.specs.Worlds.{world_of}
use Rattle.plain_process.proofs.Looked.{takes_found, limit_found, none_found}
use Rattle.plain_process.proofs.looking.find.Goals as goal

pub returns-in-Chosen-clause-is : goal.returns-in-Chosen-clause-is
returns-in-Chosen-clause-is c =
    takes_found (world_of c.args.scene.now) (bounds c.args.bindings.now) (clauses_of c.args.clauses.now) c.args.seen.now c.loop-index.index _ c.in_ok-choice.choice c.in-Chosen.bound c.in-Chosen.body
    c.loop-index.invariant c.in-Some.ensures c.in_ok-choice.ensures c.in-Chosen.is

pub returns-in-Limit-clause-is : goal.returns-in-Limit-clause-is
returns-in-Limit-clause-is c =
    limit_found (world_of c.args.scene.now) (bounds c.args.bindings.now) (clauses_of c.args.clauses.now) c.args.seen.now c.loop-index.index _ c.in_ok-choice.choice
    c.loop-index.invariant c.in-Some.ensures c.in_ok-choice.ensures c.in-Limit.is

pub returns-clause-is : goal.returns-clause-is
returns-clause-is c =
    none_found (world_of c.args.scene.now) (bounds c.args.bindings.now) (clauses_of c.args.clauses.now) c.args.seen.now c.loop-index.index (omega arith) c.loop-index.invariant
