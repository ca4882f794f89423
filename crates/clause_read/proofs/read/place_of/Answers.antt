use Rattle.std.proofs.Common.{arith}
use Rattle.clause_read.proofs.Places.{place_there, place_behind, place_past}
use Rattle.clause_read.proofs.read.place_of.Goals as goal

pub returns-then-len-at : goal.returns-then-len-at
returns-then-len-at c = place_past c.args.cursor.now c.args.at c.args.last (omega arith)

pub returns-in-Some : goal.returns-in-Some
returns-in-Some c = place_there c.args.cursor.now c.args.at c.in-Some.numbered c.args.last c.in-Some.ensures.token

pub returns-in-None : goal.returns-in-None
returns-in-None c = place_behind c.args.cursor.now c.args.at c.args.last c.in-None.ensures.token
