use Rattle.comprehension.proofs.Fronts.{next_is}
use Rattle.comprehension.proofs.rows.Rows.next.Goals as goal

pub returns-clause-is : goal.returns-clause-is
returns-clause-is g c = λ bs a.
    next_is (g.S.Store.shown c.args.store.now) (g.E.Env.held c.front-row.new.env) (g.E.Env.fixed c.args.env.now) bs c.bit_cursor.ensures c.args.self.now c.front-row.new.self c.if-self.false
    c.front-row.result c.is_last-self.result c.is_last-self.ensures c.front-row.ensures.moved (c.front-row.ensures.is bs a)
