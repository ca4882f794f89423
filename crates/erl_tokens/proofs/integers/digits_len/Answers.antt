use Rattle.std.proofs.Common.{◌≡◌, ◌+◌, arith, true, false, get_or, rules}
use Rattle.erl_syntax.specs.Tokens.{goes_on}
use Rattle.erl_tokens.proofs.Numbers.{digits_go_on, digits_stop}
use Rattle.erl_tokens.proofs.integers.digits_len.Goals as goal

pub loop-n-preserved : goal.loop-n-preserved
loop-n-preserved c =
    let e : goes_on c.args.base (get_or c.args.bs.now c.loop-n.n 0) (get_or c.args.bs.now (c.loop-n.n + 1) 0) ≡ true = search rules in
    let f = digits_go_on c.args.base c.loop-n.n c.args.bs.now (omega arith) e in
    (omega arith, omega (arith, f, c.loop-n.invariant.1))

pub returns-else-goes_on-clause-value : goal.returns-else-goes_on-clause-value
returns-else-goes_on-clause-value c =
    let e : goes_on c.args.base (get_or c.args.bs.now c.loop-n.n 0) (get_or c.args.bs.now (c.loop-n.n + 1) 0) ≡ false = search rules in
    let f = digits_stop c.args.base c.loop-n.n c.args.bs.now (omega arith) e in
    omega (arith, f, c.loop-n.invariant.1)
