use Rattle.std.proofs.Common.{arith, rules, drop, get_or, ap, ◌++◌, ◌∙◌}
use Rattle.clause_read.proofs.Strings.{open_there, more_there, open_ends}
use Rattle.clause_read.proofs.numbering.string_at.Goals as goal

pub loop-alloc-init : goal.loop-alloc-init
loop-alloc-init c = record {
  so_far = λ d. open_there c.args.text.now c.args.tokens.now c.args.from d _ c.in_ok-chars.chars.items c.requires.there c.requires.kind c.in_ok-chars.ensures;
  above = omega arith;
  within = omega arith;
}

pub loop-alloc-preserved : goal.loop-alloc-preserved
loop-alloc-preserved c = record {
  so_far = λ d. more_there c.args.text.now (drop c.args.from c.args.tokens.now) c.args.tokens.now c.loop-alloc.at (get_or c.args.tokens.now c.args.from d) _ c.loop-alloc.chars.items c.in_ok-more.more.items _
      (c.loop-alloc-test.ensures.within (search rules)) (c.loop-alloc-test.ensures.yes (search rules)) c.in_ok-more.ensures
      (c.in_ok-extend_from_slice.ensures.items ∙ ap (λ v. c.loop-alloc.chars.items ++ v) c.as_slice.ensures.value) (c.loop-alloc.invariant.so_far d);
  above = omega (arith, c.loop-alloc.invariant.above);
  within = omega (arith, c.loop-alloc-test.ensures.within (search rules));
}

pub returns-clause-string : goal.returns-clause-string
returns-clause-string c = λ d. open_ends c.args.text.now (drop c.args.from c.args.tokens.now) (drop c.loop-alloc.at c.args.tokens.now) (get_or c.args.tokens.now c.args.from d) c.loop-alloc.chars.items
    (c.loop-alloc-test.ensures.no (search rules)) (c.loop-alloc.invariant.so_far d)
