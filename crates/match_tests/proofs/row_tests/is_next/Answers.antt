use Rattle.std.proofs.Common.{rules, ap}
use Rattle.match_tests.proofs.Marks.{still_in_range}
use Rattle.match_tests.proofs.row_tests.is_next.Goals as goal

pub release-requires : goal.release-requires
release-requires c =
    let slots = c.args.slots.now in
    let now = c.next-row.new.env in
    still_in_range slots.values.items now.values.items slots.sizes.items now.sizes.items c.args.rows.now.pattern.ops c.next-row.new.self.pattern.ops c.next-row.ensures.kept (ap (λ p. p.ops) c.next-row.ensures.same.pattern) (search rules)
