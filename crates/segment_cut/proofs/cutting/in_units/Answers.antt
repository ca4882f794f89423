use Rattle.std.proofs.Common.{◌≡◌, ◌-◌, ◌%◌, length, ap, subst, arith, rules}
use Rattle.segment_cut.proofs.Segments.{whole_cut}
use Rattle.segment_cut.proofs.cutting.in_units.Goals as goal

pub returns : goal.returns
returns g c typed =
    whole_cut (g.S.Store.shown c.args.store.now) (g.S.Store.has c.args.store.now) typed c.args.unit c.args.at (c.len.result - c.args.at) (g.S.Store.shown c.args.store.now c.args.of.now)
    (omega (arith, c.len.ensures, ap length c.look.ensures, c.requires.inside)) c.in_ok-part.field-0
    (subst (λ unit. (c.len.result - c.args.at) % unit ≡ 0) c.from.ensures (c.is_multiple_of.ensures.0 (search rules))) c.in_ok-part.ensures
