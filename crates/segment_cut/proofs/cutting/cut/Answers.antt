use Rattle.std.proofs.Common.{◌≡◌, drop, sym, subst}
use Rattle.std.specs.Result.{IfOk}
use Rattle.term_value.specs.Extent as e
use Rattle.term_value.specs.Decode as d
use Rattle.bits_build.specs.Extents.{IsExtent}
use Rattle.segment_cut.specs.Cuts.{IsCut}
use Rattle.segment_cut.proofs.cutting.cut.Goals as goal

pub returns-in-InUnits : goal.returns-in-InUnits
returns-in-InUnits g c wanted is =
    let same : wanted ≡ e.InUnits c.in-InUnits.unit = subst (IsExtent wanted) c.in-InUnits.is is in
    subst (λ extent. IfOk c.in_units.result (λ found. IsCut (g.S.Store.shown c.args.store.now) (g.S.Store.has c.args.store.now) (g.S.Store.shown c.args.store.now c.args.of.now)
    (d.cut c.args.typed extent (drop c.args.at (g.S.Store.shown c.args.store.now c.args.of.now))) found)) (sym same) (c.in_units.ensures c.args.typed)
