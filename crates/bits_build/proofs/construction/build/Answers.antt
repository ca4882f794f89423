use Rattle.bits_build.proofs.Front.{has_front, has_rest}
use Rattle.bits_build.proofs.construction.build.Goals as goal

pub build_on-requires-clause-valid : goal.build_on-requires-clause-valid
build_on-requires-clause-valid g c =
    has_front (g.S.Store.has c.args.store.now) c.in-Some.first.now c.in-Some.rest.now c.args.parts.now c.in-Some.ensures.cases.0 c.requires c.in-Some-open_bitstring.of.now c.in-Some-open_bitstring.ensures

pub build_on-requires-clause-rest : goal.build_on-requires-clause-rest
build_on-requires-clause-rest g c =
    has_rest (g.S.Store.has c.args.store.now) c.in-Some.first.now c.in-Some.rest.now c.args.parts.now c.in-Some.ensures.cases.0 c.requires
