use Rattle.std.proofs.Common.{◌≡◌, ◌++◌, ◌∷◌, [], ap, sym, ◌∙◌, arith}
use Rattle.std.proofs.lemmas.List.{nil_from_length}
use Rattle.std.proofs.lemmas.Result.{err_from_is_err_and}
use Rattle.std.proofs.lemmas.List.Elements.{All-same, All-push}
use Rattle.bit_store.specs.Pieces.{pieces_bits, IsInside, HasPiece}
use Rattle.term_value.specs.Encode.{built_on}
use Rattle.bits_build.specs.Parts.{HasPart, parts_filled}
use Rattle.bits_build.proofs.Built.{refused_here, limit_here, size_more, built_more}
use Rattle.bits_build.proofs.Front.{first, has_rest}
use Rattle.bits_build.proofs.construction.pieces_of.Goals as goal

pub segment_of-requires : goal.segment_of-requires
segment_of-requires g c = first (g.S.Store.has c.args.store.now) c.in-Some.part.now c.in-Some.rest.now c.loop-part.left.now c.in-Some.ensures.cases.0 c.loop-part.invariant.left

pub returns-in_err-segment-clause-refused : goal.returns-in_err-segment-clause-refused
returns-in_err-segment-clause-refused g c = let p = err_from_is_err_and c.from_residual.result c.from_residual.ensures.1 in rw (p.1, p.2) (λ front h.
    refused_here (g.S.Store.shown c.args.store.now) c.in-Some.part.now c.in-Some.rest.now c.loop-part.left.now c.in-Some.ensures.cases.0 c.loop-part.pieces.items c.args.before c.loop-part.total c.loop-part.invariant.size
    (built_on (parts_filled (g.S.Store.shown c.args.store.now) c.args.parts.now) front) front c.in_err-segment.field-0.0 (c.loop-part.invariant.rest front h) c.in_err-segment.ensures)

pub returns-then-segment-total-clause-refused : goal.returns-then-segment-total-clause-refused
returns-then-segment-total-clause-refused g c = λ front h.
    limit_here (g.S.Store.shown c.args.store.now) c.in-Some.part.now c.in-Some.rest.now c.loop-part.left.now c.in-Some.ensures.cases.0 c.loop-part.pieces.items c.args.before c.loop-part.total c.loop-part.invariant.size
    c.in_ok-segment.segment.piece c.in_ok-segment.segment.bits c.in_ok-segment.ensures.is c.in_ok-segment.ensures.size
    (built_on (parts_filled (g.S.Store.shown c.args.store.now) c.args.parts.now) front) front h (omega (arith, c.loop-part.invariant.short)) (c.loop-part.invariant.rest front h)

pub loop-part-preserved : goal.loop-part-preserved
loop-part-preserved g c = record {
  left = has_rest (g.S.Store.has c.args.store.now) c.in-Some.part.now c.in-Some.rest.now c.loop-part.left.now c.in-Some.ensures.cases.0 c.loop-part.invariant.left;
  short = omega (arith, c.loop-part.invariant.short);
  size = size_more (g.S.Store.shown c.args.store.now) c.in-Some.part.now c.in-Some.rest.now c.loop-part.left.now c.in-Some.ensures.cases.0 c.loop-part.pieces.items c.args.before c.loop-part.total c.loop-part.invariant.size
      c.in_ok-segment.segment.piece c.in_ok-segment.segment.bits c.in_ok-segment.ensures.is c.in_ok-segment.ensures.size c.push.new.self.items c.in_ok-push.ensures.items;
  inside = All-same (IsInside (g.S.Store.shown c.args.store.now)) c.push.new.self.items (c.loop-part.pieces.items ++ c.in_ok-segment.segment.piece ∷ []) c.in_ok-push.ensures.items
      (All-push (IsInside (g.S.Store.shown c.args.store.now)) c.loop-part.pieces.items c.in_ok-segment.segment.piece c.loop-part.invariant.inside c.in_ok-segment.ensures.inside);
  valid = All-same (HasPiece (g.S.Store.has c.args.store.now)) c.push.new.self.items (c.loop-part.pieces.items ++ c.in_ok-segment.segment.piece ∷ []) c.in_ok-push.ensures.items
      (All-push (HasPiece (g.S.Store.has c.args.store.now)) c.loop-part.pieces.items c.in_ok-segment.segment.piece c.loop-part.invariant.valid c.in_ok-segment.ensures.valid);
  rest = λ front h. built_more (g.S.Store.shown c.args.store.now) c.in-Some.part.now c.in-Some.rest.now c.loop-part.left.now c.in-Some.ensures.cases.0 c.loop-part.pieces.items c.args.before c.loop-part.total c.loop-part.invariant.size
      c.in_ok-segment.segment.piece c.in_ok-segment.segment.bits c.in_ok-segment.ensures.is c.in_ok-segment.ensures.size c.push.new.self.items c.in_ok-push.ensures.items
      (built_on (parts_filled (g.S.Store.shown c.args.store.now) c.args.parts.now) front) front h (omega (arith, c.loop-part.invariant.short)) (c.loop-part.invariant.rest front h);
}

pub returns-clause-made : goal.returns-clause-made
returns-clause-made g c = record {
  short = omega (arith, c.loop-part.invariant.short, c.loop-part.invariant.size);
  are = λ front h. sym (c.loop-part.invariant.rest front h)
      ∙ ap (λ ps. built_on (parts_filled (g.S.Store.shown c.args.store.now) ps) (front ++ pieces_bits (g.S.Store.shown c.args.store.now) c.loop-part.pieces.items)) (nil_from_length c.loop-part.left.now c.in_default.ensures.cases);
  inside = c.loop-part.invariant.inside;
  valid = c.loop-part.invariant.valid;
}
