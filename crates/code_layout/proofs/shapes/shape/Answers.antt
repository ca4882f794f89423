use Rattle.std.proofs.Common.{◌≡◌, refl, sym, ap, ◌∙◌}
use Rattle.std.proofs.lemmas.List.{nil_from_length}
use Rattle.term_value.specs.Rows.{shape, shape_of_target}
use Rattle.code_tree.specs.Reading.{segments_of, target_of}
use Rattle.code_layout.proofs.Shaped.{shape_more, shape_all}
use Rattle.code_layout.proofs.shapes.shape.Goals as goal

pub loop-segment-preserved : goal.loop-segment-preserved
loop-segment-preserved c =
    c.loop-segment.invariant
    ∙ shape_more c.loop-segment.earlier.items c.note.new.earlier.items c.in-Some.segment.now _ c.loop-segment.left.now c.in-Some.later.now c.loop-segment.found.items _ c.in-Some.ensures.cases.0 c.in_ok-push.ensures.items refl
    (c.shape_target.ensures ∙ ap (λ xs. shape_of_target xs (segments_of c.in-Some.later.now) (target_of c.in-Some.segment.now.target)) c.deref.ensures.value) c.in_ok-again.ensures c.in_ok-note.ensures

pub returns : goal.returns
returns c = shape_all c.loop-segment.earlier.items c.loop-segment.left.now c.loop-segment.found.items (shape (segments_of c.args.segments.now)) (nil_from_length c.loop-segment.left.now c.in_default.ensures.cases) c.loop-segment.invariant
