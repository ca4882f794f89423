use Rattle.std.proofs.Common.{◌∙◌, ap, sym}
use Rattle.term_value.specs.Rows as r
use Rattle.term_value.specs.Tree as t
use Rattle.code_tree.specs.Reading.{segments_of}
use Rattle.expr_eval.specs.Answers.{setting}
use Rattle.code_match.specs.Binds.{bounds}
use Rattle.code_match.specs.Matches.{front_of}
use Rattle.code_rows.proofs.NextRow.{bits_before}
use Rattle.code_rows.proofs.rows.next_bits.Goals as goal

pub returns-in-Found : goal.returns-in-Found
returns-in-Found c =
    bits_before (setting c.args.caller.now.names.now c.args.caller.now.pid) (bounds c.args.bindings.now) (segments_of c.args.rows.now.segments.now) (segments_of c.args.rows.now.shape.now) c.args.rows.now.rest
    (r.Takes (t.Found (bounds c.in-Found.all)) c.in-Found.rest) (ap front_of (sym c.in-Found.is) ∙ c.in_ok-all.ensures)

pub returns-in-Skipped : goal.returns-in-Skipped
returns-in-Skipped c =
    bits_before (setting c.args.caller.now.names.now c.args.caller.now.pid) (bounds c.args.bindings.now) (segments_of c.args.rows.now.segments.now) (segments_of c.args.rows.now.shape.now) c.args.rows.now.rest
    (r.Takes t.Skipped c.in-Skipped.rest) (ap front_of (sym c.in-Skipped.is) ∙ c.in_ok-all.ensures)

pub returns-in-Ends : goal.returns-in-Ends
returns-in-Ends c =
    bits_before (setting c.args.caller.now.names.now c.args.caller.now.pid) (bounds c.args.bindings.now) (segments_of c.args.rows.now.segments.now) (segments_of c.args.rows.now.shape.now) c.args.rows.now.rest
    r.Ends (ap front_of (sym c.in-Ends.is) ∙ c.in_ok-all.ensures)

pub returns-in-AtLimit : goal.returns-in-AtLimit
returns-in-AtLimit c =
    bits_before (setting c.args.caller.now.names.now c.args.caller.now.pid) (bounds c.args.bindings.now) (segments_of c.args.rows.now.segments.now) (segments_of c.args.rows.now.shape.now) c.args.rows.now.rest
    r.AtLimit (ap front_of (sym c.in-AtLimit.is) ∙ c.in_ok-all.ensures)
