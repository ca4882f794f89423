use Rattle.std.proofs.Common.{◌≡◌, ◌∙◌, map, sym, ap, arith}
use Rattle.term_value.specs.ReadTrees as text
use Rattle.code_tree.specs.Reading as laid
use Rattle.code_tree.specs.Reading.{clause_of, pattern_of}
use Rattle.code_layout.specs.Layout.{reading_of, parts_of, clause_parts, line_read}
use Rattle.code_layout.proofs.Loops.{grown, grown_all}
use Rattle.code_layout.proofs.Same as same
use Rattle.code_layout.proofs.clauses.function_clauses.Goals as goal

pub loop-read-preserved : goal.loop-read-preserved
loop-read-preserved c =
    grown (λ k. parts_of (clause_of k)) (clause_parts (reading_of c.args.laying.now)) c.args.reads.now c.loop-read.read-index c.read-item.result c.loop-read.clauses.items _ c.clause-clause.result (omega arith) c.read-item.is c.in_ok-push.ensures.items
    (c.clause-clause.ensures
    ∙ same.parts_are _ _ _ _ _ _ (ap laid.patterns (c.in_ok-patterns.ensures ∙ ap (map (text.pattern_of (reading_of c.args.laying.now))) c.items.ensures) ∙ same.patterns_same (map (text.pattern_of (reading_of c.args.laying.now)) c.read-item.result.patterns)) c.in_ok-guard.ensures
    (same.body_lines (reading_of c.args.laying.now) c.read-item.result.body _ (c.in_ok-body.ensures ∙ ap (map (line_read c.args.laying.now)) c.items-in-loop-read.ensures)))
    c.loop-read.invariant

pub returns : goal.returns
returns c =
    ap laid.clauses_of c.of.ensures
    ∙ same.function_same (reading_of c.args.laying.now) (map clause_of c.loop-read.clauses.items) c.args.reads.now
    (sym (same.mapped clause_of parts_of c.loop-read.clauses.items) ∙ grown_all (λ k. parts_of (clause_of k)) (clause_parts (reading_of c.args.laying.now)) c.args.reads.now c.loop-read.read-index c.loop-read.clauses.items (omega arith) c.loop-read.invariant)
