use Rattle.std.proofs.Common.{◌≡◌, ◌+◌, drop, length}
use Rattle.bit_store.specs.Stores.{itself}
use Rattle.term_value.specs.Match as m
use Rattle.term_value.specs.Seen.{meanings, AreKnown}
use Rattle.term_value.specs.Terms.{row, row_of, value_of}
use Rattle.code_tree.specs.PlainTerms.{IsShort, AnyAtom}
use Rattle.code_tree.specs.Reading.{patterns_of}
use Rattle.expr_eval.specs.Answers.{setting}
use Rattle.code_match.specs.Binds.{bounds}
use Rattle.code_match.proofs.patterns.+matching.Given as goal

-- the patterns so far match
abbrev pub invariant-all_matched-loop-pattern : goal.invariant-all_matched-loop-pattern
invariant-all_matched-loop-pattern l = m.all_matched (setting l.caller.names.now l.caller.pid) (patterns_of (drop l.pattern-index l.patterns)) (value_of itself l.value) (bounds l.found)
    ≡ m.all_matched (setting l.caller.names.now l.caller.pid) (patterns_of l.patterns) (value_of itself l.value) (bounds l.initial.found)

abbrev pub invariant-each_matched-loop-pattern : goal.invariant-each_matched-loop-pattern
invariant-each_matched-loop-pattern l = record {
  rest : m.each_matched (setting l.caller.names.now l.caller.pid) (patterns_of (drop l.pattern-index l.patterns)) (meanings itself (row l.left)) (bounds l.found)
      ≡ m.each_matched (setting l.caller.names.now l.caller.pid) (patterns_of l.patterns) (meanings itself (row l.initial.left)) (bounds l.initial.found);
  many : l.pattern-index + length l.left ≡ length l.patterns;
  over : AreKnown IsShort AnyAtom (row l.left);
}

abbrev pub invariant-items_matched-loop-pattern : goal.invariant-items_matched-loop-pattern
invariant-items_matched-loop-pattern l = record {
  rest : m.front_matched (setting l.caller.names.now l.caller.pid) (patterns_of (drop l.pattern-index l.patterns)) (λ v. m.Yes) (meanings itself (row_of l.left)) (bounds l.found)
      ≡ m.front_matched (setting l.caller.names.now l.caller.pid) (patterns_of l.patterns) (λ v. m.Yes) (meanings itself (row_of l.initial.left)) (bounds l.initial.found);
  over : AreKnown IsShort AnyAtom (row_of l.left);
}
