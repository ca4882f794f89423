use Rattle.std.proofs.Common.{◌≡◌, drop}
use Rattle.bit_store.specs.Stores.{itself}
use Rattle.term_value.specs.Seen.{meanings, AreKnown}
use Rattle.term_value.specs.Terms.{row_of}
use Rattle.code_tree.specs.PlainTerms.{IsShort, AnyAtom}
use Rattle.code_tree.specs.Reading.{patterns_of}
use Rattle.code_match.specs.Matches.{behind}
use Rattle.code_match.proofs.patterns.behind.Given as goal

abbrev pub invariant-loop : goal.invariant-loop
invariant-loop l = record {
  rest : behind (patterns_of (drop l.index l.patterns)) (meanings itself (row_of l.left)) ≡ behind (patterns_of l.patterns) (meanings itself (row_of l.initial.left));
  over : AreKnown IsShort AnyAtom (row_of l.left);
}
