use Rattle.std.proofs.Common.{◌≡◌, All, length}
use Rattle.bit_store.specs.Stores.{itself}
use Rattle.bits_build.specs.Parts.{HasPart}
use Rattle.term_value.specs.Encode.{filled_with}
use Rattle.term_value.specs.Seen.{AreKnown, meanings}
use Rattle.term_value.specs.Terms.{row}
use Rattle.code_tree.specs.PlainTerms.{IsShort, AnyAtom}
use Rattle.code_match.proofs.Filled.{filled_on}
use Rattle.code_match.proofs.primitives.parts_of.Given as goal

abbrev pub invariant-loop-typed : goal.invariant-loop-typed
invariant-loop-typed l = record {
  rest : filled_on l.parts.items (filled_with l.waiting (meanings itself (row l.left))) ≡ filled_with l.types (meanings itself (row l.values));
  parts : All (HasPart IsShort) l.parts.items;
  left : AreKnown IsShort AnyAtom (row l.left);
}

abbrev pub decreases-loop-typed : goal.decreases-loop-typed
decreases-loop-typed l = length l.waiting
