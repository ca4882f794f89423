use Rattle.std.proofs.Common.{◌≡◌, All, length}
use Rattle.bit_store.specs.Stores.{AnyAtom}
use Rattle.bits_build.specs.Parts.{HasPart}
use Rattle.term_value.specs.Encode.{filled_with}
use Rattle.term_value.specs.Seen.{AreKnown, meanings}
use Rattle.term_value.specs.Terms.{row}
use Rattle.proc_values.proofs.Filled.{filled_on}
use Rattle.proc_values.proofs.construction.parts_of.Given as goal

abbrev pub invariant-loop-typed : goal.invariant-loop-typed
invariant-loop-typed g l = record {
  rest : filled_on (g.S.Store.shown l.store) l.parts.items (filled_with l.waiting (meanings (g.S.Store.shown l.store) (row l.left))) ≡ filled_with l.types (meanings (g.S.Store.shown l.store) (row l.values));
  parts : All (HasPart (g.S.Store.has l.store)) l.parts.items;
  left : AreKnown (g.S.Store.has l.store) AnyAtom (row l.left);
}

abbrev pub decreases-loop-typed : goal.decreases-loop-typed
decreases-loop-typed g l = length l.waiting
