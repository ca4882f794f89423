-- What comes of collecting a value, within what goes on with the result.
use Rattle.std.proofs.Common.{◌≡◌, ◌++◌, ◌∷◌, [], refl}
use Rattle.term_value.specs.Value.{Value, VInt, VAtom, VPid, VTuple, VList, VBits, row as values}
use Rattle.term_value.specs.Result.{Result, Gives, Stops}
use Rattle.term_value.specs.Bounds.{within}
use Rattle.term_value.specs.Tree.{Got, Items, Bits}
use Rattle.term_value.specs.Step.{Ready, lift, collected_by, collect_by}

by_result : {T : Type 0} (next : Got → T) (r : Result) (got : Got) → collected_by next r got ≡ lift Ready next (collected_by (λ g. g) r got)
by_result next (Gives v) got = refl
by_result next (Stops stop) got = refl

pub collects_by : {T : Type 0} (next : Got → T) (got : Got) (v : Value) → collect_by next got v ≡ lift Ready next (collect_by (λ g. g) got v)
collects_by next (Items vs) v = by_result next (within (VList (values (vs ++ v ∷ [])))) (Items (vs ++ v ∷ []))
collects_by next (Bits bits) (VBits behind) = by_result next (within (VBits (bits ++ behind))) (Bits (bits ++ behind))
collects_by next (Bits bits) (VInt n) = refl
collects_by next (Bits bits) (VAtom a) = refl
collects_by next (Bits bits) (VPid p) = refl
collects_by next (Bits bits) (VTuple vs) = refl
collects_by next (Bits bits) (VList vs) = refl
