-- How the logic stores a value.
use Rattle.std.specs.Prelude.{◌≡◌, Bool, List, refl}
use Rattle.std.proofs.Common.{ap}
use Rattle.std.specs.Coded.{Coded, code_by, coded_list, coded_bool}
use Rattle.bit_store.specs.Stores.{itself}
use Rattle.term_value.specs.Codes.{coded_seen}
use Rattle.term_value.specs.Seen.{Seen, SInt, SAtom, SPid, STuple, SList, SBits, Row, end, then, meaning, meanings}
use Rattle.term_value.specs.Value.{Value, VInt, VAtom, VPid, VTuple, VList, VBits, Values, none, more}

-- the value, over bitstrings that are their own references
abbrev mutual
  pub over_itself : Value → Seen (List Bool)
  over_itself (VInt n) = SInt n
  over_itself (VAtom a) = SAtom a
  over_itself (VPid p) = SPid p
  over_itself (VTuple vs) = STuple (row_over_itself vs)
  over_itself (VList vs) = SList (row_over_itself vs)
  over_itself (VBits bits) = SBits bits

  pub row_over_itself : Values → Row (List Bool)
  row_over_itself none = end
  row_over_itself (more v vs) = then (over_itself v) (row_over_itself vs)

mutual
  pub meaning_back : (v : Value) → meaning itself (over_itself v) ≡ v
  meaning_back (VInt n) = refl
  meaning_back (VAtom a) = refl
  meaning_back (VPid p) = refl
  meaning_back (VTuple vs) = ap VTuple (meanings_back vs)
  meaning_back (VList vs) = ap VList (meanings_back vs)
  meaning_back (VBits bits) = refl

  pub meanings_back : (vs : Values) → meanings itself (row_over_itself vs) ≡ vs
  meanings_back none = refl
  meanings_back (more v vs) = λ i. more (meaning_back v i) (meanings_back vs i)

abbrev pub coded_value : Coded Value
coded_value = code_by (Seen (List Bool)) (coded_seen (coded_list coded_bool)) over_itself (meaning itself) meaning_back
