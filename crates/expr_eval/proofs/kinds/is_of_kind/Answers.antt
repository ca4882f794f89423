use Rattle.std.proofs.Common.{ap, Some}
use Rattle.expr_eval.proofs.kinds.is_of_kind.Goals as goal

pub returns-in-IsInteger : goal.returns-in-IsInteger
returns-in-IsInteger g c = rw c.in-IsInteger.is (ap Some (c.is_integer.ensures (g.S.Store.shown c.args.store.now)))

pub returns-in-IsAtom : goal.returns-in-IsAtom
returns-in-IsAtom g c = rw c.in-IsAtom.is (ap Some (c.is_atom.ensures (g.S.Store.shown c.args.store.now)))

pub returns-in-IsPid : goal.returns-in-IsPid
returns-in-IsPid g c = rw c.in-IsPid.is (ap Some (c.is_pid.ensures (g.S.Store.shown c.args.store.now)))

pub returns-in-IsTuple : goal.returns-in-IsTuple
returns-in-IsTuple g c = rw c.in-IsTuple.is (ap Some (c.is_tuple.ensures (g.S.Store.shown c.args.store.now)))

pub returns-in-IsList : goal.returns-in-IsList
returns-in-IsList g c = rw c.in-IsList.is (ap Some (c.is_list.ensures (g.S.Store.shown c.args.store.now)))

pub returns-in-IsBitstring : goal.returns-in-IsBitstring
returns-in-IsBitstring g c = rw c.in-IsBitstring.is (ap Some (c.is_bitstring.ensures (g.S.Store.shown c.args.store.now)))
