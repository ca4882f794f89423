-- One answer only.
use Rattle.std.proofs.Common.{◌≡◌, Bool, List, [], ◌∷◌, Option, Some, None, Result, Ok, Err, sym, ◌∙◌, ap, inl, inr}
use Rattle.erl_syntax.specs.Typing.{FirstOf, Types, HasFault, seg_faults}
use Rattle.erl_syntax.specs.declared.segment.Segment.{Segment}
use Rattle.erl_syntax.specs.declared.typing.SideUse.{SideUse}
use Rattle.erl_syntax.specs.declared.typing.Typed.{Typed}
use Rattle.erl_syntax.specs.declared.typing.SegFault.{SegFault}

one_first : {X : Type 0} (Holds : X → Type 0) (cs : List X) (a b : Option X) → FirstOf Holds cs a → FirstOf Holds cs b → a ≡ b
one_first Holds [] a b ea eb = ea ∙ sym eb
one_first Holds (c ∷ cs) a b (inl ha) (inl hb) = ha.1 ∙ sym hb.1
one_first Holds (c ∷ cs) a b (inl ha) (inr hb) = absurd (hb.0 ha.0)
one_first Holds (c ∷ cs) a b (inr ha) (inl hb) = absurd (ha.0 hb.0)
one_first Holds (c ∷ cs) a b (inr ha) (inr hb) = one_first Holds cs a b ha.1 hb.1

same_fault : (e f : SegFault) → Some e ≡ Some f → e ≡ f
same_fault e f h = cc

no_fault : (e : SegFault) (r s : Result Typed SegFault) → None ≡ Some e → r ≡ s
no_fault e r s h = cc

pub one_type : (sg : Segment) (on : SideUse) (last : Bool) (a b : Result Typed SegFault) → Types sg on last a → Types sg on last b → a ≡ b
one_type sg on last (Ok t) (Ok u) ha hb = ap Ok (ha.1 ∙ sym hb.1)
one_type sg on last (Ok t) (Err f) ha hb = no_fault f (Ok t) (Err f) (one_first (HasFault sg on last) seg_faults None (Some f) ha.0 hb)
one_type sg on last (Err e) (Ok u) ha hb = no_fault e (Err e) (Ok u) (one_first (HasFault sg on last) seg_faults None (Some e) hb.0 ha)
one_type sg on last (Err e) (Err f) ha hb = ap Err (same_fault e f (one_first (HasFault sg on last) seg_faults (Some e) (Some f) ha hb))
