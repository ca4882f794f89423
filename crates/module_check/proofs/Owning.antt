-- The faults of a part by itself.
use Rattle.std.proofs.Common.{◌≡◌, ℕ, ◌+◌, ◌<◌, ◌≤◌, Bool, true, false, List, [], ◌∷◌, length, get_or, Option, Some, None, refl, sym, ◌∙◌, ap, subst, ◌⊎◌, inl, inr, arith, MatchBool, not, ◌&&◌, lit<}
use Rattle.std.proofs.lemmas.Bool.{cases_eq}
use Rattle.std.proofs.lemmas.List.{get_or_default}
use Rattle.erl_syntax.specs.Bindings.{Bound}
use Rattle.erl_syntax.specs.Scopes
use Rattle.erl_syntax.specs.Scopes.{Scope, AnExpr, APattern, ABody, ASegment, IsKnown, IsUnsafe, Found}
use Rattle.erl_syntax.specs.Typing.{HasFault, FirstOf, seg_faults}
use Rattle.erl_syntax.specs.declared.span.Span.{Span}
use Rattle.erl_syntax.specs.declared.expr.Expr.{Expr, out-Expr, out-roll-Expr}
use Rattle.erl_syntax.specs.declared.expr.Expr.TheVariants as x
use Rattle.erl_syntax.specs.declared.expr.Expr.TheOpen as O
use Rattle.erl_syntax.specs.declared.pattern.Pattern.{Pattern, out-Pattern, out-roll-Pattern}
use Rattle.erl_syntax.specs.declared.pattern.Pattern.TheVariants as p
use Rattle.erl_syntax.specs.declared.segment.Segment.{Segment}
use Rattle.erl_syntax.specs.declared.qual.Qual.{Qual}
use Rattle.erl_syntax.specs.declared.clause.Item.{Item}
use Rattle.erl_syntax.specs.declared.clause.Guard.{Guard}
use Rattle.erl_syntax.specs.declared.clause.Alt.{Alt}
use Rattle.erl_syntax.specs.declared.clause.Branch.{Branch}
use Rattle.erl_syntax.specs.declared.module.Module.{Module}
use Rattle.erl_syntax.specs.declared.typing.SideUse.{SideUse}
use Rattle.erl_syntax.specs.declared.typing.SideUse.TheVariants as side
use Rattle.erl_syntax.specs.declared.typing.SegFault.{SegFault}
use Rattle.erl_syntax.specs.declared.typing.SegFault.TheVariants as f
use Rattle.erl_syntax.specs.declared.checking.CheckCause.{CheckCause}
use Rattle.erl_syntax.specs.declared.checking.CheckCause.TheVariants as c
use Rattle.erl_syntax.specs.declared.checking.CheckFault.{CheckFault}
use Rattle.module_check.specs.declared.trees.Node.{Node}
use Rattle.module_check.specs.Order.{segment_rank, rank, IsLeast, IsFirstOf, fault_if}
use Rattle.module_check.specs.Nodes.{TreeOf, Sees, SeesUnsafe}
use Rattle.module_check.specs.Faults.{UnsafeFault, ReadFault, CallFault, ExprFault, PatternFault, TargetFault, TypeFault, SegmentFault, Own}
use Rattle.module_check.proofs.Firsts.{least_if, least_of_both}
use Rattle.module_check.proofs.Chained.{found_known, same_known, flip}
use Rattle.std.specs.Option.{MatchOption, is_some}

-- what a test of a node says of the scope
pub unsafe_by : (nodes : List Node) (k : ℕ) (s : Scope) (name : List ℕ) (r : Bool) → ((bs : List Bound) → TreeOf nodes k bs → MatchBool r (IsKnown bs name) (IsKnown bs name → ⊥)) → SeesUnsafe nodes k s.dangers → MatchBool r (IsUnsafe s.dangers name) (IsUnsafe s.dangers name → ⊥)
unsafe_by nodes k s name true h u = u.to name (h u.chain u.stands)
unsafe_by nodes k s name false h u = λ z. h u.chain u.stands (u.from name z)

pub known_by : (nodes : List Node) (k : ℕ) (known : List Bound) (name : List ℕ) (r : Bool) → ((bs : List Bound) → TreeOf nodes k bs → MatchBool r (IsKnown bs name) (IsKnown bs name → ⊥)) → Sees nodes k known → MatchBool r (IsKnown known name) (IsKnown known name → ⊥)
known_by nodes k known name true h u = same_known u.chain known name u.same (h u.chain u.stands)
known_by nodes k known name false h u = λ z. h u.chain u.stands (same_known known u.chain name (flip u.chain known u.same) z)

pub neither : (P Q : Type 0) (a b : Bool) → MatchBool a P (P → ⊥) → MatchBool b Q (Q → ⊥) → MatchBool (not a && not b) ((P → ⊥) × (Q → ⊥)) ((P → ⊥) × (Q → ⊥) → ⊥)
neither P Q true true h k = λ z. z.0 h
neither P Q true false h k = λ z. z.0 h
neither P Q false true h k = λ z. z.1 k
neither P Q false false h k = (h, k)

pub unsafe_least : (nodes : List Node) (k : ℕ) (at : Span) (name : List ℕ) (put : Bool) (r : Option CheckFault) → ((bs : List Bound) → TreeOf nodes k bs → MatchBool put (IsKnown bs name) (IsKnown bs name → ⊥)) → r ≡ fault_if put at c.UnsafeVariable → (s : Scope) → SeesUnsafe nodes k s.dangers → IsLeast (UnsafeFault s at name) r
unsafe_least nodes k at name put r h e s u = least_if put (IsUnsafe s.dangers name) at c.UnsafeVariable r (unsafe_by nodes k s name put h u) e

-- the form of a part
type_of_expr : Type 0
type_of_expr = O.Expr-F Expr Pattern Qual Alt Branch Guard Item Segment

pub at_var : (m : Module) (s : Scope) (e : Expr) (at : Span) (name : List ℕ) (r : Option CheckFault) → e ≡ x.Var at name → IsLeast (ReadFault s at name) r → IsLeast (ExprFault m s (out-Expr e)) r
at_var m s e at name r h k =
    let P : O.Expr-F Expr Pattern Qual Alt Branch Guard Item Segment → Type 0 = λ v. IsLeast (ExprFault m s v) r in
    subst P (sym (ap out-Expr (h ∙ sym (x.rolls-Var at name)) ∙ out-roll-Expr (O.Expr::Var at name))) k

pub at_call : (m : Module) (s : Scope) (e : Expr) (at : Span) (home : List Expr) (name : ℕ) (args : List Expr) (guarded : Bool) (homes : List Expr) (n : ℕ) (r : Option CheckFault) → e ≡ x.Call at home name args → guarded ≡ s.guarded → homes ≡ home → n ≡ length args → IsLeast (CallFault m guarded at homes name n) r → IsLeast (ExprFault m s (out-Expr e)) r
at_call m s e at home name args guarded homes n r h g a l k =
    let P : O.Expr-F Expr Pattern Qual Alt Branch Guard Item Segment → Type 0 = λ v. IsLeast (ExprFault m s v) r in
    let A : Bool → Type 0 = λ v. IsLeast (CallFault m v at homes name n) r in
    let B : List Expr → Type 0 = λ v. IsLeast (CallFault m s.guarded at v name n) r in
    let C : ℕ → Type 0 = λ v. IsLeast (CallFault m s.guarded at home name v) r in
    subst P (sym (ap out-Expr (h ∙ sym (x.rolls-Call at home name args)) ∙ out-roll-Expr (O.Call at home name args))) (subst C l (subst B a (subst A g k)))

pub at_target : (s : Scope) (e : Expr) (at : Span) (name : List ℕ) (r : Option CheckFault) → e ≡ x.Var at name → IsLeast (UnsafeFault s at name) r → IsLeast (TargetFault s (out-Expr e)) r
at_target s e at name r h k =
    let P : O.Expr-F Expr Pattern Qual Alt Branch Guard Item Segment → Type 0 = λ v. IsLeast (TargetFault s v) r in
    subst P (sym (ap out-Expr (h ∙ sym (x.rolls-Var at name)) ∙ out-roll-Expr (O.Expr::Var at name))) k

pub at_pattern : (s : Scope) (e : Pattern) (at : Span) (name : List ℕ) (r : Option CheckFault) → e ≡ p.Var at name → IsLeast (UnsafeFault s at name) r → IsLeast (PatternFault s (out-Pattern e)) r
at_pattern s e at name r h k =
    let P : O.Pattern-F Expr Pattern Qual Alt Branch Guard Item Segment → Type 0 = λ v. IsLeast (PatternFault s v) r in
    subst P (sym (ap out-Pattern (h ∙ sym (p.rolls-Var at name)) ∙ out-roll-Pattern (O.Pattern::Var at name))) k

-- segments: the first fault by rank
seg_at : (v : SegFault) → (segment_rank v < 9) × (get_or seg_faults (segment_rank v) v ≡ v)
seg_at f.TwoOfAKind = (lit< tt, refl)
seg_at f.UnitRange = (lit< tt, refl)
seg_at f.FloatType = (lit< tt, refl)
seg_at f.SizeOnUtf = (lit< tt, refl)
seg_at f.UnitOnUtf = (lit< tt, refl)
seg_at f.UnitWithoutSize = (lit< tt, refl)
seg_at f.StringType = (lit< tt, refl)
seg_at f.OpenNotLast = (lit< tt, refl)
seg_at f.OpenInGenerator = (lit< tt, refl)

same_rank : (v w : SegFault) → segment_rank v ≡ segment_rank w → v ≡ w
same_rank v w e = sym (seg_at v).1 ∙ ap (λ n. get_or seg_faults n v) e ∙ get_or_default seg_faults (segment_rank w) v w (seg_at w).0 ∙ (seg_at w).1

abbrev Ranked : ℕ → List SegFault → Type 0
Ranked n [] = n ≡ 9
Ranked n (v ∷ vs) = (segment_rank v ≡ n) × Ranked (n + 1) vs

first_rank : (H : SegFault → Type 0) (n : ℕ) (vs : List SegFault) (e : SegFault) → Ranked n vs → FirstOf H vs (Some e) → H e × ((v : SegFault) → H v → n ≤ segment_rank v → segment_rank e ≤ segment_rank v)
first_rank H n [] e r h = cc
first_rank H n (w ∷ vs) e r (inl h) = (let q : w ≡ e = cc in (subst H q h.0, λ v k l. (let s : segment_rank e ≡ n = ap segment_rank (sym q) ∙ r.0 in omega arith)))
first_rank H n (w ∷ vs) e r (inr h) = (let ih = first_rank H (n + 1) vs e r.1 h.1 in (
  ih.0,
  λ v k l. elim (cases_eq (segment_rank v) n) [
    | inl s ↦ absurd (h.0 (subst H (same_rank v w (s ∙ sym r.0)) k))
    | inr s ↦ ih.1 v k (omega arith)
  ],
))

first_none : (H : SegFault → Type 0) (n : ℕ) (vs : List SegFault) → Ranked n vs → FirstOf H vs None → (v : SegFault) → H v → n ≤ segment_rank v → ⊥
first_none H n [] r h v k l = (let s = (seg_at v).0 in absurd (omega (arith, s, r)))
first_none H n (w ∷ vs) r (inl h) v k l = cc
first_none H n (w ∷ vs) r (inr h) v k l = elim (cases_eq (segment_rank v) n) [
  | inl s ↦ h.0 (subst H (same_rank v w (s ∙ sym r.0)) k)
  | inr s ↦ first_none H (n + 1) vs r.1 h.1 v k (omega arith)
]

ranked : Ranked 0 seg_faults
ranked = (refl, (refl, (refl, (refl, (refl, (refl, (refl, (refl, (refl, refl)))))))))

pub type_some : (on : SideUse) (last : Bool) (sg : Segment) (e : SegFault) → FirstOf (HasFault sg on last) seg_faults (Some e) → IsLeast (TypeFault on last sg) (Some (record { span = sg.at; why = c.Segment e }))
type_some on last sg e h =
    let r = first_rank (HasFault sg on last) 0 seg_faults e ranked h in
    ((e, (r.0, (refl, refl))), λ az o k. inr (k.1.1.0, (let l = r.1 k.0 k.1.0 (omega arith) in let P : CheckCause → Type 0 = λ v. segment_rank e ≤ rank v in subst P k.1.1.1 l)))

pub type_none : (on : SideUse) (last : Bool) (sg : Segment) → FirstOf (HasFault sg on last) seg_faults None → IsLeast (TypeFault on last sg) None
type_none on last sg h = λ at why k. first_none (HasFault sg on last) 0 seg_faults ranked h k.0 k.1.0 (omega arith)

pub side_build : (s : Scope) (on : SideUse) (last : Bool) (sg : Segment) (r : Option CheckFault) → on ≡ side.Build → IsLeast (TypeFault on last sg) r → IsLeast (SegmentFault s on last sg) r
side_build s on last sg r e h =
    let P : SideUse → Type 0 = λ v. IsLeast (SegmentFault s v last sg) r in
    let Q : SideUse → Type 0 = λ v. IsLeast (TypeFault v last sg) r in
    subst P (sym e) (plain r (subst Q e h))
  where
    plain : (r : Option CheckFault) → IsLeast (TypeFault side.Build last sg) r → IsLeast (SegmentFault s side.Build last sg) r
    plain None h = h
    plain (Some a) h = h

pub side_match : (s : Scope) (on : SideUse) (last : Bool) (sg : Segment) (a b r : Option CheckFault) → on ≡ side.Match → IsLeast (TypeFault on last sg) a → IsLeast (TargetFault s (out-Expr sg.value)) b → IsFirstOf a b r → IsLeast (SegmentFault s on last sg) r
side_match s on last sg a b r e h k g =
    let P : SideUse → Type 0 = λ v. IsLeast (SegmentFault s v last sg) r in
    let Q : SideUse → Type 0 = λ v. IsLeast (TypeFault v last sg) a in
    subst P (sym e) (plain r (least_of_both (TypeFault side.Match last sg) (TargetFault s (out-Expr sg.value)) a b r (subst Q e h) k g))
  where
    plain : (r : Option CheckFault) → IsLeast (λ at why. TypeFault side.Match last sg at why ⊎ TargetFault s (out-Expr sg.value) at why) r → IsLeast (SegmentFault s side.Match last sg) r
    plain None h = h
    plain (Some a) h = h

pub side_generator : (s : Scope) (on : SideUse) (last : Bool) (sg : Segment) (a b r : Option CheckFault) → on ≡ side.Generator → IsLeast (TypeFault on last sg) a → IsLeast (TargetFault s (out-Expr sg.value)) b → IsFirstOf a b r → IsLeast (SegmentFault s on last sg) r
side_generator s on last sg a b r e h k g =
    let P : SideUse → Type 0 = λ v. IsLeast (SegmentFault s v last sg) r in
    let Q : SideUse → Type 0 = λ v. IsLeast (TypeFault v last sg) a in
    subst P (sym e) (plain r (least_of_both (TypeFault side.Generator last sg) (TargetFault s (out-Expr sg.value)) a b r (subst Q e h) k g))
  where
    plain : (r : Option CheckFault) → IsLeast (λ at why. TypeFault side.Generator last sg at why ⊎ TargetFault s (out-Expr sg.value) at why) r → IsLeast (SegmentFault s side.Generator last sg) r
    plain None h = h
    plain (Some a) h = h

-- the part of a task
pub own_part : (m : Module) (s : Scope) (y z : Scopes.Part) (r : Option CheckFault) → z ≡ y → IsLeast (Own m s z) r → IsLeast (Own m s y) r
own_part m s y z r e h = let P : Scopes.Part → Type 0 = λ v. IsLeast (Own m s v) r in subst P e h

pub put_by : (nodes : List Node) (k : ℕ) (name : List ℕ) (r : Option Span) (b : Bool) → b ≡ is_some r → ((bs : List Bound) → TreeOf nodes k bs → MatchOption r (IsKnown bs name → ⊥) (λ at. Found bs name at)) → (bs : List Bound) → TreeOf nodes k bs → MatchBool b (IsKnown bs name) (IsKnown bs name → ⊥)
put_by nodes k name None b e h bs ch = let P : Bool → Type 0 = λ v. MatchBool v (IsKnown bs name) (IsKnown bs name → ⊥) in subst P (sym e) (h bs ch)
put_by nodes k name (Some at) b e h bs ch = let P : Bool → Type 0 = λ v. MatchBool v (IsKnown bs name) (IsKnown bs name → ⊥) in subst P (sym e) (found_known bs name at (h bs ch))
