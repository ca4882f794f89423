-- The variables of a function, by the part to which they belong.
use Rattle.std.proofs.Common.{◌≡◌, ℕ, List, [], ◌∷◌, ◌++◌, take, Option, Some, None, refl, sym, ◌∙◌, ap, subst, inl, inr}
use Rattle.std.specs.List.{Contains}
use Rattle.std.specs.Option.{option_to_list}
use Rattle.std.proofs.lemmas.List.Elements.{Contains-append_left, Contains-append_cases, Contains-push}
use Rattle.erl_syntax.specs.Bindings.{Bound}
use Rattle.erl_syntax.specs.Scopes
use Rattle.erl_syntax.specs.Scopes.{Scope, IsKnown, Found}
use Rattle.erl_syntax.specs.Checking.{Place}
use Rattle.erl_syntax.specs.declared.span.Span.{Span}
use Rattle.erl_syntax.specs.declared.expr.Expr.{Expr, out-Expr, out-roll-Expr}
use Rattle.erl_syntax.specs.declared.expr.Expr.TheVariants as x
use Rattle.erl_syntax.specs.declared.expr.Expr.TheOpen as O
use Rattle.erl_syntax.specs.declared.pattern.Pattern.{Pattern, out-Pattern, out-roll-Pattern}
use Rattle.erl_syntax.specs.declared.pattern.Pattern.TheVariants as p
use Rattle.erl_syntax.specs.declared.segment.Segment.{Segment}
use Rattle.erl_syntax.specs.declared.qual.Qual.{Qual}
use Rattle.erl_syntax.specs.declared.clause.Item.{Item}
use Rattle.erl_syntax.specs.declared.clause.Guard.{Guard}
use Rattle.erl_syntax.specs.declared.clause.Alt.{Alt}
use Rattle.erl_syntax.specs.declared.clause.Branch.{Branch}
use Rattle.erl_syntax.specs.declared.module.Function.{Function}
use Rattle.erl_syntax.specs.declared.typing.SideUse.{SideUse}
use Rattle.module_check.specs.declared.trees.Node.{Node}
use Rattle.module_check.specs.declared.places.Occurrence.{Occurrence}
use Rattle.module_check.specs.declared.tasks.Task.{Task}
use Rattle.module_check.specs.declared.tasks.Walk.{Walk}
use Rattle.module_check.specs.Nodes.{TreeOf, Sees}
use Rattle.module_check.specs.Spots.{Spot, clauses_in, IsUnder}
use Rattle.module_check.specs.Tasks.{Fits, left_in, Adds}
use Rattle.module_check.specs.Places.{seen, kept, Reads, Meets, ExprPlace, PatternPlace, ValuePlace, SegmentPlace, OwnPlace, InnerPlace, IsOnly, AreAll}
use Rattle.module_check.proofs.Chained.{found_known, one_place_of, same_known, flip}
use Rattle.module_check.proofs.Spots.{none_in, only_one}
use Rattle.module_check.proofs.Walking.{Walked, walked_cut, walked_start, walked_all, stepped}

same_place : (a : Place) (at bound_at : Span) → a.at ≡ at → a.bound_at ≡ bound_at → a ≡ record { at = at; bound_at = bound_at }
same_place a at bound_at e h =
    let f : Span → Place = λ z. record { at = z; bound_at = a.bound_at } in
    let g : Span → Place = λ z. record { at = at; bound_at = z } in
    ap f e ∙ ap g h

only_this : (Holds : Place → Type 0) (o : Occurrence) (a : Place) → seen o ≡ a → Holds a → ((b : Place) → Holds b → b ≡ a) → IsOnly Holds (Some o)
only_this Holds o a e h k = (subst Holds (sym e) h, λ b z. k b z ∙ sym e)

-- what a look-up says of a variable
module _ (nodes : List Node) (last : ℕ) (at : Span) (name : List ℕ) where
  pub read_found : (bound_at : Span) (o : Occurrence) → seen o ≡ record { at = at; bound_at = bound_at } → ((bs : List Bound) → TreeOf nodes last bs → Found bs name bound_at) → (known : List Bound) → Sees nodes last known → IsOnly (Reads known at name) (Some o)
  read_found bound_at o e found known s =
      let here : Found known name bound_at = s.same.to name bound_at (found s.chain s.stands) in
      only_this (Reads known at name) o (record { at = at; bound_at = bound_at }) e (refl, here) (λ b z. same_place b at bound_at z.0 (one_place_of known name b.bound_at bound_at z.1 here))

  unknown : ((bs : List Bound) → TreeOf nodes last bs → IsKnown bs name → ⊥) → (known : List Bound) → Sees nodes last known → IsKnown known name → ⊥
  unknown h known s k = h s.chain s.stands (same_known known s.chain name (flip s.chain known s.same) k)

  pub read_none : ((bs : List Bound) → TreeOf nodes last bs → IsKnown bs name → ⊥) → (known : List Bound) → Sees nodes last known → IsOnly (Reads known at name) None
  read_none h known s = λ a z. unknown h known s (found_known known name a.bound_at z.1)

  pub met_found : (bound_at : Span) (o : Occurrence) → seen o ≡ record { at = at; bound_at = bound_at } → ((bs : List Bound) → TreeOf nodes last bs → Found bs name bound_at) → (known : List Bound) → Sees nodes last known → IsOnly (Meets known at name) (Some o)
  met_found bound_at o e found known s =
      let here : Found known name bound_at = s.same.to name bound_at (found s.chain s.stands) in
      only_this (Meets known at name) o (record { at = at; bound_at = bound_at }) e (refl, inl here) (λ b z. same_place b at bound_at z.0 (elim z.1 [
        | inl k ↦ one_place_of known name b.bound_at bound_at k here
        | inr k ↦ absurd (k.0 (found_known known name bound_at here))
      ]))

  pub met_new : (o : Occurrence) → seen o ≡ record { at = at; bound_at = at } → ((bs : List Bound) → TreeOf nodes last bs → IsKnown bs name → ⊥) → (known : List Bound) → Sees nodes last known → IsOnly (Meets known at name) (Some o)
  met_new o e h known s =
      let new = unknown h known s in
      only_this (Meets known at name) o (record { at = at; bound_at = at }) e (refl, inr (new, refl)) (λ b z. same_place b at at z.0 (elim z.1 [
        | inl k ↦ absurd (new (found_known known name b.bound_at k))
        | inr k ↦ k.1
      ]))

-- the form of a part
pub at_var : (s : Scope) (e : Expr) (at : Span) (name : List ℕ) (r : Option Occurrence) → e ≡ x.Var at name → IsOnly (Reads s.known at name) r → IsOnly (ExprPlace s (out-Expr e)) r
at_var s e at name r h k =
    let P : O.Expr-F Expr Pattern Qual Alt Branch Guard Item Segment → Type 0 = λ v. IsOnly (ExprPlace s v) r in
    subst P (sym (ap out-Expr (h ∙ sym (x.rolls-Var at name)) ∙ out-roll-Expr (O.Expr::Var at name))) k

pub at_value : (s : Scope) (e : Expr) (at : Span) (name : List ℕ) (r : Option Occurrence) → e ≡ x.Var at name → IsOnly (Meets s.known at name) r → IsOnly (ValuePlace s (out-Expr e)) r
at_value s e at name r h k =
    let P : O.Expr-F Expr Pattern Qual Alt Branch Guard Item Segment → Type 0 = λ v. IsOnly (ValuePlace s v) r in
    subst P (sym (ap out-Expr (h ∙ sym (x.rolls-Var at name)) ∙ out-roll-Expr (O.Expr::Var at name))) k

pub at_pattern : (s : Scope) (e : Pattern) (at : Span) (name : List ℕ) (r : Option Occurrence) → e ≡ p.Var at name → IsOnly (Meets s.known at name) r → IsOnly (PatternPlace s (out-Pattern e)) r
at_pattern s e at name r h k =
    let P : O.Pattern-F Expr Pattern Qual Alt Branch Guard Item Segment → Type 0 = λ v. IsOnly (PatternPlace s v) r in
    subst P (sym (ap out-Pattern (h ∙ sym (p.rolls-Var at name)) ∙ out-roll-Pattern (O.Pattern::Var at name))) k

pub on_side : (s : Scope) (on : SideUse) (sg : Segment) (to : SideUse) (r : Option Occurrence) → on ≡ to → IsOnly (SegmentPlace s to sg) r → IsOnly (SegmentPlace s on sg) r
on_side s on sg to r e h = let P : SideUse → Type 0 = λ v. IsOnly (SegmentPlace s v sg) r in subst P (sym e) h

pub own_part : (s : Scope) (y z : Scopes.Part) (r : Option Occurrence) → z ≡ y → IsOnly (OwnPlace s z) r → IsOnly (OwnPlace s y) r
own_part s y z r e h = let P : Scopes.Part → Type 0 = λ v. IsOnly (OwnPlace s v) r in subst P e h

-- the variable that the spot is by itself is found
abbrev pub IsFound : List Occurrence → Spot → Type 0
IsFound found d = (a : Place) → OwnPlace d.scope d.part a → Contains found (kept a)

-- what is looked at, and what is left
pub record Reached (f : Function) (nodes : List Node) (tasks : List Task) (found : List Occurrence) : Type 0 where
  pub told : (o : Occurrence) → Contains found o → InnerPlace f (seen o)
  pub walked : Walked f (IsFound found) nodes tasks

pub reached_cut : (f : Function) (nodes cut : List Node) (tasks rest : List Task) (task : Task) (found : List Occurrence) → tasks ≡ rest ++ task ∷ [] → cut ≡ take task.mark nodes → Reached f nodes tasks found → Reached f cut tasks found
reached_cut f nodes cut tasks rest task found e is l = record { told = l.told; walked = walked_cut f (IsFound found) nodes cut tasks rest task e is l.walked }

pub start : (f : Function) (w v : Walk) (found : List Occurrence) → w.tasks.items ≡ [] → found ≡ [] → Adds w v (clauses_in f) → Reached f v.nodes.items v.tasks.items found
start f w v found e none a = record {
  told = λ o h. absurd (let Q : List Occurrence → Type 0 = λ zs. Contains zs o in none_in o (subst Q none h));
  walked = walked_start f (IsFound found) w v e a;
}

module _ (f : Function) (d0 : Spot) (found : List Occurrence) where
  told_one : (stood : IsUnder f d0) (r : Option Occurrence) → IsOnly (OwnPlace d0.scope d0.part) r → (o : Occurrence) → Contains (option_to_list r) o → InnerPlace f (seen o)
  told_one stood None k o h = absurd (none_in o h)
  told_one stood (Some y) k o h = (d0, (stood, (let P : Occurrence → Type 0 = λ z. OwnPlace d0.scope d0.part (seen z) in subst P (only_one y o h) k.0)))

  own_in : (r : Option Occurrence) → IsOnly (OwnPlace d0.scope d0.part) r → IsFound (found ++ option_to_list r) d0
  own_in None k a h = absurd (k a h)
  own_in (Some y) k a h = let P : Occurrence → Type 0 = λ z. Contains (found ++ y ∷ []) z in subst P (sym (ap kept (k.1 a h))) (Contains-push found y)

pub step : (f : Function) (w v : Walk) (old rest : List Task) (task : Task) (found new : List Occurrence) (own : Option Occurrence) → old ≡ rest ++ task ∷ [] → w.tasks.items ≡ rest
    → ((d : Spot) → Fits w.nodes.items task d → IsOnly (OwnPlace d.scope d.part) own) → new ≡ found ++ option_to_list own → ((d : Spot) → Fits w.nodes.items task d → Adds w v (left_in task.whole d))
    → Reached f w.nodes.items old found → Reached f v.nodes.items v.tasks.items new
step f w v old rest task found new own e g o is adds l =
    let p = stepped f (IsFound found) w v old rest task e g adds l.walked in
    let only = o p.spot p.fits in
    let T : List Occurrence → Type 0 = λ zs. Reached f v.nodes.items v.tasks.items zs in
    subst T (sym is) (record {
      told = λ y h. elim (Contains-append_cases found (option_to_list own) y h) [
        | inl k ↦ l.told y k
        | inr k ↦ told_one f p.spot found p.stood own only y k
      ];
      walked = p.walked (IsFound (found ++ option_to_list own)) (λ d h a z. Contains-append_left found (option_to_list own) (kept a) (h a z)) (own_in f p.spot found own only);
    })

pub finish : (f : Function) (nodes : List Node) (tasks : List Task) (found : List Occurrence) → tasks ≡ [] → Reached f nodes tasks found → AreAll (InnerPlace f) found
finish f nodes tasks found e l = record { hold = l.told; whole = λ a k. walked_all f (IsFound found) nodes tasks e l.walked k.0 k.1.0 a k.1.1 }
