-- The places of a function are those of its parts.
use Rattle.std.proofs.Common.{◌≡◌, ◌≢◌, ℕ, Bool, List, refl, sym, ◌∙◌, ap, subst, inl, inr}
use Rattle.erl_syntax.specs.Scopes.{Scope, Part, AnExpr, APattern, ABody, ASegment, Stands}
use Rattle.erl_syntax.specs.Checking.{IsTarget, in_pattern, in_segment, Place, IsPlace, read, compared, bound}
use Rattle.erl_syntax.specs.declared.span.Span.{Span}
use Rattle.erl_syntax.specs.declared.expr.Expr.{Expr, out-Expr, roll-Expr, roll-out-Expr}
use Rattle.erl_syntax.specs.declared.expr.Expr.TheVariants as x
use Rattle.erl_syntax.specs.declared.expr.Expr.TheOpen as O
use Rattle.erl_syntax.specs.declared.pattern.Pattern.{Pattern, out-Pattern, roll-Pattern, roll-out-Pattern}
use Rattle.erl_syntax.specs.declared.pattern.Pattern.TheVariants as p
use Rattle.erl_syntax.specs.declared.segment.Segment.{Segment}
use Rattle.erl_syntax.specs.declared.qual.Qual.{Qual}
use Rattle.erl_syntax.specs.declared.clause.Item.{Item}
use Rattle.erl_syntax.specs.declared.clause.Guard.{Guard}
use Rattle.erl_syntax.specs.declared.clause.Alt.{Alt}
use Rattle.erl_syntax.specs.declared.clause.Branch.{Branch}
use Rattle.erl_syntax.specs.declared.module.Function.{Function}
use Rattle.erl_syntax.specs.declared.typing.SideUse.{SideUse}
use Rattle.erl_syntax.specs.declared.typing.SideUse.TheVariants as side
use Rattle.module_check.specs.Spots.{spot}
use Rattle.module_check.specs.Places.{Meets, ExprPlace, PatternPlace, ValuePlace, SegmentPlace, OwnPlace, InnerPlace}
use Rattle.module_check.proofs.Complete.{complete}
use Rattle.module_check.proofs.Sound.{root_stands, under_stands}
use Rattle.module_check.proofs.Whole.{out_var, out_target}

module _ (f : Function) where
  inner : (s : Scope) (y : Part) (a : Place) → Stands f s y → OwnPlace s y a → InnerPlace f a
  inner s y a st o = (spot s y, (complete f s y st, o))

  on_target : (s : Scope) (on : SideUse) (sg : Segment) (a : Place) → on ≢ side.Build → ValuePlace s (out-Expr sg.value) a → SegmentPlace s on sg a
  on_target s side.Build sg a ne h = absurd (ne refl)
  on_target s side.Match sg a ne h = h
  on_target s side.Generator sg a ne h = h

  met : (s : Scope) (at : Span) (name : List ℕ) (a : Place) → IsTarget f s at name → Meets s.known at name a → InnerPlace f a
  met s at name a (in_pattern _ pt _ _ st e) k =
      let P : O.Pattern-F Expr Pattern Qual Alt Branch Guard Item Segment → Type 0 = λ v. PatternPlace s v a in
      inner s (APattern pt) a st (subst P (sym (out_target pt at name e)) k)
  met s at name a (in_segment _ on last sg _ _ st ne e) k =
      let P : O.Expr-F Expr Pattern Qual Alt Branch Guard Item Segment → Type 0 = λ v. ValuePlace s v a in
      inner s (ASegment on last sg) a st (on_target s on sg a ne (subst P (sym (out_var sg.value at name e)) k))

  pub to_inner : (a : Place) → IsPlace f a → InnerPlace f a
  to_inner _ (read s at name bound_at r h) =
      let a : Place = record { at = at; bound_at = bound_at } in
      let P : O.Expr-F Expr Pattern Qual Alt Branch Guard Item Segment → Type 0 = λ v. ExprPlace s v a in
      inner s (AnExpr r.expr) a r.stands (subst P (sym (out_var r.expr at name r.is)) (refl, h))
  to_inner _ (compared s at name bound_at t h) = met s at name (record { at = at; bound_at = bound_at }) t (refl, inl h)
  to_inner _ (bound s at name t h) = met s at name (record { at = at; bound_at = at }) t (refl, inr (h, refl))

  placed : (a b : Place) → a ≡ b → IsPlace f a → IsPlace f b
  placed a b e h = subst (IsPlace f) e h

  at_place : (a : Place) (at bound_at : Span) → a.at ≡ at → a.bound_at ≡ bound_at → record { at = at; bound_at = bound_at } ≡ a
  at_place a at bound_at e h =
      let g : Span → Place = λ z. record { at = z; bound_at = bound_at } in
      let k : Span → Place = λ z. record { at = a.at; bound_at = z } in
      ap g (sym e) ∙ ap k (sym h)

  from_met : (s : Scope) (at : Span) (name : List ℕ) (a : Place) → IsTarget f s at name → Meets s.known at name a → IsPlace f a
  from_met s at name a t (e, inl h) = placed _ a (at_place a at a.bound_at e refl) (compared s at name a.bound_at t h)
  from_met s at name a t (e, inr h) = placed _ a (at_place a at at e h.1) (bound s at name t h.0)

  from_expr : (s : Scope) (e : Expr) (a : Place) → Stands f s (AnExpr e) → (v : O.Expr-F Expr Pattern Qual Alt Branch Guard Item Segment) → e ≡ roll-Expr v → ExprPlace s v a → IsPlace f a
  from_expr s e a st (O.Expr::Var at name) h k = placed _ a (at_place a at a.bound_at k.0 refl) (read s at name a.bound_at (record { expr = e; is = h ∙ x.rolls-Var at name; stands = st }) k.1)
  from_expr s e a st _ h k = absurd k

  from_pattern : (s : Scope) (pt : Pattern) (a : Place) → Stands f s (APattern pt) → (v : O.Pattern-F Expr Pattern Qual Alt Branch Guard Item Segment) → pt ≡ roll-Pattern v → PatternPlace s v a → IsPlace f a
  from_pattern s pt a st (O.Pattern::Var at name) h k = from_met s at name a (in_pattern s pt at name st (h ∙ p.rolls-Var at name)) k
  from_pattern s pt a st _ h k = absurd k

  from_value : (s : Scope) (on : SideUse) (last : Bool) (sg : Segment) (a : Place) → Stands f s (ASegment on last sg) → on ≢ side.Build → (v : O.Expr-F Expr Pattern Qual Alt Branch Guard Item Segment) → sg.value ≡ roll-Expr v → ValuePlace s v a → IsPlace f a
  from_value s on last sg a st ne (O.Expr::Var at name) h k = from_met s at name a (in_segment s on last sg at name st ne (h ∙ x.rolls-Var at name)) k
  from_value s on last sg a st ne _ h k = absurd k

  from_own : (s : Scope) (y : Part) (a : Place) → Stands f s y → OwnPlace s y a → IsPlace f a
  from_own s (AnExpr e) a st k = from_expr s e a st (out-Expr e) (sym (roll-out-Expr e)) k
  from_own s (APattern pt) a st k = from_pattern s pt a st (out-Pattern pt) (sym (roll-out-Pattern pt)) k
  from_own s (ABody is) a st k = absurd k
  from_own s (ASegment side.Build last sg) a st k = absurd k
  from_own s (ASegment side.Match last sg) a st k = from_value s side.Match last sg a st (λ e. cc) (out-Expr sg.value) (sym (roll-out-Expr sg.value)) k
  from_own s (ASegment side.Generator last sg) a st k = from_value s side.Generator last sg a st (λ e. cc) (out-Expr sg.value) (sym (roll-out-Expr sg.value)) k

  pub from_inner : (a : Place) → InnerPlace f a → IsPlace f a
  from_inner a (d, (u, o)) = from_own d.scope d.part a (under_stands f u.root d (root_stands f u.root u.among) u.under) o
