-- The faults of a module are those of its parts.
use Rattle.std.proofs.Common.{◌≡◌, ◌≢◌, ℕ, suc, ◌+◌, ◌<◌, ◌≤◌, Bool, List, [], ◌∷◌, ◌++◌, length, get_or, take, drop, Some, None, refl, sym, ◌∙◌, ap, subst, ◌⊎◌, inl, inr, arith, lit<}
use Rattle.std.specs.List.{Contains}
use Rattle.std.proofs.Common.{◌-◌}
use Rattle.std.proofs.Math.Nat.{eq-or-lt_of_le}
use Rattle.std.proofs.lemmas.List.{take_at, get_or-drop, length-drop, length-append, get_or_default}
use Rattle.std.proofs.Math.Seq.{split_at, get_or-append_seam}
use Rattle.erl_syntax.specs.Scopes.{Scope, Part, AnExpr, APattern, ABody, ASegment, Stands}
use Rattle.erl_syntax.specs.Checking.{CallsBuiltIn, IsCalled, IsTarget, in_pattern, in_segment, IsRead, Fault, segment, module_again, heads_differ, function_again, built_in_again, export_missing, undefined, call_in_guard, unbound, unsafe_read, unsafe_target, no_module, no_main, StandsBefore, check_causes, IsFirstFault, IsAccepted}
use Rattle.erl_syntax.specs.declared.span.Span.{Span}
use Rattle.erl_syntax.specs.declared.expr.Expr.{Expr, out-Expr, roll-Expr, out-roll-Expr, roll-out-Expr}
use Rattle.erl_syntax.specs.declared.expr.Expr.TheVariants as x
use Rattle.erl_syntax.specs.declared.expr.Expr.TheOpen as O
use Rattle.erl_syntax.specs.declared.pattern.Pattern.{Pattern, out-Pattern, roll-Pattern, out-roll-Pattern, roll-out-Pattern}
use Rattle.erl_syntax.specs.declared.pattern.Pattern.TheVariants as p
use Rattle.erl_syntax.specs.declared.segment.Segment.{Segment}
use Rattle.erl_syntax.specs.declared.qual.Qual.{Qual}
use Rattle.erl_syntax.specs.declared.clause.Item.{Item}
use Rattle.erl_syntax.specs.declared.clause.Guard.{Guard}
use Rattle.erl_syntax.specs.declared.clause.Alt.{Alt}
use Rattle.erl_syntax.specs.declared.clause.Branch.{Branch}
use Rattle.erl_syntax.specs.declared.module.Module.{Module}
use Rattle.erl_syntax.specs.declared.module.Head.{Head}
use Rattle.erl_syntax.specs.declared.module.Function.{Function}
use Rattle.erl_syntax.specs.declared.module.Clause.{Clause}
use Rattle.erl_syntax.specs.declared.typing.SideUse.{SideUse}
use Rattle.erl_syntax.specs.declared.typing.SideUse.TheVariants as side
use Rattle.erl_syntax.specs.declared.typing.SegFault.TheVariants as sf
use Rattle.erl_syntax.specs.declared.checking.CheckCause.{CheckCause}
use Rattle.erl_syntax.specs.declared.checking.CheckCause.TheVariants as c
use Rattle.erl_syntax.specs.declared.checking.CheckFault.{CheckFault}
use Rattle.module_check.specs.Order.{rank, IsLeast, Either, Some_of, At}
use Rattle.module_check.specs.Spots.{spot}
use Rattle.module_check.specs.Faults.{rest, HeadFault, IsAmong, ClausesFault, FirstClause, BareFault, CallFault, UnsafeFault, ReadFault, ExprFault, PatternFault, TargetFault, TypeFault, SegmentFault, Own, InnerFault, FunctionFault, AnyFault}
use Rattle.module_check.proofs.Complete.{complete}
use Rattle.module_check.proofs.Sound.{root_stands, under_stands}

pub out_var : (e : Expr) (at : Span) (name : List ℕ) → e ≡ x.Var at name → out-Expr e ≡ O.Expr::Var at name
out_var e at name h = ap out-Expr (h ∙ sym (x.rolls-Var at name)) ∙ out-roll-Expr (O.Expr::Var at name)

out_call : (e : Expr) (at : Span) (home : List Expr) (name : ℕ) (args : List Expr) → e ≡ x.Call at home name args → out-Expr e ≡ O.Call at home name args
out_call e at home name args h = ap out-Expr (h ∙ sym (x.rolls-Call at home name args)) ∙ out-roll-Expr (O.Call at home name args)

pub out_target : (pt : Pattern) (at : Span) (name : List ℕ) → pt ≡ p.Var at name → out-Pattern pt ≡ O.Pattern::Var at name
out_target pt at name h = ap out-Pattern (h ∙ sym (p.rolls-Var at name)) ∙ out-roll-Pattern (O.Pattern::Var at name)

module _ (m : Module) where
  -- in some function
  in_function : (f : Function) (at : Span) (why : CheckCause) → Contains m.functions f → ((k : ℕ) → k < length m.functions → f ≡ get_or m.functions k f → Either (ClausesFault (take k m.functions) f f.clauses) (InnerFault m f) at why) → AnyFault m at why
  in_function f at why h k = inr (inl (h.0, (h.1, (f, ((h.1, sym h.2), k h.0 h.1 (sym h.2))))))

  inner : (f : Function) (s : Scope) (part : Part) (at : Span) (why : CheckCause) → Contains m.functions f → Stands f s part → Own m s part at why → AnyFault m at why
  inner f s part at why h st o = in_function f at why h (λ k l e. inr (spot s part, (complete f s part st, o)))

  by_clauses : (f : Function) (first : Clause) (others : List Clause) (at : Span) (why : CheckCause) → Contains m.functions f → f.clauses ≡ first ∷ others → ((k : ℕ) → k < length m.functions → f ≡ get_or m.functions k f → ClausesFault (take k m.functions) f (first ∷ others) at why) → AnyFault m at why
  by_clauses f first others at why h e k =
      in_function f at why h (λ j l g. inl (let P : List Clause → Type 0 = λ cl. ClausesFault (take j m.functions) f cl at why in subst P (sym e) (k j l g)))

  called : (s : Scope) (az : Span) (home : List Expr) (name : ℕ) (args : List Expr) (at : Span) (why : CheckCause) → IsCalled m s az home name args → CallFault m s.guarded az home name (length args) at why → AnyFault m at why
  called s az home name args at why h k =
      let P : O.Expr-F Expr Pattern Qual Alt Branch Guard Item Segment → Type 0 = λ v. ExprFault m s v at why in
      inner h.stands.function s (AnExpr h.expr) at why h.stands.among h.stands.stands (subst P (sym (out_call h.expr az home name args h.is)) k)

  was_read : (f : Function) (s : Scope) (az : Span) (name : List ℕ) (at : Span) (why : CheckCause) → Contains m.functions f → IsRead f s az name → ReadFault s az name at why → AnyFault m at why
  was_read f s az name at why i h k =
      let P : O.Expr-F Expr Pattern Qual Alt Branch Guard Item Segment → Type 0 = λ v. ExprFault m s v at why in
      inner f s (AnExpr h.expr) at why i h.stands (subst P (sym (out_var h.expr az name h.is)) k)

  by_side : (s : Scope) (on : SideUse) (last : Bool) (sg : Segment) (at : Span) (why : CheckCause) → TypeFault on last sg at why → SegmentFault s on last sg at why
  by_side s side.Build last sg at why h = h
  by_side s side.Match last sg at why h = inl h
  by_side s side.Generator last sg at why h = inl h

  on_target : (s : Scope) (on : SideUse) (last : Bool) (sg : Segment) (at : Span) (why : CheckCause) → on ≢ side.Build → TargetFault s (out-Expr sg.value) at why → SegmentFault s on last sg at why
  on_target s side.Build last sg at why ne h = absurd (ne refl)
  on_target s side.Match last sg at why ne h = inr h
  on_target s side.Generator last sg at why ne h = inr h

  was_target : (f : Function) (s : Scope) (az : Span) (name : List ℕ) (at : Span) (why : CheckCause) → Contains m.functions f → IsTarget f s az name → UnsafeFault s az name at why → AnyFault m at why
  was_target f s az name at why i (in_pattern _ pt _ _ st e) k =
      let P : O.Pattern-F Expr Pattern Qual Alt Branch Guard Item Segment → Type 0 = λ v. PatternFault s v at why in
      inner f s (APattern pt) at why i st (subst P (sym (out_target pt az name e)) k)
  was_target f s az name at why i (in_segment _ on last sg _ _ st ne e) k =
      let P : O.Expr-F Expr Pattern Qual Alt Branch Guard Item Segment → Type 0 = λ v. TargetFault s v at why in
      inner f s (ASegment on last sg) at why i st (on_target s on last sg at why ne (subst P (sym (out_var sg.value az name e)) k))

  again : (f : Function) (front back : List Function) → m.functions ≡ front ++ f ∷ back → (k : ℕ) → k ≡ length front → take k m.functions ≡ front
  again f front back e k h = ap (take k) e ∙ take_at front (f ∷ back) k (sym h)

  pub whole : (at : Span) (why : CheckCause) → Fault m at why → AnyFault m at why
  whole _ _ (segment s on last sg f h k) = inner h.function s (ASegment on last sg) _ _ h.among h.stands (by_side s on last sg _ _ (f, (k, (refl, refl))))
  whole _ _ (module_again h hs twice e i) = inl (inl (let P : List Head → Type 0 = λ zs. Some_of HeadFault (rest zs) twice.at c.ModuleAgain in subst P (sym e) (twice, (i, (refl, refl)))))
  whole _ _ (heads_differ f first cls other h e i d) = by_clauses f first cls _ _ h e (λ k l g. inr (other, (i, ((refl, refl), d))))
  whole _ _ (function_again front f back first cls before e1 e2 i n a) =
      let at_seam : get_or m.functions (length front) f ≡ f = ap (λ zs. get_or zs (length front) f) e1 ∙ get_or-append_seam front f back f in
      let P : List Function → Type 0 = λ zs. Contains zs f in
      let within : length front < length m.functions = (let Q : List Function → Type 0 = λ zs. length front < length zs in subst Q (sym e1) (simp length-append (omega arith))) in
      let F : List Function → Type 0 = λ zs. IsAmong zs f.name f.arity in
      let G : List Clause → Type 0 = λ cl. ClausesFault (take (length front) m.functions) f cl first.at c.FunctionAgain in
      inr (inl (length front, (within, (f, ((within, sym at_seam), inl (subst G (sym e2) (inl ((refl, refl), subst F (sym (again f front back e1 (length front) refl)) (before, (i, (n, a)))))))))))
  whole _ _ (built_in_again f first cls b s at args h e hb k l) =
      let P : ℕ → Type 0 = λ n. CallsBuiltIn m [] f.name n b in
      let Q : List Clause → Type 0 = λ cl. FirstClause cl first.at c.FunctionAgain in
      called s at [] f.name args _ _ k (inr (inr ((b, subst P (sym l) hb), (f, (h, ((refl, sym l), subst Q (sym e) (refl, refl)))))))
  whole _ _ (export_missing e i k) = inl (inr (e, (i, ((refl, refl), k))))
  whole _ _ (undefined s at home name args h k l) = called s at home name args _ _ h (inl ((refl, refl), ((λ o. k o.0 o.1), l)))
  whole _ _ (call_in_guard s at home name args h g k) = called s at home name args _ _ h (inr (inl ((refl, refl), (g, (λ o. k o.0 o.1.0 o.1.1)))))
  whole _ _ (unbound f s at name i r k u) = was_read f s at name _ _ i r (inl ((refl, refl), (k, u)))
  whole _ _ (unsafe_read f s at name i r u) = was_read f s at name _ _ i r (inr ((refl, refl), u))
  whole _ _ (unsafe_target f s at name i r u) = was_target f s at name _ _ i r ((refl, refl), u)
  whole _ _ (no_module h) = inr (inr (inl (h, (refl, refl))))
  whole _ _ (no_main h) = inr (inr (inr (h, (refl, refl))))

  placed : (az : Span) (other : CheckCause) (at : Span) (why : CheckCause) → At az other at why → Fault m az other → Fault m at why
  placed az other at why e h =
      let P : Span → Type 0 = λ z. Fault m z other in
      let Q : CheckCause → Type 0 = λ v. Fault m at v in
      subst Q e.1 (subst P e.0 h)

  first_among : (f : Function) (cl : List Clause) (at : Span) (why : CheckCause) → f.clauses ≡ cl → FirstClause cl at why → ((first : Clause) (others : List Clause) → f.clauses ≡ first ∷ others → Fault m first.at c.FunctionAgain) → Fault m at why
  first_among f [] at why e h k = absurd h
  first_among f (first ∷ others) at why e h k = placed first.at c.FunctionAgain at why h (k first others e)

  from_bare : (s : Scope) (az : Span) (home : List Expr) (name : ℕ) (args : List Expr) (at : Span) (why : CheckCause) → IsCalled m s az home name args → BareFault m home name (length args) at why → Fault m at why
  from_bare s az [] name args at why h ((b, o), (f, (i, (n, r)))) =
      let P : ℕ → Type 0 = λ v. CallsBuiltIn m [] v (length args) b in
      let Q : ℕ → Type 0 = λ v. CallsBuiltIn m [] f.name v b in
      let R : ℕ → Type 0 = λ v. IsCalled m s az [] v args in
      first_among f f.clauses at why refl r (λ first others e. built_in_again f first others b s az args i e (subst Q (sym n.1) (subst P (sym n.0) o)) (subst R (sym n.0) h) (sym n.1))
  from_bare s az (home ∷ more) name args at why h k = absurd k

  from_call : (s : Scope) (az : Span) (home : List Expr) (name : ℕ) (args : List Expr) (at : Span) (why : CheckCause) → IsCalled m s az home name args → CallFault m s.guarded az home name (length args) at why → Fault m at why
  from_call s az home name args at why h (inl k) = placed az c.UndefinedFunction at why k.0 (undefined s az home name args h (λ b o. k.1.0 (b, o)) k.1.1)
  from_call s az home name args at why h (inr (inl k)) = placed az c.CallInGuard at why k.0 (call_in_guard s az home name args h k.1.0 (λ b o g. k.1.1 (b, (o, g))))
  from_call s az home name args at why h (inr (inr k)) = from_bare s az home name args at why h k

  from_read : (f : Function) (s : Scope) (az : Span) (name : List ℕ) (at : Span) (why : CheckCause) → Contains m.functions f → IsRead f s az name → ReadFault s az name at why → Fault m at why
  from_read f s az name at why i h (inl k) = placed az c.UnboundVariable at why k.0 (unbound f s az name i h k.1.0 k.1.1)
  from_read f s az name at why i h (inr k) = placed az c.UnsafeVariable at why k.0 (unsafe_read f s az name i h k.1)

  from_expr : (f : Function) (s : Scope) (e : Expr) (at : Span) (why : CheckCause) → Contains m.functions f → Stands f s (AnExpr e) → (v : O.Expr-F Expr Pattern Qual Alt Branch Guard Item Segment) → e ≡ roll-Expr v → ExprFault m s v at why → Fault m at why
  from_expr f s e at why i st (O.Expr::Var az name) h k = from_read f s az name at why i (record { expr = e; is = h ∙ x.rolls-Var az name; stands = st }) k
  from_expr f s e at why i st (O.Call az home name args) h k =
      from_call s az home name args at why (record { expr = e; is = h ∙ x.rolls-Call az home name args; stands = record { function = f; among = i; stands = st } }) k
  from_expr f s e at why i st _ h k = absurd k

  from_target : (f : Function) (s : Scope) (az : Span) (name : List ℕ) (at : Span) (why : CheckCause) → Contains m.functions f → IsTarget f s az name → UnsafeFault s az name at why → Fault m at why
  from_target f s az name at why i h k = placed az c.UnsafeVariable at why k.0 (unsafe_target f s az name i h k.1)

  from_pattern : (f : Function) (s : Scope) (pt : Pattern) (at : Span) (why : CheckCause) → Contains m.functions f → Stands f s (APattern pt) → (v : O.Pattern-F Expr Pattern Qual Alt Branch Guard Item Segment) → pt ≡ roll-Pattern v → PatternFault s v at why → Fault m at why
  from_pattern f s pt at why i st (O.Pattern::Var az name) h k = from_target f s az name at why i (in_pattern s pt az name st (h ∙ p.rolls-Var az name)) k
  from_pattern f s pt at why i st _ h k = absurd k

  from_value : (f : Function) (s : Scope) (on : SideUse) (last : Bool) (sg : Segment) (at : Span) (why : CheckCause) → Contains m.functions f → Stands f s (ASegment on last sg) → on ≢ side.Build → (v : O.Expr-F Expr Pattern Qual Alt Branch Guard Item Segment) → sg.value ≡ roll-Expr v → TargetFault s v at why → Fault m at why
  from_value f s on last sg at why i st ne (O.Expr::Var az name) h k = from_target f s az name at why i (in_segment s on last sg az name st ne (h ∙ x.rolls-Var az name)) k
  from_value f s on last sg at why i st ne _ h k = absurd k

  from_type : (f : Function) (s : Scope) (on : SideUse) (last : Bool) (sg : Segment) (at : Span) (why : CheckCause) → Contains m.functions f → Stands f s (ASegment on last sg) → TypeFault on last sg at why → Fault m at why
  from_type f s on last sg at why i st k = placed sg.at (c.Segment k.0) at why k.1.1 (segment s on last sg k.0 (record { function = f; among = i; stands = st }) k.1.0)

  from_segment : (f : Function) (s : Scope) (on : SideUse) (last : Bool) (sg : Segment) (at : Span) (why : CheckCause) → Contains m.functions f → Stands f s (ASegment on last sg) → SegmentFault s on last sg at why → Fault m at why
  from_segment f s side.Build last sg at why i st k = from_type f s side.Build last sg at why i st k
  from_segment f s side.Match last sg at why i st (inl k) = from_type f s side.Match last sg at why i st k
  from_segment f s side.Match last sg at why i st (inr k) = from_value f s side.Match last sg at why i st (λ e. cc) (out-Expr sg.value) (sym (roll-out-Expr sg.value)) k
  from_segment f s side.Generator last sg at why i st (inl k) = from_type f s side.Generator last sg at why i st k
  from_segment f s side.Generator last sg at why i st (inr k) = from_value f s side.Generator last sg at why i st (λ e. cc) (out-Expr sg.value) (sym (roll-out-Expr sg.value)) k

  from_own : (f : Function) (s : Scope) (part : Part) (at : Span) (why : CheckCause) → Contains m.functions f → Stands f s part → Own m s part at why → Fault m at why
  from_own f s (AnExpr e) at why i st k = from_expr f s e at why i st (out-Expr e) (sym (roll-out-Expr e)) k
  from_own f s (APattern pt) at why i st k = from_pattern f s pt at why i st (out-Pattern pt) (sym (roll-out-Pattern pt)) k
  from_own f s (ABody is) at why i st k = absurd k
  from_own f s (ASegment on last sg) at why i st k = from_segment f s on last sg at why i st k

  from_heads : (hs : List Head) (at : Span) (why : CheckCause) → m.heads ≡ hs → Some_of HeadFault (rest hs) at why → Fault m at why
  from_heads [] at why e k = absurd (omega (arith, k.1.0.1))
  from_heads (h ∷ hs) at why e k = placed k.0.at c.ModuleAgain at why k.1.1 (module_again h hs k.0 e k.1.0)

  from_clauses : (j : ℕ) (f : Function) (cl : List Clause) (at : Span) (why : CheckCause) → j < length m.functions → f ≡ get_or m.functions j f → f.clauses ≡ cl → ClausesFault (take j m.functions) f cl at why → Fault m at why
  from_clauses j f [] at why l g e k = absurd k
  from_clauses j f (first ∷ others) at why l g e (inl k) =
      let cut : m.functions ≡ take j m.functions ++ f ∷ drop (suc j) m.functions = split_at m.functions j f l ∙ ap (λ z. take j m.functions ++ z ∷ drop (suc j) m.functions) (sym g) in
      placed first.at c.FunctionAgain at why k.0 (function_again (take j m.functions) f (drop (suc j) m.functions) first others k.1.0 cut e k.1.1.0 k.1.1.1.0 k.1.1.1.1)
  from_clauses j f (first ∷ others) at why l g e (inr k) = placed k.0.at c.HeadsDiffer at why k.1.1.0 (heads_differ f first others k.0 (j, l, sym g) e k.1.0 k.1.1.1)

  from_function : (j : ℕ) (at : Span) (why : CheckCause) → FunctionFault m j at why → Fault m at why
  from_function j at why (f, ((l, g), inl k)) = from_clauses j f f.clauses at why l g refl k
  from_function j at why (f, ((l, g), inr (d, (u, o)))) =
      from_own f d.scope d.part at why (j, l, sym g) (under_stands f u.root d (root_stands f u.root u.among) u.under) o

  pub from_whole : (at : Span) (why : CheckCause) → AnyFault m at why → Fault m at why
  from_whole at why (inl (inl k)) = from_heads m.heads at why refl k
  from_whole at why (inl (inr (e, (i, (k, n))))) = placed e.at c.ExportMissing at why k (export_missing e i n)
  from_whole at why (inr (inl (j, (l, k)))) = from_function j at why k
  from_whole at why (inr (inr (inl k))) = placed m.last c.NoModule at why k.1 (no_module k.0)
  from_whole at why (inr (inr (inr k))) = placed m.last c.NoMain at why k.1 (no_main k.0)

-- each cause of a fault has its place in the list of causes
standing : (why : CheckCause) → (why ≡ c.NoMemory → ⊥) → (rank why < 19) × (get_or check_causes (rank why) why ≡ why)
standing (c.Segment sf.TwoOfAKind) h = (lit< tt, refl)
standing (c.Segment sf.UnitRange) h = (lit< tt, refl)
standing (c.Segment sf.FloatType) h = (lit< tt, refl)
standing (c.Segment sf.SizeOnUtf) h = (lit< tt, refl)
standing (c.Segment sf.UnitOnUtf) h = (lit< tt, refl)
standing (c.Segment sf.UnitWithoutSize) h = (lit< tt, refl)
standing (c.Segment sf.StringType) h = (lit< tt, refl)
standing (c.Segment sf.OpenNotLast) h = (lit< tt, refl)
standing (c.Segment sf.OpenInGenerator) h = (lit< tt, refl)
standing c.ModuleAgain h = (lit< tt, refl)
standing c.HeadsDiffer h = (lit< tt, refl)
standing c.FunctionAgain h = (lit< tt, refl)
standing c.ExportMissing h = (lit< tt, refl)
standing c.UndefinedFunction h = (lit< tt, refl)
standing c.CallInGuard h = (lit< tt, refl)
standing c.UnboundVariable h = (lit< tt, refl)
standing c.UnsafeVariable h = (lit< tt, refl)
standing c.NoModule h = (lit< tt, refl)
standing c.NoMain h = (lit< tt, refl)
standing c.NoMemory h = absurd (h refl)

told : (m : Module) (at : Span) (why : CheckCause) → Fault m at why → why ≡ c.NoMemory → ⊥
told m _ _ (segment s on last sg f h k) e = cc
told m _ _ (module_again h hs twice f i) e = cc
told m _ _ (heads_differ f first cls other h g i d) e = cc
told m _ _ (function_again front f back first cls before e1 e2 i n a) e = cc
told m _ _ (built_in_again f first cls b s at args h g hb k l) e = cc
told m _ _ (export_missing x i k) e = cc
told m _ _ (undefined s at home name args h k l) e = cc
told m _ _ (call_in_guard s at home name args h g k) e = cc
told m _ _ (unbound f s at name i r k u) e = cc
told m _ _ (unsafe_read f s at name i r u) e = cc
told m _ _ (unsafe_target f s at name i r u) e = cc
told m _ _ (no_module h) e = cc
told m _ _ (no_main h) e = cc

seventh : {X : Type 0} (xs : List X) (i j : ℕ) (a b : X) → i < j → j < length xs → get_or xs i a ≡ a → get_or xs j b ≡ b → (xs ≡ take i xs ++ a ∷ drop (suc i) xs) × Contains (drop (suc i) xs) b
seventh xs i j a b l k e g = (
  split_at xs i a (omega arith) ∙ ap (λ z. take i xs ++ z ∷ drop (suc i) xs) e,
  (j - suc i, simp length-drop (omega arith), get_or-drop (suc i) xs (j - suc i) b ∙ ap (λ n. get_or xs n b) (let q : suc i + (j - suc i) ≡ j = omega arith in q) ∙ g),
)

in_order : (why other : CheckCause) → (why ≡ c.NoMemory → ⊥) → (other ≡ c.NoMemory → ⊥) → rank why ≤ rank other → (why ≡ other) ⊎ StandsBefore why other
in_order why other p q h =
    let a = standing why p in
    let b = standing other q in
    elim (eq-or-lt_of_le h) [
      | inl e ↦ inl (sym a.1 ∙ ap (λ n. get_or check_causes n why) e ∙ get_or_default check_causes (rank other) why other b.0 ∙ b.1)
      | inr l ↦ inr (let k = seventh check_causes (rank why) (rank other) why other l b.0 a.1 b.1 in record { front = take (rank why) check_causes; back = drop (suc (rank why)) check_causes; is = k.0; later = k.1 })
    ]

pub first_fault : (m : Module) (a : CheckFault) → IsLeast (AnyFault m) (Some a) → IsFirstFault m a.span a.why
first_fault m a h =
    let own = from_whole m a.span a.why h.0 in
    record {
      fault = own;
      first = λ az other g. elim (h.1 az other (whole m az other g)) [
        | inl k ↦ inl k
        | inr k ↦ inr (k.0, in_order a.why other (told m a.span a.why own) (told m az other g) k.1)
      ];
    }

pub accepted : (m : Module) → IsLeast (AnyFault m) None → IsAccepted m
accepted m h = λ at why g. h at why (whole m at why g)
