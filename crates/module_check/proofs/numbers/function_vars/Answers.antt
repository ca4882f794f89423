use Rattle.std.proofs.Common.{◌≡◌, List, map, ◌∙◌, ap, subst}
use Rattle.std.specs.List.{Contains}
use Rattle.std.specs.List.Sorted.{IsStrictlySortedBy}
use Rattle.std.proofs.lemmas.Result.{IfOk-weaker}
use Rattle.erl_syntax.specs.Checking.{use_at}
use Rattle.module_check.specs.declared.places.Position.{Position}
use Rattle.module_check.specs.declared.places.Occurrence.{Occurrence}
use Rattle.module_check.specs.Numbers.{position_cmp, binders_in}
use Rattle.module_check.specs.Places.{span_of, seen}
use Rattle.module_check.proofs.Neighbours.{apart_where_told}
use Rattle.module_check.proofs.Numbered.{numbered}
use Rattle.module_check.proofs.numbers.function_vars.Goals as goal

pub returns : goal.returns
returns c = IfOk-weaker c.uses_of.result _ _ (λ us h.
    let P : List Occurrence → Type 0 = λ os. IsStrictlySortedBy position_cmp c.deref-3.result.now → ((o : Occurrence) → Contains os o → Contains c.deref-3.result.now o.bound_at) → us.items ≡ map (use_at (map span_of c.deref-3.result.now)) (map seen os) in
    let Q : List Position → Type 0 = λ bs. IsStrictlySortedBy position_cmp bs → ((o : Occurrence) → Contains c.in_ok-occurrences.occurrences.items o → Contains bs o.bound_at) → us.items ≡ map (use_at (map span_of bs)) (map seen c.in_ok-occurrences.occurrences.items) in
    let apart = apart_where_told c.in_ok-occurrences.occurrences.items c.deref.result.now c.stand_apart.result c.deref.ensures.value c.stand_apart.ensures c.in_ok-occurrences.ensures.rising c.if-not-stand_apart.false in
    numbered c.args.function.now c.in_ok-found.found.items c.in_ok-occurrences.occurrences.items c.in_ok-binders.binders.items us.items c.in_ok-found.ensures c.in_ok-occurrences.ensures.rising c.in_ok-occurrences.ensures.same (c.in_ok-binders.ensures ∙ ap binders_in c.deref-2.ensures.value) (subst Q c.deref-3.ensures.value (subst P c.deref-4.ensures.value h)) apart) c.uses_of.ensures
