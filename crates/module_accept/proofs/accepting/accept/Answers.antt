use Rattle.std.proofs.Common.{◌∙◌, ap, inl, inr, sym, subst}
use Rattle.erl_syntax.specs.Reading.{Reads, StandOnce}
use Rattle.erl_syntax.specs.Checking.{IsAccepted}
use Rattle.erl_syntax.specs.declared.module.Module.{Module}
use Rattle.module_accept.proofs.accepting.accept.Goals as goal

pub returns-in-Err-clause-refused : goal.returns-in-Err-clause-refused
returns-in-Err-clause-refused c = c.unread.ensures.told _ c.in-Err.ensures.fault

pub returns-in-Err-clause-none : goal.returns-in-Err-clause-none
returns-in-Err-clause-none c = elim c.in-Err.ensures.none [
  | inl e ↦ inl (c.unread.ensures.memory e)
  | inr f ↦ inr (λ m a. f m a.reads)
]

pub returns-in-Err-check-clause-none : goal.returns-in-Err-check-clause-none
returns-in-Err-check-clause-none c = elim c.in-Err-check.ensures.refused [
  | inl e ↦ inl (c.unchecked.ensures.memory e)
  | inr f ↦ inr (λ m a. subst IsAccepted (c.in-Ok.ensures.only m a.reads) a.accepted _ _ f.fault)
]

pub returns-in-Ok-check-clause-only : goal.returns-in-Ok-check-clause-only
returns-in-Ok-check-clause-only c = λ other reads. c.in-Ok.ensures.only other reads ∙ sym c.in-Ok-check.ensures.accepted

pub returns-in-Ok-check-clause-fixed : goal.returns-in-Ok-check-clause-fixed
returns-in-Ok-check-clause-fixed c =
    let reads : Reads c.args.text.now c.in-Ok.module = c.in-Ok.ensures.module in
    let f = c.atoms_stand_once.ensures.fixed c.args.text.now reads.tokens in
    (f.0, ap (λ m. let t : Module = m in t.atoms) c.in-Ok-check.ensures.accepted ∙ reads.atoms ∙ f.1)

pub returns-in-Ok-check-clause-once : goal.returns-in-Ok-check-clause-once
returns-in-Ok-check-clause-once c =
    let reads : Reads c.args.text.now c.in-Ok.module = c.in-Ok.ensures.module in
    subst StandOnce (sym (ap (λ m. let t : Module = m in t.atoms) c.in-Ok-check.ensures.accepted ∙ reads.atoms)) (c.atoms_stand_once.ensures.once c.args.text.now reads.tokens)
