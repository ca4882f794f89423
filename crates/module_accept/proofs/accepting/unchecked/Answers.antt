use Rattle.std.proofs.Common.{rules, ap, ◌∙◌, inl, inr}
use Rattle.module_accept.specs.Accepting.{of_module}
use Rattle.module_accept.specs.Causes.{line_of}
use Rattle.module_accept.proofs.accepting.unchecked.Goals as goal

pub returns-in-Ok-clause-told : goal.returns-in-Ok-clause-told
returns-in-Ok-clause-told c = λ text m reads h. elim h [
  | inl e ↦ absurd (search rules)
  | inr f ↦ of_module m c.args.fault.span c.args.fault.why reads f (c.in-Ok.ensures ∙ ap (λ v. line_of c.args.fault.span v) c.check_text.ensures)
]
