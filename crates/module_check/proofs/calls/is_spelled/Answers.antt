use Rattle.std.specs.Str.{bytes_eq}
use Rattle.std.proofs.Common.{arith, ◌∙◌, ◌≡◌, List, ap}
use Rattle.std.proofs.Common.{ℕ, get_or}
use Rattle.module_check.proofs.Calling.{by_text}
use Rattle.module_check.proofs.calls.is_spelled.Goals as goal

pub returns-in-Some : goal.returns-in-Some
returns-in-Some c = by_text c.args.tree.now c.args.atom c.args.chars.now c.in-Some.text.now c.eq.result (let e : c.items.result.now ≡ c.args.tree.now.atoms = c.items.ensures in rw (← e) (omega (arith, c.in-Some.ensures.lookup.3.0))) (c.in-Some.ensures.lookup.1 ∙ ap (λ (zs : List (List ℕ)). get_or zs c.args.atom c.in-Some.text.now) c.items.ensures) (c.eq.ensures ∙ ap (λ (zs : List ℕ). bytes_eq zs c.args.chars.now) c.bytes.ensures)
