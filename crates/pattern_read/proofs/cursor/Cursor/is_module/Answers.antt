use Rattle.std.proofs.Common.{rules, sym, ◌≡◌, ◌∙◌, drop}
use Rattle.std.specs.Cmp.Lexicographic.{other_text}
use Rattle.pattern_read.proofs.Words.{no_variable, other_name, module_yes, name_at}
use Rattle.pattern_read.proofs.cursor.Cursor.is_module.Goals as goal

pub returns-then-not-is-clause-no : goal.returns-then-not-is-clause-no
returns-then-not-is-clause-no c = λ e. no_variable (drop c.args.at c.args.self.now.words) (c.is.ensures.no (search rules))

pub returns-then-eq-clause-yes : goal.returns-then-eq-clause-yes
returns-then-eq-clause-yes c = λ e. module_yes c.args.self.now c.args.at (c.is.ensures.yes (search rules)) (sym (name_at c.args.self.now c.args.at c.bytes.result.now c.bytes.ensures (c.is.ensures.yes (search rules))) ∙ (let h : c.bytes.result.now ≡ c.as_slice.result.now = search rules in h) ∙ c.as_slice.ensures)

pub returns-else-eq-clause-no : goal.returns-else-eq-clause-no
returns-else-eq-clause-no c = λ e. other_name c.args.self.now c.args.at (c.is.ensures.yes (search rules)) (λ h. other_text c.bytes.result.now c.as_slice.result.now (sym (c.if-eq.false) ∙ c.eq.ensures) (name_at c.args.self.now c.args.at c.bytes.result.now c.bytes.ensures (c.is.ensures.yes c.if-not-is.false) ∙ h ∙ sym c.as_slice.ensures))
