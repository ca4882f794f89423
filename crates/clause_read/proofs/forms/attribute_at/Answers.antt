use Rattle.std.proofs.Common.{rules, ◌∙◌}
use Rattle.clause_read.proofs.FormExits.{no_attribute_at, unknown_at}
use Rattle.clause_read.proofs.forms.attribute_at.Goals as goal

pub returns-then-not-is-clause-attribute : goal.returns-then-not-is-clause-attribute
returns-then-not-is-clause-attribute c = no_attribute_at c.args.cursor.now c.args.at c.requires.begins (c.is.ensures.no c.if-not-is.true)

pub returns-clause-attribute : goal.returns-clause-attribute
returns-clause-attribute c = let t = c.is.ensures.yes (search rules) in unknown_at c.args.cursor.now c.args.at c.bytes.result.now c.requires.begins t (c.bytes.ensures ∙ c.in_ok-characters.ensures t.word _ t.is t.kind_is) c.in-None.ensures
