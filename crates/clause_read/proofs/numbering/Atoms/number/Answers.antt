use Rattle.std.proofs.Common.{rules, ap, ◌∙◌, sym, map}
use Rattle.clause_read.proofs.Interning.{keys_inserted, key_number, number_new}
use Rattle.erl_syntax.specs.Reading.{with_atom, number_in}
use Rattle.clause_read.proofs.numbering.Atoms.number.Goals as goal

pub returns-clause-table : goal.returns-clause-table
returns-clause-table c = ap (map (λ name. name.items)) c.in_ok-number.ensures.keys ∙ keys_inserted (λ name. name.items) c.self.inside.names.keys c.in_ok-to_vec.field-0
    ∙ ap (λ table. with_atom table c.in_ok-to_vec.field-0.items) c.self.view_is ∙ ap (with_atom c.args.self.now) (c.in_ok-to_vec.ensures.items_if_clones_equal (search rules))

pub returns-clause-number : goal.returns-clause-number
returns-clause-number c = c.in_ok-number.ensures.index ∙ key_number (λ name. name.items) c.self.inside.names.keys c.in_ok-to_vec.field-0
    ∙ ap (λ table. number_in table c.in_ok-to_vec.field-0.items) c.self.view_is ∙ ap (number_in c.args.self.now) (c.in_ok-to_vec.ensures.items_if_clones_equal (search rules))
    ∙ sym (number_new c.args.self.now c.args.characters.now) ∙ ap (λ table. number_in table c.args.characters.now) (sym (returns-clause-table c))
