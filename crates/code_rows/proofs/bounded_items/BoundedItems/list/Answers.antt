use Rattle.std.proofs.Common.{◌∙◌, map, ap}
use Rattle.term_value.specs.Value.{VList, row as values}
use Rattle.bit_store.specs.Stores.{itself}
use Rattle.code_tree.specs.PlainTerms.{value}
use Rattle.code_rows.proofs.BoundedRows.{made_list}
use Rattle.code_rows.proofs.bounded_items.BoundedItems.list.Goals as goal

pub returns : goal.returns
returns c =
    ap value c.of.ensures ∙ made_list c.in_ok-list.field-0 c.in-Some.list c.self.inside.items.items c.in-Some.is (c.in_ok-list.ensures.is itself)
    ∙ ap (λ items. VList (values (map value items))) c.self.view_is
