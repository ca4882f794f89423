use Rattle.std.proofs.Common.{◌≡◌, ◌+◌, ◌∙◌, ◌++◌, ◌∷◌, [], true, false, map, ap, sym, arith, rules}
use Rattle.term_value.specs.Value.{VList, row as values}
use Rattle.term_value.specs.Bounds.{is_within}
use Rattle.term_value.specs.Terms.{seen}
use Rattle.code_tree.specs.PlainTerms.{value}
use Rattle.code_rows.proofs.BoundedRows.{short, known_last, weight_after, depth_after, tested, as_values}
use Rattle.code_rows.proofs.bounded_items.BoundedItems.add.Goals as goal

pub returns-then-not-fits-clause-bounds : goal.returns-then-not-fits-clause-bounds
returns-then-not-fits-clause-bounds c =
    let ts = c.self.inside.items.items in
    let i = c.self.invariant in
    let not_so : c.fits.result ≡ false = search rules in
    sym not_so
    ∙ tested ts c.args.item c.self.inside.weight c.self.inside.depth i.1 i.2 c.weight.result c.saturating_add-weight.result c.depth.result c.max-depth.result c.weight.ensures c.saturating_add-weight.ensures c.depth.ensures c.max-depth.ensures
    (c.len.result + 1) c.saturating_add.result c.saturating_add-2.result c.fits.result (short ts i.3) (omega (arith, c.len.ensures, c.self.inside.items.ok.0)) c.saturating_add.ensures c.saturating_add-2.ensures c.fits.ensures
    ∙ as_values ts c.args.item ∙ ap (λ ss. is_within (VList (values (map value (ss ++ seen c.args.item ∷ []))))) c.self.view_is

pub invariant_of-self-2 : goal.invariant_of-self-2
invariant_of-self-2 c =
    let ts = c.self.inside.items.items in
    let i = c.self.invariant in
    let so : c.fits.result ≡ true = search rules in
    rw c.in_ok-push.ensures.items (
      known_last ts c.args.item i.0 c.requires,
      weight_after ts c.args.item c.self.inside.weight c.self.inside.depth i.1 i.2 c.weight.result c.saturating_add-weight.result c.depth.result c.max-depth.result c.weight.ensures c.saturating_add-weight.ensures c.depth.ensures c.max-depth.ensures,
      depth_after ts c.args.item c.self.inside.weight c.self.inside.depth i.1 i.2 c.weight.result c.saturating_add-weight.result c.depth.result c.max-depth.result c.weight.ensures c.saturating_add-weight.ensures c.depth.ensures c.max-depth.ensures,
      sym (tested ts c.args.item c.self.inside.weight c.self.inside.depth i.1 i.2 c.weight.result c.saturating_add-weight.result c.depth.result c.max-depth.result c.weight.ensures c.saturating_add-weight.ensures c.depth.ensures c.max-depth.ensures
          (c.len.result + 1) c.saturating_add.result c.saturating_add-2.result c.fits.result (short ts i.3) (omega (arith, c.len.ensures, c.self.inside.items.ok.0)) c.saturating_add.ensures c.saturating_add-2.ensures c.fits.ensures) ∙ so,
    )

pub returns-clause-bounds : goal.returns-clause-bounds
returns-clause-bounds c =
    let ts = c.self.inside.items.items in
    let i = c.self.invariant in
    let so : c.fits.result ≡ true = search rules in
    sym so
    ∙ tested ts c.args.item c.self.inside.weight c.self.inside.depth i.1 i.2 c.weight.result c.saturating_add-weight.result c.depth.result c.max-depth.result c.weight.ensures c.saturating_add-weight.ensures c.depth.ensures c.max-depth.ensures
    (c.len.result + 1) c.saturating_add.result c.saturating_add-2.result c.fits.result (short ts i.3) (omega (arith, c.len.ensures, c.self.inside.items.ok.0)) c.saturating_add.ensures c.saturating_add-2.ensures c.fits.ensures
    ∙ as_values ts c.args.item ∙ ap (λ ss. is_within (VList (values (map value (ss ++ seen c.args.item ∷ []))))) c.self.view_is
