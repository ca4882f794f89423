-- The order of places in a text.
use Rattle.std.proofs.Common.{◌≡◌, ℕ, Bool, true, false, refl, sym, ◌∙◌, ap, nat_eq, ◌&&◌, arith}
use Rattle.std.specs.Cmp.{IsTotalOrder, IsEquivalence, tied_then}
use Rattle.std.specs.Ordering.{nat_cmp, is_eq, eq_by_cmp}
use Rattle.std.proofs.lemmas.Bool.Decides.{Decides-eqb, nat_tests}
use Rattle.std.proofs.lemmas.Cmp.{nat_cmp_total, on_total, then_total, eq_by_cmp_equiv}
use Rattle.module_check.specs.declared.places.Position.{Position}
use Rattle.module_check.specs.declared.places.Occurrence.{Occurrence}
use Rattle.module_check.specs.Numbers.{position_cmp, occurrence_cmp, same_position}

pub position_total : IsTotalOrder position_cmp
position_total = then_total (on_total (λ (p : Position). p.line) nat_cmp_total) (on_total (λ (p : Position). p.column) nat_cmp_total)

pub occurrence_total : IsTotalOrder occurrence_cmp
occurrence_total = then_total (on_total (λ (o : Occurrence). o.at) position_total) (on_total (λ (o : Occurrence). o.bound_at) position_total)

abbrev pub same_occurrence : Occurrence → Occurrence → Bool
same_occurrence a b = same_position a.at b.at && same_position a.bound_at b.bound_at

nat_ties : (m n : ℕ) → nat_eq m n ≡ is_eq (nat_cmp m n)
nat_ties m n = grind (arith, nat_tests)

pub position_ties : (a b : Position) → same_position a b ≡ eq_by_cmp position_cmp a b
position_ties a b = ap (λ t. t && nat_eq a.column b.column) (nat_ties a.line b.line) ∙ ap (λ t. is_eq (nat_cmp a.line b.line) && t) (nat_ties a.column b.column) ∙ tied_then (nat_cmp a.line b.line) (nat_cmp a.column b.column)

pub occurrence_ties : (a b : Occurrence) → same_occurrence a b ≡ eq_by_cmp occurrence_cmp a b
occurrence_ties a b = ap (λ t. t && same_position a.bound_at b.bound_at) (position_ties a.at b.at) ∙ ap (λ t. is_eq (position_cmp a.at b.at) && t) (position_ties a.bound_at b.bound_at) ∙ tied_then (position_cmp a.at b.at) (position_cmp a.bound_at b.bound_at)

pub same_line : (a b : Position) → a.line ≡ b.line → a.column ≡ b.column → a ≡ b
same_line a b e h =
    let f : ℕ → Position = λ l. record { line = l; column = a.column } in
    let g : ℕ → Position = λ k. record { line = b.line; column = k } in
    ap f e ∙ ap g h

both : (a b : Bool) → (a && b) ≡ true → (a ≡ true) × (b ≡ true)
both true true h = (refl, refl)
both true false h = cc
both false true h = cc
both false false h = cc

pub position_is : (a b : Position) → same_position a b ≡ true → a ≡ b
position_is a b h =
    let k = both (nat_eq a.line b.line) (nat_eq a.column b.column) h in
    same_line a b ((Decides-eqb a.line b.line).0 k.0) ((Decides-eqb a.column b.column).0 k.1)

joined_true : (a b : Bool) → a ≡ true → b ≡ true → (a && b) ≡ true
joined_true true true h k = refl
joined_true true false h k = cc
joined_true false b h k = cc

pub position_same : (a b : Position) → a ≡ b → same_position a b ≡ true
position_same a b e = joined_true _ _ ((Decides-eqb a.line b.line).1 (ap (λ (p : Position). p.line) e)) ((Decides-eqb a.column b.column).1 (ap (λ (p : Position). p.column) e))

same_places : (a b : Occurrence) → a.at ≡ b.at → a.bound_at ≡ b.bound_at → a ≡ b
same_places a b e h =
    let f : Position → Occurrence = λ z. record { at = z; bound_at = a.bound_at } in
    let g : Position → Occurrence = λ z. record { at = b.at; bound_at = z } in
    ap f e ∙ ap g h

pub occurrence_is : (a b : Occurrence) → same_occurrence a b ≡ true → a ≡ b
occurrence_is a b h =
    let k = both (same_position a.at b.at) (same_position a.bound_at b.bound_at) h in
    same_places a b (position_is a.at b.at k.0) (position_is a.bound_at b.bound_at k.1)

pub occurrence_equiv : IsEquivalence same_occurrence
occurrence_equiv =
    let e = eq_by_cmp_equiv occurrence_total in
    record {
      refl = λ x. occurrence_ties x x ∙ e.refl x;
      symm = λ x y. occurrence_ties x y ∙ e.symm x y ∙ sym (occurrence_ties y x);
      congr = λ x y z h. occurrence_ties x z ∙ e.congr x y z (sym (occurrence_ties x y) ∙ h) ∙ sym (occurrence_ties y z);
    }
