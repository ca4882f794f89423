-- Literals copied item by item, and bits read as numbers.
use Rattle.std.proofs.Common.{◌≡◌, Bool, List, [], ◌∷◌, ◌++◌, refl, ap, sym, ◌∙◌}
use Rattle.bit_store.specs.Stores.{itself}
use Rattle.term_value.specs.Value.{Values, none, more}
use Rattle.term_value.specs.Seen.{Seen, Row, end, then, meaning, meanings}
use Rattle.term_value.specs.Terms.{row, value_of}
use Rattle.term_value.specs.declared.term.Term.{Term}

-- values and then others
abbrev pub joined : Values → Values → Values
joined none ws = ws
joined (more v vs) ws = more v (joined vs ws)

pub joined_none : (vs : Values) → joined vs none ≡ vs
joined_none none = refl
joined_none (more v vs) = ap (more v) (joined_none vs)

pub joined_last : {R : Type 0} (shown : R → List Bool) (ts : List (Term R)) (t : Term R) (ws : Values) → joined (meanings shown (row (ts ++ t ∷ []))) ws ≡ joined (meanings shown (row ts)) (more (value_of shown t) ws)
joined_last shown [] t ws = refl
joined_last shown (u ∷ ts) t ws = ap (more (value_of shown u)) (joined_last shown ts t ws)

-- one item more, of those that are left
module _ {R : Type 0} (old new : R → List Bool) (ts : List (Term R)) (t : Term R) (item : Seen (List Bool)) (rest left : Row (List Bool)) (all : Values) where
  pub copy_more : meanings new (row ts) ≡ meanings old (row ts) → value_of new t ≡ meaning itself item → left ≡ then item rest → joined (meanings old (row ts)) (meanings itself left) ≡ all
      → joined (meanings new (row (ts ++ t ∷ []))) (meanings itself rest) ≡ all
  copy_more same is e inv =
      joined_last new ts t (meanings itself rest) ∙ ap (λ v. joined (meanings new (row ts)) (more v (meanings itself rest))) is
      ∙ ap (λ ws. joined ws (more (meaning itself item) (meanings itself rest))) same ∙ ap (λ (r : Row (List Bool)). joined (meanings old (row ts)) (meanings itself r)) (sym e) ∙ inv

-- no item is left
pub all_copied : {R : Type 0} (shown : R → List Bool) (ts : List (Term R)) (left : Row (List Bool)) (all : Values) → left ≡ end → joined (meanings shown (row ts)) (meanings itself left) ≡ all → meanings shown (row ts) ≡ all
all_copied shown ts left all e inv = sym (joined_none (meanings shown (row ts))) ∙ ap (λ (r : Row (List Bool)). joined (meanings shown (row ts)) (meanings itself r)) (sym e) ∙ inv
