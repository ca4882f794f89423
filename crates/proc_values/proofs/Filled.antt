-- The segments with the values of their parts, one by one.
use Rattle.std.proofs.Common.{◌≡◌, Bool, List, [], ◌∷◌, ◌++◌, Option, Some, None, option_map, refl, ap, sym, ◌∙◌, append_assoc, append-nil}
use Rattle.std.proofs.lemmas.List.{map-append}
use Rattle.bits_build.specs.declared.part.Part.{Part}
use Rattle.bits_build.specs.Parts.{part_filled, parts_filled}
use Rattle.erl_syntax.specs.declared.typing.Typed.{Typed}
use Rattle.term_value.specs.Seen.{meanings}
use Rattle.term_value.specs.Terms.{row, value_of}
use Rattle.term_value.specs.Encode.{Filled, filled_by, filled_with}
use Rattle.term_value.specs.declared.term.Term.{Term}

module _ {R : Type 0} (shown : R → List Bool) where
  -- the segments so far, and then these
  abbrev pub filled_on : List (Part R) → Option (List Filled) → Option (List Filled)
  filled_on ps fs = option_map (λ later. parts_filled shown ps ++ later) fs

  joined_more : (ps : List (Part R)) (p : Part R) (fs : Option (List Filled)) → filled_on (ps ++ p ∷ []) fs ≡ filled_on ps (option_map (λ later. part_filled shown p ∷ later) fs)
  joined_more ps p None = refl
  joined_more ps p (Some fs) = ap (λ zs. Some (zs ++ fs)) (map-append (part_filled shown) ps (p ∷ [])) ∙ ap Some (append_assoc (parts_filled shown ps) (part_filled shown p ∷ []) fs)

  module _ (ps : List (Part R)) (waiting : List Typed) (left : List (Term R)) (due : Option (List Filled)) (inv : filled_on ps (filled_with waiting (meanings shown (row left))) ≡ due) where
    module _ (typed : Typed) (types : List Typed) (here : waiting ≡ typed ∷ types) where
      -- no value is left
      pub none_left : left ≡ [] → due ≡ None
      none_left e = sym inv ∙ ap (λ ys. filled_on ps (filled_with ys (meanings shown (row left)))) here ∙ ap (λ ts. filled_on ps (filled_with (typed ∷ types) (meanings shown (row ts)))) e

      next : (t : Term R) (rest : List (Term R)) → left ≡ t ∷ rest → due ≡ filled_on ps (filled_by typed.size typed (value_of shown t) (meanings shown (row rest)) (filled_with types))
      next t rest e = sym inv ∙ ap (λ ys. filled_on ps (filled_with ys (meanings shown (row left)))) here ∙ ap (λ ts. filled_on ps (filled_with (typed ∷ types) (meanings shown (row ts)))) e

      -- its size has no value
      pub none_for_size : (t : Term R) (rest : List (Term R)) → left ≡ t ∷ rest → filled_by typed.size typed (value_of shown t) (meanings shown (row rest)) (filled_with types) ≡ None → due ≡ None
      none_for_size t rest e h = next t rest e ∙ ap (filled_on ps) h

      pub filled_more : (t : Term R) (rest : List (Term R)) → left ≡ t ∷ rest → (p : Part R) (behind : List (Term R))
          → filled_by typed.size typed (value_of shown t) (meanings shown (row rest)) (filled_with types) ≡ option_map (λ later. part_filled shown p ∷ later) (filled_with types (meanings shown (row behind)))
          → filled_on (ps ++ p ∷ []) (filled_with types (meanings shown (row behind))) ≡ due
      filled_more t rest e p behind h = joined_more ps p (filled_with types (meanings shown (row behind))) ∙ ap (filled_on ps) (sym h) ∙ sym (next t rest e)

    pub all_filled : waiting ≡ [] → left ≡ [] → due ≡ Some (parts_filled shown ps)
    all_filled w e = sym inv ∙ ap (λ ys. filled_on ps (filled_with ys (meanings shown (row left)))) w ∙ ap (λ ts. filled_on ps (filled_with [] (meanings shown (row ts)))) e ∙ ap Some (append-nil (parts_filled shown ps))

    pub too_many : waiting ≡ [] → (t : Term R) (rest : List (Term R)) → left ≡ t ∷ rest → due ≡ None
    too_many w t rest e = sym inv ∙ ap (λ ys. filled_on ps (filled_with ys (meanings shown (row left)))) w ∙ ap (λ ts. filled_on ps (filled_with [] (meanings shown (row ts)))) e
