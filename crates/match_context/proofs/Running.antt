-- Operations one by one.
use Rattle.std.proofs.Common.{◌≡◌, ℕ, zero, suc, ◌+◌, ◌<◌, ◌≤◌, Bool, true, false, List, [], ◌∷◌, map, length, get_or, drop, refl, ap, sym, subst, ◌∙◌, arith, length-drop}
use Rattle.std.specs.Prelude.{◌||◌}
use Rattle.std.proofs.lemmas.List.{at_drop_more, drop_all}
use Rattle.term_value.specs.Decode as d
use Rattle.term_value.specs.Match.{then_take, all_taken}
use Rattle.term_value.specs.Tree as t
use Rattle.pattern_compile.specs.Meaning.{means, typed_of, target_of, sizes_of, wants, size_form}
use Rattle.pattern_compile.specs.Patterns.{TargetFits, TargetsFit, also, binds, one_binds}
use Rattle.pattern_compile.specs.declared.operation.Operation.{Operation}
use Rattle.match_context.specs.Envs.{Fixed}
use Rattle.match_context.specs.Runs.{closed}

module _ (n : ℕ) (known : ℕ → Bool) (ops : List Operation) (i : ℕ) (o : Operation) (l : i < length ops) where
  fits_here : TargetsFit n known (map wants (drop i ops)) → TargetsFit n known (map wants (get_or ops i o ∷ drop (i + 1) ops))
  fits_here f = subst (λ ys. TargetsFit n known (map wants ys)) (at_drop_more (λ ys. ys) ops i o l) f

  pub target_fits : TargetsFit n known (map wants (drop i ops)) → TargetFits n known (wants (get_or ops i o))
  target_fits f = (fits_here f).0

  -- what is known behind the operation
  pub fits_more : (next : ℕ → Bool) → ((x : ℕ) → next x ≡ also known (wants (get_or ops i o)) x) → TargetsFit n known (map wants (drop i ops)) → TargetsFit n next (map wants (drop (i + 1) ops))
  fits_more next e f =
      let same : also known (wants (get_or ops i o)) ≡ next = λ j x. sym (e x) j in
      subst (λ k. TargetsFit n k (map wants (drop (i + 1) ops))) same (fits_here f).1

abbrev taken_by_op : Fixed → Operation → List t.Bound → List Bool → d.Taken
taken_by_op F op bs bits = d.taken F.setting (typed_of op) (target_of (wants op)) (sizes_of F.trees (size_form op)) bs bits

module _ (F now : Fixed) (kept : now ≡ F) (ops : List Operation) (i : ℕ) (o : Operation) (l : i < length ops) (bs : List t.Bound) (bits : List Bool) (due : d.Taken) (inv : all_taken F.setting (means F.trees (drop i ops)) bs bits ≡ due) where
  pub taken_more : (taken : d.Taken) → taken_by_op now (get_or ops i o) bs bits ≡ taken → then_take taken (all_taken F.setting (means F.trees (drop (i + 1) ops))) ≡ due
  taken_more taken e =
      ap (λ x. then_take x (all_taken F.setting (means F.trees (drop (i + 1) ops)))) (sym e ∙ ap (λ (f : Fixed). taken_by_op f (get_or ops i o) bs bits) kept)
      ∙ sym (at_drop_more (λ ys. all_taken F.setting (means F.trees ys) bs bits) ops i o l) ∙ inv

none_or_first : (a b : Bool) → (a || b) ≡ false → a ≡ false
none_or_first true b e = cc
none_or_first false b e = refl

none_or_last : (a b : Bool) → (a || b) ≡ false → b ≡ false
none_or_last true b e = cc
none_or_last false b e = e

pub not_bound : (ops : List Operation) (i : ℕ) (o : Operation) (x : ℕ) → i < length ops → one_binds (map wants ops) x ≡ false → binds (wants (get_or ops i o)) x ≡ false
not_bound [] i o x l e = absurd (omega arith)
not_bound (op ∷ ops) zero o x l e = none_or_first (binds (wants op) x) (one_binds (map wants ops) x) e
not_bound (op ∷ ops) (suc i) o x l e = not_bound ops i o x (omega arith) (none_or_last (binds (wants op) x) (one_binds (map wants ops) x) e)

pub none_left : (F : Fixed) (ops : List Operation) (i : ℕ) (bs : List t.Bound) (bits : List Bool) (due : d.Taken) → length ops ≤ i → all_taken F.setting (means F.trees (drop i ops)) bs bits ≡ due → due ≡ d.Cut bs bits
none_left F ops i bs bits due l inv = sym inv ∙ ap (λ ys. all_taken F.setting (means F.trees ys) bs bits) (drop_all i ops l)

-- ---- Where nothing may remain

pub open_match : (whole : Bool) (taken : d.Taken) → whole ≡ false → closed whole taken ≡ taken
open_match true taken e = cc
open_match false taken e = refl

ends : (whole : Bool) (bs : List t.Bound) → closed whole (d.Cut bs []) ≡ d.Cut bs []
ends true bs = refl
ends false bs = refl

pub closed_match : (whole : Bool) (bs : List t.Bound) (at : ℕ) (all : List Bool) → length all ≤ at → closed whole (d.Cut bs (drop at all)) ≡ d.Cut bs (drop at all)
closed_match whole bs at all h = ap (λ rest. closed whole (d.Cut bs rest)) (drop_all at all h) ∙ ends whole bs ∙ ap (d.Cut bs) (sym (drop_all at all h))

some_left : (whole : Bool) (bs : List t.Bound) (rest : List Bool) → whole ≡ true → 0 < length rest → closed whole (d.Cut bs rest) ≡ d.NoCut
some_left false bs rest w h = cc
some_left true bs [] w h = absurd (omega arith)
some_left true bs (b ∷ rest) w h = refl

-- bits remain, and none may
pub closed_away : (whole : Bool) (bs : List t.Bound) (at : ℕ) (all : List Bool) → whole ≡ true → at < length all → closed whole (d.Cut bs (drop at all)) ≡ d.NoCut
closed_away whole bs at all w h = some_left whole bs (drop at all) w (omega (arith, length-drop at all))

pub closed_none : (whole : Bool) → closed whole d.NoCut ≡ d.NoCut
closed_none true = refl
closed_none false = refl

pub closed_limit : (whole : Bool) → closed whole d.CutLimit ≡ d.CutLimit
closed_limit true = refl
closed_limit false = refl
