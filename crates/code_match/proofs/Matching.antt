-- Patterns against values, one by one.
use Rattle.std.proofs.Common.{◌≡◌, ◌≢◌, ◌<◌, ◌≤◌, ◌+◌, ℕ, Bool, true, false, List, [], ◌∷◌, Option, Some, None, length, drop, get_or, refl, ap, sym, ◌∙◌, arith}
use Rattle.std.proofs.lemmas.List.{at_drop_more, drop_all, nil_from_length}
use Rattle.bit_store.specs.Stores.{itself}
use Rattle.term_value.specs.Value.{Value, VList, Values, none, more}
use Rattle.term_value.specs.Seen.{meanings}
use Rattle.term_value.specs.Terms.{row}
use Rattle.term_value.specs.Setting.{Setting}
use Rattle.term_value.specs.Tree as t
use Rattle.term_value.specs.Match as m
use Rattle.term_value.specs.declared.term.Term.{Term}
use Rattle.code_tree.specs.declared.pattern.Pattern.{Pattern}
use Rattle.code_tree.specs.Reading.{pattern_of, patterns_of}
use Rattle.code_match.specs.Matches.{behind}

then_alike : (found : m.Matched) (f g : List t.Bound → m.Matched) → ((bs : List t.Bound) → f bs ≡ g bs) → m.then_match found f ≡ m.then_match found g
then_alike (m.Yes bs) f g e = e bs
then_alike m.No f g e = refl
then_alike m.MatchLimit f g e = refl

then_then : (found : m.Matched) (f g : List t.Bound → m.Matched) → m.then_match (m.then_match found f) g ≡ m.then_match found (λ bs. m.then_match (f bs) g)
then_then (m.Yes bs) f g = refl
then_then m.No f g = refl
then_then m.MatchLimit f g = refl

module _ (xs : List Pattern) (i : ℕ) (p : Pattern) (l : i < length xs) (here : p ≡ get_or xs i p) where
  pub next_here : patterns_of (drop i xs) ≡ t.pattern_and (pattern_of p) (patterns_of (drop (i + 1) xs))
  next_here = at_drop_more patterns_of xs i p l ∙ ap (λ q. t.pattern_and (pattern_of q) (patterns_of (drop (i + 1) xs))) (sym here)

  -- behind one more item
  pub behind_one : (vs rest : Values) (v : Value) (due : Option Values) → vs ≡ more v rest → behind (patterns_of (drop i xs)) vs ≡ due → behind (patterns_of (drop (i + 1) xs)) rest ≡ due
  behind_one vs rest v due e inv = ap (λ ps. behind ps (more v rest)) (sym next_here) ∙ ap (behind (patterns_of (drop i xs))) (sym e) ∙ inv

  pub behind_none : (vs : Values) (due : Option Values) → vs ≡ none → behind (patterns_of (drop i xs)) vs ≡ due → due ≡ None
  behind_none vs due e inv = sym inv ∙ ap (behind (patterns_of (drop i xs))) e ∙ ap (λ ps. behind ps none) next_here

  module _ (s : Setting) (bs : List t.Bound) (found due : m.Matched) where
    -- one more pattern against the value
    pub all_are : (v : Value) → found ≡ m.matched s (pattern_of p) v bs → m.all_matched s (patterns_of (drop i xs)) v bs ≡ due → m.then_match found (m.all_matched s (patterns_of (drop (i + 1) xs)) v) ≡ due
    all_are v e inv = ap (λ f. m.then_match f (m.all_matched s (patterns_of (drop (i + 1) xs)) v)) e ∙ ap (λ ps. m.all_matched s ps v bs) (sym next_here) ∙ inv

    -- one more pattern against its value
    pub each_are : (vs rest : Values) (v : Value) → vs ≡ more v rest → found ≡ m.matched s (pattern_of p) v bs → m.each_matched s (patterns_of (drop i xs)) vs bs ≡ due
        → m.then_match found (m.each_matched s (patterns_of (drop (i + 1) xs)) rest) ≡ due
    each_are vs rest v e f inv = ap (λ g. m.then_match g (m.each_matched s (patterns_of (drop (i + 1) xs)) rest)) f ∙ ap (λ ps. m.each_matched s ps (more v rest) bs) (sym next_here)
        ∙ ap (λ ws. m.each_matched s (patterns_of (drop i xs)) ws bs) (sym e) ∙ inv

    -- one more pattern against its item
    pub front_are : (tail : Value → List t.Bound → m.Matched) (vs rest : Values) (v : Value) → vs ≡ more v rest → found ≡ m.matched s (pattern_of p) v bs → m.front_matched s (patterns_of (drop i xs)) tail vs bs ≡ due
        → m.then_match found (m.front_matched s (patterns_of (drop (i + 1) xs)) tail rest) ≡ due
    front_are tail vs rest v e f inv = ap (λ g. m.then_match g (m.front_matched s (patterns_of (drop (i + 1) xs)) tail rest)) f ∙ ap (λ ps. m.front_matched s ps tail (more v rest) bs) (sym next_here)
        ∙ ap (λ ws. m.front_matched s (patterns_of (drop i xs)) tail ws bs) (sym e) ∙ inv

  module _ (s : Setting) (bs : List t.Bound) (due : m.Matched) where
    pub each_none : (vs : Values) → vs ≡ none → m.each_matched s (patterns_of (drop i xs)) vs bs ≡ due → m.No ≡ due
    each_none vs e inv = ap (λ ps. m.each_matched s ps none bs) (sym next_here) ∙ ap (λ ws. m.each_matched s (patterns_of (drop i xs)) ws bs) (sym e) ∙ inv

    pub front_none : (tail : Value → List t.Bound → m.Matched) (vs : Values) → vs ≡ none → m.front_matched s (patterns_of (drop i xs)) tail vs bs ≡ due → m.No ≡ due
    front_none tail vs e inv = ap (λ ps. m.front_matched s ps tail none bs) (sym next_here) ∙ ap (λ ws. m.front_matched s (patterns_of (drop i xs)) tail ws bs) (sym e) ∙ inv

-- the number of values
pub as_many : (xs : List Pattern) (ts : List (Term (List Bool))) → length xs ≡ length ts → m.as_many (patterns_of xs) (meanings itself (row ts)) ≡ true
as_many [] [] l = refl
as_many [] (t ∷ ts) l = absurd (omega arith)
as_many (x ∷ xs) [] l = absurd (omega arith)
as_many (x ∷ xs) (t ∷ ts) l = as_many xs ts (omega arith)

pub not_as_many : (xs : List Pattern) (ts : List (Term (List Bool))) → length xs ≢ length ts → m.as_many (patterns_of xs) (meanings itself (row ts)) ≡ false
not_as_many [] [] l = absurd (l refl)
not_as_many [] (t ∷ ts) l = refl
not_as_many (x ∷ xs) [] l = refl
not_as_many (x ∷ xs) (t ∷ ts) l = not_as_many xs ts (λ e. l (omega arith))

-- as many values as patterns
pub even : (s : Setting) (xs : List Pattern) (ts : List (Term (List Bool))) (bs : List t.Bound) (found : m.Matched) → length xs ≡ length ts → found ≡ m.each_matched s (patterns_of xs) (meanings itself (row ts)) bs
    → found ≡ m.if_match (m.as_many (patterns_of xs) (meanings itself (row ts))) (m.each_matched s (patterns_of xs) (meanings itself (row ts)) bs)
even s xs ts bs found l e = e ∙ ap (λ c. m.if_match c (m.each_matched s (patterns_of xs) (meanings itself (row ts)) bs)) (sym (as_many xs ts l))

-- behind the last value
pub each_end : (s : Setting) (xs : List Pattern) (i : ℕ) (ts : List (Term (List Bool))) (bs : List t.Bound) (due : m.Matched) → length xs ≤ i → i + length ts ≡ length xs → m.each_matched s (patterns_of (drop i xs)) (meanings itself (row ts)) bs ≡ due → m.Yes bs ≡ due
each_end s xs i ts bs due l e inv = ap (λ ys. m.each_matched s (patterns_of ys) none bs) (sym (drop_all i xs l))
    ∙ ap (λ (us : List (Term (List Bool))). m.each_matched s (patterns_of (drop i xs)) (meanings itself (row us)) bs) (sym (nil_from_length ts (omega arith))) ∙ inv

-- the number of items, by what stands behind them
many_behind : (ps : t.Patterns) (vs : Values) → behind ps vs ≡ Some none → m.as_many ps vs ≡ true
many_behind t.no_pattern none e = refl
many_behind t.no_pattern (more v vs) e = absurd (cc)
many_behind (t.pattern_and p ps) none e = absurd (cc)
many_behind (t.pattern_and p ps) (more v vs) e = many_behind ps vs e

too_many_behind : (ps : t.Patterns) (vs rest : Values) (v : Value) → behind ps vs ≡ Some (more v rest) → m.as_many ps vs ≡ false
too_many_behind t.no_pattern none rest w e = absurd (cc)
too_many_behind t.no_pattern (more v vs) rest w e = refl
too_many_behind (t.pattern_and p ps) none rest w e = absurd (cc)
too_many_behind (t.pattern_and p ps) (more v vs) rest w e = too_many_behind ps vs rest w e

too_few_behind : (ps : t.Patterns) (vs : Values) → behind ps vs ≡ None → m.as_many ps vs ≡ false
too_few_behind t.no_pattern vs e = absurd (cc)
too_few_behind (t.pattern_and p ps) none e = refl
too_few_behind (t.pattern_and p ps) (more v vs) e = too_few_behind ps vs e

enough_behind : (ps : t.Patterns) (vs rest : Values) → behind ps vs ≡ Some rest → m.enough ps vs ≡ true
enough_behind t.no_pattern vs rest e = refl
enough_behind (t.pattern_and p ps) none rest e = absurd (cc)
enough_behind (t.pattern_and p ps) (more v vs) rest e = enough_behind ps vs rest e

not_enough_behind : (ps : t.Patterns) (vs : Values) → behind ps vs ≡ None → m.enough ps vs ≡ false
not_enough_behind t.no_pattern vs e = absurd (cc)
not_enough_behind (t.pattern_and p ps) none e = refl
not_enough_behind (t.pattern_and p ps) (more v vs) e = not_enough_behind ps vs e

module _ (s : Setting) where
  each_front : (ps : t.Patterns) (vs : Values) → behind ps vs ≡ Some none → (bs : List t.Bound) → m.front_matched s ps (λ v. m.Yes) vs bs ≡ m.each_matched s ps vs bs
  each_front t.no_pattern none e bs = refl
  each_front t.no_pattern (more v vs) e bs = absurd (cc)
  each_front (t.pattern_and p ps) none e bs = absurd (cc)
  each_front (t.pattern_and p ps) (more v vs) e bs = then_alike (m.matched s p v bs) (m.front_matched s ps (λ w. m.Yes) vs) (m.each_matched s ps vs) (each_front ps vs e)

  front_then : (tail : Value → List t.Bound → m.Matched) (ps : t.Patterns) (vs rest : Values) → behind ps vs ≡ Some rest → (bs : List t.Bound)
      → m.then_match (m.front_matched s ps (λ v. m.Yes) vs bs) (tail (VList rest)) ≡ m.front_matched s ps tail vs bs
  front_then tail t.no_pattern vs rest e bs = let same : rest ≡ vs = cc in ap (λ ws. tail (VList ws) bs) same
  front_then tail (t.pattern_and p ps) none rest e bs = absurd (cc)
  front_then tail (t.pattern_and p ps) (more v vs) rest e bs =
      then_then (m.matched s p v bs) (m.front_matched s ps (λ w. m.Yes) vs) (tail (VList rest))
      ∙ then_alike (m.matched s p v bs) (λ cs. m.then_match (m.front_matched s ps (λ w. m.Yes) vs cs) (tail (VList rest))) (m.front_matched s ps tail vs) (front_then tail ps vs rest e)

  module _ (ps : t.Patterns) (vs : Values) (bs : List t.Bound) where
    -- as many items as patterns
    pub list_is : behind ps vs ≡ Some none → (found : m.Matched) → found ≡ m.front_matched s ps (λ v. m.Yes) vs bs → found ≡ m.matched s (t.PList ps) (VList vs) bs
    list_is e found f = f ∙ each_front ps vs e bs ∙ ap (λ c. m.if_match c (m.each_matched s ps vs bs)) (sym (many_behind ps vs e))

    pub too_many : (rest : Values) (v : Value) → behind ps vs ≡ Some (more v rest) → m.No ≡ m.matched s (t.PList ps) (VList vs) bs
    too_many rest v e = ap (λ c. m.if_match c (m.each_matched s ps vs bs)) (sym (too_many_behind ps vs rest v e))

    pub too_few : behind ps vs ≡ None → m.No ≡ m.matched s (t.PList ps) (VList vs) bs
    too_few e = ap (λ c. m.if_match c (m.each_matched s ps vs bs)) (sym (too_few_behind ps vs e))

    module _ (p : t.Pattern) where
      -- enough items, and the list of those behind
      pub list_on_is : (rest : Values) → behind ps vs ≡ Some rest → (found : m.Matched) → found ≡ m.front_matched s ps (λ v. m.Yes) vs bs
          → m.then_match found (m.matched s p (VList rest)) ≡ m.matched s (t.PListOn ps p) (VList vs) bs
      list_on_is rest e found f = ap (λ g. m.then_match g (m.matched s p (VList rest))) f ∙ front_then (m.matched s p) ps vs rest e bs
          ∙ ap (λ c. m.if_match c (m.front_matched s ps (m.matched s p) vs bs)) (sym (enough_behind ps vs rest e))

      pub not_enough : behind ps vs ≡ None → m.No ≡ m.matched s (t.PListOn ps p) (VList vs) bs
      not_enough e = ap (λ c. m.if_match c (m.front_matched s ps (m.matched s p) vs bs)) (sym (not_enough_behind ps vs e))
