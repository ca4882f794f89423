-- A pattern of each form against a value.
use Rattle.std.proofs.Common.{◌≡◌, ℕ, Bool, List, ap, sym, ◌∙◌}
use Rattle.term_value.specs.Value.{Value}
use Rattle.term_value.specs.Setting.{Setting}
use Rattle.term_value.specs.Tree as t
use Rattle.term_value.specs.Match as m
use Rattle.term_value.specs.Seen.{Seen}
use Rattle.code_tree.specs.PlainTerms.{value}
use Rattle.code_tree.specs.declared.pattern.Pattern.{Pattern}
use Rattle.code_tree.specs.declared.pattern.Pattern.TheVariants as p
use Rattle.code_tree.specs.declared.pattern.Segment.{Segment}
use Rattle.code_tree.specs.Reading.{pattern_of, patterns_of, segments_of}
use Rattle.code_tree.proofs.Equations.{pattern_of-Anything, pattern_of-Variable, pattern_of-Value, pattern_of-Tuple, pattern_of-List, pattern_of-ListOn, pattern_of-Bits, pattern_of-Same}

module _ (s : Setting) (v : Value) (bs : List t.Bound) (found : m.Matched) (q : Pattern) where
  read : (r : t.Pattern) (u : Pattern) → pattern_of u ≡ r → q ≡ u → found ≡ m.matched s r v bs → found ≡ m.matched s (pattern_of q) v bs
  read r u f e h = h ∙ ap (λ w. m.matched s w v bs) (sym f) ∙ ap (λ w. m.matched s (pattern_of w) v bs) (sym e)

  pub anything_is : q ≡ p.Anything → found ≡ m.Yes bs → found ≡ m.matched s (pattern_of q) v bs
  anything_is e h = read t.PWild p.Anything pattern_of-Anything e h

  pub variable_is : (x : ℕ) → q ≡ p.Variable x → found ≡ m.matched s (t.PVar x) v bs → found ≡ m.matched s (pattern_of q) v bs
  variable_is x e h = read (t.PVar x) (p.Variable x) (pattern_of-Variable x) e h

  pub value_is : (w : Seen (List Bool)) → q ≡ p.Value w → found ≡ m.matched s (t.PVal (value w)) v bs → found ≡ m.matched s (pattern_of q) v bs
  value_is w e h = read (t.PVal (value w)) (p.Value w) (pattern_of-Value w) e h

  pub tuple_is : (ps qs : List Pattern) → q ≡ p.Tuple ps → qs ≡ ps → found ≡ m.matched s (t.PTuple (patterns_of qs)) v bs → found ≡ m.matched s (pattern_of q) v bs
  tuple_is ps qs e f h = read (t.PTuple (patterns_of ps)) (p.Tuple ps) (pattern_of-Tuple ps) e (h ∙ ap (λ (us : List Pattern). m.matched s (t.PTuple (patterns_of us)) v bs) f)

  pub list_is : (ps qs : List Pattern) → q ≡ p.List ps → qs ≡ ps → found ≡ m.matched s (t.PList (patterns_of qs)) v bs → found ≡ m.matched s (pattern_of q) v bs
  list_is ps qs e f h = read (t.PList (patterns_of ps)) (p.List ps) (pattern_of-List ps) e (h ∙ ap (λ (us : List Pattern). m.matched s (t.PList (patterns_of us)) v bs) f)

  pub list_on_is : (ps qs : List Pattern) (tail rest : Pattern) → q ≡ p.ListOn ps tail → qs ≡ ps → rest ≡ tail → found ≡ m.matched s (t.PListOn (patterns_of qs) (pattern_of rest)) v bs → found ≡ m.matched s (pattern_of q) v bs
  list_on_is ps qs tail rest e f g h = read (t.PListOn (patterns_of ps) (pattern_of tail)) (p.ListOn ps tail) (pattern_of-ListOn ps tail) e
      (h ∙ ap (λ (us : List Pattern). m.matched s (t.PListOn (patterns_of us) (pattern_of rest)) v bs) f ∙ ap (λ (u : Pattern). m.matched s (t.PListOn (patterns_of ps) (pattern_of u)) v bs) g)

  pub bits_are : (ss rs : List Segment) → q ≡ p.Bits ss → rs ≡ ss → found ≡ m.matched s (t.PBits (segments_of rs)) v bs → found ≡ m.matched s (pattern_of q) v bs
  bits_are ss rs e f h = read (t.PBits (segments_of ss)) (p.Bits ss) (pattern_of-Bits ss) e (h ∙ ap (λ (us : List Segment). m.matched s (t.PBits (segments_of us)) v bs) f)

  pub same_is : (ps qs : List Pattern) → q ≡ p.Same ps → qs ≡ ps → found ≡ m.all_matched s (patterns_of qs) v bs → found ≡ m.matched s (pattern_of q) v bs
  same_is ps qs e f h = read (t.PSame (patterns_of ps)) (p.Same ps) (pattern_of-Same ps) e (h ∙ ap (λ (us : List Pattern). m.all_matched s (patterns_of us) v bs) f)
