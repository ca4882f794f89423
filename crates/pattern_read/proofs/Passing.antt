-- How passes compose.
use Rattle.std.proofs.Common.{◌≡◌, List, [], ◌∷◌, ◌++◌, refl, sym, ap, subst, append_assoc, ◌∙◌, drop, ℕ, Err, IsTrue, Bool}
use Rattle.erl_syntax.specs.declared.token.TokenKind.{TokenKind}
use Rattle.erl_syntax.specs.Word.{Word}
use Rattle.erl_syntax.specs.Grammar.{Goal, Limits, Spells}
use Rattle.pattern_read.specs.declared.fault.Fault.{Fault}
use Rattle.pattern_read.specs.declared.fault.Fault.TheVariants.{Memory, Refused}
use Rattle.pattern_read.specs.declared.fault.Cause.{Cause}
use Rattle.pattern_read.specs.declared.fault.Cause.TheVariants.{Syntax, TooDeep, UnknownAttribute, UnknownSegmentType, Undecided}
use Rattle.pattern_read.specs.Reading.{Passes, IsRefused, GoesOn, Excused, IsWide, Follows, SameHead, closed, nothing, Gives}
use Rattle.pattern_read.specs.Cursor.{Readable}

pub same_front : (f w z : List Word) → SameHead w z → SameHead (f ++ w) (f ++ z)
same_front [] w z s = s
same_front (k ∷ f) w z s = refl

pub spells_at : {l : Limits} {gs : List Goal} {v w : List Word} → v ≡ w → Spells l gs v → Spells l gs w
spells_at {l = l} {gs = gs} e d = let P : List Word → Type 0 = λ u. Spells l gs u in subst P e d

pub spells_as : {l : Limits} {gs hs : List Goal} {w : List Word} → gs ≡ hs → Spells l gs w → Spells l hs w
spells_as {l = l} {w = w} e d = let P : List Goal → Type 0 = λ u. Spells l u w in subst P e d

assoc_goals : (a b c : List Goal) → (a ++ b) ++ c ≡ a ++ (b ++ c)
assoc_goals a b c = append_assoc a b c

-- the kinds that lengthen the inner part lengthen the outer one
pub record Within (inner outer : TokenKind → Bool) : Type 0 where
  pub within : (kind : TokenKind) → IsTrue (inner kind) → IsTrue (outer kind)

pub same_kinds : (longer : TokenKind → Bool) → Within longer longer
same_kinds longer = record { within = λ kind h. h }

pub closed_within : (longer : TokenKind → Bool) → Within closed longer
closed_within longer = record { within = λ kind h. cc }

pub follows_within : {inner outer : TokenKind → Bool} {l : Limits} {gs : List Goal} → Within inner outer → Follows l outer gs → Follows l inner gs
follows_within n f t w h d = f t w (n.within t.kind h) d

-- what stands behind the first of two lengthens it not
pub record Behind {X Y : Type 0} (inner outer : TokenKind → Bool) (b : X → Y → List Goal) : Type 0 where
  pub behind : (l : Limits) (x : X) (q : Y) (gs : List Goal) → Follows l outer gs → Follows l inner (b x q ++ gs)

pub behind_closed : {X Y : Type 0} (outer : TokenKind → Bool) (b : X → Y → List Goal) → Behind closed outer b
behind_closed outer b = record { behind = λ l x q gs f t w h d. cc }

pub and_then : {most : Limits} {X Y Z : Type 0} {outer inner : TokenKind → Bool} {a : X → List Goal} {b : Y → List Goal} {c : Z → List Goal} {x y z : List Word} {f : Y → X} {g : Z → Y} →
    Within inner outer → Passes most outer a x b y f → Passes most inner b y c z g → Passes most outer a x c z (λ u. f (g u))
and_then {a = a} {b = b} {c = c} {x = x} {y = y} {z = z} {f = f} {g = g} n s t = record {
  front = s.front ++ t.front;
  whole = s.whole ∙ ap (λ v. s.front ++ v) t.whole ∙ sym (append_assoc s.front t.front z);
  back = λ l i u gs w d. spells_at (sym (append_assoc s.front t.front w)) (s.back l i (g u) gs (t.front ++ w) (t.back l i u gs w d));
  forth = λ l v gs w o h d.
      let m = s.forth l v gs (t.front ++ w) o (let P : List Word → Type 0 = λ u. SameHead (t.front ++ w) u in subst P (sym t.whole) (same_front t.front w z h)) (spells_at (append_assoc s.front t.front w) d) in
      let k = t.forth l m.0 gs w (follows_within n o) h m.2 in
      (k.0, m.1 ∙ ap f k.1, k.2);
}

goes_on_after : {most : Limits} {X Y : Type 0} {outer : TokenKind → Bool} {a : X → List Goal} {b : Y → List Goal} {x y z front : List Word} {f : Y → X} {why : Cause} →
    (s : Passes most outer a x b y f) → GoesOn most b front z why → GoesOn most a (s.front ++ front) z why
goes_on_after {a = a} {b = b} {z = z} {front = front} {f = f} s g = record {
  limits = g.limits;
  wide = g.wide;
  allows = g.allows;
  first = g.first;
  behind = g.behind;
  begins = g.begins;
  tree = f g.tree;
  more = g.more;
  goes_on = λ gs w d. spells_at (sym (append_assoc s.front front (g.first ∷ (g.more ++ w)))) (s.back g.limits g.wide g.tree gs (front ++ (g.first ∷ (g.more ++ w))) (g.goes_on gs w d));
}

excused_after : {most : Limits} {X Y : Type 0} {outer : TokenKind → Bool} {a : X → List Goal} {b : Y → List Goal} {x y : List Word} (z front : List Word) {f : Y → X} (why : Cause) →
    (s : Passes most outer a x b y f) → Excused most b front z why → Excused most a (s.front ++ front) z why
excused_after z front Syntax s e = tt
excused_after z front TooDeep s e = goes_on_after s e
excused_after z front UnknownAttribute s e = goes_on_after s e
excused_after z front UnknownSegmentType s e = goes_on_after s e
excused_after z front Undecided s e = tt

pub refused_after : {most : Limits} {X Y : Type 0} {outer inner : TokenKind → Bool} {a : X → List Goal} {b : Y → List Goal} {x y z : List Word} {f : Y → X} {why : Cause} →
    Within inner outer → Passes most outer a x b y f → IsRefused most inner b y z why → IsRefused most outer a x z why
refused_after {a = a} {b = b} {x = x} {y = y} {z = z} {f = f} {why = why} n s t = record {
  front = s.front ++ t.front;
  whole = s.whole ∙ ap (λ v. s.front ++ v) t.whole ∙ sym (append_assoc s.front t.front z);
  tree = f t.tree;
  more = t.more;
  goes_on = λ l i gs w d. spells_at (sym (append_assoc s.front t.front (t.more ++ w))) (s.back l i t.tree gs (t.front ++ (t.more ++ w)) (t.goes_on l i gs w d));
  stops = λ l j v gs w o h d.
      let m = s.forth l v gs (t.front ++ w) o (let P : List Word → Type 0 = λ u. SameHead (t.front ++ w) u in subst P (sym t.whole) (same_front t.front w z h)) (spells_at (append_assoc s.front t.front w) d) in
      t.stops l j m.0 gs w (follows_within n o) h m.2;
  excused = excused_after z t.front why s t.excused;
}

-- a pass of the first of two wanted things, before the second
pub first_of_two : {most : Limits} {X Y : Type 0} {inner outer : TokenKind → Bool} {a : X → List Goal} {b : X → Y → List Goal} {x y : List Word} {v : X} →
    Behind inner outer b → Passes most inner a x nothing y (λ u. v) → Passes most {X = X × Y} outer (λ p. a p.0 ++ b p.0 p.1) x (b v) y (λ q. (v, q))
first_of_two {a = a} {b = b} {x = x} {y = y} {v = v} n s = record {
  front = s.front;
  whole = s.whole;
  back = λ l i q gs w d. spells_as (sym (assoc_goals (a v) (b v q) gs)) (s.back l i tt (b v q ++ gs) w d);
  forth = λ l p gs w o h d.
      let m = s.forth l p.0 (b p.0 p.1 ++ gs) w (n.behind l p.0 p.1 gs o) h (spells_as (assoc_goals (a p.0) (b p.0 p.1) gs) d) in
      (p.1, ap (λ t. (t, p.1)) m.1, spells_as (ap (λ t. b t p.1 ++ gs) m.1) m.2);
}

-- whatever was read first, what is wanted behind it has this spelling
pub record Spelled (most : Limits) {X Y : Type 0} (b : X → Y → List Goal) (v : List Word) : Type 0 where
  pub tree : X → Y
  pub spelled : (l : Limits) → IsWide most l → (x : X) (gs : List Goal) (w : List Word) → Spells l gs w → Spells l (b x (tree x) ++ gs) (v ++ w)

goes_on_first : {most : Limits} {X Y : Type 0} {a : X → List Goal} {b : X → Y → List Goal} {v z front : List Word} {why : Cause} →
    Spelled most b v → GoesOn most a front z why → GoesOn most {X = X × Y} (λ p. a p.0 ++ b p.0 p.1) front z why
goes_on_first {a = a} {b = b} {v = v} {front = front} f g = record {
  limits = g.limits;
  wide = g.wide;
  allows = g.allows;
  first = g.first;
  behind = g.behind;
  begins = g.begins;
  tree = (g.tree, f.tree g.tree);
  more = g.more ++ v;
  goes_on = λ gs w d. spells_as (sym (assoc_goals (a g.tree) (b g.tree (f.tree g.tree)) gs)) (spells_at (ap (λ u. front ++ (g.first ∷ u)) (sym (append_assoc g.more v w))) (g.goes_on (b g.tree (f.tree g.tree) ++ gs) (v ++ w) (f.spelled g.limits g.wide g.tree gs w d)));
}

excused_first : {most : Limits} {X Y : Type 0} (a : X → List Goal) {b : X → Y → List Goal} {v : List Word} (z front : List Word) (why : Cause) →
    Spelled most b v → Excused most a front z why → Excused most {X = X × Y} (λ p. a p.0 ++ b p.0 p.1) front z why
excused_first a z front Syntax f e = tt
excused_first a z front TooDeep f e = goes_on_first f e
excused_first a z front UnknownAttribute f e = goes_on_first f e
excused_first a z front UnknownSegmentType f e = goes_on_first f e
excused_first a z front Undecided f e = tt

-- the first of two wanted things is refused, and the second has some spelling
pub refused_first : {most : Limits} {X Y : Type 0} {inner outer : TokenKind → Bool} {a : X → List Goal} {b : X → Y → List Goal} {x y : List Word} {v : List Word} {why : Cause} →
    Behind inner outer b → Spelled most b v → IsRefused most inner a x y why → IsRefused most {X = X × Y} outer (λ p. a p.0 ++ b p.0 p.1) x y why
refused_first {a = a} {b = b} {x = x} {y = y} {v = v} {why = why} n f s = record {
  front = s.front;
  whole = s.whole;
  tree = (s.tree, f.tree s.tree);
  more = s.more ++ v;
  goes_on = λ l i gs w d. spells_as (sym (assoc_goals (a s.tree) (b s.tree (f.tree s.tree)) gs)) (spells_at (ap (λ u. s.front ++ u) (sym (append_assoc s.more v w))) (s.goes_on l i (b s.tree (f.tree s.tree) ++ gs) (v ++ w) (f.spelled l i s.tree gs w d)));
  stops = λ l j p gs w o h d. s.stops l j p.0 (b p.0 p.1 ++ gs) w (n.behind l p.0 p.1 gs o) h (spells_as (assoc_goals (a p.0) (b p.0 p.1) gs) d);
  excused = excused_first a y s.front why f s.excused;
}

pub at_token : {most : Limits} {X Y : Type 0} {longer : TokenKind → Bool} {a : X → List Goal} {b : Y → List Goal} {from rest z : List Word} {f : Y → X} {j : Word} →
    from ≡ j ∷ rest → Passes most longer a (j ∷ rest) b z f → Passes most longer a from b z f
at_token {most = most} {longer = longer} {a = a} {b = b} {z = z} {f = f} e t = let P : List Word → Type 0 = λ u. Passes most longer a u b z f in subst P (sym e) t

pub at_place : {most : Limits} {X Y : Type 0} {longer : TokenKind → Bool} {a : X → List Goal} {b : Y → List Goal} {from to : List Word} {f : Y → X} →
    from ≡ to → Passes most longer a to b to f → Passes most longer a from b from f
at_place {most = most} {longer = longer} {a = a} {b = b} {f = f} e t = let P : List Word → Type 0 = λ u. Passes most longer a u b u f in subst P (sym e) t

pub refused_at : {most : Limits} {X : Type 0} {longer : TokenKind → Bool} {a : X → List Goal} {from to : List Word} {why : Cause} →
    from ≡ to → IsRefused most longer a to to why → IsRefused most longer a from from why
refused_at {most = most} {longer = longer} {a = a} {why = why} e r = let P : List Word → Type 0 = λ u. IsRefused most longer a u u why in subst P (sym e) r

pub remade : {most : Limits} {X Y : Type 0} {longer : TokenKind → Bool} {a : X → List Goal} {b : Y → List Goal} {x y : List Word} {f g : Y → X} →
    ((u : Y) → f u ≡ g u) → Passes most longer a x b y f → Passes most longer a x b y g
remade {a = a} e s = record {
  front = s.front;
  whole = s.whole;
  back = λ l i u gs w d. spells_as (ap (λ v. a v ++ gs) (e u)) (s.back l i u gs w d);
  forth = λ l v gs w o h d. let m = s.forth l v gs w o h d in (m.0, m.1 ∙ e m.0, m.2);
}

pub fault_after : {X Y : Type 0} {outer inner : TokenKind → Bool} {a : X → List Goal} {b : Y → List Goal} {f : Y → X} (words : Readable) (at next : ℕ) (fault : Fault) →
    Within inner outer → Passes words.limits outer a (drop at words.words) b (drop next words.words) f → Gives inner b words next (Err fault) → Gives outer a words at (Err fault)
fault_after words at next Memory n s r = tt
fault_after words at next (Refused i why) n s r = refused_after n s r

pub fault_first : {X Y : Type 0} {inner outer : TokenKind → Bool} (a : X → List Goal) {b : X → Y → List Goal} {v : List Word} (words : Readable) (at : ℕ) (fault : Fault) →
    Behind inner outer b → Spelled words.limits b v → Gives inner a words at (Err fault) → Gives {X = X × Y} outer (λ p. a p.0 ++ b p.0 p.1) words at (Err fault)
fault_first a words at Memory n f r = tt
fault_first a words at (Refused i why) n f r = refused_first n f r
