-- Where one of two wanted things may stand: both are refused, at the place further right.
use Rattle.std.proofs.Common.{◌≡◌, ℕ, ◌+◌, ◌-◌, ◌≤◌, Bool, IsTrue, List, [], ◌∷◌, ◌++◌, drop, length, length-append, length-drop, refl, sym, ap, subst, ◌∙◌, append_assoc, arith, ◌⊎◌, inl, inr}
use Rattle.erl_syntax.specs.declared.token.TokenKind.{TokenKind}
use Rattle.erl_syntax.specs.Word.{Word}
use Rattle.erl_syntax.specs.Grammar.{Goal, Limits, Spells}
use Rattle.pattern_read.specs.declared.fault.Cause.{Cause}
use Rattle.pattern_read.specs.declared.fault.Cause.TheVariants.{Syntax, TooDeep, UnknownAttribute, UnknownSegmentType, Undecided}
use Rattle.pattern_read.specs.Reading.{Passes, IsRefused, GoesOn, Excused, Stops, IsStrict, Follows, SameHead, nothing}
use Rattle.body_read.specs.WantedItems.{Joins, IsFarther}
use Rattle.pattern_read.proofs.Passing.{Within, follows_within, spells_at}
use Rattle.body_read.proofs.Groups.{Fronts, longer, alike, shorter, fronts}
use Rattle.pattern_read.specs.Cursor.{Readable}

-- one of two wanted things
abbrev pub either_of : {Y Z : Type 0} → (Y → List Goal) → (Z → List Goal) → Y ⊎ Z → List Goal
either_of a b (inl y) = a y
either_of a b (inr z) = b z

-- ---- What a joined cause says of each

strict_stops : {most : Limits} (why : Cause) (l : Limits) → IsStrict most l → Stops most why l
strict_stops Syntax l s = tt
strict_stops TooDeep l s = s
strict_stops UnknownAttribute l s = s.any_attribute
strict_stops UnknownSegmentType l s = s.any_type
strict_stops Undecided l s = s

stops_as : (most : Limits) (l : Limits) {c d : Cause} → c ≡ d → Stops most c l → Stops most d l
stops_as most l e s = let P : Cause → Type 0 = λ v. Stops most v l in subst P e s

joins_earlier : (most : Limits) (later earlier why : Cause) (l : Limits) → Joins later earlier why → Stops most why l → Stops most earlier l
joins_earlier most later earlier why l (inl p) s = stops_as most l (sym p.0) tt
joins_earlier most later earlier why l (inr (inl p)) s = strict_stops earlier l (stops_as most l p.1 s)
joins_earlier most later earlier why l (inr (inr (inl p))) s = stops_as most l (p.1 ∙ p.0) s
joins_earlier most later earlier why l (inr (inr (inr p))) s = strict_stops earlier l (stops_as most l p s)

joins_later : (most : Limits) (later earlier why : Cause) (l : Limits) → Joins later earlier why → Stops most why l → Stops most later l
joins_later most later earlier why l (inl p) s = stops_as most l p.1 s
joins_later most later earlier why l (inr (inl p)) s = stops_as most l (p.1 ∙ sym p.0) s
joins_later most later earlier why l (inr (inr (inl p))) s = stops_as most l p.1 s
joins_later most later earlier why l (inr (inr (inr p))) s = strict_stops later l (stops_as most l p s)

excused_as : (most : Limits) {X : Type 0} (wanted : X → List Goal) (front rest : List Word) {c d : Cause} → c ≡ d → Excused most wanted front rest c → Excused most wanted front rest d
excused_as most wanted front rest e s = let P : Cause → Type 0 = λ v. Excused most wanted front rest v in subst P e s

joins_excused : (most : Limits) {X : Type 0} (wanted : X → List Goal) (front rest : List Word) (later earlier why : Cause) → Joins later earlier why → Excused most wanted front rest later → Excused most wanted front rest why
joins_excused most wanted front rest later earlier why (inl p) e = excused_as most wanted front rest (sym p.1) e
joins_excused most wanted front rest later earlier why (inr (inl p)) e = excused_as most wanted front rest (p.0 ∙ sym p.1) e
joins_excused most wanted front rest later earlier why (inr (inr (inl p))) e = excused_as most wanted front rest (sym p.1) e
joins_excused most wanted front rest later earlier why (inr (inr (inr p))) e = excused_as most wanted front rest (sym p) tt

-- ---- Both are refused

-- what is refused at a place stays so with tokens further right
stops_before : {most : Limits} {Y : Type 0} {longer : TokenKind → Bool} {a : Y → List Goal} {from ra rb : List Word} {d : Cause} (r : IsRefused most longer a from ra d) (fb : List Word) → Fronts r.front fb ra rb → length rb ≤ length ra →
    (l : Limits) → Stops most d l → (y : Y) (gs : List Goal) (w : List Word) → Follows l longer gs → SameHead w rb → Spells l (a y ++ gs) (fb ++ w) → ⊥
stops_before {ra = ra} {rb = rb} r fb (longer j z e h) n l s y gs w f i d =
    let m : length rb ≡ length ((j ∷ z) ++ ra) = ap length h in
    let o : length ((j ∷ z) ++ ra) ≡ length (j ∷ z) + length ra = length-append (j ∷ z) ra in omega (arith, m, o)
stops_before {ra = ra} {rb = rb} r fb (alike e h) n l s y gs w f i d =
    let P : List Word → Type 0 = λ v. SameHead w v in
    r.stops l s y gs w f (subst P (sym h) i) (spells_at (ap (λ v. v ++ w) (sym e)) d)
stops_before {ra = ra} {rb = rb} r fb (shorter j z e h) n l s y gs w f i d =
    let P : List Word → Type 0 = λ v. SameHead ((j ∷ z) ++ w) v in
    r.stops l s y gs ((j ∷ z) ++ w) f (subst P (sym h) refl) (spells_at (ap (λ v. v ++ w) e ∙ append_assoc r.front (j ∷ z) w) d)

goes_on_either : {most : Limits} {Y Z : Type 0} (a : Y → List Goal) (b : Z → List Goal) (front rest : List Word) (why : Cause) → GoesOn most b front rest why → GoesOn most (either_of a b) front rest why
goes_on_either a b front rest why g = record { limits = g.limits; wide = g.wide; allows = g.allows; first = g.first; behind = g.behind; begins = g.begins; tree = inr g.tree; more = g.more; goes_on = g.goes_on }

excused_either : (most : Limits) {Y Z : Type 0} (a : Y → List Goal) (b : Z → List Goal) (front rest : List Word) (why : Cause) → Excused most b front rest why → Excused most (either_of a b) front rest why
excused_either most a b front rest Syntax e = tt
excused_either most a b front rest TooDeep e = goes_on_either a b front rest TooDeep e
excused_either most a b front rest UnknownAttribute e = goes_on_either a b front rest UnknownAttribute e
excused_either most a b front rest UnknownSegmentType e = goes_on_either a b front rest UnknownSegmentType e
excused_either most a b front rest Undecided e = tt

either_stops : {most : Limits} {Y Z : Type 0} {longer : TokenKind → Bool} {a : Y → List Goal} {b : Z → List Goal} {from ra rb : List Word} {c d why : Cause} → (p : IsRefused most longer a from ra d) (q : IsRefused most longer b from rb c) → length rb ≤ length ra → Joins c d why →
    (l : Limits) → Stops most why l → (x : Y ⊎ Z) (gs : List Goal) (w : List Word) → Follows l longer gs → SameHead w rb → Spells l (either_of a b x ++ gs) (q.front ++ w) → ⊥
either_stops {ra = ra} {rb = rb} {c = c} {d = d} {why = why} p q n j l s (inl y) gs w f i e = stops_before p q.front (fronts p.front q.front ra rb (sym p.whole ∙ q.whole)) n l (joins_earlier _ c d why l j s) y gs w f i e
either_stops {ra = ra} {rb = rb} {c = c} {d = d} {why = why} p q n j l s (inr z) gs w f i e = q.stops l (joins_later _ c d why l j s) z gs w f i e

later_refused : {most : Limits} {Y Z : Type 0} {longer : TokenKind → Bool} {a : Y → List Goal} {b : Z → List Goal} {from ra rb : List Word} {c d why : Cause} → IsRefused most longer a from ra d → IsRefused most longer b from rb c → length rb ≤ length ra → Joins c d why → IsRefused most longer (either_of a b) from rb why
later_refused {a = a} {b = b} {rb = rb} {c = c} {d = d} {why = why} p q n j = record {
  front = q.front;
  whole = q.whole;
  tree = inr q.tree;
  more = q.more;
  goes_on = q.goes_on;
  stops = λ l s x gs w f i e. either_stops p q n j l s x gs w f i e;
  excused = excused_either _ a b q.front rb why (joins_excused _ b q.front rb c d why j q.excused);
}

-- the other way round
turned : {Y Z : Type 0} → Y ⊎ Z → Z ⊎ Y
turned (inl y) = inr y
turned (inr z) = inl z

turned_spells : {Y Z : Type 0} {l : Limits} {w : List Word} (a : Y → List Goal) (b : Z → List Goal) (gs : List Goal) (x : Y ⊎ Z) → Spells l (either_of a b x ++ gs) w → Spells l (either_of b a (turned x) ++ gs) w
unfolding turned
turned_spells a b gs (inl y) d = d
turned_spells a b gs (inr z) d = d

goes_on_turned : {most : Limits} {Y Z : Type 0} (a : Y → List Goal) (b : Z → List Goal) (front rest : List Word) (why : Cause) → GoesOn most (either_of a b) front rest why → GoesOn most (either_of b a) front rest why
goes_on_turned a b front rest why g = record { limits = g.limits; wide = g.wide; allows = g.allows; first = g.first; behind = g.behind; begins = g.begins; tree = turned g.tree; more = g.more; goes_on = λ gs w d. turned_spells a b gs g.tree (g.goes_on gs w d) }

excused_turned : (most : Limits) {Y Z : Type 0} (a : Y → List Goal) (b : Z → List Goal) (front rest : List Word) (why : Cause) → Excused most (either_of a b) front rest why → Excused most (either_of b a) front rest why
excused_turned most a b front rest Syntax e = tt
excused_turned most a b front rest TooDeep e = goes_on_turned a b front rest TooDeep e
excused_turned most a b front rest UnknownAttribute e = goes_on_turned a b front rest UnknownAttribute e
excused_turned most a b front rest UnknownSegmentType e = goes_on_turned a b front rest UnknownSegmentType e
excused_turned most a b front rest Undecided e = tt

turned_refused : {most : Limits} {Y Z : Type 0} {longer : TokenKind → Bool} {a : Y → List Goal} {b : Z → List Goal} {from rest : List Word} {why : Cause} → IsRefused most longer (either_of a b) from rest why → IsRefused most longer (either_of b a) from rest why
turned_refused {a = a} {b = b} {rest = rest} {why = why} r = record {
  front = r.front;
  whole = r.whole;
  tree = turned r.tree;
  more = r.more;
  goes_on = λ l i gs w d. turned_spells a b gs r.tree (r.goes_on l i gs w d);
  stops = λ l s x gs w f h d. r.stops l s (turned x) gs w f h (turned_spells b a gs x d);
  excused = excused_turned _ a b r.front rest why r.excused;
}

shorter_drop : (ws : Readable) (i j : ℕ) → i ≤ j → length (drop j ws.words) ≤ length (drop i ws.words)
shorter_drop ws i j h = let a : length (drop j ws.words) ≡ length ws.words - j = length-drop j ws.words in let b : length (drop i ws.words) ≡ length ws.words - i = length-drop i ws.words in omega (arith, a, b)

pub both_refused : {Y Z : Type 0} {longer : TokenKind → Bool} {a : Y → List Goal} {b : Z → List Goal} (ws : Readable) (from : List Word) (i j n : ℕ) (c d why : Cause) →
    IsRefused ws.limits longer a from (drop i ws.words) c → IsRefused ws.limits longer b from (drop j ws.words) d → IsFarther i c j d n why → IsRefused ws.limits longer (either_of a b) from (drop n ws.words) why
both_refused {longer = more} {a = a} {b = b} ws from i j n c d why p q (inl h) =
    let P : ℕ → Type 0 = λ v. IsRefused ws.limits more (either_of a b) from (drop v ws.words) why in
    subst P (sym h.1) (turned_refused (later_refused q p (shorter_drop ws j i h.0) h.2))
both_refused {longer = more} {a = a} {b = b} ws from i j n c d why p q (inr h) =
    let P : ℕ → Type 0 = λ v. IsRefused ws.limits more (either_of a b) from (drop v ws.words) why in
    subst P (sym h.1) (later_refused p q (shorter_drop ws i j h.0) h.2)

-- ---- What may be longer in the place around it

pub refused_wider : {most : Limits} {X : Type 0} {inner outer : TokenKind → Bool} {a : X → List Goal} {from rest : List Word} {why : Cause} → Within inner outer → IsRefused most inner a from rest why → IsRefused most outer a from rest why
refused_wider n r = record {
  front = r.front;
  whole = r.whole;
  tree = r.tree;
  more = r.more;
  goes_on = r.goes_on;
  stops = λ l s x gs w f h d. r.stops l s x gs w (follows_within n f) h d;
  excused = r.excused;
}

followed : {l : Limits} {gs : List Goal} (outer : TokenKind → Bool) (j : Word) (rest w : List Word) → IsTrue (outer j.kind) → Follows l outer gs → SameHead w (j ∷ rest) → Spells l gs w → ⊥
followed outer j rest [] h f s d = s
followed outer j rest (t ∷ w) h f s d = f t w (let P : Word → Type 0 = λ v. IsTrue (outer v.kind) in subst P (sym s) h) d

-- what passes is refused where a token stands behind it with which only another thing could go on
pub refused_behind : {most : Limits} {X : Type 0} {inner outer : TokenKind → Bool} {a : X → List Goal} {from rest : List Word} {y : X} (j : Word) (behind : List Word) → Within inner outer → rest ≡ j ∷ behind → IsTrue (outer j.kind) → Passes most inner a from nothing rest (λ u. y) → IsRefused most outer a from rest Syntax
refused_behind {outer = outer} {a = a} {rest = rest} {y = y} j behind n e h p = record {
  front = p.front;
  whole = p.whole;
  tree = y;
  more = [];
  goes_on = λ l i gs w d. p.back l i tt gs w d;
  stops = λ l s x gs w f g d. followed outer j behind w h f (let P : List Word → Type 0 = λ v. SameHead w v in subst P e g) (p.forth l x gs w (follows_within n f) g d).2;
  excused = tt;
}
