-- A second reading, of the tokens up to the one that a first reading refused, within limits that are wider.
use Rattle.std.proofs.Common.{◌≡◌, ℕ, zero, suc, ◌+◌, ◌-◌, ◌<◌, false, List, [], ◌∷◌, ◌++◌, min, length, get_or, take, drop, refl, sym, ap, subst, ◌∙◌, append_assoc, arith, ◌^◌, ◌⊎◌, inl, inr, Some, Ok, Err}
use Rattle.std.proofs.Math.Seq.{drop-cons}
use Rattle.std.proofs.Math.ListN.{drop_of_length-le}
use Rattle.std.proofs.lemmas.List.{append_cancel_right, drop-take, take-append-drop, append-nil, take_min, length-append, length-drop, length-take, length-take-le}
use Rattle.erl_syntax.specs.Word.{Word}
use Rattle.erl_syntax.specs.Grammar.{Goal, Limits, Spells, ends, strict}
use Rattle.pattern_read.specs.declared.fault.Cause.{Cause}
use Rattle.pattern_read.specs.declared.fault.Cause.TheVariants.{Syntax, TooDeep, UnknownAttribute, UnknownSegmentType, Undecided}
use Rattle.pattern_read.specs.Reading.{Passes, IsRefused, GoesOn, Excused, IsWide, Stops, Follows, SameHead, nothing}
use Rattle.pattern_read.proofs.Operands.{some_word}
use Rattle.pattern_read.proofs.Passing.{spells_at}
use Rattle.body_read.proofs.Groups.{Fronts, longer, alike, shorter, fronts}
use Rattle.clause_read.specs.declared.forms.ModuleForms.{ModuleForms}
use Rattle.clause_read.specs.WantedForms.{anything, forms_in, ReadsForms}
use Rattle.clause_read.specs.ReadText.{IsTold, told}
use Rattle.clause_read.specs.declared.read.ReadCause.{ReadCause}
use Rattle.clause_read.specs.declared.read.ReadCause.TheVariants as r
use Rattle.pattern_read.specs.Cursor.{Readable, limits_of}
use Rattle.pattern_read.specs.declared.fault.Fault.TheVariants.{Refused}
use Rattle.std.proofs.lemmas.Bool.{cases_lt}

-- ---- The tokens up to a place

drop_after : (at : ℕ) (ws : List Word) → drop 1 (drop at ws) ≡ drop (suc at) ws
drop_after zero ws = refl
drop_after (suc at) [] = refl
drop_after (suc at) (j ∷ ws) = drop_after at ws

drop_again : (at : ℕ) (ws : List Word) → drop 1 (drop at ws) ≡ drop (at + 1) ws
drop_again at ws = let s : suc at ≡ at + 1 = omega arith in drop_after at ws ∙ ap (λ i. drop i ws) s

-- the token at the place is the last of them
last_token : (ws : List Word) (at : ℕ) → drop at (take (at + 1) ws) ≡ take 1 (drop at ws)
last_token ws at = drop-take at 1 ws

head_kept : (d w : List Word) → SameHead w d → SameHead w (take 1 d)
head_kept [] w s = s
head_kept (j ∷ d) [] s = s
head_kept (j ∷ d) (i ∷ w) s = s

head_back : (d : List Word) (f : Word) (b : List Word) → take 1 d ≡ f ∷ b → (c : List Word) × (d ≡ f ∷ c)
head_back [] f b e = cc
head_back (j ∷ d) f b e = (d, cc)

token_there : (ws : List Word) (at : ℕ) → at < length ws → (j : Word) × (drop at ws ≡ j ∷ drop (at + 1) ws)
token_there ws at h = let s : suc at ≡ at + 1 = omega arith in (get_or ws at some_word, drop-cons ws at some_word h ∙ ap (λ i. get_or ws at some_word ∷ drop i ws) s)

-- what a reading of them has before the place is what the first one has
same_front : (ws front again : List Word) (at : ℕ) → ws ≡ front ++ drop at ws → take (at + 1) ws ≡ again ++ drop at (take (at + 1) ws) → again ≡ front
same_front ws front again at a b =
    let d : List Word = drop at ws in
    let r : List Word = drop (at + 1) ws in
    let e : take 1 d ++ r ≡ d = ap (λ v. take 1 d ++ v) (sym (drop_again at ws)) ∙ take-append-drop 1 d in
    append_cancel_right again front d (ap (λ v. again ++ v) (sym e) ∙ sym (append_assoc again (take 1 d) r) ∙ ap (λ v. (again ++ v) ++ r) (sym (last_token ws at)) ∙ ap (λ v. v ++ r) (sym b) ∙ take-append-drop (at + 1) ws ∙ a)

-- they are those before the place and the one there
with_last : (ws front : List Word) (at : ℕ) (j : Word) → ws ≡ front ++ drop at ws → drop at ws ≡ j ∷ drop (at + 1) ws → take (at + 1) ws ≡ front ++ (j ∷ [])
with_last ws front at j a b =
    let r : List Word = drop (at + 1) ws in
    append_cancel_right (take (at + 1) ws) (front ++ (j ∷ [])) r (take-append-drop (at + 1) ws ∙ a ∙ ap (λ v. front ++ v) b ∙ sym (append_assoc front (j ∷ []) r))

-- ---- Refused at the same token again

-- causes in which the limits on depth play no part
abbrev IsDecided : Cause → Type 0
IsDecided Syntax = Unit {0}
IsDecided TooDeep = ⊥
IsDecided UnknownAttribute = Unit {0}
IsDecided UnknownSegmentType = Unit {0}
IsDecided Undecided = ⊥

stops_any : (why : Cause) (most wider l : Limits) → IsDecided why → Stops most why l → Stops wider why l
stops_any Syntax most wider l i s = tt
stops_any TooDeep most wider l i s = absurd i
stops_any UnknownAttribute most wider l i s = s
stops_any UnknownSegmentType most wider l i s = s
stops_any Undecided most wider l i s = absurd i

wider_wide : {most wider l : Limits} → IsWide most wider → IsWide wider l → IsWide most l
wider_wide v w = record { trees = omega (arith, v.trees, w.trees); brackets = omega (arith, v.brackets, w.brackets) }

goes_on_again : {most wider : Limits} (ws front : List Word) (at : ℕ) (why : Cause) → IsWide most wider → GoesOn wider forms_in front (drop at (take (at + 1) ws)) why → GoesOn most forms_in front (drop at ws) why
goes_on_again ws front at why v g =
    let b = head_back (drop at ws) g.first g.behind (sym (last_token ws at) ∙ g.begins) in
    record { limits = g.limits; wide = wider_wide v g.wide; allows = g.allows; first = g.first; behind = b.0; begins = b.1; tree = g.tree; more = g.more; goes_on = g.goes_on }

excused_again : {most wider : Limits} (ws front : List Word) (at : ℕ) (why : Cause) → IsDecided why → IsWide most wider → Excused wider forms_in front (drop at (take (at + 1) ws)) why → Excused most forms_in front (drop at ws) why
excused_again ws front at Syntax i v e = tt
excused_again ws front at TooDeep i v e = absurd i
excused_again ws front at UnknownAttribute i v e = goes_on_again ws front at UnknownAttribute v e
excused_again ws front at UnknownSegmentType i v e = goes_on_again ws front at UnknownSegmentType v e
excused_again ws front at Undecided i v e = absurd i

refused_decided : {most wider : Limits} (ws : List Word) (at : ℕ) (why : Cause) → IsWide most wider → IsDecided why → IsRefused most anything forms_in ws (drop at ws) Undecided →
    IsRefused wider anything forms_in (take (at + 1) ws) (drop at (take (at + 1) ws)) why → IsRefused most anything forms_in ws (drop at ws) why
refused_decided {most = most} {wider = wider} ws at why v i p q =
    let e : q.front ≡ p.front = same_front ws p.front q.front at p.whole q.whole in
    let P : List Word → Type 0 = λ f. Excused wider forms_in f (drop at (take (at + 1) ws)) why in
    record {
      front = p.front;
      whole = p.whole;
      tree = p.tree;
      more = p.more;
      goes_on = p.goes_on;
      stops = λ l s x gs w f h d.
          let Q : List Word → Type 0 = λ u. SameHead w u in
          q.stops l (stops_any why most wider l i s) x gs w f (subst Q (sym (last_token ws at)) (head_kept (drop at ws) w h)) (spells_at (ap (λ u. u ++ w) (sym e)) d);
      excused = excused_again ws p.front at why i v (subst P e q.excused);
    }

-- too deep there too: limits that are wider still allow the token
refused_deep : {most wider : Limits} (ws : List Word) (at : ℕ) → IsWide most wider → IsRefused most anything forms_in ws (drop at ws) Undecided →
    IsRefused wider anything forms_in (take (at + 1) ws) (drop at (take (at + 1) ws)) TooDeep → IsRefused most anything forms_in ws (drop at ws) TooDeep
refused_deep {wider = wider} ws at v p q =
    let e : q.front ≡ p.front = same_front ws p.front q.front at p.whole q.whole in
    let P : List Word → Type 0 = λ f. GoesOn wider forms_in f (drop at (take (at + 1) ws)) TooDeep in
    record {
      front = p.front;
      whole = p.whole;
      tree = p.tree;
      more = p.more;
      goes_on = p.goes_on;
      stops = λ l s x gs w f k d. p.stops l s x gs w f k d;
      excused = goes_on_again ws p.front at TooDeep v (subst P e q.excused);
    }

refused_again : {most wider : Limits} (ws : List Word) (at : ℕ) (why : Cause) (cause : ReadCause) → told why ≡ Some cause → IsWide most wider → IsRefused most anything forms_in ws (drop at ws) Undecided →
    IsRefused wider anything forms_in (take (at + 1) ws) (drop at (take (at + 1) ws)) why → IsRefused most anything forms_in ws (drop at ws) why
refused_again ws at Syntax cause t v p q = refused_decided ws at Syntax v tt p q
refused_again ws at TooDeep cause t v p q = refused_deep ws at v p q
refused_again ws at UnknownAttribute cause t v p q = refused_decided ws at UnknownAttribute v tt p q
refused_again ws at UnknownSegmentType cause t v p q = refused_decided ws at UnknownSegmentType v tt p q
refused_again ws at Undecided cause t v p q = absurd cc

-- ---- Read past the token

-- the tokens begin a module within the limits
pub record BeginsModule (l : Limits) (us : List Word) : Type 0 where
  pub tree : ModuleForms
  pub more : List Word
  pub spelled : (gs : List Goal) (w : List Word) → Spells l gs w → Spells l (forms_in tree ++ gs) (us ++ (more ++ w))

itself_wide : (l : Limits) → IsWide l l
itself_wide l = record { trees = omega arith; brackets = omega arith }

pub begun_whole : {l : Limits} (us : List Word) (r : ModuleForms) → Passes l anything forms_in us nothing [] (λ u. r) → BeginsModule l us
begun_whole {l = l} us r p = record {
  tree = r;
  more = [];
  spelled = λ gs w d. spells_at (ap (λ v. v ++ w) (sym (append-nil p.front) ∙ sym p.whole)) (p.back l (itself_wide l) tt gs w d);
}

pub begun_refused : {l : Limits} (us rest : List Word) (why : Cause) → rest ≡ [] → IsRefused l anything forms_in us rest why → BeginsModule l us
begun_refused {l = l} us rest why n r = record {
  tree = r.tree;
  more = r.more;
  spelled = λ gs w d. spells_at (ap (λ v. v ++ (r.more ++ w)) (sym (append-nil r.front) ∙ ap (λ v. r.front ++ v) (sym n) ∙ sym r.whole)) (r.goes_on l (itself_wide l) gs w d);
}

-- limits on depth alone
pub record IsPlain (l : Limits) : Type 0 where
  pub any_attribute : l.any_attribute ≡ false
  pub any_type : l.any_type ≡ false

pub too_deep_again : {most wider : Limits} (ws : List Word) (at : ℕ) → IsWide most wider → IsPlain wider → at < length ws → BeginsModule wider (take (at + 1) ws) → IsRefused most anything forms_in ws (drop at ws) Undecided → IsRefused most anything forms_in ws (drop at ws) TooDeep
too_deep_again {wider = wider} ws at v i h b p =
    let t : (j : Word) × (drop at ws ≡ j ∷ drop (at + 1) ws) = token_there ws at h in
    let e : take (at + 1) ws ≡ p.front ++ (t.0 ∷ []) = with_last ws p.front at t.0 p.whole t.1 in
    record {
      front = p.front;
      whole = p.whole;
      tree = p.tree;
      more = p.more;
      goes_on = p.goes_on;
      stops = λ l s x gs w f k d. p.stops l s x gs w f k d;
      excused = record {
        limits = wider;
        wide = v;
        allows = (i.any_attribute, i.any_type);
        first = t.0;
        behind = drop (at + 1) ws;
        begins = t.1;
        tree = b.tree;
        more = b.more;
        goes_on = λ gs w d. spells_at (ap (λ u. u ++ (b.more ++ w)) e ∙ append_assoc p.front (t.0 ∷ []) (b.more ++ w)) (b.spelled gs w d);
      };
    }

-- ---- Never refused before the token

stops_itself : (why : Cause) (l : Limits) → IsPlain l → Stops l why l
stops_itself Syntax l i = tt
stops_itself TooDeep l i = record { trees = refl; brackets = refl; any_attribute = i.any_attribute; any_type = i.any_type }
stops_itself UnknownAttribute l i = i.any_attribute
stops_itself UnknownSegmentType l i = i.any_type
stops_itself Undecided l i = record { trees = refl; brackets = refl; any_attribute = i.any_attribute; any_type = i.any_type }

nothing_follows : (l : Limits) → Follows l anything []
nothing_follows l t w h d = elim d [ ]

refused_before : {wider : Limits} (us ra rb front : List Word) (why : Cause) (tree : ModuleForms) (more : List Word) → IsPlain wider → (q : IsRefused wider anything forms_in us ra why) → Fronts q.front front ra rb → length rb < length ra →
    Spells wider (forms_in tree ++ []) (front ++ more) → ⊥
refused_before us ra rb front why tree more i q (longer j z e h) n d =
    let m : length rb ≡ length ((j ∷ z) ++ ra) = ap length h in
    let o : length ((j ∷ z) ++ ra) ≡ length (j ∷ z) + length ra = length-append (j ∷ z) ra in omega (arith, m, o)
refused_before us ra rb front why tree more i q (alike e h) n d = let m : length ra ≡ length rb = ap length h in omega (arith, m)
refused_before {wider = wider} us ra rb front why tree more i q (shorter j z e h) n d =
    let P : List Word → Type 0 = λ v. SameHead ((j ∷ z) ++ more) v in
    q.stops wider (stops_itself why wider i) tree [] ((j ∷ z) ++ more) (nothing_follows wider) (subst P (sym h) refl) (spells_at (ap (λ v. v ++ more) e ∙ append_assoc q.front (j ∷ z) more) d)

pub never_before : {most wider : Limits} (ws : List Word) (at place : ℕ) (why : Cause) → IsWide most wider → IsPlain wider → place < at → at < length ws → IsRefused most anything forms_in ws (drop at ws) Undecided →
    IsRefused wider anything forms_in (take (at + 1) ws) (drop place (take (at + 1) ws)) why → ⊥
never_before {wider = wider} ws at place why v i b h p q =
    let us : List Word = take (at + 1) ws in
    let t : (j : Word) × (drop at ws ≡ j ∷ drop (at + 1) ws) = token_there ws at h in
    let e : us ≡ p.front ++ (t.0 ∷ []) = with_last ws p.front at t.0 p.whole t.1 in
    let n : length us ≡ at + 1 = length-take-le (at + 1) ws (omega (arith, h)) in
    let m : length (drop place us) ≡ length us - place = length-drop place us in
    refused_before us (drop place us) (t.0 ∷ []) p.front why p.tree (p.more ++ []) i q (fronts q.front p.front (drop place us) (t.0 ∷ []) (sym q.whole ∙ e)) (omega (arith, n, m, b)) (p.goes_on wider v [] [] ends)

pub past_end : (ws : List Word) (at place : ℕ) → at < place → drop place (take (at + 1) ws) ≡ []
past_end ws at place h = drop_of_length-le (take (at + 1) ws) (let n : length (take (at + 1) ws) ≡ min (at + 1) (length ws) = length-take (at + 1) ws in omega (arith, n, h))

-- ---- What the second reading tells

wide : IsWide strict (limits_of (2 ^ 32) (2 ^ 32))
wide = record { trees = omega arith; brackets = omega arith }

plain : IsPlain (limits_of (2 ^ 32) (2 ^ 32))
plain = record { any_attribute = refl; any_type = refl }

-- the tokens up to that index, to be read however deep
abbrev pub front_of : List Word → ℕ → Readable
front_of ws at = record { words = take (at + 1) ws; limits = limits_of (2 ^ 32) (2 ^ 32) }

pub front_is : (s : Readable) (ws : List Word) (at count n : ℕ) → n ≡ min (at + 1) count → count ≡ length ws → s ≡ (let P : Readable = record { words = take n ws; limits = limits_of (2 ^ 32) (2 ^ 32) } in P) → s ≡ front_of ws at
front_is s ws at count n h c e =
    let f : List Word → Readable = λ us. record { words = us; limits = limits_of (2 ^ 32) (2 ^ 32) } in
    e ∙ ap f (ap (λ i. take i ws) (h ∙ ap (λ i. min (at + 1) i) c) ∙ take_min (at + 1) ws)

-- the cause at the token is told, or that memory ran out
abbrev pub Answers : List Word → ℕ → ReadCause → Type 0
Answers ws at cause = (cause ≡ r.NoMemory) ⊎ IsTold ws (drop at ws) cause

-- too deep, if the token is one of so many
abbrev pub Behind : ℕ → ℕ → ReadCause → Type 0
Behind at count cause = (cause ≡ r.NoMemory) ⊎ ((cause ≡ r.TooDeep) × (at < count))

told_deep : (ws : List Word) (at count : ℕ) (cause : ReadCause) → count ≡ length ws → IsRefused strict anything forms_in ws (drop at ws) Undecided → (at < length ws → BeginsModule (limits_of (2 ^ 32) (2 ^ 32)) (take (at + 1) ws)) → Behind at count cause → Answers ws at cause
told_deep ws at count cause c p b (inl m) = inl m
told_deep ws at count cause c p b (inr d) =
    let h : at < length ws = omega (arith, c, d.1) in
    inr (record { why = TooDeep; is = ap Some (sym d.0); refused = too_deep_again ws at wide plain h (b h) p })

pub told_whole : (s : Readable) (ws : List Word) (at count : ℕ) (cause : ReadCause) (fs : ModuleForms) → s ≡ front_of ws at → count ≡ length ws → IsRefused strict anything forms_in ws (drop at ws) Undecided → ReadsForms s (Ok fs) → Behind at count cause → Answers ws at cause
told_whole s ws at count cause fs e c p g b =
    let P : Readable → Type 0 = λ v. ReadsForms v (Ok fs) in
    told_deep ws at count cause c p (λ h. begun_whole (take (at + 1) ws) fs (subst P e g)) b

refused_past : (ws : List Word) (at place : ℕ) (why : Cause) → (place ≡ at → ⊥) → IsRefused strict anything forms_in ws (drop at ws) Undecided → ReadsForms (front_of ws at) (Err (Refused place why)) → at < length ws → BeginsModule (limits_of (2 ^ 32) (2 ^ 32)) (take (at + 1) ws)
refused_past ws at place why n p g h = elim (cases_lt place at) [
  | inl b ↦ absurd (never_before ws at place why wide plain b h p g)
  | inr b ↦ elim (cases_lt at place) [
    | inl a ↦ begun_refused (take (at + 1) ws) (drop place (take (at + 1) ws)) why (past_end ws at place a) g
    | inr a ↦ absurd (n (omega (arith, a, b)))
  ]
]

pub told_past : (s : Readable) (ws : List Word) (at count place : ℕ) (why : Cause) (cause : ReadCause) → s ≡ front_of ws at → count ≡ length ws → (place ≡ at → ⊥) → IsRefused strict anything forms_in ws (drop at ws) Undecided → ReadsForms s (Err (Refused place why)) → Behind at count cause → Answers ws at cause
told_past s ws at count place why cause e c n p g b =
    let P : Readable → Type 0 = λ v. ReadsForms v (Err (Refused place why)) in
    told_deep ws at count cause c p (λ h. refused_past ws at place why n p (subst P e g) h) b

pub told_there : (s : Readable) (ws : List Word) (at place : ℕ) (why : Cause) (cause : ReadCause) → s ≡ front_of ws at → place ≡ at → IsRefused strict anything forms_in ws (drop at ws) Undecided → ReadsForms s (Err (Refused place why)) → (cause ≡ r.NoMemory) ⊎ (told why ≡ Some cause) → Answers ws at cause
told_there s ws at place why cause e i p g (inl m) = inl m
told_there s ws at place why cause e i p g (inr d) =
    let P : Readable → Type 0 = λ v. ReadsForms v (Err (Refused place why)) in
    let Q : ℕ → Type 0 = λ v. ReadsForms (front_of ws at) (Err (Refused v why)) in
    inr (record { why = why; is = d; refused = refused_again ws at why cause d wide p (subst Q i (subst P e g)) })
