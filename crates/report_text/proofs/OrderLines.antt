-- The lines of orders: each is read in one way.
use Rattle.std.proofs.Common.{◌≡◌, ℕ, zero, suc, ◌+◌, ◌<◌, ◌≤◌, ◌^◌, List, [], ◌∷◌, ◌++◌, length, get_or, All, codes, decimal, refl, ap, sym, ◌∙◌, arith, append_assoc, lit<}
use Rattle.std.specs.List.{flat_map}
use Rattle.std.proofs.lemmas.List.Elements.{All-head, All-tail}
use Rattle.std.proofs.lemmas.Fmt.{decimal_is_IsNumeral, decimal_injective}
use Rattle.std.proofs.lemmas.Str.Parse.{digit_at}
use Rattle.term_value.specs.Orders.{entry_word, entry_numbers, entry_text, order_text, IsInRange, IsPid, HasNoLineFeed}
use Rattle.report_text.specs.Laws.{OneOrder, EntryIsLine}
use Rattle.term_value.specs.declared.entry.Entry.{Entry}
use Rattle.term_value.specs.declared.entry.Entry.TheVariants.{Sent, Saw, Shown, Started, Full, Ended, Stopped, Gone}

-- ---- Words: characters above the space (32)

abbrev pub Above : List ℕ → Type 0
Above [] = Unit {0}
Above (c ∷ cs) = (32 < c) × Above cs

above_from : (cs : List ℕ) → ((i : ℕ) → i < length cs → 32 < get_or cs i 0) → Above cs
above_from [] f = tt
above_from (c ∷ cs) f = (f 0 (omega arith), above_from cs (λ i h. let k : suc i < length (c ∷ cs) = omega (arith, h) in f (suc i) k))

pub above_digits : (n : ℕ) → n < 2 ^ 64 → Above (decimal n)
above_digits n small =
    above_from (decimal n) (λ i within.
    let at = digit_at (decimal n) i ((decimal_is_IsNumeral n small).0.1) within in
    omega (arith, at.0))

pub above_word : (e : Entry) → Above (entry_word e)
above_word (Sent from to) = (lit< tt, (lit< tt, (lit< tt, (lit< tt, tt))))
above_word (Saw pid n) = (lit< tt, (lit< tt, (lit< tt, tt)))
above_word (Shown pid) = (lit< tt, (lit< tt, (lit< tt, (lit< tt, (lit< tt, tt)))))
above_word (Started pid child) = (lit< tt, (lit< tt, (lit< tt, (lit< tt, (lit< tt, (lit< tt, (lit< tt, tt)))))))
above_word (Full pid) = (lit< tt, (lit< tt, (lit< tt, (lit< tt, tt))))
above_word (Ended pid) = (lit< tt, (lit< tt, (lit< tt, (lit< tt, (lit< tt, tt)))))
above_word (Stopped pid) = (lit< tt, (lit< tt, (lit< tt, (lit< tt, (lit< tt, (lit< tt, (lit< tt, tt)))))))
above_word (Gone pid births drops moved) = (lit< tt, (lit< tt, (lit< tt, (lit< tt, tt))))

-- what follows a word is nothing, or begins with a space or a line feed
abbrev pub Marks : List ℕ → Type 0
Marks [] = Unit {0}
Marks (c ∷ cs) = c ≤ 32

pub cut_apart : (a b x y : List ℕ) → Above a → Above b → Marks x → Marks y → a ++ x ≡ b ++ y → (a ≡ b) × (x ≡ y)
cut_apart [] [] x y ha hb mx my e = (refl, e)
cut_apart [] (d ∷ b) [] y ha hb mx my e = cc e
cut_apart [] (d ∷ b) (c ∷ x) y ha hb mx my e = let s : c ≡ d = cc e in absurd (omega (arith, mx, hb.0, s))
cut_apart (c ∷ a) [] x [] ha hb mx my e = cc e
cut_apart (c ∷ a) [] x (d ∷ y) ha hb mx my e = let s : c ≡ d = cc e in absurd (omega (arith, my, ha.0, s))
cut_apart (c ∷ a) (d ∷ b) x y ha hb mx my e =
    let s : c ≡ d = cc e in
    let t : a ++ x ≡ b ++ y = cc e in
    let ih = cut_apart a b x y ha.1 hb.1 mx my t in
    (ap (λ z. z ∷ a) s ∙ ap (λ l. d ∷ l) ih.0, ih.1)

-- ---- Numbers

abbrev pub Small : List ℕ → Type 0
Small [] = Unit {0}
Small (n ∷ ns) = (n < 2 ^ 64) × Small ns

abbrev pub numbers : List ℕ → List ℕ
numbers ns = flat_map (λ n. codes " " ++ decimal n) ns

pub numbers_mark : (ns r : List ℕ) → Marks (numbers ns ++ (10 ∷ r))
numbers_mark [] r = omega arith
numbers_mark (n ∷ ns) r = omega arith

pub numbers-more : (n : ℕ) (ns r : List ℕ) → numbers (n ∷ ns) ++ r ≡ 32 ∷ (decimal n ++ (numbers ns ++ r))
numbers-more n ns r = ap (λ l. 32 ∷ l) (append_assoc (decimal n) (numbers ns) r)

pub one_numbers : (ns ms r s : List ℕ) → Small ns → Small ms → numbers ns ++ (10 ∷ r) ≡ numbers ms ++ (10 ∷ s) → (ns ≡ ms) × (r ≡ s)
one_numbers [] [] r s hn hm e = (refl, cc e)
one_numbers [] (m ∷ ms) r s hn hm e = let f : 10 ∷ r ≡ 32 ∷ (decimal m ++ (numbers ms ++ (10 ∷ s))) = e ∙ numbers-more m ms (10 ∷ s) in cc f
one_numbers (n ∷ ns) [] r s hn hm e = let f : 32 ∷ (decimal n ++ (numbers ns ++ (10 ∷ r))) ≡ 10 ∷ s = sym (numbers-more n ns (10 ∷ r)) ∙ e in cc f
one_numbers (n ∷ ns) (m ∷ ms) r s hn hm e =
    let f : 32 ∷ (decimal n ++ (numbers ns ++ (10 ∷ r))) ≡ 32 ∷ (decimal m ++ (numbers ms ++ (10 ∷ s))) = sym (numbers-more n ns (10 ∷ r)) ∙ e ∙ numbers-more m ms (10 ∷ s) in
    let g : decimal n ++ (numbers ns ++ (10 ∷ r)) ≡ decimal m ++ (numbers ms ++ (10 ∷ s)) = cc f in
    let both = cut_apart (decimal n) (decimal m) (numbers ns ++ (10 ∷ r)) (numbers ms ++ (10 ∷ s)) (above_digits n hn.0) (above_digits m hm.0) (numbers_mark ns r) (numbers_mark ms s) g in
    let ih = one_numbers ns ms r s hn.1 hm.1 both.1 in
    (ap (λ z. z ∷ ns) (decimal_injective n m hn.0 hm.0 both.0) ∙ ap (λ l. m ∷ l) ih.0, ih.1)

-- ---- Entries

pid_small : (pid : ℕ) → IsPid pid → pid < 2 ^ 64
pid_small pid h = omega (arith, h.1)

pub in_range_small : (e : Entry) → IsInRange e → Small (entry_numbers e)
in_range_small (Sent from to) h = (pid_small from h.0, (pid_small to h.1, tt))
in_range_small (Saw pid n) h = (pid_small pid h.0, (omega (arith, h.2), tt))
in_range_small (Shown pid) h = (pid_small pid h, tt)
in_range_small (Started pid child) h = (pid_small pid h.0, (pid_small child h.1, tt))
in_range_small (Full pid) h = (pid_small pid h, tt)
in_range_small (Ended pid) h = (pid_small pid h, tt)
in_range_small (Stopped pid) h = (pid_small pid h, tt)
in_range_small (Gone pid births drops moved) h = (pid_small pid h.0, (h.1, (h.2, (h.3, tt))))

-- the sum of the characters tells the words apart
abbrev total : List ℕ → ℕ
total [] = 0
total (c ∷ cs) = c + total cs

same_entry : (e f : Entry) → entry_word e ≡ entry_word f → entry_numbers e ≡ entry_numbers f → e ≡ f
same_entry (Sent a b) (Sent c d) w n = cc n
same_entry (Saw a b) (Saw c d) w n = cc n
same_entry (Shown a) (Shown c) w n = cc n
same_entry (Started a b) (Started c d) w n = cc n
same_entry (Full a) (Full c) w n = cc n
same_entry (Ended a) (Ended c) w n = cc n
same_entry (Stopped a) (Stopped c) w n = cc n
same_entry (Gone a b c d) (Gone f g h i) w n = cc n
same_entry e f w n = let k : total (entry_word e) ≡ total (entry_word f) = ap total w in absurd (omega (arith, k))

pub entry-parts : (e : Entry) (r : List ℕ) → entry_text e ++ r ≡ entry_word e ++ (numbers (entry_numbers e) ++ (10 ∷ r))
entry-parts e r = append_assoc (entry_word e ++ numbers (entry_numbers e)) (codes "\n") r ∙ append_assoc (entry_word e) (numbers (entry_numbers e)) (10 ∷ r)

pub one_entry : (e f : Entry) (r s : List ℕ) → IsInRange e → IsInRange f → entry_text e ++ r ≡ entry_text f ++ s → (e ≡ f) × (r ≡ s)
one_entry e f r s he hf h =
    let g = sym (entry-parts e r) ∙ h ∙ entry-parts f s in
    let both = cut_apart (entry_word e) (entry_word f) (numbers (entry_numbers e) ++ (10 ∷ r)) (numbers (entry_numbers f) ++ (10 ∷ s)) (above_word e) (above_word f) (numbers_mark (entry_numbers e) r) (numbers_mark (entry_numbers f) s) g in
    let rest = one_numbers (entry_numbers e) (entry_numbers f) r s (in_range_small e he) (in_range_small f hf) both.1 in
    (same_entry e f both.0 rest.0, rest.1)

pub not_empty : (e : Entry) (r : List ℕ) → [] ≡ entry_text e ++ r → ⊥
not_empty (Sent from to) r h = cc h
not_empty (Saw pid n) r h = cc h
not_empty (Shown pid) r h = cc h
not_empty (Started pid child) r h = cc h
not_empty (Full pid) r h = cc h
not_empty (Ended pid) r h = cc h
not_empty (Stopped pid) r h = cc h
not_empty (Gone pid births drops moved) r h = cc h

one_list : (es fs : List Entry) → All IsInRange es → All IsInRange fs → order_text es ≡ order_text fs → es ≡ fs
one_list [] [] he hf e = refl
one_list [] (f ∷ fs) he hf e = absurd (not_empty f (order_text fs) e)
one_list (e ∷ es) [] he hf h = absurd (not_empty e (order_text es) (sym h))
one_list (e ∷ es) (f ∷ fs) he hf h =
    let both = one_entry e f (order_text es) (order_text fs) (All-head IsInRange e es he) (All-head IsInRange f fs hf) h in
    ap (λ z. z ∷ es) both.0 ∙ ap (λ l. f ∷ l) (one_list es fs (All-tail IsInRange e es he) (All-tail IsInRange f fs hf) both.1)

pub one_order : OneOrder
one_order text es fs a b = one_list es fs a.in_range b.in_range (sym a.spelled ∙ b.spelled)

-- ---- Lines

-- characters from the space on
abbrev Plain : List ℕ → Type 0
Plain [] = Unit {0}
Plain (c ∷ cs) = (32 ≤ c) × Plain cs

plain_word : (cs : List ℕ) → Above cs → Plain cs
plain_word [] h = tt
plain_word (c ∷ cs) h = (omega (arith, h.0), plain_word cs h.1)

plain_append : (a b : List ℕ) → Plain a → Plain b → Plain (a ++ b)
plain_append [] b ha hb = hb
plain_append (c ∷ a) b ha hb = (ha.0, plain_append a b ha.1 hb)

plain_numbers : (ns : List ℕ) → Small ns → Plain (numbers ns)
plain_numbers [] h = tt
plain_numbers (n ∷ ns) h = (omega arith, plain_append (decimal n) (numbers ns) (plain_word (decimal n) (above_digits n h.0)) (plain_numbers ns h.1))

plain_at : (cs : List ℕ) (k d : ℕ) → Plain cs → k < length cs → 32 ≤ get_or cs k d
plain_at [] k d h l = absurd (omega (arith, l))
plain_at (c ∷ cs) zero d h l = h.0
plain_at (c ∷ cs) (suc k) d h l = let m : k < length cs = omega (arith, l) in plain_at cs k d h.1 m

no_line_feed : (cs : List ℕ) → Plain cs → HasNoLineFeed cs
no_line_feed cs h in_it = omega (arith, plain_at cs in_it.0 10 h in_it.1, in_it.2)

pub entry_is_line : EntryIsLine
entry_is_line e h =
    let chars = entry_word e ++ numbers (entry_numbers e) in
    (chars, no_line_feed chars (plain_append (entry_word e) (numbers (entry_numbers e)) (plain_word (entry_word e) (above_word e)) (plain_numbers (entry_numbers e) (in_range_small e h))), refl)
