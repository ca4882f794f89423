-- The order of bytes in UTF-8 is the order of the characters' numbers.
use Rattle.std.proofs.Common.{◌≡◌, inl, inr, ℕ, ◌+◌, ◌/◌, ◌%◌, ◌<◌, ◌≤◌, IsTrue, List, [], ◌∷◌, ◌++◌, All, refl, ap, sym, ◌∙◌, arith}
use Rattle.std.specs.Prelude.{cond, ◌==◌, encode_utf8_all}
use Rattle.std.specs.Char.{encode_utf8}
use Rattle.std.specs.List.{flat_map}
use Rattle.std.specs.Ordering.{nat_cmp, ordering_then, ordering_reverse}
use Rattle.std.specs.Cmp.Lexicographic.{slice_cmp}
use Rattle.std.specs.declared.cmp.Ordering.{Ordering}
use Rattle.std.specs.declared.cmp.Ordering.TheVariants.{Less, Equal, Greater}
use Rattle.std.proofs.lemmas.Bool.{cases_lt, lt-ltb}
use Rattle.std.proofs.lemmas.Cmp.{nat_cmp_total, nat_list_cmp_total, tied_itself}
use Rattle.std.proofs.lemmas.List.Elements.{All-head, All-tail}
use Rattle.bits_value.specs.Utf.{is_character, utf8_bytes}
use Rattle.utf_segments.proofs.Candidates.{character-lt}
use Rattle.term_laws.specs.Laws.{NamesByCharacters}
use Rattle.term_value.proofs.Spellings.{utf8-one, utf8-two, utf8-three, utf8-four}

abbrev compared : List ℕ → List ℕ → Ordering
compared xs ys = slice_cmp nat_cmp xs ys

less : (a b : ℕ) → a < b → nat_cmp a b ≡ Less
less a b h = ap (λ t. cond t Less (cond (a == b) Equal Greater)) (lt-ltb a b h)

equal : (a b : ℕ) → a ≡ b → nat_cmp a b ≡ Equal
equal a b e = ap (λ m. nat_cmp a m) (sym e) ∙ tied_itself nat_cmp_total a

-- the first byte decides, or the others where it is the same
first_less : (a b : ℕ) (xs ys : List ℕ) → a < b → compared (a ∷ xs) (b ∷ ys) ≡ Less
first_less a b xs ys h = ap (λ o. ordering_then o (compared xs ys)) (less a b h)

first_same : (a b : ℕ) (xs ys : List ℕ) → a ≡ b → compared xs ys ≡ Less → compared (a ∷ xs) (b ∷ ys) ≡ Less
first_same a b xs ys e h = ap (λ o. ordering_then o (compared xs ys)) (equal a b e) ∙ h

-- ---- Characters of one length

module _ (c d : ℕ) (x y : List ℕ) (h : c < d) where
  same_two : compared ((0xC0 + c / 0x40) ∷ (0x80 + c % 0x40) ∷ x) ((0xC0 + d / 0x40) ∷ (0x80 + d % 0x40) ∷ y) ≡ Less
  same_two = elim (cases_lt (c / 0x40) (d / 0x40)) [
    | inl a ↦ first_less (0xC0 + c / 0x40) (0xC0 + d / 0x40) ((0x80 + c % 0x40) ∷ x) ((0x80 + d % 0x40) ∷ y) (omega (arith, a))
    | inr b ↦ first_same (0xC0 + c / 0x40) (0xC0 + d / 0x40) ((0x80 + c % 0x40) ∷ x) ((0x80 + d % 0x40) ∷ y) (omega arith) (first_less (0x80 + c % 0x40) (0x80 + d % 0x40) x y (omega arith))
  ]

  same_three : compared ((0xE0 + c / 0x1000) ∷ (0x80 + c / 0x40 % 0x40) ∷ (0x80 + c % 0x40) ∷ x) ((0xE0 + d / 0x1000) ∷ (0x80 + d / 0x40 % 0x40) ∷ (0x80 + d % 0x40) ∷ y) ≡ Less
  same_three = elim (cases_lt (c / 0x1000) (d / 0x1000)) [
    | inl a ↦ first_less (0xE0 + c / 0x1000) (0xE0 + d / 0x1000) ((0x80 + c / 0x40 % 0x40) ∷ (0x80 + c % 0x40) ∷ x) ((0x80 + d / 0x40 % 0x40) ∷ (0x80 + d % 0x40) ∷ y) (omega (arith, a))
    | inr b ↦ first_same (0xE0 + c / 0x1000) (0xE0 + d / 0x1000) ((0x80 + c / 0x40 % 0x40) ∷ (0x80 + c % 0x40) ∷ x) ((0x80 + d / 0x40 % 0x40) ∷ (0x80 + d % 0x40) ∷ y) (omega arith) (elim (cases_lt (c / 0x40 % 0x40) (d / 0x40 % 0x40)) [
      | inl a ↦ first_less (0x80 + c / 0x40 % 0x40) (0x80 + d / 0x40 % 0x40) ((0x80 + c % 0x40) ∷ x) ((0x80 + d % 0x40) ∷ y) (omega (arith, a))
      | inr e ↦ first_same (0x80 + c / 0x40 % 0x40) (0x80 + d / 0x40 % 0x40) ((0x80 + c % 0x40) ∷ x) ((0x80 + d % 0x40) ∷ y) (omega arith) (first_less (0x80 + c % 0x40) (0x80 + d % 0x40) x y (omega arith))
    ])
  ]

  same_four : compared ((0xF0 + c / 0x4_0000) ∷ (0x80 + c / 0x1000 % 0x40) ∷ (0x80 + c / 0x40 % 0x40) ∷ (0x80 + c % 0x40) ∷ x)
      ((0xF0 + d / 0x4_0000) ∷ (0x80 + d / 0x1000 % 0x40) ∷ (0x80 + d / 0x40 % 0x40) ∷ (0x80 + d % 0x40) ∷ y) ≡ Less
  same_four = elim (cases_lt (c / 0x4_0000) (d / 0x4_0000)) [
    | inl a ↦ first_less (0xF0 + c / 0x4_0000) (0xF0 + d / 0x4_0000) ((0x80 + c / 0x1000 % 0x40) ∷ (0x80 + c / 0x40 % 0x40) ∷ (0x80 + c % 0x40) ∷ x) ((0x80 + d / 0x1000 % 0x40) ∷ (0x80 + d / 0x40 % 0x40) ∷ (0x80 + d % 0x40) ∷ y) (omega (arith, a))
    | inr b ↦ first_same (0xF0 + c / 0x4_0000) (0xF0 + d / 0x4_0000) ((0x80 + c / 0x1000 % 0x40) ∷ (0x80 + c / 0x40 % 0x40) ∷ (0x80 + c % 0x40) ∷ x) ((0x80 + d / 0x1000 % 0x40) ∷ (0x80 + d / 0x40 % 0x40) ∷ (0x80 + d % 0x40) ∷ y) (omega arith) (elim (cases_lt (c / 0x1000 % 0x40) (d / 0x1000 % 0x40)) [
      | inl a ↦ first_less (0x80 + c / 0x1000 % 0x40) (0x80 + d / 0x1000 % 0x40) ((0x80 + c / 0x40 % 0x40) ∷ (0x80 + c % 0x40) ∷ x) ((0x80 + d / 0x40 % 0x40) ∷ (0x80 + d % 0x40) ∷ y) (omega (arith, a))
      | inr e ↦ first_same (0x80 + c / 0x1000 % 0x40) (0x80 + d / 0x1000 % 0x40) ((0x80 + c / 0x40 % 0x40) ∷ (0x80 + c % 0x40) ∷ x) ((0x80 + d / 0x40 % 0x40) ∷ (0x80 + d % 0x40) ∷ y) (omega arith) (elim (cases_lt (c / 0x40 % 0x40) (d / 0x40 % 0x40)) [
        | inl a ↦ first_less (0x80 + c / 0x40 % 0x40) (0x80 + d / 0x40 % 0x40) ((0x80 + c % 0x40) ∷ x) ((0x80 + d % 0x40) ∷ y) (omega (arith, a))
        | inr f ↦ first_same (0x80 + c / 0x40 % 0x40) (0x80 + d / 0x40 % 0x40) ((0x80 + c % 0x40) ∷ x) ((0x80 + d % 0x40) ∷ y) (omega arith) (first_less (0x80 + c % 0x40) (0x80 + d % 0x40) x y (omega arith))
      ])
    ])
  ]

-- ---- Characters of different lengths

-- the first byte is within a range
abbrev Leads : List ℕ → ℕ → ℕ → Type 0
Leads bytes low high = (b : ℕ) × (more : List ℕ) × (bytes ≡ b ∷ more) × (low ≤ b) × (b < high)

apart : (xs ys x y : List ℕ) (low middle high : ℕ) → Leads xs low middle → Leads ys middle high → compared (xs ++ x) (ys ++ y) ≡ Less
apart xs ys x y low middle high f g =
    ap (λ l. compared (l ++ x) (ys ++ y)) f.2 ∙ ap (λ l. compared (f.0 ∷ (f.1 ++ x)) (l ++ y)) g.2 ∙ first_less f.0 g.0 (f.1 ++ x) (g.1 ++ y) (omega (arith, f.4, g.3))

-- the ranges of a character of one, two, three and four bytes
one_leads : (e : ℕ) → e < 0x80 → Leads (utf8_bytes e) 0 0xC0
one_leads e k = (e, [], utf8-one e k, omega arith, omega arith)

two_leads : (e : ℕ) → 0x80 ≤ e → e < 0x800 → Leads (utf8_bytes e) 0xC0 0xE0
two_leads e j k = (0xC0 + e / 0x40, (0x80 + e % 0x40) ∷ [], utf8-two e j k, omega arith, omega arith)

three_leads : (e : ℕ) → 0x800 ≤ e → e < 0x1_0000 → Leads (utf8_bytes e) 0xE0 0xF0
three_leads e j k = (0xE0 + e / 0x1000, (0x80 + e / 0x40 % 0x40) ∷ (0x80 + e % 0x40) ∷ [], utf8-three e j k, omega arith, omega arith)

four_leads : (e : ℕ) → 0x1_0000 ≤ e → e < 0x11_0000 → Leads (utf8_bytes e) 0xF0 0x100
four_leads e j k = (0xF0 + e / 0x4_0000, (0x80 + e / 0x1000 % 0x40) ∷ (0x80 + e / 0x40 % 0x40) ∷ (0x80 + e % 0x40) ∷ [], utf8-four e j, omega arith, omega arith)

wider : (bytes : List ℕ) (low high most : ℕ) → high ≤ most → Leads bytes low high → Leads bytes low most
wider bytes low high most m l = (l.0, l.1, l.2, l.3, omega (arith, l.4, m))

module _ (c d : ℕ) (x y : List ℕ) (h : c < d) (bound : d < 0x11_0000) where
  joined : (xs ys : List ℕ) → utf8_bytes c ≡ xs → utf8_bytes d ≡ ys → compared (xs ++ x) (ys ++ y) ≡ Less → compared (utf8_bytes c ++ x) (utf8_bytes d ++ y) ≡ Less
  joined xs ys e f g = ap (λ l. compared (l ++ x) (utf8_bytes d ++ y)) e ∙ ap (λ l. compared (xs ++ x) (l ++ y)) f ∙ g

  from_one : c < 0x80 → compared (utf8_bytes c ++ x) (utf8_bytes d ++ y) ≡ Less
  from_one k = elim (cases_lt d 0x80) [
    | inl a ↦ joined (c ∷ []) (d ∷ []) (utf8-one c k) (utf8-one d a) (first_less c d x y h)
    | inr b ↦ elim (cases_lt d 0x800) [
      | inl a ↦ apart (utf8_bytes c) (utf8_bytes d) x y 0 0xC0 0xE0 (one_leads c k) (two_leads d b a)
      | inr e ↦ elim (cases_lt d 0x1_0000) [
        | inl a ↦ apart (utf8_bytes c) (utf8_bytes d) x y 0 0xE0 0xF0 (wider (utf8_bytes c) 0 0xC0 0xE0 (omega arith) (one_leads c k)) (three_leads d e a)
        | inr f ↦ apart (utf8_bytes c) (utf8_bytes d) x y 0 0xF0 0x100 (wider (utf8_bytes c) 0 0xC0 0xF0 (omega arith) (one_leads c k)) (four_leads d f bound)
      ]
    ]
  ]

  from_two : 0x80 ≤ c → c < 0x800 → compared (utf8_bytes c ++ x) (utf8_bytes d ++ y) ≡ Less
  from_two j k = elim (cases_lt d 0x800) [
    | inl a ↦ joined ((0xC0 + c / 0x40) ∷ (0x80 + c % 0x40) ∷ []) ((0xC0 + d / 0x40) ∷ (0x80 + d % 0x40) ∷ []) (utf8-two c j k) (utf8-two d (omega arith) a) (same_two c d x y h)
    | inr e ↦ elim (cases_lt d 0x1_0000) [
      | inl a ↦ apart (utf8_bytes c) (utf8_bytes d) x y 0xC0 0xE0 0xF0 (two_leads c j k) (three_leads d e a)
      | inr f ↦ apart (utf8_bytes c) (utf8_bytes d) x y 0xC0 0xF0 0x100 (wider (utf8_bytes c) 0xC0 0xE0 0xF0 (omega arith) (two_leads c j k)) (four_leads d f bound)
    ]
  ]

  from_three : 0x800 ≤ c → c < 0x1_0000 → compared (utf8_bytes c ++ x) (utf8_bytes d ++ y) ≡ Less
  from_three j k = elim (cases_lt d 0x1_0000) [
    | inl a ↦ joined ((0xE0 + c / 0x1000) ∷ (0x80 + c / 0x40 % 0x40) ∷ (0x80 + c % 0x40) ∷ []) ((0xE0 + d / 0x1000) ∷ (0x80 + d / 0x40 % 0x40) ∷ (0x80 + d % 0x40) ∷ []) (utf8-three c j k) (utf8-three d (omega arith) a) (same_three c d x y h)
    | inr f ↦ apart (utf8_bytes c) (utf8_bytes d) x y 0xE0 0xF0 0x100 (three_leads c j k) (four_leads d f bound)
  ]

  from_four : 0x1_0000 ≤ c → compared (utf8_bytes c ++ x) (utf8_bytes d ++ y) ≡ Less
  from_four j = joined ((0xF0 + c / 0x4_0000) ∷ (0x80 + c / 0x1000 % 0x40) ∷ (0x80 + c / 0x40 % 0x40) ∷ (0x80 + c % 0x40) ∷ []) ((0xF0 + d / 0x4_0000) ∷ (0x80 + d / 0x1000 % 0x40) ∷ (0x80 + d / 0x40 % 0x40) ∷ (0x80 + d % 0x40) ∷ []) (utf8-four c j) (utf8-four d (omega arith)) (same_four c d x y h)

  smaller : compared (utf8_bytes c ++ x) (utf8_bytes d ++ y) ≡ Less
  smaller = elim (cases_lt c 0x80) [
    | inl a ↦ from_one a
    | inr b ↦ elim (cases_lt c 0x800) [
      | inl a ↦ from_two b a
      | inr e ↦ elim (cases_lt c 0x1_0000) [
        | inl a ↦ from_three e a
        | inr f ↦ from_four f
      ]
    ]
  ]

-- ---- Names

same_front : (xs x y : List ℕ) → compared (xs ++ x) (xs ++ y) ≡ compared x y
same_front [] x y = refl
same_front (a ∷ xs) x y = ap (λ o. ordering_then o (compared (xs ++ x) (xs ++ y))) (tied_itself nat_cmp_total a) ∙ same_front xs x y

not_empty : (c : ℕ) (x : List ℕ) → (b : ℕ) × (more : List ℕ) × (utf8_bytes c ++ x ≡ b ∷ more)
not_empty c x = elim (cases_lt c 0x80) [
  | inl a ↦ (c, x, ap (λ l. l ++ x) (utf8-one c a))
  | inr b ↦ elim (cases_lt c 0x800) [
    | inl a ↦ (0xC0 + c / 0x40, (0x80 + c % 0x40) ∷ x, ap (λ l. l ++ x) (utf8-two c b a))
    | inr e ↦ elim (cases_lt c 0x1_0000) [
      | inl a ↦ (0xE0 + c / 0x1000, (0x80 + c / 0x40 % 0x40) ∷ (0x80 + c % 0x40) ∷ x, ap (λ l. l ++ x) (utf8-three c e a))
      | inr f ↦ (0xF0 + c / 0x4_0000, (0x80 + c / 0x1000 % 0x40) ∷ (0x80 + c / 0x40 % 0x40) ∷ (0x80 + c % 0x40) ∷ x, ap (λ l. l ++ x) (utf8-four c f))
    ]
  ]
]

by_characters : (cs ds : List ℕ) → All (λ c. IsTrue (is_character c)) cs → All (λ c. IsTrue (is_character c)) ds → compared (flat_map utf8_bytes cs) (flat_map utf8_bytes ds) ≡ compared cs ds
by_characters [] [] hc hd = refl
by_characters [] (d ∷ ds) hc hd = let n = not_empty d (flat_map utf8_bytes ds) in ap (λ l. compared [] l) n.2
by_characters (c ∷ cs) [] hc hd = let n = not_empty c (flat_map utf8_bytes cs) in ap (λ l. compared l []) n.2
by_characters (c ∷ cs) (d ∷ ds) hc hd =
    let P : ℕ → Type 0 = λ e. IsTrue (is_character e) in
    let x = flat_map utf8_bytes cs in
    let y = flat_map utf8_bytes ds in
    elim (cases_lt c d) [
      | inl a ↦ smaller c d x y a (character-lt d (All-head P d ds hd)) ∙ sym (first_less c d cs ds a)
      | inr b ↦ elim (cases_lt d c) [
        | inl a ↦ nat_list_cmp_total.antisymm (utf8_bytes c ++ x) (utf8_bytes d ++ y) ∙ ap ordering_reverse (smaller d c y x a (character-lt c (All-head P c cs hc)) ∙ sym (first_less d c ds cs a)) ∙ sym (nat_list_cmp_total.antisymm (c ∷ cs) (d ∷ ds))
        | inr e ↦
            let s : c ≡ d = omega arith in
            ap (λ m. compared (utf8_bytes c ++ x) (utf8_bytes m ++ y)) (sym s) ∙ same_front (utf8_bytes c) x y
            ∙ by_characters cs ds (All-tail P c cs hc) (All-tail P d ds hd) ∙ sym (ap (λ o. ordering_then o (compared cs ds)) (equal c d s))
      ]
    ]

-- std's bytes of a character are those of its segment
same_bytes : (c : ℕ) → encode_utf8 c ≡ utf8_bytes c
unfolding encode_utf8
same_bytes c = refl

names_bytes : (cs : List ℕ) → encode_utf8_all cs ≡ flat_map utf8_bytes cs
names_bytes [] = refl
names_bytes (c ∷ cs) = ap (λ l. l ++ encode_utf8_all cs) (same_bytes c) ∙ ap (λ l. utf8_bytes c ++ l) (names_bytes cs)

pub names_by_characters : NamesByCharacters
names_by_characters cs ds hc hd = ap (λ l. compared l (encode_utf8_all ds)) (names_bytes cs) ∙ ap (compared (flat_map utf8_bytes cs)) (names_bytes ds) ∙ by_characters cs ds hc hd
