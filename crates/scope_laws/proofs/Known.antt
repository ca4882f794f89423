-- How what is known grows, from part to part of a function.
use Rattle.std.proofs.Common.{◌≡◌, ℕ, List, [], ◌∷◌, ◌++◌, sym, subst, ◌∙◌, inl, inr, append_assoc, append-nil}
use Rattle.std.specs.List.{Contains}
use Rattle.std.proofs.lemmas.List.Elements.{All-contains, Contains-append_left, Contains-append_right, Contains-append_cases}
use Rattle.erl_syntax.specs.Bindings.{Bound}
use Rattle.erl_syntax.specs.Checking.{IsBefore, RisingBy}
use Rattle.erl_syntax.specs.declared.span.Span.{Span}
use Rattle.module_check.proofs.Spots.{Contains-head, Contains-tail, none_in, only_one}
use Rattle.module_laws.proofs.NumberedPlaces.{numbers_differ}
use Rattle.scope_laws.proofs.Numbering.{Numbering, Within, Differ, Covers, Apart, Comes, covers_moved, covers_more}
use Rattle.std.proofs.Common.{arith}

-- ---- Places that differ

pub differ_left : (xs ys : List Span) → Differ (xs ++ ys) → Differ xs
differ_left [] ys h = tt
differ_left (a ∷ xs) ys h = ((λ k. h.0 (Contains-append_left xs ys a k)), differ_left xs ys h.1)

pub differ_right : (xs ys : List Span) → Differ (xs ++ ys) → Differ ys
differ_right [] ys h = h
differ_right (a ∷ xs) ys h = differ_right xs ys h.1

pub differ_apart : (xs ys : List Span) (c : Span) → Differ (xs ++ ys) → Contains xs c → Contains ys c → ⊥
differ_apart [] ys c h k m = none_in c k
differ_apart (a ∷ xs) ys c h k m = elim (Contains-append_cases (a ∷ []) xs c k) [
  | inl n ↦ h.0 (subst (λ (z : Span). Contains (xs ++ ys) z) (sym (only_one a c n)) (Contains-append_right xs ys c m))
  | inr n ↦ differ_apart xs ys c h.1 n m
]

differ_joins : (xs ys : List Span) → Differ xs → Differ ys → ((c : Span) → Contains xs c → Contains ys c → ⊥) → Differ (xs ++ ys)
differ_joins [] ys h g k = g
differ_joins (a ∷ xs) ys h g k =
    ((λ m. elim (Contains-append_cases xs ys a m) [ inl n ↦ h.0 n | inr n ↦ k a (Contains-head a xs) n ]), differ_joins xs ys h.1 g (λ c m n. k c (Contains-tail a xs c m) n))

pub differ_turned : (xs ys : List Span) → Differ (xs ++ ys) → Differ (ys ++ xs)
differ_turned xs ys h = differ_joins ys xs (differ_right xs ys h) (differ_left xs ys h) (λ c m n. differ_apart xs ys c h n m)

before_itself : (a : Span) → IsBefore a a → ⊥
before_itself a (inl h) = omega (arith, h)
before_itself a (inr h) = omega (arith, h.1)

-- places that rise
pub rising_differ : (spans : List Span) → RisingBy (λ (at : Span). at) spans → Differ spans
rising_differ [] h = tt
rising_differ (a ∷ spans) h = ((λ k. before_itself a (All-contains (IsBefore a) spans a h.0 k)), rising_differ spans h.1)

pub within_same : (xs ys zs : List ℕ) → Within ((xs ++ ys) ++ zs) (ys ++ (xs ++ zs))
within_same xs ys zs n h = elim (Contains-append_cases (xs ++ ys) zs n h) [
  | inl k ↦ elim (Contains-append_cases xs ys n k) [
    | inl m ↦ Contains-append_right ys (xs ++ zs) n (Contains-append_left xs zs n m)
    | inr m ↦ Contains-append_left ys (xs ++ zs) n m
  ]
  | inr k ↦ Contains-append_right ys (xs ++ zs) n (Contains-append_right xs zs n k)
]

pub within_turned : (xs ys zs : List ℕ) → Within (ys ++ (xs ++ zs)) ((xs ++ ys) ++ zs)
within_turned xs ys zs n h = elim (Contains-append_cases ys (xs ++ zs) n h) [
  | inl k ↦ Contains-append_left (xs ++ ys) zs n (Contains-append_right xs ys n k)
  | inr k ↦ elim (Contains-append_cases xs zs n k) [
    | inl m ↦ Contains-append_left (xs ++ ys) zs n (Contains-append_left xs ys n m)
    | inr m ↦ Contains-append_right (xs ++ ys) zs n m
  ]
]

module _ (w : Numbering) where
  pub covers_none : (known : List ℕ) → Covers w [] known
  covers_none known = λ name c h. absurd h

  pub apart_none : (spans : List Span) → Apart w [] spans
  apart_none spans = λ n h. absurd (none_in n h)

  -- ---- No variable that is known gets its value at any of these places, and these differ.

  pub record Free (known : List ℕ) (spans : List Span) : Type 0 where
    pub apart : Apart w known spans
    pub differ : Differ spans

  pub free_left : (known : List ℕ) (xs ys : List Span) → Free known (xs ++ ys) → Free known xs
  free_left known xs ys h = record {
    apart = λ n k. (let e = h.apart n k in record { place = e.place; binds = e.binds; is = e.is; away = λ c. e.away (Contains-append_left xs ys e.place c) });
    differ = differ_left xs ys h.differ;
  }

  pub free_right : (known : List ℕ) (xs ys : List Span) → Free known (xs ++ ys) → Free known ys
  free_right known xs ys h = record {
    apart = λ n k. (let e = h.apart n k in record { place = e.place; binds = e.binds; is = e.is; away = λ c. e.away (Contains-append_right xs ys e.place c) });
    differ = differ_right xs ys h.differ;
  }

  pub free_turned : (known : List ℕ) (xs ys : List Span) → Free known (xs ++ ys) → Free known (ys ++ xs)
  free_turned known xs ys h = record {
    apart = λ n k. (let e = h.apart n k in record {
      place = e.place;
      binds = e.binds;
      is = e.is;
      away = λ c. e.away (elim (Contains-append_cases ys xs e.place c) [ inl m ↦ Contains-append_right xs ys e.place m | inr m ↦ Contains-append_left xs ys e.place m ]);
    });
    differ = differ_turned xs ys h.differ;
  }

  pub free_moved : (known : List ℕ) (xs ys : List Span) → xs ≡ ys → Free known xs → Free known ys
  free_moved known xs ys e h = subst (Free known) e h

  -- behind what binds these names at the first places
  pub free_after : (known names : List ℕ) (xs ys : List Span) → Free known (xs ++ ys) → Comes w known names xs → Free (names ++ known) ys
  free_after known names xs ys h c = record {
    apart = λ n k. elim (Contains-append_cases names known n k) [
      | inl m ↦ elim (c n m) [
        | inl i ↦ (free_right known xs ys h).apart n i
        | inr b ↦ record { place = b.place; binds = b.binds; is = b.is; away = λ z. differ_apart xs ys b.place h.differ b.stands z }
      ]
      | inr m ↦ (free_right known xs ys h).apart n m
    ];
    differ = differ_right xs ys h.differ;
  }

  -- new names
  pub new_apart : (known names : List ℕ) (spans : List Span) → Free known spans → Comes w [] names spans → (n : ℕ) → Contains names n → Contains known n → ⊥
  new_apart known names spans f c n h k = elim (c n h) [
    | inl m ↦ none_in n m
    | inr b ↦ (let e = f.apart n k in
        let same : b.place ≡ e.place = numbers_differ w.function w.uses w.numbered b.place e.place b.binds e.binds (sym b.is ∙ e.is) in
        e.away (subst (λ (z : Span). Contains spans z) same b.stands))
  ]

  pub comes_more : (known names : List ℕ) (xs ys : List Span) → ((c : Span) → Contains xs c → Contains ys c) → Comes w known names xs → Comes w known names ys
  comes_more known names xs ys h c = λ n k. elim (c n k) [ inl m ↦ inl m | inr b ↦ inr (record { place = b.place; binds = b.binds; is = b.is; stands = h b.place b.stands }) ]

  -- ---- What a pattern adds to what is known

  pub record Grows (bs new : List Bound) (known names : List ℕ) (spans : List Span) : Type 0 where
    pub covers : Covers w (bs ++ new) (names ++ known)
    pub comes : Comes w known names spans

  pub grows_none : (bs : List Bound) (known : List ℕ) → Covers w bs known → Grows bs [] known [] []
  grows_none bs known h = record { covers = covers_moved w bs (bs ++ []) known (sym (append-nil bs)) h; comes = λ n k. absurd (none_in n k) }

  pub grows_then : (bs new more : List Bound) (known names others : List ℕ) (xs ys : List Span) → Grows bs new known names xs → Grows (bs ++ new) more (names ++ known) others ys →
      Grows bs (new ++ more) known (names ++ others) (xs ++ ys)
  grows_then bs new more known names others xs ys h g = record {
    covers = covers_moved w ((bs ++ new) ++ more) (bs ++ (new ++ more)) ((names ++ others) ++ known) (append_assoc bs new more)
        (covers_more w ((bs ++ new) ++ more) (others ++ (names ++ known)) ((names ++ others) ++ known) (within_turned names others known) g.covers);
    comes = λ n k. elim (Contains-append_cases names others n k) [
      | inl m ↦ comes_more known names xs (xs ++ ys) (λ c i. Contains-append_left xs ys c i) h.comes n m
      | inr m ↦ elim (g.comes n m) [
        | inl i ↦ elim (Contains-append_cases names known n i) [
          | inl j ↦ comes_more known names xs (xs ++ ys) (λ c i. Contains-append_left xs ys c i) h.comes n j
          | inr j ↦ inl j
        ]
        | inr b ↦ inr (record { place = b.place; binds = b.binds; is = b.is; stands = Contains-append_right xs ys b.place b.stands })
      ]
    ];
  }

  pub grows_moved : (bs new more : List Bound) (known names others : List ℕ) (xs ys : List Span) → new ≡ more → names ≡ others → xs ≡ ys → Grows bs new known names xs → Grows bs more known others ys
  grows_moved bs new more known names others xs ys e d i h =
      subst (λ (zs : List Bound). Grows bs zs known others ys) e (subst (λ (ns : List ℕ). Grows bs new known ns ys) d (subst (λ (zs : List Span). Grows bs new known names zs) i h))
