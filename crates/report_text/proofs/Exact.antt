-- A text spells an order or has a first line that is no entry, and not both.
use Rattle.std.proofs.Common.{◌≡◌, ◌⊎◌, inl, inr, ℕ, zero, suc, ◌+◌, ◌<◌, ◌≤◌, List, [], ◌∷◌, ◌++◌, length, All, codes, refl, ap, sym, ◌∙◌, arith, append_assoc, append-nil}
use Rattle.std.proofs.lemmas.List.Elements.{All-head, All-tail}
use Rattle.report_text.proofs.OrderLines.{entry_is_line, not_empty, one_entry}
use Rattle.term_value.specs.Orders.{HasNoEntry, HasNoLineFeed, IsInRange, IsLine, IsNoEntry, IsOrderText, entry_text, order_text}
use Rattle.term_value.specs.declared.entry.Entry.{Entry}

-- ---- Characters of one line

head_is_none : (c : ℕ) (cs : List ℕ) → HasNoLineFeed (c ∷ cs) → c ≡ 10 → ⊥
head_is_none c cs none e = none (0, omega arith, e)

tail_has_none : (c : ℕ) (cs : List ℕ) → HasNoLineFeed (c ∷ cs) → HasNoLineFeed cs
tail_has_none c cs none it = none (suc it.0, omega (arith, it.1), it.2)

-- the first line feed cuts a text in one way
one_cut : (a b x y : List ℕ) → HasNoLineFeed a → HasNoLineFeed b → a ++ (10 ∷ x) ≡ b ++ (10 ∷ y) → a ≡ b
one_cut [] [] x y ha hb e = refl
one_cut [] (d ∷ b) x y ha hb e = let s : d ≡ 10 = cc e in absurd (head_is_none d b hb s)
one_cut (c ∷ a) [] x y ha hb e = let s : c ≡ 10 = cc e in absurd (head_is_none c a ha s)
one_cut (c ∷ a) (d ∷ b) x y ha hb e =
    let s : c ≡ d = cc e in
    let t : a ++ (10 ∷ x) ≡ b ++ (10 ∷ y) = cc e in
    ap (λ z. z ∷ a) s ∙ ap (λ l. d ∷ l) (one_cut a b x y (tail_has_none c a ha) (tail_has_none d b hb) t)

has_one : (a b y : List ℕ) → HasNoLineFeed a → a ≡ b ++ (10 ∷ y) → ⊥
has_one [] [] y none e = cc e
has_one [] (d ∷ b) y none e = cc e
has_one (c ∷ a) [] y none e = let s : c ≡ 10 = cc e in head_is_none c a none s
has_one (c ∷ a) (d ∷ b) y none e = let t : a ≡ b ++ (10 ∷ y) = cc e in has_one a b y (tail_has_none c a none) t

-- ---- A line that is no entry

-- it doesn't begin with an entry's line
no_front : (chars line rest r : List ℕ) (e : Entry) → IsLine chars line rest → IsNoEntry line → IsInRange e → line ++ rest ≡ entry_text e ++ r → ⊥
no_front chars line rest r e is_line none in_range same =
    let of_entry = entry_is_line e in_range in
    let own = of_entry.0 in
    let entry : entry_text e ≡ own ++ (10 ∷ []) = of_entry.2 in
    let front : line ++ rest ≡ own ++ (10 ∷ r) = same ∙ ap (λ l. l ++ r) entry ∙ append_assoc own (10 ∷ []) r in
    elim is_line.1 [
      | inl ended ↦ (let cut : chars ++ (10 ∷ rest) ≡ own ++ (10 ∷ r) = sym (append_assoc chars (10 ∷ []) rest) ∙ ap (λ l. l ++ rest) (sym ended) ∙ front in
          none e in_range (entry ∙ ap (λ l. l ++ (10 ∷ [])) (sym (one_cut chars own rest r is_line.0 of_entry.1 cut)) ∙ sym ended))
      | inr last ↦ (let whole : chars ≡ own ++ (10 ∷ r) = sym (append-nil chars) ∙ ap (λ l. l ++ []) (sym last.0) ∙ ap (λ l. line ++ l) (sym last.2) ∙ front in
          has_one chars own r is_line.0 whole)
    ]

not_nil : (a x : List ℕ) → a ++ (10 ∷ x) ≡ [] → ⊥
not_nil [] x e = cc e
not_nil (c ∷ a) x e = cc e

nothing_else : (chars line rest : List ℕ) → IsLine chars line rest → line ++ rest ≡ [] → ⊥
nothing_else chars line rest is_line e = elim is_line.1 [
  | inl ended ↦ (let s : chars ++ (10 ∷ rest) ≡ [] = sym (append_assoc chars (10 ∷ []) rest) ∙ ap (λ l. l ++ rest) (sym ended) ∙ e in not_nil chars rest s)
  | inr last ↦ (let s : chars ≡ [] = sym (append-nil chars) ∙ ap (λ l. l ++ []) (sym last.0) ∙ ap (λ l. line ++ l) (sym last.2) ∙ e in let l : length chars ≡ 0 = ap length s in omega (arith, last.1, l))
]

-- ---- A text

-- entries in range, then a line that is none, and what is left
apart_at : (before entries : List Entry) (chars line rest : List ℕ) → All IsInRange before → All IsInRange entries → IsLine chars line rest → IsNoEntry line →
    order_text before ++ (line ++ rest) ≡ order_text entries → ⊥
apart_at [] [] chars line rest hb he is_line none same = nothing_else chars line rest is_line same
apart_at [] (e ∷ entries) chars line rest hb he is_line none same = no_front chars line rest (order_text entries) e is_line none (All-head IsInRange e entries he) same
apart_at (b ∷ before) [] chars line rest hb he is_line none same =
    let s : entry_text b ++ (order_text before ++ (line ++ rest)) ≡ [] = sym (append_assoc (entry_text b) (order_text before) (line ++ rest)) ∙ same in
    not_empty b (order_text before ++ (line ++ rest)) (sym s)
apart_at (b ∷ before) (e ∷ entries) chars line rest hb he is_line none same =
    let s : entry_text b ++ (order_text before ++ (line ++ rest)) ≡ entry_text e ++ order_text entries = sym (append_assoc (entry_text b) (order_text before) (line ++ rest)) ∙ same in
    let both = one_entry b e (order_text before ++ (line ++ rest)) (order_text entries) (All-head IsInRange b before hb) (All-head IsInRange e entries he) s in
    apart_at before entries chars line rest (All-tail IsInRange b before hb) (All-tail IsInRange e entries he) is_line none both.1

pub apart : (text : List ℕ) (entries : List Entry) (k : ℕ) → IsOrderText text entries → HasNoEntry text k → ⊥
apart text entries k h f =
    apart_at f.before entries f.chars f.line f.rest f.in_range h.in_range f.is_line f.none (sym (append_assoc (order_text f.before) f.line f.rest) ∙ sym f.text_is ∙ h.spelled)

-- the rest after a first bad line, and after another one
same_length : (before others : List Entry) (chars line rest chars2 line2 rest2 : List ℕ) → All IsInRange before → All IsInRange others → IsLine chars line rest → IsNoEntry line → IsLine chars2 line2 rest2 → IsNoEntry line2 →
    order_text before ++ (line ++ rest) ≡ order_text others ++ (line2 ++ rest2) → length before ≡ length others
same_length [] [] chars line rest chars2 line2 rest2 hb ho is_line none is_line2 none2 same = refl
same_length [] (o ∷ others) chars line rest chars2 line2 rest2 hb ho is_line none is_line2 none2 same =
    absurd (no_front chars line rest (order_text others ++ (line2 ++ rest2)) o is_line none (All-head IsInRange o others ho) (same ∙ append_assoc (entry_text o) (order_text others) (line2 ++ rest2)))
same_length (b ∷ before) [] chars line rest chars2 line2 rest2 hb ho is_line none is_line2 none2 same =
    absurd (no_front chars2 line2 rest2 (order_text before ++ (line ++ rest)) b is_line2 none2 (All-head IsInRange b before hb) (sym same ∙ append_assoc (entry_text b) (order_text before) (line ++ rest)))
same_length (b ∷ before) (o ∷ others) chars line rest chars2 line2 rest2 hb ho is_line none is_line2 none2 same =
    let s = sym (append_assoc (entry_text b) (order_text before) (line ++ rest)) ∙ same ∙ append_assoc (entry_text o) (order_text others) (line2 ++ rest2) in
    let both = one_entry b o (order_text before ++ (line ++ rest)) (order_text others ++ (line2 ++ rest2)) (All-head IsInRange b before hb) (All-head IsInRange o others ho) s in
    ap suc (same_length before others chars line rest chars2 line2 rest2 (All-tail IsInRange b before hb) (All-tail IsInRange o others ho) is_line none is_line2 none2 both.1)

pub one_fault : (text : List ℕ) (k l : ℕ) → HasNoEntry text k → HasNoEntry text l → k ≡ l
one_fault text k l f h =
    let same = sym (append_assoc (order_text f.before) f.line f.rest) ∙ sym f.text_is ∙ h.text_is ∙ append_assoc (order_text h.before) h.line h.rest in
    f.place ∙ ap (λ n. n + 1) (same_length f.before h.before f.chars f.line f.rest h.chars h.line h.rest f.in_range h.in_range f.is_line f.none h.is_line h.none same) ∙ sym h.place
