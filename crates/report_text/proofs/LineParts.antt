-- A line's entry, by its word and its numbers.
use Rattle.std.proofs.Common.{◌≡◌, ℕ, ◌≤◌, List, [], ◌∷◌, ◌++◌, length, take, drop, Option, None, Some, MatchOption, ap, sym, ◌∙◌, arith, append-nil, append_assoc, take-append-drop}
use Rattle.report_text.proofs.OrderLines.{above_word, entry-parts, in_range_small, numbers_mark, one_numbers}
use Rattle.term_value.specs.Orders.{IsNoEntry, entry_numbers, entry_text, entry_word, order_text}
use Rattle.std.proofs.lemmas.Grind.{flat_map-append}
use Rattle.term_value.specs.declared.entry.Entry.{Entry}
use Rattle.term_value.specs.declared.entry.Entry.TheVariants.{Sent, Saw, Shown, Started, Full, Ended, Stopped, Gone}
use Rattle.report_text.specs.Entries.{HasFields, IsEntryLine}
use Rattle.report_text.specs.Fields.{AreNumbers, IsCut, IsWord, spaced}
use Rattle.report_text.proofs.Numbers.{one_word}

few_numbers : (e : Entry) → length (entry_numbers e) ≤ 4
few_numbers (Sent from to) = omega arith
few_numbers (Saw pid n) = omega arith
few_numbers (Shown pid) = omega arith
few_numbers (Started pid child) = omega arith
few_numbers (Full pid) = omega arith
few_numbers (Ended pid) = omega arith
few_numbers (Stopped pid) = omega arith
few_numbers (Gone pid births drops moved) = omega arith

line-parts : (e : Entry) → entry_text e ≡ entry_word e ++ (spaced (entry_numbers e) ++ (10 ∷ []))
line-parts e = sym (append-nil (entry_text e)) ∙ entry-parts e []

-- a line of an entry has the entry's word and numbers
pub record HasParts (e : Entry) (word rest : List ℕ) : Type 0 where
  pub word_is : entry_word e ≡ word
  pub numbers_are : AreNumbers rest (entry_numbers e)

pub parts_of : (e : Entry) (line word rest : List ℕ) → IsEntryLine e line → line ≡ word ++ rest → IsWord word → IsCut rest → HasParts e word rest
parts_of e line word rest h cut is_word is_cut =
    let same : entry_word e ++ (spaced (entry_numbers e) ++ (10 ∷ [])) ≡ word ++ rest = sym (line-parts e) ∙ h.spelled ∙ cut in
    let both = one_word (entry_word e) word (spaced (entry_numbers e) ++ (10 ∷ [])) rest (above_word e) is_word (numbers_mark (entry_numbers e) []) is_cut same in
    record { word_is = both.0; numbers_are = record { small = in_range_small e h.in_range; few = few_numbers e; spelled = sym both.1 } }

pub line_of : (e : Entry) (line word rest ns : List ℕ) → HasFields e word ns → AreNumbers rest ns → line ≡ word ++ rest → IsEntryLine e line
line_of e line word rest ns h numbers cut = record {
  in_range = h.in_range;
  spelled = line-parts e ∙ ap (λ w. w ++ (spaced (entry_numbers e) ++ (10 ∷ []))) h.word_is ∙ ap (λ k. word ++ (spaced k ++ (10 ∷ []))) h.numbers_are ∙ ap (λ r. word ++ r) (sym numbers.spelled) ∙ sym cut;
}

-- the same numbers are spelled so
same_numbers : (rest ns ms : List ℕ) → AreNumbers rest ns → AreNumbers rest ms → ns ≡ ms
same_numbers rest ns ms a b = (one_numbers ns ms [] [] a.small b.small (sym a.spelled ∙ b.spelled)).0

-- the word in front of a line, up to where it is cut, and the rest
pub record IsSplit (line word rest : List ℕ) (len : ℕ) : Type 0 where
  pub front : word ≡ take len line
  pub back : rest ≡ drop len line
  pub is_word : IsWord (take len line)
  pub is_cut : IsCut (drop len line)

pub split_parts : (e : Entry) (line word rest : List ℕ) (len : ℕ) → IsEntryLine e line → IsSplit line word rest len → HasParts e word rest
split_parts e line word rest len h s =
    let p : HasParts e (take len line) (drop len line) = parts_of e line (take len line) (drop len line) h (sym (take-append-drop len line)) s.is_word s.is_cut in
    rw (s.front, s.back) p

pub split_entry : (found : Option Entry) (line word rest ns : List ℕ) (len : ℕ) → IsSplit line word rest len → AreNumbers rest ns →
    MatchOption found ((e : Entry) → HasFields e word ns → ⊥) (λ e. HasFields e word ns) → MatchOption found (IsNoEntry line) (λ e. IsEntryLine e line)
split_entry None line word rest ns len s numbers none = λ e in_range same.
    let p = split_parts e line word rest len (record { in_range = in_range; spelled = same }) s in
    none e (record { in_range = in_range; word_is = p.word_is; numbers_are = same_numbers rest (entry_numbers e) ns p.numbers_are numbers })
split_entry (Some e) line word rest ns len s numbers h =
    line_of e line word rest ns h numbers (sym (take-append-drop len line) ∙ ap (λ w. w ++ drop len line) (sym s.front) ∙ ap (λ r. word ++ r) (sym s.back))

-- a text whose front is one entry's line more
pub entry_more : (text rest line after : List ℕ) (entries : List Entry) (e : Entry) (len : ℕ) → text ≡ order_text entries ++ rest → line ≡ take len rest → after ≡ drop len rest → entry_text e ≡ line →
    text ≡ order_text (entries ++ e ∷ []) ++ after
entry_more text rest line after entries e len spelled front back same =
    let cut : entry_text e ++ after ≡ rest = ap (λ l. l ++ after) (same ∙ front) ∙ ap (λ r. take len rest ++ r) back ∙ take-append-drop len rest in
    let last : order_text (e ∷ []) ≡ entry_text e = append-nil (entry_text e) in
    let joined : order_text (entries ++ e ∷ []) ++ after ≡ order_text entries ++ (entry_text e ++ after) =
    ap (λ l. l ++ after) (flat_map-append entry_text entries (e ∷ []) ∙ ap (λ l. order_text entries ++ l) last) ∙ append_assoc (order_text entries) (entry_text e) after in
    spelled ∙ ap (λ r. order_text entries ++ r) (sym cut) ∙ sym joined
