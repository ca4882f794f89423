-- The place of an exported function in a module that is laid out, and the number of an atom.
use Rattle.std.proofs.Common.{◌≡◌, ◌+◌, ◌≤◌, ℕ, Bool, true, false, cond, not, List, [], ◌∷◌, length, map, Some, None, refl, sym, ap, ◌∙◌, arith}
use Rattle.std.specs.Prelude.{bytes_eq, nat_lt}
use Rattle.std.specs.List.{position, position_or_len, prefix_len}
use Rattle.std.proofs.lemmas.List.{length-map}
use Rattle.std.proofs.lemmas.List.Recursion.{is_position_or_len}
use Rattle.erl_syntax.specs.Reading.{number_in}

module _ {X Y : Type 0} (f : X → Y) where
  fronts : (q : Y → Bool) (xs : List X) → prefix_len q (map f xs) ≡ prefix_len (λ x. q (f x)) xs
  fronts q [] = refl
  fronts q (x ∷ xs) = ap (λ n. cond (q (f x)) (1 + n) 0) (fronts q xs)

  pub position_map : (p : Y → Bool) (xs : List X) → position p (map f xs) ≡ position (λ x. p (f x)) xs
  position_map p xs =
      ap (λ n. cond (nat_lt n (length (map f xs))) (Some n) None) (fronts (λ x. not (p x)) xs)
      ∙ ap (λ l. cond (nat_lt (position_or_len (λ x. p (f x)) xs) l) (Some (position_or_len (λ x. p (f x)) xs)) None) (length-map xs f)

numbered : (atoms : List (List ℕ)) (chars : List ℕ) → number_in atoms chars ≡ position_or_len (λ atom. bytes_eq atom chars) atoms
numbered atoms chars = is_position_or_len (λ xs. number_in xs chars) (λ atom. bytes_eq atom chars) refl (λ x xs. refl) atoms

within : (atoms : List (List ℕ)) (chars : List ℕ) → number_in atoms chars ≤ length atoms
within [] chars = omega arith
within (atom ∷ atoms) chars = by (bytes_eq atom chars) (within atoms chars)
  where
    by : (b : Bool) → number_in atoms chars ≤ length atoms → cond b 0 (1 + number_in atoms chars) ≤ length (atom ∷ atoms)
    by true h = omega arith
    by false h = omega arith

some_at : (b : Bool) (k n : ℕ) → cond b (Some k) None ≡ Some n → n ≡ k
some_at true k n e = cc
some_at false k n e = absurd (cc e)

none_at : (b : Bool) (k n : ℕ) → nat_lt k n ≡ b → k ≤ n → cond b (Some k) None ≡ None → n ≡ k
none_at true k n t le e = absurd (cc e)
none_at false k n t le e = grind (arith, t)

pub number_found : (atoms : List (List ℕ)) (chars : List ℕ) (n : ℕ) → position (λ atom. bytes_eq atom chars) atoms ≡ Some n → n ≡ number_in atoms chars
number_found atoms chars n e = some_at (nat_lt (position_or_len (λ atom. bytes_eq atom chars) atoms) (length atoms)) (position_or_len (λ atom. bytes_eq atom chars) atoms) n e ∙ sym (numbered atoms chars)

pub number_missing : (atoms : List (List ℕ)) (chars : List ℕ) → position (λ atom. bytes_eq atom chars) atoms ≡ None → length atoms ≡ number_in atoms chars
number_missing atoms chars e =
    let w : position_or_len (λ atom. bytes_eq atom chars) atoms ≤ length atoms = rw (← numbered atoms chars) (within atoms chars) in
    none_at (nat_lt (position_or_len (λ atom. bytes_eq atom chars) atoms) (length atoms)) (position_or_len (λ atom. bytes_eq atom chars) atoms) (length atoms) refl w e ∙ sym (numbered atoms chars)
