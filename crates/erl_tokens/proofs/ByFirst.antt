-- What stands at the front, by its first character.
use Rattle.std.proofs.Common.{◌≡◌, ℕ, ◌<◌, ◌-◌, ◌==◌, Bool, true, false, List, length, drop, get_or, nat_lt, ◌≤◌, Option, arith, refl}
use Rattle.std.proofs.lemmas.Grind.{common_steps}
use Rattle.std.specs.Char.{digit_value}
use Rattle.erl_syntax.specs.Characters.{escape_len, escape_number, hexadecimal_len, hexadecimal_number, control_len, is_digit}
use Rattle.erl_syntax.specs.declared.token.Piece.TheVariants as p
use Rattle.erl_syntax.specs.Tokens.{piece, white_len, comment, begins_name, name, integer_at, character, string, quoted_atom, mark}
use Rattle.erl_tokens.specs.declared.escapes.Escaped.{Escaped}
use Rattle.erl_tokens.specs.Escapes.{IsEscape}

hexadecimal_escape_len : (bs : List ℕ) → 0 < length bs → get_or bs 0 0 ≡ 120 → escape_len bs ≡ hexadecimal_len (drop 1 bs)
hexadecimal_escape_len bs h e =
    let f : (length bs == 0) ≡ false = grind (arith, common_steps) in
    rw (f, e) refl

hexadecimal_escape_number : (bs : List ℕ) → get_or bs 0 0 ≡ 120 → escape_number bs ≡ hexadecimal_number (drop 1 bs)
hexadecimal_escape_number bs e = rw e refl

control_escape_len : (bs : List ℕ) → 0 < length bs → get_or bs 0 0 ≡ 94 → escape_len bs ≡ control_len (drop 1 bs)
control_escape_len bs h e =
    let f : (length bs == 0) ≡ false = grind (arith, common_steps) in
    rw (f, e) refl

control_escape_number : (bs : List ℕ) → get_or bs 0 0 ≡ 94 → escape_number bs ≡ digit_value (get_or bs 1 0) - 9
control_escape_number bs e = rw e refl

pub hexadecimal_escape : (r : Option Escaped) (bs tail : List ℕ) → tail ≡ drop 1 bs → 0 < length bs → get_or bs 0 0 ≡ 120 →
    IsEscape r (hexadecimal_len tail) (hexadecimal_number tail) → IsEscape r (escape_len bs) (escape_number bs)
hexadecimal_escape r bs tail t h e w = rw (hexadecimal_escape_len bs h e, hexadecimal_escape_number bs e, ← t) w

pub control_escape : (r : Option Escaped) (bs tail : List ℕ) → tail ≡ drop 1 bs → 0 < length bs → get_or bs 0 0 ≡ 94 →
    IsEscape r (control_len tail) (digit_value (get_or tail 0 0) - 9) → IsEscape r (escape_len bs) (escape_number bs)
control_escape r bs tail t h e w =
    let f : get_or tail 0 0 ≡ get_or bs 1 0 = grind (arith, common_steps) in
    rw (control_escape_len bs h e, control_escape_number bs e, ← t, ← f) w

pub white_piece : (cut : Bool) (n : ℕ) (bs : List ℕ) → n ≡ white_len bs → 0 < n → p.Blank n ≡ piece cut bs
unfolding piece
white_piece cut n bs e h =
    let w : nat_lt 0 (white_len bs) ≡ true = grind (arith, common_steps) in
    rw (w, e) refl

pub comment_piece : (cut : Bool) (bs : List ℕ) → white_len bs ≤ 0 → (get_or bs 0 0 == 37) ≡ true → comment cut bs ≡ piece cut bs
unfolding piece
comment_piece cut bs w y =
    let v : nat_lt 0 (white_len bs) ≡ false = grind (arith, common_steps) in
    rw (v, y) refl

pub name_piece : (cut : Bool) (bs : List ℕ) → white_len bs ≤ 0 → (get_or bs 0 0 == 37) ≡ false → (begins_name (get_or bs 0 0)) ≡ true → name bs ≡ piece cut bs
unfolding piece
name_piece cut bs w n0 y =
    let v : nat_lt 0 (white_len bs) ≡ false = grind (arith, common_steps) in
    rw (v, n0, y) refl

pub integer_piece : (cut : Bool) (bs : List ℕ) → white_len bs ≤ 0 → (get_or bs 0 0 == 37) ≡ false → (begins_name (get_or bs 0 0)) ≡ false → (is_digit 10 (get_or bs 0 0)) ≡ true → integer_at bs ≡ piece cut bs
unfolding piece
integer_piece cut bs w n0 n1 y =
    let v : nat_lt 0 (white_len bs) ≡ false = grind (arith, common_steps) in
    rw (v, n0, n1, y) refl

pub character_piece : (cut : Bool) (bs : List ℕ) → white_len bs ≤ 0 → (get_or bs 0 0 == 37) ≡ false → (begins_name (get_or bs 0 0)) ≡ false → (is_digit 10 (get_or bs 0 0)) ≡ false → (get_or bs 0 0 == 36) ≡ true → character cut bs ≡ piece cut bs
unfolding piece
character_piece cut bs w n0 n1 n2 y =
    let v : nat_lt 0 (white_len bs) ≡ false = grind (arith, common_steps) in
    rw (v, n0, n1, n2, y) refl

pub string_piece : (cut : Bool) (bs : List ℕ) → white_len bs ≤ 0 → (get_or bs 0 0 == 37) ≡ false → (begins_name (get_or bs 0 0)) ≡ false → (is_digit 10 (get_or bs 0 0)) ≡ false → (get_or bs 0 0 == 36) ≡ false → (get_or bs 0 0 == 34) ≡ true → string cut bs ≡ piece cut bs
unfolding piece
string_piece cut bs w n0 n1 n2 n3 y =
    let v : nat_lt 0 (white_len bs) ≡ false = grind (arith, common_steps) in
    rw (v, n0, n1, n2, n3, y) refl

pub quoted_atom_piece : (cut : Bool) (bs : List ℕ) → white_len bs ≤ 0 → (get_or bs 0 0 == 37) ≡ false → (begins_name (get_or bs 0 0)) ≡ false → (is_digit 10 (get_or bs 0 0)) ≡ false → (get_or bs 0 0 == 36) ≡ false → (get_or bs 0 0 == 34) ≡ false → (get_or bs 0 0 == 39) ≡ true → quoted_atom cut bs ≡ piece cut bs
unfolding piece
quoted_atom_piece cut bs w n0 n1 n2 n3 n4 y =
    let v : nat_lt 0 (white_len bs) ≡ false = grind (arith, common_steps) in
    rw (v, n0, n1, n2, n3, n4, y) refl

pub mark_piece : (cut : Bool) (bs : List ℕ) → white_len bs ≤ 0 → (get_or bs 0 0 == 37) ≡ false → (begins_name (get_or bs 0 0)) ≡ false → (is_digit 10 (get_or bs 0 0)) ≡ false → (get_or bs 0 0 == 36) ≡ false → (get_or bs 0 0 == 34) ≡ false → (get_or bs 0 0 == 39) ≡ false → mark cut bs ≡ piece cut bs
unfolding piece
mark_piece cut bs w n0 n1 n2 n3 n4 n5 =
    let v : nat_lt 0 (white_len bs) ≡ false = grind (arith, common_steps) in
    rw (v, n0, n1, n2, n3, n4, n5) refl
