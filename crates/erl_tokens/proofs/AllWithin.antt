-- Each token of a text stands in it, and there are no more of them than bytes.
use Rattle.std.proofs.Common.{◌≡◌, ℕ, ◌+◌, ◌<◌, ◌≤◌, min, Bool, List, [], ◌∷◌, length, drop, All, Option, arith}
use Rattle.std.specs.List.{AllByRecursion}
use Rattle.std.specs.Str.Lossy.{utf8_valid_len}
use Rattle.std.proofs.lemmas.List.{length-drop, length-take}
use Rattle.std.proofs.lemmas.List.Elements.{All-from_recursion}
use Rattle.erl_syntax.specs.declared.token.Token.{Token}
use Rattle.erl_syntax.specs.declared.token.LexFault.{LexFault}
use Rattle.erl_syntax.specs.Tokens.{IsWithin, front, is_cut, Lexes, LexesFrom, ends, stops, skips, finds, refuses}
use Rattle.erl_tokens.proofs.TokenWithin.{within}

within_from : (text : List ℕ) (cut : Bool) (i : ℕ) (tokens : List Token) (fault : Option LexFault) → LexesFrom text cut i tokens fault → AllByRecursion (IsWithin text) tokens
within_from text cut _ _ _ (ends i e c) = tt
within_from text cut _ _ _ (stops i e c) = tt
within_from text cut _ _ _ (skips i n tokens fault h e z) = within_from text cut (i + n) tokens fault z
within_from text cut _ _ _ (finds i n kind tokens fault h e z) =
    let m : (0 < n) × (n ≤ length (drop i text)) = within cut (drop i text) kind n e in
    ((omega (arith, m.0), omega (arith, m.1, h, length-drop i text)), within_from text cut (i + n) tokens fault z)
within_from text cut _ _ _ (refuses i n cause h e) = tt

few_from : (text : List ℕ) (cut : Bool) (i : ℕ) (tokens : List Token) (fault : Option LexFault) → LexesFrom text cut i tokens fault → i + length tokens ≤ length text
few_from text cut _ _ _ (ends i e c) = omega (arith, e)
few_from text cut _ _ _ (stops i e c) = omega (arith, e)
few_from text cut _ _ _ (skips i n tokens fault h e z) = let k : i + n + length tokens ≤ length text = few_from text cut (i + n) tokens fault z in omega (arith, k)
few_from text cut _ _ _ (finds i n kind tokens fault h e z) =
    let m : (0 < n) × (n ≤ length (drop i text)) = within cut (drop i text) kind n e in
    let k : i + n + length tokens ≤ length text = few_from text cut (i + n) tokens fault z in omega (arith, k, m.0)
few_from text cut _ _ _ (refuses i n cause h e) = omega (arith, h)

front_short : (text : List ℕ) → length (front text) ≤ length text
front_short text = let e : length (front text) ≡ min (utf8_valid_len text) (length text) = length-take (utf8_valid_len text) text in omega (arith, e)

within_text : (text : List ℕ) (tokens : List Token) → AllByRecursion (IsWithin (front text)) tokens → AllByRecursion (IsWithin text) tokens
within_text text [] a = tt
within_text text (t ∷ ts) a = let h : length (front text) ≤ length text = front_short text in ((a.0.0, omega (arith, a.0.1, h)), within_text text ts a.1)

pub all_within : (text : List ℕ) (tokens : List Token) (fault : Option LexFault) → Lexes text tokens fault → All (IsWithin text) tokens
all_within text tokens fault d = All-from_recursion (IsWithin text) tokens (within_text text tokens (within_from (front text) (is_cut text) 0 tokens fault d))

pub few_tokens : (text : List ℕ) (tokens : List Token) (fault : Option LexFault) → Lexes text tokens fault → length tokens ≤ length text
few_tokens text tokens fault d = let k : 0 + length tokens ≤ length (front text) = few_from (front text) (is_cut text) 0 tokens fault d in let h : length (front text) ≤ length text = front_short text in omega (arith, k, h)
