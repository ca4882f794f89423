-- Each atom of a table stands there once, and the table begins with the fixed atoms.
use Rattle.std.proofs.Common.{◌≡◌, ℕ, ◌+◌, ◌<◌, ◌≤◌, Bool, true, false, if◌then◌else◌, nat_lt, List, [], ◌∷◌, ◌++◌, length, get_or, ap, sym, refl, ◌∙◌, arith, subst, append_assoc, append-nil, inl, inr, ◌⊎◌}
use Rattle.std.proofs.lemmas.List.{length-append, get_or_append_left, get_or_push}
use Rattle.erl_syntax.specs.Atoms.{fixed_atoms}
use Rattle.erl_syntax.specs.Tokens.{token_text}
use Rattle.erl_syntax.specs.Characters.{atom_text}
use Rattle.erl_syntax.specs.Reading.{number_in, StandOnce, with_atom, after_token, after_tokens, atoms_of}
use Rattle.erl_syntax.specs.declared.token.Token.{Token}
use Rattle.erl_syntax.specs.declared.token.TokenKind.{TokenKind}
use Rattle.erl_syntax.specs.declared.token.TokenKind.TheVariants as k
use Rattle.clause_read.specs.Numbering.{with_each}
use Rattle.clause_read.proofs.Interning.{Has, number_pushed, kept_pushed, number_within}

below_or_at : (i n : ℕ) → i < n + 1 → (i < n) ⊎ (i ≡ n)
below_or_at i n h = by (nat_lt i n) refl
  where
    by : (b : Bool) → nat_lt i n ≡ b → (i < n) ⊎ (i ≡ n)
    by true e = let g : i < n = grind (arith, e) in inl g
    by false e = let g : i ≡ n = grind (arith, e, h) in inr g

pushed_once : (table : List (List ℕ)) (a : List ℕ) → length table ≤ number_in table a → StandOnce table → StandOnce (table ++ a ∷ [])
pushed_once table a n o i h = by (below_or_at i (length table) (let e : length (table ++ a ∷ []) ≡ length table + 1 = length-append table (a ∷ []) in omega (arith, e, h)))
  where
    by : (i < length table) ⊎ (i ≡ length table) → number_in (table ++ a ∷ []) (get_or (table ++ a ∷ []) i []) ≡ i
    by (inl l) =
        let e : get_or (table ++ a ∷ []) i [] ≡ get_or table i [] = get_or_append_left table (a ∷ []) [] i l in
        let has : Has table (get_or table i []) = let same : number_in table (get_or table i []) ≡ i = o i l in omega (arith, same, l) in
        ap (number_in (table ++ a ∷ [])) e ∙ kept_pushed table a (get_or table i []) has ∙ o i l
    by (inr l) =
        let e : get_or (table ++ a ∷ []) i [] ≡ a = get_or_push table a [] i (sym l) in
        let w : number_in table a ≤ length table = number_within table a in
        let p : number_in (table ++ a ∷ []) a ≡ number_in table a = number_pushed table a in
        ap (number_in (table ++ a ∷ [])) e ∙ (omega (arith, w, p, n, l))

atom_once : (table : List (List ℕ)) (a : List ℕ) → StandOnce table → StandOnce (with_atom table a)
atom_once table a o = by (nat_lt (number_in table a) (length table)) refl
  where
    by : (b : Bool) → nat_lt (number_in table a) (length table) ≡ b → StandOnce (if b then table else table ++ a ∷ [])
    by true e = o
    by false e = let n : length table ≤ number_in table a = grind (arith, e) in pushed_once table a n o

each_once : (table atoms : List (List ℕ)) → StandOnce table → StandOnce (with_each table atoms)
each_once table [] o = o
each_once table (a ∷ as_) o = each_once (with_atom table a) as_ (atom_once table a o)

fixed_once : StandOnce fixed_atoms
fixed_once = let start : StandOnce [] = λ i h. absurd (omega (arith, h)) in let P : List (List ℕ) → Type 0 = λ t. StandOnce t in
    let e : with_each [] fixed_atoms ≡ fixed_atoms = refl in subst P e (each_once [] fixed_atoms start)

token_once : (table : List (List ℕ)) (kind : TokenKind) (bs : List ℕ) → StandOnce table → StandOnce (after_token table kind bs)
token_once table k.Atom bs o = atom_once table (atom_text bs) o
token_once table _ bs o = o

tokens_once : (text : List ℕ) (table : List (List ℕ)) (ts : List Token) → StandOnce table → StandOnce (after_tokens text table ts)
tokens_once text table [] o = o
tokens_once text table (t ∷ ts) o = tokens_once text (after_token table t.kind (token_text text t)) ts (token_once table t.kind (token_text text t) o)

pub atoms_once : (text : List ℕ) (tokens : List Token) → StandOnce (atoms_of text tokens)
atoms_once text tokens = tokens_once text fixed_atoms tokens fixed_once

-- a table that begins with another
Longer : List (List ℕ) → List (List ℕ) → Type 0
Longer table next = (more : List (List ℕ)) × (next ≡ table ++ more)

atom_longer : (b : Bool) (table : List (List ℕ)) (a : List ℕ) → Longer table (if b then table else table ++ a ∷ [])
unfolding Longer
atom_longer true table a = ([], sym (append-nil table))
atom_longer false table a = (a ∷ [], refl)

token_longer : (table : List (List ℕ)) (kind : TokenKind) (bs : List ℕ) → Longer table (after_token table kind bs)
unfolding Longer
token_longer table k.Atom bs = atom_longer (nat_lt (number_in table (atom_text bs)) (length table)) table (atom_text bs)
token_longer table _ bs = ([], sym (append-nil table))

tokens_longer : (text : List ℕ) (table : List (List ℕ)) (ts : List Token) → Longer table (after_tokens text table ts)
unfolding Longer
tokens_longer text table [] = ([], sym (append-nil table))
tokens_longer text table (t ∷ ts) =
    let next : List (List ℕ) = after_token table t.kind (token_text text t) in
    let one : Longer table next = token_longer table t.kind (token_text text t) in
    let more : Longer next (after_tokens text next ts) = tokens_longer text next ts in
    (one.0 ++ more.0, more.1 ∙ ap (λ v. v ++ more.0) one.1 ∙ append_assoc table one.0 more.0)

pub atoms_longer : (text : List ℕ) (tokens : List Token) → (more : List (List ℕ)) × (atoms_of text tokens ≡ fixed_atoms ++ more)
unfolding Longer
atoms_longer text tokens = tokens_longer text fixed_atoms tokens
