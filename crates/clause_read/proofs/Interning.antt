-- Tables of atoms: where an atom stands in one, and that it keeps its number while the table grows.
use Rattle.std.proofs.Common.{◌≡◌, ℕ, ◌+◌, ◌<◌, ◌≤◌, Bool, true, false, cond, if◌then◌else◌, ◌||◌, nat_lt, nat_eq, List, [], ◌∷◌, ◌++◌, length, map, ap, sym, refl, ◌∙◌, arith, subst, bytes_eq}
use Rattle.std.proofs.lemmas.Cmp.{nat_list_eq_equiv}
use Rattle.std.proofs.lemmas.List.{map-append, length-append}
use Rattle.std.proofs.lemmas.List.Recursion.{is_position_or_len}
use Rattle.std.specs.List.{position_or_len, list_any}
use Rattle.std.specs.Cmp.Lexicographic.{pointwise}
use Rattle.indexmap.specs.IndexSet.{insert_key}
use Rattle.erl_syntax.specs.Word.{Word}
use Rattle.erl_syntax.specs.Tokens.{token_text}
use Rattle.erl_syntax.specs.Characters.{atom_text}
use Rattle.erl_syntax.specs.Reading.{number_in, with_atom, after_token, after_tokens, number_of, word_of}
use Rattle.erl_syntax.specs.declared.token.Token.{Token}
use Rattle.erl_syntax.specs.declared.token.TokenKind.{TokenKind}
use Rattle.erl_syntax.specs.declared.token.TokenKind.TheVariants as k
use Rattle.clause_read.specs.Numbering.{words_after}

-- the atom stands in the table
abbrev pub Has : List (List ℕ) → List ℕ → Type 0
Has table atom = number_in table atom < length table

same_itself : (a : List ℕ) → bytes_eq a a ≡ true
same_itself a = nat_list_eq_equiv.refl a

-- ---- A table that grows

pub number_pushed : (table : List (List ℕ)) (a : List ℕ) → number_in (table ++ a ∷ []) a ≡ number_in table a
number_pushed [] a = ap (λ b. if b then 0 else 1 + 0) (same_itself a)
number_pushed (x ∷ xs) a = ap (λ n. if bytes_eq x a then 0 else 1 + n) (number_pushed xs a)

number_stays : (b : Bool) (table : List (List ℕ)) (a : List ℕ) → number_in (if b then table else table ++ a ∷ []) a ≡ number_in table a
number_stays true table a = refl
number_stays false table a = number_pushed table a

-- an atom's number is the one that it had before it was put in
pub number_new : (table : List (List ℕ)) (a : List ℕ) → number_in (with_atom table a) a ≡ number_in table a
number_new table a = number_stays (nat_lt (number_in table a) (length table)) table a

pub number_within : (table : List (List ℕ)) (a : List ℕ) → number_in table a ≤ length table
number_within [] a = omega arith
number_within (x ∷ xs) a = by (bytes_eq x a) (number_within xs a)
  where
    by : (b : Bool) → number_in xs a ≤ length xs → (if b then 0 else 1 + number_in xs a) ≤ length (x ∷ xs)
    by true h = omega arith
    by false h = omega (arith, h)

has_pushed : (table : List (List ℕ)) (a : List ℕ) → Has (table ++ a ∷ []) a
has_pushed table a = let e : number_in (table ++ a ∷ []) a ≡ number_in table a = number_pushed table a in
    let h : number_in table a ≤ length table = number_within table a in
    let n : length (table ++ a ∷ []) ≡ length table + 1 = length-append table (a ∷ []) in omega arith

-- an atom that was put in stands there
pub has_new : (table : List (List ℕ)) (a : List ℕ) → Has (with_atom table a) a
has_new table a = by (nat_lt (number_in table a) (length table)) refl
  where
    by : (b : Bool) → nat_lt (number_in table a) (length table) ≡ b → Has (if b then table else table ++ a ∷ []) a
    by true e = grind (arith, e)
    by false e = has_pushed table a

pub kept_pushed : (table : List (List ℕ)) (b a : List ℕ) → Has table a → number_in (table ++ b ∷ []) a ≡ number_in table a
kept_pushed [] b a h = absurd (omega (arith, h))
kept_pushed (x ∷ xs) b a h = by (bytes_eq x a) (kept_pushed xs b a) h
  where
    by : (c : Bool) → (Has xs a → number_in (xs ++ b ∷ []) a ≡ number_in xs a) → (if c then 0 else 1 + number_in xs a) < length (x ∷ xs) → (if c then 0 else 1 + number_in (xs ++ b ∷ []) a) ≡ (if c then 0 else 1 + number_in xs a)
    by true f g = refl
    by false f g = let l : number_in xs a < length xs = omega (arith, g) in ap (λ n. 1 + n) (f l)

-- the atom has the same number in the second table
record Keeps (old new : List (List ℕ)) (a : List ℕ) : Type 0 where
  same : number_in new a ≡ number_in old a
  has : Has new a

keeps_itself : (table : List (List ℕ)) (a : List ℕ) → Has table a → Keeps table table a
keeps_itself table a h = record { same = refl; has = h }

keeps_on : (one two three : List (List ℕ)) (a : List ℕ) → Keeps one two a → Keeps two three a → Keeps one three a
keeps_on one two three a f g = record { same = g.same ∙ f.same; has = g.has }

keeps_atom : (table : List (List ℕ)) (b a : List ℕ) → Has table a → Keeps table (with_atom table b) a
keeps_atom table b a h = by (nat_lt (number_in table b) (length table))
  where
    by : (c : Bool) → Keeps table (if c then table else table ++ b ∷ []) a
    by true = keeps_itself table a h
    by false = let e : number_in (table ++ b ∷ []) a ≡ number_in table a = kept_pushed table b a h in
        let n : length (table ++ b ∷ []) ≡ length table + 1 = length-append table (b ∷ []) in record { same = e; has = omega (arith, e, n, h) }

keeps_token : (table : List (List ℕ)) (kind : TokenKind) (bs a : List ℕ) → Has table a → Keeps table (after_token table kind bs) a
keeps_token table k.Atom bs a h = keeps_atom table (atom_text bs) a h
keeps_token table _ bs a h = keeps_itself table a h

keeps_tokens : (text : List ℕ) (table : List (List ℕ)) (ts : List Token) (a : List ℕ) → Has table a → Keeps table (after_tokens text table ts) a
keeps_tokens text table [] a h = keeps_itself table a h
keeps_tokens text table (t ∷ ts) a h =
    let next : List (List ℕ) = after_token table t.kind (token_text text t) in
    let one : Keeps table next a = keeps_token table t.kind (token_text text t) a h in
    keeps_on table next (after_tokens text next ts) a one (keeps_tokens text next ts a one.has)

-- ---- Words by the table behind each token, and by the last one

has_token : (table : List (List ℕ)) (kind : TokenKind) (bs : List ℕ) → kind ≡ k.Atom → Has (after_token table kind bs) (atom_text bs)
has_token table kind bs e = let P : TokenKind → Type 0 = λ j. Has (after_token table j bs) (atom_text bs) in subst P (sym e) (has_new table (atom_text bs))

number_alike : (old new : List (List ℕ)) (kind : TokenKind) (bs : List ℕ) → (kind ≡ k.Atom → number_in new (atom_text bs) ≡ number_in old (atom_text bs)) → number_of new kind bs ≡ number_of old kind bs
number_alike old new k.Atom bs f = f refl
number_alike old new _ bs f = refl

word_alike : (text : List ℕ) (old new : List (List ℕ)) (t : Token) → number_of new t.kind (token_text text t) ≡ number_of old t.kind (token_text text t) → word_of text new t ≡ word_of text old t
word_alike text old new t e = ap (λ n. let w : Word = record (word_of text old t) { number = n } in w) e

-- the words of tokens, of which none is joined
pub words_at_once : (text : List ℕ) (table : List (List ℕ)) (ts : List Token) → map (word_of text (after_tokens text table ts)) ts ≡ words_after text table ts
words_at_once text table [] = refl
words_at_once text table (t ∷ ts) =
    let bs : List ℕ = token_text text t in
    let next : List (List ℕ) = after_token table t.kind bs in
    let end : List (List ℕ) = after_tokens text next ts in
    let one : word_of text end t ≡ word_of text next t = word_alike text next end t (number_alike next end t.kind bs (λ e. (keeps_tokens text next ts (atom_text bs) (has_token table t.kind bs e)).same)) in
    ap (λ w. w ∷ map (word_of text end) ts) one ∙ ap (λ ws. word_of text next t ∷ ws) (words_at_once text next ts)

-- ---- A set of names in order

module _ {K : Type 0} (f : K → List ℕ) where
  -- two keys have the same characters
  abbrev pub Alike : K → K → Bool
  Alike x y = pointwise nat_eq (f x) (f y)

  flipped : (x y : K) → Alike x y ≡ bytes_eq (f y) (f x)
  flipped x y = nat_list_eq_equiv.symm (f x) (f y)

  pub key_number : (ks : List K) (q : K) → position_or_len (Alike q) ks ≡ number_in (map f ks) (f q)
  key_number ks q = sym (is_position_or_len (λ js. number_in (map f js) (f q)) (Alike q) refl (λ x xs. ap (λ b. cond b 0 (1 + number_in (map f xs) (f q))) (sym (flipped q x))) ks)

  among : (ks : List K) (q : K) → list_any (Alike q) ks ≡ nat_lt (number_in (map f ks) (f q)) (length (map f ks))
  among [] q = refl
  among (x ∷ xs) q = ap (λ b. b || list_any (Alike q) xs) (flipped q x) ∙ by (bytes_eq (f x) (f q)) (among xs q)
    where
      by : (b : Bool) → list_any (Alike q) xs ≡ nat_lt (number_in (map f xs) (f q)) (length (map f xs)) → (b || list_any (Alike q) xs) ≡ nat_lt (if b then 0 else 1 + number_in (map f xs) (f q)) (length (map f (x ∷ xs)))
      by true h = grind arith
      by false h = h ∙ grind arith

  pub keys_inserted : (ks : List K) (q : K) → map f (insert_key Alike ks q) ≡ with_atom (map f ks) (f q)
  keys_inserted ks q = ap (λ b. map f (if b then ks else ks ++ q ∷ [])) (among ks q) ∙ by (nat_lt (number_in (map f ks) (f q)) (length (map f ks)))
    where
      by : (b : Bool) → map f (if b then ks else ks ++ q ∷ []) ≡ (if b then map f ks else map f ks ++ f q ∷ [])
      by true = refl
      by false = map-append f ks (q ∷ [])
