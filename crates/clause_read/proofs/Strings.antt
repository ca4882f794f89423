-- Strings that follow one another are one word.
use Rattle.std.proofs.Common.{◌≡◌, ◌≢◌, ℕ, suc, ◌+◌, ◌<◌, ◌≤◌, Bool, true, false, if◌then◌else◌, List, [], ◌∷◌, ◌++◌, length, drop, get_or, ap, sym, refl, ◌∙◌, arith, subst, append_assoc}
use Rattle.std.specs.Prelude.{All}
use Rattle.std.specs.List.{AllByRecursion}
use Rattle.std.proofs.Math.Seq.{drop-cons}
use Rattle.std.proofs.Math.ListN.{drop_of_length-le}
use Rattle.std.proofs.lemmas.List.{length-append, get_or_append_left, get_or_push}
use Rattle.std.proofs.lemmas.List.Elements.{All-from_recursion, recursion_from_All}
use Rattle.erl_syntax.specs.Word.{Word}
use Rattle.erl_syntax.specs.Characters.{string_characters}
use Rattle.erl_syntax.specs.Tokens.{token_text}
use Rattle.erl_syntax.specs.Reading.{number_of, after_token, after_tokens, word_of, are_strings, before, strings_joined, characters_of}
use Rattle.erl_syntax.specs.declared.token.Token.{Token}
use Rattle.erl_syntax.specs.declared.token.TokenKind.{TokenKind}
use Rattle.erl_syntax.specs.declared.token.TokenKind.TheVariants as k
use Rattle.pattern_read.specs.declared.cursor.Numbered.{Numbered}
use Rattle.pattern_read.specs.Cursor.{IsSound, words, characters_in, number_of as number_with, word_of as word_with}
use Rattle.clause_read.specs.Numbering.{words_after, BeginsString, NoString, ended, other, string_word, IsString}

-- ---- Two strings, and a string before another word

not_strings : (a b : TokenKind) → a ≢ k.Str → are_strings a b ≡ false
not_strings k.Str b f = absurd (f refl)
not_strings _ b f = refl

not_with_string : (b : TokenKind) → b ≢ k.Str → are_strings k.Str b ≡ false
not_with_string k.Str f = absurd (f refl)
not_with_string _ f = refl

-- a word that is no string stays alone
pub stays_alone : (w : Word) (ws : List Word) → w.kind ≢ k.Str → before w ws ≡ w ∷ ws
stays_alone w [] f = refl
stays_alone w (v ∷ ws) f = ap (λ b. if b then record { kind = w.kind; at = w.at; number = w.number; chars = w.chars ++ v.chars } ∷ ws else w ∷ v ∷ ws) (not_strings w.kind v.kind f)

-- and so does a string before it
string_alone : (t : Token) (chars : List ℕ) (w : Word) (ws : List Word) → w.kind ≢ k.Str → before (string_word t chars) (w ∷ ws) ≡ string_word t chars ∷ w ∷ ws
string_alone t chars w ws f = ap (λ b. if b then string_word t (chars ++ w.chars) ∷ ws else string_word t chars ∷ w ∷ ws) (not_with_string w.kind f)

two_strings : (b : Bool) (t u : Token) (chars more : List ℕ) (v : Word) (ws : List Word) →
    before (string_word t chars) (if b then string_word u (more ++ v.chars) ∷ ws else string_word u more ∷ v ∷ ws) ≡ (if b then string_word t ((chars ++ more) ++ v.chars) ∷ ws else string_word t (chars ++ more) ∷ v ∷ ws)
two_strings true t u chars more v ws = ap (λ c. string_word t c ∷ ws) (sym (append_assoc chars more v.chars))
two_strings false t u chars more v ws = refl

-- a string before another one is one string before what is behind
strings_at_once : (t u : Token) (chars more : List ℕ) (ws : List Word) → before (string_word t chars) (before (string_word u more) ws) ≡ before (string_word t (chars ++ more)) ws
strings_at_once t u chars more [] = refl
strings_at_once t u chars more (v ∷ ws) = two_strings (are_strings k.Str v.kind) t u chars more v ws

-- ---- The words of tokens that begin with a string

string_table : (text : List ℕ) (table : List (List ℕ)) (t : Token) (ts : List Token) → t.kind ≡ k.Str → after_tokens text table (t ∷ ts) ≡ after_tokens text table ts
string_table text table t ts e = ap (λ kind. after_tokens text (after_token table kind (token_text text t)) ts) e

string_words : (text : List ℕ) (table : List (List ℕ)) (t : Token) (ts : List Token) → t.kind ≡ k.Str →
    strings_joined (words_after text table (t ∷ ts)) ≡ before (string_word t (string_characters (token_text text t))) (strings_joined (words_after text table ts))
string_words text table t ts e =
    let bs : List ℕ = token_text text t in
    let f : TokenKind → List Word = λ kind.
    let w : Word = record { kind = kind; at = t.span; number = number_of (after_token table kind bs) kind bs; chars = characters_of kind bs } in
    before w (strings_joined (words_after text (after_token table kind bs) ts)) in
    ap f e

-- what tokens spell is a string of those characters, at the first one's place, before what those behind it spell
pub record IsOpen (text : List ℕ) (tokens behind : List Token) (first : Token) (chars : List ℕ) : Type 0 where
  pub table : (table : List (List ℕ)) → after_tokens text table tokens ≡ after_tokens text table behind
  pub words : (table : List (List ℕ)) → strings_joined (words_after text table tokens) ≡ before (string_word first chars) (strings_joined (words_after text table behind))

pub open_first : (text : List ℕ) (first : Token) (behind : List Token) → first.kind ≡ k.Str → IsOpen text (first ∷ behind) behind first (string_characters (token_text text first))
open_first text first behind e = record { table = λ table. string_table text table first behind e; words = λ table. string_words text table first behind e }

pub open_more : (text : List ℕ) (tokens : List Token) (first t : Token) (behind : List Token) (chars : List ℕ) → t.kind ≡ k.Str → IsOpen text tokens (t ∷ behind) first chars →
    IsOpen text tokens behind first (chars ++ string_characters (token_text text t))
open_more text tokens first t behind chars e o = record {
  table = λ table. o.table table ∙ string_table text table t behind e;
  words = λ table.
      o.words table ∙ ap (before (string_word first chars)) (string_words text table t behind e)
      ∙ strings_at_once first t chars (string_characters (token_text text t)) (strings_joined (words_after text table behind));
}

closed_words : (text : List ℕ) (table : List (List ℕ)) (first : Token) (chars : List ℕ) (behind : List Token) → NoString behind →
    before (string_word first chars) (strings_joined (words_after text table behind)) ≡ string_word first chars ∷ strings_joined (words_after text table behind)
closed_words text table first chars _ ended = refl
closed_words text table first chars _ (other t ts f) =
    let next : List (List ℕ) = after_token table t.kind (token_text text t) in
    let w : Word = word_of text next t in
    let ws : List Word = strings_joined (words_after text next ts) in
    let e : before w ws ≡ w ∷ ws = stays_alone w ws f in
    ap (before (string_word first chars)) e ∙ string_alone first chars w ws f ∙ ap (λ us. string_word first chars ∷ us) (sym e)

pub open_ends : (text : List ℕ) (tokens behind : List Token) (first : Token) (chars : List ℕ) → NoString behind → IsOpen text tokens behind first chars → IsString text tokens behind first chars
open_ends text tokens behind first chars n o = record { table = o.table; words = λ table. o.words table ∙ closed_words text table first chars behind n }

-- ---- At an index

-- what is left begins with the token at the index
front_there : (tokens : List Token) (at : ℕ) (d : Token) → at < length tokens → drop at tokens ≡ get_or tokens at d ∷ drop (at + 1) tokens
front_there tokens at d h = let s : suc at ≡ at + 1 = omega arith in drop-cons tokens at d h ∙ ap (λ i. get_or tokens at d ∷ drop i tokens) s

pub same_there : (tokens : List Token) (at : ℕ) (d u : Token) → at < length tokens → get_or tokens at d ≡ get_or tokens at u
same_there tokens at d u h =
    let c : get_or tokens at d ∷ drop (at + 1) tokens ≡ get_or tokens at u ∷ drop (at + 1) tokens = sym (front_there tokens at d h) ∙ front_there tokens at u h in cc

begins_so : (t : Token) (ts tokens : List Token) → tokens ≡ t ∷ ts → BeginsString tokens → t.kind ≡ k.Str
begins_so t ts tokens e b =
    let f : t ∷ ts ≡ b.first ∷ b.behind = sym e ∙ b.is in
    let g : t ≡ b.first = cc in ap (λ u. u.kind) g ∙ b.kind

begins_not : (t : Token) (ts tokens : List Token) → tokens ≡ t ∷ ts → NoString tokens → t.kind ≢ k.Str
begins_not t ts _ e ended = absurd cc
begins_not t ts _ e (other u us f) = let g : u ≡ t = cc in λ h. f (ap (λ v. v.kind) g ∙ h)

pub kind_there : (tokens : List Token) (at : ℕ) (d : Token) → at < length tokens → BeginsString (drop at tokens) → (get_or tokens at d).kind ≡ k.Str
kind_there tokens at d h b = begins_so (get_or tokens at d) (drop (at + 1) tokens) (drop at tokens) (front_there tokens at d h) b

pub kind_not : (tokens : List Token) (at : ℕ) (d : Token) → at < length tokens → NoString (drop at tokens) → (get_or tokens at d).kind ≢ k.Str
kind_not tokens at d h n = begins_not (get_or tokens at d) (drop (at + 1) tokens) (drop at tokens) (front_there tokens at d h) n

pub other_there : (tokens : List Token) (at : ℕ) (d : Token) → at < length tokens → (get_or tokens at d).kind ≢ k.Str → NoString (drop at tokens)
other_there tokens at d h f = let P : List Token → Type 0 = λ ts. NoString ts in subst P (sym (front_there tokens at d h)) (other (get_or tokens at d) (drop (at + 1) tokens) f)

pub none_there : (tokens : List Token) (at : ℕ) → length tokens ≤ at → NoString (drop at tokens)
none_there tokens at h = let P : List Token → Type 0 = λ ts. NoString ts in subst P (sym (drop_of_length-le tokens h)) ended

-- a first string
pub open_there : (text : List ℕ) (tokens : List Token) (at : ℕ) (d u : Token) (chars : List ℕ) → at < length tokens → BeginsString (drop at tokens) → chars ≡ string_characters (token_text text (get_or tokens at u)) →
    IsOpen text (drop at tokens) (drop (at + 1) tokens) (get_or tokens at d) chars
open_there text tokens at d u chars h b c =
    let t : Token = get_or tokens at u in
    let behind : List Token = drop (at + 1) tokens in
    let P : List Token → Type 0 = λ ts. IsOpen text ts behind t (string_characters (token_text text t)) in
    let Q : Token → Type 0 = λ v. IsOpen text (drop at tokens) behind v (string_characters (token_text text t)) in
    let R : List ℕ → Type 0 = λ cs. IsOpen text (drop at tokens) behind (get_or tokens at d) cs in
    subst R (sym c) (subst Q (same_there tokens at u d h) (subst P (sym (front_there tokens at u h)) (open_first text t behind (kind_there tokens at u h b))))

-- one more string
pub more_there : (text : List ℕ) (all tokens : List Token) (at : ℕ) (first u : Token) (chars more whole : List ℕ) → at < length tokens → BeginsString (drop at tokens) →
    more ≡ string_characters (token_text text (get_or tokens at u)) → whole ≡ chars ++ more → IsOpen text all (drop at tokens) first chars → IsOpen text all (drop (at + 1) tokens) first whole
more_there text all tokens at first u chars more whole h b m w o =
    let t : Token = get_or tokens at u in
    let behind : List Token = drop (at + 1) tokens in
    let P : List Token → Type 0 = λ ts. IsOpen text all ts first chars in
    let R : List ℕ → Type 0 = λ cs. IsOpen text all behind first cs in
    subst R (sym (w ∙ ap (λ v. chars ++ v) m)) (open_more text all first t behind chars (kind_there tokens at u h b) (subst P (front_there tokens at u h) o))

-- ---- More strings leave the words as they are

chars_stay : (strings more : List (List ℕ)) (number : ℕ) (kind : TokenKind) (bs : List ℕ) → (kind ≡ k.Str → number < length strings) → characters_in (strings ++ more) number kind bs ≡ characters_in strings number kind bs
chars_stay strings more number k.Str bs f = get_or_append_left strings more [] number (f refl)
chars_stay strings more number _ bs f = refl

word_stays : (text : List ℕ) (strings more : List (List ℕ)) (n : Numbered) → IsSound text strings n → word_with text (strings ++ more) n ≡ word_with text strings n
word_stays text strings more n s = ap (λ chars. let w : Word = record (word_with text strings n) { chars = chars } in w) (chars_stay strings more n.number n.token.kind (token_text text n.token) s.known)

words_stay_each : (text : List ℕ) (strings more : List (List ℕ)) (ns : List Numbered) → AllByRecursion (IsSound text strings) ns → words text (strings ++ more) ns ≡ words text strings ns
words_stay_each text strings more [] a = refl
words_stay_each text strings more (n ∷ ns) a = ap (λ w. w ∷ words text (strings ++ more) ns) (word_stays text strings more n a.0) ∙ ap (λ ws. word_with text strings n ∷ ws) (words_stay_each text strings more ns a.1)

pub words_stay : (text : List ℕ) (strings more : List (List ℕ)) (ns : List Numbered) → All (IsSound text strings) ns → words text (strings ++ more) ns ≡ words text strings ns
words_stay text strings more ns a = words_stay_each text strings more ns (recursion_from_All (IsSound text strings) ns a)

sound_stays : (text : List ℕ) (strings more : List (List ℕ)) (n : Numbered) → IsSound text strings n → IsSound text (strings ++ more) n
sound_stays text strings more n s = record {
  narrow = s.narrow;
  ordered = s.ordered;
  within = s.within;
  known = λ e. let h : n.number < length strings = s.known e in omega (arith, h, length-append strings more);
}

all_stay_each : (text : List ℕ) (strings more : List (List ℕ)) (ns : List Numbered) → AllByRecursion (IsSound text strings) ns → AllByRecursion (IsSound text (strings ++ more)) ns
all_stay_each text strings more [] a = tt
all_stay_each text strings more (n ∷ ns) a = (sound_stays text strings more n a.0, all_stay_each text strings more ns a.1)

pub all_stay : (text : List ℕ) (strings more : List (List ℕ)) (ns : List Numbered) → All (IsSound text strings) ns → All (IsSound text (strings ++ more)) ns
all_stay text strings more ns a = All-from_recursion (IsSound text (strings ++ more)) ns (all_stay_each text strings more ns (recursion_from_All (IsSound text strings) ns a))

-- the word of a string whose characters were put behind the others
pub new_string : (text : List ℕ) (strings : List (List ℕ)) (chars : List ℕ) (n : Numbered) → n.token.kind ≡ k.Str → n.number ≡ length strings → word_with text (strings ++ chars ∷ []) n ≡ string_word n.token chars
new_string text strings chars n e l =
    let f : TokenKind → Word = λ kind. record { kind = kind; at = n.token.span; number = number_with n kind; chars = characters_in (strings ++ chars ∷ []) n.number kind (token_text text n.token) } in
    ap f e ∙ ap (string_word n.token) (get_or_push strings chars [] n.number (sym l))
