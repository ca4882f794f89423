-- What the tokens of a text stand for is small.
use Rattle.std.proofs.Common.{◌≡◌, ℕ, ◌+◌, ◌-◌, ◌<◌, ◌≤◌, ◌^◌, Bool, true, false, if◌then◌else◌, List, [], ◌∷◌, ◌++◌, length, take, drop, map, Option, None, refl, sym, ap, subst, arith, ◌∙◌}
use Rattle.std.proofs.lemmas.List.{length-append, length-take}
use Rattle.std.proofs.lemmas.Bool.Decides.{nat_tests}
use Rattle.std.proofs.lemmas.List.Elements.{recursion_from_All}
use Rattle.std.proofs.lemmas.Str.{utf8_valid_len_le}
use Rattle.std.proofs.Math.Seq.{take-length}
use Rattle.std.specs.List.{AllByRecursion}
use Rattle.std.specs.Str.Lossy.{utf8_valid_len}
use Rattle.erl_syntax.specs.Word.{Word}
use Rattle.erl_syntax.specs.Characters.{string_characters}
use Rattle.erl_syntax.specs.Reading.{longest_text, number_of, characters_of, word_of, are_strings, before, strings_joined, words_of}
use Rattle.erl_syntax.specs.Tokens.{place, front, is_cut, token_text, Lexes, LexesFrom, ends, stops, skips, finds, refuses}
use Rattle.erl_syntax.specs.declared.token.LexFault.{LexFault}
use Rattle.erl_syntax.specs.declared.token.Token.{Token}
use Rattle.erl_syntax.specs.declared.token.TokenKind.{TokenKind}
use Rattle.erl_syntax.specs.declared.token.TokenKind.TheVariants as k
use Rattle.erl_tokens.specs.Values.{IsInteger}
use Rattle.erl_tokens.proofs.AllValues.{text_integers}
use Rattle.module_laws.proofs.Characters.{AreBytes, AreSmall, bytes-take, bytes-drop, front_bytes, string_small, string_few, character_few}
use Rattle.module_laws.proofs.ReadLiterals.{AreNear}
use Rattle.module_laws.proofs.FormLiterals.{IsSmall, AreSmallWords}

-- ---- How many characters strings have

abbrev letters : TokenKind → List ℕ → ℕ
letters k.Str cs = length cs
letters _ cs = 0

abbrev all_letters : List Word → ℕ
all_letters [] = 0
all_letters (w ∷ ws) = letters w.kind w.chars + all_letters ws

-- what a word stands for is small, but that a string may be long
abbrev IsLight : TokenKind → ℕ → List ℕ → Type 0
IsLight k.Integer n cs = n < 2 ^ 127
IsLight k.Character n cs = n < 2 ^ 127
IsLight k.Str n cs = AreNear cs
IsLight _ n cs = Unit {0}

abbrev AreLight : List Word → Type 0
AreLight [] = Unit {0}
AreLight (w ∷ ws) = IsLight w.kind w.number w.chars × AreLight ws

near_append : (cs ds : List ℕ) → AreNear cs → AreNear ds → AreNear (cs ++ ds)
near_append [] ds h g = g
near_append (c ∷ cs) ds h g = (h.0, near_append cs ds h.1 g)

-- ---- Strings that follow one another

both_strings : (a b : TokenKind) → are_strings a b ≡ true → (a ≡ k.Str) × (b ≡ k.Str)
both_strings k.Str k.Str e = (refl, refl)
both_strings k.Str _ e = cc e
both_strings _ b e = cc e

letters_of : (kind : TokenKind) (cs : List ℕ) → kind ≡ k.Str → letters kind cs ≡ length cs
letters_of kind cs e = ap (λ (u : TokenKind). letters u cs) e

joined_letters : (b : Bool) (w v : Word) (ws : List Word) → are_strings w.kind v.kind ≡ b →
    all_letters (if b then record { kind = w.kind; at = w.at; number = w.number; chars = w.chars ++ v.chars } ∷ ws else w ∷ v ∷ ws) ≡ letters w.kind w.chars + (letters v.kind v.chars + all_letters ws)
joined_letters true w v ws e =
    let s = both_strings w.kind v.kind e in
    omega (arith, letters_of w.kind (w.chars ++ v.chars) s.0, letters_of w.kind w.chars s.0, letters_of v.kind v.chars s.1, length-append w.chars v.chars)
joined_letters false w v ws e = refl

before_letters : (w : Word) (ws : List Word) → all_letters (before w ws) ≡ letters w.kind w.chars + all_letters ws
before_letters w [] = refl
before_letters w (v ∷ ws) = joined_letters (are_strings w.kind v.kind) w v ws refl

all_joined : (ws : List Word) → all_letters (strings_joined ws) ≡ all_letters ws
all_joined [] = refl
all_joined (w ∷ ws) = omega (arith, before_letters w (strings_joined ws), all_joined ws)

light_string : (kind : TokenKind) (n : ℕ) (cs : List ℕ) → kind ≡ k.Str → IsLight kind n cs → AreNear cs
light_string kind n cs e h = subst (λ (u : TokenKind). IsLight u n cs) e h

string_light : (kind : TokenKind) (n : ℕ) (cs : List ℕ) → kind ≡ k.Str → AreNear cs → IsLight kind n cs
string_light kind n cs e h = subst (λ (u : TokenKind). IsLight u n cs) (sym e) h

joined_light : (b : Bool) (w v : Word) (ws : List Word) → are_strings w.kind v.kind ≡ b → IsLight w.kind w.number w.chars → AreLight (v ∷ ws) →
    AreLight (if b then record { kind = w.kind; at = w.at; number = w.number; chars = w.chars ++ v.chars } ∷ ws else w ∷ v ∷ ws)
joined_light true w v ws e h g =
    let s = both_strings w.kind v.kind e in
    (string_light w.kind w.number (w.chars ++ v.chars) s.0 (near_append w.chars v.chars (light_string w.kind w.number w.chars s.0 h) (light_string v.kind v.number v.chars s.1 g.0)), g.1)
joined_light false w v ws e h g = (h, g)

before_light : (w : Word) (ws : List Word) → IsLight w.kind w.number w.chars → AreLight ws → AreLight (before w ws)
before_light w [] h g = (h, tt)
before_light w (v ∷ ws) h g = joined_light (are_strings w.kind v.kind) w v ws refl h g

all_light : (ws : List Word) → AreLight ws → AreLight (strings_joined ws)
all_light [] h = tt
all_light (w ∷ ws) h = before_light w (strings_joined ws) h.0 (all_light ws h.1)

-- ---- The tokens of a text

kind_letters : (kind : TokenKind) (bs : List ℕ) → letters kind (characters_of kind bs) ≤ length bs
kind_letters k.Str bs = string_few bs
kind_letters _ bs = omega arith

tokens_few : (bytes : List ℕ) (table : List (List ℕ)) (cut : Bool) (i : ℕ) (tokens : List Token) (fault : Option LexFault) → LexesFrom bytes cut i tokens fault →
    i + all_letters (map (word_of bytes table) tokens) ≤ length bytes
tokens_few bytes table cut _ _ _ (ends i e c) = omega (arith, e)
tokens_few bytes table cut _ _ _ (stops i e c) = omega (arith, e)
tokens_few bytes table cut _ _ _ (skips i n tokens fault h e z) = omega (arith, tokens_few bytes table cut (i + n) tokens fault z)
tokens_few bytes table cut _ _ _ (finds i n kind tokens fault h e z) =
    let t : Token = record { kind = kind; span = place bytes i; from = i; to = i + n } in
    let l : letters kind (characters_of kind (token_text bytes t)) ≤ length (token_text bytes t) = kind_letters kind (token_text bytes t) in
    omega (arith, tokens_few bytes table cut (i + n) tokens fault z, l, length-take (i + n - i) (drop i bytes))
tokens_few bytes table cut _ _ _ (refuses i n cause h e) = omega (arith, h)

small_near : (cs : List ℕ) → AreSmall cs → AreNear cs
small_near [] h = tt
small_near (c ∷ cs) h = (omega (arith, h.0), small_near cs h.1)

kind_light : (table : List (List ℕ)) (kind : TokenKind) (bs : List ℕ) → AreBytes bs → (kind ≡ k.Integer → IsInteger bs) → IsLight kind (number_of table kind bs) (characters_of kind bs)
kind_light table k.Integer bs h g = (g refl).1
kind_light table k.Character bs h g = omega (arith, character_few bs h)
kind_light table k.Str bs h g = small_near (string_characters bs) (string_small bs h)
kind_light table _ bs h g = tt

tokens_light : (bytes : List ℕ) (table : List (List ℕ)) (tokens : List Token) → AreBytes bytes → AllByRecursion (λ token. token.kind ≡ k.Integer → IsInteger (token_text bytes token)) tokens → AreLight (map (word_of bytes table) tokens)
tokens_light bytes table [] h g = tt
tokens_light bytes table (t ∷ ts) h g = (kind_light table t.kind (token_text bytes t) (bytes-take (t.to - t.from) (drop t.from bytes) (bytes-drop t.from bytes h)) g.0, tokens_light bytes table ts h g.1)

word_small : (kind : TokenKind) (n : ℕ) (cs : List ℕ) → letters kind cs ≤ 2 ^ 20 → IsLight kind n cs → IsSmall kind n cs
word_small k.Integer n cs l h = h
word_small k.Character n cs l h = h
word_small k.Str n cs l h = (l, h)
word_small _ n cs l h = tt

light_small : (ws : List Word) → all_letters ws ≤ 2 ^ 20 → AreLight ws → AreSmallWords ws
light_small [] l h = tt
light_small (w ∷ ws) l h = (word_small w.kind w.number w.chars (omega (arith, l)) h.0, light_small ws (omega (arith, l)) h.1)

-- ---- A text that is read to its end

whole : (bytes : List ℕ) (cut : Bool) (i : ℕ) (tokens : List Token) (fault : Option LexFault) → LexesFrom bytes cut i tokens fault → fault ≡ None → cut ≡ false
whole bytes cut _ _ _ (ends i e c) g = c
whole bytes cut _ _ _ (stops i e c) g = absurd (cc)
whole bytes cut _ _ _ (skips i n tokens fault h e z) g = whole bytes cut (i + n) tokens fault z g
whole bytes cut _ _ _ (finds i n kind tokens fault h e z) g = whole bytes cut (i + n) tokens fault z g
whole bytes cut _ _ _ (refuses i n cause h e) g = absurd (cc)

front_whole : (text : List ℕ) → is_cut text ≡ false → front text ≡ text
front_whole text e =
    let l : length text ≤ utf8_valid_len text = grind (arith, nat_tests) in
    let n : utf8_valid_len text ≡ length text = omega (arith, l, utf8_valid_len_le text) in
    ap (λ m. take m text) n ∙ take-length text

module _ (text : List ℕ) (tokens : List Token) (short : length text ≤ longest_text) (lexes : Lexes text tokens None) where
  all_read : front text ≡ text
  all_read = front_whole text (whole (front text) (is_cut text) 0 tokens None lexes refl)

  abbrev Few : List (List ℕ) → List ℕ → Type 0
  Few table bytes = all_letters (map (word_of bytes table) tokens) ≤ length bytes

  -- what the words of the text stand for is small
  pub words_small : (table : List (List ℕ)) → AreSmallWords (words_of text table tokens)
  words_small table =
      let bytes : AreBytes text = subst AreBytes all_read (front_bytes text) in
      let few : Few table text = subst (Few table) all_read (omega (arith, tokens_few (front text) table (is_cut text) 0 tokens None lexes)) in
      let integers = recursion_from_All (λ (token : Token). token.kind ≡ k.Integer → IsInteger (token_text text token)) tokens (text_integers text tokens lexes) in
      let ws : List Word = map (word_of text table) tokens in
      light_small (strings_joined ws) (omega (arith, all_joined ws, few, short)) (all_light ws (tokens_light text table tokens bytes integers))
