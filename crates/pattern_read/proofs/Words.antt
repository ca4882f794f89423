-- The words from a place on.
use Rattle.std.proofs.Common.{◌≡◌, ℕ, suc, ◌+◌, ◌<◌, ◌≤◌, List, [], ◌∷◌, drop, take, length, get_or, map, ap, sym, refl, ◌∙◌, arith, subst, Result, Ok, Err, IfOk}
use Rattle.std.specs.declared.alloc.AllocError.{AllocError}
use Rattle.std.proofs.Math.Seq.{drop-cons}
use Rattle.std.proofs.Math.ListN.{drop_of_length-le}
use Rattle.std.proofs.lemmas.List.{drop-map, length-map, take-map}
use Rattle.erl_syntax.specs.Word.{Word}
use Rattle.erl_syntax.specs.declared.token.TokenKind.{TokenKind}
use Rattle.erl_syntax.specs.declared.token.TokenKind.TheVariants as k
use Rattle.pattern_read.specs.Cursor.{words, word_of, number_of, characters_of, characters_in, StandsAt}
use Rattle.erl_syntax.specs.Names.{module_macro}
use Rattle.erl_syntax.specs.Tokens.{token_text}
use Rattle.erl_syntax.specs.Characters.{atom_text}
use Rattle.pattern_read.specs.Wanted.{IsAt, AtomAt, ModuleAt, NoMark, no_mark, no_mark_end, NoModule, no_word, no_module}
use Rattle.pattern_read.specs.declared.cursor.Numbered.{Numbered}
use Rattle.pattern_read.specs.Cursor.{Readable}

words_from : (text : List ℕ) (strings : List (List ℕ)) (ns : List Numbered) (i : ℕ) (n : Numbered) → i < length ns → get_or ns i n ≡ n → drop i (words text strings ns) ≡ word_of text strings n ∷ drop (i + 1) (words text strings ns)
words_from text strings ns i n h e =
    let f : Numbered → Word = word_of text strings in
    let s : suc i ≡ i + 1 = omega arith in
    let a : drop i ns ≡ n ∷ drop (i + 1) ns = drop-cons ns i n h ∙ ap (λ v. v ∷ drop (suc i) ns) e ∙ ap (λ j. n ∷ drop j ns) s in
    drop-map f i ns ∙ ap (map f) a ∙ ap (λ v. f n ∷ v) (sym (drop-map f (i + 1) ns))

pub words_length : (text : List ℕ) (strings : List (List ℕ)) (ns : List Numbered) (all : Readable) → words text strings ns ≡ all.words → length all.words ≡ length ns
words_length text strings ns all v = ap length (sym v) ∙ length-map ns (word_of text strings)

pub stands_at : (text : List ℕ) (strings : List (List ℕ)) (ns : List Numbered) (all : Readable) (i : ℕ) (n : Numbered) → words text strings ns ≡ all.words → i < length ns → n ≡ get_or ns i n → StandsAt all i n
stands_at text strings ns all i n v h e =
    let P : List Word → Type 0 = λ w. drop i w ≡ word_of text strings n ∷ drop (i + 1) w in
    record { word = word_of text strings n; is = subst P v (words_from text strings ns i n h (sym e)); kind = refl; place = refl; number = refl }

pub stands_none : (text : List ℕ) (strings : List (List ℕ)) (ns : List Numbered) (all : Readable) (i : ℕ) → words text strings ns ≡ all.words → length ns ≤ i → drop i all.words ≡ []
stands_none text strings ns all i v h = drop_of_length-le all.words (let e : length all.words ≡ length ns = words_length text strings ns all v in omega arith)

-- ---- What a token that stands there says

pub is_yes : (all : Readable) (at : ℕ) (n : Numbered) (kind : TokenKind) → StandsAt all at n → n.token.kind ≡ kind → IsAt all at kind
is_yes all at n kind s e = record { word = s.word; is = s.is; kind_is = s.kind ∙ e }

pub is_no : (all : Readable) (at : ℕ) (n : Numbered) (kind : TokenKind) → StandsAt all at n → (n.token.kind ≡ kind → ⊥) → NoMark kind (drop at all.words)
is_no all at n kind s f = let P : List Word → Type 0 = λ w. NoMark kind w in subst P (sym s.is) (no_mark s.word (drop (at + 1) all.words) (λ e. f (sym s.kind ∙ e)))

pub is_none : (all : Readable) (at : ℕ) (kind : TokenKind) → drop at all.words ≡ [] → NoMark kind (drop at all.words)
is_none all at kind e = let P : List Word → Type 0 = λ w. NoMark kind w in subst P (sym e) no_mark_end

pub atom_yes : (all : Readable) (at : ℕ) (n : Numbered) → StandsAt all at n → n.token.kind ≡ k.Atom → AtomAt all at n.number
atom_yes all at n s e = record { word = s.word; is = s.is; kind = s.kind ∙ e; number = s.number ∙ ap (number_of n) e }

pub no_variable : (rest : List Word) → NoMark k.Variable rest → NoModule rest
no_variable _ no_mark_end = no_word
no_variable _ (no_mark j rest f) = no_module j rest (λ h e. f h)

pub other_name : (all : Readable) (at : ℕ) → (s : IsAt all at k.Variable) → (s.word.chars ≡ module_macro → ⊥) → NoModule (drop at all.words)
other_name all at s f = let P : List Word → Type 0 = λ w. NoModule w in subst P (sym s.is) (no_module s.word (drop (at + 1) all.words) (λ h e. f e))

-- what a token's bytes say of its word
chars_are : (text : List ℕ) (strings : List (List ℕ)) (ns : List Numbered) (all : Readable) (i : ℕ) (n : Numbered) → words text strings ns ≡ all.words → i < length ns → n ≡ get_or ns i n → (w : Word) (rest : List Word) → drop i all.words ≡ w ∷ rest → w.chars ≡ characters_in strings n.number w.kind (token_text text n.token)
chars_are text strings ns all i n v h e w rest a =
    let s : drop i (words text strings ns) ≡ word_of text strings n ∷ drop (i + 1) (words text strings ns) = words_from text strings ns i n h (sym e) in
    let f : word_of text strings n ≡ w = let t : word_of text strings n ∷ drop (i + 1) (words text strings ns) ≡ w ∷ rest = sym s ∙ ap (drop i) v ∙ a in cc in
    sym (ap (λ u. u.chars) f) ∙ ap (λ u. characters_in strings n.number u.kind (token_text text n.token)) f

no_string : (strings : List (List ℕ)) (number : ℕ) (kind : TokenKind) (bs : List ℕ) → (kind ≡ k.Str → ⊥) → characters_in strings number kind bs ≡ characters_of kind bs
no_string strings number k.Str bs f = absurd (f refl)
no_string strings number _ bs f = refl

pub bytes_are : (text : List ℕ) (strings : List (List ℕ)) (ns : List Numbered) (all : Readable) (i : ℕ) (n : Numbered) → words text strings ns ≡ all.words → i < length ns → n ≡ get_or ns i n → (w : Word) (rest : List Word) → drop i all.words ≡ w ∷ rest → (w.kind ≡ k.Str → ⊥) → w.chars ≡ characters_of w.kind (token_text text n.token)
bytes_are text strings ns all i n v h e w rest a f = chars_are text strings ns all i n v h e w rest a ∙ no_string strings n.number w.kind (token_text text n.token) f

-- the characters of a string
pub string_is : (text : List ℕ) (strings : List (List ℕ)) (ns : List Numbered) (all : Readable) (i : ℕ) (n : Numbered) → words text strings ns ≡ all.words → i < length ns → n ≡ get_or ns i n → (w : Word) (rest : List Word) → drop i all.words ≡ w ∷ rest → w.kind ≡ k.Str → get_or strings n.number [] ≡ w.chars
string_is text strings ns all i n v h e w rest a m = sym (chars_are text strings ns all i n v h e w rest a ∙ ap (λ u. characters_in strings n.number u (token_text text n.token)) m)

-- the bytes of a name are its characters
pub name_is : (w : Word) (bytes : List ℕ) → w.chars ≡ characters_of w.kind bytes → w.kind ≡ k.Variable → bytes ≡ w.chars
name_is w bytes h m = sym (ap (λ u. characters_of u bytes) m) ∙ sym h

pub atom_is : (w : Word) (bytes chars : List ℕ) → w.chars ≡ characters_of w.kind bytes → w.kind ≡ k.Atom → chars ≡ atom_text bytes → chars ≡ w.chars
atom_is w bytes chars h m e = e ∙ sym (ap (λ u. characters_of u bytes) m) ∙ sym h

pub atom_read : (all : Readable) (at : ℕ) (bytes : List ℕ) (r : Result (List ℕ) AllocError) → ((w : Word) (rest : List Word) → drop at all.words ≡ w ∷ rest → (w.kind ≡ k.Str → ⊥) → w.chars ≡ characters_of w.kind bytes) → IfOk r (λ chars. chars ≡ atom_text bytes) → IfOk r (λ chars. (w : Word) (rest : List Word) → drop at all.words ≡ w ∷ rest → w.kind ≡ k.Atom → chars ≡ w.chars)
atom_read all at bytes (Ok chars) f e = λ w rest a m. atom_is w bytes chars (f w rest a (λ s. cc)) m e
atom_read all at bytes (Err e) f g = tt

pub module_yes : (all : Readable) (at : ℕ) → (s : IsAt all at k.Variable) → s.word.chars ≡ module_macro → ModuleAt all at
module_yes all at s e = record { word = s.word; is = s.is; kind = s.kind_is; chars = e }

-- the bytes of the variable that stands there
pub name_at : (all : Readable) (at : ℕ) (bytes : List ℕ) → ((w : Word) (rest : List Word) → drop at all.words ≡ w ∷ rest → (w.kind ≡ k.Str → ⊥) → w.chars ≡ characters_of w.kind bytes) → (s : IsAt all at k.Variable) → bytes ≡ s.word.chars
name_at all at bytes f s = name_is s.word bytes (f s.word (drop (at + 1) all.words) s.is (λ n. let kind : s.word.kind ≡ k.Variable = s.kind_is in cc)) s.kind_is

-- the first words are those of the first tokens
pub front_words : (text : List ℕ) (strings : List (List ℕ)) (ns few : List Numbered) (all : Readable) (n : ℕ) → words text strings ns ≡ all.words → few ≡ take n ns → words text strings few ≡ take n all.words
front_words text strings ns few all n v e = ap (words text strings) e ∙ sym (take-map (word_of text strings) n ns) ∙ ap (take n) v
