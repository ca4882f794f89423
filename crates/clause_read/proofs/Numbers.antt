-- One more word numbered.
use Rattle.std.proofs.Common.{◌≡◌, ◌≢◌, ℕ, suc, ◌+◌, ◌<◌, ◌≤◌, List, [], ◌∷◌, ◌++◌, drop, length, get_or, map, ap, sym, subst, ◌∙◌, arith, append_assoc, append-nil, Bor}
use Rattle.std.specs.Prelude.{All}
use Rattle.std.proofs.Math.Seq.{drop-cons}
use Rattle.std.proofs.Math.ListN.{drop_of_length-le}
use Rattle.std.proofs.lemmas.List.{map-append, drop-map, length-append}
use Rattle.std.proofs.lemmas.List.Elements.{All-push}
use Rattle.erl_syntax.specs.Word.{Word}
use Rattle.erl_syntax.specs.Atoms.{fixed_atoms}
use Rattle.erl_syntax.specs.Tokens.{token_text}
use Rattle.erl_syntax.specs.Reading.{with_atom, after_token, after_tokens, atoms_of, word_of, words_of, before, strings_joined}
use Rattle.erl_syntax.specs.declared.token.Token.{Token}
use Rattle.erl_syntax.specs.declared.token.TokenKind.TheVariants as k
use Rattle.pattern_read.specs.declared.cursor.Numbered.{Numbered}
use Rattle.pattern_read.specs.Cursor.{IsSound, words, word_of as word_with}
use Rattle.clause_read.specs.declared.numbering.Numbering.{Numbering}
use Rattle.clause_read.specs.Numbering.{words_after, with_each, string_word, IsString, IsNumberedTo}
use Rattle.clause_read.proofs.Interning.{words_at_once}
use Rattle.clause_read.proofs.Strings.{stays_alone, words_stay, all_stay, new_string}

-- what is left begins with the item at the place
begins : {X : Type 0} (xs : List X) (i : ℕ) (d : X) → i < length xs → drop i xs ≡ get_or xs i d ∷ drop (i + 1) xs
begins xs i d h = let s : suc i ≡ i + 1 = omega arith in drop-cons xs i d h ∙ ap (λ j. get_or xs i d ∷ drop j xs) s

-- one more atom put into a table
pub each_next : (table next all : List (List ℕ)) (ns : List (Bor (List ℕ))) (i : ℕ) (d : Bor (List ℕ)) → i < length ns → next ≡ with_atom table (get_or ns i d).now →
    with_each table (drop i (map (λ n. n.now) ns)) ≡ all → with_each next (drop (i + 1) (map (λ n. n.now) ns)) ≡ all
each_next table next all ns i d h e f =
    let now : Bor (List ℕ) → List ℕ = λ n. n.now in
    let left : drop i (map now ns) ≡ now (get_or ns i d) ∷ drop (i + 1) (map now ns) =
    drop-map now i ns ∙ ap (map now) (begins ns i d h) ∙ ap (λ ms. now (get_or ns i d) ∷ ms) (sym (drop-map now (i + 1) ns)) in
    ap (λ t. with_each t (drop (i + 1) (map now ns))) e ∙ sym (ap (with_each table) left) ∙ f

-- the table of one more token
table_next : (text : List ℕ) (table next all : List (List ℕ)) (ts : List Token) (i : ℕ) (d : Token) → i < length ts → next ≡ after_token table (get_or ts i d).kind (token_text text (get_or ts i d)) →
    after_tokens text table (drop i ts) ≡ all → after_tokens text next (drop (i + 1) ts) ≡ all
table_next text table next all ts i d h e f = ap (λ t. after_tokens text t (drop (i + 1) ts)) e ∙ sym (ap (after_tokens text table) (begins ts i d h)) ∙ f

-- the words of one more token that is no string
word_next : (text : List ℕ) (table next : List (List ℕ)) (ts : List Token) (i : ℕ) (d : Token) → i < length ts → (get_or ts i d).kind ≢ k.Str →
    next ≡ after_token table (get_or ts i d).kind (token_text text (get_or ts i d)) →
    strings_joined (words_after text table (drop i ts)) ≡ word_of text next (get_or ts i d) ∷ strings_joined (words_after text next (drop (i + 1) ts))
word_next text table next ts i d h f e =
    let t : Token = get_or ts i d in
    let more : List Token = drop (i + 1) ts in
    ap (λ us. strings_joined (words_after text table us)) (begins ts i d h)
    ∙ ap (λ u. before (word_of text u t) (strings_joined (words_after text u more))) (sym e)
    ∙ stays_alone (word_of text next t) (strings_joined (words_after text next more)) f

-- one more word behind those that were read
word_pushed : (done behind : List Word) (w v : Word) (left all : List Word) → left ≡ w ∷ behind → v ≡ w → done ++ left ≡ all → (done ++ v ∷ []) ++ behind ≡ all
word_pushed done behind w v left all l e f = append_assoc done (v ∷ []) behind ∙ ap (λ u. done ++ (u ∷ behind)) e ∙ ap (λ ws. done ++ ws) (sym l) ∙ f

words_pushed : (text : List ℕ) (strings : List (List ℕ)) (read : List Numbered) (n : Numbered) → words text strings (read ++ n ∷ []) ≡ words text strings read ++ word_with text strings n ∷ []
words_pushed text strings read n = map-append (word_with text strings) read (n ∷ [])

-- one more token that is no string
pub token_numbered : (text : List ℕ) (tokens : List Token) (at : ℕ) (d : Token) (old new : Numbering) (n : Numbered) → at < length tokens → (get_or tokens at d).kind ≢ k.Str →
    new.atoms ≡ after_token old.atoms (get_or tokens at d).kind (token_text text (get_or tokens at d)) → length new.atoms ≤ length old.atoms + 1 →
    ((strings : List (List ℕ)) → word_with text strings n ≡ word_of text new.atoms (get_or tokens at d)) → ((strings : List (List ℕ)) → IsSound text strings n) →
    new.strings ≡ old.strings → new.read.items ≡ old.read.items ++ n ∷ [] → IsNumberedTo text tokens at old → IsNumberedTo text tokens (at + 1) new
token_numbered text tokens at d old new n h f a l w s e r o =
    let ss : List (List ℕ) = old.strings.items in
    let P : List (List ℕ) → Type 0 = λ strings. words text strings new.read.items ++ strings_joined (words_after text new.atoms (drop (at + 1) tokens)) ≡ strings_joined (words_after text fixed_atoms tokens) in
    let Q : List (List ℕ) → Type 0 = λ strings. All (IsSound text strings) new.read.items in
    let R : List Numbered → Type 0 = λ read. All (IsSound text ss) read in
    let same : old.strings.items ≡ new.strings.items = ap (λ v. v.items) (sym e) in
    record {
      table = table_next text old.atoms new.atoms (atoms_of text tokens) tokens at d h a o.table;
      words = subst P same
          (ap (λ read. words text ss read ++ strings_joined (words_after text new.atoms (drop (at + 1) tokens))) r
          ∙ ap (λ ws. ws ++ strings_joined (words_after text new.atoms (drop (at + 1) tokens))) (words_pushed text ss old.read.items n)
          ∙ word_pushed (words text ss old.read.items) (strings_joined (words_after text new.atoms (drop (at + 1) tokens))) (word_of text new.atoms (get_or tokens at d)) (word_with text ss n)
          (strings_joined (words_after text old.atoms (drop at tokens))) (strings_joined (words_after text fixed_atoms tokens)) (word_next text old.atoms new.atoms tokens at d h f a) (w ss) o.words);
      sound = subst Q same (subst R (sym r) (All-push (IsSound text ss) old.read.items n o.sound (s ss)));
      atoms = omega (arith, l, o.atoms);
      strings = let few : length old.strings.items ≤ at = o.strings in let n : length old.strings.items ≡ length new.strings.items = ap length same in omega (arith, few, n);
    }

-- one more string
pub string_numbered : (text : List ℕ) (tokens : List Token) (at behind : ℕ) (old new : Numbering) (n : Numbered) (chars : List ℕ) → at < behind → n.token.kind ≡ k.Str → n.number ≡ length old.strings.items →
    IsString text (drop at tokens) (drop behind tokens) n.token chars → ((strings : List (List ℕ)) → n.number < length strings → IsSound text strings n) →
    new.atoms ≡ old.atoms → new.strings.items ≡ old.strings.items ++ chars ∷ [] → new.read.items ≡ old.read.items ++ n ∷ [] → IsNumberedTo text tokens at old → IsNumberedTo text tokens behind new
string_numbered text tokens at behind old new n chars h e l is s a c r o =
    let ss : List (List ℕ) = old.strings.items in
    let more : List (List ℕ) = ss ++ chars ∷ [] in
    let rest : List (List ℕ) → List Word = λ table. strings_joined (words_after text table (drop behind tokens)) in
    let all : List Word = strings_joined (words_after text fixed_atoms tokens) in
    let P : List (List ℕ) → Type 0 = λ strings. words text strings new.read.items ++ rest new.atoms ≡ all in
    let Q : List (List ℕ) → Type 0 = λ strings. All (IsSound text strings) new.read.items in
    let R : List Numbered → Type 0 = λ read. All (IsSound text more) read in
    let n_more : length more ≡ length ss + 1 = length-append ss (chars ∷ []) in
    record {
      table = ap (λ t. after_tokens text t (drop behind tokens)) a ∙ sym (is.table old.atoms) ∙ o.table;
      words = subst P (sym c)
          (ap (λ read. words text more read ++ rest new.atoms) r
          ∙ ap (λ ws. ws ++ rest new.atoms) (words_pushed text more old.read.items n ∙ ap (λ ws. ws ++ word_with text more n ∷ []) (words_stay text ss (chars ∷ []) old.read.items o.sound))
          ∙ ap (λ t. (words text ss old.read.items ++ word_with text more n ∷ []) ++ rest t) a
          ∙ word_pushed (words text ss old.read.items) (rest old.atoms) (string_word n.token chars) (word_with text more n) (strings_joined (words_after text old.atoms (drop at tokens))) all
          (is.words old.atoms) (new_string text ss chars n e l) o.words);
      sound = subst Q (sym c) (subst R (sym r) (All-push (IsSound text more) old.read.items n (all_stay text ss (chars ∷ []) old.read.items o.sound) (s more (omega (arith, n_more, l)))));
      atoms = let m : length new.atoms ≡ length old.atoms = ap length a in let few : length old.atoms ≤ 15 + at = o.atoms in omega (arith, m, few, h);
      strings = let m : length new.strings.items ≡ length more = ap length c in let few : length ss ≤ at = o.strings in omega (arith, m, n_more, few, h);
    }

-- the table and the words of all tokens
pub atoms_done : (text : List ℕ) (tokens : List Token) (at : ℕ) (n : Numbering) → length tokens ≤ at → IsNumberedTo text tokens at n → n.atoms ≡ atoms_of text tokens
atoms_done text tokens at n h o = ap (after_tokens text n.atoms) (sym (drop_of_length-le tokens h)) ∙ o.table

pub words_done : (text : List ℕ) (tokens : List Token) (at : ℕ) (n : Numbering) → length tokens ≤ at → IsNumberedTo text tokens at n → words text n.strings.items n.read.items ≡ words_of text (atoms_of text tokens) tokens
words_done text tokens at n h o =
    let read : List Word = words text n.strings.items n.read.items in
    sym (append-nil read) ∙ ap (λ ms. read ++ strings_joined (words_after text n.atoms ms)) (sym (drop_of_length-le tokens h)) ∙ o.words ∙ ap strings_joined (sym (words_at_once text fixed_atoms tokens))
