-- The returns of the readers of forms.
use Rattle.std.proofs.Common.{◌≡◌, ℕ, pos, Bool, append_assoc, append-nil, ◌+◌, List, [], ◌∷◌, ◌++◌, drop, Ok, Err, refl, sym, ap, subst, ◌∙◌, arith}
use Rattle.erl_syntax.specs.declared.span.Span.{Span}
use Rattle.erl_syntax.specs.declared.module.Name.{Name}
use Rattle.erl_syntax.specs.declared.token.TokenKind.TheVariants as k
use Rattle.erl_syntax.specs.declared.token.TokenKind.{TokenKind}
use Rattle.erl_syntax.specs.Grammar.{Goal}
use Rattle.erl_syntax.specs.Word.{Word}
use Rattle.pattern_read.specs.declared.fault.Fault.TheVariants.{Memory, Refused}
use Rattle.erl_syntax.specs.Names.{IsAttribute}
use Rattle.pattern_read.specs.declared.fault.Fault.{Fault}
use Rattle.pattern_read.specs.declared.fault.Cause.{Cause}
use Rattle.pattern_read.specs.declared.fault.Cause.TheVariants.{Syntax, UnknownAttribute}
use Rattle.pattern_read.specs.Reading.{Passes, IsRefused, closed, nothing, Gives}
use Rattle.pattern_read.specs.Wanted.{IsAt, NoMark}
use Rattle.pattern_read.specs.Cursor.{StandsAt, number_of}
use Rattle.pattern_read.specs.declared.cursor.Numbered.{Numbered}
use Rattle.clause_read.specs.WantedForms.{anything, forms_in, skipped_in, name_in, names_in, listed, TokenOf}
use Rattle.pattern_read.proofs.Passing.{behind_closed, and_then, refused_after, same_kinds, at_token, refused_at, remade}
use Rattle.pattern_read.proofs.Words.{is_yes}
use Rattle.clause_read.proofs.FormSteps.{OpensFrom, Meaning, meaning, marked, worded, opens_marked, opens_worded, then_mark, then_no_mark, then_word, then_no_word, then_part, then_fault}
use Rattle.clause_read.proofs.FormLaws.{no_attribute, unknown_attribute}
use Rattle.clause_read.proofs.NameLaws.{on_skips, on_stop, skipped_refused, named_by, on_name, opens_nothing, more_names_in, name_and_more, on_no_names, on_names, on_next_name, on_last_name, no_more_names, more_names_spelled}
use Rattle.pattern_read.specs.Cursor.{Readable}
use Rattle.erl_syntax.specs.Grammar.{Limits}

pub no_attribute_at : (ws : Readable) (at : ℕ) → IsAt ws at k.Minus → NoMark k.Atom (drop (at + 1) ws.words) → IsRefused ws.limits anything forms_in (drop at ws.words) (drop (at + 1) ws.words) Syntax
no_attribute_at ws at s n = let P : List Word → Type 0 = λ w. IsRefused ws.limits anything forms_in w (drop (at + 1) ws.words) Syntax in subst P (sym s.is) (no_attribute s.word (drop (at + 1) ws.words) s.kind_is n)

pub unknown_at : (ws : Readable) (at : ℕ) (chars : List ℕ) → IsAt ws at k.Minus → (t : IsAt ws (at + 1) k.Atom) → chars ≡ t.word.chars → (IsAttribute chars → ⊥) → IsRefused ws.limits anything forms_in (drop at ws.words) (drop (at + 1) ws.words) UnknownAttribute
unknown_at ws at chars s t e n =
    let rest : List Word = drop (at + 1 + 1) ws.words in
    let P : List Word → Type 0 = λ w. IsRefused ws.limits anything forms_in w (drop (at + 1) ws.words) UnknownAttribute in
    let Q : List Word → Type 0 = λ w. IsRefused ws.limits anything forms_in (s.word ∷ w) w UnknownAttribute in
    let R : List ℕ → Type 0 = λ c. IsAttribute c → ⊥ in
    subst P (sym s.is) (subst Q (sym t.is) (unknown_attribute s.word t.word rest s.kind_is t.kind_is (subst R e n)))

-- ---- Forms without effect

pub skipped_stop : (ws : Readable) (at next : ℕ) (n : Numbered) (u : Unit {0}) → Passes ws.limits closed skipped_in (drop at ws.words) skipped_in (drop next ws.words) (λ v. tt) → StandsAt ws next n → n.token.kind ≡ k.FullStop → Gives closed skipped_in ws at (Ok (u, next + 1))
skipped_stop ws at next n u p s h = let t = is_yes ws next n k.FullStop s h in and_then (same_kinds closed) p (at_token t.is (on_stop t.word (drop (next + 1) ws.words) t.kind_is))

pub skipped_more : (ws : Readable) (at next : ℕ) (n : Numbered) → Passes ws.limits closed skipped_in (drop at ws.words) skipped_in (drop next ws.words) (λ v. tt) → StandsAt ws next n → (n.token.kind ≡ k.FullStop → ⊥) → Passes ws.limits closed skipped_in (drop at ws.words) skipped_in (drop (next + 1) ws.words) (λ v. tt)
skipped_more ws at next n p s f = and_then (same_kinds closed) p (at_token s.is (on_skips s.word (drop (next + 1) ws.words) (λ e. f (sym s.kind ∙ e))))

pub skipped_end : (ws : Readable) (at next : ℕ) → Passes ws.limits closed skipped_in (drop at ws.words) skipped_in (drop next ws.words) (λ v. tt) → drop next ws.words ≡ [] → IsRefused ws.limits closed skipped_in (drop at ws.words) (drop next ws.words) Syntax
skipped_end ws at next p e = refused_after (same_kinds closed) p (refused_at e skipped_refused)

-- ---- Names

opens_slash : {most : Limits} → OpensFrom most {Y = Meaning × Unit {0}} (λ m. marked k.Slash (worded k.Integer (λ n. nothing)))
opens_slash = record { opens = λ m. opens_marked k.Slash (worded k.Integer (λ n. nothing)) (opens_worded k.Integer (λ n. nothing) (record { opens = λ n. opens_nothing })) }

pub name_no_atom : (ws : Readable) (at : ℕ) → NoMark k.Atom (drop at ws.words) → IsRefused ws.limits closed name_in (drop at ws.words) (drop at ws.words) Syntax
name_no_atom ws at n = then_no_word (λ m. marked k.Slash (worded k.Integer (λ i. nothing))) ws at at k.Atom (on_name (drop at ws.words)) opens_slash n

name_atom : (ws : Readable) (at : ℕ) (s : IsAt ws at k.Atom) → Passes ws.limits closed name_in (drop at ws.words) (marked k.Slash (worded k.Integer (λ n. nothing))) (drop (at + 1) ws.words) (λ y. named_by (meaning s.word, y))
name_atom ws at s = then_word (λ m. marked k.Slash (worded k.Integer (λ i. nothing))) ws at at k.Atom (on_name (drop at ws.words)) s

pub name_no_slash : (ws : Readable) (at : ℕ) (s : IsAt ws at k.Atom) → NoMark k.Slash (drop (at + 1) ws.words) → IsRefused ws.limits closed name_in (drop at ws.words) (drop (at + 1) ws.words) Syntax
name_no_slash ws at s n = then_no_mark (worded k.Integer (λ i. nothing)) ws at (at + 1) k.Slash (name_atom ws at s) (opens_worded k.Integer (λ i. nothing) (record { opens = λ m. opens_nothing })) n

name_slash : (ws : Readable) (at : ℕ) (s : IsAt ws at k.Atom) → IsAt ws (at + 1) k.Slash → Passes ws.limits closed name_in (drop at ws.words) (worded k.Integer (λ n. nothing)) (drop (at + 2) ws.words) (λ y. named_by (meaning s.word, y))
name_slash ws at s t = let e : at + 1 + 1 ≡ at + 2 = omega arith in
    let P : ℕ → Type 0 = λ i. Passes ws.limits closed name_in (drop at ws.words) (worded k.Integer (λ n. nothing)) (drop i ws.words) (λ y. named_by (meaning s.word, y)) in
    subst P e (then_mark (worded k.Integer (λ i. nothing)) ws at (at + 1) k.Slash (name_atom ws at s) t)

pub name_no_integer : (ws : Readable) (at : ℕ) (s : IsAt ws at k.Atom) → IsAt ws (at + 1) k.Slash → NoMark k.Integer (drop (at + 2) ws.words) → IsRefused ws.limits closed name_in (drop at ws.words) (drop (at + 2) ws.words) Syntax
name_no_integer ws at s t n = then_no_word (λ i. nothing) ws at (at + 2) k.Integer (name_slash ws at s t) (record { opens = λ m. opens_nothing }) n

pub name_whole : (ws : Readable) (at : ℕ) (n m : Numbered) (one : Name) → StandsAt ws at n → n.token.kind ≡ k.Atom → IsAt ws (at + 1) k.Slash → StandsAt ws (at + 2) m → m.token.kind ≡ k.Integer →
    one ≡ record { at = n.token.span; name = n.number; arity = pos m.value } → Gives closed name_in ws at (Ok (one, at + 3))
name_whole ws at n m one s h t i g e =
    let a : IsAt ws at k.Atom = record { word = s.word; is = s.is; kind_is = s.kind ∙ h } in
    let j : IsAt ws (at + 2) k.Integer = record { word = i.word; is = i.is; kind_is = i.kind ∙ g } in
    let d : at + 2 + 1 ≡ at + 3 = omega arith in
    let num : s.word.number ≡ n.number = s.number ∙ ap (number_of n) h in
    let val : i.word.number ≡ m.value = i.number ∙ ap (number_of m) g in
    let f : Span → ℕ → ℕ → Name = λ p v w. record { at = p; name = v; arity = pos w } in
    let made : named_by (meaning s.word, (meaning i.word, tt)) ≡ one =
    ap (λ p. f p s.word.number i.word.number) s.place ∙ ap (λ v. f n.token.span v i.word.number) num ∙ ap (λ w. f n.token.span n.number w) val ∙ sym e in
    let P : ℕ → Type 0 = λ v. Passes ws.limits closed name_in (drop at ws.words) nothing (drop v ws.words) (λ u. one) in
    subst P d (remade (λ u. made) (then_word (λ v. nothing) ws at (at + 2) k.Integer (name_slash ws at a t) j))

-- the token of a kind stands there
pub yes_of : (ws : Readable) (at : ℕ) (kind : TokenKind) (n : Numbered) → StandsAt ws at n × (n.token.kind ≡ kind) → IsAt ws at kind
yes_of ws at kind n p = record { word = p.0.word; is = p.0.is; kind_is = p.0.kind ∙ p.1 }

-- a token of the kind is wanted there, and what isn't one is refused
pub token_fault : {X : Type 0} (longer : TokenKind → Bool) (wanted : X → List Goal) (ws : Readable) (at next : ℕ) (kind : TokenKind) (fault : Fault) →
    (NoMark kind (drop next ws.words) → IsRefused ws.limits longer wanted (drop at ws.words) (drop next ws.words) Syntax) → TokenOf ws next kind (Err fault) → Gives longer wanted ws at (Err fault)
token_fault longer wanted ws at next kind Memory f t = tt
token_fault longer wanted ws at next kind (Refused n why) f t =
    let P : ℕ → Type 0 = λ i. IsRefused ws.limits longer wanted (drop at ws.words) (drop i ws.words) why in
    let Q : Cause → Type 0 = λ v. IsRefused ws.limits longer wanted (drop at ws.words) (drop next ws.words) v in
    subst P (sym t.0) (subst Q (sym t.1) (f t.2))

-- some names have been read, and one more has to stand at the place
abbrev pub NamesRead : Readable → ℕ → ℕ → List Name → Type 0
NamesRead ws at next items = Passes ws.limits closed names_in (drop at ws.words) name_and_more (drop next ws.words) (λ p. items ++ (p.0 ∷ p.1))

pub names_empty : (ws : Readable) (at : ℕ) (items : List Name) → IsAt ws at k.RightBracket → items ≡ [] → Gives closed names_in ws at (Ok (items, at + 1))
names_empty ws at items s e = remade (λ u. sym e) (at_token s.is (on_no_names s.word (drop (at + 1) ws.words) s.kind_is))

pub names_begin : (ws : Readable) (at : ℕ) (items : List Name) → NoMark k.RightBracket (drop at ws.words) → items ≡ [] → NamesRead ws at at items
names_begin ws at items n e = remade (λ p. ap (λ v. v ++ (p.0 ∷ p.1)) (sym e)) (on_names (drop at ws.words) n)

pub names_fault : (ws : Readable) (at next : ℕ) (items : List Name) (fault : Fault) → NamesRead ws at next items → Gives closed name_in ws next (Err fault) → Gives closed names_in ws at (Err fault)
names_fault ws at next items fault p g = then_fault name_in (λ n. more_names_in) ws at next fault (behind_closed closed (λ n. more_names_in)) more_names_spelled p g

names_next : (ws : Readable) (at next after : ℕ) (items all : List Name) (one : Name) → NamesRead ws at next items → Gives closed name_in ws next (Ok (one, after)) → all ≡ items ++ one ∷ [] →
    Passes ws.limits closed names_in (drop at ws.words) more_names_in (drop after ws.words) (λ ns. all ++ ns)
names_next ws at next after items all one p g e = remade (λ ns. sym (append_assoc items (one ∷ []) ns) ∙ ap (λ v. v ++ ns) (sym e)) (then_part name_in (λ n. more_names_in) ws at next after one (behind_closed closed (λ n. more_names_in)) p g)

pub names_last : (ws : Readable) (at next after : ℕ) (items all : List Name) (one : Name) → NamesRead ws at next items → Gives closed name_in ws next (Ok (one, after)) → all ≡ items ++ one ∷ [] → IsAt ws after k.RightBracket →
    Gives closed names_in ws at (Ok (all, after + 1))
names_last ws at next after items all one p g e s = remade (λ u. append-nil all) (and_then (same_kinds closed) (names_next ws at next after items all one p g e) (at_token s.is (on_last_name s.word (drop (after + 1) ws.words) s.kind_is)))

pub names_more : (ws : Readable) (at next after : ℕ) (items all : List Name) (one : Name) → NamesRead ws at next items → Gives closed name_in ws next (Ok (one, after)) → all ≡ items ++ one ∷ [] → IsAt ws after k.Comma →
    NamesRead ws at (after + 1) all
names_more ws at next after items all one p g e s = and_then (same_kinds closed) (names_next ws at next after items all one p g e) (at_token s.is (on_next_name s.word (drop (after + 1) ws.words) s.kind_is))

pub names_other : (ws : Readable) (at next after : ℕ) (items : List Name) (one : Name) → NamesRead ws at next items → Gives closed name_in ws next (Ok (one, after)) → NoMark k.Comma (drop after ws.words) → NoMark k.RightBracket (drop after ws.words) →
    IsRefused ws.limits closed names_in (drop at ws.words) (drop after ws.words) Syntax
names_other ws at next after items one p g a b = refused_after (same_kinds closed) (names_next ws at next after items (items ++ one ∷ []) one p g refl) (no_more_names (drop after ws.words) a b)

-- the same of a vector
pub listed_fault : (ws : Readable) (at : ℕ) (fault : Fault) → Gives closed names_in ws at (Err fault) → Gives closed names_in ws at (listed (Err fault))
listed_fault ws at Memory g = tt
listed_fault ws at (Refused n why) g = g
