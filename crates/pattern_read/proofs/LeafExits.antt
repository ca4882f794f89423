-- What each exit of the readers of patterns that begin with no bracket says.
use Rattle.std.proofs.Common.{◌≡◌, ℕ, ℤ, ◌+◌, true, false, List, [], ◌∷◌, drop, Ok, refl, sym, ap, subst, ◌∙◌, arith, pos, ◌⊎◌, inl, inr}
use Rattle.erl_syntax.specs.declared.token.TokenKind.{TokenKind}
use Rattle.erl_syntax.specs.declared.token.TokenKind.TheVariants as k
use Rattle.erl_syntax.specs.declared.pattern.Pattern.{Pattern}
use Rattle.erl_syntax.specs.declared.pattern.Pattern.TheVariants as p
use Rattle.erl_syntax.specs.Names.{Signed}
use Rattle.erl_syntax.specs.Grammar.{Context}
use Rattle.pattern_read.specs.Cursor.{StandsAt, number_of}
use Rattle.pattern_read.specs.declared.cursor.Numbered.{Numbered}
use Rattle.pattern_read.specs.declared.placed.Placed.{Placed}
use Rattle.pattern_read.specs.declared.fault.Cause.TheVariants.{Syntax}
use Rattle.pattern_read.specs.Reading.{IsRefused, Gives, closed}
use Rattle.pattern_read.specs.Wanted.{NoMark}
use Rattle.pattern_read.specs.WantedPatterns.{begins_pattern, opens_pattern, pat_in}
use Rattle.pattern_read.proofs.Passing.{at_token, refused_at, remade}
use Rattle.pattern_read.proofs.Pats.{same_pat, on_variable, on_wild, on_integer, on_character, on_atom, on_string}
use Rattle.pattern_read.proofs.PatBegins.{is_sign, on_signed, sign_alone, no_pattern, no_pattern_end, pat_refused}
use Rattle.pattern_read.specs.Cursor.{Readable}

pub leaf_variable : (c : Context) (ws : Readable) (at : ℕ) (n : Numbered) (name : List ℕ) → (s : StandsAt ws at n) → n.token.kind ≡ k.Variable → name ≡ s.word.chars → Gives closed (pat_in c) ws at (Ok (record { at = n.token.span; tree = p.Var n.token.span name; height = 1 }, at + 1))
leaf_variable c ws at n name s h e = remade (λ u. same_pat s.place (ap (λ v. p.Var v s.word.chars) s.place ∙ ap (λ v. p.Var n.token.span v) (sym e)) refl) (at_token s.is (on_variable c s.word (drop (at + 1) ws.words) (s.kind ∙ h)))

pub leaf_string : (c : Context) (ws : Readable) (at : ℕ) (n : Numbered) (chars : List ℕ) → (s : StandsAt ws at n) → n.token.kind ≡ k.Str → chars ≡ s.word.chars → Gives closed (pat_in c) ws at (Ok (record { at = n.token.span; tree = p.Str n.token.span chars; height = 1 }, at + 1))
leaf_string c ws at n chars s h e = remade (λ u. same_pat s.place (ap (λ v. p.Str v s.word.chars) s.place ∙ ap (λ v. p.Str n.token.span v) (sym e)) refl) (at_token s.is (on_string c s.word (drop (at + 1) ws.words) (s.kind ∙ h)))

pub leaf_wild : (c : Context) (ws : Readable) (at : ℕ) (n : Numbered) → (s : StandsAt ws at n) → n.token.kind ≡ k.Underscore → Gives closed (pat_in c) ws at (Ok (record { at = n.token.span; tree = p.Wild n.token.span; height = 1 }, at + 1))
leaf_wild c ws at n s h = remade (λ u. same_pat s.place (ap (λ v. p.Wild v) s.place) refl) (at_token s.is (on_wild c s.word (drop (at + 1) ws.words) (s.kind ∙ h)))

pub leaf_integer : (c : Context) (ws : Readable) (at : ℕ) (n : Numbered) (z : ℤ) → (s : StandsAt ws at n) → n.token.kind ≡ k.Integer → z ≡ pos n.value → Gives closed (pat_in c) ws at (Ok (record { at = n.token.span; tree = p.Int n.token.span z; height = 1 }, at + 1))
leaf_integer c ws at n z s h e = remade (λ u. same_pat s.place (ap (λ v. p.Int v (pos s.word.number)) s.place ∙ ap (λ v. p.Int n.token.span (pos v)) (s.number ∙ ap (number_of n) h) ∙ ap (λ v. p.Int n.token.span v) (sym e)) refl) (at_token s.is (on_integer c s.word (drop (at + 1) ws.words) (s.kind ∙ h)))

pub leaf_character : (c : Context) (ws : Readable) (at : ℕ) (n : Numbered) → (s : StandsAt ws at n) → n.token.kind ≡ k.Character → Gives closed (pat_in c) ws at (Ok (record { at = n.token.span; tree = p.Char n.token.span n.number; height = 1 }, at + 1))
leaf_character c ws at n s h = remade (λ u. same_pat s.place (ap (λ v. p.Char v s.word.number) s.place ∙ ap (λ v. p.Char n.token.span v) (s.number ∙ ap (number_of n) h)) refl) (at_token s.is (on_character c s.word (drop (at + 1) ws.words) (s.kind ∙ h)))

pub leaf_atom : (c : Context) (ws : Readable) (at : ℕ) (n : Numbered) → (s : StandsAt ws at n) → n.token.kind ≡ k.Atom → Gives closed (pat_in c) ws at (Ok (record { at = n.token.span; tree = p.Atom n.token.span n.number; height = 1 }, at + 1))
leaf_atom c ws at n s h = remade (λ u. same_pat s.place (ap (λ v. p.Atom v s.word.number) s.place ∙ ap (λ v. p.Atom n.token.span v) (s.number ∙ ap (number_of n) h)) refl) (at_token s.is (on_atom c s.word (drop (at + 1) ws.words) (s.kind ∙ h)))

sign_is : {kind : TokenKind} → (kind ≡ k.Plus ⊎ kind ≡ k.Minus) → is_sign kind ≡ true
sign_is (inl e) = ap is_sign e
sign_is (inr e) = ap is_sign e

pub sign_end : (c : Context) (ws : Readable) (at : ℕ) (n : Numbered) → StandsAt ws at n → (n.token.kind ≡ k.Plus ⊎ n.token.kind ≡ k.Minus) → NoMark k.Integer (drop (at + 1) ws.words) → IsRefused ws.limits {X = Placed Pattern} closed (pat_in c) (drop at ws.words) (drop (at + 1) ws.words) Syntax
sign_end c ws at n s h m = subst (λ v. IsRefused ws.limits {X = Placed Pattern} closed (pat_in c) v (drop (at + 1) ws.words) Syntax) (sym s.is) (sign_alone c s.word (drop (at + 1) ws.words) (ap is_sign s.kind ∙ sign_is h) m)

pub sign_ok : (c : Context) (ws : Readable) (at : ℕ) (n i : Numbered) (z y : ℤ) → StandsAt ws at n → StandsAt ws (at + 1) i → (n.token.kind ≡ k.Plus ⊎ n.token.kind ≡ k.Minus) → i.token.kind ≡ k.Integer → Signed n.token.kind i.value z → y ≡ z → Gives closed (pat_in c) ws at (Ok (record { at = n.token.span; tree = p.Int n.token.span y; height = 1 }, at + 2))
sign_ok c ws at n i z y s t h g m q =
    let e : at + 1 + 1 ≡ at + 2 = omega arith in
    let f : drop at ws.words ≡ s.word ∷ (t.word ∷ drop (at + 2) ws.words) = s.is ∙ ap (λ v. s.word ∷ v) (t.is ∙ ap (λ v. t.word ∷ drop v ws.words) e) in
    let v : t.word.number ≡ i.value = t.number ∙ ap (number_of i) g in
    let d : Signed s.word.kind t.word.number z = subst (λ u. Signed s.word.kind u z) (sym v) (subst (λ u. Signed u i.value z) (sym s.kind) m) in
    remade (λ u. same_pat s.place (ap (λ w. p.Int w z) s.place ∙ ap (λ w. p.Int n.token.span w) (sym q)) refl) (at_token f (on_signed c s.word t.word (drop (at + 2) ws.words) z (ap is_sign s.kind ∙ sign_is h) (t.kind ∙ g) d))

-- a kind that is none of those with which a pattern begins
begins_none : (kind : TokenKind) → opens_pattern kind ≡ false → (kind ≡ k.Variable → ⊥) → (kind ≡ k.Underscore → ⊥) → (kind ≡ k.Integer → ⊥) → (kind ≡ k.Plus → ⊥) → (kind ≡ k.Minus → ⊥) → (kind ≡ k.Character → ⊥) → (kind ≡ k.Atom → ⊥) → (kind ≡ k.Str → ⊥) → begins_pattern kind ≡ false
begins_none k.Variable o a b c d e f g h = absurd (a refl)
begins_none k.Underscore o a b c d e f g h = absurd (b refl)
begins_none k.Integer o a b c d e f g h = absurd (c refl)
begins_none k.Plus o a b c d e f g h = absurd (d refl)
begins_none k.Minus o a b c d e f g h = absurd (e refl)
begins_none k.Character o a b c d e f g h = absurd (f refl)
begins_none k.Atom o a b c d e f g h = absurd (g refl)
begins_none k.Str o a b c d e f g h = absurd (h refl)
begins_none k.LeftParen o a b c d e f g h = cc
begins_none k.LeftBrace o a b c d e f g h = cc
begins_none k.LeftBracket o a b c d e f g h = cc
begins_none k.LeftBits o a b c d e f g h = cc
begins_none _ o a b c d e f g h = refl

pub leaf_none : (c : Context) (ws : Readable) (at : ℕ) (n : Numbered) → StandsAt ws at n → opens_pattern n.token.kind ≡ false → (n.token.kind ≡ k.Variable → ⊥) → (n.token.kind ≡ k.Underscore → ⊥) → (n.token.kind ≡ k.Integer → ⊥) → (n.token.kind ≡ k.Plus → ⊥) → (n.token.kind ≡ k.Minus → ⊥) → (n.token.kind ≡ k.Character → ⊥) → (n.token.kind ≡ k.Atom → ⊥) → (n.token.kind ≡ k.Str → ⊥) → IsRefused ws.limits {X = Placed Pattern} closed (pat_in c) (drop at ws.words) (drop at ws.words) Syntax
leaf_none c ws at n s o v u i pl mi ch a st = refused_at s.is (pat_refused c (s.word ∷ drop (at + 1) ws.words) (no_pattern s.word (drop (at + 1) ws.words) (ap begins_pattern s.kind ∙ begins_none n.token.kind o v u i pl mi ch a st)))

pub pat_end : (c : Context) (ws : Readable) (at : ℕ) → drop at ws.words ≡ [] → IsRefused ws.limits {X = Placed Pattern} closed (pat_in c) (drop at ws.words) (drop at ws.words) Syntax
pat_end c ws at e = refused_at e (pat_refused c [] no_pattern_end)
