-- The laws of forms, names and clauses.
use Rattle.std.proofs.Common.{◌≡◌, ℕ, true, false, List, [], ◌∷◌, ◌++◌, refl, sym, ap, subst, ◌∙◌, arith, inl, inr}
use Rattle.std.specs.List.{Contains}
use Rattle.erl_syntax.specs.declared.span.Span.{Span}
use Rattle.erl_syntax.specs.declared.token.TokenKind.TheVariants as k
use Rattle.erl_syntax.specs.declared.module.Head.{Head}
use Rattle.erl_syntax.specs.declared.module.Name.{Name}
use Rattle.erl_syntax.specs.declared.module.Function.{Function}
use Rattle.erl_syntax.specs.Word.{Word}
use Rattle.erl_syntax.specs.Names.{module_word, export_word, skipped_words, IsAttribute}
use Rattle.erl_syntax.specs.Grammar.{Limits, Goal, Mark, The, Of, Forms, no_forms, head, export, skipped, any_form, function, end_skipped, clause, Spells, takes, begins, this, expands}
use Rattle.clause_read.specs.declared.forms.ModuleForms.{ModuleForms}
use Rattle.pattern_read.specs.declared.fault.Cause.TheVariants.{Syntax, UnknownAttribute}
use Rattle.pattern_read.specs.Reading.{Passes, IsRefused, Follows, SameHead, nothing}
use Rattle.pattern_read.specs.Wanted.{NoMark, no_mark_end, no_mark}
use Rattle.clause_read.specs.WantedForms.{anything, forms_in, skipped_in, names_in, with_head, with_exports, with_skipped}
use Rattle.pattern_read.proofs.Operands.{mark_word, some_place}
use Rattle.clause_read.proofs.FormWords.{is_among, apart}
use Rattle.clause_read.proofs.FormSteps.{Opens, Meaning, meaning, word_as, word_is, marked, worded}

abbrev pub no_more_forms : ModuleForms
no_more_forms = record { heads = []; exports = []; functions = [] }

-- nothing stands behind the last form
pub forms_end : (l : Limits) (gs : List Goal) (w : List Word) → Spells l gs w → Spells l (forms_in no_more_forms ++ gs) w
forms_end l gs w d = expands _ no_forms d

pub opens_forms : {most : Limits} → Opens most forms_in
opens_forms = record { tree = no_more_forms; words = []; spelled = λ l v gs w d. forms_end l gs w d }

-- ---- Behind `-` and an atom

-- what is left of each kind of form behind its attribute
abbrev pub module_left : Meaning × ModuleForms → List Goal
module_left = marked k.LeftParen (worded k.Atom (λ m. marked k.RightParen (marked k.FullStop forms_in)))

abbrev pub exports_left : List Name → ModuleForms → List Goal
exports_left ns = marked k.RightParen (marked k.FullStop forms_in)

abbrev pub export_left : List Name × ModuleForms → List Goal
export_left = marked k.LeftParen (marked k.LeftBracket (λ p. names_in p.0 ++ exports_left p.0 p.1))

abbrev pub skipped_left : Unit {0} × ModuleForms → List Goal
skipped_left p = skipped_in p.0 ++ forms_in p.1

abbrev pub head_at : Word → Meaning → Head
head_at j m = record { at = j.at; name = m.number }

-- what a form that begins with the word j and then t can be
data AfterMinus (l : Limits) (gs : List Goal) (j t : Word) (w : List Word) (r : ModuleForms) : Type 0 where
  of_head : (m : Meaning) (u : ModuleForms) → t.kind ≡ k.Atom → t.chars ≡ module_word → r ≡ with_head (head_at j m) u → Spells l (module_left (m, u) ++ gs) w → AfterMinus l gs j t w r
  of_export : (ns : List Name) (u : ModuleForms) → t.kind ≡ k.Atom → t.chars ≡ export_word → r ≡ with_exports ns u → Spells l (export_left (ns, u) ++ gs) w → AfterMinus l gs j t w r
  of_skipped : t.kind ≡ k.Atom → Contains skipped_words t.chars → Spells l (skipped_left (tt, r) ++ gs) w → AfterMinus l gs j t w r
  of_any : l.any_attribute ≡ true → t.kind ≡ k.Atom → (IsAttribute t.chars → ⊥) → AfterMinus l gs j t w r

head_word : (l : Limits) (n : Word) (u : ModuleForms) (gs : List Goal) (w : List Word) → n.kind ≡ k.Atom → Spells l (Mark k.LeftParen ∷ The n ∷ Mark k.RightParen ∷ Mark k.FullStop ∷ (forms_in u ++ gs)) w → Spells l (module_left (meaning n, u) ++ gs) w
head_word l n u gs w h d = let P : Word → Type 0 = λ v. Spells l (Mark k.LeftParen ∷ The v ∷ Mark k.RightParen ∷ Mark k.FullStop ∷ (forms_in u ++ gs)) w in subst P (word_is n k.Atom h) d

head_is : (h : Head) (j n : Word) (at : Span) (hs : List Head) (es : List Name) (fs : List Function) → at ≡ j.at → h ≡ record { at = at; name = n.number } →
    (let P : ModuleForms = record { heads = h ∷ hs; exports = es; functions = fs } in P) ≡ with_head (head_at j (meaning n)) (record { heads = hs; exports = es; functions = fs })
head_is h j n at hs es fs a e =
    let f : Head → ModuleForms = λ v. record { heads = v ∷ hs; exports = es; functions = fs } in
    let g : Span → Head = λ v. record { at = v; name = n.number } in
    ap f (e ∙ ap g a)

exports_are : (hs : List Head) (es ns more : List Name) (fs : List Function) → es ≡ ns ++ more →
    (let P : ModuleForms = record { heads = hs; exports = es; functions = fs } in P) ≡ with_exports ns (record { heads = hs; exports = more; functions = fs })
exports_are hs es ns more fs e = let f : List Name → ModuleForms = λ v. record { heads = hs; exports = v; functions = fs } in ap f e

minus_no_atom : (j : Word) → j.kind ≡ k.Minus → j.kind ≡ k.Atom → ⊥
minus_no_atom j h a = let e : k.Minus ≡ k.Atom = sym h ∙ a in cc

minus_forth : (l : Limits) (hs : List Head) (es : List Name) (fs : List Function) (gs : List Goal) (j t : Word) (w : List Word) → Follows l anything gs → j.kind ≡ k.Minus →
    Spells l (Of (Forms hs es fs) ∷ gs) (j ∷ t ∷ w) → AfterMinus l gs j t w (record { heads = hs; exports = es; functions = fs })
minus_forth l _ _ _ gs j t w f h (expands _ no_forms z) = absurd (f j (t ∷ w) refl z)
minus_forth l _ es fs gs j t w f h (expands _ (head hd hs es_0 fs_0 at t_0 n q0 q1 q2 q3) (begins j_0 kk ka (this z))) =
    of_head (meaning n) (record { heads = hs; exports = es; functions = fs }) q0 q1 (head_is hd j n at hs es fs ka q3) (head_word l n (record { heads = hs; exports = es; functions = fs }) gs w q2 z)
minus_forth l hs es fs gs j t w f h (expands _ (export hs_0 es_0 ns more fs_0 t_0 q0 q1 q2) (takes j_0 kk (this z))) =
    of_export ns (record { heads = hs; exports = more; functions = fs }) q0 q1 (exports_are hs es ns more fs q2) z
minus_forth l hs es fs gs j t w f h (expands _ (skipped hs_0 es_0 fs_0 t_0 q0 q1) (takes j_0 kk (this z))) = of_skipped q0 q1 z
minus_forth l hs es fs gs j t w f h (expands _ (any_form hs_0 es_0 fs_0 t_0 q0 q1 q2) (takes j_0 kk (this z))) = of_any q0 q1 q2
minus_forth l hs es _ gs j t w f h (expands _ (function hs_0 es_0 fn fs cl cls q0) (expands _ (clause cl_0 t_0 ps dp g dg is di q1 q2) (this z))) = absurd (minus_no_atom j h q1)

minus_alone : (l : Limits) (hs : List Head) (es : List Name) (fs : List Function) (gs : List Goal) (j : Word) → Follows l anything gs → j.kind ≡ k.Minus → Spells l (Of (Forms hs es fs) ∷ gs) (j ∷ []) → ⊥
minus_alone l _ _ _ gs j f h (expands _ no_forms z) = f j [] refl z
minus_alone l _ es fs gs j f h (expands _ (head hd hs es_0 fs_0 at t_0 n q0 q1 q2 q3) (begins j_0 kk ka z)) = elim z [ ]
minus_alone l hs es fs gs j f h (expands _ (export hs_0 es_0 ns more fs_0 t_0 q0 q1 q2) (takes j_0 kk z)) = elim z [ ]
minus_alone l hs es fs gs j f h (expands _ (skipped hs_0 es_0 fs_0 t_0 q0 q1) (takes j_0 kk z)) = elim z [ ]
minus_alone l hs es fs gs j f h (expands _ (any_form hs_0 es_0 fs_0 t_0 q0 q1 q2) (takes j_0 kk z)) = elim z [ ]
minus_alone l hs es _ gs j f h (expands _ (function hs_0 es_0 fn fs cl cls q0) (expands _ (clause cl_0 t_0 ps dp g dg is di q1 q2) (this z))) = minus_no_atom j h q1

no_skipped_module : Contains skipped_words module_word → ⊥
no_skipped_module i = let e : false ≡ true = (is_among skipped_words module_word false refl).1 i in cc

no_skipped_export : Contains skipped_words export_word → ⊥
no_skipped_export i = let e : false ≡ true = (is_among skipped_words export_word false refl).1 i in cc

module_no_export : (chars : List ℕ) → chars ≡ module_word → chars ≡ export_word → ⊥
module_no_export chars a b = apart module_word export_word refl (sym a ∙ b)

skipped_no_module : (chars : List ℕ) → chars ≡ module_word → Contains skipped_words chars → ⊥
skipped_no_module chars a i = let P : List ℕ → Type 0 = λ v. Contains skipped_words v in no_skipped_module (subst P a i)

skipped_no_export : (chars : List ℕ) → chars ≡ export_word → Contains skipped_words chars → ⊥
skipped_no_export chars a i = let P : List ℕ → Type 0 = λ v. Contains skipped_words v in no_skipped_export (subst P a i)

module_case : {l : Limits} {gs : List Goal} {j t : Word} {w : List Word} {r : ModuleForms} → t.chars ≡ module_word → AfterMinus l gs j t w r →
    (p : Meaning × ModuleForms) × (r ≡ with_head (head_at j p.0) p.1) × Spells l (module_left p ++ gs) w
module_case m (of_head n u q0 q1 q2 z) = ((n, u), q2, z)
module_case {t = t} m (of_export ns u q0 q1 q2 z) = absurd (module_no_export t.chars m q1)
module_case {t = t} m (of_skipped q0 q1 z) = absurd (skipped_no_module t.chars m q1)
module_case m (of_any q0 q1 q2) = absurd (q2 (inl m))

pub on_module : {most : Limits} (j t : Word) (rest : List Word) → j.kind ≡ k.Minus → t.kind ≡ k.Atom → t.chars ≡ module_word →
    Passes most {X = ModuleForms} {Y = Meaning × ModuleForms} anything forms_in (j ∷ t ∷ rest) module_left rest (λ p. with_head (head_at j p.0) p.1)
on_module j t rest h a m = record {
  front = j ∷ t ∷ [];
  whole = refl;
  back = λ l v p gs w d. expands _ (head (head_at j p.0) p.1.heads p.1.exports p.1.functions j.at t (word_as k.Atom p.0) a m refl refl) (begins j h refl (this d));
  forth = λ l r gs w f s d. module_case m (minus_forth l r.heads r.exports r.functions gs j t w f h d);
}

export_case : {l : Limits} {gs : List Goal} {j t : Word} {w : List Word} {r : ModuleForms} → t.chars ≡ export_word → AfterMinus l gs j t w r →
    (p : List Name × ModuleForms) × (r ≡ with_exports p.0 p.1) × Spells l (export_left p ++ gs) w
export_case {t = t} m (of_head n u q0 q1 q2 z) = absurd (module_no_export t.chars q1 m)
export_case m (of_export ns u q0 q1 q2 z) = ((ns, u), q2, z)
export_case {t = t} m (of_skipped q0 q1 z) = absurd (skipped_no_export t.chars m q1)
export_case m (of_any q0 q1 q2) = absurd (q2 (inr (inl m)))

pub on_export : {most : Limits} (j t : Word) (rest : List Word) → j.kind ≡ k.Minus → t.kind ≡ k.Atom → t.chars ≡ export_word →
    Passes most {X = ModuleForms} {Y = List Name × ModuleForms} anything forms_in (j ∷ t ∷ rest) export_left rest (λ p. with_exports p.0 p.1)
on_export j t rest h a m = record {
  front = j ∷ t ∷ [];
  whole = refl;
  back = λ l v p gs w d. expands _ (export p.1.heads (p.0 ++ p.1.exports) p.0 p.1.exports p.1.functions t a m refl) (takes j h (this d));
  forth = λ l r gs w f s d. export_case m (minus_forth l r.heads r.exports r.functions gs j t w f h d);
}

skipped_case : {l : Limits} {gs : List Goal} {j t : Word} {w : List Word} {r : ModuleForms} → Contains skipped_words t.chars → AfterMinus l gs j t w r →
    (p : Unit {0} × ModuleForms) × (r ≡ with_skipped p.0 p.1) × Spells l (skipped_left p ++ gs) w
skipped_case {t = t} m (of_head n u q0 q1 q2 z) = absurd (skipped_no_module t.chars q1 m)
skipped_case {t = t} m (of_export ns u q0 q1 q2 z) = absurd (skipped_no_export t.chars q1 m)
skipped_case {r = r} m (of_skipped q0 q1 z) = ((tt, r), refl, z)
skipped_case m (of_any q0 q1 q2) = absurd (q2 (inr (inr m)))

pub on_skipped : {most : Limits} (j t : Word) (rest : List Word) → j.kind ≡ k.Minus → t.kind ≡ k.Atom → Contains skipped_words t.chars →
    Passes most {X = ModuleForms} {Y = Unit {0} × ModuleForms} anything forms_in (j ∷ t ∷ rest) skipped_left rest (λ p. with_skipped p.0 p.1)
on_skipped j t rest h a m = record {
  front = j ∷ t ∷ [];
  whole = refl;
  back = λ l v p gs w d. expands _ (skipped p.1.heads p.1.exports p.1.functions t a m) (takes j h (this d));
  forth = λ l r gs w f s d. skipped_case m (minus_forth l r.heads r.exports r.functions gs j t w f h d);
}

-- `-module(m).`, of words that have no place
abbrev module_atom : Word
module_atom = record { kind = k.Atom; at = some_place; number = 0; chars = module_word }

module_words : List Word
module_words = module_atom ∷ mark_word k.LeftParen ∷ mark_word k.Atom ∷ mark_word k.RightParen ∷ mark_word k.FullStop ∷ []

module_spells : (l : Limits) (j : Word) (gs : List Goal) (w : List Word) → j.kind ≡ k.Minus → Spells l gs w → Spells l (forms_in (with_head (head_at j (meaning (mark_word k.Atom))) no_more_forms) ++ gs) (j ∷ (module_words ++ w))
unfolding module_words
module_spells l j gs w h d = expands _ (head (head_at j (meaning (mark_word k.Atom))) [] [] [] j.at module_atom (mark_word k.Atom) refl refl refl refl) (begins j h refl (this (takes (mark_word k.LeftParen) refl (this (takes (mark_word k.RightParen) refl (takes (mark_word k.FullStop) refl (forms_end l gs w d)))))))

no_atom_here : {l : Limits} {gs : List Goal} {j t : Word} {w : List Word} {r : ModuleForms} → (t.kind ≡ k.Atom → ⊥) → AfterMinus l gs j t w r → ⊥
no_atom_here n (of_head m u q0 q1 q2 z) = n q0
no_atom_here n (of_export ns u q0 q1 q2 z) = n q0
no_atom_here n (of_skipped q0 q1 z) = n q0
no_atom_here n (of_any q0 q1 q2) = n q1

no_atom_stops : (l : Limits) (r : ModuleForms) (gs : List Goal) (j : Word) (rest w : List Word) → j.kind ≡ k.Minus → NoMark k.Atom rest → Follows l anything gs → SameHead w rest → Spells l (forms_in r ++ gs) (j ∷ w) → ⊥
no_atom_stops l r gs j _ [] h no_mark_end f s d = minus_alone l r.heads r.exports r.functions gs j f h d
no_atom_stops l r gs j _ (t ∷ w) h no_mark_end f s d = s
no_atom_stops l r gs j _ [] h (no_mark u rest n) f s d = s
no_atom_stops l r gs j _ (t ∷ w) h (no_mark u rest n) f s d = no_atom_here (λ e. n (ap (λ v. v.kind) (sym s) ∙ e)) (minus_forth l r.heads r.exports r.functions gs j t w f h d)

pub no_attribute : {most : Limits} (j : Word) (rest : List Word) → j.kind ≡ k.Minus → NoMark k.Atom rest → IsRefused most {X = ModuleForms} anything forms_in (j ∷ rest) rest Syntax
no_attribute j rest h n = record {
  front = j ∷ [];
  whole = refl;
  tree = with_head (head_at j (meaning (mark_word k.Atom))) no_more_forms;
  more = module_words;
  goes_on = λ l v gs w d. module_spells l j gs w h d;
  stops = λ l i r gs w f s d. no_atom_stops l r gs j rest w h n f s d;
  excused = tt;
}

unknown_here : {l : Limits} {gs : List Goal} {j t : Word} {w : List Word} {r : ModuleForms} → l.any_attribute ≡ false → (IsAttribute t.chars → ⊥) → AfterMinus l gs j t w r → ⊥
unknown_here i n (of_head m u q0 q1 q2 z) = n (inl q1)
unknown_here i n (of_export ns u q0 q1 q2 z) = n (inr (inl q1))
unknown_here i n (of_skipped q0 q1 z) = n (inr (inr q1))
unknown_here i n (of_any q0 q1 q2) = let e : false ≡ true = sym i ∙ q0 in cc

unknown_stops : (l : Limits) (r : ModuleForms) (gs : List Goal) (j t : Word) (rest w : List Word) → l.any_attribute ≡ false → j.kind ≡ k.Minus → (IsAttribute t.chars → ⊥) → Follows l anything gs → SameHead w (t ∷ rest) → Spells l (forms_in r ++ gs) (j ∷ w) → ⊥
unknown_stops l r gs j t rest [] i h n f s d = s
unknown_stops l r gs j t rest (u ∷ w) i h n f s d = unknown_here i (λ e. n (let P : Word → Type 0 = λ v. IsAttribute v.chars in subst P s e)) (minus_forth l r.heads r.exports r.functions gs j u w f h d)

pub unknown_attribute : {most : Limits} (j t : Word) (rest : List Word) → j.kind ≡ k.Minus → t.kind ≡ k.Atom → (IsAttribute t.chars → ⊥) → IsRefused most {X = ModuleForms} anything forms_in (j ∷ t ∷ rest) (t ∷ rest) UnknownAttribute
unknown_attribute {most = most} j t rest h a n = record {
  front = j ∷ [];
  whole = refl;
  tree = with_head (head_at j (meaning (mark_word k.Atom))) no_more_forms;
  more = module_words;
  goes_on = λ l v gs w d. module_spells l j gs w h d;
  stops = λ l i r gs w f s d. unknown_stops l r gs j t rest w i h n f s d;
  excused = record {
    limits = record { trees = most.trees; brackets = most.brackets; any_attribute = true; any_type = false };
    wide = record { trees = omega arith; brackets = omega arith };
    allows = refl;
    first = t;
    behind = rest;
    begins = refl;
    tree = no_more_forms;
    more = mark_word k.FullStop ∷ [];
    goes_on = λ gs w d. expands _ (any_form [] [] [] t refl a n) (takes j h (this (expands _ end_skipped (takes (mark_word k.FullStop) refl (forms_end _ gs w d)))));
  };
}

-- ---- The end

none_forth : (l : Limits) (hs : List Head) (es : List Name) (fs : List Function) (gs : List Goal) → Spells l (Of (Forms hs es fs) ∷ gs) [] → ((let P : ModuleForms = record { heads = hs; exports = es; functions = fs } in P) ≡ no_more_forms) × Spells l gs []
none_forth l _ _ _ gs (expands _ no_forms z) = (refl, z)
none_forth l _ es fs gs (expands _ (head hd hs es_0 fs_0 at t_0 n q0 q1 q2 q3) z) = elim z [ ]
none_forth l hs es fs gs (expands _ (export hs_0 es_0 ns more fs_0 t_0 q0 q1 q2) z) = elim z [ ]
none_forth l hs es fs gs (expands _ (skipped hs_0 es_0 fs_0 t_0 q0 q1) z) = elim z [ ]
none_forth l hs es fs gs (expands _ (any_form hs_0 es_0 fs_0 t_0 q0 q1 q2) z) = elim z [ ]
none_forth l hs es _ gs (expands _ (function hs_0 es_0 fn fs cl cls q0) (expands _ (clause cl_0 t_0 ps dp g dg is di q1 q2) z)) = elim z [ ]

at_no_word : (l : Limits) (r : ModuleForms) (gs : List Goal) (w : List Word) → SameHead w [] → Spells l (forms_in r ++ gs) w → (u : Unit {0}) × (r ≡ no_more_forms) × Spells l (nothing u ++ gs) w
at_no_word l r gs [] s d = let m = none_forth l r.heads r.exports r.functions gs d in (tt, m.0, m.1)
at_no_word l r gs (t ∷ w) s d = absurd s

pub on_no_forms : {most : Limits} → Passes most {X = ModuleForms} {Y = Unit {0}} anything forms_in [] nothing [] (λ u. no_more_forms)
on_no_forms = record {
  front = [];
  whole = refl;
  back = λ l v u gs w d. forms_end l gs w d;
  forth = λ l r gs w f s d. at_no_word l r gs w s d;
}
