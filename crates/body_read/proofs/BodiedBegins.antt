-- How an expression of a body or a guard begins, and where only a deeper module could go on.
use Rattle.std.proofs.Common.{append_assoc, ◌≡◌, ℕ, ◌+◌, ◌≤◌, ◌<◌, max, Bool, true, false, if◌then◌else◌, IsTrue, List, [], ◌∷◌, ◌++◌, drop, Some, refl, sym, ap, subst, ◌∙◌, arith, pos, ◌⊎◌, inl, inr}
use Rattle.erl_syntax.specs.declared.span.Span.{Span}
use Rattle.erl_syntax.specs.declared.token.TokenKind.{TokenKind}
use Rattle.erl_syntax.specs.declared.token.TokenKind.TheVariants as k
use Rattle.erl_syntax.specs.declared.expr.Expr.{Expr}
use Rattle.erl_syntax.specs.declared.expr.Expr.TheVariants as x
use Rattle.erl_syntax.specs.declared.expr.Prefix.{Prefix}
use Rattle.erl_syntax.specs.declared.pattern.Pattern.{Pattern}
use Rattle.erl_syntax.specs.declared.pattern.Pattern.TheVariants as p
use Rattle.erl_syntax.specs.declared.clause.Guard.{Guard}
use Rattle.erl_syntax.specs.declared.clause.Item.{Item}
use Rattle.erl_syntax.specs.declared.clause.Alt.{Alt, roll-Alt}
use Rattle.erl_syntax.specs.declared.clause.Branch.{Branch, roll-Branch}
use Rattle.erl_syntax.specs.Word.{Word}
use Rattle.erl_syntax.specs.Operators.{prefix_of}
use Rattle.erl_syntax.specs.Grammar.{Mode, InBody, InGuard, InSize, Context, under, inside, in_mode, Limits, Goal, Mark, Of, Level, Tail, Operand, Exprs, MoreExprs, Body, MoreItems, Alts, MoreAlts, Branches, MoreBranches, level, operand, prefix, atom, macro, tuple, list, case, receive, if_, common, variable, integer, character, string, bits, paren, no_call, unqualified, no_exprs, exprs, end_exprs, no_list, no_bits, pattern, not_same, pat_variable, unguarded, tests, end_tests, body, end_items, item_value, alts, end_alts, alt, branches, end_branches, branch, Spells, takes, begins, this, expands}
use Rattle.pattern_read.specs.declared.placed.Placed.{Placed}
use Rattle.body_read.specs.declared.site.Site.{Site}
use Rattle.body_read.specs.declared.site.Site.TheVariants.{Body as AsBody, Guard as AsGuard}
use Rattle.pattern_read.specs.declared.fault.Cause.{Cause}
use Rattle.pattern_read.specs.declared.fault.Cause.TheVariants.{Syntax, TooDeep}
use Rattle.pattern_read.specs.declared.cursor.Numbered.{Numbered}
use Rattle.pattern_read.specs.Cursor.{StandsAt}
use Rattle.pattern_read.specs.Reading.{IsRefused, SameHead, closed}
use Rattle.pattern_read.specs.Wanted.{exprs_in, NoMark, no_mark_end, no_mark}
use Rattle.body_read.specs.WantedExprs.{mode_of, common_in}
use Rattle.body_read.specs.Sites.{begins_block, begins_guard, begins_in, NoneBegins, none_at_end, none_at, FirstIn, only_deeper_in, none_first}
use Rattle.pattern_read.proofs.Passing.{spells_at}
use Rattle.pattern_read.proofs.Operands.{some_place, some_word, level_completed, level_with, operand_spells, deeper, deeper_wide, mark_word, close_paren, module_word}
use Rattle.pattern_read.proofs.Calls.{level_ends}
use Rattle.pattern_read.proofs.Depths.{Begun}
use Rattle.pattern_read.specs.Cursor.{Readable}

-- ---- How an expression begins

prefix_begins : (kind : TokenKind) (op : Prefix) → prefix_of kind ≡ Some op → IsTrue (begins_guard kind)
prefix_begins k.Plus op h = refl
prefix_begins k.Minus op h = refl
prefix_begins k.Bnot op h = refl
prefix_begins k.Not op h = refl
prefix_begins _ op h = cc

-- in a body or a guard, or in a body only
abbrev Begins : Mode → TokenKind → Type 0
Begins m kind = IsTrue (begins_guard kind) ⊎ ((m ≡ InBody) × IsTrue (begins_block kind))

operand_begins : (l : Limits) (c : Context) (at : Span) (e : Expr) (d : ℕ) (gs : List Goal) (j : Word) (w : List Word) → Spells l (Of (Operand c at e d) ∷ gs) (j ∷ w) → Begins c.mode j.kind
operand_begins l c at e d gs j w (expands _ (prefix c_0 at_0 e_0 d_0 t_0 op_0 ay_0 y_0 dy_0 q0_0 q0_1 q0_2 q0_3 q0_4) (this z)) = inl (prefix_begins _ _ q0_0)
operand_begins l c at e d gs j w (expands _ (atom c_0 at_0 e_0 d_0 t_0 q0_0 q0_1) (this z)) = inl (ap begins_guard q0_0)
operand_begins l c at e d gs j w (expands _ (macro c_0 at_0 e_0 d_0 t_0 q0_0 q0_1) (begins t kk ka z)) = inl (ap begins_guard kk)
operand_begins l c at e d gs j w (expands _ (tuple c_0 at_0 e_0 d_0 ys_0 dys_0 q0_0 q0_1 q0_2 q0_3) (begins t kk ka z)) = inl (ap begins_guard kk)
operand_begins l c at e d gs j w (expands _ (list c_0 at_0 e_0 d_0 q0_0 q0_1) (begins t kk ka z)) = inl (ap begins_guard kk)
operand_begins l c at e d gs j w (expands _ (case c_0 at_0 e_0 d_0 ay_0 y_0 dy_0 alts_0 da_0 q0_0 q0_1 q0_2 q0_3 q0_4) (begins t kk ka z)) = inr (q0_0, ap begins_block kk)
operand_begins l c at e d gs j w (expands _ (receive c_0 at_0 e_0 d_0 alts_0 da_0 q0_0 q0_1 q0_2 q0_3 q0_4) (begins t kk ka z)) = inr (q0_0, ap begins_block kk)
operand_begins l c at e d gs j w (expands _ (if_ c_0 at_0 e_0 d_0 bs_0 db_0 q0_0 q0_1 q0_2 q0_3 q0_4) (begins t kk ka z)) = inr (q0_0, ap begins_block kk)
operand_begins l c at e d gs j w (expands _ (common c_0 at_0 e_0 d_0) (expands _ (variable c_1 at_1 e_1 d_1 t_1 q1_0 q1_1 q1_2 q1_3) (this z))) = inl (ap begins_guard q1_0)
operand_begins l c at e d gs j w (expands _ (common c_0 at_0 e_0 d_0) (expands _ (integer c_1 at_1 e_1 d_1 t_1 q1_0 q1_1 q1_2 q1_3) (this z))) = inl (ap begins_guard q1_0)
operand_begins l c at e d gs j w (expands _ (common c_0 at_0 e_0 d_0) (expands _ (character c_1 at_1 e_1 d_1 t_1 q1_0 q1_1 q1_2 q1_3) (this z))) = inl (ap begins_guard q1_0)
operand_begins l c at e d gs j w (expands _ (common c_0 at_0 e_0 d_0) (expands _ (string c_1 at_1 e_1 d_1 t_1 q1_0 q1_1 q1_2 q1_3 q1_4) (this z))) = inl (ap begins_guard q1_1)
operand_begins l c at e d gs j w (expands _ (common c_0 at_0 e_0 d_0) (expands _ (bits c_1 at_1 e_1 d_1 q1_0 q1_1) (begins t kk ka z))) = inl (ap begins_guard kk)
operand_begins l c at e d gs j w (expands _ (common c_0 at_0 e_0 d_0) (expands _ (paren c_1 at_1 e_1 d_1 ay_1 q1_0) (begins t kk ka z))) = inl (ap begins_guard kk)

level_begins : (l : Limits) (n : ℕ) (c : Context) (at : Span) (e : Expr) (d : ℕ) (gs : List Goal) (j : Word) (w : List Word) → Spells l (Of (Level n c at e d) ∷ gs) (j ∷ w) → Begins c.mode j.kind
level_begins l n c at e d gs j w (expands _ (level n_0 c_0 at_0 y dy e_0 d_0 i) z) = level_begins l (n + 1) c at y dy (Of (Tail n c at y dy e d) ∷ gs) j w z
level_begins l n c at e d gs j w (expands _ (operand n_0 c_0 at_0 e_0 d_0 i) z) = operand_begins l c at e d gs j w z

either : (a b : Bool) → IsTrue a ⊎ IsTrue b → IsTrue (if a then true else b)
either true b h = refl
either false b (inl h) = cc
either false b (inr h) = h

no_body : {m : Mode} → m ≡ InGuard → m ≡ InBody → ⊥
no_body a b = cc

begins_site : (s : Site) (m : Mode) (kind : TokenKind) → m ≡ mode_of s → Begins m kind → IsTrue (begins_in s kind)
begins_site AsBody m kind h (inl b) = either (begins_block kind) (begins_guard kind) (inr b)
begins_site AsBody m kind h (inr b) = either (begins_block kind) (begins_guard kind) (inl b.1)
begins_site AsGuard m kind h (inl b) = b
begins_site AsGuard m kind h (inr b) = absurd (no_body h b.0)

not_both : {a : Bool} → a ≡ false → IsTrue a → ⊥
not_both a b = cc

-- a token with which no expression of the site begins
pub none_level : (l : Limits) (s : Site) (n : ℕ) (c : Context) (at : Span) (e : Expr) (d : ℕ) (gs : List Goal) (rest w : List Word) → c.mode ≡ mode_of s → NoneBegins s rest → SameHead w rest → Spells l (Of (Level n c at e d) ∷ gs) w → ⊥
none_level l s n c at e d gs _ [] m none_at_end h z = level_ends l n c at e d gs z
none_level l s n c at e d gs _ (t ∷ w) m none_at_end h z = h
none_level l s n c at e d gs _ [] m (none_at j rest b) h z = h
none_level l s n c at e d gs _ (t ∷ w) m (none_at j rest b) h z = not_both b (begins_site s c.mode j.kind m (let P : Word → Type 0 = λ v. Begins c.mode v.kind in subst P h (level_begins l n c at e d gs t w z)))

-- ---- Why no expression stands there

pub first_at_end : (s : Site) (rest : List Word) → rest ≡ [] → FirstIn s rest Syntax
first_at_end s rest e = let P : List Word → Type 0 = λ v. FirstIn s v Syntax in subst P (sym e) (none_first [] none_at_end)

pub first_deep : (s : Site) (all : Readable) (at : ℕ) (n : Numbered) → StandsAt all at n → begins_in s n.token.kind ≡ true → FirstIn s (drop at all.words) TooDeep
first_deep s all at n w h = let P : List Word → Type 0 = λ v. FirstIn s v TooDeep in subst P (sym w.is) (only_deeper_in w.word (drop (at + 1) all.words) (ap (begins_in s) w.kind ∙ h))

pub first_other : (s : Site) (all : Readable) (at : ℕ) (n : Numbered) → StandsAt all at n → begins_in s n.token.kind ≡ false → FirstIn s (drop at all.words) Syntax
first_other s all at n w h = let P : List Word → Type 0 = λ v. FirstIn s v Syntax in subst P (sym w.is) (none_first (w.word ∷ drop (at + 1) all.words) (none_at w.word (drop (at + 1) all.words) (ap (begins_in s) w.kind ∙ h)))

-- ---- Spellings of blocks

abbrev some_item : Item
some_item = record { patterns = []; value = x.Var some_place [] }

abbrev no_guard : Guard
no_guard = record { alternatives = [] }

abbrev pub some_alt : Alt
some_alt = roll-Alt (record { at = some_place; pattern = p.Var some_place []; guard = no_guard; body = some_item ∷ [] })

abbrev some_tests : List (List Expr)
some_tests = (x.Var some_place [] ∷ []) ∷ []

abbrev pub some_branch : Branch
some_branch = roll-Branch (record { at = some_place; guard = record { alternatives = some_tests }; body = some_item ∷ [] })

-- a clause's tokens, and the end
abbrev pub clause_words : List Word → List Word
clause_words w = some_word ∷ (mark_word k.Arrow ∷ (some_word ∷ (mark_word k.End ∷ w)))

body_spells : (l : Limits) (c : Context) (gs : List Goal) (w : List Word) → Spells l gs w → Spells l (Of (Body c (some_item ∷ []) 1) ∷ gs) (some_word ∷ w)
body_spells l c gs w d = expands _ (body c some_item 1 [] 0 1 refl) (expands _ (item_value c some_item 1 some_place (x.Var some_place []) refl) (level_completed 0 l c (Of (MoreItems c [] 0) ∷ gs) w (expands _ (end_items c 0 refl) d)))

pub alts_spell : (l : Limits) (c : Context) (gs : List Goal) (w : List Word) → Spells l gs w → Spells l (Of (Alts c (some_alt ∷ []) 1) ∷ gs) (clause_words w)
alts_spell l c gs w d =
    let q : Pattern = p.Var some_place [] in
    expands _ (alts c some_alt 1 [] 0 1 refl) (expands _ (alt c some_alt 1 some_place q 1 no_guard 0 (some_item ∷ []) 1 refl refl)
    (expands _ (pattern (in_mode InSize c) some_place q 1 q 1) (expands _ (pat_variable (in_mode InSize c) some_place q 1 some_word refl refl refl refl) (this (expands _ (not_same (in_mode InSize c) some_place q 1 q 1 refl refl)
    (expands _ (unguarded c no_guard 0 refl refl) (takes (mark_word k.Arrow) refl
    (body_spells l c (Of (MoreAlts c [] 0) ∷ gs) (mark_word k.End ∷ w) (expands _ (end_alts c 0 refl) (takes (mark_word k.End) refl d))))))))))

pub branches_spell : (l : Limits) (c : Context) (gs : List Goal) (w : List Word) → Spells l gs w → Spells l (Of (Branches c (some_branch ∷ []) 1) ∷ gs) (clause_words w)
branches_spell l c gs w d =
    expands _ (branches c some_branch 1 [] 0 1 refl) (expands _ (branch c some_branch 1 some_place some_tests 1 (some_item ∷ []) 1 refl refl)
    (expands _ (tests (in_mode InGuard c) some_place (x.Var some_place []) 1 [] [] 0 1 refl)
    (level_completed 0 l (in_mode InGuard c) _ _ (expands _ (end_tests (in_mode InGuard c) 0 refl) (takes (mark_word k.Arrow) refl
    (body_spells l c (Of (MoreBranches c [] 0) ∷ gs) (mark_word k.End ∷ w) (expands _ (end_branches c 0 refl) (takes (mark_word k.End) refl d))))))))

-- ---- A token with which an operand begins, at limits where it fits

-- as a segment's value too
pub record BegunCommon (most : Limits) (c : Context) (j : Word) : Type 0 where
  pub tree : Placed Expr
  pub more : List Word
  pub spelled : (gs : List Goal) (w : List Word) → Spells (deeper most (c.deep + 1) (c.open_ + 1)) gs w → Spells (deeper most (c.deep + 1) (c.open_ + 1)) (common_in c tree ++ gs) (j ∷ (more ++ w))

as_operand : {most : Limits} (c : Context) (j : Word) → BegunCommon most c j → Begun most c j
as_operand c j g = record { tree = g.tree; more = g.more; spelled = λ gs w d. expands _ (common c _ _ _) (g.spelled gs w d) }

pub begun_bits : {most : Limits} (c : Context) (j : Word) → (c.mode ≡ InSize → ⊥) → j.kind ≡ k.LeftBits → BegunCommon most c j
begun_bits c j m h = record { tree = record { at = j.at; tree = x.Bits j.at []; height = 1 }; more = mark_word k.RightBits ∷ []; spelled = λ gs w d. expands _ (bits c j.at _ _ m (omega arith)) (begins j h refl (expands _ (no_bits c j.at _ _ refl refl) (takes (mark_word k.RightBits) refl d))) }

pub begun_paren : {most : Limits} (c : Context) (j : Word) → j.kind ≡ k.LeftParen → BegunCommon most c j
begun_paren {most = most} c j h = record { tree = record { at = j.at; tree = x.Var some_place []; height = 1 }; more = some_word ∷ (close_paren ∷ []); spelled = λ gs w d. expands _ (paren c _ _ _ some_place (omega arith)) (begins j h refl (level_completed 0 (deeper most (c.deep + 1) (c.open_ + 1)) (inside c) (Mark k.RightParen ∷ gs) (close_paren ∷ w) (takes close_paren refl d))) }

begun_prefix : {most : Limits} (c : Context) (j : Word) (op : Prefix) → prefix_of j.kind ≡ Some op → Begun most c j
begun_prefix {most = most} c j op h = record {
  tree = record { at = j.at; tree = x.Unary j.at op (x.Var some_place [] ∷ []); height = 2 };
  more = some_word ∷ [];
  spelled = λ gs w d. expands _ (prefix c _ _ _ j op some_place (x.Var some_place []) 1 h refl (omega arith) refl refl) (this (operand_spells (deeper most (c.deep + 1) (c.open_ + 1)) (under c) gs w d));
}

pub begun_tuple : {most : Limits} (c : Context) (j : Word) → (c.mode ≡ InSize → ⊥) → j.kind ≡ k.LeftBrace → Begun most c j
begun_tuple c j m h = record { tree = record { at = j.at; tree = x.Tuple j.at []; height = 1 }; more = mark_word k.RightBrace ∷ []; spelled = λ gs w d. expands _ (tuple c j.at _ _ [] 0 m (omega arith) refl refl) (begins j h refl (expands _ (no_exprs k.RightBrace (inside (under c)) 0 refl) (takes (mark_word k.RightBrace) refl d))) }

pub begun_list : {most : Limits} (c : Context) (j : Word) → (c.mode ≡ InSize → ⊥) → j.kind ≡ k.LeftBracket → Begun most c j
begun_list c j m h = record { tree = record { at = j.at; tree = x.List j.at [] []; height = 1 }; more = mark_word k.RightBracket ∷ []; spelled = λ gs w d. expands _ (list c j.at _ _ m (omega arith)) (begins j h refl (expands _ (no_list c j.at _ _ refl refl) (takes (mark_word k.RightBracket) refl d))) }

pub begun_case : {most : Limits} (c : Context) (j : Word) → c.mode ≡ InBody → j.kind ≡ k.Case → Begun most c j
begun_case {most = most} c j m h = record {
  tree = record { at = j.at; tree = x.Case j.at (x.Var some_place [] ∷ []) (some_alt ∷ []); height = 2 };
  more = some_word ∷ (mark_word k.Of ∷ clause_words []);
  spelled = λ gs w d. expands _ (case c j.at (x.Case j.at (x.Var some_place [] ∷ []) (some_alt ∷ [])) 2 some_place (x.Var some_place []) 1 (some_alt ∷ []) 1 m (omega arith) (omega arith) refl refl) (begins j h refl
      (level_completed 0 (deeper most (c.deep + 1) (c.open_ + 1)) (inside (under c)) (Mark k.Of ∷ Of (Alts (inside (under c)) (some_alt ∷ []) 1) ∷ gs) (mark_word k.Of ∷ clause_words w) (takes (mark_word k.Of) refl (alts_spell (deeper most (c.deep + 1) (c.open_ + 1)) (inside (under c)) gs w d))));
}

pub begun_receive : {most : Limits} (c : Context) (j : Word) → c.mode ≡ InBody → j.kind ≡ k.Receive → Begun most c j
begun_receive {most = most} c j m h = record {
  tree = record { at = j.at; tree = x.Receive j.at (some_alt ∷ []); height = 2 };
  more = clause_words [];
  spelled = λ gs w d. expands _ (receive c j.at (x.Receive j.at (some_alt ∷ [])) 2 (some_alt ∷ []) 1 m (omega arith) (omega arith) refl refl) (begins j h refl (alts_spell (deeper most (c.deep + 1) (c.open_ + 1)) (inside (under c)) gs w d));
}

pub begun_if : {most : Limits} (c : Context) (j : Word) → c.mode ≡ InBody → j.kind ≡ k.If → Begun most c j
begun_if {most = most} c j m h = record {
  tree = record { at = j.at; tree = x.If j.at (some_branch ∷ []); height = 2 };
  more = clause_words [];
  spelled = λ gs w d. expands _ (if_ c j.at (x.If j.at (some_branch ∷ [])) 2 (some_branch ∷ []) 1 m (omega arith) (omega arith) refl refl) (begins j h refl (branches_spell (deeper most (c.deep + 1) (c.open_ + 1)) (inside (under c)) gs w d));
}

pub begun_block : {most : Limits} (c : Context) (j : Word) (kind : TokenKind) → c.mode ≡ InBody → j.kind ≡ kind → IsTrue (begins_block kind) → Begun most c j
begun_block c j k.Case m h b = begun_case c j m h
begun_block c j k.Receive m h b = begun_receive c j m h
begun_block c j k.If m h b = begun_if c j m h
begun_block c j _ m h b = cc

begun_guard : {most : Limits} (c : Context) (j : Word) (kind : TokenKind) → (c.mode ≡ InSize → ⊥) → j.kind ≡ kind → IsTrue (begins_guard kind) → Begun most c j
begun_guard c j k.Plus m h b = begun_prefix c j _ (ap prefix_of h)
begun_guard c j k.Minus m h b = begun_prefix c j _ (ap prefix_of h)
begun_guard c j k.Bnot m h b = begun_prefix c j _ (ap prefix_of h)
begun_guard c j k.Not m h b = begun_prefix c j _ (ap prefix_of h)
begun_guard c j k.Atom m h b = record { tree = record { at = j.at; tree = x.Atom j.at j.number; height = 1 }; more = []; spelled = λ gs w d. expands _ (atom c _ _ _ j h refl) (this (expands _ (no_call c j.at j.number _ _) (expands _ (unqualified c j.at _ _ _ refl refl) d))) }
begun_guard c j k.Question m h b = record { tree = record { at = j.at; tree = x.ModuleName j.at; height = 1 }; more = module_word ∷ []; spelled = λ gs w d. expands _ (macro c _ _ _ module_word refl refl) (begins j h refl (this (expands _ (unqualified c j.at _ _ _ refl refl) d))) }
begun_guard c j k.LeftBrace m h b = begun_tuple c j m h
begun_guard c j k.LeftBracket m h b = begun_list c j m h
begun_guard c j k.Variable m h b = record { tree = record { at = j.at; tree = x.Var j.at j.chars; height = 1 }; more = []; spelled = λ gs w d. expands _ (common c _ _ _) (expands _ (variable c _ _ _ j h refl refl refl) (this d)) }
begun_guard c j k.Integer m h b = record { tree = record { at = j.at; tree = x.Int j.at (pos j.number); height = 1 }; more = []; spelled = λ gs w d. expands _ (common c _ _ _) (expands _ (integer c _ _ _ j h refl refl refl) (this d)) }
begun_guard c j k.Character m h b = record { tree = record { at = j.at; tree = x.Char j.at j.number; height = 1 }; more = []; spelled = λ gs w d. expands _ (common c _ _ _) (expands _ (character c _ _ _ j h refl refl refl) (this d)) }
begun_guard c j k.Str m h b = record { tree = record { at = j.at; tree = x.Str j.at j.chars; height = 1 }; more = []; spelled = λ gs w d. expands _ (common c _ _ _) (expands _ (string c _ _ _ j m h refl refl refl) (this d)) }
begun_guard c j k.LeftBits m h b = as_operand c j (begun_bits c j m h)
begun_guard c j k.LeftParen m h b = as_operand c j (begun_paren c j h)
begun_guard c j _ m h b = cc

pub not_size : (s : Site) (m : Mode) → m ≡ mode_of s → m ≡ InSize → ⊥
not_size AsBody m a b = cc
not_size AsGuard m a b = cc

one_of : (a b : Bool) → IsTrue (if a then true else b) → IsTrue a ⊎ IsTrue b
one_of true b h = inl refl
one_of false b h = inr h

begun_body : {most : Limits} (c : Context) (j : Word) → c.mode ≡ InBody → IsTrue (begins_block j.kind) ⊎ IsTrue (begins_guard j.kind) → Begun most c j
begun_body c j m (inl b) = begun_block c j j.kind m refl b
begun_body c j m (inr b) = begun_guard c j j.kind (not_size AsBody c.mode m) refl b

pub begun_in : {most : Limits} (s : Site) (c : Context) (j : Word) → c.mode ≡ mode_of s → IsTrue (begins_in s j.kind) → Begun most c j
begun_in AsBody c j m b = begun_body c j m (one_of (begins_block j.kind) (begins_guard j.kind) b)
begun_in AsGuard c j m b = begun_guard c j j.kind (not_size AsGuard c.mode m) refl b

-- ---- A first expression that is too deep

exprs_depth : (l : Limits) (close : TokenKind) (c : Context) (ys : List Expr) (d : ℕ) (gs : List Goal) (j : Word) (w : List Word) → (j.kind ≡ close → ⊥) → Spells l (Of (Exprs close c ys d) ∷ gs) (j ∷ w) → c.deep ≤ l.trees
exprs_depth l close c _ d gs j w n (expands _ (exprs close_0 c_0 ay y dy ys dys d_0 q0 q1) z) = q0
exprs_depth l close c _ d gs j w n (expands _ (no_exprs close_0 c_0 d_0 q0) (takes t kk z)) = absurd (n kk)

stops_exprs : (most : Limits) (l : Limits) (close : TokenKind) (c : Context) (ys : List Expr) (d : ℕ) (gs : List Goal) (j : Word) (rest w : List Word) → (j.kind ≡ close → ⊥) → most.trees < c.deep → l.trees ≡ most.trees → SameHead w (j ∷ rest) → Spells l (Of (Exprs close c ys d) ∷ gs) w → ⊥
stops_exprs most l close c ys d gs j rest [] n b i s z = s
stops_exprs most l close c ys d gs j rest (t ∷ w) n b i s z = let a : c.deep ≤ l.trees = exprs_depth l close c ys d gs t w (λ e. n (ap (λ v. v.kind) (sym s) ∙ e)) z in omega arith

exprs_deep : {most : Limits} (close : TokenKind) (c : Context) (j : Word) (rest : List Word) → (j.kind ≡ close → ⊥) → Begun most c j → most.trees < c.deep → IsRefused most {X = List Expr × ℕ} closed (exprs_in close c) (j ∷ rest) (j ∷ rest) TooDeep
exprs_deep {most = most} close c j rest n g h = record {
  front = [];
  whole = refl;
  tree = ([], 0);
  more = mark_word close ∷ [];
  goes_on = λ l v gs w d. expands _ (no_exprs close c 0 refl) (takes (mark_word close) refl d);
  stops = λ l i r gs w f s d. stops_exprs most l close c r.0 r.1 gs j rest w n h i.trees s d;
  excused = record {
    limits = deeper most (c.deep + 1) (c.open_ + 1);
    wide = deeper_wide most (c.deep + 1) (c.open_ + 1);
    allows = (refl, refl);
    first = j;
    behind = rest;
    begins = refl;
    tree = (g.tree.tree ∷ [], max g.tree.height 0);
    more = g.more ++ (mark_word close ∷ []);
    goes_on = λ gs w d. expands _ (exprs close c g.tree.at g.tree.tree g.tree.height [] 0 (max g.tree.height 0) (omega arith) refl)
        (spells_at (ap (λ v. j ∷ v) (sym (append_assoc g.more (mark_word close ∷ []) w)))
        (level_with 0 (deeper most (c.deep + 1) (c.open_ + 1)) c g.tree (j ∷ g.more) (λ hs v e. g.spelled hs v e) (Of (MoreExprs close c [] 0) ∷ gs) (mark_word close ∷ w) (expands _ (end_exprs close c 0 refl) (takes (mark_word close) refl d))));
  };
}

none_exprs : (l : Limits) (s : Site) (close : TokenKind) (c : Context) (ys : List Expr) (d : ℕ) (gs : List Goal) (rest w : List Word) → c.mode ≡ mode_of s → NoMark close rest → NoneBegins s rest → SameHead w rest → Spells l (Of (Exprs close c ys d) ∷ gs) w → ⊥
none_exprs l s close c _ d gs rest w m n b h (expands _ (exprs close_0 c_0 ay y dy ys dys d_0 q0 q1) z) = none_level l s 0 c ay y dy (Of (MoreExprs close c ys dys) ∷ gs) rest w m b h z
none_exprs l s close c _ d gs _ w m no_mark_end b h (expands _ (no_exprs close_0 c_0 d_0 q0) (takes t kk z)) = h
none_exprs l s close c _ d gs _ w m (no_mark j rest n) b h (expands _ (no_exprs close_0 c_0 d_0 q0) (takes t kk z)) = n (ap (λ v. v.kind) (sym h) ∙ kk)

no_exprs_there : {most : Limits} (s : Site) (close : TokenKind) (c : Context) (rest : List Word) → c.mode ≡ mode_of s → NoMark close rest → NoneBegins s rest → IsRefused most {X = List Expr × ℕ} closed (exprs_in close c) rest rest Syntax
no_exprs_there s close c rest m n b = record {
  front = [];
  whole = refl;
  tree = ([], 0);
  more = mark_word close ∷ [];
  goes_on = λ l v gs w d. expands _ (no_exprs close c 0 refl) (takes (mark_word close) refl d);
  stops = λ l i r gs w f h d. none_exprs l s close c r.0 r.1 gs rest w m n b h d;
  excused = tt;
}

head_not : {kind : TokenKind} {j : Word} {rest : List Word} → NoMark kind (j ∷ rest) → j.kind ≡ kind → ⊥
head_not (no_mark j rest f) = f

pub exprs_first_in : {most : Limits} (s : Site) (close : TokenKind) (c : Context) (rest : List Word) (why : Cause) → c.mode ≡ mode_of s → FirstIn s rest why → NoMark close rest → most.trees < c.deep → IsRefused most {X = List Expr × ℕ} closed (exprs_in close c) rest rest why
exprs_first_in s close c _ _ m (only_deeper_in j rest b) n h = exprs_deep close c j rest (head_not n) (begun_in s c j m b) h
exprs_first_in s close c _ _ m (none_first rest b) n h = no_exprs_there s close c rest m n b
