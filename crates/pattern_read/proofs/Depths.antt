-- Where only a deeper module could go on.
use Rattle.std.proofs.Common.{append_assoc, ◌≡◌, ◌≢◌, ℕ, ◌+◌, ◌≤◌, ◌<◌, max, true, false, IsTrue, List, [], ◌∷◌, ◌++◌, drop, Some, None, refl, sym, ap, subst, ◌∙◌, arith, pos, ◌⊎◌, inl, inr}
use Rattle.std.proofs.lemmas.Bool.{cases_lt}
use Rattle.erl_syntax.specs.declared.span.Span.{Span}
use Rattle.erl_syntax.specs.declared.token.TokenKind.{TokenKind}
use Rattle.erl_syntax.specs.declared.token.TokenKind.TheVariants as k
use Rattle.erl_syntax.specs.declared.expr.Expr.{Expr}
use Rattle.erl_syntax.specs.declared.expr.Expr.TheVariants as x
use Rattle.erl_syntax.specs.declared.expr.Op.{Op}
use Rattle.erl_syntax.specs.declared.expr.Op.TheVariants as o
use Rattle.erl_syntax.specs.declared.expr.Prefix.{Prefix}
use Rattle.erl_syntax.specs.Word.{Word}
use Rattle.erl_syntax.specs.Operators.{operator_of, level_of, prefix_of}
use Rattle.erl_syntax.specs.Grammar.{InBody, InSize, Context, under, inside, Limits, right_of, Goal, Mark, Of, Level, Tail, Exprs, MoreExprs, level, operand, alone, right, left, prefix, atom, macro, common, variable, integer, character, paren, no_call, unqualified, no_exprs, exprs, end_exprs, Spells, takes, begins, this, expands}
use Rattle.pattern_read.specs.declared.placed.Placed.{Placed}
use Rattle.pattern_read.specs.declared.fault.Cause.TheVariants.{Syntax, TooDeep}
use Rattle.pattern_read.specs.Reading.{IsRefused, GoesOn, Follows, SameHead, closed}
use Rattle.pattern_read.specs.Cursor.{Readable, StandsAt}
use Rattle.pattern_read.specs.declared.cursor.Numbered.{Numbered}
use Rattle.pattern_read.specs.Wanted.{extends, begins_size, tail_in, operand_in, exprs_in, NoMark, no_mark_end, no_mark, BeginsNoSize, NoSize, at_end, at_other, FirstCause, only_deeper, no_size}
use Rattle.pattern_read.proofs.Passing.{spells_at}
use Rattle.pattern_read.proofs.Levels.{extends_with}
use Rattle.pattern_read.proofs.Operands.{some_place, some_word, level_completed, level_with, operand_spells, deeper, deeper_wide, mark_word, close_paren, module_word, no_size_operand}

-- ---- An operator, with a left side that leaves no room

stops_operator : (most : Limits) (n : ℕ) (c : Context) (y : Placed Expr) (j : Word) (rest : List Word) (op : Op) → operator_of j.kind ≡ Some op → level_of op ≡ n → most.trees < c.deep + y.height → (l : Limits) → l.trees ≡ most.trees → (e : Expr) (d : ℕ) (gs : List Goal) (w : List Word) → Follows l (extends n) gs → SameHead w (j ∷ rest) → Spells l (Of (Tail n c y.at y.tree y.height e d) ∷ gs) w → ⊥
stops_operator most n c y j rest op h a b l i e d gs [] f s z = s
stops_operator most n c y j rest op h a b l i e d gs (t ∷ w) f s (expands _ (alone n_0 c_0 at_0 y_0 dy_0 e_0 d_0 q0 q1) z) = f t w (let P : Word → Type 0 = λ v. IsTrue (extends n v.kind) in subst P (sym s) (extends_with n j.kind h (omega (arith, a)))) z
stops_operator most n c y j rest op h a b l i e d gs (t ∷ w) f s (expands _ (right n_0 c_0 at_0 y_0 dy_0 e_0 d_0 u op_0 az r dr q0 q1 q2 q3 q4 q5 q6) (this z)) = omega arith
stops_operator most n c y j rest op h a b l i e d gs (t ∷ w) f s (expands _ (left n_0 c_0 at_0 y_0 dy_0 e_0 d_0 u op_0 az r dr q0 q1 q2 q3) (this z)) = omega arith

operator_goes_on : {most : Limits} (n : ℕ) (c : Context) (y : Placed Expr) (j : Word) (rest : List Word) (op : Op) → operator_of j.kind ≡ Some op → level_of op ≡ n → (c.mode ≡ InBody ⊎ op ≢ o.Send) → (n < 4) ⊎ (4 ≤ n) → GoesOn most {X = Expr × ℕ} (tail_in n c y) [] (j ∷ rest) TooDeep
operator_goes_on {most = most} n c y j rest op h a m (inl i) = record {
  limits = deeper most (c.deep + y.height) 0;
  wide = deeper_wide most (c.deep + y.height) 0;
  allows = (refl, refl);
  first = j;
  behind = rest;
  begins = refl;
  tree = (x.Binary y.at op (y.tree ∷ x.Var some_place [] ∷ []), max y.height 1 + 1);
  more = some_word ∷ [];
  goes_on = λ gs w d. expands _ (right n c y.at y.tree y.height (x.Binary y.at op (y.tree ∷ x.Var some_place [] ∷ [])) (max y.height 1 + 1) j op some_place (x.Var some_place []) 1 i h a m (omega arith) refl refl) (this (level_completed (right_of n) (deeper most (c.deep + y.height) 0) (under c) gs w d));
}
operator_goes_on {most = most} n c y j rest op h a m (inr i) = record {
  limits = deeper most (c.deep + y.height) 0;
  wide = deeper_wide most (c.deep + y.height) 0;
  allows = (refl, refl);
  first = j;
  behind = rest;
  begins = refl;
  tree = (x.Binary y.at op (y.tree ∷ x.Var some_place [] ∷ []), max y.height 1 + 1);
  more = some_word ∷ [];
  goes_on = λ gs w d.
      let e : Expr = x.Binary y.at op (y.tree ∷ x.Var some_place [] ∷ []) in
      expands _ (left n c y.at y.tree y.height e (max y.height 1 + 1) j op some_place (x.Var some_place []) 1 i h a (omega arith))
      (this (level_completed (n + 1) (deeper most (c.deep + y.height) 0) (under c) (Of (Tail n c y.at e (max y.height 1 + 1) e (max y.height 1 + 1)) ∷ gs) w (expands _ (alone n c _ _ _ _ _ refl refl) d)));
}

pub operator_too_deep : {most : Limits} (n : ℕ) (c : Context) (y : Placed Expr) (j : Word) (rest : List Word) (op : Op) → operator_of j.kind ≡ Some op → level_of op ≡ n → (c.mode ≡ InBody ⊎ op ≢ o.Send) → most.trees < c.deep + y.height →
    IsRefused most {X = Expr × ℕ} (extends n) (tail_in n c y) (j ∷ rest) (j ∷ rest) TooDeep
operator_too_deep {most = most} n c y j rest op h a m b = record {
  front = [];
  whole = refl;
  tree = (y.tree, y.height);
  more = [];
  goes_on = λ l v gs w d. expands _ (alone n c _ _ _ _ _ refl refl) d;
  stops = λ l i r gs w f s d. stops_operator most n c y j rest op h a b l i.trees r.0 r.1 gs w f s d;
  excused = operator_goes_on n c y j rest op h a m (cases_lt n 4);
}

-- ---- A first expression that is too deep

-- A token with which an operand of a size begins, at limits where it fits.
pub record Begun (most : Limits) (c : Context) (j : Word) : Type 0 where
  pub tree : Placed Expr
  pub more : List Word
  pub spelled : (gs : List Goal) (w : List Word) → Spells (deeper most (c.deep + 1) (c.open_ + 1)) gs w → Spells (deeper most (c.deep + 1) (c.open_ + 1)) (operand_in c tree ++ gs) (j ∷ (more ++ w))

begun_prefix : {most : Limits} (c : Context) (j : Word) (op : Prefix) → prefix_of j.kind ≡ Some op → Begun most c j
begun_prefix {most = most} c j op h = record {
  tree = record { at = j.at; tree = x.Unary j.at op (x.Var some_place [] ∷ []); height = 2 };
  more = some_word ∷ [];
  spelled = λ gs w d. expands _ (prefix c _ _ _ j op some_place (x.Var some_place []) 1 h refl (omega arith) refl refl) (this (operand_spells (deeper most (c.deep + 1) (c.open_ + 1)) (under c) gs w d));
}

begun : {most : Limits} (c : Context) (j : Word) (kind : TokenKind) → j.kind ≡ kind → IsTrue (begins_size kind) → Begun most c j
begun {most = most} c j k.Plus h b = begun_prefix c j _ (ap prefix_of h)
begun {most = most} c j k.Minus h b = begun_prefix c j _ (ap prefix_of h)
begun {most = most} c j k.Bnot h b = begun_prefix c j _ (ap prefix_of h)
begun {most = most} c j k.Not h b = begun_prefix c j _ (ap prefix_of h)
begun {most = most} c j k.Atom h b = record { tree = record { at = j.at; tree = x.Atom j.at j.number; height = 1 }; more = []; spelled = λ gs w d. expands _ (atom c _ _ _ j h refl) (this (expands _ (no_call c j.at j.number _ _) (expands _ (unqualified c j.at _ _ _ refl refl) d))) }
begun {most = most} c j k.Question h b = record { tree = record { at = j.at; tree = x.ModuleName j.at; height = 1 }; more = module_word ∷ []; spelled = λ gs w d. expands _ (macro c _ _ _ module_word refl refl) (begins j h refl (this (expands _ (unqualified c j.at _ _ _ refl refl) d))) }
begun {most = most} c j k.Variable h b = record { tree = record { at = j.at; tree = x.Var j.at j.chars; height = 1 }; more = []; spelled = λ gs w d. expands _ (common c _ _ _) (expands _ (variable c _ _ _ j h refl refl refl) (this d)) }
begun {most = most} c j k.Integer h b = record { tree = record { at = j.at; tree = x.Int j.at (pos j.number); height = 1 }; more = []; spelled = λ gs w d. expands _ (common c _ _ _) (expands _ (integer c _ _ _ j h refl refl refl) (this d)) }
begun {most = most} c j k.Character h b = record { tree = record { at = j.at; tree = x.Char j.at j.number; height = 1 }; more = []; spelled = λ gs w d. expands _ (common c _ _ _) (expands _ (character c _ _ _ j h refl refl refl) (this d)) }
begun {most = most} c j k.LeftParen h b = record { tree = record { at = j.at; tree = x.Var some_place []; height = 1 }; more = some_word ∷ (close_paren ∷ []); spelled = λ gs w d. expands _ (common c _ _ _) (expands _ (paren c _ _ _ some_place (omega arith)) (begins j h refl (level_completed 0 (deeper most (c.deep + 1) (c.open_ + 1)) (inside c) (Mark k.RightParen ∷ gs) (close_paren ∷ w) (takes close_paren refl d)))) }
begun {most = most} c j _ h b = cc

exprs_depth : (l : Limits) (close : TokenKind) (c : Context) (ys : List Expr) (d : ℕ) (gs : List Goal) (j : Word) (w : List Word) → (j.kind ≡ close → ⊥) → Spells l (Of (Exprs close c ys d) ∷ gs) (j ∷ w) → c.deep ≤ l.trees
exprs_depth l close c _ d gs j w n (expands _ (exprs close_0 c_0 ay y dy ys dys d_0 q0 q1) z) = q0
exprs_depth l close c _ d gs j w n (expands _ (no_exprs close_0 c_0 d_0 q0) (takes t kk z)) = absurd (n kk)

stops_exprs : (most : Limits) (l : Limits) (close : TokenKind) (c : Context) (ys : List Expr) (d : ℕ) (gs : List Goal) (j : Word) (rest w : List Word) → (j.kind ≡ close → ⊥) → most.trees < c.deep → l.trees ≡ most.trees → SameHead w (j ∷ rest) → Spells l (Of (Exprs close c ys d) ∷ gs) w → ⊥
stops_exprs most l close c ys d gs j rest [] n b i s z = s
stops_exprs most l close c ys d gs j rest (t ∷ w) n b i s z = let a : c.deep ≤ l.trees = exprs_depth l close c ys d gs t w (λ e. n (ap (λ v. v.kind) (sym s) ∙ e)) z in omega arith

pub exprs_too_deep : {most : Limits} (close : TokenKind) (c : Context) (j : Word) (rest : List Word) → (j.kind ≡ close → ⊥) → IsTrue (begins_size j.kind) → most.trees < c.deep → IsRefused most {X = List Expr × ℕ} closed (exprs_in close c) (j ∷ rest) (j ∷ rest) TooDeep
exprs_too_deep {most = most} close c j rest n b h = let g : Begun most c j = begun c j j.kind refl b in record {
  front = [];
  whole = refl;
  tree = ([], 0);
  more = mark_word close ∷ [];
  goes_on = λ l v gs w d. expands _ (no_exprs close c 0 refl) (takes (mark_word close) refl d);
  stops = λ l i r gs w f s d. stops_exprs most l close c r.0 r.1 gs j rest w n h i.trees s d;
  excused = record {
    limits = deeper most (c.deep + 1) (c.open_ + 1);
    wide = deeper_wide most (c.deep + 1) (c.open_ + 1);
    allows = (refl, refl);
    first = j;
    behind = rest;
    begins = refl;
    tree = (g.tree.tree ∷ [], max g.tree.height 0);
    more = g.more ++ (mark_word close ∷ []);
    goes_on = λ gs w d. expands _ (exprs close c g.tree.at g.tree.tree g.tree.height [] 0 (max g.tree.height 0) (omega arith) refl)
        (spells_at (ap (λ v. j ∷ v) (sym (append_assoc g.more (mark_word close ∷ []) w)))
        (level_with 0 (deeper most (c.deep + 1) (c.open_ + 1)) c g.tree (j ∷ g.more) (λ hs v e. g.spelled hs v e) (Of (MoreExprs close c [] 0) ∷ gs) (mark_word close ∷ w) (expands _ (end_exprs close c 0 refl) (takes (mark_word close) refl d))));
  };
}

-- ---- No expression of a size

prefix_none : (kind : TokenKind) → begins_size kind ≡ false → prefix_of kind ≡ None
prefix_none k.Plus h = cc
prefix_none k.Minus h = cc
prefix_none k.Bnot h = cc
prefix_none k.Not h = cc
prefix_none _ h = refl

begins_not : {kind other : TokenKind} → begins_size kind ≡ false → begins_size other ≡ true → kind ≡ other → ⊥
begins_not a b h = let e : _ ≡ _ = ap begins_size h in cc

pub begins_none : (j : Word) → begins_size j.kind ≡ false → BeginsNoSize j
begins_none j h = record { prefix = prefix_none j.kind h; atom = λ e. begins_not h refl e; question = λ e. begins_not h refl e; variable = λ e. begins_not h refl e; integer = λ e. begins_not h refl e; character = λ e. begins_not h refl e; paren = λ e. begins_not h refl e }

pub cause_none : (rest : List Word) → rest ≡ [] → FirstCause rest Syntax
cause_none rest e = let P : List Word → Type 0 = λ v. FirstCause v Syntax in subst P (sym e) (no_size [] at_end)

pub cause_deep : (all : Readable) (at : ℕ) (n : Numbered) → StandsAt all at n → begins_size n.token.kind ≡ true → FirstCause (drop at all.words) TooDeep
cause_deep all at n s h = let P : List Word → Type 0 = λ v. FirstCause v TooDeep in subst P (sym s.is) (only_deeper s.word (drop (at + 1) all.words) (ap begins_size s.kind ∙ h))

pub cause_other : (all : Readable) (at : ℕ) (n : Numbered) → StandsAt all at n → begins_size n.token.kind ≡ false → FirstCause (drop at all.words) Syntax
cause_other all at n s h = let P : List Word → Type 0 = λ v. FirstCause v Syntax in subst P (sym s.is) (no_size (s.word ∷ drop (at + 1) all.words) (at_other s.word (drop (at + 1) all.words) (begins_none s.word (ap begins_size s.kind ∙ h))))

level_none : (l : Limits) (n : ℕ) (c : Context) (at : Span) (e : Expr) (d : ℕ) (gs : List Goal) (rest w : List Word) → c.mode ≡ InSize → NoSize rest → SameHead w rest → Spells l (Of (Level n c at e d) ∷ gs) w → ⊥
level_none l n c at e d gs rest w m b s (expands _ (level n_0 c_0 at_0 y dy e_0 d_0 i) z) = level_none l (n + 1) c at y dy (Of (Tail n c at y dy e d) ∷ gs) rest w m b s z
level_none l n c at e d gs rest w m b s (expands _ (operand n_0 c_0 at_0 e_0 d_0 i) z) = no_size_operand l c at e d gs rest w m b s z

exprs_none : (l : Limits) (close : TokenKind) (c : Context) (ys : List Expr) (d : ℕ) (gs : List Goal) (rest w : List Word) → c.mode ≡ InSize → NoMark close rest → NoSize rest → SameHead w rest → Spells l (Of (Exprs close c ys d) ∷ gs) w → ⊥
exprs_none l close c _ d gs rest w m n b s (expands _ (exprs close_0 c_0 ay y dy ys dys d_0 q0 q1) z) = level_none l 0 c ay y dy (Of (MoreExprs close c ys dys) ∷ gs) rest w m b s z
exprs_none l close c _ d gs _ w m no_mark_end b s (expands _ (no_exprs close_0 c_0 d_0 q0) (takes t kk z)) = s
exprs_none l close c _ d gs _ w m (no_mark j rest n) b s (expands _ (no_exprs close_0 c_0 d_0 q0) (takes t kk z)) = n (ap (λ v. v.kind) (sym s) ∙ kk)

pub exprs_refused : {most : Limits} (close : TokenKind) (c : Context) (rest : List Word) → c.mode ≡ InSize → NoMark close rest → NoSize rest → IsRefused most {X = List Expr × ℕ} closed (exprs_in close c) rest rest Syntax
exprs_refused close c rest m n b = record {
  front = [];
  whole = refl;
  tree = ([], 0);
  more = mark_word close ∷ [];
  goes_on = λ l v gs w d. expands _ (no_exprs close c 0 refl) (takes (mark_word close) refl d);
  stops = λ l i r gs w f s d. exprs_none l close c r.0 r.1 gs rest w m n b s d;
  excused = tt;
}
