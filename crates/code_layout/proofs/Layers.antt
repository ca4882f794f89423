-- What a pattern's segment and a call want of an expression, by its form.
use Rattle.std.proofs.Common.{◌≡◌, ℕ, List, [], ◌∷◌, map, Option, Some, refl, sym, ap, ◌∙◌}
use Rattle.std.specs.List.{slice_get}
use Rattle.erl_syntax.specs.declared.expr.Expr.{Expr, out-Expr, roll-Expr, roll-out-Expr}
use Rattle.erl_syntax.specs.declared.expr.Expr.TheOpen as O
use Rattle.erl_syntax.specs.declared.expr.Expr.TheFolds.{fold-roll-Expr}
use Rattle.erl_syntax.specs.declared.expr.Prefix.{Prefix}
use Rattle.erl_syntax.specs.declared.expr.Prefix.TheVariants as op
use Rattle.erl_syntax.specs.declared.pattern.Pattern as syntax_pattern
use Rattle.erl_syntax.specs.declared.qual.Qual.{Qual}
use Rattle.erl_syntax.specs.declared.segment.Segment.{Segment}
use Rattle.erl_syntax.specs.declared.clause.Guard as syntax
use Rattle.erl_syntax.specs.declared.clause.Alt.{Alt}
use Rattle.erl_syntax.specs.declared.clause.Branch.{Branch as IfBranch}
use Rattle.erl_syntax.specs.declared.clause.Item.{Item}
use Rattle.term_value.specs.Value.{VInt, VAtom, VPid, VTuple, VList, VBits}
use Rattle.term_value.specs.Tree.{Target, Anything, Variable, Equal, Guard, Pattern}
use Rattle.term_value.specs.Read.{Reading, Read, Piece, Line, Branch, Qualifier, signed_target, target_of, atom_name, called_module}
use Rattle.term_value.specs.ReadTrees.{expr_layer, pattern_layer, qual_layer, alt_layer, branch_layer, guard_layer, item_layer, segment_layer}
use Rattle.code_layout.specs.Readings.{expr_read, letters_in, target_in, home_in}

abbrev Layer : Type 0
Layer = O.Expr-F Expr syntax_pattern.Pattern Qual Alt IfBranch syntax.Guard Item Segment

module _ (r : Reading) where
  letters_at : (l : Layer) → (expr_read r (roll-Expr l)).letters ≡ letters_in l
  letters_at (O.Expr::Var at name) = ap (λ (q : Read). q.letters) (fold-roll-Expr Read Pattern Qualifier Branch Branch Guard Line (List Piece) (expr_layer r) (pattern_layer r) qual_layer alt_layer branch_layer guard_layer item_layer segment_layer (O.Expr::Var at name))
  letters_at (O.Expr::Wild at) = ap (λ (q : Read). q.letters) (fold-roll-Expr Read Pattern Qualifier Branch Branch Guard Line (List Piece) (expr_layer r) (pattern_layer r) qual_layer alt_layer branch_layer guard_layer item_layer segment_layer (O.Expr::Wild at))
  letters_at (O.Expr::Int at n) = ap (λ (q : Read). q.letters) (fold-roll-Expr Read Pattern Qualifier Branch Branch Guard Line (List Piece) (expr_layer r) (pattern_layer r) qual_layer alt_layer branch_layer guard_layer item_layer segment_layer (O.Expr::Int at n))
  letters_at (O.Expr::Char at c) = ap (λ (q : Read). q.letters) (fold-roll-Expr Read Pattern Qualifier Branch Branch Guard Line (List Piece) (expr_layer r) (pattern_layer r) qual_layer alt_layer branch_layer guard_layer item_layer segment_layer (O.Expr::Char at c))
  letters_at (O.Expr::Atom at a) = ap (λ (q : Read). q.letters) (fold-roll-Expr Read Pattern Qualifier Branch Branch Guard Line (List Piece) (expr_layer r) (pattern_layer r) qual_layer alt_layer branch_layer guard_layer item_layer segment_layer (O.Expr::Atom at a))
  letters_at (O.ModuleName at) = ap (λ (q : Read). q.letters) (fold-roll-Expr Read Pattern Qualifier Branch Branch Guard Line (List Piece) (expr_layer r) (pattern_layer r) qual_layer alt_layer branch_layer guard_layer item_layer segment_layer (O.ModuleName at))
  letters_at (O.Expr::Str at cs) = ap (λ (q : Read). q.letters) (fold-roll-Expr Read Pattern Qualifier Branch Branch Guard Line (List Piece) (expr_layer r) (pattern_layer r) qual_layer alt_layer branch_layer guard_layer item_layer segment_layer (O.Expr::Str at cs))
  letters_at (O.Expr::Tuple at is) = ap (λ (q : Read). q.letters) (fold-roll-Expr Read Pattern Qualifier Branch Branch Guard Line (List Piece) (expr_layer r) (pattern_layer r) qual_layer alt_layer branch_layer guard_layer item_layer segment_layer (O.Expr::Tuple at is))
  letters_at (O.Expr::List at is tail) = ap (λ (q : Read). q.letters) (fold-roll-Expr Read Pattern Qualifier Branch Branch Guard Line (List Piece) (expr_layer r) (pattern_layer r) qual_layer alt_layer branch_layer guard_layer item_layer segment_layer (O.Expr::List at is tail))
  letters_at (O.Expr::Bits at ss) = ap (λ (q : Read). q.letters) (fold-roll-Expr Read Pattern Qualifier Branch Branch Guard Line (List Piece) (expr_layer r) (pattern_layer r) qual_layer alt_layer branch_layer guard_layer item_layer segment_layer (O.Expr::Bits at ss))
  letters_at (O.ListFor at row qs) = ap (λ (q : Read). q.letters) (fold-roll-Expr Read Pattern Qualifier Branch Branch Guard Line (List Piece) (expr_layer r) (pattern_layer r) qual_layer alt_layer branch_layer guard_layer item_layer segment_layer (O.ListFor at row qs))
  letters_at (O.BitsFor at row qs) = ap (λ (q : Read). q.letters) (fold-roll-Expr Read Pattern Qualifier Branch Branch Guard Line (List Piece) (expr_layer r) (pattern_layer r) qual_layer alt_layer branch_layer guard_layer item_layer segment_layer (O.BitsFor at row qs))
  letters_at (O.Call at home name args) = ap (λ (q : Read). q.letters) (fold-roll-Expr Read Pattern Qualifier Branch Branch Guard Line (List Piece) (expr_layer r) (pattern_layer r) qual_layer alt_layer branch_layer guard_layer item_layer segment_layer (O.Call at home name args))
  letters_at (O.Case at v alts) = ap (λ (q : Read). q.letters) (fold-roll-Expr Read Pattern Qualifier Branch Branch Guard Line (List Piece) (expr_layer r) (pattern_layer r) qual_layer alt_layer branch_layer guard_layer item_layer segment_layer (O.Case at v alts))
  letters_at (O.Receive at alts) = ap (λ (q : Read). q.letters) (fold-roll-Expr Read Pattern Qualifier Branch Branch Guard Line (List Piece) (expr_layer r) (pattern_layer r) qual_layer alt_layer branch_layer guard_layer item_layer segment_layer (O.Receive at alts))
  letters_at (O.If at bs) = ap (λ (q : Read). q.letters) (fold-roll-Expr Read Pattern Qualifier Branch Branch Guard Line (List Piece) (expr_layer r) (pattern_layer r) qual_layer alt_layer branch_layer guard_layer item_layer segment_layer (O.If at bs))
  letters_at (O.Unary at op part) = ap (λ (q : Read). q.letters) (fold-roll-Expr Read Pattern Qualifier Branch Branch Guard Line (List Piece) (expr_layer r) (pattern_layer r) qual_layer alt_layer branch_layer guard_layer item_layer segment_layer (O.Unary at op part))
  letters_at (O.Binary at op parts) = ap (λ (q : Read). q.letters) (fold-roll-Expr Read Pattern Qualifier Branch Branch Guard Line (List Piece) (expr_layer r) (pattern_layer r) qual_layer alt_layer branch_layer guard_layer item_layer segment_layer (O.Binary at op parts))

  target_at : (l : Layer) → (expr_read r (roll-Expr l)).target ≡ target_in r l
  target_at (O.Expr::Var at name) = ap (λ (q : Read). q.target) (fold-roll-Expr Read Pattern Qualifier Branch Branch Guard Line (List Piece) (expr_layer r) (pattern_layer r) qual_layer alt_layer branch_layer guard_layer item_layer segment_layer (O.Expr::Var at name))
  target_at (O.Expr::Wild at) = ap (λ (q : Read). q.target) (fold-roll-Expr Read Pattern Qualifier Branch Branch Guard Line (List Piece) (expr_layer r) (pattern_layer r) qual_layer alt_layer branch_layer guard_layer item_layer segment_layer (O.Expr::Wild at))
  target_at (O.Expr::Int at n) = ap (λ (q : Read). q.target) (fold-roll-Expr Read Pattern Qualifier Branch Branch Guard Line (List Piece) (expr_layer r) (pattern_layer r) qual_layer alt_layer branch_layer guard_layer item_layer segment_layer (O.Expr::Int at n))
  target_at (O.Expr::Char at c) = ap (λ (q : Read). q.target) (fold-roll-Expr Read Pattern Qualifier Branch Branch Guard Line (List Piece) (expr_layer r) (pattern_layer r) qual_layer alt_layer branch_layer guard_layer item_layer segment_layer (O.Expr::Char at c))
  target_at (O.Expr::Atom at a) = ap (λ (q : Read). q.target) (fold-roll-Expr Read Pattern Qualifier Branch Branch Guard Line (List Piece) (expr_layer r) (pattern_layer r) qual_layer alt_layer branch_layer guard_layer item_layer segment_layer (O.Expr::Atom at a))
  target_at (O.ModuleName at) = ap (λ (q : Read). q.target) (fold-roll-Expr Read Pattern Qualifier Branch Branch Guard Line (List Piece) (expr_layer r) (pattern_layer r) qual_layer alt_layer branch_layer guard_layer item_layer segment_layer (O.ModuleName at))
  target_at (O.Expr::Str at cs) = ap (λ (q : Read). q.target) (fold-roll-Expr Read Pattern Qualifier Branch Branch Guard Line (List Piece) (expr_layer r) (pattern_layer r) qual_layer alt_layer branch_layer guard_layer item_layer segment_layer (O.Expr::Str at cs))
  target_at (O.Expr::Tuple at is) = ap (λ (q : Read). q.target) (fold-roll-Expr Read Pattern Qualifier Branch Branch Guard Line (List Piece) (expr_layer r) (pattern_layer r) qual_layer alt_layer branch_layer guard_layer item_layer segment_layer (O.Expr::Tuple at is))
  target_at (O.Expr::List at is tail) = ap (λ (q : Read). q.target) (fold-roll-Expr Read Pattern Qualifier Branch Branch Guard Line (List Piece) (expr_layer r) (pattern_layer r) qual_layer alt_layer branch_layer guard_layer item_layer segment_layer (O.Expr::List at is tail))
  target_at (O.Expr::Bits at ss) = ap (λ (q : Read). q.target) (fold-roll-Expr Read Pattern Qualifier Branch Branch Guard Line (List Piece) (expr_layer r) (pattern_layer r) qual_layer alt_layer branch_layer guard_layer item_layer segment_layer (O.Expr::Bits at ss))
  target_at (O.ListFor at row qs) = ap (λ (q : Read). q.target) (fold-roll-Expr Read Pattern Qualifier Branch Branch Guard Line (List Piece) (expr_layer r) (pattern_layer r) qual_layer alt_layer branch_layer guard_layer item_layer segment_layer (O.ListFor at row qs))
  target_at (O.BitsFor at row qs) = ap (λ (q : Read). q.target) (fold-roll-Expr Read Pattern Qualifier Branch Branch Guard Line (List Piece) (expr_layer r) (pattern_layer r) qual_layer alt_layer branch_layer guard_layer item_layer segment_layer (O.BitsFor at row qs))
  target_at (O.Call at home name args) = ap (λ (q : Read). q.target) (fold-roll-Expr Read Pattern Qualifier Branch Branch Guard Line (List Piece) (expr_layer r) (pattern_layer r) qual_layer alt_layer branch_layer guard_layer item_layer segment_layer (O.Call at home name args))
  target_at (O.Case at v alts) = ap (λ (q : Read). q.target) (fold-roll-Expr Read Pattern Qualifier Branch Branch Guard Line (List Piece) (expr_layer r) (pattern_layer r) qual_layer alt_layer branch_layer guard_layer item_layer segment_layer (O.Case at v alts))
  target_at (O.Receive at alts) = ap (λ (q : Read). q.target) (fold-roll-Expr Read Pattern Qualifier Branch Branch Guard Line (List Piece) (expr_layer r) (pattern_layer r) qual_layer alt_layer branch_layer guard_layer item_layer segment_layer (O.Receive at alts))
  target_at (O.If at bs) = ap (λ (q : Read). q.target) (fold-roll-Expr Read Pattern Qualifier Branch Branch Guard Line (List Piece) (expr_layer r) (pattern_layer r) qual_layer alt_layer branch_layer guard_layer item_layer segment_layer (O.If at bs))
  target_at (O.Unary at op part) = ap (λ (q : Read). q.target) (fold-roll-Expr Read Pattern Qualifier Branch Branch Guard Line (List Piece) (expr_layer r) (pattern_layer r) qual_layer alt_layer branch_layer guard_layer item_layer segment_layer (O.Unary at op part))
  target_at (O.Binary at op parts) = ap (λ (q : Read). q.target) (fold-roll-Expr Read Pattern Qualifier Branch Branch Guard Line (List Piece) (expr_layer r) (pattern_layer r) qual_layer alt_layer branch_layer guard_layer item_layer segment_layer (O.Binary at op parts))

  pub letters_read : (e : Expr) → (expr_read r e).letters ≡ letters_in (out-Expr e)
  letters_read e = ap (λ (z : Expr). (expr_read r z).letters) (sym (roll-out-Expr e)) ∙ letters_at (out-Expr e)

  pub target_read : (e : Expr) → (expr_read r e).target ≡ target_in r (out-Expr e)
  target_read e = ap (λ (z : Expr). (expr_read r z).target) (sym (roll-out-Expr e)) ∙ target_at (out-Expr e)

  -- no sign stands before an atom's name
  unsigned : (op : Prefix) (t : Target) → atom_name r (signed_target op t) ≡ []
  unsigned op.Plus Anything = refl
  unsigned op.Plus (Variable x) = refl
  unsigned op.Plus (Equal (VInt n)) = refl
  unsigned op.Plus (Equal (VAtom a)) = refl
  unsigned op.Plus (Equal (VPid p)) = refl
  unsigned op.Plus (Equal (VTuple vs)) = refl
  unsigned op.Plus (Equal (VList vs)) = refl
  unsigned op.Plus (Equal (VBits bs)) = refl
  unsigned op.Minus Anything = refl
  unsigned op.Minus (Variable x) = refl
  unsigned op.Minus (Equal (VInt n)) = refl
  unsigned op.Minus (Equal (VAtom a)) = refl
  unsigned op.Minus (Equal (VPid p)) = refl
  unsigned op.Minus (Equal (VTuple vs)) = refl
  unsigned op.Minus (Equal (VList vs)) = refl
  unsigned op.Minus (Equal (VBits bs)) = refl
  unsigned op.Bnot Anything = refl
  unsigned op.Bnot (Variable x) = refl
  unsigned op.Bnot (Equal (VInt n)) = refl
  unsigned op.Bnot (Equal (VAtom a)) = refl
  unsigned op.Bnot (Equal (VPid p)) = refl
  unsigned op.Bnot (Equal (VTuple vs)) = refl
  unsigned op.Bnot (Equal (VList vs)) = refl
  unsigned op.Bnot (Equal (VBits bs)) = refl
  unsigned op.Not Anything = refl
  unsigned op.Not (Variable x) = refl
  unsigned op.Not (Equal (VInt n)) = refl
  unsigned op.Not (Equal (VAtom a)) = refl
  unsigned op.Not (Equal (VPid p)) = refl
  unsigned op.Not (Equal (VTuple vs)) = refl
  unsigned op.Not (Equal (VList vs)) = refl
  unsigned op.Not (Equal (VBits bs)) = refl

  home_at : (l : Layer) → atom_name r (target_in r l) ≡ home_in r l
  home_at (O.Expr::Var at name) = refl
  home_at (O.Expr::Wild at) = refl
  home_at (O.Expr::Int at n) = refl
  home_at (O.Expr::Char at c) = refl
  home_at (O.Expr::Atom at a) = refl
  home_at (O.ModuleName at) = refl
  home_at (O.Expr::Str at cs) = refl
  home_at (O.Expr::Tuple at is) = refl
  home_at (O.Expr::List at is tail) = refl
  home_at (O.Expr::Bits at ss) = refl
  home_at (O.ListFor at row qs) = refl
  home_at (O.BitsFor at row qs) = refl
  home_at (O.Call at home name args) = refl
  home_at (O.Case at v alts) = refl
  home_at (O.Receive at alts) = refl
  home_at (O.If at bs) = refl
  home_at (O.Unary at op part) = unsigned op (target_of (map (expr_read r) part))
  home_at (O.Binary at op parts) = refl

  pub home_read : (e : Expr) → atom_name r (expr_read r e).target ≡ home_in r (out-Expr e)
  home_read e = ap (atom_name r) (target_read e) ∙ home_at (out-Expr e)

  -- what stands before the colon of a call
  pub home_first : (home : List Expr) (e : Expr) → Some e ≡ slice_get home 0 → called_module r (map (expr_read r) home) ≡ Some (home_in r (out-Expr e))
  home_first [] e h = cc
  home_first (x ∷ es) e h =
      let k : x ≡ e = cc in
      ap Some (home_read x ∙ ap (λ (z : Expr). home_in r (out-Expr z)) k)
