-- What each form of a module's text is read as, where its parts are laid out.
use Rattle.std.proofs.Common.{◌≡◌, ℕ, ℤ, pos, List, [], ◌∷◌, ◌++◌, map, length, Option, Some, None, refl, sym, ◌∙◌, ap}
use Rattle.erl_syntax.specs.declared.span.Span.{Span}
use Rattle.erl_syntax.specs.declared.expr.Expr.{Expr}
use Rattle.erl_syntax.specs.declared.expr.Expr.TheVariants as x
use Rattle.erl_syntax.specs.declared.expr.Op.{Op}
use Rattle.erl_syntax.specs.declared.expr.Prefix.{Prefix}
use Rattle.erl_syntax.specs.declared.pattern.Pattern as syntax_pattern
use Rattle.erl_syntax.specs.declared.pattern.Pattern.TheVariants as p
use Rattle.erl_syntax.specs.declared.segment.Segment.{Segment}
use Rattle.erl_syntax.specs.declared.qual.Qual.{Qual}
use Rattle.erl_syntax.specs.declared.clause.Alt.{Alt}
use Rattle.erl_syntax.specs.declared.clause.Branch.{Branch as IfBranch}
use Rattle.erl_syntax.specs.Atoms.{a_ok}
use Rattle.term_value.specs.Value.{VInt, VAtom, VList}
use Rattle.term_value.specs.BuiltIns.{integers}
use Rattle.term_value.specs.Tree as t
use Rattle.term_value.specs.Read as read
use Rattle.term_value.specs.Read.{Reading, Read, Piece}
use Rattle.term_value.specs.ReadTrees as text
use Rattle.term_layers.proofs.Readings as form
use Rattle.code_layout.specs.Readings.{expr_read, qual_read, alt_read, branch_read, segment_read}

module _ (r : Reading) where
  tree_by : (e f : Expr) (q : Read) (u : t.Tree) → e ≡ f → expr_read r f ≡ q → u ≡ q.tree → u ≡ (expr_read r e).tree
  tree_by e f q u h k g = g ∙ sym (ap (λ (z : Read). z.tree) (ap (expr_read r) h ∙ k))

  pattern_by : (e f : syntax_pattern.Pattern) (q u : t.Pattern) → e ≡ f → text.pattern_of r f ≡ q → u ≡ q → u ≡ text.pattern_of r e
  pattern_by e f q u h k g = g ∙ sym (ap (text.pattern_of r) h ∙ k)

  pub tree-Var : (e : Expr) (at : Span) (name : List ℕ) (u : t.Tree) → e ≡ x.Var at name → u ≡ t.Var (r.number_at at) → u ≡ (expr_read r e).tree
  tree-Var e at name u h g = tree_by e (x.Var at name) _ u h (form.expr_read-Var r at name) g

  pub tree-Wild : (e : Expr) (at : Span) (u : t.Tree) → e ≡ x.Wild at → u ≡ t.Val (VAtom a_ok) → u ≡ (expr_read r e).tree
  tree-Wild e at u h g = tree_by e (x.Wild at) _ u h (form.expr_read-Wild r at) g

  pub tree-Int : (e : Expr) (at : Span) (n : ℤ) (u : t.Tree) → e ≡ x.Int at n → u ≡ t.Val (VInt n) → u ≡ (expr_read r e).tree
  tree-Int e at n u h g = tree_by e (x.Int at n) _ u h (form.expr_read-Int r at n) g

  pub tree-Char : (e : Expr) (at : Span) (c : ℕ) (u : t.Tree) → e ≡ x.Char at c → u ≡ t.Val (VInt (pos c)) → u ≡ (expr_read r e).tree
  tree-Char e at c u h g = tree_by e (x.Char at c) _ u h (form.expr_read-Char r at c) g

  pub tree-Atom : (e : Expr) (at : Span) (a : ℕ) (u : t.Tree) → e ≡ x.Atom at a → u ≡ t.Val (VAtom a) → u ≡ (expr_read r e).tree
  tree-Atom e at a u h g = tree_by e (x.Atom at a) _ u h (form.expr_read-Atom r at a) g

  pub tree-ModuleName : (e : Expr) (at : Span) (u : t.Tree) → e ≡ x.ModuleName at → u ≡ t.Val (VAtom r.module_name) → u ≡ (expr_read r e).tree
  tree-ModuleName e at u h g = tree_by e (x.ModuleName at) _ u h (form.expr_read-ModuleName r at) g

  pub tree-Str : (e : Expr) (at : Span) (letters : List ℕ) (u : t.Tree) → e ≡ x.Str at letters → u ≡ t.Val (VList (integers letters)) → u ≡ (expr_read r e).tree
  tree-Str e at letters u h g = tree_by e (x.Str at letters) _ u h (form.expr_read-Str r at letters) g

  pub tree-Tuple : (e : Expr) (at : Span) (items : List Expr) (u : t.Tree) → e ≡ x.Tuple at items → u ≡ t.All (t.Table t.MakeTuple) (read.trees (map (expr_read r) items)) → u ≡ (expr_read r e).tree
  tree-Tuple e at items u h g = tree_by e (x.Tuple at items) _ u h (form.expr_read-Tuple r at items) g

  pub tree-List : (e : Expr) (at : Span) (items tail : List Expr) (u : t.Tree) → e ≡ x.List at items tail → u ≡ read.listed (map (expr_read r) items) (map (expr_read r) tail) → u ≡ (expr_read r e).tree
  tree-List e at items tail u h g = tree_by e (x.List at items tail) _ u h (form.expr_read-List r at items tail) g

  pub tree-Bits : (e : Expr) (at : Span) (sgs : List Segment) (u : t.Tree) → e ≡ x.Bits at sgs → u ≡ read.built_from (form.pieces_read r sgs) → u ≡ (expr_read r e).tree
  tree-Bits e at sgs u h g = tree_by e (x.Bits at sgs) _ u h (form.expr_read-Bits r at sgs) g

  pub tree-ListFor : (e : Expr) (at : Span) (row : List Expr) (quals : List Qual) (u : t.Tree) → e ≡ x.ListFor at row quals → u ≡ t.Gather (t.Items []) (read.qualified (map (qual_read r) quals) (read.only (map (expr_read r) row))) t.bottom → u ≡ (expr_read r e).tree
  tree-ListFor e at row quals u h g = tree_by e (x.ListFor at row quals) _ u h (form.expr_read-ListFor r at row quals) g

  pub tree-BitsFor : (e : Expr) (at : Span) (row : List Expr) (quals : List Qual) (u : t.Tree) → e ≡ x.BitsFor at row quals → u ≡ t.Gather (t.Bits []) (read.qualified (map (qual_read r) quals) (read.only (map (expr_read r) row))) t.bottom → u ≡ (expr_read r e).tree
  tree-BitsFor e at row quals u h g = tree_by e (x.BitsFor at row quals) _ u h (form.expr_read-BitsFor r at row quals) g

  pub tree-Call : (e : Expr) (at : Span) (home : List Expr) (name : ℕ) (args : List Expr) (u : t.Tree) → e ≡ x.Call at home name args → u ≡ read.call r (map (expr_read r) home) name (map (expr_read r) args) → u ≡ (expr_read r e).tree
  tree-Call e at home name args u h g = tree_by e (x.Call at home name args) _ u h (form.expr_read-Call r at home name args) g

  pub tree-Case : (e : Expr) (at : Span) (value : List Expr) (alts : List Alt) (u : t.Tree) → e ≡ x.Case at value alts → u ≡ t.First (read.only (map (expr_read r) value)) (t.Alts (read.clauses (map (alt_read r) alts))) → u ≡ (expr_read r e).tree
  tree-Case e at value alts u h g = tree_by e (x.Case at value alts) _ u h (form.expr_read-Case r at value alts) g

  pub tree-Receive : (e : Expr) (at : Span) (alts : List Alt) (u : t.Tree) → e ≡ x.Receive at alts → u ≡ t.Receive (read.clauses (map (alt_read r) alts)) → u ≡ (expr_read r e).tree
  tree-Receive e at alts u h g = tree_by e (x.Receive at alts) _ u h (form.expr_read-Receive r at alts) g

  pub tree-If : (e : Expr) (at : Span) (branches : List IfBranch) (u : t.Tree) → e ≡ x.If at branches → u ≡ t.Choose (read.clauses (map (branch_read r) branches)) → u ≡ (expr_read r e).tree
  tree-If e at branches u h g = tree_by e (x.If at branches) _ u h (form.expr_read-If r at branches) g

  pub tree-Unary : (e : Expr) (at : Span) (op : Prefix) (part : List Expr) (u : t.Tree) → e ≡ x.Unary at op part → u ≡ t.All (t.Table (t.Prefixed op)) (read.trees (map (expr_read r) part)) → u ≡ (expr_read r e).tree
  tree-Unary e at op part u h g = tree_by e (x.Unary at op part) _ u h (form.expr_read-Unary r at op part) g

  pub tree-Binary : (e : Expr) (at : Span) (op : Op) (parts : List Expr) (u : t.Tree) → e ≡ x.Binary at op parts → u ≡ read.operation op (map (expr_read r) parts) → u ≡ (expr_read r e).tree
  tree-Binary e at op parts u h g = tree_by e (x.Binary at op parts) _ u h (form.expr_read-Binary r at op parts) g

  pub pattern-Var : (e : syntax_pattern.Pattern) (at : Span) (name : List ℕ) (u : t.Pattern) → e ≡ p.Var at name → u ≡ t.PVar (r.number_at at) → u ≡ text.pattern_of r e
  pattern-Var e at name u h g = pattern_by e (p.Var at name) _ u h (form.pattern_of-Var r at name) g

  pub pattern-Wild : (e : syntax_pattern.Pattern) (at : Span) (u : t.Pattern) → e ≡ p.Wild at → u ≡ t.PWild → u ≡ text.pattern_of r e
  pattern-Wild e at u h g = pattern_by e (p.Wild at) _ u h (form.pattern_of-Wild r at) g

  pub pattern-Int : (e : syntax_pattern.Pattern) (at : Span) (n : ℤ) (u : t.Pattern) → e ≡ p.Int at n → u ≡ t.PVal (VInt n) → u ≡ text.pattern_of r e
  pattern-Int e at n u h g = pattern_by e (p.Int at n) _ u h (form.pattern_of-Int r at n) g

  pub pattern-Char : (e : syntax_pattern.Pattern) (at : Span) (c : ℕ) (u : t.Pattern) → e ≡ p.Char at c → u ≡ t.PVal (VInt (pos c)) → u ≡ text.pattern_of r e
  pattern-Char e at c u h g = pattern_by e (p.Char at c) _ u h (form.pattern_of-Char r at c) g

  pub pattern-Atom : (e : syntax_pattern.Pattern) (at : Span) (a : ℕ) (u : t.Pattern) → e ≡ p.Atom at a → u ≡ t.PVal (VAtom a) → u ≡ text.pattern_of r e
  pattern-Atom e at a u h g = pattern_by e (p.Atom at a) _ u h (form.pattern_of-Atom r at a) g

  pub pattern-Str : (e : syntax_pattern.Pattern) (at : Span) (letters : List ℕ) (u : t.Pattern) → e ≡ p.Str at letters → u ≡ t.PVal (VList (integers letters)) → u ≡ text.pattern_of r e
  pattern-Str e at letters u h g = pattern_by e (p.Str at letters) _ u h (form.pattern_of-Str r at letters) g

  pub pattern-Tuple : (e : syntax_pattern.Pattern) (at : Span) (items : List syntax_pattern.Pattern) (u : t.Pattern) → e ≡ p.Tuple at items → u ≡ t.PTuple (read.patterns (map (text.pattern_of r) items)) → u ≡ text.pattern_of r e
  pattern-Tuple e at items u h g = pattern_by e (p.Tuple at items) _ u h (form.pattern_of-Tuple r at items) g

  pub pattern-List : (e : syntax_pattern.Pattern) (at : Span) (items tail : List syntax_pattern.Pattern) (u : t.Pattern) → e ≡ p.List at items tail → u ≡ read.pattern_list (map (text.pattern_of r) items) (map (text.pattern_of r) tail) → u ≡ text.pattern_of r e
  pattern-List e at items tail u h g = pattern_by e (p.List at items tail) _ u h (form.pattern_of-List r at items tail) g

  pub pattern-Bits : (e : syntax_pattern.Pattern) (at : Span) (sgs : List Segment) (u : t.Pattern) → e ≡ p.Bits at sgs → u ≡ t.PBits (read.segments (form.pieces_read r sgs)) → u ≡ text.pattern_of r e
  pattern-Bits e at sgs u h g = pattern_by e (p.Bits at sgs) _ u h (form.pattern_of-Bits r at sgs) g

  pub pattern-Same : (e : syntax_pattern.Pattern) (at : Span) (ps : List syntax_pattern.Pattern) (u : t.Pattern) → e ≡ p.Same at ps → u ≡ t.PSame (read.patterns (map (text.pattern_of r) ps)) → u ≡ text.pattern_of r e
  pattern-Same e at ps u h g = pattern_by e (p.Same at ps) _ u h (form.pattern_of-Same r at ps) g
