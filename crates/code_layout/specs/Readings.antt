-- What each form of a module's text is read as, with what a pattern's segment and a call want of an expression.
use Rattle.std.specs.Prelude.{ℕ, ◌++◌, pos, List, [], ◌∷◌, map, Option, Some, None}
use Rattle.std.specs.List.{flat_map}
use Rattle.erl_syntax.specs.declared.expr.Expr.{Expr}
use Rattle.erl_syntax.specs.declared.expr.Expr.TheOpen as O
use Rattle.erl_syntax.specs.declared.expr.Expr.TheFolds.{fold-Expr, fold-Qual, fold-Alt, fold-Branch, fold-Segment}
use Rattle.erl_syntax.specs.declared.pattern.Pattern as syntax_pattern
use Rattle.erl_syntax.specs.declared.qual.Qual.{Qual}
use Rattle.erl_syntax.specs.declared.segment.Segment.{Segment}
use Rattle.erl_syntax.specs.declared.clause.Guard as syntax
use Rattle.erl_syntax.specs.declared.clause.Alt.{Alt}
use Rattle.erl_syntax.specs.declared.clause.Branch.{Branch as IfBranch}
use Rattle.erl_syntax.specs.declared.clause.Item.{Item}
use Rattle.term_value.specs.Value.{VInt, VAtom}
use Rattle.term_value.specs.Tree.{Target, Anything, Variable, Equal, Tree, Guard, Pattern}
use Rattle.term_value.specs.Read.{Reading, Read, Piece, Line, Branch, Qualifier, signed_target, target_of}
use Rattle.term_value.specs.ReadTrees.{expr_layer, pattern_layer, qual_layer, alt_layer, branch_layer, guard_layer, item_layer, segment_layer}

abbrev pub expr_read : Reading → Expr → Read
expr_read r e = fold-Expr Read Pattern Qualifier Branch Branch Guard Line (List Piece) (expr_layer r) (pattern_layer r) qual_layer alt_layer branch_layer guard_layer item_layer segment_layer e

abbrev pub qual_read : Reading → Qual → Qualifier
qual_read r g = fold-Qual Read Pattern Qualifier Branch Branch Guard Line (List Piece) (expr_layer r) (pattern_layer r) qual_layer alt_layer branch_layer guard_layer item_layer segment_layer g

abbrev pub alt_read : Reading → Alt → Branch
alt_read r a = fold-Alt Read Pattern Qualifier Branch Branch Guard Line (List Piece) (expr_layer r) (pattern_layer r) qual_layer alt_layer branch_layer guard_layer item_layer segment_layer a

abbrev pub branch_read : Reading → IfBranch → Branch
branch_read r b = fold-Branch Read Pattern Qualifier Branch Branch Guard Line (List Piece) (expr_layer r) (pattern_layer r) qual_layer alt_layer branch_layer guard_layer item_layer segment_layer b

abbrev pub segment_read : Reading → Segment → List Piece
segment_read r s = fold-Segment Read Pattern Qualifier Branch Branch Guard Line (List Piece) (expr_layer r) (pattern_layer r) qual_layer alt_layer branch_layer guard_layer item_layer segment_layer s

abbrev pub pieces_read : Reading → List Segment → List Piece
pieces_read r ss = flat_map (segment_read r) ss

-- the characters of a string
abbrev pub letters_in : O.Expr-F Expr syntax_pattern.Pattern Qual Alt IfBranch syntax.Guard Item Segment → Option (List ℕ)
letters_in (O.Expr::Str at letters) = Some letters
letters_in _ = None

-- what an expression wants as the value of a pattern's segment
abbrev pub target_in : Reading → O.Expr-F Expr syntax_pattern.Pattern Qual Alt IfBranch syntax.Guard Item Segment → Target
target_in r (O.Expr::Var at name) = Variable (r.number_at at)
target_in r (O.Expr::Int at n) = Equal (VInt n)
target_in r (O.Expr::Char at c) = Equal (VInt (pos c))
target_in r (O.Expr::Atom at a) = Equal (VAtom a)
target_in r (O.Unary at op part) = signed_target op (target_of (map (expr_read r) part))
target_in r _ = Anything

-- the UTF-8 bytes of an atom before the colon of a call
abbrev pub home_in : Reading → O.Expr-F Expr syntax_pattern.Pattern Qual Alt IfBranch syntax.Guard Item Segment → List ℕ
home_in r (O.Expr::Atom at a) = r.names a
home_in r _ = []
