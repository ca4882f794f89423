-- What each form of a module's text is read as: one equation a form.
use Rattle.std.proofs.Common.{◌≡◌, ℕ, ℤ, pos, List, [], map, Option, Some, None, sym, ap, ◌∙◌}
use Rattle.std.specs.List.{flat_map}
use Rattle.erl_syntax.specs.declared.span.Span.{Span}
use Rattle.erl_syntax.specs.declared.expr.Expr.{Expr}
use Rattle.erl_syntax.specs.declared.expr.Expr.TheVariants as x
use Rattle.erl_syntax.specs.declared.expr.Expr.TheOpen as O
use Rattle.erl_syntax.specs.declared.expr.Expr.TheFolds.{fold-Expr, fold-Qual, fold-Alt, fold-Branch, fold-Segment, fold-roll-Expr, fold-roll-Pattern, fold-roll-Qual, fold_out-Alt, fold_out-Branch, fold_out-Guard, fold_out-Item, fold_out-Segment}
use Rattle.erl_syntax.specs.declared.expr.Op.{Op}
use Rattle.erl_syntax.specs.declared.expr.Prefix.{Prefix}
use Rattle.erl_syntax.specs.declared.pattern.Pattern as syntax_pattern
use Rattle.erl_syntax.specs.declared.pattern.Pattern.TheVariants as p
use Rattle.erl_syntax.specs.declared.qual.Qual.{Qual}
use Rattle.erl_syntax.specs.declared.qual.Qual.TheVariants as q
use Rattle.erl_syntax.specs.declared.segment.Segment.{Segment}
use Rattle.erl_syntax.specs.declared.segment.Spec.{Spec}
use Rattle.erl_syntax.specs.declared.clause.Guard as syntax
use Rattle.erl_syntax.specs.declared.clause.Alt.{Alt, out-Alt}
use Rattle.erl_syntax.specs.declared.clause.Branch.{Branch as IfBranch, out-Branch}
use Rattle.erl_syntax.specs.declared.clause.Item.{Item}
use Rattle.erl_syntax.specs.Atoms.{a_ok}
use Rattle.term_value.specs.Value.{VInt, VAtom, VList}
use Rattle.term_value.specs.BuiltIns.{integers}
use Rattle.term_value.specs.Tree.{MakeTuple, Table, Items, Bits, Val, All, First, Choose, Receive, Gather, Alts, Guard, InList, bottom, Pattern, PWild, PVar, PVal, PTuple, PBits, PSame, no_pattern, pattern_and}
use Rattle.term_value.specs.Rows.{bits_generator}
use Rattle.term_value.specs.Read.{Reading, Read, expression, literal, trees, only, Piece, pieces, built_from, segments, listed, prefixed, operation, Line, patterns, guard_of, Branch, clauses, Qualifier, Generates, Filters, qualified, pattern_list, call}
use Rattle.term_value.specs.ReadTrees.{variable, string, expr_layer, pattern_layer, qual_layer, alt_layer, branch_layer, guard_layer, item_layer, segment_layer, pattern_of, guard_tree, line_of}

module _ (r : Reading) where
  abbrev pub expr_read : Expr → Read
  expr_read e = fold-Expr Read Pattern Qualifier Branch Branch Guard Line (List Piece) (expr_layer r) (pattern_layer r) qual_layer alt_layer branch_layer guard_layer item_layer segment_layer e

  abbrev pub qual_read : Qual → Qualifier
  qual_read g = fold-Qual Read Pattern Qualifier Branch Branch Guard Line (List Piece) (expr_layer r) (pattern_layer r) qual_layer alt_layer branch_layer guard_layer item_layer segment_layer g

  abbrev pub alt_read : Alt → Branch
  alt_read a = fold-Alt Read Pattern Qualifier Branch Branch Guard Line (List Piece) (expr_layer r) (pattern_layer r) qual_layer alt_layer branch_layer guard_layer item_layer segment_layer a

  abbrev pub branch_read : IfBranch → Branch
  branch_read b = fold-Branch Read Pattern Qualifier Branch Branch Guard Line (List Piece) (expr_layer r) (pattern_layer r) qual_layer alt_layer branch_layer guard_layer item_layer segment_layer b

  abbrev pub segment_read : Segment → List Piece
  segment_read s = fold-Segment Read Pattern Qualifier Branch Branch Guard Line (List Piece) (expr_layer r) (pattern_layer r) qual_layer alt_layer branch_layer guard_layer item_layer segment_layer s

  abbrev pub pieces_read : List Segment → List Piece
  pieces_read sgs = flat_map (λ ps. ps) (map segment_read sgs)

  pub expr_read-Var : (at : Span) (name : List ℕ) → expr_read (x.Var at name) ≡ variable (r.number_at at)
  expr_read-Var at name = ap expr_read (sym (x.rolls-Var at name)) ∙ fold-roll-Expr Read Pattern Qualifier Branch Branch Guard Line (List Piece) (expr_layer r) (pattern_layer r) qual_layer alt_layer branch_layer guard_layer item_layer segment_layer (O.Expr::Var at name)

  pub expr_read-Wild : (at : Span) → expr_read (x.Wild at) ≡ expression (Val (VAtom a_ok))
  expr_read-Wild at = ap expr_read (sym (x.rolls-Wild at)) ∙ fold-roll-Expr Read Pattern Qualifier Branch Branch Guard Line (List Piece) (expr_layer r) (pattern_layer r) qual_layer alt_layer branch_layer guard_layer item_layer segment_layer (O.Expr::Wild at)

  pub expr_read-Int : (at : Span) (n : ℤ) → expr_read (x.Int at n) ≡ literal (VInt n)
  expr_read-Int at n = ap expr_read (sym (x.rolls-Int at n)) ∙ fold-roll-Expr Read Pattern Qualifier Branch Branch Guard Line (List Piece) (expr_layer r) (pattern_layer r) qual_layer alt_layer branch_layer guard_layer item_layer segment_layer (O.Expr::Int at n)

  pub expr_read-Char : (at : Span) (c : ℕ) → expr_read (x.Char at c) ≡ literal (VInt (pos c))
  expr_read-Char at c = ap expr_read (sym (x.rolls-Char at c)) ∙ fold-roll-Expr Read Pattern Qualifier Branch Branch Guard Line (List Piece) (expr_layer r) (pattern_layer r) qual_layer alt_layer branch_layer guard_layer item_layer segment_layer (O.Expr::Char at c)

  pub expr_read-Atom : (at : Span) (a : ℕ) → expr_read (x.Atom at a) ≡ literal (VAtom a)
  expr_read-Atom at a = ap expr_read (sym (x.rolls-Atom at a)) ∙ fold-roll-Expr Read Pattern Qualifier Branch Branch Guard Line (List Piece) (expr_layer r) (pattern_layer r) qual_layer alt_layer branch_layer guard_layer item_layer segment_layer (O.Expr::Atom at a)

  pub expr_read-ModuleName : (at : Span) → expr_read (x.ModuleName at) ≡ expression (Val (VAtom r.module_name))
  expr_read-ModuleName at = ap expr_read (sym (x.rolls-ModuleName at)) ∙ fold-roll-Expr Read Pattern Qualifier Branch Branch Guard Line (List Piece) (expr_layer r) (pattern_layer r) qual_layer alt_layer branch_layer guard_layer item_layer segment_layer (O.ModuleName at)

  pub expr_read-Str : (at : Span) (letters : List ℕ) → expr_read (x.Str at letters) ≡ string letters
  expr_read-Str at letters = ap expr_read (sym (x.rolls-Str at letters)) ∙ fold-roll-Expr Read Pattern Qualifier Branch Branch Guard Line (List Piece) (expr_layer r) (pattern_layer r) qual_layer alt_layer branch_layer guard_layer item_layer segment_layer (O.Expr::Str at letters)

  pub expr_read-Tuple : (at : Span) (items : List Expr) → expr_read (x.Tuple at items) ≡ expression (All (Table MakeTuple) (trees (map expr_read items)))
  expr_read-Tuple at items = ap expr_read (sym (x.rolls-Tuple at items)) ∙ fold-roll-Expr Read Pattern Qualifier Branch Branch Guard Line (List Piece) (expr_layer r) (pattern_layer r) qual_layer alt_layer branch_layer guard_layer item_layer segment_layer (O.Expr::Tuple at items)

  pub expr_read-List : (at : Span) (items tail : List Expr) → expr_read (x.List at items tail) ≡ expression (listed (map expr_read items) (map expr_read tail))
  expr_read-List at items tail = ap expr_read (sym (x.rolls-List at items tail)) ∙ fold-roll-Expr Read Pattern Qualifier Branch Branch Guard Line (List Piece) (expr_layer r) (pattern_layer r) qual_layer alt_layer branch_layer guard_layer item_layer segment_layer (O.Expr::List at items tail)

  pub expr_read-Bits : (at : Span) (sgs : List Segment) → expr_read (x.Bits at sgs) ≡ expression (built_from (pieces_read sgs))
  expr_read-Bits at sgs = ap expr_read (sym (x.rolls-Bits at sgs)) ∙ fold-roll-Expr Read Pattern Qualifier Branch Branch Guard Line (List Piece) (expr_layer r) (pattern_layer r) qual_layer alt_layer branch_layer guard_layer item_layer segment_layer (O.Expr::Bits at sgs)

  pub expr_read-ListFor : (at : Span) (row : List Expr) (quals : List Qual) → expr_read (x.ListFor at row quals) ≡ expression (Gather (Items []) (qualified (map qual_read quals) (only (map expr_read row))) bottom)
  expr_read-ListFor at row quals = ap expr_read (sym (x.rolls-ListFor at row quals)) ∙ fold-roll-Expr Read Pattern Qualifier Branch Branch Guard Line (List Piece) (expr_layer r) (pattern_layer r) qual_layer alt_layer branch_layer guard_layer item_layer segment_layer (O.ListFor at row quals)

  pub expr_read-BitsFor : (at : Span) (row : List Expr) (quals : List Qual) → expr_read (x.BitsFor at row quals) ≡ expression (Gather (Bits []) (qualified (map qual_read quals) (only (map expr_read row))) bottom)
  expr_read-BitsFor at row quals = ap expr_read (sym (x.rolls-BitsFor at row quals)) ∙ fold-roll-Expr Read Pattern Qualifier Branch Branch Guard Line (List Piece) (expr_layer r) (pattern_layer r) qual_layer alt_layer branch_layer guard_layer item_layer segment_layer (O.BitsFor at row quals)

  pub expr_read-Call : (at : Span) (home : List Expr) (name : ℕ) (args : List Expr) → expr_read (x.Call at home name args) ≡ expression (call r (map expr_read home) name (map expr_read args))
  expr_read-Call at home name args = ap expr_read (sym (x.rolls-Call at home name args)) ∙ fold-roll-Expr Read Pattern Qualifier Branch Branch Guard Line (List Piece) (expr_layer r) (pattern_layer r) qual_layer alt_layer branch_layer guard_layer item_layer segment_layer (O.Call at home name args)

  pub expr_read-Case : (at : Span) (value : List Expr) (alts : List Alt) → expr_read (x.Case at value alts) ≡ expression (First (only (map expr_read value)) (Alts (clauses (map alt_read alts))))
  expr_read-Case at value alts = ap expr_read (sym (x.rolls-Case at value alts)) ∙ fold-roll-Expr Read Pattern Qualifier Branch Branch Guard Line (List Piece) (expr_layer r) (pattern_layer r) qual_layer alt_layer branch_layer guard_layer item_layer segment_layer (O.Case at value alts)

  pub expr_read-Receive : (at : Span) (alts : List Alt) → expr_read (x.Receive at alts) ≡ expression (Receive (clauses (map alt_read alts)))
  expr_read-Receive at alts = ap expr_read (sym (x.rolls-Receive at alts)) ∙ fold-roll-Expr Read Pattern Qualifier Branch Branch Guard Line (List Piece) (expr_layer r) (pattern_layer r) qual_layer alt_layer branch_layer guard_layer item_layer segment_layer (O.Receive at alts)

  pub expr_read-If : (at : Span) (branches : List IfBranch) → expr_read (x.If at branches) ≡ expression (Choose (clauses (map branch_read branches)))
  expr_read-If at branches = ap expr_read (sym (x.rolls-If at branches)) ∙ fold-roll-Expr Read Pattern Qualifier Branch Branch Guard Line (List Piece) (expr_layer r) (pattern_layer r) qual_layer alt_layer branch_layer guard_layer item_layer segment_layer (O.If at branches)

  pub expr_read-Unary : (at : Span) (op : Prefix) (part : List Expr) → expr_read (x.Unary at op part) ≡ prefixed op (map expr_read part)
  expr_read-Unary at op part = ap expr_read (sym (x.rolls-Unary at op part)) ∙ fold-roll-Expr Read Pattern Qualifier Branch Branch Guard Line (List Piece) (expr_layer r) (pattern_layer r) qual_layer alt_layer branch_layer guard_layer item_layer segment_layer (O.Unary at op part)

  pub expr_read-Binary : (at : Span) (op : Op) (parts : List Expr) → expr_read (x.Binary at op parts) ≡ expression (operation op (map expr_read parts))
  expr_read-Binary at op parts = ap expr_read (sym (x.rolls-Binary at op parts)) ∙ fold-roll-Expr Read Pattern Qualifier Branch Branch Guard Line (List Piece) (expr_layer r) (pattern_layer r) qual_layer alt_layer branch_layer guard_layer item_layer segment_layer (O.Binary at op parts)

  pub pattern_of-Var : (at : Span) (name : List ℕ) → pattern_of r (p.Var at name) ≡ PVar (r.number_at at)
  pattern_of-Var at name = ap (pattern_of r) (sym (p.rolls-Var at name)) ∙ fold-roll-Pattern Read Pattern Qualifier Branch Branch Guard Line (List Piece) (expr_layer r) (pattern_layer r) qual_layer alt_layer branch_layer guard_layer item_layer segment_layer (O.Pattern::Var at name)

  pub pattern_of-Wild : (at : Span) → pattern_of r (p.Wild at) ≡ PWild
  pattern_of-Wild at = ap (pattern_of r) (sym (p.rolls-Wild at)) ∙ fold-roll-Pattern Read Pattern Qualifier Branch Branch Guard Line (List Piece) (expr_layer r) (pattern_layer r) qual_layer alt_layer branch_layer guard_layer item_layer segment_layer (O.Pattern::Wild at)

  pub pattern_of-Int : (at : Span) (n : ℤ) → pattern_of r (p.Int at n) ≡ PVal (VInt n)
  pattern_of-Int at n = ap (pattern_of r) (sym (p.rolls-Int at n)) ∙ fold-roll-Pattern Read Pattern Qualifier Branch Branch Guard Line (List Piece) (expr_layer r) (pattern_layer r) qual_layer alt_layer branch_layer guard_layer item_layer segment_layer (O.Pattern::Int at n)

  pub pattern_of-Char : (at : Span) (c : ℕ) → pattern_of r (p.Char at c) ≡ PVal (VInt (pos c))
  pattern_of-Char at c = ap (pattern_of r) (sym (p.rolls-Char at c)) ∙ fold-roll-Pattern Read Pattern Qualifier Branch Branch Guard Line (List Piece) (expr_layer r) (pattern_layer r) qual_layer alt_layer branch_layer guard_layer item_layer segment_layer (O.Pattern::Char at c)

  pub pattern_of-Atom : (at : Span) (a : ℕ) → pattern_of r (p.Atom at a) ≡ PVal (VAtom a)
  pattern_of-Atom at a = ap (pattern_of r) (sym (p.rolls-Atom at a)) ∙ fold-roll-Pattern Read Pattern Qualifier Branch Branch Guard Line (List Piece) (expr_layer r) (pattern_layer r) qual_layer alt_layer branch_layer guard_layer item_layer segment_layer (O.Pattern::Atom at a)

  pub pattern_of-Str : (at : Span) (letters : List ℕ) → pattern_of r (p.Str at letters) ≡ PVal (VList (integers letters))
  pattern_of-Str at letters = ap (pattern_of r) (sym (p.rolls-Str at letters)) ∙ fold-roll-Pattern Read Pattern Qualifier Branch Branch Guard Line (List Piece) (expr_layer r) (pattern_layer r) qual_layer alt_layer branch_layer guard_layer item_layer segment_layer (O.Pattern::Str at letters)

  pub pattern_of-Tuple : (at : Span) (items : List syntax_pattern.Pattern) → pattern_of r (p.Tuple at items) ≡ PTuple (patterns (map (pattern_of r) items))
  pattern_of-Tuple at items = ap (pattern_of r) (sym (p.rolls-Tuple at items)) ∙ fold-roll-Pattern Read Pattern Qualifier Branch Branch Guard Line (List Piece) (expr_layer r) (pattern_layer r) qual_layer alt_layer branch_layer guard_layer item_layer segment_layer (O.Pattern::Tuple at items)

  pub pattern_of-List : (at : Span) (items tail : List syntax_pattern.Pattern) → pattern_of r (p.List at items tail) ≡ pattern_list (map (pattern_of r) items) (map (pattern_of r) tail)
  pattern_of-List at items tail = ap (pattern_of r) (sym (p.rolls-List at items tail)) ∙ fold-roll-Pattern Read Pattern Qualifier Branch Branch Guard Line (List Piece) (expr_layer r) (pattern_layer r) qual_layer alt_layer branch_layer guard_layer item_layer segment_layer (O.Pattern::List at items tail)

  pub pattern_of-Bits : (at : Span) (sgs : List Segment) → pattern_of r (p.Bits at sgs) ≡ PBits (segments (pieces_read sgs))
  pattern_of-Bits at sgs = ap (pattern_of r) (sym (p.rolls-Bits at sgs)) ∙ fold-roll-Pattern Read Pattern Qualifier Branch Branch Guard Line (List Piece) (expr_layer r) (pattern_layer r) qual_layer alt_layer branch_layer guard_layer item_layer segment_layer (O.Pattern::Bits at sgs)

  pub pattern_of-Same : (at : Span) (ps : List syntax_pattern.Pattern) → pattern_of r (p.Same at ps) ≡ PSame (patterns (map (pattern_of r) ps))
  pattern_of-Same at ps = ap (pattern_of r) (sym (p.rolls-Same at ps)) ∙ fold-roll-Pattern Read Pattern Qualifier Branch Branch Guard Line (List Piece) (expr_layer r) (pattern_layer r) qual_layer alt_layer branch_layer guard_layer item_layer segment_layer (O.Same at ps)

  pub qual_read-Items : (at : Span) (pt : syntax_pattern.Pattern) (source : Expr) → qual_read (q.Items at pt source) ≡ Generates (expr_read source).tree (InList (pattern_of r pt))
  qual_read-Items at pt source = ap qual_read (sym (q.rolls-Items at pt source)) ∙ fold-roll-Qual Read Pattern Qualifier Branch Branch Guard Line (List Piece) (expr_layer r) (pattern_layer r) qual_layer alt_layer branch_layer guard_layer item_layer segment_layer (O.Items at pt source)

  pub qual_read-Bits : (at : Span) (sgs : List Segment) (source : Expr) → qual_read (q.Bits at sgs source) ≡ Generates (expr_read source).tree (bits_generator (segments (pieces_read sgs)))
  qual_read-Bits at sgs source = ap qual_read (sym (q.rolls-Bits at sgs source)) ∙ fold-roll-Qual Read Pattern Qualifier Branch Branch Guard Line (List Piece) (expr_layer r) (pattern_layer r) qual_layer alt_layer branch_layer guard_layer item_layer segment_layer (O.Qual::Bits at sgs source)

  pub qual_read-Filter : (at : Span) (filter : Expr) → qual_read (q.Filter at filter) ≡ Filters (expr_read filter).tree
  qual_read-Filter at filter = ap qual_read (sym (q.rolls-Filter at filter)) ∙ fold-roll-Qual Read Pattern Qualifier Branch Branch Guard Line (List Piece) (expr_layer r) (pattern_layer r) qual_layer alt_layer branch_layer guard_layer item_layer segment_layer (O.Filter at filter)

  pub alt_read-parts : (a : Alt) → alt_read a ≡ record { heads = pattern_and (pattern_of r (out-Alt a).pattern) no_pattern; guard = guard_tree r (out-Alt a).guard; lines = map (line_of r) (out-Alt a).body }
  alt_read-parts a = fold_out-Alt Read Pattern Qualifier Branch Branch Guard Line (List Piece) (expr_layer r) (pattern_layer r) qual_layer alt_layer branch_layer guard_layer item_layer segment_layer a

  pub branch_read-parts : (b : IfBranch) → branch_read b ≡ record { heads = no_pattern; guard = guard_tree r (out-Branch b).guard; lines = map (line_of r) (out-Branch b).body }
  branch_read-parts b = fold_out-Branch Read Pattern Qualifier Branch Branch Guard Line (List Piece) (expr_layer r) (pattern_layer r) qual_layer alt_layer branch_layer guard_layer item_layer segment_layer b

  pub guard_tree-parts : (g : syntax.Guard) → guard_tree r g ≡ guard_of (map (map expr_read) g.alternatives)
  guard_tree-parts g = fold_out-Guard Read Pattern Qualifier Branch Branch Guard Line (List Piece) (expr_layer r) (pattern_layer r) qual_layer alt_layer branch_layer guard_layer item_layer segment_layer g

  pub line_of-parts : (i : Item) → line_of r i ≡ record { patterns = map (pattern_of r) i.patterns; value = (expr_read i.value).tree }
  line_of-parts i = fold_out-Item Read Pattern Qualifier Branch Branch Guard Line (List Piece) (expr_layer r) (pattern_layer r) qual_layer alt_layer branch_layer guard_layer item_layer segment_layer i

  abbrev pub optional_read : Option Expr → Option Read
  optional_read None = None
  optional_read (Some e) = Some (expr_read e)

  parted : (at : Span) (value : Expr) (size : Option Expr) (specs : List Spec) → (let s : Segment = record { at = at; value = value; size = size; specs = specs } in segment_read s) ≡ pieces (expr_read value) (optional_read size) specs
  parted at value None specs = fold_out-Segment Read Pattern Qualifier Branch Branch Guard Line (List Piece) (expr_layer r) (pattern_layer r) qual_layer alt_layer branch_layer guard_layer item_layer segment_layer (record { at = at; value = value; size = None; specs = specs })
  parted at value (Some e) specs = fold_out-Segment Read Pattern Qualifier Branch Branch Guard Line (List Piece) (expr_layer r) (pattern_layer r) qual_layer alt_layer branch_layer guard_layer item_layer segment_layer (record { at = at; value = value; size = Some e; specs = specs })

  pub segment_read-parts : (s : Segment) → segment_read s ≡ pieces (expr_read s.value) (optional_read s.size) s.specs
  segment_read-parts s = parted s.at s.value s.size s.specs
