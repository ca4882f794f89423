-- Where the variables of each form stand: one equation a form.
use Rattle.std.proofs.Common.{append-nil, append_assoc, ◌≡◌, ℕ, ℤ, List, [], ◌∷◌, ◌++◌, map, Option, Some, None, sym, ap, ◌∙◌}
use Rattle.erl_syntax.specs.declared.span.Span.{Span}
use Rattle.erl_syntax.specs.declared.expr.Expr.{Expr}
use Rattle.erl_syntax.specs.declared.expr.Expr.TheVariants as x
use Rattle.erl_syntax.specs.declared.expr.Expr.TheOpen as O
use Rattle.erl_syntax.specs.declared.expr.Expr.TheFolds.{fold-roll-Expr, fold-roll-Pattern, fold-roll-Qual, fold_out-Alt, fold_out-Branch, fold_out-Guard, fold_out-Item, fold_out-Segment}
use Rattle.erl_syntax.specs.declared.expr.Op.{Op}
use Rattle.erl_syntax.specs.declared.expr.Prefix.{Prefix}
use Rattle.erl_syntax.specs.declared.pattern.Pattern.{Pattern}
use Rattle.erl_syntax.specs.declared.pattern.Pattern.TheVariants as p
use Rattle.erl_syntax.specs.declared.qual.Qual.{Qual}
use Rattle.erl_syntax.specs.declared.qual.Qual.TheVariants as q
use Rattle.erl_syntax.specs.declared.segment.Segment.{Segment}
use Rattle.erl_syntax.specs.declared.segment.Spec.{Spec}
use Rattle.erl_syntax.specs.declared.clause.Guard.{Guard}
use Rattle.erl_syntax.specs.declared.clause.Item.{Item}
use Rattle.erl_syntax.specs.declared.clause.Alt.{Alt, roll-Alt, out-roll-Alt}
use Rattle.erl_syntax.specs.declared.clause.Branch.{Branch, roll-Branch, out-roll-Branch}
use Rattle.erl_syntax.specs.declared.module.Clause.{Clause}
use Rattle.erl_syntax.specs.Bindings.{joined}
use Rattle.module_laws.specs.Variables.{clause_spans, expr_layer, pattern_layer, qual_layer, alt_layer, branch_layer, guard_layer, item_layer, segment_layer, expr_spans, pattern_spans, qual_spans, alt_spans, branch_spans, guard_spans, item_spans, segment_spans}

abbrev pub in_exprs : List Expr → List Span
in_exprs ys = joined (map expr_spans ys)

abbrev pub in_segments : List Segment → List Span
in_segments sgs = joined (map segment_spans sgs)

abbrev pub in_quals : List Qual → List Span
in_quals gs = joined (map qual_spans gs)

abbrev pub in_alts : List Alt → List Span
in_alts alts = joined (map alt_spans alts)

abbrev pub in_branches : List Branch → List Span
in_branches bs = joined (map branch_spans bs)

abbrev pub in_patterns : List Pattern → List Span
in_patterns ps = joined (map pattern_spans ps)

abbrev pub in_items : List Item → List Span
in_items is = joined (map item_spans is)

abbrev pub in_tests : List (List Expr) → List Span
in_tests ts = joined (map joined (map (map expr_spans) ts))

abbrev pub in_size : Option Expr → List Span
in_size None = []
in_size (Some e) = expr_spans e

pub expr-Var : (at : Span) (name : List ℕ) → expr_spans (x.Var at name) ≡ at ∷ []
expr-Var at name = ap expr_spans (sym (x.rolls-Var at name)) ∙ fold-roll-Expr (List Span) (List Span) (List Span) (List Span) (List Span) (List Span) (List Span) (List Span) expr_layer pattern_layer qual_layer alt_layer branch_layer guard_layer item_layer segment_layer (O.Expr::Var at name)

pub expr-Wild : (at : Span) → expr_spans (x.Wild at) ≡ []
expr-Wild at = ap expr_spans (sym (x.rolls-Wild at)) ∙ fold-roll-Expr (List Span) (List Span) (List Span) (List Span) (List Span) (List Span) (List Span) (List Span) expr_layer pattern_layer qual_layer alt_layer branch_layer guard_layer item_layer segment_layer (O.Expr::Wild at)

pub expr-Int : (at : Span) (n : ℤ) → expr_spans (x.Int at n) ≡ []
expr-Int at n = ap expr_spans (sym (x.rolls-Int at n)) ∙ fold-roll-Expr (List Span) (List Span) (List Span) (List Span) (List Span) (List Span) (List Span) (List Span) expr_layer pattern_layer qual_layer alt_layer branch_layer guard_layer item_layer segment_layer (O.Expr::Int at n)

pub expr-Char : (at : Span) (c : ℕ) → expr_spans (x.Char at c) ≡ []
expr-Char at c = ap expr_spans (sym (x.rolls-Char at c)) ∙ fold-roll-Expr (List Span) (List Span) (List Span) (List Span) (List Span) (List Span) (List Span) (List Span) expr_layer pattern_layer qual_layer alt_layer branch_layer guard_layer item_layer segment_layer (O.Expr::Char at c)

pub expr-Atom : (at : Span) (a : ℕ) → expr_spans (x.Atom at a) ≡ []
expr-Atom at a = ap expr_spans (sym (x.rolls-Atom at a)) ∙ fold-roll-Expr (List Span) (List Span) (List Span) (List Span) (List Span) (List Span) (List Span) (List Span) expr_layer pattern_layer qual_layer alt_layer branch_layer guard_layer item_layer segment_layer (O.Expr::Atom at a)

pub expr-ModuleName : (at : Span) → expr_spans (x.ModuleName at) ≡ []
expr-ModuleName at = ap expr_spans (sym (x.rolls-ModuleName at)) ∙ fold-roll-Expr (List Span) (List Span) (List Span) (List Span) (List Span) (List Span) (List Span) (List Span) expr_layer pattern_layer qual_layer alt_layer branch_layer guard_layer item_layer segment_layer (O.ModuleName at)

pub expr-Str : (at : Span) (cs : List ℕ) → expr_spans (x.Str at cs) ≡ []
expr-Str at cs = ap expr_spans (sym (x.rolls-Str at cs)) ∙ fold-roll-Expr (List Span) (List Span) (List Span) (List Span) (List Span) (List Span) (List Span) (List Span) expr_layer pattern_layer qual_layer alt_layer branch_layer guard_layer item_layer segment_layer (O.Expr::Str at cs)

pub expr-Tuple : (at : Span) (ys : List Expr) → expr_spans (x.Tuple at ys) ≡ in_exprs ys
expr-Tuple at ys = ap expr_spans (sym (x.rolls-Tuple at ys)) ∙ fold-roll-Expr (List Span) (List Span) (List Span) (List Span) (List Span) (List Span) (List Span) (List Span) expr_layer pattern_layer qual_layer alt_layer branch_layer guard_layer item_layer segment_layer (O.Expr::Tuple at ys)

pub expr-List : (at : Span) (ys tail : List Expr) → expr_spans (x.List at ys tail) ≡ in_exprs ys ++ in_exprs tail
expr-List at ys tail = ap expr_spans (sym (x.rolls-List at ys tail)) ∙ fold-roll-Expr (List Span) (List Span) (List Span) (List Span) (List Span) (List Span) (List Span) (List Span) expr_layer pattern_layer qual_layer alt_layer branch_layer guard_layer item_layer segment_layer (O.Expr::List at ys tail)

pub expr-Bits : (at : Span) (sgs : List Segment) → expr_spans (x.Bits at sgs) ≡ in_segments sgs
expr-Bits at sgs = ap expr_spans (sym (x.rolls-Bits at sgs)) ∙ fold-roll-Expr (List Span) (List Span) (List Span) (List Span) (List Span) (List Span) (List Span) (List Span) expr_layer pattern_layer qual_layer alt_layer branch_layer guard_layer item_layer segment_layer (O.Expr::Bits at sgs)

pub expr-ListFor : (at : Span) (row : List Expr) (gs : List Qual) → expr_spans (x.ListFor at row gs) ≡ in_exprs row ++ in_quals gs
expr-ListFor at row gs = ap expr_spans (sym (x.rolls-ListFor at row gs)) ∙ fold-roll-Expr (List Span) (List Span) (List Span) (List Span) (List Span) (List Span) (List Span) (List Span) expr_layer pattern_layer qual_layer alt_layer branch_layer guard_layer item_layer segment_layer (O.ListFor at row gs)

pub expr-BitsFor : (at : Span) (row : List Expr) (gs : List Qual) → expr_spans (x.BitsFor at row gs) ≡ in_exprs row ++ in_quals gs
expr-BitsFor at row gs = ap expr_spans (sym (x.rolls-BitsFor at row gs)) ∙ fold-roll-Expr (List Span) (List Span) (List Span) (List Span) (List Span) (List Span) (List Span) (List Span) expr_layer pattern_layer qual_layer alt_layer branch_layer guard_layer item_layer segment_layer (O.BitsFor at row gs)

pub expr-Call : (at : Span) (home : List Expr) (name : ℕ) (ys : List Expr) → expr_spans (x.Call at home name ys) ≡ in_exprs home ++ in_exprs ys
expr-Call at home name ys = ap expr_spans (sym (x.rolls-Call at home name ys)) ∙ fold-roll-Expr (List Span) (List Span) (List Span) (List Span) (List Span) (List Span) (List Span) (List Span) expr_layer pattern_layer qual_layer alt_layer branch_layer guard_layer item_layer segment_layer (O.Call at home name ys)

pub expr-Case : (at : Span) (ys : List Expr) (alts : List Alt) → expr_spans (x.Case at ys alts) ≡ in_exprs ys ++ in_alts alts
expr-Case at ys alts = ap expr_spans (sym (x.rolls-Case at ys alts)) ∙ fold-roll-Expr (List Span) (List Span) (List Span) (List Span) (List Span) (List Span) (List Span) (List Span) expr_layer pattern_layer qual_layer alt_layer branch_layer guard_layer item_layer segment_layer (O.Case at ys alts)

pub expr-Receive : (at : Span) (alts : List Alt) → expr_spans (x.Receive at alts) ≡ in_alts alts
expr-Receive at alts = ap expr_spans (sym (x.rolls-Receive at alts)) ∙ fold-roll-Expr (List Span) (List Span) (List Span) (List Span) (List Span) (List Span) (List Span) (List Span) expr_layer pattern_layer qual_layer alt_layer branch_layer guard_layer item_layer segment_layer (O.Receive at alts)

pub expr-If : (at : Span) (bs : List Branch) → expr_spans (x.If at bs) ≡ in_branches bs
expr-If at bs = ap expr_spans (sym (x.rolls-If at bs)) ∙ fold-roll-Expr (List Span) (List Span) (List Span) (List Span) (List Span) (List Span) (List Span) (List Span) expr_layer pattern_layer qual_layer alt_layer branch_layer guard_layer item_layer segment_layer (O.If at bs)

pub expr-Unary : (at : Span) (op : Prefix) (ys : List Expr) → expr_spans (x.Unary at op ys) ≡ in_exprs ys
expr-Unary at op ys = ap expr_spans (sym (x.rolls-Unary at op ys)) ∙ fold-roll-Expr (List Span) (List Span) (List Span) (List Span) (List Span) (List Span) (List Span) (List Span) expr_layer pattern_layer qual_layer alt_layer branch_layer guard_layer item_layer segment_layer (O.Unary at op ys)

pub expr-Binary : (at : Span) (op : Op) (ys : List Expr) → expr_spans (x.Binary at op ys) ≡ in_exprs ys
expr-Binary at op ys = ap expr_spans (sym (x.rolls-Binary at op ys)) ∙ fold-roll-Expr (List Span) (List Span) (List Span) (List Span) (List Span) (List Span) (List Span) (List Span) expr_layer pattern_layer qual_layer alt_layer branch_layer guard_layer item_layer segment_layer (O.Binary at op ys)

pub pattern-Var : (at : Span) (name : List ℕ) → pattern_spans (p.Var at name) ≡ at ∷ []
pattern-Var at name = ap pattern_spans (sym (p.rolls-Var at name)) ∙ fold-roll-Pattern (List Span) (List Span) (List Span) (List Span) (List Span) (List Span) (List Span) (List Span) expr_layer pattern_layer qual_layer alt_layer branch_layer guard_layer item_layer segment_layer (O.Pattern::Var at name)

pub pattern-Wild : (at : Span) → pattern_spans (p.Wild at) ≡ []
pattern-Wild at = ap pattern_spans (sym (p.rolls-Wild at)) ∙ fold-roll-Pattern (List Span) (List Span) (List Span) (List Span) (List Span) (List Span) (List Span) (List Span) expr_layer pattern_layer qual_layer alt_layer branch_layer guard_layer item_layer segment_layer (O.Pattern::Wild at)

pub pattern-Int : (at : Span) (n : ℤ) → pattern_spans (p.Int at n) ≡ []
pattern-Int at n = ap pattern_spans (sym (p.rolls-Int at n)) ∙ fold-roll-Pattern (List Span) (List Span) (List Span) (List Span) (List Span) (List Span) (List Span) (List Span) expr_layer pattern_layer qual_layer alt_layer branch_layer guard_layer item_layer segment_layer (O.Pattern::Int at n)

pub pattern-Char : (at : Span) (c : ℕ) → pattern_spans (p.Char at c) ≡ []
pattern-Char at c = ap pattern_spans (sym (p.rolls-Char at c)) ∙ fold-roll-Pattern (List Span) (List Span) (List Span) (List Span) (List Span) (List Span) (List Span) (List Span) expr_layer pattern_layer qual_layer alt_layer branch_layer guard_layer item_layer segment_layer (O.Pattern::Char at c)

pub pattern-Atom : (at : Span) (a : ℕ) → pattern_spans (p.Atom at a) ≡ []
pattern-Atom at a = ap pattern_spans (sym (p.rolls-Atom at a)) ∙ fold-roll-Pattern (List Span) (List Span) (List Span) (List Span) (List Span) (List Span) (List Span) (List Span) expr_layer pattern_layer qual_layer alt_layer branch_layer guard_layer item_layer segment_layer (O.Pattern::Atom at a)

pub pattern-Str : (at : Span) (cs : List ℕ) → pattern_spans (p.Str at cs) ≡ []
pattern-Str at cs = ap pattern_spans (sym (p.rolls-Str at cs)) ∙ fold-roll-Pattern (List Span) (List Span) (List Span) (List Span) (List Span) (List Span) (List Span) (List Span) expr_layer pattern_layer qual_layer alt_layer branch_layer guard_layer item_layer segment_layer (O.Pattern::Str at cs)

pub pattern-Tuple : (at : Span) (ps : List Pattern) → pattern_spans (p.Tuple at ps) ≡ in_patterns ps
pattern-Tuple at ps = ap pattern_spans (sym (p.rolls-Tuple at ps)) ∙ fold-roll-Pattern (List Span) (List Span) (List Span) (List Span) (List Span) (List Span) (List Span) (List Span) expr_layer pattern_layer qual_layer alt_layer branch_layer guard_layer item_layer segment_layer (O.Pattern::Tuple at ps)

pub pattern-List : (at : Span) (ps tail : List Pattern) → pattern_spans (p.List at ps tail) ≡ in_patterns ps ++ in_patterns tail
pattern-List at ps tail = ap pattern_spans (sym (p.rolls-List at ps tail)) ∙ fold-roll-Pattern (List Span) (List Span) (List Span) (List Span) (List Span) (List Span) (List Span) (List Span) expr_layer pattern_layer qual_layer alt_layer branch_layer guard_layer item_layer segment_layer (O.Pattern::List at ps tail)

pub pattern-Bits : (at : Span) (sgs : List Segment) → pattern_spans (p.Bits at sgs) ≡ in_segments sgs
pattern-Bits at sgs = ap pattern_spans (sym (p.rolls-Bits at sgs)) ∙ fold-roll-Pattern (List Span) (List Span) (List Span) (List Span) (List Span) (List Span) (List Span) (List Span) expr_layer pattern_layer qual_layer alt_layer branch_layer guard_layer item_layer segment_layer (O.Pattern::Bits at sgs)

pub pattern-Same : (at : Span) (ps : List Pattern) → pattern_spans (p.Same at ps) ≡ in_patterns ps
pattern-Same at ps = ap pattern_spans (sym (p.rolls-Same at ps)) ∙ fold-roll-Pattern (List Span) (List Span) (List Span) (List Span) (List Span) (List Span) (List Span) (List Span) expr_layer pattern_layer qual_layer alt_layer branch_layer guard_layer item_layer segment_layer (O.Same at ps)

pub qual-Items : (at : Span) (pt : Pattern) (y : Expr) → qual_spans (q.Items at pt y) ≡ pattern_spans pt ++ expr_spans y
qual-Items at pt y = ap qual_spans (sym (q.rolls-Items at pt y)) ∙ fold-roll-Qual (List Span) (List Span) (List Span) (List Span) (List Span) (List Span) (List Span) (List Span) expr_layer pattern_layer qual_layer alt_layer branch_layer guard_layer item_layer segment_layer (O.Items at pt y)

pub qual-Bits : (at : Span) (sgs : List Segment) (y : Expr) → qual_spans (q.Bits at sgs y) ≡ in_segments sgs ++ expr_spans y
qual-Bits at sgs y = ap qual_spans (sym (q.rolls-Bits at sgs y)) ∙ fold-roll-Qual (List Span) (List Span) (List Span) (List Span) (List Span) (List Span) (List Span) (List Span) expr_layer pattern_layer qual_layer alt_layer branch_layer guard_layer item_layer segment_layer (O.Qual::Bits at sgs y)

pub qual-Filter : (at : Span) (y : Expr) → qual_spans (q.Filter at y) ≡ expr_spans y
qual-Filter at y = ap qual_spans (sym (q.rolls-Filter at y)) ∙ fold-roll-Qual (List Span) (List Span) (List Span) (List Span) (List Span) (List Span) (List Span) (List Span) expr_layer pattern_layer qual_layer alt_layer branch_layer guard_layer item_layer segment_layer (O.Filter at y)

pub guard-of : (ts : List (List Expr)) → (let g : Guard = record { alternatives = ts } in guard_spans g ≡ in_tests ts)
guard-of ts = fold_out-Guard (List Span) (List Span) (List Span) (List Span) (List Span) (List Span) (List Span) (List Span) expr_layer pattern_layer qual_layer alt_layer branch_layer guard_layer item_layer segment_layer (record { alternatives = ts })

pub item-of : (ps : List Pattern) (y : Expr) → (let i : Item = record { patterns = ps; value = y } in item_spans i ≡ in_patterns ps ++ expr_spans y)
item-of ps y = fold_out-Item (List Span) (List Span) (List Span) (List Span) (List Span) (List Span) (List Span) (List Span) expr_layer pattern_layer qual_layer alt_layer branch_layer guard_layer item_layer segment_layer (record { patterns = ps; value = y })

pub segment-of : (at : Span) (y : Expr) (size : Option Expr) (specs : List Spec) → (let s : Segment = record { at = at; value = y; size = size; specs = specs } in segment_spans s ≡ expr_spans y ++ in_size size)
segment-of at y None specs = fold_out-Segment (List Span) (List Span) (List Span) (List Span) (List Span) (List Span) (List Span) (List Span) expr_layer pattern_layer qual_layer alt_layer branch_layer guard_layer item_layer segment_layer (record { at = at; value = y; size = None; specs = specs })
segment-of at y (Some e) specs = fold_out-Segment (List Span) (List Span) (List Span) (List Span) (List Span) (List Span) (List Span) (List Span) expr_layer pattern_layer qual_layer alt_layer branch_layer guard_layer item_layer segment_layer (record { at = at; value = y; size = Some e; specs = specs })

abbrev of_alt : O.Alt-F Expr Pattern Qual Alt Branch Guard Item Segment → List Span
of_alt a = pattern_spans a.pattern ++ (guard_spans a.guard ++ in_items a.body)

abbrev of_branch : O.Branch-F Expr Pattern Qual Alt Branch Guard Item Segment → List Span
of_branch b = guard_spans b.guard ++ in_items b.body

pub alt-of : (at : Span) (pt : Pattern) (g : Guard) (is : List Item) → alt_spans (roll-Alt (record { at = at; pattern = pt; guard = g; body = is })) ≡ pattern_spans pt ++ (guard_spans g ++ in_items is)
alt-of at pt g is =
    let layer : O.Alt-F Expr Pattern Qual Alt Branch Guard Item Segment = record { at = at; pattern = pt; guard = g; body = is } in
    fold_out-Alt (List Span) (List Span) (List Span) (List Span) (List Span) (List Span) (List Span) (List Span) expr_layer pattern_layer qual_layer alt_layer branch_layer guard_layer item_layer segment_layer (roll-Alt layer) ∙ ap of_alt (out-roll-Alt layer)

pub branch-of : (at : Span) (g : Guard) (is : List Item) → branch_spans (roll-Branch (record { at = at; guard = g; body = is })) ≡ guard_spans g ++ in_items is
branch-of at g is =
    let layer : O.Branch-F Expr Pattern Qual Alt Branch Guard Item Segment = record { at = at; guard = g; body = is } in
    fold_out-Branch (List Span) (List Span) (List Span) (List Span) (List Span) (List Span) (List Span) (List Span) expr_layer pattern_layer qual_layer alt_layer branch_layer guard_layer item_layer segment_layer (roll-Branch layer) ∙ ap of_branch (out-roll-Branch layer)

abbrev pub in_clauses : List Clause → List Span
in_clauses cs = joined (map clause_spans cs)

-- ---- Forms with one part, or with one in front

pub expr-One : (at : Span) (op : Prefix) (y : Expr) → expr_spans (x.Unary at op (y ∷ [])) ≡ expr_spans y
expr-One at op y = expr-Unary at op (y ∷ []) ∙ append-nil (expr_spans y)

pub expr-Two : (at : Span) (op : Op) (y z : Expr) → expr_spans (x.Binary at op (y ∷ z ∷ [])) ≡ expr_spans y ++ expr_spans z
expr-Two at op y z = expr-Binary at op (y ∷ z ∷ []) ∙ ap (λ (w : List Span). expr_spans y ++ w) (append-nil (expr_spans z))

pub expr-OneCase : (at : Span) (y : Expr) (alts : List Alt) → expr_spans (x.Case at (y ∷ []) alts) ≡ expr_spans y ++ in_alts alts
expr-OneCase at y alts = expr-Case at (y ∷ []) alts ∙ ap (λ (w : List Span). w ++ in_alts alts) (append-nil (expr_spans y))

pub expr-OneCall : (at : Span) (y : Expr) (name : ℕ) (ys : List Expr) → expr_spans (x.Call at (y ∷ []) name ys) ≡ expr_spans y ++ in_exprs ys
expr-OneCall at y name ys = expr-Call at (y ∷ []) name ys ∙ ap (λ (w : List Span). w ++ in_exprs ys) (append-nil (expr_spans y))

pub expr-OneListFor : (at : Span) (y : Expr) (gs : List Qual) → expr_spans (x.ListFor at (y ∷ []) gs) ≡ expr_spans y ++ in_quals gs
expr-OneListFor at y gs = expr-ListFor at (y ∷ []) gs ∙ ap (λ (w : List Span). w ++ in_quals gs) (append-nil (expr_spans y))

pub expr-OneBitsFor : (at : Span) (y : Expr) (gs : List Qual) → expr_spans (x.BitsFor at (y ∷ []) gs) ≡ expr_spans y ++ in_quals gs
expr-OneBitsFor at y gs = expr-BitsFor at (y ∷ []) gs ∙ ap (λ (w : List Span). w ++ in_quals gs) (append-nil (expr_spans y))

pub expr-MoreList : (at : Span) (y : Expr) (ys tail : List Expr) → expr_spans (x.List at (y ∷ ys) tail) ≡ expr_spans y ++ (in_exprs ys ++ in_exprs tail)
expr-MoreList at y ys tail = expr-List at (y ∷ ys) tail ∙ append_assoc (expr_spans y) (in_exprs ys) (in_exprs tail)

pub item-More : (pt : Pattern) (ps : List Pattern) (y : Expr) → (let i : Item = record { patterns = pt ∷ ps; value = y } in let j : Item = record { patterns = ps; value = y } in item_spans i ≡ pattern_spans pt ++ item_spans j)
item-More pt ps y = item-of (pt ∷ ps) y ∙ append_assoc (pattern_spans pt) (in_patterns ps) (expr_spans y) ∙ ap (λ (w : List Span). pattern_spans pt ++ w) (sym (item-of ps y))
