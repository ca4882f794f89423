-- Code that stands for what a form of the text is read as, list by list.
use Rattle.std.proofs.Common.{◌≡◌, ℕ, List, [], ◌∷◌, ◌++◌, map, length, reverse, Option, Some, None, refl, sym, ◌∙◌, ap}
use Rattle.std.specs.List.{flat_map}
use Rattle.std.proofs.lemmas.List.{reverse-append, map-append}
use Rattle.erl_syntax.specs.declared.expr.Expr.{Expr}
use Rattle.erl_syntax.specs.declared.pattern.Pattern as syntax_pattern
use Rattle.erl_syntax.specs.Atoms.{a_ok}
use Rattle.term_value.specs.Value.{VAtom}
use Rattle.term_layers.proofs.Readings as form
use Rattle.erl_syntax.specs.declared.expr.Op.{Op}
use Rattle.erl_syntax.specs.declared.expr.Op.TheVariants as op
use Rattle.term_value.specs.Tree as t
use Rattle.term_value.specs.Read as read
use Rattle.term_value.specs.Read.{Reading, Read, Piece}
use Rattle.term_value.specs.ReadTrees as text
use Rattle.term_value.specs.Rows.{shape, bits_generator}
use Rattle.code_tree.specs.declared.pattern.Segment as code_segment
use Rattle.erl_syntax.specs.declared.qual.Qual.{Qual}
use Rattle.code_tree.specs.Reading as laid
use Rattle.code_layout.specs.Layout.{first_of, first_by, first_pattern_of, first_pattern_by, size_trees, piece_trees, piece_segment, Parts, parts_of, read_parts, qualifier_read, clause_parts}
use Rattle.erl_syntax.specs.declared.segment.Segment.{Segment}
use Rattle.erl_syntax.specs.declared.clause.Item.{Item}
use Rattle.erl_syntax.specs.declared.module.Clause.{Clause}
use Rattle.erl_syntax.specs.declared.clause.Alt.{Alt, out-Alt}
use Rattle.erl_syntax.specs.declared.clause.Branch.{out-Branch}
use Rattle.erl_syntax.specs.declared.clause.Branch as syntax_branch
use Rattle.code_layout.specs.Readings.{expr_read, segment_read, pieces_read, alt_read, branch_read, qual_read}

pub trees_of_reads : (reads : List Read) → laid.trees (map (λ q. q.tree) reads) ≡ read.trees reads
trees_of_reads [] = refl
trees_of_reads (q ∷ reads) = ap (t.and q.tree) (trees_of_reads reads)

pub trees_same : (r : Reading) (es : List Expr) → laid.trees (map (text.tree_of r) es) ≡ read.trees (map (expr_read r) es)
trees_same r [] = refl
trees_same r (e ∷ es) = ap (t.and (expr_read r e).tree) (trees_same r es)

pub patterns_same : (ps : List t.Pattern) → laid.patterns ps ≡ read.patterns ps
patterns_same [] = refl
patterns_same (p ∷ ps) = ap (t.pattern_and p) (patterns_same ps)

-- a segment's size
size_same : (o : Option t.Tree) → laid.size o ≡ read.before_size o t.end
size_same None = refl
size_same (Some u) = refl

pub segments_same : (ps : List Piece) → laid.segments (map piece_segment ps) ≡ read.segments ps
segments_same [] = refl
segments_same (q ∷ ps) = ap (λ z. t.segment q.typed q.value.target z (laid.segments (map piece_segment ps))) (size_same q.size) ∙ ap (t.segment q.typed q.value.target (read.before_size q.size t.end)) (segments_same ps)

before_same : (o : Option t.Tree) (us : List t.Tree) → laid.trees (size_trees o ++ us) ≡ read.before_size o (laid.trees us)
before_same None us = refl
before_same (Some u) us = refl

pub parts_same : (ps : List Piece) → laid.trees (flat_map piece_trees ps) ≡ read.parts ps
parts_same [] = refl
parts_same (q ∷ ps) = ap (t.and q.value.tree) (before_same q.size (flat_map piece_trees ps) ∙ ap (read.before_size q.size) (parts_same ps))

-- the alternatives of a guard
alternatives_same : (readss : List (List Read)) → laid.guard (map (map (λ q. q.tree)) readss) ≡ read.alternatives (map read.trees readss)
alternatives_same [] = refl
alternatives_same (reads ∷ readss) = ap (λ z. t.or z (laid.guard (map (map (λ (q : Read). q.tree)) readss))) (trees_of_reads reads) ∙ ap (t.or (read.trees reads)) (alternatives_same readss)

-- a line with its patterns from the right
abbrev pub from_right : read.Line → laid.LineRead
from_right l = record { patterns = reverse l.patterns; value = l.value }

last_some : (qs : List t.Pattern) (q : t.Pattern) (u : t.Tree) → laid.last (qs ++ q ∷ []) u ≡ t.First u (t.Last (laid.patterns (qs ++ q ∷ [])))
last_some [] q u = refl
last_some (p ∷ qs) q u = refl

last_first : (q : t.Pattern) (ps : List t.Pattern) → reverse (q ∷ ps) ≡ reverse ps ++ q ∷ []
last_first q ps = reverse-append (q ∷ []) ps

last_same : (ps : List t.Pattern) (u : t.Tree) → laid.last (reverse ps) u ≡ read.last_line ps u
last_same [] u = refl
last_same (q ∷ ps) u =
    ap (λ zs. laid.last zs u) (last_first q ps) ∙ last_some (reverse ps) q u ∙ ap (λ zs. t.First u (t.Last (laid.patterns zs))) (sym (last_first q ps)) ∙ ap (λ z. t.First u (t.Last z)) (patterns_same (reverse (q ∷ ps)))

pub body_same : (ls : List read.Line) → laid.body (map from_right ls) ≡ read.body ls
body_same [] = refl
body_same (l ∷ []) = last_same l.patterns l.value
body_same (l ∷ next ∷ ls) =
    ap (λ z. t.First l.value (t.Then z (laid.body (map from_right (next ∷ ls))))) (patterns_same (reverse l.patterns)) ∙ ap (λ z. t.First l.value (t.Then (read.from_right l.patterns) z)) (body_same (next ∷ ls))

parts_cons : (k : laid.ClauseRead) (b : read.Branch) (ks : t.Clauses) → parts_of k ≡ read_parts b → t.clause (laid.patterns k.patterns) k.guard k.body ks ≡ t.clause b.heads b.guard (read.body b.lines) ks
parts_cons k b ks h = ap (λ (p : Parts). t.clause p.heads p.guard p.body ks) h

pub clauses_same : (ks : List laid.ClauseRead) (bs : List read.Branch) → map parts_of ks ≡ map read_parts bs → laid.clauses ks ≡ read.clauses bs
clauses_same [] [] h = refl
clauses_same [] (b ∷ bs) h = cc
clauses_same (k ∷ ks) [] h = cc
clauses_same (k ∷ ks) (b ∷ bs) h =
    let one : parts_of k ≡ read_parts b = cc in
    let others : map parts_of ks ≡ map read_parts bs = cc in
    parts_cons k b (laid.clauses ks) one ∙ ap (t.clause b.heads b.guard (read.body b.lines)) (clauses_same ks bs others)

pub qualifiers_same : (qs : List read.Qualifier) (row : t.Tree) → laid.qualifiers (map qualifier_read qs) row ≡ read.qualified qs row
qualifiers_same [] row = refl
qualifiers_same (read.Generates source generator ∷ qs) row = ap (t.from source generator) (qualifiers_same qs row)
qualifiers_same (read.Filters filter ∷ qs) row = ap (t.test filter) (qualifiers_same qs row)

-- a guard with an alternative is that of its alternatives, and no guard is one alternative without tests
pub guard_same : (readss : List (List Read)) (uss : List (List t.Tree)) → uss ≡ map (map (λ q. q.tree)) readss → (readss ≡ [] → ⊥) → laid.guard uss ≡ read.guard_of readss
guard_same [] uss h some = absurd (some refl)
guard_same (reads ∷ readss) uss h some = ap laid.guard h ∙ alternatives_same (reads ∷ readss)

pub no_guard : (readss : List (List Read)) → readss ≡ [] → laid.guard ([] ∷ []) ≡ read.guard_of readss
no_guard [] h = refl
no_guard (reads ∷ readss) h = cc

-- lists of what was read, element by element
pub read_trees : (r : Reading) (es : List Expr) → map (text.tree_of r) es ≡ map (λ q. q.tree) (map (expr_read r) es)
read_trees r [] = refl
read_trees r (e ∷ es) = ap (λ zs. (expr_read r e).tree ∷ zs) (read_trees r es)

pub pieces_mapped : (r : Reading) (ss : List Segment) → pieces_read r ss ≡ flat_map (λ q. q) (map (segment_read r) ss)
pieces_mapped r [] = refl
pieces_mapped r (s ∷ ss) = ap (λ zs. segment_read r s ++ zs) (pieces_mapped r ss)

pub lines_mapped : (r : Reading) (is : List Item) → map (λ i. from_right (text.line_of r i)) is ≡ map from_right (map (text.line_of r) is)
lines_mapped r [] = refl
lines_mapped r (i ∷ is) = ap (λ zs. from_right (text.line_of r i) ∷ zs) (lines_mapped r is)

pub mapped : {X Y Z : Type 0} (f : X → Y) (g : Y → Z) (xs : List X) → map (λ x. g (f x)) xs ≡ map g (map f xs)
mapped f g [] = refl
mapped f g (x ∷ xs) = ap (λ zs. g (f x) ∷ zs) (mapped f g xs)

pub first_read : (r : Reading) (es : List Expr) → first_by r es ≡ first_of (map (expr_read r) es)
first_read r [] = refl
first_read r (e ∷ es) = refl

pub first_pattern_read : (r : Reading) (ps : List syntax_pattern.Pattern) → first_pattern_by r ps ≡ first_pattern_of (map (text.pattern_of r) ps)
first_pattern_read r [] = refl
first_pattern_read r (p ∷ ps) = refl

pub only_read : (r : Reading) (es : List Expr) (u : t.Tree) → first_by r es ≡ Some u → u ≡ read.only (map (expr_read r) es)
only_read r [] u h = cc
only_read r (e ∷ es) u h = cc

pub none_read : (r : Reading) (es : List Expr) → first_by r es ≡ None → read.only (map (expr_read r) es) ≡ t.Val (VAtom a_ok)
none_read r [] h = refl
none_read r (e ∷ es) h = cc

pub line_is : (r : Reading) (i : Item) (ps : List t.Pattern) (u : t.Tree) → ps ≡ reverse (map (text.pattern_of r) i.patterns) → u ≡ text.tree_of r i.value → record { patterns = ps; value = u } ≡ from_right (text.line_of r i)
line_is r i ps u h k =
    ap {B = laid.LineRead} (λ z. record { patterns = z; value = u }) h ∙ ap {B = laid.LineRead} (λ z. record { patterns = reverse (map (text.pattern_of r) i.patterns); value = z }) k ∙ ap from_right (sym (form.line_of-parts r i))

pub body_lines : (r : Reading) (is : List Item) (ls : List laid.LineRead) → ls ≡ map (λ i. from_right (text.line_of r i)) is → laid.body ls ≡ read.body (map (text.line_of r) is)
body_lines r is ls h = ap laid.body (h ∙ lines_mapped r is) ∙ body_same (map (text.line_of r) is)

pub parts_are : (heads others : t.Patterns) (g h : t.Guard) (b d : t.Tree) → heads ≡ others → g ≡ h → b ≡ d → ◌≡◌ {A = Parts} (record { heads = heads; guard = g; body = b }) (record { heads = others; guard = h; body = d })
parts_are heads others g h b d i j k =
    ap {B = Parts} (λ z. record { heads = z; guard = g; body = b }) i ∙ ap {B = Parts} (λ z. record { heads = others; guard = z; body = b }) j ∙ ap {B = Parts} (λ z. record { heads = others; guard = h; body = z }) k

-- parts that aren't two
pub not_and : (us : List t.Tree) (reads : List Read) → us ≡ map (λ q. q.tree) reads → (length us ≡ 2 → ⊥) → t.All (t.Table (t.Operate op.AndAlso)) (laid.trees us) ≡ read.operation op.AndAlso reads
not_and us [] h n = ap (λ zs. t.All (t.Table (t.Operate op.AndAlso)) (laid.trees zs)) h
not_and us (q ∷ []) h n = ap (λ zs. t.All (t.Table (t.Operate op.AndAlso)) (laid.trees zs)) h
not_and us (q ∷ s ∷ []) h n = absurd (n (ap length h))
not_and us (q ∷ s ∷ v ∷ reads) h n = ap (λ zs. t.All (t.Table (t.Operate op.AndAlso)) (laid.trees zs)) h ∙ ap (t.All (t.Table (t.Operate op.AndAlso))) (trees_of_reads (q ∷ s ∷ v ∷ reads))

pub not_or : (us : List t.Tree) (reads : List Read) → us ≡ map (λ q. q.tree) reads → (length us ≡ 2 → ⊥) → t.All (t.Table (t.Operate op.OrElse)) (laid.trees us) ≡ read.operation op.OrElse reads
not_or us [] h n = ap (λ zs. t.All (t.Table (t.Operate op.OrElse)) (laid.trees zs)) h
not_or us (q ∷ []) h n = ap (λ zs. t.All (t.Table (t.Operate op.OrElse)) (laid.trees zs)) h
not_or us (q ∷ s ∷ []) h n = absurd (n (ap length h))
not_or us (q ∷ s ∷ v ∷ reads) h n = ap (λ zs. t.All (t.Table (t.Operate op.OrElse)) (laid.trees zs)) h ∙ ap (t.All (t.Table (t.Operate op.OrElse))) (trees_of_reads (q ∷ s ∷ v ∷ reads))

-- a list, and a list on a tail
pub list_without : (reads tails : List Read) (us : List t.Tree) → us ≡ map (λ q. q.tree) reads → None ≡ first_of tails → t.All (t.Table t.MakeList) (laid.trees us) ≡ read.listed reads tails
list_without reads [] us h k = ap (λ zs. t.All (t.Table t.MakeList) (laid.trees zs)) h ∙ ap (t.All (t.Table t.MakeList)) (trees_of_reads reads)
list_without reads (q ∷ tails) us h k = cc

pub list_on : (reads tails : List Read) (us : List t.Tree) (u : t.Tree) → us ≡ map (λ q. q.tree) reads → Some u ≡ first_of tails → t.All (t.Table t.MakeListOn) (laid.trees (us ++ u ∷ [])) ≡ read.listed reads tails
list_on reads [] us u h k = cc
list_on reads (q ∷ tails) us u h k =
    let e : u ≡ q.tree = cc in
    ap (t.All (t.Table t.MakeListOn))
    (ap laid.trees (ap (λ zs. zs ++ u ∷ []) h ∙ ap (λ z. map (λ (s : Read). s.tree) reads ++ z ∷ []) e ∙ sym (map-append (λ (s : Read). s.tree) reads (q ∷ []))) ∙ trees_of_reads (reads ++ q ∷ []))

-- the clauses of the text as their parts
pub alt_parts : (r : Reading) (a : Alt) → read_parts (alt_read r a) ≡ record { heads = read.patterns (text.pattern_of r (out-Alt a).pattern ∷ []); guard = text.guard_tree r (out-Alt a).guard; body = read.body (map (text.line_of r) (out-Alt a).body) }
alt_parts r a = ap read_parts (form.alt_read-parts r a)

pub branch_parts : (r : Reading) (b : syntax_branch.Branch) → read_parts (branch_read r b) ≡ record { heads = t.no_pattern; guard = text.guard_tree r (out-Branch b).guard; body = read.body (map (text.line_of r) (out-Branch b).body) }
branch_parts r b = ap read_parts (form.branch_read-parts r b)

pub function_same : (r : Reading) (ks : List laid.ClauseRead) (cs : List Clause) → map parts_of ks ≡ map (clause_parts r) cs → laid.clauses ks ≡ text.function_clauses r cs
function_same r [] [] h = refl
function_same r [] (c ∷ cs) h = cc
function_same r (k ∷ ks) [] h = cc
function_same r (k ∷ ks) (c ∷ cs) h =
    let one : parts_of k ≡ clause_parts r c = cc in
    let others : map parts_of ks ≡ map (clause_parts r) cs = cc in
    ap (λ (p : Parts). t.clause p.heads p.guard p.body (laid.clauses ks)) one
    ∙ ap (t.clause (read.patterns (map (text.pattern_of r) c.patterns)) (text.guard_tree r c.guard) (read.body (map (text.line_of r) c.body))) (function_same r ks cs others)

-- an operator that is neither a send nor lazy
pub other_operation : (o : Op) (reads : List Read) → (o ≡ op.Send → ⊥) → (o ≡ op.AndAlso → ⊥) → (o ≡ op.OrElse → ⊥) → read.operation o reads ≡ t.All (t.Table (t.Operate o)) (read.trees reads)
other_operation op.Send reads s a b = absurd (s refl)
other_operation op.AndAlso reads s a b = absurd (a refl)
other_operation op.OrElse reads s a b = absurd (b refl)
other_operation _ reads s a b = refl

-- the alternatives of a guard, test by test
pub tests_read : (r : Reading) (ess : List (List Expr)) → map (map (text.tree_of r)) ess ≡ map (map (λ q. q.tree)) (map (map (expr_read r)) ess)
tests_read r [] = refl
tests_read r (es ∷ ess) = ap (λ zs. zs ∷ map (map (text.tree_of r)) ess) (read_trees r es) ∙ ap (λ zss. map (λ (q : Read). q.tree) (map (expr_read r) es) ∷ zss) (tests_read r ess)

-- a comprehension
pub gathered : (r : Reading) (got : t.Got) (qs : List laid.QualifierRead) (row : t.Tree) (quals : List Qual) (rows : List Expr) → qs ≡ map (λ g. qualifier_read (qual_read r g)) quals → row ≡ read.only (map (expr_read r) rows)
    → t.Gather got (laid.qualifiers qs row) t.bottom ≡ t.Gather got (read.qualified (map (qual_read r) quals) (read.only (map (expr_read r) rows))) t.bottom
gathered r got qs row quals rows h k =
    ap (λ z. t.Gather got (laid.qualifiers z row) t.bottom) (h ∙ mapped (qual_read r) qualifier_read quals) ∙ ap (λ z. t.Gather got z t.bottom) (qualifiers_same (map (qual_read r) quals) row)
    ∙ ap (λ z. t.Gather got (read.qualified (map (qual_read r) quals) z) t.bottom) k

-- a generator of bits
pub bits_same : (r : Reading) (ss : List Segment) (a b : List code_segment.Segment) → map laid.segment_of a ≡ map piece_segment (pieces_read r ss) → laid.segments_of b ≡ shape (laid.segments_of a)
    → t.InBits (laid.segments_of a) (laid.segments_of b) ≡ bits_generator (read.segments (flat_map (λ q. q) (map (segment_read r) ss)))
bits_same r ss a b h k =
    let all : laid.segments_of a ≡ read.segments (flat_map (λ q. q) (map (segment_read r) ss)) = ap laid.segments h ∙ segments_same (pieces_read r ss) ∙ ap read.segments (pieces_mapped r ss) in
    ap (t.InBits (laid.segments_of a)) (k ∙ ap shape all) ∙ ap (λ z. t.InBits z (shape (read.segments (flat_map (λ q. q) (map (segment_read r) ss))))) all

pub map_reversed : {X Y : Type 0} (f : X → Y) (xs : List X) → map f (reverse xs) ≡ reverse (map f xs)
map_reversed f [] = refl
map_reversed f (x ∷ xs) =
    ap (map f) (reverse-append (x ∷ []) xs) ∙ map-append f (reverse xs) (x ∷ []) ∙ ap (λ zs. zs ++ f x ∷ []) (map_reversed f xs) ∙ sym (reverse-append (f x ∷ []) (map f xs))
