-- What is read has its literals within the bounds where what it is read from has: one lemma a form.
use Rattle.std.proofs.Common.{◌≡◌, ℕ, zero, suc, ℤ, pos, negsuc, ◌+◌, ◌<◌, ◌≤◌, ◌^◌, Bool, true, false, List, [], ◌∷◌, ◌++◌, length, map, reverse, Option, Some, None, refl, arith}
use Rattle.std.specs.Prelude.{nat_le, nat_lt, neg_ℤ, ◌&&◌, not}
use Rattle.std.specs.List.{AllByRecursion, list_any}
use Rattle.std.specs.Prelude.{nat_eq}
use Rattle.std.proofs.lemmas.Bool.Decides.{nat_tests}
use Rattle.erl_syntax.specs.declared.expr.Op.{Op}
use Rattle.erl_syntax.specs.declared.expr.Op.TheVariants as o
use Rattle.erl_syntax.specs.declared.expr.Prefix.{Prefix}
use Rattle.erl_syntax.specs.declared.expr.Prefix.TheVariants as p
use Rattle.erl_syntax.specs.declared.segment.Spec.{Spec}
use Rattle.term_value.specs.Value.{Value, VInt, VAtom, VPid, VTuple, VList, VBits, count, weights, depths}
use Rattle.term_value.specs.Bounds.{item_bound, weight_bound, depth_bound}
use Rattle.term_value.specs.BuiltIns.{integers}
use Rattle.term_value.specs.Tree.{Target, Anything, Variable, Equal, Tree, Trees, end, Pattern, Segments, no_segment, segment}
use Rattle.term_value.specs.Rows.{uses, variable_where, shape_of_target, and_variable, shape_after, bits_generator}
use Rattle.term_value.specs.Read.{Read, expression, literal, trees, Piece, piece, pieces_of, pieces, before_size, parts, built_from, segments, listed, signed_target, prefixed, operation, Line, patterns, from_right, last_line, body, alternatives, guard_of, Branch, clauses, Qualifier, Generates, Filters, qualified, pattern_list}
use Rattle.term_laws.specs.Inside.{InTarget, InTree, InTrees, InClauses, InGuard, InQuals, InGenerator, InPattern, InPatterns, InSegments, IsBounded, AreBounded}
use Rattle.module_laws.proofs.Each.{each_append, each_turned}

-- ---- Values

-- within the bounds, and with the other sign too
abbrev pub IsNear : ℤ → Type 0
IsNear (pos n) = n < 2 ^ 127
IsNear (negsuc n) = n + 1 < 2 ^ 127

abbrev pub AreNear : List ℕ → Type 0
AreNear [] = Unit {0}
AreNear (c ∷ cs) = (c < 2 ^ 127) × AreNear cs

within_pos : (n : ℕ) → n < 2 ^ 127 → IsBounded (VInt (pos n))
within_pos n h = let t : nat_lt n (2 ^ 127) ≡ true = grind (arith, nat_tests) in rw t refl

within_neg : (n : ℕ) → n < 2 ^ 127 → IsBounded (VInt (negsuc n))
within_neg n h = let t : nat_lt n (2 ^ 127) ≡ true = grind (arith, nat_tests) in rw t refl

pub near_bounded : (z : ℤ) → IsNear z → IsBounded (VInt z)
near_bounded (pos n) h = within_pos n h
near_bounded (negsuc n) h = within_neg n (omega arith)

near_neg : (z : ℤ) → IsNear z → IsNear (neg_ℤ z)
near_neg (pos zero) h = h
near_neg (pos (suc n)) h = omega (arith, h)
near_neg (negsuc n) h = omega (arith, h)

le_true : (m n : ℕ) → m ≤ n → nat_le m n ≡ true
le_true m n h = grind (arith, nat_tests)

all_three : (x y z : Bool) → x ≡ true → y ≡ true → z ≡ true → (x && (y && z)) ≡ true
all_three true true true d e f = refl
all_three true true false d e f = cc f
all_three true false z d e f = cc e
all_three false y z d e f = cc d

counted : (cs : List ℕ) → count (integers cs) ≡ length cs
counted [] = refl
counted (c ∷ cs) = omega (arith, counted cs)

weighed : (cs : List ℕ) → weights (integers cs) ≡ length cs
weighed [] = refl
weighed (c ∷ cs) = omega (arith, weighed cs)

flat : (cs : List ℕ) → depths (integers cs) ≤ 1
flat [] = omega arith
flat (c ∷ cs) = omega (arith, flat cs)

letters_bounded : (cs : List ℕ) → AreNear cs → AreBounded (integers cs)
letters_bounded [] h = tt
letters_bounded (c ∷ cs) h = (within_pos c h.0, letters_bounded cs h.1)

pub string_bounded : (cs : List ℕ) → length cs ≤ 2 ^ 20 → AreNear cs → IsBounded (VList (integers cs))
string_bounded cs l h = (
  all_three (nat_le (count (integers cs)) item_bound) (nat_le (1 + weights (integers cs)) weight_bound) (nat_le (1 + depths (integers cs)) depth_bound)
      (le_true _ _ (omega (arith, counted cs, l))) (le_true _ _ (omega (arith, weighed cs, l))) (le_true _ _ (omega (arith, flat cs))),
  letters_bounded cs h,
)

-- ---- Expressions that were read

abbrev pub IsNumber : Value → Type 0
IsNumber (VInt n) = IsNear n
IsNumber (VAtom a) = Unit {0}
IsNumber _ = ⊥

abbrev pub IsAim : Target → Type 0
IsAim Anything = Unit {0}
IsAim (Variable x) = Unit {0}
IsAim (Equal v) = IsNumber v

abbrev pub OfLetters : Option (List ℕ) → Type 0
OfLetters None = Unit {0}
OfLetters (Some cs) = AreNear cs

-- its tree has its literals within the bounds, and so has what it is in a pattern's segment
abbrev pub IsRead : Read → Type 0
IsRead rd = InTree IsBounded rd.tree × IsAim rd.target × OfLetters rd.letters

abbrev pub AreRead : List Read → Type 0
AreRead rds = AllByRecursion IsRead rds

number_bounded : (v : Value) → IsNumber v → IsBounded v
number_bounded (VInt n) h = near_bounded n h
number_bounded (VAtom a) h = tt
number_bounded (VPid a) h = absurd h
number_bounded (VTuple vs) h = absurd h
number_bounded (VList vs) h = absurd h
number_bounded (VBits bits) h = absurd h

pub number_read : (v : Value) → IsNumber v → IsRead (literal v)
number_read v h = (number_bounded v h, h, tt)

aim_bounded : (t : Target) → IsAim t → InTarget IsBounded t
aim_bounded Anything h = tt
aim_bounded (Variable x) h = tt
aim_bounded (Equal v) h = number_bounded v h

pub trees_read : (rds : List Read) → AreRead rds → InTrees IsBounded (trees rds)
trees_read [] h = tt
trees_read (rd ∷ rds) h = (h.0.0, trees_read rds h.1)

pub listed_read : (items tail : List Read) → AreRead items → AreRead tail → InTree IsBounded (listed items tail)
listed_read items [] h g = trees_read items h
listed_read items (rd ∷ rds) h g = trees_read (items ++ rd ∷ []) (each_append IsRead items (rd ∷ []) h (g.0, tt))

pub operation_read : (op : Op) (l r : Read) → IsRead l → IsRead r → InTree IsBounded (operation op (l ∷ r ∷ []))
operation_read o.AndAlso l r h g = (h.0, g.0)
operation_read o.OrElse l r h g = (h.0, g.0)
operation_read _ l r h g = (h.0, (g.0, tt))

signed_number : (op : Prefix) (v : Value) → IsNumber v → IsAim (signed_target op (Equal v))
signed_number p.Minus (VInt n) h = near_neg n h
signed_number p.Plus (VInt n) h = h
signed_number p.Bnot (VInt n) h = tt
signed_number p.Not (VInt n) h = tt
signed_number p.Minus (VAtom a) h = tt
signed_number p.Plus (VAtom a) h = tt
signed_number p.Bnot (VAtom a) h = tt
signed_number p.Not (VAtom a) h = tt
signed_number _ (VPid a) h = absurd h
signed_number _ (VTuple vs) h = absurd h
signed_number _ (VList vs) h = absurd h
signed_number _ (VBits bits) h = absurd h

signed_aim : (op : Prefix) (t : Target) → IsAim t → IsAim (signed_target op t)
signed_aim op (Equal v) h = signed_number op v h
signed_aim p.Minus Anything h = tt
signed_aim p.Plus Anything h = tt
signed_aim p.Bnot Anything h = tt
signed_aim p.Not Anything h = tt
signed_aim p.Minus (Variable x) h = tt
signed_aim p.Plus (Variable x) h = tt
signed_aim p.Bnot (Variable x) h = tt
signed_aim p.Not (Variable x) h = tt

pub prefixed_read : (op : Prefix) (rd : Read) → IsRead rd → IsRead (prefixed op (rd ∷ []))
prefixed_read op rd h = ((h.0, tt), signed_aim op rd.target h.1, tt)

-- ---- Segments

abbrev pub OfSize : Option Tree → Type 0
OfSize None = Unit {0}
OfSize (Some t) = InTree IsBounded t

abbrev pub IsPiece : Piece → Type 0
IsPiece q = IsRead q.value × OfSize q.size

abbrev pub ArePieces : List Piece → Type 0
ArePieces ps = AllByRecursion IsPiece ps

abbrev pub OfRead : Option Read → Type 0
OfRead None = Unit {0}
OfRead (Some rd) = IsRead rd

piece_read : (size : Option Read) (words : List Spec) (value : Read) → OfRead size → IsRead value → IsPiece (piece size words value)
piece_read None words value g h = (h, tt)
piece_read (Some rd) words value g h = (h, g.0)

letter_pieces : (cs : List ℕ) (size : Option Read) (words : List Spec) → AreNear cs → OfRead size → ArePieces (map (λ c. piece size words (literal (VInt (pos c)))) cs)
letter_pieces [] size words h g = tt
letter_pieces (c ∷ cs) size words h g = (piece_read size words (literal (VInt (pos c))) g (number_read (VInt (pos c)) h.0), letter_pieces cs size words h.1 g)

pieces_by : (letters : Option (List ℕ)) (size : Option Read) (words : List Spec) (value : Read) → OfLetters letters → OfRead size → IsRead value → ArePieces (pieces_of letters size words value)
pieces_by None size words value l g h = (piece_read size words value g h, tt)
pieces_by (Some cs) size words value l g h = letter_pieces cs size words l g

pub pieces_read : (value : Read) (size : Option Read) (words : List Spec) → IsRead value → OfRead size → ArePieces (pieces value size words)
pieces_read value size words h g = pieces_by value.letters size words value h.2 g h

sized_trees : (size : Option Tree) (ts : Trees) → OfSize size → InTrees IsBounded ts → InTrees IsBounded (before_size size ts)
sized_trees None ts h g = g
sized_trees (Some t) ts h g = (h, g)

parts_read : (ps : List Piece) → ArePieces ps → InTrees IsBounded (parts ps)
parts_read [] h = tt
parts_read (q ∷ ps) h = (h.0.0.0, sized_trees q.size (parts ps) h.0.1 (parts_read ps h.1))

pub built_read : (ps : List Piece) → ArePieces ps → IsRead (expression (built_from ps))
built_read ps h = (parts_read ps h, tt, tt)

pub segments_read : (ps : List Piece) → ArePieces ps → InSegments IsBounded (segments ps)
segments_read [] h = tt
segments_read (q ∷ ps) h = (aim_bounded q.value.target h.0.0.1, sized_trees q.size end h.0.1 tt, segments_read ps h.1)

shaped_by : (b : Bool) (x : ℕ) → InTarget IsBounded (variable_where b x)
shaped_by true x = tt
shaped_by false x = tt

shaped_target : (earlier : List ℕ) (later : Segments) (t : Target) → InTarget IsBounded (shape_of_target earlier later t)
shaped_target earlier later Anything = tt
shaped_target earlier later (Equal v) = tt
shaped_target earlier later (Variable x) = shaped_by (not (list_any (nat_eq x) earlier) && uses x later) x

shaped : (earlier : List ℕ) (ss : Segments) → InSegments IsBounded ss → InSegments IsBounded (shape_after earlier ss)
shaped earlier no_segment h = tt
shaped earlier (segment typed target size ss) h = (shaped_target earlier ss target, h.1, shaped (and_variable earlier target) ss h.2)

pub bits_read : (ss : Segments) → InSegments IsBounded ss → InGenerator IsBounded (bits_generator ss)
bits_read ss h = (h, shaped [] ss h)

-- ---- Patterns, bodies, clauses and qualifiers

abbrev pub EachPattern : List Pattern → Type 0
EachPattern ps = AllByRecursion (InPattern IsBounded) ps

pub patterns_read : (ps : List Pattern) → EachPattern ps → InPatterns IsBounded (patterns ps)
patterns_read [] h = tt
patterns_read (q ∷ ps) h = (h.0, patterns_read ps h.1)

right_read : (ps : List Pattern) → EachPattern ps → InPatterns IsBounded (from_right ps)
right_read ps h = patterns_read (reverse ps) (each_turned (InPattern IsBounded) ps [] h tt)

pub pattern_list_read : (items tail : List Pattern) → EachPattern items → EachPattern tail → InPattern IsBounded (pattern_list items tail)
pattern_list_read items [] h g = patterns_read items h
pattern_list_read items (q ∷ ps) h g = (patterns_read items h, g.0)

abbrev pub IsLine : Line → Type 0
IsLine l = EachPattern l.patterns × InTree IsBounded l.value

abbrev pub EachLine : List Line → Type 0
EachLine ls = AllByRecursion IsLine ls

last_read : (ps : List Pattern) (t : Tree) → EachPattern ps → InTree IsBounded t → InTree IsBounded (last_line ps t)
last_read [] t h g = g
last_read (q ∷ ps) t h g = (g, right_read (q ∷ ps) h)

pub body_read : (ls : List Line) → EachLine ls → InTree IsBounded (body ls)
body_read [] h = tt
body_read (l ∷ []) h = last_read l.patterns l.value h.0.0 h.0.1
body_read (l ∷ next ∷ ls) h = (h.0.1, (right_read l.patterns h.0.0, body_read (next ∷ ls) h.1))

abbrev pub EachTest : List (List Read) → Type 0
EachTest tests = AllByRecursion AreRead tests

alternatives_read : (tests : List (List Read)) → EachTest tests → InGuard IsBounded (alternatives (map trees tests))
alternatives_read [] h = tt
alternatives_read (rds ∷ tests) h = (trees_read rds h.0, alternatives_read tests h.1)

pub guard_read : (tests : List (List Read)) → EachTest tests → InGuard IsBounded (guard_of tests)
guard_read [] h = (tt, tt)
guard_read (rds ∷ tests) h = alternatives_read (rds ∷ tests) h

abbrev pub IsBranch : Branch → Type 0
IsBranch b = InPatterns IsBounded b.heads × InGuard IsBounded b.guard × EachLine b.lines

abbrev pub EachBranch : List Branch → Type 0
EachBranch bs = AllByRecursion IsBranch bs

pub clauses_read : (bs : List Branch) → EachBranch bs → InClauses IsBounded (clauses bs)
clauses_read [] h = tt
clauses_read (b ∷ bs) h = (h.0.0, h.0.1, body_read b.lines h.0.2, clauses_read bs h.1)

abbrev pub IsQualifier : Qualifier → Type 0
IsQualifier (Generates t g) = InTree IsBounded t × InGenerator IsBounded g
IsQualifier (Filters t) = InTree IsBounded t

abbrev pub EachQualifier : List Qualifier → Type 0
EachQualifier qs = AllByRecursion IsQualifier qs

pub qualified_read : (qs : List Qualifier) (t : Tree) → EachQualifier qs → InTree IsBounded t → InQuals IsBounded (qualified qs t)
qualified_read [] t h g = g
qualified_read (Generates source generator ∷ qs) t h g = (h.0.0, h.0.1, qualified_read qs t h.1 g)
qualified_read (Filters filter ∷ qs) t h g = (h.0, qualified_read qs t h.1 g)
