-- The shape of a bit pattern, segment by segment.
use Rattle.std.proofs.Common.{◌≡◌, ℕ, ◌+◌, ◌<◌, ◌≤◌, Bool, true, false, suc, List, [], ◌∷◌, ◌++◌, map, length, get_or, take, drop, reverse, Option, Some, None, refl, sym, ◌∙◌, ap, arith}
use Rattle.std.specs.Prelude.{◌||◌, ◌&&◌, not, nat_eq, option_map}
use Rattle.std.specs.List.{list_any}
use Rattle.std.proofs.Math.Seq.{drop-cons}
use Rattle.std.proofs.lemmas.List.{map-append, drop_all, reverse-append}
use Rattle.std.proofs.lemmas.List.Folds.{list_any-append}
use Rattle.term_value.specs.Seen.{Seen}
use Rattle.term_value.specs.Tree as t
use Rattle.term_value.specs.Rows.{mentions, one_mentions, uses, shape, shape_after, shape_of_target, variable_where, and_variable}
use Rattle.code_tree.specs.Reading as laid
use Rattle.code_tree.specs.Reading.{tree_of, segment_of, segments_of, trees_of, target_of}
use Rattle.code_tree.specs.declared.form.Form.{Form}
use Rattle.code_tree.specs.declared.clause.Clause.{Clause}
use Rattle.code_tree.specs.declared.qualifier.Collected.{Collected}
use Rattle.code_tree.specs.declared.qualifier.Qualifier.{Qualifier}
use Rattle.code_tree.specs.declared.tree.Tree.{Tree}
use Rattle.code_tree.specs.declared.tree.Tree.TheVariants as v
use Rattle.code_tree.specs.declared.pattern.Segment.{Segment}
use Rattle.code_tree.proofs.Equations.{tree_of-Value, tree_of-Variable, tree_of-All, tree_of-Case, tree_of-AndAlso, tree_of-OrElse, tree_of-If, tree_of-Receive, tree_of-Comprehension}
use Rattle.code_layout.proofs.Loops.{from_here}
use Rattle.code_layout.proofs.Pieces.{segment_parts}

pub mentions_here : (x : ℕ) (parts : List Tree) (i : ℕ) (one : Tree) (b : Bool) → i < length parts → one ≡ get_or parts i one → b ≡ mentions x (tree_of one) → one_mentions x (trees_of (drop i parts)) ≡ (b || one_mentions x (trees_of (drop (i + 1) parts)))
mentions_here x parts i one b l e h = ap (λ us. one_mentions x (trees_of us)) (from_here parts i one l e) ∙ ap (λ c. c || one_mentions x (trees_of (drop (i + 1) parts))) (sym h)

pub none_left : (x : ℕ) (parts : List Tree) (i : ℕ) → length parts ≤ i → one_mentions x (trees_of (drop i parts)) ≡ false
none_left x parts i l = ap (λ us. one_mentions x (trees_of us)) (drop_all i parts l)

-- segments before others
abbrev pub onto : List laid.SegmentRead → t.Segments → t.Segments
onto [] ss = ss
onto (s ∷ before) ss = t.segment s.typed s.target (laid.size s.size) (onto before ss)

pub onto_none : (before : List laid.SegmentRead) → onto before t.no_segment ≡ laid.segments before
onto_none [] = refl
onto_none (s ∷ before) = ap (t.segment s.typed s.target (laid.size s.size)) (onto_none before)

pub onto_last : (before : List laid.SegmentRead) (s : laid.SegmentRead) (ss : t.Segments) → onto (before ++ s ∷ []) ss ≡ onto before (t.segment s.typed s.target (laid.size s.size) ss)
onto_last [] s ss = refl
onto_last (b ∷ before) s ss = ap (t.segment b.typed b.target (laid.size b.size)) (onto_last before s ss)

-- ---- What mentions a variable

pub mentions-Variable : (x : ℕ) (u : Tree) (y : ℕ) → u ≡ v.Variable y → nat_eq x y ≡ mentions x (tree_of u)
mentions-Variable x u y h = sym (ap (mentions x) (ap tree_of h ∙ tree_of-Variable y))

pub mentions-All : (x : ℕ) (u : Tree) (form : Form) (parts : List Tree) (b : Bool) → u ≡ v.All form parts → b ≡ one_mentions x (trees_of parts) → b ≡ mentions x (tree_of u)
mentions-All x u form parts b h k = k ∙ sym (ap (mentions x) (ap tree_of h ∙ tree_of-All form parts))

pub mentions-AndAlso : (x : ℕ) (u one two : Tree) (b : Bool) → u ≡ v.AndAlso one two → b ≡ (mentions x (tree_of one) || mentions x (tree_of two)) → b ≡ mentions x (tree_of u)
mentions-AndAlso x u one two b h k = k ∙ sym (ap (mentions x) (ap tree_of h ∙ tree_of-AndAlso one two))

pub mentions-OrElse : (x : ℕ) (u one two : Tree) (b : Bool) → u ≡ v.OrElse one two → b ≡ (mentions x (tree_of one) || mentions x (tree_of two)) → b ≡ mentions x (tree_of u)
mentions-OrElse x u one two b h k = k ∙ sym (ap (mentions x) (ap tree_of h ∙ tree_of-OrElse one two))

pub mentions-Value : (x : ℕ) (u : Tree) (s : Seen (List Bool)) → u ≡ v.Value s → false ≡ mentions x (tree_of u)
mentions-Value x u s h = sym (ap (mentions x) (ap tree_of h ∙ tree_of-Value s))

pub mentions-Case : (x : ℕ) (u one : Tree) (ks : List Clause) → u ≡ v.Case one ks → false ≡ mentions x (tree_of u)
mentions-Case x u one ks h = sym (ap (mentions x) (ap tree_of h ∙ tree_of-Case one ks))

pub mentions-If : (x : ℕ) (u : Tree) (ks : List Clause) → u ≡ v.If ks → false ≡ mentions x (tree_of u)
mentions-If x u ks h = sym (ap (mentions x) (ap tree_of h ∙ tree_of-If ks))

pub mentions-Receive : (x : ℕ) (u : Tree) (ks : List Clause) → u ≡ v.Receive ks → false ≡ mentions x (tree_of u)
mentions-Receive x u ks h = sym (ap (mentions x) (ap tree_of h ∙ tree_of-Receive ks))

pub mentions-Comprehension : (x : ℕ) (u : Tree) (collected : Collected) (qs : List Qualifier) (row : Tree) → u ≡ v.Comprehension collected qs row → false ≡ mentions x (tree_of u)
mentions-Comprehension x u collected qs row h = sym (ap (mentions x) (ap tree_of h ∙ tree_of-Comprehension collected qs row))

or_none : (b : Bool) → b ≡ (b || false)
or_none true = refl
or_none false = refl

-- ---- What a size uses

pub size_mentions-Some : (x : ℕ) (o : Option Tree) (u : Tree) (b : Bool) → o ≡ Some u → b ≡ mentions x (tree_of u) → b ≡ one_mentions x (laid.size (option_map tree_of o))
size_mentions-Some x o u b h k = k ∙ or_none (mentions x (tree_of u)) ∙ sym (ap (λ z. one_mentions x (laid.size (option_map tree_of z))) h)

pub size_mentions-None : (x : ℕ) (o : Option Tree) → o ≡ None → false ≡ one_mentions x (laid.size (option_map tree_of o))
size_mentions-None x o h = sym (ap (λ z. one_mentions x (laid.size (option_map tree_of z))) h)

uses_front : (x : ℕ) (s : Segment) (ss : List Segment) → uses x (segments_of (s ∷ ss)) ≡ (one_mentions x (laid.size (option_map tree_of s.size)) || uses x (segments_of ss))
uses_front x s ss = ap (λ (q : laid.SegmentRead). one_mentions x (laid.size q.size) || uses x (segments_of ss)) (segment_parts s.typed s.target s.size)

pub uses_here : (x : ℕ) (ss : List Segment) (i : ℕ) (one : Segment) (b : Bool) → i < length ss → one ≡ get_or ss i one → b ≡ one_mentions x (laid.size (option_map tree_of one.size)) → uses x (segments_of (drop i ss)) ≡ (b || uses x (segments_of (drop (i + 1) ss)))
uses_here x ss i one b l e h = ap (λ zs. uses x (segments_of zs)) (from_here ss i one l e) ∙ uses_front x one (drop (i + 1) ss) ∙ ap (λ c. c || uses x (segments_of (drop (i + 1) ss))) (sym h)

pub none_used : (x : ℕ) (ss : List Segment) (i : ℕ) → length ss ≤ i → uses x (segments_of (drop i ss)) ≡ false
none_used x ss i l = ap (λ zs. uses x (segments_of zs)) (drop_all i ss l)

-- ---- A shape

or_last : (a b : Bool) → (a || (b || false)) ≡ (b || a)
or_last true true = refl
or_last true false = refl
or_last false true = refl
or_last false false = refl

any_reversed : (p : ℕ → Bool) (xs : List ℕ) → list_any p (reverse xs) ≡ list_any p xs
any_reversed p [] = refl
any_reversed p (x ∷ xs) =
    ap (list_any p) (reverse-append (x ∷ []) xs) ∙ list_any-append p (reverse xs) (x ∷ []) ∙ or_last (list_any p (reverse xs)) (p x) ∙ ap (λ b. p x || b) (any_reversed p xs)

pub target_reversed : (earlier : List ℕ) (ss : t.Segments) (target : t.Target) → shape_of_target (reverse earlier) ss target ≡ shape_of_target earlier ss target
target_reversed earlier ss t.Anything = refl
target_reversed earlier ss (t.Equal s) = refl
target_reversed earlier ss (t.Variable x) = ap (λ b. variable_where (not b && uses x ss) x) (any_reversed (nat_eq x) earlier)

pub noted : (earlier now : List ℕ) (x : ℕ) → now ≡ earlier ++ x ∷ [] → reverse now ≡ x ∷ reverse earlier
noted earlier now x h = ap reverse h ∙ reverse-append earlier (x ∷ [])

-- what a variable of the shape wants
pub kept_variable : (earlier : List ℕ) (ss : t.Segments) (x : ℕ) (b c : Bool) → list_any (nat_eq x) earlier ≡ b → uses x ss ≡ c → variable_where (not b && c) x ≡ shape_of_target earlier ss (t.Variable x)
kept_variable earlier ss x b c h k = ap (λ d. variable_where (not d && c) x) (sym h) ∙ ap (λ d. variable_where (not (list_any (nat_eq x) earlier) && d) x) (sym k)

-- one more segment of a shape
pub shape_more : (earlier next : List ℕ) (s made : Segment) (left rest found new : List Segment) → left ≡ s ∷ rest → new ≡ found ++ made ∷ []
    → made.typed ≡ s.typed → target_of made.target ≡ shape_of_target earlier (segments_of rest) (target_of s.target) → made.size ≡ s.size → reverse next ≡ and_variable (reverse earlier) (target_of s.target)
    → onto (map segment_of found) (shape_after (reverse earlier) (segments_of left)) ≡ onto (map segment_of new) (shape_after (reverse next) (segments_of rest))
shape_more earlier next s made left rest found new le ne ty ta sz an =
    let R : t.Segments = segments_of rest in
    let T : t.Target = target_of s.target in
    let before : List laid.SegmentRead = map segment_of found in
    let M : laid.SegmentRead = record { typed = s.typed; target = shape_of_target (reverse earlier) R T; size = option_map tree_of s.size } in
    let is : segment_of made ≡ M =
    segment_parts made.typed made.target made.size ∙ ap {B = laid.SegmentRead} (λ z. record { typed = z; target = target_of made.target; size = option_map tree_of made.size }) ty
    ∙ ap {B = laid.SegmentRead} (λ z. record { typed = s.typed; target = z; size = option_map tree_of made.size }) (ta ∙ sym (target_reversed earlier R T))
    ∙ ap {B = laid.SegmentRead} (λ z. record { typed = s.typed; target = shape_of_target (reverse earlier) R T; size = option_map tree_of z }) sz in
    ap (λ zs. onto before (shape_after (reverse earlier) (segments_of zs))) le
    ∙ ap (λ (q : laid.SegmentRead). onto before (t.segment q.typed (shape_of_target (reverse earlier) R q.target) (laid.size q.size) (shape_after (and_variable (reverse earlier) q.target) R))) (segment_parts s.typed s.target s.size)
    ∙ ap (λ xs. onto before (t.segment s.typed (shape_of_target (reverse earlier) R T) (laid.size (option_map tree_of s.size)) (shape_after xs R))) (sym an)
    ∙ sym (onto_last before M (shape_after (reverse next) R))
    ∙ ap (λ z. onto (before ++ z ∷ []) (shape_after (reverse next) R)) (sym is)
    ∙ ap (λ zs. onto zs (shape_after (reverse next) R)) (sym (map-append segment_of found (made ∷ [])) ∙ ap (map segment_of) (sym ne))

pub shape_all : (earlier : List ℕ) (left found : List Segment) (ss : t.Segments) → left ≡ [] → ss ≡ onto (map segment_of found) (shape_after (reverse earlier) (segments_of left)) → segments_of found ≡ ss
shape_all earlier left found ss le h = sym (h ∙ ap (λ zs. onto (map segment_of found) (shape_after (reverse earlier) (segments_of zs))) le ∙ onto_none (map segment_of found))
