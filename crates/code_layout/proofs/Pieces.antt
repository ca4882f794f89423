-- Segments that are laid out, one after another.
use Rattle.std.proofs.Common.{◌≡◌, ℕ, ◌+◌, ◌<◌, ◌≤◌, pos, List, [], ◌∷◌, ◌++◌, map, length, get_or, take, Option, Some, None, refl, sym, ◌∙◌, ap}
use Rattle.std.specs.Prelude.{is_some, option_map}
use Rattle.std.specs.List.{flat_map}
use Rattle.std.proofs.lemmas.List.{append_assoc, append-nil, map-append, take_more, take_all}
use Rattle.std.proofs.lemmas.Grind.{flat_map-append}
use Rattle.erl_syntax.specs.Typing.{type_by}
use Rattle.erl_syntax.specs.declared.expr.Expr.{Expr, out-Expr}
use Rattle.erl_syntax.specs.declared.segment.Segment as syntax_segment
use Rattle.erl_syntax.specs.declared.segment.Spec.{Spec}
use Rattle.erl_syntax.specs.declared.typing.Typed.{Typed}
use Rattle.term_value.specs.Value.{VInt}
use Rattle.term_value.specs.Tree as t
use Rattle.term_value.specs.Read as read
use Rattle.term_value.specs.Read.{Reading, Read, Piece}
use Rattle.term_layers.proofs.Readings as form
use Rattle.code_tree.specs.Reading as laid
use Rattle.code_tree.specs.Reading.{tree_of, segment_of, target_of}
use Rattle.code_tree.proofs.Equations.{segment_of-Plain, segment_of-Sized}
use Rattle.code_tree.specs.declared.tree.Tree.{Tree}
use Rattle.code_tree.specs.declared.pattern.Segment.{Segment}
use Rattle.code_tree.specs.declared.pattern.Target.{Target}
use Rattle.code_layout.specs.Layout.{size_by, size_trees, letter_pieces, piece_trees, piece_segment, Adds, AddsSegments}
use Rattle.code_layout.specs.Readings.{expr_read, segment_read, pieces_read, letters_in}
use Rattle.code_layout.proofs.Same.{parts_same}
use Rattle.code_layout.specs.declared.segments.Built.{Built}
use Rattle.code_layout.proofs.Layers.{letters_read}

-- ---- What a segment is read as

piece_is : (r : Reading) (o : Option Expr) (words : List Spec) (v : Read) → read.piece (form.optional_read r o) words v ≡ record { typed = type_by (is_some o) words; value = v; size = size_by r o }
piece_is r None words v = refl
piece_is r (Some e) words v = refl

letters_are : (r : Reading) (o : Option Expr) (words : List Spec) (letters : List ℕ) → map (λ c. read.piece (form.optional_read r o) words (read.literal (VInt (pos c)))) letters ≡ letter_pieces (type_by (is_some o) words) (size_by r o) letters
letters_are r None words letters = refl
letters_are r (Some e) words letters = refl

pub plain_segment : (r : Reading) (s : syntax_segment.Segment) → letters_in (out-Expr s.value) ≡ None → segment_read r s ≡ record { typed = type_by (is_some s.size) s.specs; value = expr_read r s.value; size = size_by r s.size } ∷ []
plain_segment r s h =
    form.segment_read-parts r s ∙ ap (λ o. read.pieces_of o (form.optional_read r s.size) s.specs (expr_read r s.value)) (letters_read r s.value ∙ h) ∙ ap (λ (q : Piece). q ∷ []) (piece_is r s.size s.specs (expr_read r s.value))

pub string_segment : (r : Reading) (s : syntax_segment.Segment) (letters : List ℕ) → letters_in (out-Expr s.value) ≡ Some letters → segment_read r s ≡ letter_pieces (type_by (is_some s.size) s.specs) (size_by r s.size) letters
string_segment r s letters h =
    form.segment_read-parts r s ∙ ap (λ o. read.pieces_of o (form.optional_read r s.size) s.specs (expr_read r s.value)) (letters_read r s.value ∙ h) ∙ letters_are r s.size s.specs letters

pub letters_more : (typed : Typed) (size : Option t.Tree) (letters : List ℕ) (i c : ℕ) → i < length letters → c ≡ get_or letters i c → letter_pieces typed size (take (i + 1) letters) ≡ letter_pieces typed size (take i letters) ++ record { typed = typed; value = read.literal (VInt (pos c)); size = size } ∷ []
letters_more typed size letters i c l e =
    ap (letter_pieces typed size) (take_more letters i c l ∙ ap (λ z. take i letters ++ z ∷ []) (sym e)) ∙ map-append (λ n. record { typed = typed; value = read.literal (VInt (pos n)); size = size }) (take i letters) (c ∷ [])

-- ---- Of a bit expression

pub adds_none : (b : Built) → Adds b b []
adds_none b = record { types = sym (append-nil b.types.items); parts = sym (append-nil (map tree_of b.parts.items)) }

pub adds_one : (old new : Built) (typed : Typed) (v : t.Tree) (o : Option t.Tree) (q : Piece) → new.types.items ≡ old.types.items ++ typed ∷ [] → map tree_of new.parts.items ≡ map tree_of old.parts.items ++ v ∷ size_trees o → typed ≡ q.typed → v ≡ q.value.tree → o ≡ q.size → Adds old new (q ∷ [])
adds_one old new typed v o q g h i j k = record {
  types = g ∙ ap (λ z. old.types.items ++ z ∷ []) i;
  parts = h ∙ ap (λ z. map tree_of old.parts.items ++ z ∷ size_trees o) j ∙ ap (λ z. map tree_of old.parts.items ++ q.value.tree ∷ size_trees z) k ∙ ap (λ zs. map tree_of old.parts.items ++ zs) (sym (append-nil (piece_trees q)));
}

pub adds_more : (a b c : Built) (ps qs : List Piece) → Adds a b ps → Adds b c qs → Adds a c (ps ++ qs)
adds_more a b c ps qs g h = record {
  types = h.types ∙ ap (λ zs. zs ++ read.types qs) g.types ∙ append_assoc a.types.items (read.types ps) (read.types qs) ∙ ap (λ zs. a.types.items ++ zs) (sym (map-append (λ (q : Piece). q.typed) ps qs));
  parts = h.parts ∙ ap (λ zs. zs ++ flat_map piece_trees qs) g.parts ∙ append_assoc (map tree_of a.parts.items) (flat_map piece_trees ps) (flat_map piece_trees qs) ∙ ap (λ zs. map tree_of a.parts.items ++ zs) (sym (flat_map-append piece_trees ps qs));
}

pub adds_same : (old new : Built) (ps qs : List Piece) → ps ≡ qs → Adds old new ps → Adds old new qs
adds_same old new ps qs e h = record { types = h.types ∙ ap (λ zs. old.types.items ++ read.types zs) e; parts = h.parts ∙ ap (λ zs. map tree_of old.parts.items ++ flat_map piece_trees zs) e }

-- ---- Of a bit pattern

pub segment_parts : (typed : Typed) (target : Target) (o : Option Tree) → segment_of (record { typed = typed; target = target; size = o }) ≡ record { typed = typed; target = target_of target; size = option_map tree_of o }
segment_parts typed target None = segment_of-Plain typed target
segment_parts typed target (Some u) = segment_of-Sized typed target u

pub matched_none : (old : List Segment) → AddsSegments old old []
matched_none old = sym (append-nil (map segment_of old))

read_parts : (typed : Typed) (target : t.Target) (o : Option t.Tree) (q : Piece) → typed ≡ q.typed → target ≡ q.value.target → o ≡ q.size → record { typed = typed; target = target; size = o } ≡ piece_segment q
read_parts typed target o q i j k =
    ap {B = laid.SegmentRead} (λ z. record { typed = z; target = target; size = o }) i ∙ ap {B = laid.SegmentRead} (λ z. record { typed = q.typed; target = z; size = o }) j ∙ ap {B = laid.SegmentRead} (λ z. record { typed = q.typed; target = q.value.target; size = z }) k

pub matched_one : (old new : List Segment) (typed : Typed) (target : Target) (o : Option Tree) (q : Piece) → new ≡ old ++ record { typed = typed; target = target; size = o } ∷ [] → typed ≡ q.typed → target_of target ≡ q.value.target → option_map tree_of o ≡ q.size → AddsSegments old new (q ∷ [])
matched_one old new typed target o q e i j k =
    ap (map segment_of) e ∙ map-append segment_of old (record { typed = typed; target = target; size = o } ∷ []) ∙ ap (λ z. map segment_of old ++ z ∷ []) (segment_parts typed target o ∙ read_parts typed (target_of target) (option_map tree_of o) q i j k)

pub matched_more : (a b c : List Segment) (ps qs : List Piece) → AddsSegments a b ps → AddsSegments b c qs → AddsSegments a c (ps ++ qs)
matched_more a b c ps qs g h = h ∙ ap (λ zs. zs ++ map piece_segment qs) g ∙ append_assoc (map segment_of a) (map piece_segment ps) (map piece_segment qs) ∙ ap (λ zs. map segment_of a ++ zs) (sym (map-append piece_segment ps qs))

pub matched_same : (old new : List Segment) (ps qs : List Piece) → ps ≡ qs → AddsSegments old new ps → AddsSegments old new qs
matched_same old new ps qs e h = h ∙ ap (λ zs. map segment_of old ++ map piece_segment zs) e

-- ---- All segments

pieces_more : (r : Reading) (ss : List syntax_segment.Segment) (i : ℕ) (one : syntax_segment.Segment) → i < length ss → one ≡ get_or ss i one → pieces_read r (take (i + 1) ss) ≡ pieces_read r (take i ss) ++ segment_read r one
pieces_more r ss i one l e =
    ap (pieces_read r) (take_more ss i one l ∙ ap (λ z. take i ss ++ z ∷ []) (sym e)) ∙ flat_map-append (segment_read r) (take i ss) (one ∷ []) ∙ ap (λ zs. pieces_read r (take i ss) ++ zs) (append-nil (segment_read r one))

-- these segments were laid out
abbrev pub IsBuilt : Reading → List syntax_segment.Segment → Built → Type 0
IsBuilt r ss b = (b.types.items ≡ read.types (pieces_read r ss)) × (map tree_of b.parts.items ≡ flat_map piece_trees (pieces_read r ss))

pub built_more : (r : Reading) (ss : List syntax_segment.Segment) (i : ℕ) (one : syntax_segment.Segment) (old new : Built) → i < length ss → one ≡ get_or ss i one → Adds old new (segment_read r one) → IsBuilt r (take i ss) old → IsBuilt r (take (i + 1) ss) new
built_more r ss i one old new l e h b =
    let more : pieces_read r (take i ss) ++ segment_read r one ≡ pieces_read r (take (i + 1) ss) = sym (pieces_more r ss i one l e) in (
      h.types ∙ ap (λ zs. zs ++ read.types (segment_read r one)) b.0 ∙ sym (map-append (λ (q : Piece). q.typed) (pieces_read r (take i ss)) (segment_read r one)) ∙ ap read.types more,
      h.parts ∙ ap (λ zs. zs ++ flat_map piece_trees (segment_read r one)) b.1 ∙ sym (flat_map-append piece_trees (pieces_read r (take i ss)) (segment_read r one)) ∙ ap (flat_map piece_trees) more,
    )

pub built_all : (r : Reading) (ss : List syntax_segment.Segment) (i : ℕ) (b : Built) (types : List Typed) (u : t.Tree) → length ss ≤ i → IsBuilt r (take i ss) b → types ≡ b.types.items → u ≡ t.All (t.Table (t.Build types)) (laid.trees (map tree_of b.parts.items)) → u ≡ read.built_from (pieces_read r ss)
built_all r ss i b types u l h e g =
    let all : pieces_read r (take i ss) ≡ pieces_read r ss = ap (pieces_read r) (take_all i ss l) in
    g ∙ ap (λ ts. t.All (t.Table (t.Build ts)) (laid.trees (map tree_of b.parts.items))) (e ∙ h.0 ∙ ap read.types all)
    ∙ ap (t.All (t.Table (t.Build (read.types (pieces_read r ss))))) (ap laid.trees (h.1 ∙ ap (flat_map piece_trees) all) ∙ parts_same (pieces_read r ss))

pub matched_on : (r : Reading) (ss : List syntax_segment.Segment) (i : ℕ) (one : syntax_segment.Segment) (old new : List Segment) → i < length ss → one ≡ get_or ss i one → AddsSegments old new (segment_read r one) → map segment_of old ≡ map piece_segment (pieces_read r (take i ss)) → map segment_of new ≡ map piece_segment (pieces_read r (take (i + 1) ss))
matched_on r ss i one old new l e h b =
    h ∙ ap (λ zs. zs ++ map piece_segment (segment_read r one)) b ∙ sym (map-append piece_segment (pieces_read r (take i ss)) (segment_read r one)) ∙ ap (map piece_segment) (sym (pieces_more r ss i one l e))
