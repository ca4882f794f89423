-- Which variables the forms of a pattern have, and what the forms of an expression leave unsafe.
use Rattle.std.proofs.Common.{◌≡◌, ℕ, ◌+◌, ◌<◌, ◌≤◌, List, [], ◌∷◌, ◌++◌, map, length, get_or, take, Option, Some, None, refl, sym, ◌∙◌, ap}
use Rattle.std.specs.List.{flat_map}
use Rattle.std.proofs.lemmas.List.{append_assoc, append-nil, map-append, take_more, take_all}
use Rattle.std.proofs.lemmas.Grind.{flat_map-append}
use Rattle.erl_syntax.specs.Bindings.{Bound, Vars, Row, names, joined, unsafe_in, expr_layer, pattern_layer, qual_layer, alt_layer, branch_layer, guard_layer, item_layer, segment_layer, vars_of, targets, vars_of_segment, targets_of, segment_targets, new_names, qual_unsafe}
use Rattle.erl_syntax.specs.declared.span.Span.{Span}
use Rattle.erl_syntax.specs.declared.expr.Expr.{Expr}
use Rattle.erl_syntax.specs.declared.expr.Expr.TheVariants as x
use Rattle.erl_syntax.specs.declared.expr.Expr.TheOpen as O
use Rattle.erl_syntax.specs.declared.expr.Expr.TheFolds.{fold-Alt, fold-Branch, fold-Item, fold-roll-Expr, fold-roll-Pattern, fold-roll-Qual, fold_out-Alt, fold_out-Branch, fold_out-Segment, fold_out-Item}
use Rattle.erl_syntax.specs.declared.expr.Op.{Op}
use Rattle.erl_syntax.specs.declared.expr.Prefix.{Prefix}
use Rattle.erl_syntax.specs.declared.pattern.Pattern.{Pattern}
use Rattle.erl_syntax.specs.declared.pattern.Pattern.TheVariants as p
use Rattle.erl_syntax.specs.declared.segment.Segment.{Segment}
use Rattle.erl_syntax.specs.declared.segment.Spec.{Spec}
use Rattle.erl_syntax.specs.declared.qual.Qual.{Qual}
use Rattle.erl_syntax.specs.declared.qual.Qual.TheVariants as q
use Rattle.erl_syntax.specs.declared.clause.Item.{Item}
use Rattle.erl_syntax.specs.declared.clause.Alt.{Alt, out-Alt}
use Rattle.erl_syntax.specs.declared.clause.Branch.{Branch, out-Branch}
use Rattle.erl_syntax.specs.Scopes.{sizes_of}
use Rattle.module_check.specs.Tasks.{built_exprs}
use Rattle.module_check.specs.Unsafe.{unsafe_of, size_part, part_unsafe, segment_unsafe, item_unsafe, items_unsafe, alt_unsafe, alts_unsafe, branch_unsafe, branches_unsafe}

-- a loop that adds what each element gives
pub flat_more : {X A : Type 0} (f : X → List A) (xs : List X) (i : ℕ) (one : X) (old mid new : List A) → i < length xs → one ≡ get_or xs i one → mid ≡ old ++ flat_map f (take i xs) → new ≡ mid ++ f one → new ≡ old ++ flat_map f (take (i + 1) xs)
flat_more f xs i one old mid new l e m n =
    n ∙ ap (λ zs. zs ++ f one) m ∙ append_assoc old (flat_map f (take i xs)) (f one)
    ∙ ap (λ zs. old ++ zs) (ap (λ zs. flat_map f (take i xs) ++ zs) (sym (append-nil (f one))) ∙ sym (flat_map-append f (take i xs) (one ∷ [])) ∙ ap (flat_map f) (ap (λ z. take i xs ++ z ∷ []) e ∙ sym (take_more xs i one l)))

pub flat_end : {X A : Type 0} (f : X → List A) (xs : List X) (i : ℕ) (old mid : List A) → length xs ≤ i → mid ≡ old ++ flat_map f (take i xs) → mid ≡ old ++ flat_map f xs
flat_end f xs i old mid l m = m ∙ ap (λ zs. old ++ flat_map f zs) (take_all i xs l)

pub twice : {A : Type 0} (a b c d e r : List A) → b ≡ a ++ d → c ≡ b ++ e → d ++ e ≡ r → c ≡ a ++ r
twice a b c d e r g h k = h ∙ ap (λ zs. zs ++ e) g ∙ append_assoc a d e ∙ ap (λ zs. a ++ zs) k

pub once : {A : Type 0} (a b d r : List A) → b ≡ a ++ d → d ≡ r → b ≡ a ++ r
once a b d r g k = g ∙ ap (λ zs. a ++ zs) k

-- names of bounds that are added
pub names_added : (a b d : List Bound) → b ≡ a ++ d → names b ≡ names a ++ names d
names_added a b d e = ap names e ∙ map-append (λ z. z.name) a d

flat_joined : {X A : Type 0} (f : X → List A) (xs : List X) → joined (map f xs) ≡ flat_map f xs
flat_joined f [] = refl
flat_joined f (y ∷ ys) = ap (λ zs. f y ++ zs) (flat_joined f ys)

flat_unsafe : (es : List Expr) → unsafe_in (map vars_of es) ≡ unsafe_of es
flat_unsafe [] = refl
flat_unsafe (e ∷ es) = ap (λ zs. (vars_of e).left_unsafe ++ zs) (flat_unsafe es)

own_of : (sgs : List Segment) → flat_map (λ v. v.own) (map vars_of_segment sgs) ≡ segment_targets sgs
own_of [] = refl
own_of (s ∷ sgs) = ap (λ zs. (vars_of_segment s).own ++ zs) (own_of sgs)

pub tuple_targets : (pt : Pattern) (at : Span) (ps : List Pattern) → pt ≡ p.Tuple at ps → targets_of ps ≡ targets pt
tuple_targets pt at ps h = sym (ap targets (h ∙ sym (p.rolls-Tuple at ps)) ∙ fold-roll-Pattern Vars (List Bound) Row (List (List ℕ)) (List (List ℕ)) (Unit {0}) (List (List ℕ)) Vars expr_layer pattern_layer qual_layer alt_layer branch_layer guard_layer item_layer segment_layer (O.Pattern::Tuple at ps) ∙ flat_joined targets ps)

pub list_targets : (pt : Pattern) (at : Span) (ps tail : List Pattern) → pt ≡ p.List at ps tail → targets_of ps ++ targets_of tail ≡ targets pt
list_targets pt at ps tail h = sym (ap targets (h ∙ sym (p.rolls-List at ps tail)) ∙ fold-roll-Pattern Vars (List Bound) Row (List (List ℕ)) (List (List ℕ)) (Unit {0}) (List (List ℕ)) Vars expr_layer pattern_layer qual_layer alt_layer branch_layer guard_layer item_layer segment_layer (O.Pattern::List at ps tail) ∙ (ap (λ zs. zs ++ joined (map targets tail)) (flat_joined targets ps) ∙ ap (λ zs. targets_of ps ++ zs) (flat_joined targets tail)))

pub bits_targets : (pt : Pattern) (at : Span) (sgs : List Segment) → pt ≡ p.Bits at sgs → segment_targets sgs ≡ targets pt
bits_targets pt at sgs h = sym (ap targets (h ∙ sym (p.rolls-Bits at sgs)) ∙ fold-roll-Pattern Vars (List Bound) Row (List (List ℕ)) (List (List ℕ)) (Unit {0}) (List (List ℕ)) Vars expr_layer pattern_layer qual_layer alt_layer branch_layer guard_layer item_layer segment_layer (O.Pattern::Bits at sgs) ∙ own_of sgs)

pub same_targets : (pt : Pattern) (at : Span) (ps : List Pattern) → pt ≡ p.Same at ps → targets_of ps ≡ targets pt
same_targets pt at ps h = sym (ap targets (h ∙ sym (p.rolls-Same at ps)) ∙ fold-roll-Pattern Vars (List Bound) Row (List (List ℕ)) (List (List ℕ)) (Unit {0}) (List (List ℕ)) Vars expr_layer pattern_layer qual_layer alt_layer branch_layer guard_layer item_layer segment_layer (O.Same at ps) ∙ flat_joined targets ps)

pub tuple_unsafe : (e : Expr) (at : Span) (ys : List Expr) → e ≡ x.Tuple at ys → unsafe_of ys ≡ (vars_of e).left_unsafe
tuple_unsafe e at ys h = sym (ap (λ (z : Expr). (vars_of z).left_unsafe) (h ∙ sym (x.rolls-Tuple at ys)) ∙ ap (λ (v : Vars). v.left_unsafe) (fold-roll-Expr Vars (List Bound) Row (List (List ℕ)) (List (List ℕ)) (Unit {0}) (List (List ℕ)) Vars expr_layer pattern_layer qual_layer alt_layer branch_layer guard_layer item_layer segment_layer (O.Expr::Tuple at ys)) ∙ flat_unsafe ys)

pub list_unsafe : (e : Expr) (at : Span) (ys tail : List Expr) → e ≡ x.List at ys tail → unsafe_of ys ++ unsafe_of tail ≡ (vars_of e).left_unsafe
list_unsafe e at ys tail h = sym (ap (λ (z : Expr). (vars_of z).left_unsafe) (h ∙ sym (x.rolls-List at ys tail)) ∙ ap (λ (v : Vars). v.left_unsafe) (fold-roll-Expr Vars (List Bound) Row (List (List ℕ)) (List (List ℕ)) (Unit {0}) (List (List ℕ)) Vars expr_layer pattern_layer qual_layer alt_layer branch_layer guard_layer item_layer segment_layer (O.Expr::List at ys tail)) ∙ (ap (λ zs. zs ++ unsafe_in (map vars_of tail)) (flat_unsafe ys) ∙ ap (λ zs. unsafe_of ys ++ zs) (flat_unsafe tail)))

pub call_unsafe : (e : Expr) (at : Span) (home : List Expr) (n : ℕ) (ys : List Expr) → e ≡ x.Call at home n ys → unsafe_of ys ≡ (vars_of e).left_unsafe
call_unsafe e at home n ys h = sym (ap (λ (z : Expr). (vars_of z).left_unsafe) (h ∙ sym (x.rolls-Call at home n ys)) ∙ ap (λ (v : Vars). v.left_unsafe) (fold-roll-Expr Vars (List Bound) Row (List (List ℕ)) (List (List ℕ)) (Unit {0}) (List (List ℕ)) Vars expr_layer pattern_layer qual_layer alt_layer branch_layer guard_layer item_layer segment_layer (O.Call at home n ys)) ∙ flat_unsafe ys)

pub unary_unsafe : (e : Expr) (at : Span) (op : Prefix) (ys : List Expr) → e ≡ x.Unary at op ys → unsafe_of ys ≡ (vars_of e).left_unsafe
unary_unsafe e at op ys h = sym (ap (λ (z : Expr). (vars_of z).left_unsafe) (h ∙ sym (x.rolls-Unary at op ys)) ∙ ap (λ (v : Vars). v.left_unsafe) (fold-roll-Expr Vars (List Bound) Row (List (List ℕ)) (List (List ℕ)) (Unit {0}) (List (List ℕ)) Vars expr_layer pattern_layer qual_layer alt_layer branch_layer guard_layer item_layer segment_layer (O.Unary at op ys)) ∙ flat_unsafe ys)

pub binary_unsafe : (e : Expr) (at : Span) (op : Op) (ys : List Expr) → e ≡ x.Binary at op ys → unsafe_of ys ≡ (vars_of e).left_unsafe
binary_unsafe e at op ys h = sym (ap (λ (z : Expr). (vars_of z).left_unsafe) (h ∙ sym (x.rolls-Binary at op ys)) ∙ ap (λ (v : Vars). v.left_unsafe) (fold-roll-Expr Vars (List Bound) Row (List (List ℕ)) (List (List ℕ)) (Unit {0}) (List (List ℕ)) Vars expr_layer pattern_layer qual_layer alt_layer branch_layer guard_layer item_layer segment_layer (O.Binary at op ys)) ∙ flat_unsafe ys)

part_of : (at : Span) (value : Expr) (size : Option Expr) (specs : List Spec) → (let s : Segment = record { at = at; value = value; size = size; specs = specs } in (vars_of_segment s).left_unsafe) ≡ (vars_of value).left_unsafe ++ size_part size
part_of at value None specs = ap (λ (v : Vars). v.left_unsafe) (fold_out-Segment Vars (List Bound) Row (List (List ℕ)) (List (List ℕ)) (Unit {0}) (List (List ℕ)) Vars expr_layer pattern_layer qual_layer alt_layer branch_layer guard_layer item_layer segment_layer (record { at = at; value = value; size = None; specs = specs }))
part_of at value (Some e) specs = ap (λ (v : Vars). v.left_unsafe) (fold_out-Segment Vars (List Bound) Row (List (List ℕ)) (List (List ℕ)) (Unit {0}) (List (List ℕ)) Vars expr_layer pattern_layer qual_layer alt_layer branch_layer guard_layer item_layer segment_layer (record { at = at; value = value; size = Some e; specs = specs }))

segment_part : (s : Segment) → (vars_of_segment s).left_unsafe ≡ part_unsafe s
segment_part s = part_of s.at s.value s.size s.specs

segments_part : (sgs : List Segment) → unsafe_in (map vars_of_segment sgs) ≡ segment_unsafe sgs
segments_part [] = refl
segments_part (s ∷ sgs) = ap (λ zs. zs ++ unsafe_in (map vars_of_segment sgs)) (segment_part s) ∙ ap (λ zs. part_unsafe s ++ zs) (segments_part sgs)

pub bits_unsafe : (e : Expr) (at : Span) (sgs : List Segment) → e ≡ x.Bits at sgs → segment_unsafe sgs ≡ (vars_of e).left_unsafe
bits_unsafe e at sgs h = sym (ap (λ (z : Expr). (vars_of z).left_unsafe) (h ∙ sym (x.rolls-Bits at sgs)) ∙ ap (λ (v : Vars). v.left_unsafe) (fold-roll-Expr Vars (List Bound) Row (List (List ℕ)) (List (List ℕ)) (Unit {0}) (List (List ℕ)) Vars expr_layer pattern_layer qual_layer alt_layer branch_layer guard_layer item_layer segment_layer (O.Expr::Bits at sgs)) ∙ segments_part sgs)

sizes_unsafe : (o : Option Expr) → unsafe_of (elim o [ None ↦ [] | Some e ↦ e ∷ [] ]) ≡ size_part o
sizes_unsafe None = refl
sizes_unsafe (Some e) = append-nil (vars_of e).left_unsafe

-- of the segments of a bit expression
pub built_unsafe : (sgs : List Segment) → unsafe_of (built_exprs sgs) ≡ segment_unsafe sgs
built_unsafe [] = refl
built_unsafe (g ∷ gs) =
    let f : Expr → List (List ℕ) = λ e. (vars_of e).left_unsafe in
    ap (λ zs. f g.value ++ zs) (flat_map-append f (sizes_of g) (built_exprs gs) ∙ ap (λ zs. zs ++ unsafe_of (built_exprs gs)) (sizes_unsafe g.size) ∙ ap (λ zs. size_part g.size ++ zs) (built_unsafe gs)) ∙ sym (append_assoc (f g.value) (size_part g.size) (segment_unsafe gs))

pub own_value : (s : Segment) → (vars_of s.value).own ≡ (vars_of_segment s).own
own_value s = sym (ap (λ (v : Vars). v.own) (fold_out-Segment Vars (List Bound) Row (List (List ℕ)) (List (List ℕ)) (Unit {0}) (List (List ℕ)) Vars expr_layer pattern_layer qual_layer alt_layer branch_layer guard_layer item_layer segment_layer s))

abbrev item_names : Item → List (List ℕ)
item_names i = fold-Item Vars (List Bound) Row (List (List ℕ)) (List (List ℕ)) (Unit {0}) (List (List ℕ)) Vars expr_layer pattern_layer qual_layer alt_layer branch_layer guard_layer item_layer segment_layer i

item_part : (i : Item) → item_names i ≡ item_unsafe i
item_part i = fold_out-Item Vars (List Bound) Row (List (List ℕ)) (List (List ℕ)) (Unit {0}) (List (List ℕ)) Vars expr_layer pattern_layer qual_layer alt_layer branch_layer guard_layer item_layer segment_layer i ∙ ap (λ zs. names zs ++ (vars_of i.value).left_unsafe) (flat_joined targets i.patterns)

items_part : (is : List Item) → joined (map item_names is) ≡ items_unsafe is
items_part [] = refl
items_part (i ∷ is) = ap (λ zs. zs ++ joined (map item_names is)) (item_part i) ∙ ap (λ zs. item_unsafe i ++ zs) (items_part is)

abbrev alt_names : Alt → List (List ℕ)
alt_names a = fold-Alt Vars (List Bound) Row (List (List ℕ)) (List (List ℕ)) (Unit {0}) (List (List ℕ)) Vars expr_layer pattern_layer qual_layer alt_layer branch_layer guard_layer item_layer segment_layer a

alt_part : (a : Alt) → alt_names a ≡ alt_unsafe a
alt_part a = fold_out-Alt Vars (List Bound) Row (List (List ℕ)) (List (List ℕ)) (Unit {0}) (List (List ℕ)) Vars expr_layer pattern_layer qual_layer alt_layer branch_layer guard_layer item_layer segment_layer a ∙ ap (λ zs. names (targets (out-Alt a).pattern) ++ zs) (items_part (out-Alt a).body)

alts_part : (alts : List Alt) → joined (map alt_names alts) ≡ alts_unsafe alts
alts_part [] = refl
alts_part (i ∷ is) = ap (λ zs. zs ++ joined (map alt_names is)) (alt_part i) ∙ ap (λ zs. alt_unsafe i ++ zs) (alts_part is)

abbrev branch_names : Branch → List (List ℕ)
branch_names b = fold-Branch Vars (List Bound) Row (List (List ℕ)) (List (List ℕ)) (Unit {0}) (List (List ℕ)) Vars expr_layer pattern_layer qual_layer alt_layer branch_layer guard_layer item_layer segment_layer b

branch_part : (b : Branch) → branch_names b ≡ branch_unsafe b
branch_part b = fold_out-Branch Vars (List Bound) Row (List (List ℕ)) (List (List ℕ)) (Unit {0}) (List (List ℕ)) Vars expr_layer pattern_layer qual_layer alt_layer branch_layer guard_layer item_layer segment_layer b ∙ items_part (out-Branch b).body

branches_part : (bs : List Branch) → joined (map branch_names bs) ≡ branches_unsafe bs
branches_part [] = refl
branches_part (i ∷ is) = ap (λ zs. zs ++ joined (map branch_names is)) (branch_part i) ∙ ap (λ zs. branch_unsafe i ++ zs) (branches_part is)

pub case_unsafe : (e : Expr) (at : Span) (ys : List Expr) (alts : List Alt) → e ≡ x.Case at ys alts → unsafe_of ys ++ alts_unsafe alts ≡ (vars_of e).left_unsafe
case_unsafe e at ys alts h = sym (ap (λ (z : Expr). (vars_of z).left_unsafe) (h ∙ sym (x.rolls-Case at ys alts)) ∙ ap (λ (v : Vars). v.left_unsafe) (fold-roll-Expr Vars (List Bound) Row (List (List ℕ)) (List (List ℕ)) (Unit {0}) (List (List ℕ)) Vars expr_layer pattern_layer qual_layer alt_layer branch_layer guard_layer item_layer segment_layer (O.Case at ys alts)) ∙ (ap (λ zs. zs ++ joined (map alt_names alts)) (flat_unsafe ys) ∙ ap (λ zs. unsafe_of ys ++ zs) (alts_part alts)))

pub receive_unsafe : (e : Expr) (at : Span) (alts : List Alt) → e ≡ x.Receive at alts → alts_unsafe alts ≡ (vars_of e).left_unsafe
receive_unsafe e at alts h = sym (ap (λ (z : Expr). (vars_of z).left_unsafe) (h ∙ sym (x.rolls-Receive at alts)) ∙ ap (λ (v : Vars). v.left_unsafe) (fold-roll-Expr Vars (List Bound) Row (List (List ℕ)) (List (List ℕ)) (Unit {0}) (List (List ℕ)) Vars expr_layer pattern_layer qual_layer alt_layer branch_layer guard_layer item_layer segment_layer (O.Receive at alts)) ∙ alts_part alts)

pub if_unsafe : (e : Expr) (at : Span) (bs : List Branch) → e ≡ x.If at bs → branches_unsafe bs ≡ (vars_of e).left_unsafe
if_unsafe e at bs h = sym (ap (λ (z : Expr). (vars_of z).left_unsafe) (h ∙ sym (x.rolls-If at bs)) ∙ ap (λ (v : Vars). v.left_unsafe) (fold-roll-Expr Vars (List Bound) Row (List (List ℕ)) (List (List ℕ)) (Unit {0}) (List (List ℕ)) Vars expr_layer pattern_layer qual_layer alt_layer branch_layer guard_layer item_layer segment_layer (O.If at bs)) ∙ branches_part bs)

none_unsafe : Vars → List (List ℕ)
none_unsafe v = v.left_unsafe

pub items_new : (g : Qual) (at : Span) (pt : Pattern) (y : Expr) → g ≡ q.Items at pt y → targets pt ≡ new_names g
items_new g at pt y h = sym (ap new_names (h ∙ sym (q.rolls-Items at pt y)) ∙ ap (λ (v : Row). v.new) (fold-roll-Qual Vars (List Bound) Row (List (List ℕ)) (List (List ℕ)) (Unit {0}) (List (List ℕ)) Vars expr_layer pattern_layer qual_layer alt_layer branch_layer guard_layer item_layer segment_layer (O.Items at pt y)))

pub bits_new : (g : Qual) (at : Span) (sgs : List Segment) (y : Expr) → g ≡ q.Bits at sgs y → segment_targets sgs ≡ new_names g
bits_new g at sgs y h = sym (ap new_names (h ∙ sym (q.rolls-Bits at sgs y)) ∙ ap (λ (v : Row). v.new) (fold-roll-Qual Vars (List Bound) Row (List (List ℕ)) (List (List ℕ)) (Unit {0}) (List (List ℕ)) Vars expr_layer pattern_layer qual_layer alt_layer branch_layer guard_layer item_layer segment_layer (O.Qual::Bits at sgs y)) ∙ own_of sgs)

pub filter_new : (g : Qual) (at : Span) (y : Expr) → g ≡ q.Filter at y → [] ≡ new_names g
filter_new g at y h = sym (ap new_names (h ∙ sym (q.rolls-Filter at y)) ∙ ap (λ (v : Row). v.new) (fold-roll-Qual Vars (List Bound) Row (List (List ℕ)) (List (List ℕ)) (Unit {0}) (List (List ℕ)) Vars expr_layer pattern_layer qual_layer alt_layer branch_layer guard_layer item_layer segment_layer (O.Filter at y)))

pub items_left : (g : Qual) (at : Span) (pt : Pattern) (y : Expr) → g ≡ q.Items at pt y → (vars_of y).left_unsafe ≡ qual_unsafe g
items_left g at pt y h = sym (ap qual_unsafe (h ∙ sym (q.rolls-Items at pt y)) ∙ ap (λ (v : Row). v.left_unsafe) (fold-roll-Qual Vars (List Bound) Row (List (List ℕ)) (List (List ℕ)) (Unit {0}) (List (List ℕ)) Vars expr_layer pattern_layer qual_layer alt_layer branch_layer guard_layer item_layer segment_layer (O.Items at pt y)))

pub bits_left : (g : Qual) (at : Span) (sgs : List Segment) (y : Expr) → g ≡ q.Bits at sgs y → (vars_of y).left_unsafe ≡ qual_unsafe g
bits_left g at sgs y h = sym (ap qual_unsafe (h ∙ sym (q.rolls-Bits at sgs y)) ∙ ap (λ (v : Row). v.left_unsafe) (fold-roll-Qual Vars (List Bound) Row (List (List ℕ)) (List (List ℕ)) (Unit {0}) (List (List ℕ)) Vars expr_layer pattern_layer qual_layer alt_layer branch_layer guard_layer item_layer segment_layer (O.Qual::Bits at sgs y)))

pub filter_left : (g : Qual) (at : Span) (y : Expr) → g ≡ q.Filter at y → (vars_of y).left_unsafe ≡ qual_unsafe g
filter_left g at y h = sym (ap qual_unsafe (h ∙ sym (q.rolls-Filter at y)) ∙ ap (λ (v : Row). v.left_unsafe) (fold-roll-Qual Vars (List Bound) Row (List (List ℕ)) (List (List ℕ)) (Unit {0}) (List (List ℕ)) Vars expr_layer pattern_layer qual_layer alt_layer branch_layer guard_layer item_layer segment_layer (O.Filter at y)))

pub own_var : (e : Expr) (at : Span) (name : List ℕ) → e ≡ x.Var at name → record { name = name; at = at } ∷ [] ≡ (vars_of e).own
own_var e at name h = sym (ap (λ (z : Expr). (vars_of z).own) (h ∙ sym (x.rolls-Var at name)) ∙ ap (λ (v : Vars). v.own) (fold-roll-Expr Vars (List Bound) Row (List (List ℕ)) (List (List ℕ)) (Unit {0}) (List (List ℕ)) Vars expr_layer pattern_layer qual_layer alt_layer branch_layer guard_layer item_layer segment_layer (O.Expr::Var at name)))
