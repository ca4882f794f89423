-- A call is read as a call of what it is checked as a call of.
use Rattle.std.proofs.Common.{◌≡◌, ℕ, suc, zero, ◌+◌, ◌<◌, Bool, true, false, ◌&&◌, cond, List, [], ◌∷◌, ◌++◌, map, length, slice_index_or, Option, Some, None, refl, sym, ap, ◌∙◌, arith}
use Rattle.std.specs.Prelude.{nat_eq, bytes_eq, not, All}
use Rattle.std.specs.List.{find}
use Rattle.std.proofs.Math.Seq.{get_or-append_seam}
use Rattle.std.proofs.lemmas.Bool.{eqb-true, eq-eqb}
use Rattle.std.proofs.lemmas.List.Elements.{All-nil, All-cons}
use Rattle.std.proofs.lemmas.Slice.Eq.{bytes_eq-Decides}
use Rattle.erl_syntax.specs.BuiltIns.{name_of, arity_of, is_bare, home_of}
use Rattle.erl_syntax.specs.Checking.{Spelled, HasFunction, IsBuiltIn, IsOwn, named, macro, CallsBuiltIn, bare, at_home, CallsOwn, exported}
use Rattle.erl_syntax.specs.declared.span.Span.{Span}
use Rattle.erl_syntax.specs.declared.expr.Expr.{Expr}
use Rattle.erl_syntax.specs.declared.expr.Expr.TheVariants as x
use Rattle.erl_syntax.specs.declared.expr.Expr.TheOpen as O
use Rattle.erl_syntax.specs.declared.expr.Expr.TheFolds.{fold-Expr, fold-roll-Expr}
use Rattle.erl_syntax.specs.declared.module.Function.{Function}
use Rattle.erl_syntax.specs.declared.module.Module.{Module}
use Rattle.erl_syntax.specs.declared.built_in.BuiltIn.{BuiltIn}
use Rattle.erl_syntax.specs.declared.built_in.BuiltIn.TheVariants as b
use Rattle.erl_syntax.specs.declared.built_in.TheConstants.{BUILT_INS}
use Rattle.term_value.specs.Calls.{is_named, form_of, form_or_call, called}
use Rattle.term_value.specs.Value.{VAtom}
use Rattle.term_value.specs.Tree.{Form, and, All as Evaluated, Call, Pattern, Guard, Val}
use Rattle.term_value.specs.Read.{Reading, Read, Line, Branch, Qualifier, Piece, literal, expression, trees, call, called_module}
use Rattle.term_value.specs.ReadTrees.{reading, tree_of, place_of, expr_layer, pattern_layer, qual_layer, alt_layer, branch_layer, guard_layer, item_layer, segment_layer}
use Rattle.term_laws.specs.CallLaws.{trees_of, IsFirstAt, CallsAreRead}

-- ---- Tests

both : (a c : Bool) → (a && c) ≡ true → (a ≡ true) × (c ≡ true)
both true c h = (refl, h)
both false c h = cc h

texts_same : (cs ds : List ℕ) → bytes_eq cs ds ≡ true → cs ≡ ds
texts_same cs ds h = (bytes_eq-Decides cs ds).0 h

is_test : {X : Type 0} (test : X → Bool) (xs : List X) (y : X) → find test xs ≡ Some y → test y ≡ true
is_test test [] y h = cc h
is_test test (z ∷ xs) y h = by (test z) refl h (is_test test xs y)
  where
    by : (t : Bool) → test z ≡ t → cond t (Some z) (find test xs) ≡ Some y → (find test xs ≡ Some y → test y ≡ true) → test y ≡ true
    by true e f g = let same : z ≡ y = cc in ap test (sym same) ∙ e
    by false e f g = g f

-- ---- Atoms of a table

pub name_at : (m : Module) (atom : ℕ) (chars : List ℕ) → Spelled m atom chars → slice_index_or m.atoms atom [] ≡ chars
name_at m atom chars s =
    ap (λ atoms. slice_index_or atoms atom []) s.stands
    ∙ ap (λ n. slice_index_or (s.front ++ chars ∷ s.back) n []) (sym s.number)
    ∙ get_or-append_seam s.front chars s.back []

abbrev SplitAt : List (List ℕ) → ℕ → List ℕ → Type 0
SplitAt atoms atom chars = (front : List (List ℕ)) × (back : List (List ℕ)) × (length front ≡ atom) × (atoms ≡ front ++ chars ∷ back)

split_at : (atoms : List (List ℕ)) (atom : ℕ) (chars : List ℕ) → slice_index_or atoms atom [] ≡ chars → (chars ≡ [] → ⊥) → SplitAt atoms atom chars
split_at [] atom chars e some = absurd (some (sym e))
split_at (a ∷ atoms) zero chars e some = ([], atoms, refl, ap (λ c. c ∷ atoms) e)
split_at (a ∷ atoms) (suc n) chars e some =
    let rest = split_at atoms n chars e some in
    (a ∷ rest.0, rest.1, ap suc rest.2, ap (λ l. a ∷ l) rest.3)

spelled_at : (m : Module) (atom : ℕ) (chars : List ℕ) → slice_index_or m.atoms atom [] ≡ chars → (chars ≡ [] → ⊥) → Spelled m atom chars
spelled_at m atom chars e some =
    let s = split_at m.atoms atom chars e some in
    record { front = s.0; back = s.1; number = s.2; stands = s.3 }

-- ---- Built-in functions

name_some : (f : BuiltIn) → name_of f ≡ [] → ⊥
name_some b.IsInteger h = cc h
name_some b.IsNumber h = cc h
name_some b.IsAtom h = cc h
name_some b.IsBoolean h = cc h
name_some b.IsPid h = cc h
name_some b.IsTuple h = cc h
name_some b.IsList h = cc h
name_some b.IsBinary h = cc h
name_some b.IsBitstring h = cc h
name_some b.BitSize h = cc h
name_some b.ByteSize h = cc h
name_some b.TupleSize h = cc h
name_some b.Element h = cc h
name_some b.Length h = cc h
name_some b.Hd h = cc h
name_some b.Tl h = cc h
name_some b.Abs h = cc h
name_some b.Max h = cc h
name_some b.Min h = cc h
name_some b.SelfPid h = cc h
name_some b.BinaryPart h = cc h
name_some b.BinaryPartOf h = cc h
name_some b.Display h = cc h
name_some b.Spawn h = cc h
name_some b.Exit h = cc h
name_some b.Error h = cc h
name_some b.SplitBinary h = cc h
name_some b.BinaryToList h = cc h
name_some b.ListToBinary h = cc h
name_some b.IntegerToBinary h = cc h
name_some b.BinaryToInteger h = cc h
name_some b.TupleToList h = cc h
name_some b.ListToTuple h = cc h
name_some b.Reverse h = cc h

home_some : (f : BuiltIn) → home_of f ≡ [] → ⊥
home_some b.Reverse h = cc h
home_some _ h = cc h

bare_form : (f : BuiltIn) (place : ℕ) → is_bare f ≡ true → called None (name_of f) (arity_of f) place ≡ form_of f
bare_form b.Display place h = cc h
bare_form b.Reverse place h = cc h
bare_form _ place h = refl

home_form : (f : BuiltIn) (place : ℕ) → called (Some (home_of f)) (name_of f) (arity_of f) place ≡ form_of f
home_form b.Reverse place = refl
home_form _ place = refl

found_none : (o : Option BuiltIn) (place : ℕ) → ((f : BuiltIn) → o ≡ Some f → ⊥) → form_or_call o place ≡ Call place
found_none None place none = refl
found_none (Some f) place none = absurd (none f refl)

-- ---- Functions of the module

abbrev fits : ℕ → ℕ → Function → Bool
fits name arity f = nat_eq f.name name && nat_eq f.arity arity

fitting : (name arity : ℕ) (f : Function) → f.name ≡ name → f.arity ≡ arity → fits name arity f ≡ true
fitting name arity f n a = ap (λ t. t && nat_eq f.arity arity) (eq-eqb f.name name n) ∙ eq-eqb f.arity arity a

not_fitting : (name arity : ℕ) (f : Function) → fits name arity f ≡ false → f.name ≡ name → f.arity ≡ arity → ⊥
not_fitting name arity f h n a = let e : true ≡ false = sym (fitting name arity f n a) ∙ h in cc e

module _ (name arity : ℕ) where
  -- the first of these functions stands at this place
  record IsFirst (fs : List Function) (place : ℕ) : Type 0 where
    front : List Function
    function : Function
    back : List Function
    stands : fs ≡ front ++ function ∷ back
    count : place ≡ length front
    named : function.name ≡ name
    takes : function.arity ≡ arity
    first : All (λ f. f.name ≡ name → f.arity ≡ arity → ⊥) front

  at_once : (g : Function) (fs : List Function) → fits name arity g ≡ true → IsFirst (g ∷ fs) (place_of (g ∷ fs) name arity)
  at_once g fs h =
      let both_fit = both (nat_eq g.name name) (nat_eq g.arity arity) h in
      record {
        front = [];
        function = g;
        back = fs;
        stands = refl;
        count = ap (λ t. cond (not t) (1 + place_of fs name arity) 0) h;
        named = eqb-true g.name name both_fit.0;
        takes = eqb-true g.arity arity both_fit.1;
        first = All-nil (λ (f : Function). f.name ≡ name → f.arity ≡ arity → ⊥);
      }

  later : (g : Function) (fs : List Function) → fits name arity g ≡ false → IsFirst fs (place_of fs name arity) → IsFirst (g ∷ fs) (place_of (g ∷ fs) name arity)
  later g fs h rest =
      let count : place_of fs name arity ≡ length rest.front = rest.count in
      let one_more : 1 + place_of fs name arity ≡ suc (length rest.front) = omega arith in
      record {
        front = g ∷ rest.front;
        function = rest.function;
        back = rest.back;
        stands = ap (λ l. g ∷ l) rest.stands;
        count = ap (λ t. cond (not t) (1 + place_of fs name arity) 0) h ∙ one_more;
        named = rest.named;
        takes = rest.takes;
        first = All-cons (λ (f : Function). f.name ≡ name → f.arity ≡ arity → ⊥) g rest.front (not_fitting name arity g h) rest.first;
      }

  first_in : (fs : List Function) (f : Function) (k : ℕ) → k < length fs → slice_index_or fs k f ≡ f → f.name ≡ name → f.arity ≡ arity → IsFirst fs (place_of fs name arity)
  first_in [] f k l e n a = absurd (omega arith)
  first_in (g ∷ fs) f zero l e n a = at_once g fs (ap (fits name arity) e ∙ fitting name arity f n a)
  first_in (g ∷ fs) f (suc k) l e n a = by (fits name arity g) refl (first_in fs f k (omega arith) e n a)
    where
      by : (t : Bool) → fits name arity g ≡ t → IsFirst fs (place_of fs name arity) → IsFirst (g ∷ fs) (place_of (g ∷ fs) name arity)
      by true h rest = at_once g fs h
      by false h rest = later g fs h rest

  first_of : (m : Module) → HasFunction m name arity → IsFirstAt m name arity (place_of m.functions name arity)
  first_of m h =
      let f = first_in m.functions h.function h.among.0 h.among.1 h.among.2 h.named h.takes in
      record { front = f.front; function = f.function; back = f.back; stands = f.stands; count = f.count; named = f.named; takes = f.takes; first = f.first }

-- ---- Expressions

abbrev pub expr_read : Reading → Expr → Read
expr_read r e = fold-Expr Read Pattern Qualifier Branch Branch Guard Line (List Piece) (expr_layer r) (pattern_layer r) qual_layer alt_layer branch_layer guard_layer item_layer segment_layer e

module _ (r : Reading) where
  pub atom_read : (e : Expr) (at : Span) (a : ℕ) → e ≡ x.Atom at a → expr_read r e ≡ literal (VAtom a)
  atom_read e at a h = ap (expr_read r) (h ∙ sym (x.rolls-Atom at a)) ∙ fold-roll-Expr Read Pattern Qualifier Branch Branch Guard Line (List Piece) (expr_layer r) (pattern_layer r) qual_layer alt_layer branch_layer guard_layer item_layer segment_layer (O.Expr::Atom at a)

  macro_read : (e : Expr) (at : Span) → e ≡ x.ModuleName at → expr_read r e ≡ expression (Val (VAtom r.module_name))
  macro_read e at h = ap (expr_read r) (h ∙ sym (x.rolls-ModuleName at)) ∙ fold-roll-Expr Read Pattern Qualifier Branch Branch Guard Line (List Piece) (expr_layer r) (pattern_layer r) qual_layer alt_layer branch_layer guard_layer item_layer segment_layer (O.ModuleName at)

  pub call_read : (e : Expr) (at : Span) (home : List Expr) (name : ℕ) (args : List Expr) → e ≡ x.Call at home name args → expr_read r e ≡ expression (call r (map (expr_read r) home) name (map (expr_read r) args))
  call_read e at home name args h = ap (expr_read r) (h ∙ sym (x.rolls-Call at home name args)) ∙ fold-roll-Expr Read Pattern Qualifier Branch Branch Guard Line (List Piece) (expr_layer r) (pattern_layer r) qual_layer alt_layer branch_layer guard_layer item_layer segment_layer (O.Call at home name args)

  trees_read : (es : List Expr) → trees (map (expr_read r) es) ≡ trees_of r es
  trees_read [] = refl
  trees_read (e ∷ es) = ap (λ ts. and (tree_of r e) ts) (trees_read es)

  count_read : (es : List Expr) → length (map (expr_read r) es) ≡ length es
  count_read [] = refl
  count_read (e ∷ es) = ap suc (count_read es)

-- ---- Calls

has_function : (m : Module) (home : List Expr) (name arity : ℕ) → CallsOwn m home name arity → HasFunction m name arity
has_function m home name arity (bare _ _ h) = h
has_function m home name arity (exported _ _ _ o e h) = h

module _ (number_at : Span → ℕ) (m : Module) where
  -- the form of a call with this before it
  abbrev called_with : List Expr → ℕ → ℕ → ℕ → Form
  called_with home name arity place = let r = reading number_at m in called (called_module r (map (expr_read r) home)) (r.names name) arity place

  tree_read : (e : Expr) (at : Span) (home : List Expr) (name : ℕ) (args : List Expr) → e ≡ x.Call at home name args →
      (let r = reading number_at m in tree_of r e ≡ Evaluated (called_with home name (length args) (place_of m.functions name (length args))) (trees_of r args))
  tree_read e at home name args h =
      let r = reading number_at m in
      ap (λ (u : Read). u.tree) (call_read r e at home name args h)
      ∙ ap (λ n. Evaluated (called_with home name n (place_of m.functions name n)) (trees (map (expr_read r) args))) (count_read r args)
      ∙ ap (Evaluated (called_with home name (length args) (place_of m.functions name (length args)))) (trees_read r args)

  at_atom : (e : Expr) (at : Span) (n : ℕ) → e ≡ x.Atom at n → (let r = reading number_at m in called_module r (map (expr_read r) (e ∷ [])) ≡ Some (slice_index_or m.atoms n []))
  at_atom e at n h = let r = reading number_at m in ap (λ u. called_module r (u ∷ [])) (atom_read r e at n h)

  at_macro : (e : Expr) (at : Span) → e ≡ x.ModuleName at → (let r = reading number_at m in called_module r (map (expr_read r) (e ∷ [])) ≡ Some [])
  at_macro e at h = let r = reading number_at m in ap (λ u. called_module r (u ∷ [])) (macro_read r e at h)

  built_in_form : (home : List Expr) (name arity place : ℕ) (f : BuiltIn) → CallsBuiltIn m home name arity f → called_with home name arity place ≡ form_of f
  built_in_form home name arity place f (bare _ _ _ h i) =
      ap (λ chars. called None chars arity place) (name_at m name (name_of f) i.spelled)
      ∙ ap (λ n. called None (name_of f) n place) (sym i.takes)
      ∙ bare_form f place h
  built_in_form home name arity place f (at_home e at n _ _ _ h s i) =
      ap (λ o. called o (slice_index_or m.atoms name []) arity place) (at_atom e at n h ∙ ap Some (name_at m n (home_of f) s))
      ∙ ap (λ chars. called (Some (home_of f)) chars arity place) (name_at m name (name_of f) i.spelled)
      ∙ ap (λ n. called (Some (home_of f)) (name_of f) n place) (sym i.takes)
      ∙ home_form f place

  is_built_in : (name arity : ℕ) (f : BuiltIn) → is_named (slice_index_or m.atoms name []) arity f ≡ true → IsBuiltIn m name arity f
  is_built_in name arity f h =
      let parts = both (bytes_eq (name_of f) (slice_index_or m.atoms name [])) (nat_eq (arity_of f) arity) h in
      let same = texts_same (name_of f) (slice_index_or m.atoms name []) parts.0 in
      record { spelled = spelled_at m name (name_of f) (sym same) (name_some f); takes = eqb-true (arity_of f) arity parts.1 }

  -- where no built-in function fits with this before the colon
  at_other_home : (home : List Expr) (chars : List ℕ) (name arity place : ℕ) → (let r = reading number_at m in called_module r (map (expr_read r) home) ≡ Some chars) →
      ((f : BuiltIn) → home_of f ≡ chars → IsBuiltIn m name arity f → ⊥) → called_with home name arity place ≡ Call place
  at_other_home home chars name arity place h none =
      let test : BuiltIn → Bool = λ f. bytes_eq (home_of f) chars && is_named (slice_index_or m.atoms name []) arity f in
      ap (λ o. called o (slice_index_or m.atoms name []) arity place) h
      ∙ found_none (find test BUILT_INS) place (λ f e.
      let parts = both (bytes_eq (home_of f) chars) (is_named (slice_index_or m.atoms name []) arity f) (is_test test BUILT_INS f e) in
      none f (texts_same (home_of f) chars parts.0) (is_built_in name arity f parts.1))

  own_form : (home : List Expr) (name arity place : ℕ) → CallsOwn m home name arity → ((f : BuiltIn) → CallsBuiltIn m home name arity f → ⊥) →
      called_with home name arity place ≡ Call place
  own_form home name arity place (bare _ _ h) none =
      let test : BuiltIn → Bool = λ f. is_bare f && is_named (slice_index_or m.atoms name []) arity f in
      found_none (find test BUILT_INS) place (λ f e.
      let parts = both (is_bare f) (is_named (slice_index_or m.atoms name []) arity f) (is_test test BUILT_INS f e) in
      none f (bare name arity f parts.0 (is_built_in name arity f parts.1)))
  own_form home name arity place (exported one _ _ o e h) none = by_own o
    where
      by_own : IsOwn m one → called_with (one ∷ []) name arity place ≡ Call place
      by_own (named _ at n _ _ i _ _) = at_other_home (one ∷ []) (slice_index_or m.atoms n []) name arity place (at_atom one at n i)
          (λ f s b. none f (at_home one at n name arity f i (spelled_at m n (home_of f) (sym s) (home_some f)) b))
      by_own (macro _ at i) = at_other_home (one ∷ []) [] name arity place (at_macro one at i) (λ f s b. home_some f s)

pub calls_are_read : CallsAreRead
calls_are_read number_at m e at home name args h =
    let place : ℕ = place_of m.functions name (length args) in
    let r = reading number_at m in
    let read = tree_read number_at m e at home name args h in
    record {
      built_in = λ f c. read ∙ ap (λ form. Evaluated form (trees_of r args)) (built_in_form number_at m home name (length args) place f c);
      own = λ c none. record {
        place = place;
        stands = first_of name (length args) m (has_function m home name (length args) c);
        calls = read ∙ ap (λ form. Evaluated form (trees_of r args)) (own_form number_at m home name (length args) place c none);
      };
    }
