-- Operations take what the segments take of which they are made.
use Rattle.std.proofs.Common.{◌≡◌, ℕ, pos, suc, ◌*◌, arith, Bool, true, false, List, [], ◌∷◌, map, Option, Some, None, refl, ap, sym, ◌∙◌}
use Rattle.std.specs.Prelude.{◌&&◌, not, All, cond, nat_eq}
use Rattle.std.specs.List.{list_any}
use Rattle.bits_value.specs.declared.Sign.{Sign}
use Rattle.bits_value.specs.declared.Sign.TheVariants.{Unsigned}
use Rattle.bits_value.specs.declared.Endian.{Endian}
use Rattle.bits_value.specs.declared.Endian.TheVariants.{Big}
use Rattle.bits_value.specs.declared.UtfKind.{UtfKind}
use Rattle.erl_syntax.specs.declared.typing.Typed.{Typed}
use Rattle.erl_syntax.specs.declared.typing.Kind.{Kind}
use Rattle.erl_syntax.specs.declared.typing.Kind.TheVariants as k
use Rattle.erl_syntax.specs.declared.typing.SizeUse.{SizeUse}
use Rattle.erl_syntax.specs.declared.typing.SizeUse.TheVariants as z
use Rattle.term_value.specs.Decode.{Taken, Cut, NoCut, CutLimit, cut, cut_where, cut_off, wanted, taken, taken_by, reach_by}
use Rattle.term_value.specs.Extent.{Extent, Exactly, InUnits, Spelled, BadSize, extent}
use Rattle.term_value.specs.Guards.{result_of}
use Rattle.term_value.specs.Match.{then_take, all_taken}
use Rattle.term_value.specs.PutIn.{in_target, put_in}
use Rattle.term_value.specs.Result.{Result, Gives, Stops, Raise, Limit}
use Rattle.term_value.specs.Rows.{uses, and_variable, variable_where, shape_of_target, shape_after}
use Rattle.term_value.specs.Setting.{Setting}
use Rattle.term_value.specs.Tree as t
use Rattle.term_value.specs.Value.{Value, VInt}
use Rattle.pattern_compile.specs.Meaning.{target_of, size_of, sizes_of, segments_of, typed_of, wants, sized_wants, size_form, means, TakeAlike}
use Rattle.pattern_compile.specs.Patterns.{HasForm, IsTyped, HasMark, IsMarked, target_used, shape_target, given, size_in}
use Rattle.pattern_compile.specs.Compiled.{then, sized_by, compiled, compiled_by}
use Rattle.pattern_compile.specs.declared.pattern.Want.TheVariants.{Literal, Var}
use Rattle.pattern_compile.specs.declared.pattern.Target.{Target}
use Rattle.pattern_compile.specs.declared.pattern.Target.TheVariants.{Bind, Same, Any}
use Rattle.pattern_compile.specs.declared.pattern.SizeForm.{SizeForm}
use Rattle.pattern_compile.specs.declared.pattern.PatSegment.{PatSegment}
use Rattle.pattern_compile.specs.declared.operation.Operation.{Operation}

abbrev typed_as : Kind → Sign → Endian → SizeUse → ℕ → Typed
typed_as kind sign endian size unit = record { kind = kind; sign = sign; endian = endian; size = size; unit = unit }

-- ---- What is cut off doesn't depend on how the extent was told

kept : (kind : Kind) (sign : Sign) (endian : Endian) (size other : SizeUse) (unit : ℕ) (e : Extent) (bits : List Bool) → cut (typed_as kind sign endian size unit) e bits ≡ cut (typed_as kind sign endian other unit) e bits
kept kind sign endian size other unit (Exactly n) bits = refl
kept kind sign endian size other unit (InUnits u) bits = refl
kept kind sign endian size other unit Spelled bits = refl
kept kind sign endian size other unit BadSize bits = refl

as_bits : (sign : Sign) (endian : Endian) (size other : SizeUse) (unit : ℕ) (e : Extent) (bits : List Bool) → cut (typed_as k.Bitstring sign endian size unit) e bits ≡ cut (typed_as k.Binary sign endian other unit) e bits
as_bits sign endian size other unit (Exactly n) bits = refl
as_bits sign endian size other unit (InUnits u) bits = refl
as_bits sign endian size other unit Spelled bits = refl
as_bits sign endian size other unit BadSize bits = refl

abbrev NoCharacter : Kind → Type 0
NoCharacter (k.Utf kind) = ⊥
NoCharacter kind = Unit {0}

module _ (s : Setting) (bs : List t.Bound) where
  passed : (b : Bool) (v w : Value) (rest : List Bool) → wanted s t.Anything bs (cut_where b (cut_off v rest)) ≡ wanted s t.Anything bs (cut_where b (cut_off w rest))
  passed true v w rest = refl
  passed false v w rest = refl

  -- of a value that is skipped neither the kind nor the number counts
  skipped : (kind : Kind) → NoCharacter kind → (sign : Sign) (endian : Endian) (size other : SizeUse) (unit : ℕ) (bits : List Bool) (e : Extent)
      → wanted s t.Anything bs (cut (typed_as k.Bitstring Unsigned Big size unit) e bits) ≡ wanted s t.Anything bs (cut (typed_as kind sign endian other unit) e bits)
  skipped k.Int h sign endian size other unit bits (Exactly n) = passed _ _ _ _
  skipped k.Binary h sign endian size other unit bits (Exactly n) = refl
  skipped k.Bitstring h sign endian size other unit bits (Exactly n) = refl
  skipped (k.Utf kind) h sign endian size other unit bits e = absurd h
  skipped k.Int h sign endian size other unit bits (InUnits u) = refl
  skipped k.Binary h sign endian size other unit bits (InUnits u) = refl
  skipped k.Bitstring h sign endian size other unit bits (InUnits u) = refl
  skipped k.Int h sign endian size other unit bits Spelled = refl
  skipped k.Binary h sign endian size other unit bits Spelled = refl
  skipped k.Bitstring h sign endian size other unit bits Spelled = refl
  skipped k.Int h sign endian size other unit bits BadSize = refl
  skipped k.Binary h sign endian size other unit bits BadSize = refl
  skipped k.Bitstring h sign endian size other unit bits BadSize = refl

  -- a size that is evaluated
  by_size : (one two : Typed) (target : t.Target) (bits : List Bool) → one.size ≡ z.Given → two.size ≡ z.Given → one.unit ≡ two.unit
      → ((e : Extent) → wanted s target bs (cut one e bits) ≡ wanted s target bs (cut two e bits))
      → (r : Result) → taken_by s one target bs bits (reach_by one r) ≡ taken_by s two target bs bits (reach_by two r)
  by_size one two target bits p q u h (Gives v) = ap (λ e. wanted s target bs (cut one e bits)) (ap (λ y. extent y one.unit (Some v)) (p ∙ sym q) ∙ ap (λ n. extent two.size n (Some v)) u) ∙ h (extent two.size two.unit (Some v))
  by_size one two target bits p q u h (Stops (Raise reason)) = h BadSize
  by_size one two target bits p q u h (Stops Limit) = refl

  -- how many bits an operation takes is what the segment's type and size say
  module _ (trees : ℕ → t.Tree) (kind : Kind) (sign : Sign) (endian : Endian) (unit : ℕ) (one : Typed) (target : t.Target) (bits : List Bool) (p : one.size ≡ z.Given) (u : one.unit ≡ unit) where
    with_given : (form : SizeForm) → ((e : Extent) → wanted s (in_target bs target) bs (cut one e bits) ≡ wanted s (in_target bs target) bs (cut (typed_as kind sign endian z.Given unit) e bits))
        → taken s one target (sizes_of trees (Some form)) bs bits ≡ taken s (typed_as kind sign endian z.Given unit) target (sizes_of trees (Some form)) bs bits
    with_given form h = by_size one (typed_as kind sign endian z.Given unit) (in_target bs target) bits p refl u h (result_of s (put_in bs (size_of trees form)))

    with_default : (n : ℕ) → ((e : Extent) → wanted s (in_target bs target) bs (cut one e bits) ≡ wanted s (in_target bs target) bs (cut (typed_as kind sign endian (z.Default n) unit) e bits))
        → taken s one target (t.and (t.Val (VInt (pos n))) t.end) bs bits ≡ taken s (typed_as kind sign endian (z.Default n) unit) target t.end bs bits
    with_default n h = ap (λ e. wanted s (in_target bs target) bs (cut one e bits)) (ap (λ y. extent y one.unit (Some (VInt (pos n)))) p ∙ ap (λ m. Exactly (n * m)) u) ∙ h (Exactly (n * unit))

-- ---- One segment

abbrev IsAlike : (ℕ → t.Tree) → Kind → Sign → Endian → SizeUse → ℕ → Option SizeForm → Target → Type 0
IsAlike trees kind sign endian size unit form target = (s : Setting) (bs : List t.Bound) (bits : List Bool)
    → taken s (typed_of (compiled_by kind (typed_as kind sign endian size unit) form target)) (target_of (wants (compiled_by kind (typed_as kind sign endian size unit) form target))) (sizes_of trees (size_form (compiled_by kind (typed_as kind sign endian size unit) form target))) bs bits
    ≡ taken s (typed_as kind sign endian size unit) (target_of target) (sizes_of trees form) bs bits

module _ (trees : ℕ → t.Tree) (sign : Sign) (endian : Endian) (unit : ℕ) where
  int_given : (form : SizeForm) (target : Target) → IsAlike trees k.Int sign endian z.Given unit (Some form) target
  int_given form (Bind x) s bs bits = refl
  int_given form (Same want) s bs bits = refl
  int_given form Any s bs bits = with_given s bs trees k.Int sign endian unit (typed_as k.Bitstring Unsigned Big z.Given unit) t.Anything bits refl refl form (skipped s bs k.Int tt sign endian z.Given z.Given unit bits)

  int_default : (n : ℕ) (target : Target) → IsAlike trees k.Int sign endian (z.Default n) unit None target
  int_default n (Bind x) s bs bits = refl
  int_default n (Same want) s bs bits = refl
  int_default n Any s bs bits = with_default s bs trees k.Int sign endian unit (typed_as k.Bitstring Unsigned Big z.Given unit) t.Anything bits refl refl n (skipped s bs k.Int tt sign endian z.Given (z.Default n) unit bits)

  bits_given : (form : SizeForm) (target : Target) → IsAlike trees k.Bitstring sign endian z.Given unit (Some form) target
  bits_given form (Bind x) s bs bits = refl
  bits_given form (Same want) s bs bits = refl
  bits_given form Any s bs bits = with_given s bs trees k.Bitstring sign endian unit (typed_as k.Bitstring Unsigned Big z.Given unit) t.Anything bits refl refl form (skipped s bs k.Bitstring tt sign endian z.Given z.Given unit bits)

  bits_default : (n : ℕ) (target : Target) → IsAlike trees k.Bitstring sign endian (z.Default n) unit None target
  bits_default n (Bind x) s bs bits = refl
  bits_default n (Same want) s bs bits = refl
  bits_default n Any s bs bits = with_default s bs trees k.Bitstring sign endian unit (typed_as k.Bitstring Unsigned Big z.Given unit) t.Anything bits refl refl n (skipped s bs k.Bitstring tt sign endian z.Given (z.Default n) unit bits)

  module _ (target : t.Target) (s : Setting) (bs : List t.Bound) (bits : List Bool) where
    part_given : (form : SizeForm) → taken s (typed_as k.Bitstring sign endian z.Given unit) target (sizes_of trees (Some form)) bs bits ≡ taken s (typed_as k.Binary sign endian z.Given unit) target (sizes_of trees (Some form)) bs bits
    part_given form = with_given s bs trees k.Binary sign endian unit (typed_as k.Bitstring sign endian z.Given unit) target bits refl refl form (λ e. ap (wanted s (in_target bs target) bs) (as_bits sign endian z.Given z.Given unit e bits))

    part_default : (n : ℕ) → taken s (typed_as k.Bitstring sign endian z.Given unit) target (t.and (t.Val (VInt (pos n))) t.end) bs bits ≡ taken s (typed_as k.Binary sign endian (z.Default n) unit) target t.end bs bits
    part_default n = with_default s bs trees k.Binary sign endian unit (typed_as k.Bitstring sign endian z.Given unit) target bits refl refl n (λ e. ap (wanted s (in_target bs target) bs) (as_bits sign endian z.Given (z.Default n) unit e bits))

  binary_given : (form : SizeForm) (target : Target) → IsAlike trees k.Binary sign endian z.Given unit (Some form) target
  binary_given form (Bind x) s bs bits = part_given (target_of (Bind x)) s bs bits form
  binary_given form (Same want) s bs bits = part_given (target_of (Same want)) s bs bits form
  binary_given form Any s bs bits = with_given s bs trees k.Binary sign endian unit (typed_as k.Bitstring Unsigned Big z.Given unit) t.Anything bits refl refl form (skipped s bs k.Binary tt sign endian z.Given z.Given unit bits)

  binary_default : (n : ℕ) (target : Target) → IsAlike trees k.Binary sign endian (z.Default n) unit None target
  binary_default n (Bind x) s bs bits = part_default (target_of (Bind x)) s bs bits n
  binary_default n (Same want) s bs bits = part_default (target_of (Same want)) s bs bits n
  binary_default n Any s bs bits = with_default s bs trees k.Binary sign endian unit (typed_as k.Bitstring Unsigned Big z.Given unit) t.Anything bits refl refl n (skipped s bs k.Binary tt sign endian z.Given (z.Default n) unit bits)

  alike : (kind : Kind) (size : SizeUse) (form : Option SizeForm) (target : Target) → HasForm kind size form → IsAlike trees kind sign endian size unit form target
  alike k.Int z.Given (Some form) target h = int_given form target
  alike k.Int z.Given None target h = absurd h
  alike k.Int (z.Default n) None target h = int_default n target
  alike k.Int (z.Default n) (Some form) target h = absurd h
  alike k.Int z.Whole None target h = absurd h
  alike k.Int z.Whole (Some form) target h = absurd h
  alike k.Int z.NoSize None target h = absurd h
  alike k.Int z.NoSize (Some form) target h = absurd h
  alike k.Binary z.Given (Some form) target h = binary_given form target
  alike k.Binary z.Given None target h = absurd h
  alike k.Binary (z.Default n) None target h = binary_default n target
  alike k.Binary (z.Default n) (Some form) target h = absurd h
  alike k.Binary z.Whole None target h = λ s bs bits. refl
  alike k.Binary z.Whole (Some form) target h = absurd h
  alike k.Binary z.NoSize None target h = absurd h
  alike k.Binary z.NoSize (Some form) target h = absurd h
  alike k.Bitstring z.Given (Some form) target h = bits_given form target
  alike k.Bitstring z.Given None target h = absurd h
  alike k.Bitstring (z.Default n) None target h = bits_default n target
  alike k.Bitstring (z.Default n) (Some form) target h = absurd h
  alike k.Bitstring z.Whole None target h = λ s bs bits. refl
  alike k.Bitstring z.Whole (Some form) target h = absurd h
  alike k.Bitstring z.NoSize None target h = absurd h
  alike k.Bitstring z.NoSize (Some form) target h = absurd h
  alike (k.Utf kind) z.NoSize None target h = λ s bs bits. refl
  alike (k.Utf kind) z.NoSize (Some form) target h = absurd h
  alike (k.Utf kind) z.Given form target h = absurd h
  alike (k.Utf kind) (z.Default n) form target h = absurd h
  alike (k.Utf kind) z.Whole form target h = absurd h

-- ---- All segments

first : (p : PatSegment) (ps : List PatSegment) → All IsTyped (p ∷ ps) → IsTyped p
first p ps h = h 0 p (omega arith)

others : (p : PatSegment) (ps : List PatSegment) → All IsTyped (p ∷ ps) → All IsTyped ps
others p ps h = λ k d l. h (suc k) d (omega arith)

then_alike : (x : Taken) (f g : List t.Bound → List Bool → Taken) → ((bs : List t.Bound) (rest : List Bool) → f bs rest ≡ g bs rest) → then_take x f ≡ then_take x g
then_alike (Cut bs rest) f g h = h bs rest
then_alike NoCut f g h = refl
then_alike CutLimit f g h = refl

module _ (trees : ℕ → t.Tree) where
  one_more : (p : PatSegment) (target : Target) → IsTyped p → (ops ss : t.Segments) → TakeAlike ops ss
      → TakeAlike (t.segment (typed_of (compiled target p)) (target_of (wants (compiled target p))) (sizes_of trees (size_form (compiled target p))) ops) (t.segment p.typed (target_of target) (sizes_of trees p.size) ss)
  one_more p target h ops ss rest s bs bits =
      ap (λ x. then_take x (all_taken s ops)) (alike trees p.typed.sign p.typed.endian p.typed.unit p.typed.kind p.typed.size p.size target h s bs bits)
      ∙ then_alike (taken s p.typed (target_of target) (sizes_of trees p.size) bs bits) (all_taken s ops) (all_taken s ss) (rest s)

  pub compiled_alike : (ps : List PatSegment) → All IsTyped ps → TakeAlike (means trees (map (λ (p : PatSegment). compiled p.target p) ps)) (segments_of trees ps)
  compiled_alike [] h = λ s bs bits. refl
  compiled_alike (p ∷ ps) h = one_more p p.target (first p ps h) (means trees (map (λ (q : PatSegment). compiled q.target q) ps)) (segments_of trees ps) (compiled_alike ps (others p ps h))

  of_used : (x : ℕ) (used : Bool) → target_of (cond used (Bind x) Any) ≡ variable_where used x
  of_used x true = refl
  of_used x false = refl

  shape_wants : (earlier : List ℕ) (target : Target) (used : Bool) (later : t.Segments) → HasMark earlier target used later → target_of (target_used used target) ≡ shape_of_target earlier later (target_of target)
  shape_wants earlier (Bind x) used later h = of_used x used ∙ ap (λ b. variable_where (not b && used) x) (sym h.0) ∙ ap (λ b. variable_where (not (list_any (nat_eq x) earlier) && b) x) h.1
  shape_wants earlier (Same (Literal n)) used later h = refl
  shape_wants earlier (Same (Var x)) used later h = ap (λ b. variable_where (not b && uses x later) x) (sym h)
  shape_wants earlier Any used later h = refl

  pub shape_alike : (earlier : List ℕ) (ps : List PatSegment) → All IsTyped ps → IsMarked trees earlier ps
      → TakeAlike (means trees (map (λ (p : PatSegment). compiled (shape_target p) p) ps)) (shape_after earlier (segments_of trees ps))
  shape_alike earlier [] h m = λ s bs bits. refl
  shape_alike earlier (p ∷ ps) h m = λ s bs bits.
      one_more p (shape_target p) (first p ps h) (means trees (map (λ (q : PatSegment). compiled (shape_target q) q) ps)) (shape_after (and_variable earlier (target_of p.target)) (segments_of trees ps)) (shape_alike (and_variable earlier (target_of p.target)) ps (others p ps h) m.1) s bs bits
      ∙ ap (λ g. then_take (taken s p.typed g (sizes_of trees p.size) bs bits) (all_taken s (shape_after (and_variable earlier (target_of p.target)) (segments_of trees ps)))) (shape_wants earlier p.target p.used (segments_of trees ps) m.0)

-- ---- What operations want, and the numbers of their sizes

module _ (typed : Typed) (form : Option SizeForm) where
  then_wants : (bits : Bool) (target : Target) → sized_wants (then typed bits target) ≡ target
  then_wants bits (Bind x) = refl
  then_wants bits (Same want) = refl
  then_wants bits Any = refl

  sized_wanted : (size : SizeUse) (bits : Bool) (target : Target) → wants (sized_by size typed form bits target) ≡ target
  sized_wanted z.Given bits target = then_wants bits target
  sized_wanted (z.Default n) bits target = then_wants bits target
  sized_wanted z.Whole bits target = refl
  sized_wanted z.NoSize bits target = refl

  compiled_wants : (kind : Kind) (target : Target) → wants (compiled_by kind typed form target) ≡ target
  compiled_wants k.Int target = sized_wanted typed.size false target
  compiled_wants k.Binary target = sized_wanted typed.size true target
  compiled_wants k.Bitstring target = sized_wanted typed.size true target
  compiled_wants (k.Utf kind) target = refl

pub targets_kept : (f : PatSegment → Target) (ps : List PatSegment) → map wants (map (λ (p : PatSegment). compiled (f p) p) ps) ≡ map f ps
targets_kept f [] = refl
targets_kept f (p ∷ ps) = ap (λ x. x ∷ map wants (map (λ (q : PatSegment). compiled (f q) q) ps)) (compiled_wants p.typed p.size p.typed.kind (f p)) ∙ ap (λ xs. f p ∷ xs) (targets_kept f ps)

sizes_agree : (typed : Typed) (size : SizeUse) (bits : Bool) (target : Target) (form : Option SizeForm) (kind : Kind) → HasForm kind size form → given (size_form (sized_by size typed form bits target)) ≡ given form
sizes_agree typed z.Given bits target (Some form) kind h = refl
sizes_agree typed z.Given bits target None k.Int h = absurd h
sizes_agree typed z.Given bits target None k.Binary h = absurd h
sizes_agree typed z.Given bits target None k.Bitstring h = absurd h
sizes_agree typed z.Given bits target None (k.Utf kind) h = absurd h
sizes_agree typed (z.Default n) bits target None kind h = refl
sizes_agree typed (z.Default n) bits target (Some form) k.Int h = absurd h
sizes_agree typed (z.Default n) bits target (Some form) k.Binary h = absurd h
sizes_agree typed (z.Default n) bits target (Some form) k.Bitstring h = absurd h
sizes_agree typed (z.Default n) bits target (Some form) (k.Utf kind) h = absurd h
sizes_agree typed z.Whole bits target None kind h = refl
sizes_agree typed z.Whole bits target (Some form) k.Int h = absurd h
sizes_agree typed z.Whole bits target (Some form) k.Binary h = absurd h
sizes_agree typed z.Whole bits target (Some form) k.Bitstring h = absurd h
sizes_agree typed z.Whole bits target (Some form) (k.Utf kind) h = absurd h
sizes_agree typed z.NoSize bits target None kind h = refl
sizes_agree typed z.NoSize bits target (Some form) k.Int h = absurd h
sizes_agree typed z.NoSize bits target (Some form) k.Binary h = absurd h
sizes_agree typed z.NoSize bits target (Some form) k.Bitstring h = absurd h
sizes_agree typed z.NoSize bits target (Some form) (k.Utf kind) h = absurd h

character_size : (size : SizeUse) (form : Option SizeForm) (kind : UtfKind) → HasForm (k.Utf kind) size form → None ≡ given form
character_size z.NoSize None kind h = refl
character_size z.NoSize (Some form) kind h = absurd h
character_size z.Given form kind h = absurd h
character_size (z.Default n) form kind h = absurd h
character_size z.Whole form kind h = absurd h

size_kept : (kind : Kind) (typed : Typed) (target : Target) (form : Option SizeForm) → HasForm kind typed.size form → given (size_form (compiled_by kind typed form target)) ≡ given form
size_kept k.Int typed target form h = sizes_agree typed typed.size false target form k.Int h
size_kept k.Binary typed target form h = sizes_agree typed typed.size true target form k.Binary h
size_kept k.Bitstring typed target form h = sizes_agree typed typed.size true target form k.Bitstring h
size_kept (k.Utf kind) typed target form h = character_size typed.size form kind h

pub sizes_kept : (f : PatSegment → Target) (ps : List PatSegment) → All IsTyped ps → map (λ (op : Operation). given (size_form op)) (map (λ (p : PatSegment). compiled (f p) p) ps) ≡ map size_in ps
sizes_kept f [] h = refl
sizes_kept f (p ∷ ps) h = ap (λ x. x ∷ map (λ (op : Operation). given (size_form op)) (map (λ (q : PatSegment). compiled (f q) q) ps)) (size_kept p.typed.kind p.typed (f p) p.size (first p ps h)) ∙ ap (λ xs. size_in p ∷ xs) (sizes_kept f ps (others p ps h))
