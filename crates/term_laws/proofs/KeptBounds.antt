-- Contractions keep each value within its bounds.
use Rattle.std.proofs.Common.{◌≡◌, ℕ, zero, suc, ℤ, pos, negsuc, ◌+◌, ◌-◌, ◌*◌, ◌/◌, ◌<◌, ◌≤◌, ◌^◌, max, Bool, true, false, List, [], ◌∷◌, ◌++◌, length, take, drop, map, reverse, Option, Some, None, cond, refl, ap, sym, subst, arith, length-drop}
use mathlib.Core.List.{reverse_aux}
use Rattle.std.specs.Prelude.{nat_le, nat_lt, nat_eq, is_some, not, neg_ℤ, slice_get, ◌&&◌}
use Rattle.std.specs.Ordering.{is_lt, is_gt, is_le, is_ge}
use Rattle.std.proofs.lemmas.Bool.Decides.{nat_tests}
use Rattle.std.proofs.Math.Pow.{pow_mono}
use Rattle.bits_value.specs.Number.{bounded, natural}
use Rattle.bits_value.proofs.BitLists.{natural-lt}
use Rattle.erl_syntax.specs.declared.built_in.BuiltIn.{BuiltIn}
use Rattle.erl_syntax.specs.declared.built_in.BuiltIn.TheVariants as b
use Rattle.erl_syntax.specs.declared.expr.Op.{Op}
use Rattle.erl_syntax.specs.declared.expr.Op.TheVariants as o
use Rattle.erl_syntax.specs.declared.expr.Prefix.{Prefix}
use Rattle.erl_syntax.specs.declared.expr.Prefix.TheVariants as p
use Rattle.term_value.specs.declared.computed.Arith.{Arith}
use Rattle.term_value.specs.declared.computed.Arith.TheVariants as a
use Rattle.term_value.specs.Value.{Value, VInt, VAtom, VPid, VTuple, VList, VBits, Values, none, more, row, items, count, weight, weights, depth, depths}
use Rattle.term_value.specs.Result.{Result, Gives, Stops, truth, truth_of}
use Rattle.term_value.specs.Bounds.{bit_bound, item_bound, weight_bound, depth_bound, is_within, value_or_limit}
use Rattle.term_value.specs.Setting.{Setting}
use Rattle.term_value.specs.Order.{order, same}
use Rattle.term_value.specs.Arithmetic.{arithmetic}
use Rattle.term_value.specs.Operators.{arithmetic_result, computed, operate, negated_truth, prefixed}
use Rattle.term_value.specs.BuiltIns.{gives_or_badarg, is_integer, is_atom, is_pid, is_tuple, is_list, is_binary, is_bitstring, is_whole, item_counted, bit_size, byte_size, tuple_size, element, list_length, head, tail, absolute, greater, smaller, byte_range, binary_part, binary_part_of, split_binary, bytes_of, integers, binary_to_list, bits_or_badarg, items_bits, list_to_binary, integer_to_binary, digits_number, positive, negative, integer_of, binary_to_integer, tuple_to_list, list_to_tuple, list_reversed, native_1, native_2, native}
use Rattle.term_value.specs.Encode.{Encoded, Bits, Fails, Filled, encoded, joint_within, and_bits, built_on, filled_with}
use Rattle.term_value.specs.Primitives.{before_list, list_or_badarg, listed_on, operated, built_where, exact, bounded_result, prim}
use Rattle.term_value.specs.Tree.{Prim, MakeTuple, MakeList, MakeListOn, Build, Operate, Prefixed, Native}
use Rattle.term_laws.specs.Inside.{EachValue, EachOf, OfResult, IsKept, IsBounded, AreBounded}

-- ---- Numbers

le_true : (m n : ℕ) → m ≤ n → nat_le m n ≡ true
le_true m n h = grind (arith, nat_tests)

true_le : (m n : ℕ) → nat_le m n ≡ true → m ≤ n
true_le m n h = grind (arith, nat_tests, h)

shorter : (m n most : ℕ) → m ≤ n → nat_le n most ≡ true → nat_le m most ≡ true
shorter m n most h g = le_true m most (omega (arith, h, true_le n most g))

both : (x y : Bool) → (x && y) ≡ true → (x ≡ true) × (y ≡ true)
both true y e = (refl, e)
both false y e = cc e

all_three : (x y z : Bool) → x ≡ true → y ≡ true → z ≡ true → (x && (y && z)) ≡ true
all_three true true true d e f = refl
all_three true true false d e f = cc f
all_three true false z d e f = cc e
all_three false y z d e f = cc d

take_short : (n : ℕ) (bits : List Bool) → length (take n bits) ≤ length bits
take_short zero bits = omega arith
take_short (suc n) [] = omega arith
take_short (suc n) (x ∷ bits) = omega (arith, take_short n bits)

front_within : (n : ℕ) (bits : List Bool) → IsBounded (VBits bits) → IsBounded (VBits (take n bits))
front_within n bits h = shorter (length (take n bits)) (length bits) bit_bound (take_short n bits) h

back_within : (n : ℕ) (bits : List Bool) → IsBounded (VBits bits) → IsBounded (VBits (drop n bits))
back_within n bits h = shorter (length (drop n bits)) (length bits) bit_bound (omega (arith, length-drop n bits)) h

tail_within : (c w ws d ds : ℕ) → (nat_le (1 + c) item_bound && (nat_le (1 + (w + ws)) weight_bound && nat_le (1 + max d ds) depth_bound)) ≡ true
    → (nat_le c item_bound && (nat_le (1 + ws) weight_bound && nat_le (1 + ds) depth_bound)) ≡ true
tail_within c w ws d ds h =
    let f = both (nat_le (1 + c) item_bound) (nat_le (1 + (w + ws)) weight_bound && nat_le (1 + max d ds) depth_bound) h in
    let g = both (nat_le (1 + (w + ws)) weight_bound) (nat_le (1 + max d ds) depth_bound) f.1 in
    all_three (nat_le c item_bound) (nat_le (1 + ws) weight_bound) (nat_le (1 + ds) depth_bound)
    (shorter c (1 + c) item_bound (omega arith) f.0) (shorter (1 + ws) (1 + (w + ws)) weight_bound (omega arith) g.0) (shorter (1 + ds) (1 + max d ds) depth_bound (omega arith) g.1)

at_most : (n : ℕ) (bits : List Bool) → length (take n bits) ≤ n
at_most zero bits = omega arith
at_most (suc n) [] = omega arith
at_most (suc n) (x ∷ bits) = omega (arith, at_most n bits)

-- a byte is within the bound of integers
byte_within : (bits : List Bool) → IsBounded (VInt (pos (natural (take 8 bits))))
byte_within bits =
    let x : natural (take 8 bits) < 2 ^ length (take 8 bits) = natural-lt (take 8 bits) in
    let y : 2 ^ length (take 8 bits) ≤ 2 ^ 8 = pow_mono (at_most 8 bits) in
    let t : nat_lt (natural (take 8 bits)) (2 ^ 127) ≡ true = grind (arith, nat_tests) in
    rw t refl

-- ---- Lists of values

are_bounded : (vs : Values) → EachValue IsBounded vs → AreBounded vs
are_bounded none h = tt
are_bounded (more v vs) h = (h.0, are_bounded vs h.1)

each_bounded : (vs : Values) → AreBounded vs → EachValue IsBounded vs
each_bounded none h = tt
each_bounded (more v vs) h = (h.0, each_bounded vs h.1)

row_bounded : (vs : List Value) → EachOf IsBounded vs → AreBounded (row vs)
row_bounded [] h = tt
row_bounded (v ∷ vs) h = (h.0, row_bounded vs h.1)

bounded_row : (vs : List Value) → AreBounded (row vs) → EachOf IsBounded vs
bounded_row [] h = tt
bounded_row (v ∷ vs) h = (h.0, bounded_row vs h.1)

items_bounded : (vs : Values) → AreBounded vs → EachOf IsBounded (items vs)
items_bounded none h = tt
items_bounded (more v vs) h = (h.0, items_bounded vs h.1)

append_bounded : (vs ws : List Value) → EachOf IsBounded vs → EachOf IsBounded ws → EachOf IsBounded (vs ++ ws)
append_bounded [] ws h g = g
append_bounded (v ∷ vs) ws h g = (h.0, append_bounded vs ws h.1 g)

turned_bounded : (vs ws : List Value) → EachOf IsBounded vs → EachOf IsBounded ws → EachOf IsBounded (reverse_aux vs ws)
turned_bounded [] ws h g = g
turned_bounded (v ∷ vs) ws h g = turned_bounded vs (v ∷ ws) h.1 (h.0, g)

reverse_bounded : (vs : List Value) → EachOf IsBounded vs → EachOf IsBounded (reverse vs)
reverse_bounded vs h = turned_bounded vs [] h tt

bytes_bounded : (n : ℕ) (bits : List Bool) → EachOf IsBounded (map (λ c. VInt (pos c)) (bytes_of n bits))
bytes_bounded zero bits = tt
bytes_bounded (suc n) bits = (byte_within bits, bytes_bounded n (drop 8 bits))

-- ---- What stands in a result

-- the items of a tuple or a list are within the bounds
abbrev Inner : Value → Type 0
Inner (VTuple vs) = AreBounded vs
Inner (VList vs) = AreBounded vs
Inner _ = Unit {0}

inner_of : (v : Value) → IsBounded v → Inner v
inner_of (VTuple vs) h = h.1
inner_of (VList vs) h = h.1
inner_of (VInt n) h = tt
inner_of (VAtom c) h = tt
inner_of (VPid c) h = tt
inner_of (VBits bits) h = tt

bounded_of : (v : Value) → is_within v ≡ true → Inner v → IsBounded v
bounded_of (VTuple vs) e h = (e, h)
bounded_of (VList vs) e h = (e, h)
bounded_of (VInt n) e h = e
bounded_of (VAtom c) e h = tt
bounded_of (VPid c) e h = tt
bounded_of (VBits bits) e h = e

within_bounded : (t : Bool) (v : Value) → is_within v ≡ t → Inner v → OfResult IsBounded (value_or_limit t v)
within_bounded true v e h = bounded_of v e h
within_bounded false v e h = tt

result_bounded : (r : Result) → OfResult Inner r → OfResult IsBounded (bounded_result r)
result_bounded (Gives v) h = within_bounded (is_within v) v refl h
result_bounded (Stops stop) h = tt

truth_inner : (t : Bool) → Inner (truth t)
truth_inner true = tt
truth_inner false = tt

cond_inner : (t : Bool) (r s : Result) → OfResult Inner r → OfResult Inner s → OfResult Inner (cond t r s)
cond_inner true r s h g = h
cond_inner false r s h g = g

-- ---- Lists, tuples and bit expressions

tail_inner : (v : Value) → IsBounded v → OfResult Inner (list_or_badarg v)
tail_inner (VList vs) h = h.1
tail_inner _ h = tt

before_inner : (v : Value) (r : Result) → IsBounded v → OfResult Inner r → OfResult Inner (before_list v r)
before_inner v (Gives (VList vs)) h g = (h, g)
before_inner v (Gives (VInt n)) h g = tt
before_inner v (Gives (VAtom n)) h g = tt
before_inner v (Gives (VPid n)) h g = tt
before_inner v (Gives (VTuple n)) h g = tt
before_inner v (Gives (VBits n)) h g = tt
before_inner v (Stops stop) h g = tt

listed_inner : (vs : Values) → EachValue IsBounded vs → OfResult Inner (listed_on vs)
listed_inner none h = tt
listed_inner (more v none) h = tail_inner v h.0
listed_inner (more v (more w vs)) h = before_inner v (listed_on (more w vs)) h.0 (listed_inner (more w vs) h.1)

joint_inner : (t : Bool) (later : List Bool → Result) (bits : List Bool) → ((more_bits : List Bool) → OfResult Inner (later more_bits)) → OfResult Inner (joint_within t later bits)
joint_inner true later bits h = h bits
joint_inner false later bits h = tt

and_inner : (e : Encoded) (later : List Bool → Result) (before : List Bool) → ((bits : List Bool) → OfResult Inner (later bits)) → OfResult Inner (and_bits e later before)
and_inner (Bits bits) later before h = joint_inner (nat_le (length (before ++ bits)) bit_bound) later (before ++ bits) h
and_inner (Fails stop) later before h = tt

built_inner : (segments : List Filled) (before : List Bool) → OfResult Inner (built_on segments before)
built_inner [] before = tt
built_inner (s ∷ segments) before = and_inner (encoded s.typed s.value s.size) (built_on segments) before (built_inner segments)

where_inner : (s : Option (List Filled)) → OfResult Inner (built_where s)
where_inner (Some segments) = built_inner segments []
where_inner None = tt

-- ---- Operators

arith_inner : (r : Arith) → OfResult Inner (arithmetic_result r)
arith_inner (a.Value n) = tt
arith_inner a.BadArith = tt
arith_inner a.Limit = tt

computed_inner : (op : Op) (v w : Value) → OfResult Inner (computed op v w)
computed_inner op (VInt m) (VInt n) = arith_inner (arithmetic op m n)
computed_inner op (VInt m) (VAtom n) = tt
computed_inner op (VInt m) (VPid n) = tt
computed_inner op (VInt m) (VTuple n) = tt
computed_inner op (VInt m) (VList n) = tt
computed_inner op (VInt m) (VBits n) = tt
computed_inner op (VAtom m) w = tt
computed_inner op (VPid m) w = tt
computed_inner op (VTuple m) w = tt
computed_inner op (VList m) w = tt
computed_inner op (VBits m) w = tt

operate_inner : (names : ℕ → List ℕ) (op : Op) (v w : Value) → OfResult Inner (operate names op v w)
operate_inner names o.Eq v w = truth_inner (same names v w)
operate_inner names o.Same v w = truth_inner (same names v w)
operate_inner names o.Ne v w = truth_inner (not (same names v w))
operate_inner names o.NotSame v w = truth_inner (not (same names v w))
operate_inner names o.Lt v w = truth_inner (is_lt (order names v w))
operate_inner names o.Le v w = truth_inner (is_le (order names v w))
operate_inner names o.Gt v w = truth_inner (is_gt (order names v w))
operate_inner names o.Ge v w = truth_inner (is_ge (order names v w))
operate_inner names op v w = computed_inner op v w

negated_inner : (t : Option Bool) → OfResult Inner (negated_truth t)
negated_inner (Some t) = truth_inner (not t)
negated_inner None = tt

prefixed_inner : (op : Prefix) (v : Value) → OfResult Inner (prefixed op v)
prefixed_inner p.Plus (VInt n) = tt
prefixed_inner p.Plus _ = tt
prefixed_inner p.Minus (VInt n) = tt
prefixed_inner p.Minus _ = tt
prefixed_inner p.Bnot (VInt n) = tt
prefixed_inner p.Bnot _ = tt
prefixed_inner p.Not v = negated_inner (truth_of v)

-- ---- Built-in functions

size_inner : (v : Value) → OfResult Inner (bit_size v) × OfResult Inner (byte_size v) × OfResult Inner (tuple_size v) × OfResult Inner (list_length v) × OfResult Inner (absolute v) × OfResult Inner (integer_to_binary v)
size_inner (VInt n) = (tt, tt, tt, tt, tt, tt)
size_inner (VAtom n) = (tt, tt, tt, tt, tt, tt)
size_inner (VPid n) = (tt, tt, tt, tt, tt, tt)
size_inner (VTuple n) = (tt, tt, tt, tt, tt, tt)
size_inner (VList n) = (tt, tt, tt, tt, tt, tt)
size_inner (VBits n) = (tt, tt, tt, tt, tt, tt)

head_inner : (v : Value) → IsBounded v → OfResult Inner (head v) × OfResult Inner (tail v)
head_inner (VList (more v vs)) h = (inner_of v h.1.0, h.1.1)
head_inner (VList none) h = (tt, tt)
head_inner (VInt n) h = (tt, tt)
head_inner (VAtom n) h = (tt, tt)
head_inner (VPid n) h = (tt, tt)
head_inner (VTuple n) h = (tt, tt)
head_inner (VBits n) h = (tt, tt)

to_list_inner : (v : Value) → OfResult Inner (binary_to_list v)
to_list_inner (VBits bits) = cond_inner (is_whole bits) (Gives (VList (integers (bytes_of (length bits / 8) bits)))) _ (row_bounded (map (λ c. VInt (pos c)) (bytes_of (length bits / 8) bits)) (bytes_bounded (length bits / 8) bits)) tt
to_list_inner (VInt n) = tt
to_list_inner (VAtom n) = tt
to_list_inner (VPid n) = tt
to_list_inner (VTuple n) = tt
to_list_inner (VList n) = tt

bits_inner : (x : Option (List Bool)) → OfResult Inner (bits_or_badarg x)
bits_inner (Some bits) = tt
bits_inner None = tt

from_list_inner : (v : Value) → OfResult Inner (list_to_binary v)
from_list_inner (VList vs) = bits_inner (items_bits vs)
from_list_inner (VInt n) = tt
from_list_inner (VAtom n) = tt
from_list_inner (VPid n) = tt
from_list_inner (VTuple n) = tt
from_list_inner (VBits n) = tt

positive_inner : (x : Option ℕ) → OfResult Inner (positive x)
positive_inner (Some n) = tt
positive_inner None = tt

negative_inner : (x : Option ℕ) → OfResult Inner (negative x)
negative_inner (Some n) = tt
negative_inner None = tt

integer_inner : (cs : List ℕ) → OfResult Inner (integer_of cs)
integer_inner [] = tt
integer_inner (c ∷ cs) = cond_inner (nat_eq c 43) (positive (digits_number cs)) _ (positive_inner (digits_number cs))
    (cond_inner (nat_eq c 45) (negative (digits_number cs)) (positive (digits_number (c ∷ cs))) (negative_inner (digits_number cs)) (positive_inner (digits_number (c ∷ cs))))

to_integer_inner : (v : Value) → OfResult Inner (binary_to_integer v)
to_integer_inner (VBits bits) = cond_inner (is_whole bits) (integer_of (bytes_of (length bits / 8) bits)) _ (integer_inner (bytes_of (length bits / 8) bits)) tt
to_integer_inner (VInt n) = tt
to_integer_inner (VAtom n) = tt
to_integer_inner (VPid n) = tt
to_integer_inner (VTuple n) = tt
to_integer_inner (VList n) = tt

turned_inner : (v : Value) → IsBounded v → OfResult Inner (tuple_to_list v) × OfResult Inner (list_to_tuple v) × OfResult Inner (list_reversed v)
turned_inner (VTuple vs) h = (h.1, tt, tt)
turned_inner (VList vs) h = (tt, h.1, row_bounded (reverse (items vs)) (reverse_bounded (items vs) (items_bounded vs h.1)))
turned_inner (VInt n) h = (tt, tt, tt)
turned_inner (VAtom n) h = (tt, tt, tt)
turned_inner (VPid n) h = (tt, tt, tt)
turned_inner (VBits n) h = (tt, tt, tt)

one_inner : (f : BuiltIn) (v : Value) → IsBounded v → OfResult Inner (native_1 f v)
one_inner b.IsInteger v h = truth_inner (is_integer v)
one_inner b.IsNumber v h = truth_inner (is_integer v)
one_inner b.IsAtom v h = truth_inner (is_atom v)
one_inner b.IsBoolean v h = truth_inner (is_some (truth_of v))
one_inner b.IsPid v h = truth_inner (is_pid v)
one_inner b.IsTuple v h = truth_inner (is_tuple v)
one_inner b.IsList v h = truth_inner (is_list v)
one_inner b.IsBinary v h = truth_inner (is_binary v)
one_inner b.IsBitstring v h = truth_inner (is_bitstring v)
one_inner b.BitSize v h = (size_inner v).0
one_inner b.ByteSize v h = (size_inner v).1
one_inner b.TupleSize v h = (size_inner v).2
one_inner b.Length v h = (size_inner v).3
one_inner b.Abs v h = (size_inner v).4
one_inner b.IntegerToBinary v h = (size_inner v).5
one_inner b.Hd v h = (head_inner v h).0
one_inner b.Tl v h = (head_inner v h).1
one_inner b.BinaryToList v h = to_list_inner v
one_inner b.ListToBinary v h = from_list_inner v
one_inner b.BinaryToInteger v h = to_integer_inner v
one_inner b.TupleToList v h = (turned_inner v h).0
one_inner b.ListToTuple v h = (turned_inner v h).1
one_inner b.Reverse v h = (turned_inner v h).2
one_inner _ v h = tt

found_inner : (vs : List Value) (n : ℕ) → EachOf IsBounded vs → OfResult Inner (gives_or_badarg (slice_get vs n))
found_inner [] n h = tt
found_inner (v ∷ vs) zero h = inner_of v h.0
found_inner (v ∷ vs) (suc n) h = found_inner vs n h.1

counted_inner : (vs : Values) (n : ℕ) → AreBounded vs → OfResult Inner (gives_or_badarg (item_counted vs n))
counted_inner vs zero h = tt
counted_inner vs (suc n) h = found_inner (items vs) n (items_bounded vs h)

element_inner : (v w : Value) → IsBounded w → OfResult Inner (element v w)
element_inner (VInt (pos n)) (VTuple vs) h = counted_inner vs n h.1
element_inner _ _ h = tt

chosen_inner : (t : Bool) (v w : Value) → IsBounded v → IsBounded w → Inner (cond t v w)
chosen_inner true v w h g = inner_of v h
chosen_inner false v w h g = inner_of w g

range_inner : (bits : List Bool) (start len : ℕ) → OfResult Inner (byte_range bits start len)
range_inner bits start len = cond_inner (is_whole bits && nat_le (start + len) (length bits / 8)) (Gives (VBits (take (8 * len) (drop (8 * start) bits)))) _ tt tt

part_inner : (v w x : Value) → OfResult Inner (binary_part v w x)
part_inner (VBits bits) (VInt (pos start)) (VInt (pos len)) = range_inner bits start len
part_inner (VBits bits) (VInt (pos start)) (VInt (negsuc len)) = cond_inner (nat_lt len start) (byte_range bits (start - (len + 1)) (len + 1)) _ (range_inner bits (start - (len + 1)) (len + 1)) tt
part_inner _ _ _ = tt

part_of_inner : (v w : Value) → OfResult Inner (binary_part_of v w)
part_of_inner v (VTuple (more start (more len none))) = part_inner v start len
part_of_inner v _ = tt

split_inner : (v w : Value) → IsBounded v → OfResult Inner (split_binary v w)
split_inner (VBits bits) (VInt (pos n)) h = cond_inner (is_whole bits && nat_le n (length bits / 8)) (Gives (VTuple (more (VBits (take (8 * n) bits)) (more (VBits (drop (8 * n) bits)) none)))) _
    (front_within (8 * n) bits h, (back_within (8 * n) bits h, tt)) tt
split_inner _ _ h = tt

two_inner : (s : Setting) (f : BuiltIn) (v w : Value) → IsBounded v → IsBounded w → OfResult Inner (native_2 s f v w)
two_inner s b.Element v w h g = element_inner v w g
two_inner s b.Max v w h g = chosen_inner (is_lt (order s.names v w)) w v g h
two_inner s b.Min v w h g = chosen_inner (is_gt (order s.names v w)) w v g h
two_inner s b.BinaryPartOf v w h g = part_of_inner v w
two_inner s b.SplitBinary v w h g = split_inner v w h
two_inner s _ v w h g = tt

-- by the number of arguments, whatever the function
none_inner : (s : Setting) (f : BuiltIn) → OfResult Inner (native s f none)
none_inner s b.SelfPid = tt
none_inner s _ = tt

is_one : (s : Setting) (f : BuiltIn) (v : Value) → native s f (more v none) ≡ native_1 f v
is_one s b.SelfPid v = refl
is_one s _ v = refl

is_two : (s : Setting) (f : BuiltIn) (v w : Value) → native s f (more v (more w none)) ≡ native_2 s f v w
is_two s b.SelfPid v w = refl
is_two s _ v w = refl

many_inner : (s : Setting) (f : BuiltIn) (v w x : Value) (vs : Values) → OfResult Inner (native s f (more v (more w (more x vs))))
many_inner s b.BinaryPart v w x none = part_inner v w x
many_inner s b.BinaryPart v w x (more y vs) = tt
many_inner s _ v w x vs = tt

native_inner : (s : Setting) (f : BuiltIn) (vs : Values) → EachValue IsBounded vs → OfResult Inner (native s f vs)
native_inner s f none h = none_inner s f
native_inner s f (more v none) h = subst (OfResult Inner) (sym (is_one s f v)) (one_inner f v h.0)
native_inner s f (more v (more w none)) h = subst (OfResult Inner) (sym (is_two s f v w)) (two_inner s f v w h.0 h.1.0)
native_inner s f (more v (more w (more x vs))) h = many_inner s f v w x vs

operated_inner : (s : Setting) (q : Prim) (vs : Values) → OfResult Inner (operated s q vs)
operated_inner s (Operate op) (more v (more w none)) = operate_inner s.names op v w
operated_inner s (Prefixed op) (more v none) = prefixed_inner op v
operated_inner s _ _ = tt

exact_inner : (s : Setting) (q : Prim) (vs : Values) → EachValue IsBounded vs → OfResult Inner (exact s q vs)
exact_inner s MakeTuple vs h = are_bounded vs h
exact_inner s MakeList vs h = are_bounded vs h
exact_inner s MakeListOn vs h = listed_inner vs h
exact_inner s (Build types) vs h = where_inner (filled_with types vs)
exact_inner s (Native f) vs h = native_inner s f vs h
exact_inner s (Operate op) vs h = operated_inner s (Operate op) vs
exact_inner s (Prefixed op) vs h = operated_inner s (Prefixed op) vs

pub bounds_kept : IsKept IsBounded
bounds_kept = record {
  atoms = λ c. tt;
  pids = λ c. tt;
  integers = λ n e. e;
  bits = λ bits e. e;
  fronts = front_within;
  backs = back_within;
  tuples = λ vs h. each_bounded vs h.1;
  lists = λ vs h. each_bounded vs h.1;
  tails = λ v vs h. (tail_within (count vs) (weight v) (weights vs) (depth v) (depths vs) h.0, h.1.1);
  longer = λ vs v h g e. (e, row_bounded (vs ++ v ∷ []) (append_bounded vs (v ∷ []) (bounded_row vs h.1) (g, tt)));
  prims = λ s q vs h. result_bounded (exact s q vs) (exact_inner s q vs h);
}
