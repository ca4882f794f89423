-- Parcels (this project's own): a value as nodes in a row, the items of a tuple or a list before it. A node of a bitstring of more
-- than 512 bits stands for the next of the parcel's pieces.
use Rattle.std.specs.Prelude.{◌≡◌, ℕ, ◌-◌, ◌≤◌, Bool, true, List, [], ◌∷◌, ◌++◌, length, take, drop, cond, nat_le, slice_index_or, sum_by}
use Rattle.term_value.specs.Bounds.{is_within}
use Rattle.term_value.specs.Value.{Value, VInt, VAtom, VPid, VTuple, VList, VBits, Values, none, more, row, count}
use Rattle.off_heap.specs.declared.parcel.Node.{Node}
use Rattle.off_heap.specs.declared.parcel.Node.TheVariants.{Int, Atom, Pid, Small, Piece, Tuple, List as Chain}

-- ---- what a reader of contracts needs
-- the bitstrings of more than 512 bits in a value, in their order
abbrev mutual
  pub large_parts : Value → List (List Bool)
  large_parts (VInt n) = []
  large_parts (VAtom a) = []
  large_parts (VPid p) = []
  large_parts (VTuple vs) = large_parts_each vs
  large_parts (VList vs) = large_parts_each vs
  large_parts (VBits bits) = cond (nat_le (length bits) 512) [] (bits ∷ [])

  pub large_parts_each : Values → List (List Bool)
  large_parts_each none = []
  large_parts_each (more v vs) = large_parts v ++ large_parts_each vs

-- how many bits they have together
abbrev pub large_bits : Value → ℕ
large_bits v = sum_by length (large_parts v)

-- every value in it is within the bounds
abbrev mutual
  pub IsBounded : Value → Type 0
  IsBounded (VTuple vs) = (is_within (VTuple vs) ≡ true) × AreBounded vs
  IsBounded (VList vs) = (is_within (VList vs) ≡ true) × AreBounded vs
  IsBounded (VInt n) = is_within (VInt n) ≡ true
  IsBounded (VAtom a) = Unit {0}
  IsBounded (VPid p) = Unit {0}
  IsBounded (VBits bits) = is_within (VBits bits) ≡ true

  pub AreBounded : Values → Type 0
  AreBounded none = Unit {0}
  AreBounded (more v vs) = IsBounded v × AreBounded vs

-- ---- how a parcel keeps a value
abbrev mutual
  pub nodes_of : Value → List Node
  nodes_of (VInt n) = Int n ∷ []
  nodes_of (VAtom a) = Atom a ∷ []
  nodes_of (VPid p) = Pid p ∷ []
  nodes_of (VTuple vs) = nodes_of_each vs ++ Tuple (count vs) ∷ []
  nodes_of (VList vs) = nodes_of_each vs ++ Chain (count vs) ∷ []
  nodes_of (VBits bits) = cond (nat_le (length bits) 512) (Small bits) Piece ∷ []

  pub nodes_of_each : Values → List Node
  nodes_of_each none = []
  nodes_of_each (more v vs) = nodes_of v ++ nodes_of_each vs

-- the first of the pieces
abbrev pub next_piece : List (List Bool) → List Bool
next_piece pieces = slice_index_or pieces 0 []

-- the last n of the values that stand in nothing yet, and those before them
abbrev pub last_of : ℕ → List Value → List Value
last_of n vs = drop (length vs - n) vs

abbrev pub before_last : ℕ → List Value → List Value
before_last n vs = take (length vs - n) vs

-- the value of a node, where these pieces are left and these values stand in nothing yet
abbrev pub node_value : Node → List (List Bool) → List Value → Value
node_value (Int n) pieces vs = VInt n
node_value (Atom a) pieces vs = VAtom a
node_value (Pid p) pieces vs = VPid p
node_value (Small bits) pieces vs = VBits bits
node_value Piece pieces vs = VBits (next_piece pieces)
node_value (Tuple n) pieces vs = VTuple (row (last_of n vs))
node_value (Chain n) pieces vs = VList (row (last_of n vs))

-- the values that then still stand in nothing
abbrev pub values_left : Node → List Value → List Value
values_left (Tuple n) vs = before_last n vs
values_left (Chain n) vs = before_last n vs
values_left _ vs = vs

-- the pieces that are then left
abbrev pub pieces_left : Node → List (List Bool) → List (List Bool)
pieces_left Piece pieces = drop 1 pieces
pieces_left _ pieces = pieces

-- the values that stand in nothing when all nodes are read
abbrev pub read : List Node → List (List Bool) → List Value → List Value
read [] pieces vs = vs
read (n ∷ ns) pieces vs = read ns (pieces_left n pieces) (values_left n vs ++ node_value n pieces vs ∷ [])

-- a node can be read: its items and its piece are there, and its value is within the bounds
abbrev pub CanBe : Node → List (List Bool) → List Value → Type 0
CanBe (Small bits) pieces vs = length bits ≤ 512
CanBe Piece pieces vs = 1 ≤ length pieces
CanBe (Tuple n) pieces vs = (n ≤ length vs) × (is_within (VTuple (row (last_of n vs))) ≡ true)
CanBe (Chain n) pieces vs = (n ≤ length vs) × (is_within (VList (row (last_of n vs))) ≡ true)
CanBe _ pieces vs = Unit {0}

abbrev pub CanRead : List Node → List (List Bool) → List Value → Type 0
CanRead [] pieces vs = Unit {0}
CanRead (n ∷ ns) pieces vs = CanBe n pieces vs × CanRead ns (pieces_left n pieces) (values_left n vs ++ node_value n pieces vs ∷ [])

-- the one value of a parcel
abbrev pub first_value : List Value → Value
first_value [] = VList none
first_value (v ∷ vs) = v

abbrev pub value_in : List Node → List (List Bool) → Value
value_in nodes pieces = first_value (read nodes pieces [])
