-- What a reader says of the tokens from a place on: that they spell what is wanted up to another place, or the first token
-- with which nothing that is wanted can go on, and why.
use Rattle.std.specs.Prelude.{◌≡◌, ℕ, ◌≤◌, IsTrue, Bool, true, false, List, [], ◌∷◌, ◌++◌, drop, Result, Ok, Err}
use Rattle.erl_syntax.specs.declared.token.TokenKind.{TokenKind}
use Rattle.erl_syntax.specs.Word.{Word}
use Rattle.erl_syntax.specs.Grammar.{Goal, Limits, Spells}
use Rattle.pattern_read.specs.Cursor.{Readable}
use Rattle.pattern_read.specs.declared.fault.Fault.{Fault}
use Rattle.pattern_read.specs.declared.fault.Fault.TheVariants.{Memory, Refused}
use Rattle.pattern_read.specs.declared.fault.Cause.{Cause}
use Rattle.pattern_read.specs.declared.fault.Cause.TheVariants.{Syntax, TooDeep, UnknownAttribute, UnknownSegmentType, Undecided}

-- both have ended, or both begin with the same token
abbrev pub SameHead : List Word → List Word → Type 0
SameHead [] [] = Unit {0}
SameHead [] (k ∷ ks) = ⊥
SameHead (j ∷ js) [] = ⊥
SameHead (j ∷ js) (k ∷ ks) = j ≡ k

-- what passes the first limits passes the second
pub record IsWide (most l : Limits) : Type 0 where
  pub trees : most.trees ≤ l.trees
  pub brackets : most.brackets ≤ l.brackets

-- What follows begins with no token of these kinds. They are those with which what is wanted could go on.
abbrev pub Follows : Limits → (TokenKind → Bool) → List Goal → Type 0
Follows l longer gs = (t : Word) (w : List Word) → IsTrue (longer t.kind) → Spells l gs (t ∷ w) → ⊥

-- what has an end of its own goes on with no token
abbrev pub closed : TokenKind → Bool
closed kind = false

-- Reading the tokens from `from` up to `rest` leaves `left` of what was wanted, and `make` makes the wanted tree of what is left.
-- What is wanted keeps to the limits `most`.
pub record Passes (most : Limits) {X Y : Type 0} (longer : TokenKind → Bool) (wanted : X → List Goal) (from : List Word) (left : Y → List Goal) (rest : List Word) (make : Y → X) : Type 0 where
  pub front : List Word
  pub whole : from ≡ front ++ rest
  pub back : (l : Limits) → IsWide most l → (y : Y) (gs : List Goal) (w : List Word) → Spells l (left y ++ gs) w → Spells l (wanted (make y) ++ gs) (front ++ w)
  pub forth : (l : Limits) (x : X) (gs : List Goal) (w : List Word) → Follows l longer gs → SameHead w rest → Spells l (wanted x ++ gs) (front ++ w) → (y : Y) × (x ≡ make y) × Spells l (left y ++ gs) w

-- no wider than the first limits
pub record IsStrict (most l : Limits) : Type 0 where
  pub trees : l.trees ≡ most.trees
  pub brackets : l.brackets ≡ most.brackets
  pub any_attribute : l.any_attribute ≡ false
  pub any_type : l.any_type ≡ false

-- the limits at which a token with this cause can't stand: any for a fault of syntax
abbrev pub Stops : Limits → Cause → Limits → Type 0
Stops most Syntax l = Unit {0}
Stops most TooDeep l = IsStrict most l
Stops most UnknownAttribute l = l.any_attribute ≡ false
Stops most UnknownSegmentType l = l.any_type ≡ false
Stops most Undecided l = IsStrict most l

-- other limits at which it can
abbrev pub Allows : Cause → Limits → Type 0
Allows Syntax l = ⊥
Allows TooDeep l = (l.any_attribute ≡ false) × (l.any_type ≡ false)
Allows UnknownAttribute l = l.any_attribute ≡ true
Allows UnknownSegmentType l = l.any_type ≡ true
Allows Undecided l = ⊥

-- The tokens up to `rest` and its first one begin a spelling within other limits.
pub record GoesOn (most : Limits) {X : Type 0} (wanted : X → List Goal) (front rest : List Word) (why : Cause) : Type 0 where
  pub limits : Limits
  pub wide : IsWide most limits
  pub allows : Allows why limits
  pub first : Word
  pub behind : List Word
  pub begins : rest ≡ first ∷ behind
  pub tree : X
  pub more : List Word
  pub goes_on : (gs : List Goal) (w : List Word) → Spells limits gs w → Spells limits (wanted tree ++ gs) (front ++ (first ∷ (more ++ w)))

abbrev pub Excused : Limits → {X : Type 0} → (X → List Goal) → List Word → List Word → Cause → Type 0
Excused most wanted front rest Syntax = Unit {0}
Excused most wanted front rest TooDeep = GoesOn most wanted front rest TooDeep
Excused most wanted front rest UnknownAttribute = GoesOn most wanted front rest UnknownAttribute
Excused most wanted front rest UnknownSegmentType = GoesOn most wanted front rest UnknownSegmentType
Excused most wanted front rest Undecided = Unit {0}

-- Up to `rest` the tokens begin a spelling of a wanted tree, and with the first of `rest`, or the end, they don't.
pub record IsRefused (most : Limits) {X : Type 0} (longer : TokenKind → Bool) (wanted : X → List Goal) (from rest : List Word) (why : Cause) : Type 0 where
  pub front : List Word
  pub whole : from ≡ front ++ rest
  pub tree : X
  pub more : List Word
  pub goes_on : (l : Limits) → IsWide most l → (gs : List Goal) (w : List Word) → Spells l gs w → Spells l (wanted tree ++ gs) (front ++ (more ++ w))
  pub stops : (l : Limits) → Stops most why l → (x : X) (gs : List Goal) (w : List Word) → Follows l longer gs → SameHead w rest → Spells l (wanted x ++ gs) (front ++ w) → ⊥
  pub excused : Excused most wanted front rest why

-- nothing is left
abbrev pub nothing : Unit {0} → List Goal
nothing u = []

-- What a reader answers at a place of the tokens: the tree and the place behind it, or the place of the refused token.
abbrev pub Gives : {X : Type 0} → (TokenKind → Bool) → (X → List Goal) → Readable → ℕ → Result (X × ℕ) Fault → Type 0
Gives longer wanted ws at (Ok r) = Passes ws.limits longer wanted (drop at ws.words) nothing (drop r.1 ws.words) (λ u. r.0)
Gives longer wanted ws at (Err Memory) = Unit {0}
Gives longer wanted ws at (Err (Refused n why)) = IsRefused ws.limits longer wanted (drop at ws.words) (drop n ws.words) why
