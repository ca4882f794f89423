-- The word and the numbers of an order's line (this project's own).
use Rattle.std.specs.Prelude.{◌≡◌, ℕ, ◌^◌, ◌<◌, ◌≤◌, List, [], ◌∷◌, ◌++◌, length, codes, decimal}
use Rattle.std.specs.List.{flat_map}

-- characters above the space
abbrev pub IsWord : List ℕ → Type 0
IsWord [] = Unit {0}
IsWord (c ∷ cs) = (32 < c) × IsWord cs

-- what may follow a word: nothing, or first a space or a character below
abbrev pub IsCut : List ℕ → Type 0
IsCut [] = Unit {0}
IsCut (c ∷ cs) = c ≤ 32

-- numbers of 64 bits
abbrev pub AreSmall : List ℕ → Type 0
AreSmall [] = Unit {0}
AreSmall (n ∷ ns) = (n < 2 ^ 64) × AreSmall ns

-- numbers in decimal, each behind a space
abbrev pub spaced : List ℕ → List ℕ
spaced ns = flat_map (λ n. codes " " ++ decimal n) ns

-- a space and a number stand in front of a rest
pub record IsField (text : List ℕ) (n : ℕ) (rest : List ℕ) : Type 0 where
  pub small : n < 2 ^ 64
  pub cut : IsCut rest
  pub spelled : text ≡ 32 ∷ (decimal n ++ rest)

-- at most four numbers and the line feed
pub record AreNumbers (text ns : List ℕ) : Type 0 where
  pub small : AreSmall ns
  pub few : length ns ≤ 4
  pub spelled : text ≡ spaced ns ++ codes "\n"
