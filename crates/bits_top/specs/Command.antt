-- The forms of a command line (this project's own).
use Rattle.std.specs.Prelude.{◌≡◌, ℕ, ◌≤◌, ◌<◌, List, [], ◌∷◌, length, codes, decimal}
use Rattle.bits_top.specs.declared.command.Generated.{Generated}
use Rattle.bits_top.specs.declared.command.Load.{Load}
use Rattle.bits_top.specs.declared.command.Run.{Run}
use Rattle.bits_top.specs.declared.command.Command.{Command}
use Rattle.bits_top.specs.declared.command.Command.TheVariants as c
use Rattle.bits_top.specs.declared.plain.Plain as plain
use Rattle.bits_top.specs.declared.plain.Plain.TheVariants as p

-- a number in decimal, without sign or leading zero, in a range
pub record SpellsNumber (word : List ℕ) (low high n : ℕ) : Type 0 where
  pub at_least : low ≤ n
  pub at_most : n ≤ high
  pub spelled : word ≡ decimal n

-- the most reductions that each process may have, which those of the generated module have
abbrev pub most_reductions : ℕ
most_reductions = 4_000_000

-- the reductions of each process
abbrev pub SpellsReductions : List ℕ → ℕ → Type 0
SpellsReductions word n = SpellsNumber word 1 most_reductions n

-- how many threads may serve a run
abbrev pub SpellsSchedulers : List ℕ → ℕ → Type 0
SpellsSchedulers word n = SpellsNumber word 1 64 n

-- the words `SEED SIZE` of a generated module
pub record SpellsGenerated (seed size : List ℕ) (input : Generated) : Type 0 where
  pub seed_is : SpellsNumber seed 0 4_294_967_295 input.seed
  pub size_is : SpellsNumber size 1 100_000 input.size

-- the words `run MODULE ORDER SCHEDULERS REDUCTIONS`; file names aren't empty
pub record SpellsRun (words : List (List ℕ)) (run : Run) : Type 0 where
  pub source : List ℕ
  pub order : List ℕ
  pub schedulers : List ℕ
  pub reductions : List ℕ
  pub words_are : words ≡ codes "run" ∷ source ∷ order ∷ schedulers ∷ reductions ∷ []
  pub source_some : 0 < length source
  pub order_some : 0 < length order
  pub schedulers_are : SpellsSchedulers schedulers run.schedulers
  pub reductions_are : SpellsReductions reductions run.reductions

-- the words `load SEED SIZE SCHEDULERS`
pub record SpellsLoad (words : List (List ℕ)) (load : Load) : Type 0 where
  pub seed : List ℕ
  pub size : List ℕ
  pub schedulers : List ℕ
  pub words_are : words ≡ codes "load" ∷ seed ∷ size ∷ schedulers ∷ []
  pub input_is : SpellsGenerated seed size load.input
  pub schedulers_are : SpellsSchedulers schedulers load.schedulers

-- the words `check MODULE`; a file name isn't empty
pub record SpellsCheck (words : List (List ℕ)) : Type 0 where
  pub source : List ℕ
  pub words_are : words ≡ codes "check" ∷ source ∷ []
  pub source_some : 0 < length source

-- the words `copy MODULE ORDER REDUCTIONS`; file names aren't empty
pub record SpellsCopy (words : List (List ℕ)) (n : ℕ) : Type 0 where
  pub source : List ℕ
  pub order : List ℕ
  pub reductions : List ℕ
  pub words_are : words ≡ codes "copy" ∷ source ∷ order ∷ reductions ∷ []
  pub source_some : 0 < length source
  pub order_some : 0 < length order
  pub reductions_are : SpellsReductions reductions n

-- the words `gen SEED SIZE`
pub record SpellsGen (words : List (List ℕ)) (input : Generated) : Type 0 where
  pub seed : List ℕ
  pub size : List ℕ
  pub words_are : words ≡ codes "gen" ∷ seed ∷ size ∷ []
  pub input_is : SpellsGenerated seed size input

-- the words of a command that waits for nothing
abbrev pub SpellsPlain : List (List ℕ) → plain.Plain → Type 0
SpellsPlain words p.Check = SpellsCheck words
SpellsPlain words (p.Copy reductions) = SpellsCopy words reductions
SpellsPlain words (p.Gen seed size) = SpellsGen words (record { seed = seed; size = size })

-- the words of a command
abbrev pub SpellsCommand : List (List ℕ) → Command → Type 0
SpellsCommand words (c.Run run) = SpellsRun words run
SpellsCommand words (c.Load load) = SpellsLoad words load
SpellsCommand words (c.Plain plain) = SpellsPlain words plain
