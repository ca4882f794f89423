-- What was taken of a source.
use Rattle.std.proofs.Common.{◌≡◌, ℕ, ◌+◌, ◌≤◌, List, ◌++◌, length, Option, arith, length-append}
use Rattle.std.proofs.KnownBytes.{Consumes-trans}
use Rattle.std.specs.Io.KnownBytes.{Consumes}
use Rattle.command_answers.specs.Stream.{ConsumesAtMost}

pub taken_more : (a b c : Option (List ℕ)) (bytes : List ℕ) (missing most : ℕ) → Consumes a b bytes → ConsumesAtMost b c missing → length bytes + missing ≤ most → ConsumesAtMost a c most
taken_more a b c bytes missing most first second bound = record {
  bytes = bytes ++ second.bytes;
  taken = Consumes-trans a b c bytes second.bytes first second.taken;
  bound = (let l : length (bytes ++ second.bytes) ≡ length bytes + length second.bytes = length-append bytes second.bytes in omega (arith, l, second.bound, bound));
}
