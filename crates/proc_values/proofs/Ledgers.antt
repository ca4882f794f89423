-- A ledger that rises by one number of bits, and then by another.
use Rattle.std.proofs.Common.{◌≡◌, ℕ, ◌+◌, ◌^◌, ◌<◌, ◌≤◌, arith}
use Rattle.bit_store.specs.Stores.{RoseBy}

pub rose_none : (most moved : ℕ) → moved < 2 ^ 64 → RoseBy most moved moved
rose_none most moved h = (0, (omega arith, omega arith))

pub rose_then : (most more old mid new : ℕ) → RoseBy most old mid → RoseBy more mid new → RoseBy (most + more) old new
rose_then most more old mid new r q = (r.0 + q.0, (omega (arith, r.1.0, q.1.0), omega (arith, r.1.1, q.1.1)))

pub rose_within : (most more old new : ℕ) → most ≤ more → RoseBy most old new → RoseBy more old new
rose_within most more old new h r = (r.0, (omega (arith, h, r.1.0), r.1.1))

pub rose_small : (most old new : ℕ) → RoseBy most old new → new < 2 ^ 64
rose_small most old new r = omega (arith, r.1.1)

-- one item's bits more, of those that are left
pub rose_item : (most item rest left all old mid new : ℕ) → RoseBy most old mid → most + left ≡ all → left ≡ item + rest → RoseBy item mid new → RoseBy all old new
rose_item most item rest left all old mid new r e f q = rose_within (most + item) all old new (omega (arith, e, f)) (rose_then most item old mid new r q)

-- no bit more
pub rose_nothing : (most old new : ℕ) → most ≡ 0 → old < 2 ^ 64 → RoseBy most old new → new ≡ old
rose_nothing most old new none small r = omega (arith, none, small, r.1.0, r.1.1)
