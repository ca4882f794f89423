use Rattle.std.proofs.Common.{◌≡◌, ◌+◌, ◌≤◌, length, arith}
use Rattle.bit_store.proofs.Lengths.{part-part, length-part}
use Rattle.bit_store.proofs.window.Window.part.Goals as goal

pub returns : goal.returns
returns c =
    let same = c.in_ok-try_clone.ensures in
    let size : length c.args.self.now ≡ c.self.inside.len = rw (← c.self.view_is) (length-part c.self.inside.bits.value c.self.inside.off c.self.inside.len c.self.invariant.0) in
    let inside : c.args.off + c.args.bits ≤ c.self.inside.len = omega (arith, size, c.requires) in
    rw (same, ← c.self.view_is) (part-part c.self.inside.bits.value c.self.inside.off c.self.inside.len c.args.off c.args.bits inside)
