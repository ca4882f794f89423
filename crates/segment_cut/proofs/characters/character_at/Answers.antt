use Rattle.std.proofs.Common.{◌≡◌, ◌+◌, ◌*◌, None, drop, refl, rules, ap, arith}
use Rattle.segment_cut.proofs.Spelled.{no_character, ends_inside, character_is}
use Rattle.segment_cut.proofs.characters.character_at.Goals as goal

pub returns-in_err-number : goal.returns-in_err-number
returns-in_err-number c =
    let none : c.from_residual.result ≡ None = search rules in
    rw none (no_character c.args.utf c.args.endian (drop c.args.at c.args.source) c.in_err-number.ensures.none)

pub overflow_add-result : goal.overflow_add-result
overflow_add-result c =
    let found = c.in_ok-number.ensures.found in
    omega (arith, c.from.ensures, c.requires.short, ends_inside c.args.utf c.args.endian c.args.source c.args.at c.in_ok-number.number c.in_ok-number.bytes found.0 found.1 found.2 c.requires.inside)

pub returns : goal.returns
returns c =
    let found = c.in_ok-number.ensures.found in
    character_is c.args.utf c.args.endian c.args.source c.args.at c.in_ok-number.number c.in_ok-number.bytes found.0 found.1 found.2 c.requires.inside
    (record { number = c.in_ok-number.number; next = c.args.at + 8 * c.from.result }) refl (ap (λ n. c.args.at + 8 * n) c.from.ensures)
