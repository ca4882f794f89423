use Rattle.std.proofs.Common.{◌≡◌, ◌+◌, ◌++◌, ◌%◌, ◌∙◌, length, ap, sym, subst, arith, rules}
use Rattle.std.proofs.lemmas.Result.{err_from_is_err_and}
use Rattle.bit_store.specs.Pieces.{pieces_bits}
use Rattle.term_value.specs.Result.{Gives}
use Rattle.term_value.specs.Value.{VBits}
use Rattle.bits_build.specs.Parts.{built_from}
use Rattle.bits_build.proofs.Front.{front_built, only_memory, rose_by_none}
use Rattle.bits_build.proofs.construction.build_on.Goals as goal

pub returns-in_err-append-clause-refused : goal.returns-in_err-append-clause-refused
returns-in_err-append-clause-refused g c =
    let p = err_from_is_err_and c.from_residual-in_err-append.result c.from_residual-in_err-append.ensures.1 in
    let same : c.in_ok-pieces.pieces.items ≡ c.deref.result.now = cc in
    rw (p.1, p.2) (only_memory (length (g.S.Store.shown c.args.store.now c.args.front.of.now) + length (pieces_bits (g.S.Store.shown c.args.store.now) c.deref.result.now)) c.in_err-append.field-0.0
    (built_from (g.S.Store.shown c.args.store.now) c.args.front.of.now c.args.front.unit c.args.front.rest.now)
    (omega (arith, c.in_ok-pieces.ensures.made.short, c.len-len.ensures, ap length c.look.ensures, ap (λ pieces. length (pieces_bits (g.S.Store.shown c.args.store.now) pieces)) same)) c.in_err-append.ensures.refused)

pub returns-clause-gives : goal.returns-clause-gives
returns-clause-gives g c =
    let many : c.len-len.result ≡ length (g.S.Store.shown c.args.store.now c.args.front.of.now) = c.len-len.ensures ∙ ap length c.look.ensures in
    let same : c.in_ok-pieces.pieces.items ≡ c.deref.result.now = cc in
    front_built (g.S.Store.shown c.args.store.now) c.args.front.of.now c.args.front.unit c.args.front.rest.now
    (subst (λ n. n % c.args.front.unit ≡ 0) many (subst (λ u. c.len-len.result % u ≡ 0) c.from.ensures (c.is_multiple_of.ensures.0 (search rules))))
    (omega (arith, c.in_ok-pieces.ensures.made.short, many))
    ∙ c.in_ok-pieces.ensures.made.are (g.S.Store.shown c.args.store.now c.args.front.of.now) (sym many)
    ∙ ap (λ pieces. Gives (VBits (g.S.Store.shown c.args.store.now c.args.front.of.now ++ pieces_bits (g.S.Store.shown c.args.store.now) pieces))) same
    ∙ ap (λ l. Gives (VBits l)) (sym c.in_ok-append.ensures.shows)

pub returns-then-is_empty-clause-moved : goal.returns-then-is_empty-clause-moved
returns-then-is_empty-clause-moved g c = rose_by_none (length (g.S.Store.shown c.args.store.now c.in_ok-share.field-0)) c.args.steps.now.moved (first_of (omega arith, search rules))
