use Rattle.std.proofs.Common.{◌≡◌, ◌+◌, ◌≤◌, ◌∙◌, Bool, List, sym, refl, ℕ, false, true, arith}
use Rattle.bits_value.specs.Bits.{bit_list}
use Rattle.bits_value.specs.Number.{natural}
use Rattle.bits_value.specs.Parts.{fill}
use Rattle.bits_value.proofs.Fills.{fill-part, fill-more}
use Rattle.bits_value.proofs.reading.all_are.Goals as goal

none-alike : (bytes : List ℕ) (s : ℕ) (b : Bool) → natural (bit_list bytes s 0) ≡ fill b 0
unfolding bit_list
none-alike bytes s false = refl
none-alike bytes s true = refl

pub loop-done-init : goal.loop-done-init
loop-done-init c = record { within = omega arith; alike = none-alike c.args.bytes.now c.args.start c.args.bit }

pub returns-then-chunk-filled : goal.returns-then-chunk-filled
returns-then-chunk-filled c =
    let inside : c.loop-done.done + c.min-step.result ≤ c.args.count = omega arith in
    let no : natural (bit_list c.args.bytes.now c.args.start c.args.count) ≡ fill c.args.bit c.args.count → ⊥ = λ e.
    let z : natural (bit_list c.args.bytes.now (c.args.start + c.loop-done.done) c.min-step.result) ≡ fill c.args.bit c.min-step.result = fill-part c.args.bit c.args.bytes.now c.args.start c.args.count c.loop-done.done c.min-step.result inside e in
    c.if-chunk-filled.true (c.chunk.ensures ∙ z ∙ sym c.filled.ensures) in
    ((λ f. absurd (cc f)), (λ e. absurd (no e)))

pub loop-done-preserved : goal.loop-done-preserved
loop-done-preserved c = record {
  within = omega arith;
  alike = fill-more c.args.bit c.args.bytes.now c.args.start c.loop-done.done c.min-step.result c.loop-done.invariant.alike (sym c.chunk.ensures ∙ c.if-chunk-filled.false ∙ c.filled.ensures);
}
