use Rattle.std.proofs.Common.{arith, ◌≡◌, Ok, true}
use Rattle.bits_top.proofs.Words.{different_from_itself}
use lib.Pointwise.{pointwise}
use lib.Dec.{eqb}
use mathlib.Core.Bool.{not}
use Rattle.std.proofs.lemmas.Fmt.{parse-decimal}
use Rattle.bits_top.proofs.command.number.Goals as goal
use Rattle.bits_top.proofs.command.number.Goals.{then-n-low-via-then-n-low, then-n-low-via-else-n-low+then-high-n, then-n-low-via-else-n-low+else-high-n+then-ne}

pub returns-in_default : goal.returns-in_default
returns-in_default c = λ n h. c.in_default.not-Ok n (parse-decimal 32 n c.args.word.now c.parse.result (omega arith) (omega arith) h.spelled c.parse.ensures.value.0)

pub returns-then-n-low : goal.returns-then-n-low
returns-then-n-low c = λ n h.
    let parsed : c.parse.result ≡ Ok n = parse-decimal 32 n c.args.word.now c.parse.result (omega arith) (omega arith) h.spelled c.parse.ensures.value.0 in
    let same : c.in-Ok.n ≡ n = cc in
    elim c.then-n-low.branch [
      | then-n-low-via-then-n-low w ↦ omega arith
      | then-n-low-via-else-n-low+then-high-n w ↦ omega arith
      | then-n-low-via-else-n-low+else-high-n+then-ne w ↦
          let text : w.format.result.now ≡ c.args.word.now = cc (w.format.ensures.text, h.spelled, same) in
          let told : true ≡ not (pointwise eqb c.args.word.now c.args.word.now) = rw text at w.if-ne.ensures in
          different_from_itself c.args.word.now told
    ]
