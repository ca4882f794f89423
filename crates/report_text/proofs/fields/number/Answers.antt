use Rattle.std.proofs.Common.{◌≡◌, Ok, sym, ◌∙◌, subst, true, arith, decimal}
use Rattle.std.specs.Str.{IsUtf8}
use Rattle.std.proofs.lemmas.Fmt.{IsAscii-decimal, parse-decimal}
use Rattle.std.proofs.lemmas.Str.{IsUtf8-from_ascii}
use Rattle.report_text.proofs.Numbers.{different_from_itself}
use lib.Pointwise.{pointwise}
use lib.Dec.{eqb}
use mathlib.Core.Bool.{not}
use Rattle.report_text.proofs.fields.number.Goals as goal

pub returns-in_default : goal.returns-in_default
returns-in_default c = λ n small e.
    let text : IsUtf8 c.args.digits.now = subst IsUtf8 (sym e) (IsUtf8-from_ascii (decimal n) (IsAscii-decimal n small)) in
    c.in_default.ensures.cases.0 text

pub returns-in_default-parse : goal.returns-in_default-parse
returns-in_default-parse c = λ n small e. c.in_default-parse.not-Ok n (parse-decimal 64 n c.in-Ok.text.now c.parse.result small small (c.in-Ok.ensures.cases.0 ∙ e) c.parse.ensures.value.0)

pub returns-then-ne : goal.returns-then-ne
returns-then-ne c = λ n small e.
    let parsed : c.parse.result ≡ Ok n = parse-decimal 64 n c.in-Ok.text.now c.parse.result small small (c.in-Ok.ensures.cases.0 ∙ e) c.parse.ensures.value.0 in
    let same : c.in-Ok-parse.number ≡ n = cc in
    let text : c.format.result.now ≡ c.in-Ok.text.now = cc (c.format.ensures.text, c.in-Ok.ensures.cases.0, e, same) in
    let told : true ≡ not (pointwise eqb c.in-Ok.text.now c.in-Ok.text.now) = rw text at c.if-ne.ensures in
    different_from_itself c.in-Ok.text.now told
