-- Lists of items before others, and the values of all parts (this project's own).
use Rattle.std.specs.Prelude.{◌≡◌, Bool, List, [], ◌∷◌}
use Rattle.term_value.specs.Seen.{Row, then}
use Rattle.term_value.specs.Terms.{seen}
use Rattle.term_value.specs.Result.{Gives, Raise, Limit}
use Rattle.term_value.specs.Guards.{Results, OneStops, value_before}
use Rattle.term_value.specs.Value.{Values, none, more}
use Rattle.term_value.specs.declared.term.Term.{Term}
use Rattle.expr_eval.specs.Answers.{reason_of}
use Rattle.expr_eval.specs.declared.reason.EvalFault.{EvalFault}
use Rattle.expr_eval.specs.declared.reason.EvalFault.TheVariants as f

-- a row with these items in front
abbrev pub onto : {R : Type 0} → List (Term R) → Row R → Row R
onto [] r = r
onto (t ∷ ts) r = then (seen t) (onto ts r)

-- results behind those of parts that gave these values
abbrev pub behind : Values → Results → Results
behind none rs = rs
behind (more v vs) rs = value_before (Gives v) (behind vs rs)

-- why one of the parts has no value, where a reference shows these bits
abbrev pub IsStop : {R : Type 0} → (R → List Bool) → EvalFault R → Results → Type 0
IsStop shown (f.Raised reason) due = OneStops (Raise (reason_of shown reason)) ≡ due
IsStop shown f.Limit due = OneStops Limit ≡ due
IsStop shown f.NoMemory due = Unit {0}
