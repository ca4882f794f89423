-- Lists of items before others, and the values of all parts (this project's own).
use Rattle.std.specs.Prelude.{◌≡◌, Bool, List, [], ◌∷◌}
use Rattle.term_value.specs.Seen.{Row, then}
use Rattle.term_value.specs.Terms.{seen, value_of}
use Rattle.term_value.specs.Result.{Gives, Raise, Limit}
use Rattle.term_value.specs.Guards.{Results, OneStops, value_before}
use Rattle.term_value.specs.declared.term.Term.{Term}
use Rattle.bit_store.specs.Stores.{itself}
use Rattle.expr_eval.specs.Answers.{reason_of}
use Rattle.expr_eval.specs.declared.reason.EvalFault.{EvalFault}
use Rattle.expr_eval.specs.declared.reason.EvalFault.TheVariants as f

-- a row with these items in front
abbrev pub onto : {R : Type 0} → List (Term R) → Row R → Row R
onto [] r = r
onto (t ∷ ts) r = then (seen t) (onto ts r)

-- results behind those of parts that gave these values
abbrev pub behind : List (Term (List Bool)) → Results → Results
behind [] rs = rs
behind (t ∷ ts) rs = value_before (Gives (value_of itself t)) (behind ts rs)

-- why one of the parts has no value
abbrev pub IsStop : EvalFault (List Bool) → Results → Type 0
IsStop (f.Raised reason) due = OneStops (Raise (reason_of itself reason)) ≡ due
IsStop f.Limit due = OneStops Limit ≡ due
IsStop f.NoMemory due = Unit {0}
