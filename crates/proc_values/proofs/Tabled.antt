-- What a form gives for the values of its parts.
use Rattle.std.proofs.Common.{◌≡◌, List, Bool, refl, ap, sym}
use Rattle.std.specs.declared.result.Result.{Result as Answer}
use Rattle.std.specs.declared.result.Result.TheVariants.{Err}
use Rattle.erl_syntax.specs.Atoms.{a_badarg}
use Rattle.term_value.specs.Value.{Values}
use Rattle.term_value.specs.Result.{Stops, raise}
use Rattle.term_value.specs.Setting.{Setting}
use Rattle.term_value.specs.Primitives.{prim}
use Rattle.term_value.specs.Guards.{Results, of_all, tabled}
use Rattle.term_value.specs.declared.term.Term.{Term}
use Rattle.code_tree.specs.Reading.{prim_of, form_of}
use Rattle.code_tree.specs.declared.form.Form.{Form}
use Rattle.code_tree.specs.declared.form.Form.TheVariants.{Table, Call, Send, Display, Spawn}
use Rattle.code_tree.specs.declared.form.Primitive.{Primitive}
use Rattle.expr_eval.specs.Answers.{IsEvaluated}
use Rattle.expr_eval.proofs.Evaluations.{evaluated}
use Rattle.expr_eval.specs.declared.reason.EvalFault.{EvalFault}
use Rattle.expr_eval.specs.declared.reason.EvalFault.TheVariants as f
use Rattle.proc_values.specs.Rows.{IsStop}

pub tabled_is : {R : Type 0} (shown : R → List Bool) (s : Setting) (form : Form) (vs : Values) (what : Primitive) (answer : Answer (Term R) (EvalFault R)) → form ≡ Table what
    → IsEvaluated shown answer (prim s (prim_of what) vs) → IsEvaluated shown answer (tabled s (form_of form) vs)
tabled_is shown s form vs what answer e h = evaluated shown answer (prim s (prim_of what) vs) (tabled s (form_of form) vs) (ap (λ (g : Form). tabled s (form_of g) vs) (sym e)) h

-- the first part without a value decides
pub stopped_is : {R : Type 0} (shown : R → List Bool) (s : Setting) (form : Form) (due : Results) (fault : EvalFault R) → IsStop shown fault due → IsEvaluated shown (Err fault) (of_all (tabled s (form_of form)) due)
stopped_is shown s form due (f.Raised reason) e = ap (of_all (tabled s (form_of form))) e
stopped_is shown s form due f.Limit e = ap (of_all (tabled s (form_of form))) e
stopped_is shown s form due f.NoMemory e = tt

-- a form that no guard has
pub untabled : (s : Setting) (form : Form) (vs : Values) → ((what : Primitive) → form ≡ Table what → ⊥) → Stops (raise a_badarg) ≡ tabled s (form_of form) vs
untabled s (Table p) vs other = absurd (other p refl)
untabled s (Call g) vs other = refl
untabled s Send vs other = refl
untabled s Display vs other = refl
untabled s Spawn vs other = refl
