-- What a form gives for the values of its parts.
use Rattle.std.proofs.Common.{◌≡◌, Bool, List, refl, ap, sym, ◌∙◌}
use Rattle.std.specs.declared.result.Result.{Result as Answer}
use Rattle.std.specs.declared.result.Result.TheVariants.{Err}
use Rattle.bit_store.specs.Stores.{itself}
use Rattle.erl_syntax.specs.Atoms.{a_badarg}
use Rattle.term_value.specs.Value.{Values}
use Rattle.term_value.specs.Result.{Stops, raise}
use Rattle.term_value.specs.Setting.{Setting}
use Rattle.term_value.specs.Primitives.{prim}
use Rattle.term_value.specs.Guards.{Results, AllGive, of_all, tabled}
use Rattle.term_value.specs.declared.term.Term.{Term}
use Rattle.code_tree.specs.Reading.{prim_of, form_of}
use Rattle.code_tree.specs.declared.form.Form.{Form}
use Rattle.code_tree.specs.declared.form.Form.TheVariants.{Table, Call, Send, Display, Spawn}
use Rattle.code_tree.specs.declared.form.Primitive.{Primitive}
use Rattle.expr_eval.specs.Answers.{IsEvaluated}
use Rattle.expr_eval.proofs.Evaluations.{evaluated}
use Rattle.expr_eval.specs.declared.reason.EvalFault.{EvalFault}
use Rattle.expr_eval.specs.declared.reason.EvalFault.TheVariants as f
use Rattle.code_match.specs.Rows.{IsStop}

module _ (s : Setting) (form : Form) (due : Results) where
  pub tabled_is : (vs : Values) (what : Primitive) (answer : Answer (Term (List Bool)) (EvalFault (List Bool))) → form ≡ Table what → AllGive vs ≡ due
      → IsEvaluated itself answer (prim s (prim_of what) vs) → IsEvaluated itself answer (of_all (tabled s (form_of form)) due)
  tabled_is vs what answer fe e h = evaluated itself answer (prim s (prim_of what) vs) (of_all (tabled s (form_of form)) due) (ap (λ (g : Form). tabled s (form_of g) vs) (sym fe) ∙ ap (of_all (tabled s (form_of form))) e) h

  -- the first part without a value decides
  pub stopped_is : (fault : EvalFault (List Bool)) → IsStop fault due → IsEvaluated itself (Err fault) (of_all (tabled s (form_of form)) due)
  stopped_is (f.Raised reason) e = ap (of_all (tabled s (form_of form))) e
  stopped_is f.Limit e = ap (of_all (tabled s (form_of form))) e
  stopped_is f.NoMemory e = tt

-- a form that no guard has
untabled : (s : Setting) (form : Form) (vs : Values) → ((what : Primitive) → form ≡ Table what → ⊥) → Stops (raise a_badarg) ≡ tabled s (form_of form) vs
untabled s (Table p) vs other = absurd (other p refl)
untabled s (Call g) vs other = refl
untabled s Send vs other = refl
untabled s Display vs other = refl
untabled s Spawn vs other = refl

pub untabled_is : (s : Setting) (form : Form) (due : Results) (vs : Values) → ((what : Primitive) → form ≡ Table what → ⊥) → AllGive vs ≡ due → Stops (raise a_badarg) ≡ of_all (tabled s (form_of form)) due
untabled_is s form due vs other e = untabled s form vs other ∙ ap (of_all (tabled s (form_of form))) e
