-- The returns of the reader of all forms.
use Rattle.std.proofs.Common.{◌≡◌, ℕ, List, [], ◌++◌, drop, Ok, Err, sym, ap, subst, ◌∙◌, append-nil}
use Rattle.erl_syntax.specs.declared.module.Head.{Head}
use Rattle.erl_syntax.specs.declared.module.Name.{Name}
use Rattle.erl_syntax.specs.declared.module.Function.{Function}
use Rattle.erl_syntax.specs.Word.{Word}
use Rattle.pattern_read.specs.declared.fault.Fault.{Fault}
use Rattle.pattern_read.specs.declared.fault.Fault.TheVariants.{Memory, Refused}
use Rattle.clause_read.specs.declared.forms.ModuleForms.{ModuleForms}
use Rattle.clause_read.specs.declared.forms.Form.{Form}
use Rattle.clause_read.specs.declared.forms.Collected.{Collected}
use Rattle.pattern_read.specs.Reading.{Passes, nothing}
use Rattle.clause_read.specs.WantedForms.{anything, forms_in, with_form, collected_before, Adds, ReadsForms}
use Rattle.pattern_read.proofs.Passing.{and_then, refused_after, same_kinds, remade}
use Rattle.clause_read.proofs.FormLaws.{no_more_forms, on_no_forms}
use Rattle.pattern_read.specs.Cursor.{Readable}

-- the forms up to the place have been read
abbrev pub Collects : Readable → ℕ → Collected → Type 0
Collects ws at all = Passes ws.limits anything forms_in ws.words forms_in (drop at ws.words) (collected_before all)

pub forms_fault : (ws : Readable) (at : ℕ) (all : Collected) (fault : Fault) → Collects ws at all → Adds with_form ws at (Err fault) → ReadsForms ws (Err fault)
forms_fault ws at all Memory p g = tt
forms_fault ws at all (Refused n why) p g = refused_after (same_kinds anything) p g

pub forms_step : (ws : Readable) (at next : ℕ) (all more : Collected) (form : Form) → Collects ws at all → Adds with_form ws at (Ok (form, next)) → ((r : ModuleForms) → collected_before more r ≡ collected_before all (with_form form r)) → Collects ws next more
forms_step ws at next all more form p g e = remade (λ r. sym (e r)) (and_then (same_kinds anything) p g)

pub forms_whole : (ws : Readable) (at : ℕ) (all : Collected) (hs : List Head) (es : List Name) (fs : List Function) → Collects ws at all → drop at ws.words ≡ [] → hs ≡ all.heads.items → es ≡ all.exports.items → fs ≡ all.functions.items →
    ReadsForms ws (Ok (record { heads = hs; exports = es; functions = fs }))
forms_whole ws at all hs es fs p e a b c =
    let f : List Head → List Name → List Function → ModuleForms = λ u v w. record { heads = u; exports = v; functions = w } in
    let P : List Word → Type 0 = λ w. Passes ws.limits anything forms_in w nothing [] (λ u. no_more_forms) in
    let made : collected_before all no_more_forms ≡ f hs es fs =
    ap (λ u. f u (all.exports.items ++ []) (all.functions.items ++ [])) (append-nil all.heads.items ∙ sym a)
    ∙ ap (λ v. f hs v (all.functions.items ++ [])) (append-nil all.exports.items ∙ sym b)
    ∙ ap (λ w. f hs es w) (append-nil all.functions.items ∙ sym c) in
    remade (λ u. made) (and_then (same_kinds anything) p (subst P (sym e) on_no_forms))
