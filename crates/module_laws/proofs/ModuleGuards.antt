-- Guards and sizes of a module that was read have the form of guard expressions.
use Rattle.std.proofs.Common.{List, [], ◌∷◌, map}
use Rattle.std.specs.List.{zip}
use Rattle.std.proofs.lemmas.List.Elements.{All-nil, All-cons}
use Rattle.std.specs.List.{All, AllByRecursion}
use Rattle.erl_syntax.specs.Checking.{number_at}
use Rattle.erl_syntax.specs.Grammar.{strict}
use Rattle.erl_syntax.specs.Reading.{words_of}
use Rattle.erl_syntax.specs.declared.checking.VarUse.{VarUse}
use Rattle.erl_syntax.specs.declared.module.Function.{Function}
use Rattle.erl_syntax.specs.declared.module.Module.{Module}
use Rattle.erl_syntax.specs.declared.module.Name.{Name}
use Rattle.term_value.specs.Read.{Reading}
use Rattle.term_value.specs.ReadTrees.{function_of, reading}
use Rattle.term_value.specs.Tree as tree
use Rattle.module_laws.specs.GuardForms.{HaveClauseForms, GuardsHaveForm}
use Rattle.module_laws.proofs.FormGuards.{clauses_formed, forms, words_formed}
use Rattle.module_laws.proofs.SpeltForms.{Cs, functions_have}

abbrev IsFormed : tree.Function → Type 0
IsFormed f = HaveClauseForms f.clauses

each_formed : (m : Module) (exports : List Name) (fs : List Function) (uses : List (List VarUse)) → ((rd : Reading) → AllByRecursion (λ (f : Function). Cs (forms rd) f.clauses) fs) →
    All IsFormed (map (λ f. function_of (reading (number_at f.1) m) exports f.0) (zip fs uses))
each_formed m exports [] uses h = All-nil IsFormed
each_formed m exports (f ∷ fs) [] h = All-nil IsFormed
each_formed m exports (f ∷ fs) (u ∷ uses) h =
    All-cons IsFormed (function_of (reading (number_at u) m) exports f) (map (λ f. function_of (reading (number_at f.1) m) exports f.0) (zip fs uses))
    (clauses_formed (reading (number_at u) m) f.clauses (h (reading (number_at u) m)).0) (each_formed m exports fs uses (λ rd. (h rd).1))

pub guards_have_form : GuardsHaveForm
guards_have_form text m uses r =
    let w = words_of text m.atoms r.tokens in
    each_formed m m.exports m.functions uses (λ rd. functions_have (forms rd) strict m.heads m.exports m.functions w r.spells (words_formed rd w))
