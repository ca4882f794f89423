-- The literals of a module that was read are within the bounds.
use Rattle.std.proofs.Common.{List, [], ◌∷◌, map}
use Rattle.std.specs.List.{AllByRecursion, zip}
use Rattle.erl_syntax.specs.Checking.{number_at}
use Rattle.erl_syntax.specs.Grammar.{strict}
use Rattle.erl_syntax.specs.Reading.{words_of}
use Rattle.erl_syntax.specs.declared.checking.VarUse.{VarUse}
use Rattle.erl_syntax.specs.declared.module.Function.{Function}
use Rattle.erl_syntax.specs.declared.module.Module.{Module}
use Rattle.erl_syntax.specs.declared.module.Name.{Name}
use Rattle.term_value.specs.Read.{Reading}
use Rattle.term_value.specs.ReadTrees.{function_of, reading, module_of}
use Rattle.term_laws.specs.Inside.{EachFunction, IsBounded}
use Rattle.term_laws.proofs.KeptMachine.{bounds_are_kept, orders_keep_bounds, start_is_bounded}
use Rattle.module_laws.specs.Literals.{LiteralsAreBounded, RunsAreBounded, MachinesAreBounded}
use Rattle.module_laws.proofs.FormLiterals.{clauses_bounded, forms, words_near}
use Rattle.module_laws.proofs.SpeltForms.{Cs, functions_have}
use Rattle.module_laws.proofs.Words.{words_small}

each_bounded : (m : Module) (exports : List Name) (fs : List Function) (uses : List (List VarUse)) → ((rd : Reading) → AllByRecursion (λ (f : Function). Cs (forms rd) f.clauses) fs) →
    EachFunction IsBounded (map (λ f. function_of (reading (number_at f.1) m) exports f.0) (zip fs uses))
each_bounded m exports [] uses h = tt
each_bounded m exports (f ∷ fs) [] h = tt
each_bounded m exports (f ∷ fs) (u ∷ uses) h =
    (clauses_bounded (reading (number_at u) m) f.clauses (h (reading (number_at u) m)).0, each_bounded m exports fs uses (λ rd. (h rd).1))

pub literals_are_bounded : LiteralsAreBounded
literals_are_bounded text m uses r =
    let w = words_of text m.atoms r.tokens in
    let small = words_small text r.tokens r.short r.lexes m.atoms in
    each_bounded m m.exports m.functions uses (λ rd. functions_have (forms rd) strict m.heads m.exports m.functions w r.spells (words_near rd w small))

pub runs_are_bounded : RunsAreBounded
runs_are_bounded text m uses l k cost made r h path = bounds_are_kept (module_of uses m) l k cost made (literals_are_bounded text m uses r) h path

pub machines_are_bounded : MachinesAreBounded
machines_are_bounded text m uses reductions n entries r path =
    orders_keep_bounds _ n entries (start_is_bounded (module_of uses m) reductions (literals_are_bounded text m uses r)) path
