-- The variables of a function of a module that was read stand at places that rise.
use Rattle.std.proofs.Common.{List, [], ◌∷◌, None}
use Rattle.std.specs.List.{All}
use Rattle.std.proofs.lemmas.List.Elements.{All-nil, All-cons, All-map}
use Rattle.erl_syntax.specs.Checking.{IsBefore, RisingBy}
use Rattle.erl_syntax.specs.Grammar.{strict}
use Rattle.erl_syntax.specs.Reading.{words_of}
use Rattle.erl_syntax.specs.Word.{Word}
use Rattle.erl_syntax.specs.declared.module.Function.{Function}
use Rattle.erl_syntax.specs.declared.span.Span.{Span}
use Rattle.module_laws.specs.Variables.{function_spans, VariablesRise}
use Rattle.module_laws.proofs.RisingPlaces.{words_rise}
use Rattle.module_laws.proofs.SpeltVariables.{EachWithin, places, functions_within, some_rises}

places_rise : (w : List Word) → RisingBy (λ (t : Word). t.at) w → RisingBy (λ (at : Span). at) (places w)
places_rise [] h = tt
places_rise (t ∷ w) h = (All-map (IsBefore t.at) (λ (u : Word). u.at) w h.0, places_rise w h.1)

abbrev Rises : Function → Type 0
Rises f = RisingBy (λ (at : Span). at) (function_spans f)

each_rises : (us : List Span) (fs : List Function) → RisingBy (λ (at : Span). at) us → EachWithin us fs → All Rises fs
each_rises us [] h g = All-nil Rises
each_rises us (f ∷ fs) h g = All-cons Rises f fs (some_rises (function_spans f) us g.0 h) (each_rises us fs h g.1)

pub variables_rise : VariablesRise
variables_rise text m r =
    let w : List Word = words_of text m.atoms r.tokens in
    each_rises (places w) m.functions (places_rise w (words_rise text r.tokens None m.atoms r.lexes)) (functions_within strict m.heads m.exports m.functions w r.spells)
