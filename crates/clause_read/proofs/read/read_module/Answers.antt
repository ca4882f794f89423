use Rattle.std.proofs.Common.{rules, arith, ◌≡◌, ◌≤◌, ◌∙◌, ap, sym, subst, List, ℕ, ◌^◌, length, drop, All, None, Err, inr}
use Rattle.std.proofs.lemmas.Result.{err_from_is_err_and}
use Rattle.erl_syntax.specs.declared.token.Token.{Token}
use Rattle.erl_syntax.specs.Tokens.{Lexes, IsWithin}
use Rattle.erl_syntax.specs.Reading.{longest_text, atoms_of, words_of}
use Rattle.pattern_read.specs.declared.fault.Fault.{Fault}
use Rattle.clause_read.specs.WantedForms.{ReadsForms}
use Rattle.clause_read.proofs.Modules.{module_read, module_only, word_fault, word_none, token_fault, forms_strict, refused_strict, cursor_words, cursor_short, refused_place}
use Rattle.clause_read.proofs.read.read_module.Goals as goal

pub returns-in_err-found-clause-fault : goal.returns-in_err-found-clause-fault
returns-in_err-found-clause-fault c = let p = err_from_is_err_and c.from_residual.result c.from_residual.ensures.1 in
    let h : length c.args.text.now ≤ longest_text = search rules in
    rw p.1 (token_fault c.args.text.now _ p.0 h c.in_err-found.ensures.fault p.2)

pub number-requires-clause-within : goal.number-requires-clause-within
number-requires-clause-within c = subst (All (IsWithin c.args.text.now)) (sym c.as_slice.ensures.value) c.in_ok-found.ensures.within

pub number-requires-clause-few : goal.number-requires-clause-few
number-requires-clause-few c =
    let h : length c.args.text.now ≤ longest_text = search rules in
    omega (arith, h, ap length c.as_slice.ensures.value, c.in_ok-found.ensures.few)

pub read_forms-requires-clause-short : goal.read_forms-requires-clause-short
read_forms-requires-clause-short c =
    let T : List Token = c.as_slice.result.now in
    let h : length c.args.text.now ≤ longest_text = search rules in
    let w : c.of-cursor.result.words ≡ words_of c.args.text.now (atoms_of c.args.text.now T) T = cursor_words c.args.text.now c.in_ok-to_vec.field-0.items T c.in_ok-numbering.numbering.strings.items c.in_ok-numbering.numbering.read.items c.of-cursor.result.words (ap (λ v. v.words) c.of-cursor.ensures) (c.in_ok-to_vec.ensures.items_if_clones_equal (search rules)) c.in_ok-numbering.ensures.words in
    cursor_short c.args.text.now T c.of-cursor.result.words (2 ^ 32) w (omega (arith, h, ap length c.as_slice.ensures.value, c.in_ok-found.ensures.few))

pub told_of-requires-clause-short : goal.told_of-requires-clause-short
told_of-requires-clause-short c =
    let T : List Token = c.as_slice.result.now in
    let h : length c.args.text.now ≤ longest_text = search rules in
    let w : c.of-cursor.result.words ≡ words_of c.args.text.now (atoms_of c.args.text.now T) T = cursor_words c.args.text.now c.in_ok-to_vec.field-0.items T c.in_ok-numbering.numbering.strings.items c.in_ok-numbering.numbering.read.items c.of-cursor.result.words (ap (λ v. v.words) c.of-cursor.ensures) (c.in_ok-to_vec.ensures.items_if_clones_equal (search rules)) c.in_ok-numbering.ensures.words in
    cursor_short c.args.text.now T c.of-cursor.result.words (2 ^ 32) w (omega (arith, h, ap length c.as_slice.ensures.value, c.in_ok-found.ensures.few))

pub returns-in-Ok-clause-module : goal.returns-in-Ok-clause-module
returns-in-Ok-clause-module c =
    let T : List Token = c.as_slice.result.now in
    let h : length c.args.text.now ≤ longest_text = search rules in
    let P : List Token → Type 0 = λ ts. Lexes c.args.text.now ts None in
    let d : Lexes c.args.text.now T None = subst P (sym c.as_slice.ensures.value) c.in_ok-found.ensures.tokens in
    let w : c.of-cursor.result.words ≡ words_of c.args.text.now (atoms_of c.args.text.now T) T = cursor_words c.args.text.now c.in_ok-to_vec.field-0.items T c.in_ok-numbering.numbering.strings.items c.in_ok-numbering.numbering.read.items c.of-cursor.result.words (ap (λ v. v.words) c.of-cursor.ensures) (c.in_ok-to_vec.ensures.items_if_clones_equal (search rules)) c.in_ok-numbering.ensures.words in
    module_read c.args.text.now T c.of-cursor.result.words c.in_ok-atoms.atoms c.in-Ok.forms c.end_of-last.result c.module_from.result h d (c.in_ok-atoms.ensures ∙ c.in_ok-numbering.ensures.atoms) w (forms_strict c.of-cursor.result c.in-Ok.forms (ap (λ v. v.limits) c.of-cursor.ensures) c.in-Ok.ensures) c.end_of-last.ensures c.module_from.ensures

pub returns-in-Ok-clause-only : goal.returns-in-Ok-clause-only
returns-in-Ok-clause-only c =
    let T : List Token = c.as_slice.result.now in
    let h : length c.args.text.now ≤ longest_text = search rules in
    let P : List Token → Type 0 = λ ts. Lexes c.args.text.now ts None in
    let d : Lexes c.args.text.now T None = subst P (sym c.as_slice.ensures.value) c.in_ok-found.ensures.tokens in
    let w : c.of-cursor.result.words ≡ words_of c.args.text.now (atoms_of c.args.text.now T) T = cursor_words c.args.text.now c.in_ok-to_vec.field-0.items T c.in_ok-numbering.numbering.strings.items c.in_ok-numbering.numbering.read.items c.of-cursor.result.words (ap (λ v. v.words) c.of-cursor.ensures) (c.in_ok-to_vec.ensures.items_if_clones_equal (search rules)) c.in_ok-numbering.ensures.words in
    module_only c.one_reading.ensures c.args.text.now T c.of-cursor.result.words c.in_ok-atoms.atoms c.in-Ok.forms c.end_of-last.result c.module_from.result d (c.in_ok-atoms.ensures ∙ c.in_ok-numbering.ensures.atoms) w (forms_strict c.of-cursor.result c.in-Ok.forms (ap (λ v. v.limits) c.of-cursor.ensures) c.in-Ok.ensures) c.end_of-last.ensures c.module_from.ensures

pub returns-clause-fault : goal.returns-clause-fault
returns-clause-fault c =
    let T : List Token = c.as_slice.result.now in
    let h : length c.args.text.now ≤ longest_text = search rules in
    let P : List Token → Type 0 = λ ts. Lexes c.args.text.now ts None in
    let d : Lexes c.args.text.now T None = subst P (sym c.as_slice.ensures.value) c.in_ok-found.ensures.tokens in
    let w : c.of-cursor.result.words ≡ words_of c.args.text.now (atoms_of c.args.text.now T) T = cursor_words c.args.text.now c.in_ok-to_vec.field-0.items T c.in_ok-numbering.numbering.strings.items c.in_ok-numbering.numbering.read.items c.of-cursor.result.words (ap (λ v. v.words) c.of-cursor.ensures) (c.in_ok-to_vec.ensures.items_if_clones_equal (search rules)) c.in_ok-numbering.ensures.words in
    let at : ℕ = c.in-Err-Refused.at in
    let p = refused_place c.args.text.now c.of-cursor.result.words at c.end_of-last.result c.place_of-place.result c.place_of-place.ensures c.end_of-last.ensures in
    word_fault c.args.text.now T c.of-cursor.result.words (drop at c.of-cursor.result.words) c.told_of.result c.place_of-place.result c.fault_at-in-Err-Refused.result h d w c.told_of.ensures p c.fault_at-in-Err-Refused.ensures

pub returns-clause-none : goal.returns-clause-none
returns-clause-none c =
    let T : List Token = c.as_slice.result.now in
    let h : length c.args.text.now ≤ longest_text = search rules in
    let P : List Token → Type 0 = λ ts. Lexes c.args.text.now ts None in
    let d : Lexes c.args.text.now T None = subst P (sym c.as_slice.ensures.value) c.in_ok-found.ensures.tokens in
    let w : c.of-cursor.result.words ≡ words_of c.args.text.now (atoms_of c.args.text.now T) T = cursor_words c.args.text.now c.in_ok-to_vec.field-0.items T c.in_ok-numbering.numbering.strings.items c.in_ok-numbering.numbering.read.items c.of-cursor.result.words (ap (λ v. v.words) c.of-cursor.ensures) (c.in_ok-to_vec.ensures.items_if_clones_equal (search rules)) c.in_ok-numbering.ensures.words in
    let Q : Fault → Type 0 = λ e. ReadsForms c.of-cursor.result (Err e) in
    let g = subst Q c.in-Err-Refused.field-0-is c.in-Err-Refused.ensures in
    inr (word_none c.one_reading.ensures c.args.text.now T c.of-cursor.result.words (drop c.in-Err-Refused.at c.of-cursor.result.words) c.in-Err-Refused.why d w (refused_strict c.of-cursor.result c.in-Err-Refused.at c.in-Err-Refused.why (ap (λ v. v.limits) c.of-cursor.ensures) g))
