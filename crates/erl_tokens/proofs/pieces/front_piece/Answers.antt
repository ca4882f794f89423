use Rattle.std.proofs.Common.{◌≡◌, ◌∙◌, arith, rules, true, false, get_or}
use Rattle.erl_syntax.specs.Characters.{is_digit}
use Rattle.erl_syntax.specs.Tokens.{begins_name}
use Rattle.erl_tokens.proofs.Spelled.{is_same, is_other}
use Rattle.erl_tokens.proofs.ByFirst.{white_piece, comment_piece, name_piece, integer_piece, character_piece, string_piece, quoted_atom_piece, mark_piece}
use Rattle.erl_tokens.proofs.pieces.front_piece.Goals as goal

pub returns-then-white-gt0-clause-value : goal.returns-then-white-gt0-clause-value
returns-then-white-gt0-clause-value c = white_piece c.args.cut _ c.args.bs.now c.white_len-white.ensures.value (omega arith)

pub returns-then-first-eq37-clause-value : goal.returns-then-first-eq37-clause-value
returns-then-first-eq37-clause-value c =
    c.comment.ensures.value ∙ comment_piece c.args.cut c.args.bs.now (omega (arith, c.white_len-white.ensures.value)) (is_same _ _ c.if-first-eq37.true)

pub returns-then-begins_name-clause-value : goal.returns-then-begins_name-clause-value
returns-then-begins_name-clause-value c =
    let name_test : begins_name (get_or c.args.bs.now 0 0) ≡ true = search rules in
    c.name.ensures.value ∙ name_piece c.args.cut c.args.bs.now (omega (arith, c.white_len-white.ensures.value)) (is_other _ _ c.if-first-eq37.false) name_test

pub returns-then-is_digit-clause-value : goal.returns-then-is_digit-clause-value
returns-then-is_digit-clause-value c =
    let name_test : begins_name (get_or c.args.bs.now 0 0) ≡ false = search rules in
    let integer_test : is_digit 10 (get_or c.args.bs.now 0 0) ≡ true = search rules in
    c.integer_at.ensures.value ∙ integer_piece c.args.cut c.args.bs.now (omega (arith, c.white_len-white.ensures.value)) (is_other _ _ c.if-first-eq37.false) name_test integer_test

pub returns-then-first-eq36-clause-value : goal.returns-then-first-eq36-clause-value
returns-then-first-eq36-clause-value c =
    let name_test : begins_name (get_or c.args.bs.now 0 0) ≡ false = search rules in
    let integer_test : is_digit 10 (get_or c.args.bs.now 0 0) ≡ false = search rules in
    c.character.ensures.value ∙ character_piece c.args.cut c.args.bs.now (omega (arith, c.white_len-white.ensures.value)) (is_other _ _ c.if-first-eq37.false) name_test integer_test (is_same _ _ c.if-first-eq36.true)

pub returns-then-first-eq34-clause-value : goal.returns-then-first-eq34-clause-value
returns-then-first-eq34-clause-value c =
    let name_test : begins_name (get_or c.args.bs.now 0 0) ≡ false = search rules in
    let integer_test : is_digit 10 (get_or c.args.bs.now 0 0) ≡ false = search rules in
    c.string.ensures.value ∙ string_piece c.args.cut c.args.bs.now (omega (arith, c.white_len-white.ensures.value)) (is_other _ _ c.if-first-eq37.false) name_test integer_test (is_other _ _ c.if-first-eq36.false) (is_same _ _ c.if-first-eq34.true)

pub returns-then-first-eq39-clause-value : goal.returns-then-first-eq39-clause-value
returns-then-first-eq39-clause-value c =
    let name_test : begins_name (get_or c.args.bs.now 0 0) ≡ false = search rules in
    let integer_test : is_digit 10 (get_or c.args.bs.now 0 0) ≡ false = search rules in
    c.quoted_atom.ensures.value ∙ quoted_atom_piece c.args.cut c.args.bs.now (omega (arith, c.white_len-white.ensures.value)) (is_other _ _ c.if-first-eq37.false) name_test integer_test (is_other _ _ c.if-first-eq36.false) (is_other _ _ c.if-first-eq34.false) (is_same _ _ c.if-first-eq39.true)

pub returns-else-first-eq39-clause-value : goal.returns-else-first-eq39-clause-value
returns-else-first-eq39-clause-value c =
    let name_test : begins_name (get_or c.args.bs.now 0 0) ≡ false = search rules in
    let integer_test : is_digit 10 (get_or c.args.bs.now 0 0) ≡ false = search rules in
    c.mark.ensures.value ∙ mark_piece c.args.cut c.args.bs.now (omega (arith, c.white_len-white.ensures.value)) (is_other _ _ c.if-first-eq37.false) name_test integer_test (is_other _ _ c.if-first-eq36.false) (is_other _ _ c.if-first-eq34.false) (is_other _ _ c.if-first-eq39.false)
