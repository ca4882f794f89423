use Rattle.std.proofs.Common.{◌+◌, refl}
use Rattle.std.proofs.lemmas.Result.{err_from_is_err_and}
use Rattle.erl_syntax.specs.declared.token.TokenKind.TheVariants as k
use Rattle.clause_read.specs.WantedForms.{with_head}
use Rattle.clause_read.proofs.FormExits.{yes_of}
use Rattle.clause_read.proofs.FormReads.{form_token, module_no_open, module_no_name, module_no_close, module_no_stop, module_whole}
use Rattle.clause_read.proofs.forms.module_form.Goals as goal

pub returns-in_err-token_of-clause-reads : goal.returns-in_err-token_of-clause-reads
returns-in_err-token_of-clause-reads c = let p = err_from_is_err_and c.from_residual-in_err-token_of.result c.from_residual-in_err-token_of.ensures.1 in
    rw (p.1, p.2) (form_token with_head c.args.cursor.now c.args.at (c.args.at + 2) k.LeftParen _ (module_no_open c.args.cursor.now c.args.at c.requires.begins) c.in_err-token_of.ensures.token)

pub returns-in_err-name-clause-reads : goal.returns-in_err-name-clause-reads
returns-in_err-name-clause-reads c = let p = err_from_is_err_and c.from_residual-in_err-name.result c.from_residual-in_err-name.ensures.1 in
    let s2 = yes_of c.args.cursor.now (c.args.at + 2) k.LeftParen c.in_ok-token_of.field-0 c.in_ok-token_of.ensures.token in
    rw (p.1, p.2) (form_token with_head c.args.cursor.now c.args.at (c.args.at + 3) k.Atom _ (module_no_name c.args.cursor.now c.args.at c.requires.begins s2) c.in_err-name.ensures.token)

pub returns-in_err-token_of-2-clause-reads : goal.returns-in_err-token_of-2-clause-reads
returns-in_err-token_of-2-clause-reads c = let p = err_from_is_err_and c.from_residual-in_err-token_of-2.result c.from_residual-in_err-token_of-2.ensures.1 in
    let s2 = yes_of c.args.cursor.now (c.args.at + 2) k.LeftParen c.in_ok-token_of.field-0 c.in_ok-token_of.ensures.token in
    let s3 = yes_of c.args.cursor.now (c.args.at + 3) k.Atom c.in_ok-name.name c.in_ok-name.ensures.token in
    rw (p.1, p.2) (form_token with_head c.args.cursor.now c.args.at (c.args.at + 4) k.RightParen _ (module_no_close c.args.cursor.now c.args.at c.requires.begins s2 s3) c.in_err-token_of-2.ensures.token)

pub returns-in_err-token_of-3-clause-reads : goal.returns-in_err-token_of-3-clause-reads
returns-in_err-token_of-3-clause-reads c = let p = err_from_is_err_and c.from_residual-in_err-token_of-3.result c.from_residual-in_err-token_of-3.ensures.1 in
    let s2 = yes_of c.args.cursor.now (c.args.at + 2) k.LeftParen c.in_ok-token_of.field-0 c.in_ok-token_of.ensures.token in
    let s3 = yes_of c.args.cursor.now (c.args.at + 3) k.Atom c.in_ok-name.name c.in_ok-name.ensures.token in
    let s4 = yes_of c.args.cursor.now (c.args.at + 4) k.RightParen c.in_ok-token_of-2.field-0 c.in_ok-token_of-2.ensures.token in
    rw (p.1, p.2) (form_token with_head c.args.cursor.now c.args.at (c.args.at + 5) k.FullStop _ (module_no_stop c.args.cursor.now c.args.at c.requires.begins s2 s3 s4) c.in_err-token_of-3.ensures.token)

pub returns-clause-reads : goal.returns-clause-reads
returns-clause-reads c =
    let s2 = yes_of c.args.cursor.now (c.args.at + 2) k.LeftParen c.in_ok-token_of.field-0 c.in_ok-token_of.ensures.token in
    let s4 = yes_of c.args.cursor.now (c.args.at + 4) k.RightParen c.in_ok-token_of-2.field-0 c.in_ok-token_of-2.ensures.token in
    let s5 = yes_of c.args.cursor.now (c.args.at + 5) k.FullStop c.in_ok-token_of-3.field-0 c.in_ok-token_of-3.ensures.token in
    module_whole c.args.cursor.now c.args.at c.in_ok-minus.minus c.in_ok-name.name _ c.requires.begins c.in_ok-minus.ensures.token.0 s2 c.in_ok-name.ensures.token.0 c.in_ok-name.ensures.token.1 s4 s5 refl
