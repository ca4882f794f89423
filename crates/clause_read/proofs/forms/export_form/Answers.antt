use Rattle.std.proofs.Common.{◌+◌, refl}
use Rattle.std.proofs.lemmas.Result.{err_from_is_err_and}
use Rattle.erl_syntax.specs.declared.token.TokenKind.TheVariants as k
use Rattle.clause_read.proofs.FormExits.{yes_of}
use Rattle.clause_read.proofs.FormReads.{listed_token, export_no_open, export_no_list, exports_fault, export_no_close, export_no_stop, export_whole}
use Rattle.clause_read.proofs.forms.export_form.Goals as goal

pub returns-in_err-token_of-clause-reads : goal.returns-in_err-token_of-clause-reads
returns-in_err-token_of-clause-reads c = let p = err_from_is_err_and c.from_residual.result c.from_residual.ensures.1 in
    rw (p.1, p.2) (listed_token c.args.cursor.now c.args.at (c.args.at + 2) k.LeftParen _ (export_no_open c.args.cursor.now c.args.at c.requires.begins) c.in_err-token_of.ensures.token)

pub returns-in_err-token_of-2-clause-reads : goal.returns-in_err-token_of-2-clause-reads
returns-in_err-token_of-2-clause-reads c = let p = err_from_is_err_and c.from_residual-in_err-token_of-2.result c.from_residual-in_err-token_of-2.ensures.1 in
    let s2 = yes_of c.args.cursor.now (c.args.at + 2) k.LeftParen c.in_ok-token_of.field-0 c.in_ok-token_of.ensures.token in
    rw (p.1, p.2) (listed_token c.args.cursor.now c.args.at (c.args.at + 3) k.LeftBracket _ (export_no_list c.args.cursor.now c.args.at c.requires.begins s2) c.in_err-token_of-2.ensures.token)

pub returns-in_err-exported-clause-reads : goal.returns-in_err-exported-clause-reads
returns-in_err-exported-clause-reads c = let p = err_from_is_err_and c.from_residual-in_err-exported.result c.from_residual-in_err-exported.ensures.1 in
    let s2 = yes_of c.args.cursor.now (c.args.at + 2) k.LeftParen c.in_ok-token_of.field-0 c.in_ok-token_of.ensures.token in
    let s3 = yes_of c.args.cursor.now (c.args.at + 3) k.LeftBracket c.in_ok-token_of-2.field-0 c.in_ok-token_of-2.ensures.token in
    rw (p.1, p.2) (exports_fault c.args.cursor.now c.args.at _ _ c.requires.begins s2 s3 refl c.in_err-exported.ensures.reads)

pub returns-in_err-token_of-3-clause-reads : goal.returns-in_err-token_of-3-clause-reads
returns-in_err-token_of-3-clause-reads c = let p = err_from_is_err_and c.from_residual-in_err-token_of-3.result c.from_residual-in_err-token_of-3.ensures.1 in
    let s2 = yes_of c.args.cursor.now (c.args.at + 2) k.LeftParen c.in_ok-token_of.field-0 c.in_ok-token_of.ensures.token in
    let s3 = yes_of c.args.cursor.now (c.args.at + 3) k.LeftBracket c.in_ok-token_of-2.field-0 c.in_ok-token_of-2.ensures.token in
    rw (p.1, p.2) (listed_token c.args.cursor.now c.args.at c.in_ok-exported.next k.RightParen _ (export_no_close c.args.cursor.now c.args.at c.in_ok-exported.next c.in_ok-exported.exported.items c.requires.begins s2 s3 c.in_ok-exported.ensures.reads) c.in_err-token_of-3.ensures.token)

pub returns-in_err-token_of-4-clause-reads : goal.returns-in_err-token_of-4-clause-reads
returns-in_err-token_of-4-clause-reads c = let p = err_from_is_err_and c.from_residual-in_err-token_of-4.result c.from_residual-in_err-token_of-4.ensures.1 in
    let s2 = yes_of c.args.cursor.now (c.args.at + 2) k.LeftParen c.in_ok-token_of.field-0 c.in_ok-token_of.ensures.token in
    let s3 = yes_of c.args.cursor.now (c.args.at + 3) k.LeftBracket c.in_ok-token_of-2.field-0 c.in_ok-token_of-2.ensures.token in
    let s4 = yes_of c.args.cursor.now c.in_ok-exported.next k.RightParen c.in_ok-token_of-3.field-0 c.in_ok-token_of-3.ensures.token in
    rw (p.1, p.2) (listed_token c.args.cursor.now c.args.at (c.in_ok-exported.next + 1) k.FullStop _ (export_no_stop c.args.cursor.now c.args.at c.in_ok-exported.next c.in_ok-exported.exported.items c.requires.begins s2 s3 c.in_ok-exported.ensures.reads s4) c.in_err-token_of-4.ensures.token)

pub returns-clause-reads : goal.returns-clause-reads
returns-clause-reads c =
    let s2 = yes_of c.args.cursor.now (c.args.at + 2) k.LeftParen c.in_ok-token_of.field-0 c.in_ok-token_of.ensures.token in
    let s3 = yes_of c.args.cursor.now (c.args.at + 3) k.LeftBracket c.in_ok-token_of-2.field-0 c.in_ok-token_of-2.ensures.token in
    let s4 = yes_of c.args.cursor.now c.in_ok-exported.next k.RightParen c.in_ok-token_of-3.field-0 c.in_ok-token_of-3.ensures.token in
    let s5 = yes_of c.args.cursor.now (c.in_ok-exported.next + 1) k.FullStop c.in_ok-token_of-4.field-0 c.in_ok-token_of-4.ensures.token in
    export_whole c.args.cursor.now c.args.at c.in_ok-exported.next c.in_ok-exported.exported.items c.requires.begins s2 s3 c.in_ok-exported.ensures.reads s4 s5
