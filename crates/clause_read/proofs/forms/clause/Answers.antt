use Rattle.std.proofs.Common.{◌+◌, refl}
use Rattle.std.proofs.lemmas.Result.{err_from_is_err_and}
use Rattle.erl_syntax.specs.declared.token.TokenKind.TheVariants as k
use Rattle.body_read.specs.WantedExprs.{body_longer}
use Rattle.clause_read.specs.WantedForms.{clause_in}
use Rattle.clause_read.proofs.FormExits.{yes_of, token_fault}
use Rattle.clause_read.proofs.FunctionLaws.{in_head}
use Rattle.clause_read.proofs.Counting.{patterns_few}
use Rattle.clause_read.proofs.ClauseReads.{no_clause_at, clause_no_open, clause_patterns_fault, clause_guard_fault, clause_body_fault, clause_whole}
use Rattle.clause_read.proofs.forms.clause.Goals as goal

pub returns-in_err-name-clause-reads : goal.returns-in_err-name-clause-reads
returns-in_err-name-clause-reads c = let p = err_from_is_err_and c.from_residual.result c.from_residual.ensures.1 in
    rw (p.1, p.2) (token_fault body_longer clause_in c.args.cursor.now c.args.at c.args.at k.Atom _ (no_clause_at c.args.cursor.now c.args.at) c.in_err-name.ensures.token)

pub returns-in_err-token_of-clause-reads : goal.returns-in_err-token_of-clause-reads
returns-in_err-token_of-clause-reads c = let p = err_from_is_err_and c.from_residual-in_err-token_of.result c.from_residual-in_err-token_of.ensures.1 in
    let s0 = yes_of c.args.cursor.now c.args.at k.Atom c.in_ok-name.name c.in_ok-name.ensures.token in
    rw (p.1, p.2) (token_fault body_longer clause_in c.args.cursor.now c.args.at (c.args.at + 1) k.LeftParen _ (clause_no_open c.args.cursor.now c.args.at s0) c.in_err-token_of.ensures.token)

pub returns-in_err-patterns-clause-reads : goal.returns-in_err-patterns-clause-reads
returns-in_err-patterns-clause-reads c = let p = err_from_is_err_and c.from_residual-in_err-patterns.result c.from_residual-in_err-patterns.ensures.1 in
    let s0 = yes_of c.args.cursor.now c.args.at k.Atom c.in_ok-name.name c.in_ok-name.ensures.token in
    let s1 = yes_of c.args.cursor.now (c.args.at + 1) k.LeftParen c.in_ok-token_of.field-0 c.in_ok-token_of.ensures.token in
    rw (p.1, p.2) (clause_patterns_fault c.args.cursor.now c.args.at _ s0 s1 c.in_err-patterns.ensures.reads)

pub returns-in_err-guard-clause-reads : goal.returns-in_err-guard-clause-reads
returns-in_err-guard-clause-reads c = let p = err_from_is_err_and c.from_residual-in_err-guard.result c.from_residual-in_err-guard.ensures.1 in
    let s0 = yes_of c.args.cursor.now c.args.at k.Atom c.in_ok-name.name c.in_ok-name.ensures.token in
    let s1 = yes_of c.args.cursor.now (c.args.at + 1) k.LeftParen c.in_ok-token_of.field-0 c.in_ok-token_of.ensures.token in
    rw (p.1, p.2) (clause_guard_fault c.args.cursor.now c.args.at c.in_ok-patterns.after (c.in_ok-patterns.patterns, c.in_ok-patterns.field-0-0-1) _ s0 s1 c.in_ok-patterns.ensures.reads c.in_err-guard.ensures.reads)

pub returns-in_err-body-clause-reads : goal.returns-in_err-body-clause-reads
returns-in_err-body-clause-reads c = let p = err_from_is_err_and c.from_residual-in_err-body.result c.from_residual-in_err-body.ensures.1 in
    let s0 = yes_of c.args.cursor.now c.args.at k.Atom c.in_ok-name.name c.in_ok-name.ensures.token in
    let s1 = yes_of c.args.cursor.now (c.args.at + 1) k.LeftParen c.in_ok-token_of.field-0 c.in_ok-token_of.ensures.token in
    rw (p.1, p.2) (clause_body_fault c.args.cursor.now c.args.at c.in_ok-patterns.after c.in_ok-guard.next (c.in_ok-patterns.patterns, c.in_ok-patterns.field-0-0-1) (c.in_ok-guard.guard, c.in_ok-guard.field-0-0-1) _ s0 s1 c.in_ok-patterns.ensures.reads c.in_ok-guard.ensures.reads c.in_err-body.ensures.reads)

pub returns-clause-reads : goal.returns-clause-reads
returns-clause-reads c =
    let s1 = yes_of c.args.cursor.now (c.args.at + 1) k.LeftParen c.in_ok-token_of.field-0 c.in_ok-token_of.ensures.token in
    clause_whole c.args.cursor.now c.args.at c.in_ok-patterns.after c.in_ok-guard.next c.in_ok-body.end c.in_ok-name.name (c.in_ok-patterns.patterns, c.in_ok-patterns.field-0-0-1) (c.in_ok-guard.guard, c.in_ok-guard.field-0-0-1) (c.in_ok-body.body, c.in_ok-body.field-0-0-1) _ c.in_ok-name.ensures.token.0 c.in_ok-name.ensures.token.1 s1 c.in_ok-patterns.ensures.reads c.in_ok-guard.ensures.reads c.in_ok-body.ensures.reads refl

pub returns-clause-few : goal.returns-clause-few
returns-clause-few c = patterns_few k.RightParen in_head c.args.cursor.now (c.args.at + 2) c.in_ok-patterns.after (c.in_ok-patterns.patterns, c.in_ok-patterns.field-0-0-1) c.in_ok-patterns.ensures.reads
