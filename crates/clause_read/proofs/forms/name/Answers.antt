use Rattle.std.proofs.Common.{◌+◌}
use Rattle.std.proofs.lemmas.Result.{err_from_is_err_and}
use Rattle.erl_syntax.specs.declared.token.TokenKind.TheVariants as k
use Rattle.pattern_read.specs.Reading.{closed}
use Rattle.clause_read.specs.WantedForms.{name_in}
use Rattle.clause_read.proofs.FormExits.{yes_of, token_fault, name_no_atom, name_no_slash, name_no_integer, name_whole}
use Rattle.clause_read.proofs.forms.name.Goals as goal

pub returns-in_err-atom-clause-reads : goal.returns-in_err-atom-clause-reads
returns-in_err-atom-clause-reads c = let p = err_from_is_err_and c.from_residual.result c.from_residual.ensures.1 in
    rw (p.1, p.2) (token_fault closed name_in c.args.cursor.now c.args.at c.args.at k.Atom _ (name_no_atom c.args.cursor.now c.args.at) c.in_err-atom.ensures.token)

pub returns-in_err-token_of-clause-reads : goal.returns-in_err-token_of-clause-reads
returns-in_err-token_of-clause-reads c = let p = err_from_is_err_and c.from_residual-in_err-token_of.result c.from_residual-in_err-token_of.ensures.1 in
    let a = yes_of c.args.cursor.now c.args.at k.Atom c.in_ok-atom.atom c.in_ok-atom.ensures.token in
    rw (p.1, p.2) (token_fault closed name_in c.args.cursor.now c.args.at (c.args.at + 1) k.Slash _ (name_no_slash c.args.cursor.now c.args.at a) c.in_err-token_of.ensures.token)

pub returns-in_err-arity-clause-reads : goal.returns-in_err-arity-clause-reads
returns-in_err-arity-clause-reads c = let p = err_from_is_err_and c.from_residual-in_err-arity.result c.from_residual-in_err-arity.ensures.1 in
    let a = yes_of c.args.cursor.now c.args.at k.Atom c.in_ok-atom.atom c.in_ok-atom.ensures.token in
    let b = yes_of c.args.cursor.now (c.args.at + 1) k.Slash c.in_ok-token_of.field-0 c.in_ok-token_of.ensures.token in
    rw (p.1, p.2) (token_fault closed name_in c.args.cursor.now c.args.at (c.args.at + 2) k.Integer _ (name_no_integer c.args.cursor.now c.args.at a b) c.in_err-arity.ensures.token)

pub returns-clause-reads : goal.returns-clause-reads
returns-clause-reads c =
    let b = yes_of c.args.cursor.now (c.args.at + 1) k.Slash c.in_ok-token_of.field-0 c.in_ok-token_of.ensures.token in
    name_whole c.args.cursor.now c.args.at c.in_ok-atom.atom c.in_ok-arity.arity c.named.result c.in_ok-atom.ensures.token.0 c.in_ok-atom.ensures.token.1 b c.in_ok-arity.ensures.token.0 c.in_ok-arity.ensures.token.1 c.named.ensures
