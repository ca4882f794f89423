use Rattle.std.proofs.Common.{rules, ◌≡◌, subst, Err}
use Rattle.pattern_read.specs.declared.fault.Fault.{Fault}
use Rattle.clause_read.specs.WantedForms.{ReadsForms}
use Rattle.clause_read.proofs.Again.{front_of, front_is, told_whole, told_past, told_there}
use Rattle.clause_read.proofs.second.read_again.Goals as goal

pub returns-in-Ok : goal.returns-in-Ok
returns-in-Ok c =
    let s : c.front-front.result ≡ front_of c.args.cursor.words c.args.at = front_is c.front-front.result c.args.cursor.words c.args.at c.len-count.result c.count_to.result c.count_to.ensures c.len-count.ensures c.front-front.ensures in
    told_whole c.front-front.result c.args.cursor.words c.args.at c.len-count.result c.behind.result c.in-Ok.field-0 s c.len-count.ensures c.requires.open_ c.in-Ok.ensures c.behind.ensures

pub returns-then-place-at : goal.returns-then-place-at
returns-then-place-at c =
    let s : c.front-front.result ≡ front_of c.args.cursor.words c.args.at = front_is c.front-front.result c.args.cursor.words c.args.at c.len-count.result c.count_to.result c.count_to.ensures c.len-count.ensures c.front-front.ensures in
    let Q : Fault → Type 0 = λ e. ReadsForms c.front-front.result (Err e) in
    told_there c.front-front.result c.args.cursor.words c.args.at c.in-Err-Refused.place c.in-Err-Refused.why c.decided.result s (search rules) c.requires.open_ (subst Q c.in-Err-Refused.field-0-is c.in-Err-Refused.ensures) c.decided.ensures

pub returns : goal.returns
returns c =
    let s : c.front-front.result ≡ front_of c.args.cursor.words c.args.at = front_is c.front-front.result c.args.cursor.words c.args.at c.len-count.result c.count_to.result c.count_to.ensures c.len-count.ensures c.front-front.ensures in
    let Q : Fault → Type 0 = λ e. ReadsForms c.front-front.result (Err e) in
    told_past c.front-front.result c.args.cursor.words c.args.at c.len-count.result c.in-Err-Refused.place c.in-Err-Refused.why c.behind-else-place-at.result s c.len-count.ensures (λ h. search rules) c.requires.open_ (subst Q c.in-Err-Refused.field-0-is c.in-Err-Refused.ensures) c.behind-else-place-at.ensures
