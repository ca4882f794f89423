use Rattle.std.proofs.Common.{◌≡◌, ◌++◌, [], ◌∷◌, rules}
use Rattle.std.proofs.lemmas.List.Elements.{All-push}
use Rattle.term_value.specs.Orders.{IsInRange}
use Rattle.report_text.proofs.LineParts.{entry_more}
use Rattle.report_text.proofs.lines.read_order.Goals as goal

pub loop-rest-preserved : goal.loop-rest-preserved
loop-rest-preserved c =
    let grown : c.push.new.self.items ≡ c.loop-rest.entries.items ++ c.in-Some.entry ∷ [] = search rules in
    record {
      in_range = rw grown (All-push IsInRange c.loop-rest.entries.items c.in-Some.entry c.loop-rest.invariant.in_range c.in-Some.ensures.in_range);
      spelled = rw grown (entry_more c.args.text.now c.loop-rest.rest.now c.split_at.result.0.now c.split_at.result.1.now c.loop-rest.entries.items c.in-Some.entry _ c.loop-rest.invariant.spelled c.split_at.ensures.front c.split_at.ensures.back c.in-Some.ensures.spelled);
    }
