use Rattle.std.proofs.Common.{◌≡◌, ◌++◌}
use Rattle.plain_process.proofs.inbox.Inbox.with.Given as goal

abbrev pub invariant-loop-message : goal.invariant-loop-message
invariant-loop-message l = l.messages.items ≡ l.initial.messages.items ++ l.yielded
