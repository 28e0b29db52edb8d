use Rattle.std.proofs.Common.{◌≡◌, length}
use Rattle.dispatcher.proofs.JoinedLogs.{IsOrderedTo}
use Rattle.dispatcher.proofs.joining.put_in_order.Given as goal

abbrev pub invariant-loop-at : goal.invariant-loop-at
invariant-loop-at l = (length l.schedule ≡ length l.initial.schedule) × IsOrderedTo l.log l.schedule l.at
