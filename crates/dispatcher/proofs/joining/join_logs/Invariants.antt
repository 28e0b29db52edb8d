use Rattle.dispatcher.proofs.JoinedLogs.{IsJoinedLogTo}
use Rattle.dispatcher.proofs.joining.join_logs.Given as goal

abbrev pub invariant-loop-at : goal.invariant-loop-at
invariant-loop-at l = IsJoinedLogTo l.initial.into l.from l.into l.at
