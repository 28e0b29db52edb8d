use Rattle.dispatcher.proofs.Tries.{IsTried}
use Rattle.dispatcher.proofs.shared_run.SharedRun.copy_whole.Given as goal

abbrev pub invariant-loop : goal.invariant-loop
invariant-loop g l = IsTried l.fn.seat l.seat l.fn.buffer l.buffer
