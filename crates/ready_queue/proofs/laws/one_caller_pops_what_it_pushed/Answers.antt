use Rattle.ready_queue.proofs.Balances.{alone}
use Rattle.ready_queue.proofs.laws.one_caller_pops_what_it_pushed.Goals as goal

pub returns : goal.returns
returns c = alone
