use Rattle.ready_queue.proofs.Balances.{balance, once, few, steps}
use Rattle.ready_queue.proofs.laws.each_push_is_popped_at_most_once.Goals as goal

pub returns-clause-balance : goal.returns-clause-balance
returns-clause-balance c = balance

pub returns-clause-once : goal.returns-clause-once
returns-clause-once c = once

pub returns-clause-few : goal.returns-clause-few
returns-clause-few c = few

pub returns-clause-steps : goal.returns-clause-steps
returns-clause-steps c = steps
