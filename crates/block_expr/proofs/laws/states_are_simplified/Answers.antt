use Rattle.block_expr.proofs.SimplifiedStates.{simplified-state, simplified-full}
use Rattle.block_expr.proofs.laws.states_are_simplified.Goals as goal

pub returns-clause-states : goal.returns-clause-states
returns-clause-states c = simplified-state

pub returns-clause-full : goal.returns-clause-full
returns-clause-full c = simplified-full
