use Rattle.block_values.proofs.HeldStates.{unsolved_state, solved_state}
use Rattle.block_values.proofs.laws.states_denote_what_blocks_hold.Goals as goal

pub returns-clause-unsolved : goal.returns-clause-unsolved
returns-clause-unsolved c = unsolved_state

pub returns-clause-solved : goal.returns-clause-solved
returns-clause-solved c = solved_state
