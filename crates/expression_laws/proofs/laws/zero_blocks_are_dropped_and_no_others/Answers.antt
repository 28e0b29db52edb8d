use Rattle.expression_laws.proofs.StoredLeaves.{read_through, zero_block, other_block}
use Rattle.expression_laws.proofs.laws.zero_blocks_are_dropped_and_no_others.Goals as goal

pub returns-clause-read : goal.returns-clause-read
returns-clause-read c = read_through

pub returns-clause-zeros : goal.returns-clause-zeros
returns-clause-zeros c = zero_block

pub returns-clause-others : goal.returns-clause-others
returns-clause-others c = other_block
