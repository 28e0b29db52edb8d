use Rattle.task_graph.specs.Listing.{block_of}
use Rattle.expression_laws.proofs.OwnBlocks.{of-left, of-right, of-state}
use Rattle.expression_laws.proofs.OwnEquations.{of-equations}
use Rattle.expression_laws.proofs.laws.expressions_stand_for_their_blocks.Goals as goal

pub returns-clause-left : goal.returns-clause-left
returns-clause-left c = of-left

pub returns-clause-right : goal.returns-clause-right
returns-clause-right c = of-right

pub returns-clause-expanded : goal.returns-clause-expanded
returns-clause-expanded c = of-equations

pub returns-clause-states : goal.returns-clause-states
returns-clause-states c = of-state

pub returns-clause-full : goal.returns-clause-full
returns-clause-full c s counts i j = of-state s i j (block_of s.op counts i j)
