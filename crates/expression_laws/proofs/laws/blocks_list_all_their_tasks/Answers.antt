use Rattle.expression_laws.proofs.BlockLists.{all_listed, in_order_listed}
use Rattle.expression_laws.proofs.laws.blocks_list_all_their_tasks.Goals as goal

pub returns-clause-all : goal.returns-clause-all
returns-clause-all c = all_listed

pub returns-clause-in_order : goal.returns-clause-in_order
returns-clause-in_order c = in_order_listed
