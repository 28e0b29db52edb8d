use Rattle.std.proofs.lemmas.Bool.{both_ways}
use Rattle.task_graph.specs.Order.{is_earlier}
use Rattle.task_graph.proofs.EarlierTasks.{is_earlier-same, is_earlier-trans, is_earlier-total}
use Rattle.task_graph.proofs.laws.earlier_is_an_order.Goals as goal

pub returns-clause-irreflexive : goal.returns-clause-irreflexive
returns-clause-irreflexive c op a h = both_ways (is_earlier op a a) (is_earlier-same op a) h

pub returns-clause-transitive : goal.returns-clause-transitive
returns-clause-transitive c op x y z h k = is_earlier-trans op x y z h k

pub returns-clause-total : goal.returns-clause-total
returns-clause-total c op a b = is_earlier-total op a b
