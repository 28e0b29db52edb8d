use Rattle.task_graph.proofs.NeedsFirst.{does_need-earlier}
use Rattle.task_graph.proofs.ValidFactors.{AreTriangular-valid}
use Rattle.task_graph.proofs.laws.order_extends_needs.Goals as goal

pub returns-clause-triangular : goal.returns-clause-triangular
returns-clause-triangular c op counts a b triangular h n = does_need-earlier op counts a b triangular h n

pub returns-clause-valid : goal.returns-clause-valid
returns-clause-valid c op counts a b valid h n = does_need-earlier op counts a b (AreTriangular-valid op valid) h n
