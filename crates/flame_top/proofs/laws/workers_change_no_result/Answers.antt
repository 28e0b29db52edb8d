use Rattle.flame_top.proofs.RunLaws.{alike_run}
use Rattle.flame_top.proofs.SelfRunLaws.{alike_selfrun}
use Rattle.flame_top.proofs.laws.workers_change_no_result.Goals as goal

pub returns-clause-run : goal.returns-clause-run
returns-clause-run c = λ job valid words workers status other text different due due_other.
    let same = alike_run words workers job valid status other text different due due_other in (same.0, same.1.0)

pub returns-clause-plain : goal.returns-clause-plain
returns-clause-plain c = λ job valid words none workers status other text different due due_other.
    (alike_run words workers job valid status other text different due due_other).1.1 none

pub returns-clause-selfrun : goal.returns-clause-selfrun
returns-clause-selfrun c = λ words range workers. alike_selfrun words range workers
