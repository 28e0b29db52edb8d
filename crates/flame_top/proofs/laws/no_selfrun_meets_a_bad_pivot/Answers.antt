use Rattle.flame_top.proofs.SelfRunLaws.{no_selfrun_fails}
use Rattle.flame_top.proofs.laws.no_selfrun_meets_a_bad_pivot.Goals as goal

pub returns : goal.returns
returns c = no_selfrun_fails
