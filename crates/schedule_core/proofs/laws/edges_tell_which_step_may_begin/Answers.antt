use Rattle.schedule_core.proofs.RunningSteps.{begin-from_edges, edges-from_begin}
use Rattle.schedule_core.proofs.laws.edges_tell_which_step_may_begin.Goals as goal

pub returns : goal.returns
returns c accesses n events begun t first within waits =
    (edges-from_begin accesses n events begun t, begin-from_edges accesses n events begun t first within waits)
