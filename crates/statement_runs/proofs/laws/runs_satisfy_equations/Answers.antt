use Rattle.statement_runs.proofs.AllForms.{run-satisfies}
use Rattle.statement_runs.proofs.laws.runs_satisfy_equations.Goals as goal

pub returns : goal.returns
returns c m b two pos op valid grids bind fits counts are n task did known w run given all_ran =
    run-satisfies m b two pos op valid grids bind fits counts are n task did known w run given all_ran
