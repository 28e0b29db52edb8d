use Rattle.statement_runs.proofs.AllForms.{run-fails, none-first}
use Rattle.statement_runs.proofs.laws.runs_fail_at_the_first_bad_pivot.Goals as goal

pub returns-clause-fails : goal.returns-clause-fails
returns-clause-fails c m b two pos op valid grids bind fits counts are n task did known w run given good f f_in place ready bad =
    run-fails m b two pos op valid grids bind fits counts are n task did known w run given good f f_in place ready bad

pub returns-clause-none : goal.returns-clause-none
returns-clause-none c m b two pos op valid grids bind fits counts are n task did known w run given good form all_ran place =
    none-first m b two pos op valid grids bind fits counts are n task did known w run given good form all_ran place
