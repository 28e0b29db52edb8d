-- A job leaves as many matrices as it has.
use Rattle.std.proofs.Common.{◌≡◌, List, [], ◌∷◌, length, ap, ◌∙◌}
use Rattle.std.proofs.lemmas.List.{length-set}
use Rattle.residue_sums.specs.Grids.{Grid}
use Rattle.equation.specs.declared.job.Job.{Job}
use Rattle.equation.specs.declared.job.Statement.{Statement}
use Rattle.equation.specs.Meanings.{ChangeAll, Means}

changed_count : (job : Job) (statements : List Statement) (before after : List Grid) → ChangeAll job statements before after → length after ≡ length before
changed_count job [] before after same = ap length same
changed_count job (s ∷ statements) before after changes =
    changed_count job statements changes.0 after changes.2 ∙ ap length changes.1.others ∙ length-set before s.bind.work changes.1.solution

pub left_count : (job : Job) (after : List Grid) → Means job after → length after ≡ length job.matrices
left_count job after means = changed_count job job.statements job.matrices after means
