-- Lists of small jobs, canonical and by variants, that were worked by hand.
use Rattle.std.proofs.Common.{◌≡◌, ℕ, List, [], ◌∷◌, length, refl}
use Rattle.residue_sums.specs.Grids.{Grid}
use Rattle.operation_spec.proofs.WorkedOperations.{low, lu}
use Rattle.operation_spec.specs.declared.operation.Operation.{Operation}
use Rattle.equation.specs.declared.job.Job.{Job}
use Rattle.equation.specs.declared.job.Statement.{Statement}
use Rattle.issue_list.specs.CanonicalSteps.{canonical_steps, statement_steps}
use Rattle.invariant_family.specs.Families.{family_of, variant_numbered}
use Rattle.issue_list.specs.IssuedSteps.{issued_statement_steps, issued_steps, tasks_by}
use Rattle.issue_list.specs.WorkedSteps.{backward_tasks, bordered_tasks, corner_tasks, nine_steps, paired_tasks, right_looking_tasks, steps_by_columns}

abbrev grid : ℕ → ℕ → List ℕ → Grid
grid rows cols entries = record { rows = rows; cols = cols; entries = entries }

abbrev statement : ℕ → ℕ → List ℕ → Statement
statement operation work knowns = record { operation = operation; bind = record { work = work; knowns = knowns } }

abbrev job_of : List Operation → List Grid → List Statement → Job
job_of operations grids statements = record {
  modulus = 101;
  operations = operations;
  names = [];
  matrices = grids;
  statements = statements;
  prints = [];
}

-- A of two by two blocks is factored; then T * X = W is solved, where T has four blocks and W two. A has the blocks 0 to 3, T 4 to 7, W 8 and 9,
-- and the pivot list is 10
abbrev pub two_statements : Job
two_statements = job_of (lu ∷ low ∷ []) (grid 2 2 (2 ∷ 1 ∷ 4 ∷ 5 ∷ []) ∷ grid 2 2 (2 ∷ 0 ∷ 1 ∷ 3 ∷ []) ∷ grid 2 1 (4 ∷ 5 ∷ []) ∷ [])
    (statement 0 0 [] ∷ statement 1 2 (1 ∷ []) ∷ [])

pub nine : canonical_steps two_statements 1 ≡ nine_steps
unfolding lu low canonical_steps statement_steps
nine = refl

-- an LU of three by three blocks
abbrev pub three_rows : Job
three_rows = job_of (lu ∷ []) (grid 3 3 (1 ∷ 0 ∷ 0 ∷ 0 ∷ 1 ∷ 0 ∷ 0 ∷ 0 ∷ 1 ∷ []) ∷ []) (statement 0 0 [] ∷ [])

pub fourteen : length (canonical_steps three_rows 1) ≡ 14
unfolding lu canonical_steps statement_steps
fourteen = refl

-- ---- by variants

pub by_columns : issued_steps two_statements 1 (3 ∷ 2 ∷ []) ≡ steps_by_columns
unfolding lu low issued_steps issued_statement_steps
by_columns = refl

pub bordered : tasks_by lu (3 ∷ []) (variant_numbered (family_of lu) 1) ≡ bordered_tasks
unfolding lu
bordered = refl

pub right_looking : tasks_by lu (3 ∷ []) (variant_numbered (family_of lu) 5) ≡ right_looking_tasks
unfolding lu
right_looking = refl

pub backward : tasks_by low (1 ∷ 3 ∷ []) (variant_numbered (family_of low) 4) ≡ backward_tasks
unfolding low
backward = refl

pub paired : tasks_by low (1 ∷ 3 ∷ []) (variant_numbered (family_of low) 5) ≡ paired_tasks
unfolding low
paired = refl

pub cornered : tasks_by low (2 ∷ 3 ∷ []) (variant_numbered (family_of low) 13) ≡ corner_tasks
unfolding low
cornered = refl
