-- Tasks that are done one after another on a table, of which some are left out.
use Rattle.std.specs.Prelude.{◌≡◌, ◌≢◌, ◌⊎◌, ℕ, suc, ◌+◌, ◌/◌, ◌<◌, ◌≤◌, Bool, true, false}
use Rattle.residue_sums.specs.Residues.{Cong}
use Rattle.residue_sums.specs.Tables.{Table}
use Rattle.task_sums.specs.SharedSums.{Tasks, WeightedSum, IsOfBlock}

-- modulo m, with blocks of b rows and columns, and a sum of products; task p is the p-th of n, it ran where `did` says so, and w p is the
-- table before it
module _ (m b : ℕ) (tasks : Tasks) (inside : ℕ → ℕ → Type 0) (S : WeightedSum tasks) (n : ℕ) (task : ℕ → tasks.Task) (did : ℕ → Bool) (w : ℕ → Table) where
  pub record IsRun : Type 0 where
    -- what a task that ran reads, no task that ran changes from then on
    pub settled : (p q : ℕ) → p < n → q < n → did p ≡ true → did q ≡ true → tasks.Reads (task q) (tasks.row (task p)) (tasks.col (task p)) → p ≤ q
    -- an update doesn't read its own block, a solve does
    pub update_own : (p : ℕ) → p < n → ¬ (tasks.IsSolve (task p)) → ¬ (tasks.Reads (task p) (tasks.row (task p)) (tasks.col (task p)))
    pub solve_own : (p : ℕ) → p < n → tasks.IsSolve (task p) → tasks.Reads (task p) (tasks.row (task p)) (tasks.col (task p))
    pub decide : (p : ℕ) → p < n → tasks.IsSolve (task p) ⊎ ¬ (tasks.IsSolve (task p))
    -- a task changes its own block alone, and nothing where it didn't run
    pub idle : (p : ℕ) → p < n → did p ≡ false → (r c : ℕ) → w (suc p) r c ≡ w p r c
    pub elsewhere : (p : ℕ) → p < n → (r c : ℕ) → (tasks.row (task p) ≢ r / b) ⊎ (tasks.col (task p) ≢ c / b) → w (suc p) r c ≡ w p r c
    -- an update subtracts its share, a solve makes its share what the block was
    pub updated : (p : ℕ) → p < n → did p ≡ true → ¬ (tasks.IsSolve (task p)) → (r c : ℕ) → inside r c
        → tasks.row (task p) ≡ r / b → tasks.col (task p) ≡ c / b → Cong m (w (suc p) r c + S (tasks.is (task p)) (w p) r c) (w p r c)
    pub solved : (p : ℕ) → p < n → did p ≡ true → tasks.IsSolve (task p) → (r c : ℕ) → inside r c
        → tasks.row (task p) ≡ r / b → tasks.col (task p) ≡ c / b → Cong m (S (tasks.is (task p)) (w (suc p)) r c) (w p r c)

  -- task q ran and solved the block of (r, c)
  pub record IsSolvedAt (q r c : ℕ) : Type 0 where
    pub ran : did q ≡ true
    pub solve : tasks.IsSolve (task q)
    pub row_is : tasks.row (task q) ≡ r / b
    pub col_is : tasks.col (task q) ≡ c / b

  -- each task of the block of (r, c) ran, and stands once among the n
  abbrev pub EachRan : ℕ → ℕ → Type 0
  EachRan r c = (u : tasks.Task) → IsOfBlock b tasks u r c
      → (q : ℕ) × (q < n) × (did q ≡ true) × (task q ≡ u) × ((k : ℕ) → k < n → task k ≡ u → k ≡ q)
