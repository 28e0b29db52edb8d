-- Tasks that each change one block of a table, and sums at an entry in which each product belongs to one task and counts with the weight of
-- that task. Cited by the induction over a run of tasks: what the tasks that ran contribute is the sum with weight 1 for each of them.
use Rattle.std.specs.Prelude.{◌≡◌, ◌⊎◌, ℕ, ◌+◌, ◌/◌, Bool, IsTrue}
use Rattle.residue_sums.specs.Tables.{Table}

-- tasks, with the block that each changes
pub record Tasks : Type 1 where
  pub Task : Type 0
  pub row : Task → ℕ
  pub col : Task → ℕ
  -- which there are, and which solve their block; the others are updates
  pub Exists : Task → Type 0
  pub IsSolve : Task → Type 0
  -- which blocks the products of a task depend on
  pub Reads : Task → ℕ → ℕ → Type 0
  -- 1 where two tasks are one, else 0
  pub is : Task → Task → ℕ
  pub is_self : (u : Task) → is u u ≡ 1
  pub is_or : (t u : Task) → (is t u ≡ 0) ⊎ (t ≡ u)

-- tasks that are numbers, by tests
pub record NumberedTasks : Type 0 where
  pub row : ℕ → ℕ
  pub col : ℕ → ℕ
  pub exists : ℕ → Bool
  pub is_solve : ℕ → Bool
  pub reads : ℕ → ℕ → ℕ → Bool
  pub is : ℕ → ℕ → ℕ
  pub is_self : (u : ℕ) → is u u ≡ 1
  pub is_or : (t u : ℕ) → (is t u ≡ 0) ⊎ (t ≡ u)

abbrev pub tasks_of_numbers : NumberedTasks → Tasks
tasks_of_numbers numbered = record {
  Task = ℕ;
  row = numbered.row;
  col = numbered.col;
  Exists = λ u. IsTrue (numbered.exists u);
  IsSolve = λ u. IsTrue (numbered.is_solve u);
  Reads = λ u i j. IsTrue (numbered.reads u i j);
  is = numbered.is;
  is_self = numbered.is_self;
  is_or = numbered.is_or;
}

-- a sum at each entry, over a table and with a weight for each task
abbrev pub WeightedSum : Tasks → Type 0
WeightedSum tasks = (tasks.Task → ℕ) → Table → ℕ → ℕ → ℕ

-- blocks have b rows and b columns
module _ (b : ℕ) (tasks : Tasks) where
  -- the tables agree on the blocks that u depends on
  abbrev pub AgreeFor : tasks.Task → Table → Table → Type 0
  AgreeFor u w w' = (r c : ℕ) → tasks.Reads u (r / b) (c / b) → w' r c ≡ w r c

  -- the task exists and changes the block of (r, c)
  abbrev pub IsOfBlock : tasks.Task → ℕ → ℕ → Type 0
  IsOfBlock u r c = tasks.Exists u × (tasks.row u ≡ r / b) × (tasks.col u ≡ c / b)

  -- a sum that is additive in the weights and, at the entries inside, depends on the tasks of the entry's block alone, and on what those
  -- with a weight read
  pub record IsShared (inside : ℕ → ℕ → Type 0) (S : WeightedSum tasks) : Type 0 where
    pub add : (f g : tasks.Task → ℕ) (w : Table) (r c : ℕ) → S (λ u. f u + g u) w r c ≡ S f w r c + S g w r c
    pub same : (f g : tasks.Task → ℕ) (w w' : Table) (r c : ℕ) → inside r c
        → ((u : tasks.Task) → IsOfBlock u r c → (f u ≡ g u) × ((f u ≡ 0) ⊎ AgreeFor u w w')) → S f w r c ≡ S g w' r c
