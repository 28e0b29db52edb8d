-- How many blocks matrices have, and how many pivot lists statements have. Cited by the tables, which hold these numbers.
use Rattle.std.proofs.Common.{◌≡◌, ℕ, zero, suc, ◌+◌, ◌-◌, ◌*◌, ◌<◌, ◌≤◌, Bool, true, false, if◌then◌else◌, List, [], ◌∷◌, length, take, get_or, arith}
use Rattle.std.proofs.Math.Nat.{mul-le-mul_left, mul-le-mul_right}
use Rattle.std.proofs.lemmas.Nat.{div_below, mul-add-lt}
use Rattle.residue_sums.specs.Sums.{part_count}
use Rattle.residue_sums.specs.Grids.{Grid}
use Rattle.equation.specs.declared.job.Job.{Job}
use Rattle.equation.specs.declared.job.Statement.{Statement}
use Rattle.equation.specs.Jobs.{entry_count, nth_grid}
use Rattle.step_replays.specs.Accesses.{blocks_in, has_pivots, lists_of, no_statement, operation_of}
use Rattle.job_blocks.specs.BlockedJobs.{BlockedJob, HasBlock, IsBlockedJob, block_total, number_at}

-- ---- blocks

-- a range has no more parts than places
part_count-le : (n b : ℕ) → 1 ≤ b → part_count n b ≤ n
part_count-le n b size =
    let grows : n * 1 ≤ n * b = mul-le-mul_left n size in
    let below : n + b - 1 < (n + 1) * b = omega (arith, grows) in
    let less : part_count n b < n + 1 = div_below (n + b - 1) b (n + 1) size below in omega arith

-- how many blocks a matrix has
abbrev pub grid_blocks : ℕ → Grid → ℕ
grid_blocks b g = part_count g.rows b * part_count g.cols b

grid_blocks-le : (b : ℕ) (g : Grid) → 1 ≤ b → grid_blocks b g ≤ g.rows * g.cols
grid_blocks-le b g size =
    let rows : part_count g.rows b * part_count g.cols b ≤ g.rows * part_count g.cols b =
    mul-le-mul_right {m = part_count g.rows b} {n = g.rows} (part_count g.cols b) (part_count-le g.rows b size) in
    let cols : g.rows * part_count g.cols b ≤ g.rows * g.cols = mul-le-mul_left g.rows (part_count-le g.cols b size) in
    omega (arith, rows, cols)

pub blocks_in-le : (b : ℕ) (grids : List Grid) → 1 ≤ b → blocks_in b grids ≤ entry_count grids
blocks_in-le b [] size = omega arith
blocks_in-le b (g ∷ grids) size = omega (arith, grid_blocks-le b g size, blocks_in-le b grids size)

-- one more matrix
blocks_in-suc : (b : ℕ) (grids : List Grid) (n : ℕ) → n < length grids → blocks_in b (take (suc n) grids) ≡ blocks_in b (take n grids) + grid_blocks b (nth_grid grids n)
blocks_in-suc b [] n below = absurd (omega arith)
blocks_in-suc b (g ∷ grids) zero below = omega arith
blocks_in-suc b (g ∷ grids) (suc n) below = omega (arith, blocks_in-suc b grids n (omega arith))

pub blocks_in-more : (b : ℕ) (grids : List Grid) (n : ℕ) → n < length grids → blocks_in b (take (n + 1) grids) ≡ blocks_in b (take n grids) + grid_blocks b (nth_grid grids n)
blocks_in-more b grids n below = let e : n + 1 ≡ suc n = omega arith in rw e (blocks_in-suc b grids n below)

-- the first matrices have no more blocks than all
pub blocks_in-take : (b : ℕ) (grids : List Grid) (n : ℕ) → blocks_in b (take n grids) ≤ blocks_in b grids
blocks_in-take b [] zero = omega arith
blocks_in-take b [] (suc n) = omega arith
blocks_in-take b (g ∷ grids) zero = omega arith
blocks_in-take b (g ∷ grids) (suc n) = omega (arith, blocks_in-take b grids n)

-- a block's number is below the number of the first block of the next matrix
pub number-before_next : (x : BlockedJob) (k i j : ℕ) → HasBlock x k i j → number_at x k i j < blocks_in x.b (take (k + 1) x.job.matrices)
number-before_next x k i j is =
    let g = nth_grid x.job.matrices k in
    omega (arith, mul-add-lt i (part_count g.cols x.b) j (part_count g.rows x.b) is.row is.col, blocks_in-more x.b x.job.matrices k is.matrix)

pub number-below : (x : BlockedJob) (k i j : ℕ) → HasBlock x k i j → number_at x k i j < blocks_in x.b x.job.matrices
number-below x k i j is = omega (arith, number-before_next x k i j is, blocks_in-take x.b x.job.matrices (k + 1))

-- ---- pivot lists

abbrev pub list_count : Job → Statement → ℕ
list_count job s = if has_pivots (operation_of job s) then 1 else 0

list_count-le : (job : Job) (s : Statement) → list_count job s ≤ 1
list_count-le job s = go (has_pivots (operation_of job s))
  where
    go : (pivots : Bool) → (if pivots then 1 else 0) ≤ 1
    go true = omega arith
    go false = omega arith

pub lists_of-le : (job : Job) (statements : List Statement) → lists_of job statements ≤ length statements
lists_of-le job [] = omega arith
lists_of-le job (s ∷ statements) = omega (arith, list_count-le job s, lists_of-le job statements)

lists_of-suc : (job : Job) (statements : List Statement) (n : ℕ) → n < length statements
    → lists_of job (take (suc n) statements) ≡ lists_of job (take n statements) + list_count job (get_or statements n no_statement)
lists_of-suc job [] n below = absurd (omega arith)
lists_of-suc job (s ∷ statements) zero below = omega arith
lists_of-suc job (s ∷ statements) (suc n) below = omega (arith, lists_of-suc job statements n (omega arith))

pub lists_of-more : (job : Job) (statements : List Statement) (n : ℕ) → n < length statements
    → lists_of job (take (n + 1) statements) ≡ lists_of job (take n statements) + list_count job (get_or statements n no_statement)
lists_of-more job statements n below = let e : n + 1 ≡ suc n = omega arith in rw e (lists_of-suc job statements n below)

pub lists_of-take : (job : Job) (statements : List Statement) (n : ℕ) → lists_of job (take n statements) ≤ lists_of job statements
lists_of-take job [] zero = omega arith
lists_of-take job [] (suc n) = omega arith
lists_of-take job (s ∷ statements) zero = omega arith
lists_of-take job (s ∷ statements) (suc n) = omega (arith, lists_of-take job statements n)

-- ---- limits

-- each block of a matrix holds an entry, and each statement has at most one list
pub block_total-few : (x : BlockedJob) → IsBlockedJob x → block_total x ≤ 16842752
block_total-few x is =
    omega (arith, blocks_in-le x.b x.job.matrices is.size, is.job.entries, lists_of-le x.job x.job.statements, is.job.few_statements)
