-- The list of all blocks has under each number the block with that number, and each number is that of a block. Cited by the list's maker and
-- by the laws of numbers.
use Rattle.std.proofs.Common.{◌≡◌, ℕ, zero, suc, ◌+◌, ◌-◌, ◌*◌, ◌/◌, ◌%◌, ◌<◌, ◌≤◌, inl, inr, Bool, true, false, if◌then◌else◌, List, [], ◌∷◌, ◌++◌, length, map, get_or, refl, sym, ◌∙◌, ap, drop, replicate, append_assoc, arith, length-append}
use Rattle.std.specs.Prelude.{◌==◌, nat_lt}
use Rattle.std.specs.List.{flat_map, range_with_len}
use Rattle.std.proofs.Math.Nat.{mod-lt, pos_of_ne-zero}
use Rattle.std.proofs.lemmas.Nat.{div_below, div-add-mod'}
use Rattle.std.proofs.lemmas.Bool.{cases_Bool, ltb-true, ltb-false}
use Rattle.std.proofs.lemmas.Bool.Decides.{nat_tests}
use Rattle.std.proofs.lemmas.List.{drop_more, get_or_append_left, get_or-append_right, get_or-replicate, length-replicate}
use Rattle.std.proofs.lemmas.List.FromFn.{fill_by_all, get_or-map-range_with_len, length-map-range_with_len}
use Rattle.residue_sums.specs.Sums.{part_count}
use Rattle.residue_sums.specs.Grids.{Grid}
use Rattle.equation.specs.declared.job.Job.{Job}
use Rattle.equation.specs.declared.job.Statement.{Statement}
use Rattle.equation.specs.Jobs.{nth_grid, no_grid}
use Rattle.flash_blocks.specs.Blocks.{block_of, grid_of}
use Rattle.flash_blocks.specs.Flashes.{cut_of}
use Rattle.step_replays.specs.Accesses.{blocks_in, block_number, first_block, has_pivots, lists_of, numbered_block, numbered_list, operation_of, zero_list_by}
use Rattle.job_blocks.specs.BlockedJobs.{AreFirstBlocks, BlockedJob, HasBlock, block_total, number_at}
use Rattle.job_blocks.specs.Tables.{matrix_blocks, zero_list, zero_lists}
use Rattle.job_blocks.proofs.BlockCounts.{grid_blocks}

-- ---- a block for each number

-- row and column of blocks of the n-th block of a matrix
in_matrix : (b : ℕ) (g : Grid) (n : ℕ) → n < grid_blocks b g
    → (n / part_count g.cols b < part_count g.rows b) × (n % part_count g.cols b < part_count g.cols b) × (n / part_count g.cols b * part_count g.cols b + n % part_count g.cols b ≡ n)
in_matrix b g n below =
    let q : ℕ = part_count g.cols b in
    let pos : 0 < q = pos_of_ne-zero (λ e. let none : grid_blocks b g ≡ 0 = rw e (omega arith) in omega arith) in
    (div_below n q (part_count g.rows b) pos below, mod-lt n pos, div-add-mod' n q)

-- a block of one of these matrices has the number
pub record HasNumber (b : ℕ) (grids : List Grid) (n : ℕ) : Type 0 where
  pub matrix : ℕ
  pub row : ℕ
  pub col : ℕ
  pub matrix_in : matrix < length grids
  pub row_in : row < part_count (nth_grid grids matrix).rows b
  pub col_in : col < part_count (nth_grid grids matrix).cols b
  pub number : block_number b grids matrix row col ≡ n

some_block : (b : ℕ) (grids : List Grid) (n : ℕ) → n < blocks_in b grids → HasNumber b grids n
some_block b [] n below = absurd (omega arith)
some_block b (g ∷ grids) n below = elim (cases_Bool (nat_lt n (grid_blocks b g))) [
  | inl here ↦ (let place = in_matrix b g n (ltb-true n (grid_blocks b g) here) in
      record { matrix = 0; row = n / part_count g.cols b; col = n % part_count g.cols b; matrix_in = omega arith; row_in = place.0; col_in = place.1; number = omega (arith, place.2) })
  | inr behind ↦ (let le : grid_blocks b g ≤ n = ltb-false n (grid_blocks b g) behind in
      let rest : HasNumber b grids (n - grid_blocks b g) = some_block b grids (n - grid_blocks b g) (omega arith) in
      record {
        matrix = suc rest.matrix;
        row = rest.row;
        col = rest.col;
        matrix_in = omega (arith, rest.matrix_in);
        row_in = rest.row_in;
        col_in = rest.col_in;
        number = omega (arith, rest.number);
      })
]

pub block-with_number : (x : BlockedJob) (n : ℕ) → n < blocks_in x.b x.job.matrices → (k : ℕ) × (i : ℕ) × (j : ℕ) × HasBlock x k i j × (number_at x k i j ≡ n)
block-with_number x n below =
    let found = some_block x.b x.job.matrices n below in
    (found.matrix, found.row, found.col, record { matrix = found.matrix_in; row = found.row_in; col = found.col_in }, found.number)

-- ---- the list of all blocks

length-cut : (b : ℕ) (g : Grid) → length (cut_of b g).blocks ≡ grid_blocks b g
length-cut b g = length-map-range_with_len (λ k. block_of b g (k / part_count g.cols b) (k % part_count g.cols b)) 0 (grid_blocks b g)

length-matrix_blocks : (b : ℕ) (grids : List Grid) → length (matrix_blocks b grids) ≡ blocks_in b grids
length-matrix_blocks b [] = refl
length-matrix_blocks b (g ∷ grids) =
    omega (arith, length-append (cut_of b g).blocks (matrix_blocks b grids), length-cut b g, length-matrix_blocks b grids)

nth-matrix_blocks : (b : ℕ) (grids : List Grid) (n : ℕ) → n < blocks_in b grids → nth_grid (matrix_blocks b grids) n ≡ numbered_block b grids n
nth-matrix_blocks b [] n below = absurd (omega arith)
nth-matrix_blocks b (g ∷ grids) n below = elim (cases_Bool (nat_lt n (grid_blocks b g))) [
  | inl here ↦ (let own : n < grid_blocks b g = ltb-true n (grid_blocks b g) here in
      rw here (get_or_append_left (cut_of b g).blocks (matrix_blocks b grids) no_grid n (omega (arith, length-cut b g))
      ∙ get_or-map-range_with_len (λ k. block_of b g (k / part_count g.cols b) (k % part_count g.cols b)) 0 (grid_blocks b g) n n no_grid own (omega arith)))
  | inr behind ↦ (let le : grid_blocks b g ≤ n = ltb-false n (grid_blocks b g) behind in
      rw behind (get_or-append_right (cut_of b g).blocks (matrix_blocks b grids) (grid_blocks b g) n no_grid (length-cut b g) le
      ∙ nth-matrix_blocks b grids (n - grid_blocks b g) (omega arith)))
]

module _ (job : Job) where
  length-zero_lists : (statements : List Statement) → length (flat_map (zero_list job) statements) ≡ lists_of job statements
  length-zero_lists [] = refl
  length-zero_lists (s ∷ statements) = go (has_pivots (operation_of job s)) (length-zero_lists statements)
    where
      go : (pivots : Bool) → length (flat_map (zero_list job) statements) ≡ lists_of job statements
          → length ((if pivots then zero_list_by (operation_of job s).form (nth_grid job.matrices s.bind.work) ∷ [] else []) ++ flat_map (zero_list job) statements)
          ≡ (if pivots then 1 else 0) + lists_of job statements
      go true rest = omega (arith, rest)
      go false rest = omega (arith, rest)

  nth-zero_lists : (statements : List Statement) (n : ℕ) → n < lists_of job statements → nth_grid (flat_map (zero_list job) statements) n ≡ numbered_list job statements n
  nth-zero_lists [] n below = absurd (omega arith)
  nth-zero_lists (s ∷ statements) n below = go (has_pivots (operation_of job s)) n below (λ m less. nth-zero_lists statements m less)
    where
      list : Grid
      list = zero_list_by (operation_of job s).form (nth_grid job.matrices s.bind.work)

      go : (pivots : Bool) (n : ℕ) → n < (if pivots then 1 else 0) + lists_of job statements
          → ((m : ℕ) → m < lists_of job statements → nth_grid (flat_map (zero_list job) statements) m ≡ numbered_list job statements m)
          → nth_grid ((if pivots then list ∷ [] else []) ++ flat_map (zero_list job) statements) n
          ≡ (if pivots then (if n == 0 then list else numbered_list job statements (n - 1)) else numbered_list job statements n)
      go true zero less rest = refl
      go true (suc n) less rest =
          let number : suc n - 1 ≡ n = omega arith in
          let other : (suc n == 0) ≡ false = grind (arith, nat_tests) in
          rw (other, number) (rest n (omega (arith, less)))
      go false n less rest = rest n (omega (arith, less))

pub first_blocks-listed : (x : BlockedJob) (blocks : List Grid) → blocks ≡ matrix_blocks x.b x.job.matrices ++ zero_lists x.job → AreFirstBlocks x blocks
first_blocks-listed x blocks e = rw e (record { count = count; each = each })
  where
    own : List Grid
    own = matrix_blocks x.b x.job.matrices

    count : length (matrix_blocks x.b x.job.matrices ++ zero_lists x.job) ≡ block_total x
    count = length-append own (zero_lists x.job)
        ∙ ap (λ (n : ℕ). n + length (zero_lists x.job)) (length-matrix_blocks x.b x.job.matrices)
        ∙ ap (λ (n : ℕ). blocks_in x.b x.job.matrices + n) (length-zero_lists x.job x.job.statements)

    each : (n : ℕ) → n < block_total x → nth_grid (matrix_blocks x.b x.job.matrices ++ zero_lists x.job) n ≡ first_block x.job x.b n
    each n below = elim (cases_Bool (nat_lt n (blocks_in x.b x.job.matrices))) [
      | inl here ↦ (let less : n < blocks_in x.b x.job.matrices = ltb-true n (blocks_in x.b x.job.matrices) here in
          rw here (get_or_append_left own (zero_lists x.job) no_grid n (omega (arith, length-matrix_blocks x.b x.job.matrices)) ∙ nth-matrix_blocks x.b x.job.matrices n less))
      | inr behind ↦ (let le : blocks_in x.b x.job.matrices ≤ n = ltb-false n (blocks_in x.b x.job.matrices) behind in
          rw behind (get_or-append_right own (zero_lists x.job) (blocks_in x.b x.job.matrices) n no_grid (length-matrix_blocks x.b x.job.matrices) le
          ∙ nth-zero_lists x.job x.job.statements (n - blocks_in x.b x.job.matrices) (omega arith)))
    ]

-- ---- the steps of the loops that make it

pub blocks-more : (b : ℕ) (grids : List Grid) (n : ℕ) (g : Grid) (before own after : List Grid) → n < length grids → g ≡ get_or grids n g → own ≡ (cut_of b g).blocks
    → after ≡ before ++ own → after ++ matrix_blocks b (drop (n + 1) grids) ≡ before ++ matrix_blocks b (drop n grids)
blocks-more b grids n g before own after below read own_is e =
    ap (λ (xs : List Grid). xs ++ matrix_blocks b (drop (n + 1) grids)) (e ∙ ap (λ (ys : List Grid). before ++ ys) own_is)
    ∙ append_assoc before (cut_of b g).blocks (matrix_blocks b (drop (n + 1) grids))
    ∙ ap (λ (all : List Grid). before ++ matrix_blocks b all) (ap (λ (h : Grid). h ∷ drop (n + 1) grids) read ∙ sym (drop_more grids n g below))

pub lists-more : (job : Job) (n : ℕ) (s : Statement) (before after : List Grid) → n < length job.statements → s ≡ get_or job.statements n s
    → after ≡ before ++ zero_list job s
    → after ++ flat_map (zero_list job) (drop (n + 1) job.statements) ≡ before ++ flat_map (zero_list job) (drop n job.statements)
lists-more job n s before after below read e =
    ap (λ (xs : List Grid). xs ++ flat_map (zero_list job) (drop (n + 1) job.statements)) e
    ∙ append_assoc before (zero_list job s) (flat_map (zero_list job) (drop (n + 1) job.statements))
    ∙ ap (λ (all : List Statement). before ++ flat_map (zero_list job) all)
    (ap (λ (t : Statement). t ∷ drop (n + 1) job.statements) read ∙ sym (drop_more job.statements n s below))

-- a list of zeros is a grid of them
pub zeros-are : (rows cols : ℕ) (entries : List ℕ) → entries ≡ replicate (rows * cols) 0
    → record { rows = rows; cols = cols; entries = entries } ≡ grid_of (λ r c. 0) rows cols
zeros-are rows cols entries e =
    let filled : replicate (rows * cols) 0 ≡ map (λ (k : ℕ). 0) (range_with_len 0 (rows * cols)) =
    fill_by_all (λ (k : ℕ). 0) (replicate (rows * cols) 0) (rows * cols) 1 (length-replicate (rows * cols) 0) (λ k below. get_or-replicate (rows * cols) k 0 1 below) in
    ap (λ (xs : List ℕ). record { rows = rows; cols = cols; entries = xs }) (e ∙ filled)
