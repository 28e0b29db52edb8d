-- Blocks and pivot lists as a job gives them are full, and hold residues; and the pivot list of a statement has its number. Cited where the
-- steps keep that.
use Rattle.std.proofs.Common.{◌≡◌, ℕ, zero, suc, ◌+◌, ◌-◌, ◌*◌, ◌/◌, ◌%◌, ◌<◌, inl, inr, true, false, List, [], ◌∷◌, length, take, get_or, All, refl, arith}
use Rattle.std.specs.Prelude.{◌==◌, nat_lt}
use Rattle.std.proofs.lemmas.Bool.{cases_Bool}
use Rattle.std.proofs.lemmas.Bool.Decides.{nat_tests}
use Rattle.residue_sums.specs.Sums.{part_count, part_length}
use Rattle.residue_sums.specs.Grids.{Grid, IsFull, AreResidues, entry}
use Rattle.operation_spec.specs.declared.operation.Form.{Form}
use Rattle.operation_spec.specs.declared.operation.Form.TheVariants.{Assign, Left, Right, Sylvester, Lu, Ldl}
use Rattle.equation.specs.declared.job.Job.{Job}
use Rattle.equation.specs.declared.job.Statement.{Statement}
use Rattle.equation.specs.Jobs.{nth_grid, no_grid}
use Rattle.equation.proofs.AssignedGrids.{IsFull-grid_of, AreResidues-grid_of, HasResidues-entry}
use Rattle.flash_blocks.specs.Blocks.{block_of, grid_of}
use Rattle.step_replays.specs.Accesses.{blocks_in, numbered_block, numbered_list, zero_list_by, first_block, lists_of, has_pivots, operation_of, statement_of, pivot_number, no_statement}

-- a full grid of residues
pub record IsResidueGrid (m : ℕ) (g : Grid) : Type 0 where
  pub full : IsFull g
  pub residues : AreResidues m g

module _ (m : ℕ) (pos : 0 < m) where
  pub no_grid-residues : IsResidueGrid m no_grid
  no_grid-residues = record { full = refl; residues = λ k d below. absurd (omega (arith, below)) }

  block-residues : (b : ℕ) (g : Grid) (i j : ℕ) → AreResidues m g → IsResidueGrid m (block_of b g i j)
  block-residues b g i j residues = record {
    full = IsFull-grid_of (λ r c. entry g (i * b + r) (j * b + c)) (part_length g.rows b i) (part_length g.cols b j);
    residues = AreResidues-grid_of (λ r c. entry g (i * b + r) (j * b + c)) (part_length g.rows b i) (part_length g.cols b j) m
        (λ r c. HasResidues-entry m g pos residues (i * b + r) (j * b + c));
  }

  numbered-residues : (b : ℕ) (grids : List Grid) (x : ℕ) → All (AreResidues m) grids → IsResidueGrid m (numbered_block b grids x)
  numbered-residues b [] x all = no_grid-residues
  numbered-residues b (g ∷ grids) x all = elim (cases_Bool (nat_lt x (part_count g.rows b * part_count g.cols b))) [
    | inl here ↦ rw here (block-residues b g (x / part_count g.cols b) (x % part_count g.cols b) (all zero g (omega arith)))
    | inr later ↦ rw later (numbered-residues b grids (x - part_count g.rows b * part_count g.cols b) (λ k d below. all (suc k) d (omega arith)))
  ]

  zeros-residues : (rows cols : ℕ) → IsResidueGrid m (grid_of (λ r c. 0) rows cols)
  zeros-residues rows cols = record { full = IsFull-grid_of (λ r c. 0) rows cols; residues = AreResidues-grid_of (λ r c. 0) rows cols m (λ r c. pos) }

  zero_list-residues : (form : Form) (work : Grid) → IsResidueGrid m (zero_list_by form work)
  zero_list-residues (Left t) work = zeros-residues 1 work.rows
  zero_list-residues (Right u) work = zeros-residues 1 work.cols
  zero_list-residues (Sylvester t u negative) work = zeros-residues work.rows work.cols
  zero_list-residues Assign work = no_grid-residues
  zero_list-residues Lu work = no_grid-residues
  zero_list-residues Ldl work = no_grid-residues

  list-residues : (job : Job) (statements : List Statement) (x : ℕ) → IsResidueGrid m (numbered_list job statements x)
  list-residues job [] x = no_grid-residues
  list-residues job (s ∷ statements) x = elim (cases_Bool (has_pivots (operation_of job s))) [
    | inr none ↦ rw none (list-residues job statements x)
    | inl some ↦ elim (cases_Bool (x == 0)) [
      | inl here ↦ rw (some, here) (zero_list-residues (operation_of job s).form (nth_grid job.matrices s.bind.work))
      | inr later ↦ rw (some, later) (list-residues job statements (x - 1))
    ]
  ]

  -- any block or list, by its number
  pub first-residues : (job : Job) (b x : ℕ) → All (AreResidues m) job.matrices → IsResidueGrid m (first_block job b x)
  first-residues job b x all = elim (cases_Bool (nat_lt x (blocks_in b job.matrices))) [
    | inl block ↦ rw block (numbered-residues b job.matrices x all)
    | inr list ↦ rw list (list-residues job job.statements (x - blocks_in b job.matrices))
  ]

-- ---- the list of a statement

numbered-list : (job : Job) (statements : List Statement) (t : ℕ) → t < length statements → has_pivots (operation_of job (get_or statements t no_statement)) ≡ true
    → numbered_list job statements (lists_of job (take t statements))
    ≡ zero_list_by (operation_of job (get_or statements t no_statement)).form (nth_grid job.matrices (get_or statements t no_statement).bind.work)
numbered-list job [] t below some = absurd (omega arith)
numbered-list job (s ∷ statements) zero below some = rw some refl
numbered-list job (s ∷ statements) (suc t) below some =
    let n : ℕ = lists_of job (take t statements) in
    elim (cases_Bool (has_pivots (operation_of job s))) [
      | inl here ↦ (let other : (1 + n == 0) ≡ false = grind (arith, nat_tests) in let rest : 1 + n - 1 ≡ n = omega arith in
          rw here (rw (other, rest) (numbered-list job statements t (omega arith) some)))
      | inr none ↦ (let rest : 0 + n ≡ n = omega arith in rw none (rw rest (numbered-list job statements t (omega arith) some)))
    ]

-- statement t + 1 has it
pub first-list : (job : Job) (b t : ℕ) → t < length job.statements → has_pivots (operation_of job (statement_of job (suc t))) ≡ true
    → first_block job b (pivot_number job b (suc t)) ≡ zero_list_by (operation_of job (statement_of job (suc t))).form (nth_grid job.matrices (statement_of job (suc t)).bind.work)
first-list job b t below some =
    let before : suc t - 1 ≡ t = omega arith in
    let n : ℕ = lists_of job (take t job.statements) in
    let past : nat_lt (blocks_in b job.matrices + n) (blocks_in b job.matrices) ≡ false = grind (arith, nat_tests) in
    let rest : blocks_in b job.matrices + n - blocks_in b job.matrices ≡ n = omega arith in
    rw before (rw (past, rest) (numbered-list job job.statements t below (rw before at some)))
