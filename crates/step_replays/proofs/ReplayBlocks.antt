-- What the blocks hold while the steps of a job are gone through: each step changes its block alone, and no block its sizes.
use Rattle.std.proofs.Common.{◌≡◌, ◌≢◌, ℕ, zero, suc, ◌+◌, ◌*◌, ◌<◌, ◌≤◌, ◌⊎◌, inl, inr, true, false, List, length, refl, sym, ◌∙◌, ap, subst, arith}
use Rattle.std.specs.Prelude.{◌==◌, nat_lt}
use Rattle.std.proofs.lemmas.Nat.{div-mul-add, mod-mul-add}
use Rattle.std.proofs.lemmas.Bool.{cases_Bool, cases_eq, cases_lt, and_parts, false≢true, lt-ltb}
use Rattle.std.proofs.lemmas.Bool.Decides.{nat_tests}
use Rattle.residue_sums.specs.Sums.{part_count, part_length}
use Rattle.residue_sums.specs.Tables.{Table}
use Rattle.residue_sums.specs.Grids.{Grid, IsFull, AreResidues, entry}
use Rattle.residue_sums.proofs.Grids.{same_from_HasEntries}
use Rattle.residue_sums.proofs.Parts.{index_below}
use Rattle.structure_rules.specs.declared.Structure.{Structure}
use Rattle.operation_spec.specs.declared.operation.Operation.{Operation}
use Rattle.operation_spec.specs.declared.operation.Binding.{Binding}
use Rattle.operation_spec.specs.declared.operation.Form.{Form}
use Rattle.operation_spec.specs.declared.operation.Form.TheVariants.{Assign, Left, Right, Sylvester, Lu, Ldl}
use Rattle.operation_spec.specs.declared.task.Kind.{Kind}
use Rattle.operation_spec.specs.declared.task.Kind.TheVariants as kinds
use Rattle.operation_spec.specs.declared.task.Task.{Task}
use Rattle.task_graph.specs.Tasks.{has, has_task, is_work_block}
use Rattle.task_graph.proofs.WorkBlocks.{work-block}
use Rattle.equation.specs.declared.job.Job.{Job}
use Rattle.equation.specs.declared.job.Statement.{Statement}
use Rattle.equation.specs.Jobs.{nth_grid, no_grid}
use Rattle.equation.proofs.AssignedGrids.{IsFull-grid_of, HasEntries-grid_of}
use Rattle.equation.specs.Kernels.{IsValue}
use Rattle.dependence_queue.specs.declared.access.Access.{Access}
use Rattle.flash_blocks.specs.Blocks.{Blocks, block_of, gathered, grid_of}
use Rattle.flash_blocks.specs.Flashes.{HasShape}
use Rattle.block_tasks.specs.Effects.{IsEffect, effect_by, pivots_effect}
use Rattle.block_tasks.proofs.EffectValues.{value-from_effect}
use Rattle.block_tasks.proofs.LeftSums.{work_block-zero}
use Rattle.step_replays.specs.Accesses.{blocks_in, block_number, first_block, pivot_number, write_of, work_number, operation_of, statement_of}
use Rattle.step_replays.specs.Replays.{StepResult, Ran, Skipped, Failed, written, known_blocks, IsStepValue, step_value_by}
use Rattle.step_replays.specs.Fits.{counts_of, IsTaskOf}
use Rattle.block_tasks.proofs.BlockViews.{block_entry}
use Rattle.step_replays.proofs.Numbers.{IsBlock, number-below, numbered-is}
use Rattle.step_replays.proofs.FirstShapes.{first-residues, no_grid-residues}
use Rattle.step_replays.proofs.JobReplays.{JobReplay, ran-done, two, cuts, step_at, result_at, block_at, blocks_at, IsResultAt, own_statement, own_operation, own_binding, own_counts}

-- cutting the matrix that has these blocks gives them back
pub cut-gathered : (b : ℕ) (blocks : Blocks) (rows cols i j : ℕ) → IsFull (blocks i j) → (blocks i j).rows ≡ part_length rows b i → (blocks i j).cols ≡ part_length cols b j
    → block_of b (grid_of (gathered b blocks) rows cols) i j ≡ blocks i j
cut-gathered b blocks rows cols i j full rows_are cols_are =
    same_from_HasEntries (block_of b (grid_of (gathered b blocks) rows cols) i j) (blocks i j) (entry (blocks i j)) (IsFull-grid_of (λ r c. entry (grid_of (gathered b blocks) rows cols) (i * b + r) (j * b + c)) (part_length rows b i) (part_length cols b j)) full (sym rows_are) (sym cols_are)
    (λ r c row col. block_entry b (grid_of (gathered b blocks) rows cols) i j r c row col
    ∙ HasEntries-grid_of (gathered b blocks) rows cols (i * b + r) (j * b + c) (index_below rows b i r row) (index_below cols b j c col)
    ∙ place r c (omega (arith, row)) (omega (arith, col)))
    (λ r c row col. refl)
  where
    place : (r c : ℕ) → r < b → c < b → gathered b blocks (i * b + r) (j * b + c) ≡ entry (blocks i j) r c
    place r c row col = rw (div-mul-add i b r row, div-mul-add j b c col, mod-mul-add i b r row, mod-mul-add j b c col) refl

-- a block task writes its block of the work matrix
pub write_of-block : (b : ℕ) (grids : List Grid) (bind : Binding) (x : ℕ) (kind : Kind) (i j : ℕ) → kind ≢ kinds.Pivots → write_of b grids bind x kind i j ≡ work_number b grids bind i j
write_of-block b grids bind x kinds.Pivots i j h = absurd (h refl)
write_of-block b grids bind x kinds.Term i j h = refl
write_of-block b grids bind x kinds.Left i j h = refl
write_of-block b grids bind x kinds.Right i j h = refl
write_of-block b grids bind x kinds.Solve i j h = refl

pub block-kind : (op : Operation) (counts : List ℕ) (u : Task) → has op counts u ≡ true → u.kind ≢ kinds.Pivots
block-kind op counts u h e =
    let p = and_parts (is_work_block op counts u.i u.j) (has_task op counts u.kind u.term u.i u.j u.k) h in
    false≢true (rw e at p.1)

-- the value of a block task is its effect
pub effect-of : (job : Job) (b : ℕ) (blocks : ℕ → Blocks) (s : Statement) (task : Task) (old new : Grid) → task.kind ≢ kinds.Pivots → IsStepValue job b blocks s task old new
    → IsEffect job.modulus (operation_of job s) (known_blocks blocks s.bind) (blocks s.bind.work) task new
effect-of job b blocks s task old new apart value = go task.kind apart value
  where
    go : (kind : Kind) → kind ≢ kinds.Pivots → step_value_by job b blocks s kind task old new
        → effect_by job.modulus (operation_of job s) (known_blocks blocks s.bind) (blocks s.bind.work) kind task.term task.i task.j task.k new
    go kinds.Pivots other h = absurd (other refl)
    go kinds.Term other h = h
    go kinds.Left other h = h
    go kinds.Right other h = h
    go kinds.Solve other h = h

module _ (replay : JobReplay) where
  abbrev at : ℕ → ℕ → Blocks
  at s k = blocks_at replay s k

  abbrev Is : ℕ → ℕ → ℕ → Type 0
  Is k i j = IsBlock replay.b replay.job.matrices k i j

  -- a block that exists, by its number
  pub block-by_number : (s k i j : ℕ) → IsBlock replay.b replay.job.matrices k i j → blocks_at replay s k i j ≡ block_at replay s (block_number replay.b replay.job.matrices k i j)
  block-by_number s k i j is =
      let row : nat_lt i (part_count (nth_grid replay.job.matrices k).rows replay.b) ≡ true = lt-ltb i (part_count (nth_grid replay.job.matrices k).rows replay.b) is.1 in
      let col : nat_lt j (part_count (nth_grid replay.job.matrices k).cols replay.b) ≡ true = lt-ltb j (part_count (nth_grid replay.job.matrices k).cols replay.b) is.2 in
      rw (row, col) refl

  -- step s is a block task of a statement, or its Pivots
  pub write-is : (s t : ℕ) → s < length replay.steps → (step_at replay s).statement ≡ suc t → t < length replay.job.statements → (step_at replay s).task.kind ≢ kinds.Pivots
      → (step_at replay s).access.write ≡ block_number replay.b replay.job.matrices (own_binding replay t).work (step_at replay s).task.i (step_at replay s).task.j
  write-is s t below e t_in apart =
      let f = replay.fits.exists s below in
      ap (λ (a : Access). a.write) f.2 ∙ rw e (write_of-block replay.b replay.job.matrices (own_binding replay t) (pivot_number replay.job replay.b (suc t)) (step_at replay s).task.kind (step_at replay s).task.i (step_at replay s).task.j apart)

  -- a task of the statement's operation has a block that exists
  pub task-block : (t : ℕ) (u : Task) → t < length replay.job.statements → has (own_operation replay t) (own_counts replay t) u ≡ true
      → IsBlock replay.b replay.job.matrices (own_binding replay t).work u.i u.j
  task-block t u t_in h =
      let op : Operation = own_operation replay t in
      let p = and_parts (is_work_block op (own_counts replay t) u.i u.j) (has_task op (own_counts replay t) u.kind u.term u.i u.j u.k) h in
      let q = work-block op (own_counts replay t) u.i u.j p.0 in
      let c = cuts replay t t_in in
      (c.work_in, rw c.rows at q.0, rw c.cols at q.1)

  -- a step changes no block but the one that it writes
  pub other-block : (s k i j : ℕ) → IsBlock replay.b replay.job.matrices k i j → (step_at replay s).access.write ≢ block_number replay.b replay.job.matrices k i j → blocks_at replay (suc s) k i j ≡ blocks_at replay s k i j
  other-block s k i j is apart =
      let e : ((step_at replay s).access.write == block_number replay.b replay.job.matrices k i j) ≡ false = grind (arith, nat_tests) in
      block-by_number (suc s) k i j is ∙ rw e (sym (block-by_number s k i j is))

  pub written-block : (s k i j : ℕ) → IsBlock replay.b replay.job.matrices k i j → (step_at replay s).access.write ≡ block_number replay.b replay.job.matrices k i j
      → blocks_at replay (suc s) k i j ≡ written (result_at replay s) (blocks_at replay s k i j)
  written-block s k i j is same =
      let e : ((step_at replay s).access.write == block_number replay.b replay.job.matrices k i j) ≡ true = grind (arith, nat_tests) in
      block-by_number (suc s) k i j is ∙ rw (e, block-by_number s k i j is) refl

  -- past the last row or column of blocks nothing is changed
  pub no-block : (s k i j : ℕ) → (part_count (nth_grid replay.job.matrices k).rows replay.b ≤ i) ⊎ (part_count (nth_grid replay.job.matrices k).cols replay.b ≤ j) → blocks_at replay s k i j ≡ no_grid
  no-block s k i j (inl row) = let e : nat_lt i (part_count (nth_grid replay.job.matrices k).rows replay.b) ≡ false = grind (arith, nat_tests) in rw e refl
  no-block s k i j (inr col) =
      let e : nat_lt j (part_count (nth_grid replay.job.matrices k).cols replay.b) ≡ false = grind (arith, nat_tests) in
      elim (cases_Bool (nat_lt i (part_count (nth_grid replay.job.matrices k).rows replay.b))) [ inl h ↦ rw (h, e) refl | inr h ↦ rw h refl ]

  -- what a block task that ran did
  pub ran-effect : (s t : ℕ) (v : Grid) → (step_at replay s).statement ≡ suc t → (step_at replay s).task.kind ≢ kinds.Pivots → result_at replay s ≡ Ran v
      → IsEffect replay.job.modulus (own_operation replay t) (known_blocks (blocks_at replay s) (own_binding replay t))
      (blocks_at replay s (own_binding replay t).work) (step_at replay s).task v
  ran-effect s t v e apart ran =
      let h : IsResultAt replay s (result_at replay s) = replay.outcomes.each s (ran-done replay s v ran) in
      let h' : IsResultAt replay s (Ran v) = subst (IsResultAt replay s) ran h in
      effect-of replay.job replay.b (blocks_at replay s) (own_statement replay t) (step_at replay s).task _ v apart (rw e at h'.2)

  -- ---- sizes

  -- what is written has the rows and columns of what was there, and residues
  record IsAlike (old new : Grid) : Type 0 where
    rows : new.rows ≡ old.rows
    cols : new.cols ≡ old.cols
    full : IsFull new
    residues : AreResidues replay.job.modulus new

  alike : (s : Structure) (left : Table → Table) (right : Table) (old new : Grid) → IsValue replay.job.modulus s left right old new → IsAlike old new
  alike s left right old new h = record { rows = h.rows; cols = h.cols; full = h.full; residues = h.residues }

  pivots-alike : (op : Operation) (knowns : ℕ → Blocks) (form : Form) (old new : Grid) → pivots_effect replay.job.modulus replay.b op knowns form old new → IsAlike old new
  pivots-alike op knowns (Left t) old new h = alike _ _ _ old new h
  pivots-alike op knowns (Right u) old new h = alike _ _ _ old new h
  pivots-alike op knowns (Sylvester t u negative) old new h = alike _ _ _ old new h
  pivots-alike op knowns Assign old new h = absurd h
  pivots-alike op knowns Lu old new h = absurd h
  pivots-alike op knowns Ldl old new h = absurd h

  ran-alike : (s : ℕ) (v : Grid) → s < length replay.steps → result_at replay s ≡ Ran v → IsAlike (block_at replay s (step_at replay s).access.write) v
  ran-alike s v below ran = let f = replay.fits.exists s below in go f.0.0 f.0.1 f.0.2 f.1
    where
      go : (t : ℕ) → (step_at replay s).statement ≡ suc t → t < length replay.job.statements
          → IsTaskOf (operation_of replay.job (statement_of replay.job (step_at replay s).statement)) (counts_of replay.job replay.b (step_at replay s).statement) (step_at replay s).task
          → IsAlike (block_at replay s (step_at replay s).access.write) v
      go t e t_in (inl pivots) =
          let h : IsResultAt replay s (Ran v) = subst (IsResultAt replay s) ran (replay.outcomes.each s (ran-done replay s v ran)) in
          pivots-alike (own_operation replay t) (known_blocks (blocks_at replay s) (own_binding replay t)) (own_operation replay t).form _ v (rw (e, pivots.0) at h.2)
      go t e t_in (inr has_it) =
          let op : Operation = own_operation replay t in
          let u : Task = (step_at replay s).task in
          let counts : List ℕ = own_counts replay t in
          let h : has op counts u ≡ true = rw e at has_it in
          let apart : u.kind ≢ kinds.Pivots = block-kind op counts u h in
          let work : Blocks = blocks_at replay s (own_binding replay t).work in
          let parts = and_parts (is_work_block op counts u.i u.j) (has_task op counts u.kind u.term u.i u.j u.k) h in
          let value = value-from_effect replay.job.modulus op (known_blocks (blocks_at replay s) (own_binding replay t)) work u.i u.j (work_block-zero op counts u.i u.j parts.0) v u.kind u.term u.k
          (cuts replay t t_in).suits (ran-effect s t v e apart ran) in
          let place : work u.i u.j ≡ block_at replay s (step_at replay s).access.write
          = block-by_number s (own_binding replay t).work u.i u.j (task-block t u t_in h) ∙ ap (λ (x : ℕ). block_at replay s x) (sym (write-is s t below e t_in apart)) in
          subst (λ (g : Grid). IsAlike g v) place (alike _ _ _ (work u.i u.j) v value)

  -- a grid of residues with the rows and columns that the job gives block x
  pub record IsLikeFirst (x : ℕ) (g : Grid) : Type 0 where
    pub rows : g.rows ≡ (first_block replay.job replay.b x).rows
    pub cols : g.cols ≡ (first_block replay.job replay.b x).cols
    pub full : IsFull g
    pub residues : AreResidues replay.job.modulus g

  like-first : (x : ℕ) → IsLikeFirst x (first_block replay.job replay.b x)
  like-first x = let h = first-residues replay.job.modulus (omega (arith, two replay)) replay.job replay.b x replay.valid.residues in
      record { rows = refl; cols = refl; full = h.full; residues = h.residues }

  like-written : (s x : ℕ) → s < length replay.steps → (step_at replay s).access.write ≡ x → IsLikeFirst x (block_at replay s x) → IsLikeFirst x (written (result_at replay s) (block_at replay s x))
  like-written s x below same h = go (result_at replay s) refl
    where
      go : (r : StepResult) → result_at replay s ≡ r → IsLikeFirst x (written r (block_at replay s x))
      go Skipped e = h
      go (Failed place) e = h
      go (Ran v) e =
          let a : IsAlike (block_at replay s x) v = subst (λ (y : ℕ). IsAlike (block_at replay s y) v) same (ran-alike s v below e) in
          record { rows = a.rows ∙ h.rows; cols = a.cols ∙ h.cols; full = a.full; residues = a.residues }

  -- at any step each block and each pivot list is such a grid
  pub like : (s x : ℕ) → s ≤ length replay.steps → IsLikeFirst x (block_at replay s x)
  like zero x le = like-first x
  like (suc s) x le = elim (cases_eq (step_at replay s).access.write x) [
    | inr apart ↦ (let e : ((step_at replay s).access.write == x) ≡ false = grind (arith, nat_tests) in rw e (like s x (omega arith)))
    | inl same ↦ (let e : ((step_at replay s).access.write == x) ≡ true = grind (arith, nat_tests) in rw e (like-written s x (omega arith) same (like s x (omega arith))))
  ]

  -- a block of a matrix has the shape of its parts
  pub shape : (s k i j : ℕ) → s ≤ length replay.steps → IsBlock replay.b replay.job.matrices k i j
      → HasShape (part_length (nth_grid replay.job.matrices k).rows replay.b i) (part_length (nth_grid replay.job.matrices k).cols replay.b j) (blocks_at replay s k i j)
  shape s k i j le is =
      let x : ℕ = block_number replay.b replay.job.matrices k i j in
      let inside : nat_lt x (blocks_in replay.b replay.job.matrices) ≡ true = lt-ltb x (blocks_in replay.b replay.job.matrices) (number-below replay.b replay.job.matrices k i j is) in
      let first : first_block replay.job replay.b x ≡ block_of replay.b (nth_grid replay.job.matrices k) i j = rw inside (numbered-is replay.b replay.job.matrices k i j is) in
      let h = like s x le in
      rw (block-by_number s k i j is) (record { rows = h.rows ∙ ap (λ (g : Grid). g.rows) first; cols = h.cols ∙ ap (λ (g : Grid). g.cols) first; full = h.full })

  -- and holds residues, also where there is none
  pub residues-at : (s k i j : ℕ) → s ≤ length replay.steps → k < length replay.job.matrices → AreResidues replay.job.modulus (blocks_at replay s k i j)
  residues-at s k i j le k_in = elim (cases_lt i (part_count (nth_grid replay.job.matrices k).rows replay.b)) [
    | inr past ↦ rw (no-block s k i j (inl past)) none
    | inl row ↦ elim (cases_lt j (part_count (nth_grid replay.job.matrices k).cols replay.b)) [
      | inr past ↦ rw (no-block s k i j (inr past)) none
      | inl col ↦ rw (block-by_number s k i j (k_in, row, col)) (like s (block_number replay.b replay.job.matrices k i j) le).residues
    ]
  ]
    where
      none : AreResidues replay.job.modulus no_grid
      none = (no_grid-residues replay.job.modulus (omega (arith, two replay))).residues
