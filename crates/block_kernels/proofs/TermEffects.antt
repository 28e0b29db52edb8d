-- A term's product of blocks, as the task of the term reads it.
use Rattle.std.proofs.Common.{◌≡◌, ℕ, zero, suc, ◌-◌, ◌<◌, ◌≤◌, true, false, List, [], ◌∷◌, length, get_or, Contains, refl, sym, ◌∙◌, ap, arith}
use Rattle.std.specs.Prelude.{◌&&◌, nat_lt}
use Rattle.std.proofs.lemmas.Bool.{and_parts, ltb-true, false≢true}
use Rattle.std.proofs.lemmas.List.{get_or_default}
use Rattle.residue_sums.specs.Sums.{part_count, part_length}
use Rattle.residue_sums.specs.Grids.{Grid, AreResidues}
use Rattle.operation_spec.specs.declared.operation.Operation.{Operation}
use Rattle.operation_spec.specs.declared.operation.Term.{Term}
use Rattle.operation_spec.specs.declared.task.Kind.TheVariants as kinds
use Rattle.task_graph.specs.Factors.{known}
use Rattle.task_graph.specs.Tasks.{has_product, has_term, has_numbered_term, is_inside, parts_of}
use Rattle.matrix_parts.specs.declared.oper.Oper.{Oper}
use Rattle.matrix_parts.specs.Opers.{op_cols, op_table}
use Rattle.equation.proofs.FactorSizes.{term_knowns}
use Rattle.equation.specs.Jobs.{nth_grid}
use Rattle.equation.specs.Kernels.{IsUpdated}
use Rattle.flash_blocks.specs.Blocks.{Blocks}
use Rattle.block_tasks.specs.Effects.{block_structure, factor_block, factor_block_cols, term_effect, numbered_term_effect, IsEffect}
use Rattle.block_kernels.specs.declared.block_task.BlockTask.{BlockTask}
use Rattle.block_kernels.specs.BlockOpers.{IsBlockOper}
use Rattle.block_kernels.specs.ReadGrids.{factor_grid, term_grids, numbered_term_grids}
use Rattle.block_kernels.specs.Ready.{IsReady, grids_of}
use Rattle.block_kernels.proofs.TaskBlocks.{IsRead, CanUpdate, can_update, updated-same, row_dim, col_dim, col_dim_in, term_dims, factor-is_read, factor-cols, parts_own, own_in, own_sizes, read_count}

-- ---- the term at a place of a list

-- what stands past the end of a list of terms
abbrev pub no_term : Term
no_term = record { minus = false; first = record { known = 0; primed = false }; second = record { known = 0; primed = false } }

term-below : (op : Operation) (counts : List ℕ) (terms : List Term) (q i j k : ℕ) → has_term op counts terms q i j k ≡ true → q < length terms
term-below op counts [] q i j k h = absurd (false≢true h)
term-below op counts (y ∷ terms) zero i j k h = omega arith
term-below op counts (y ∷ terms) (suc q) i j k h = omega (arith, term-below op counts terms q i j k h)

term-product : (op : Operation) (counts : List ℕ) (terms : List Term) (q : ℕ) (x : Term) (i j k : ℕ) → x ≡ get_or terms q x → has_term op counts terms q i j k ≡ true
    → has_product op counts x i j k ≡ true
term-product op counts [] q x i j k e h = absurd (false≢true h)
term-product op counts (y ∷ terms) zero x i j k e h = rw e h
term-product op counts (y ∷ terms) (suc q) x i j k e h = term-product op counts terms q x i j k e h

term-grids : (op : Operation) (knowns : ℕ → Blocks) (terms : List Term) (q : ℕ) (x : Term) (i j k : ℕ) → q < length terms → x ≡ get_or terms q x
    → term_grids op knowns terms q i j k ≡ factor_grid op knowns x.first i k ∷ factor_grid op knowns x.second k j ∷ []
term-grids op knowns [] q x i j k below e = absurd (omega arith)
term-grids op knowns (y ∷ terms) zero x i j k below e = rw e refl
term-grids op knowns (y ∷ terms) (suc q) x i j k below e = term-grids op knowns terms q x i j k (omega arith) e

term-effect : (m : ℕ) (op : Operation) (knowns : ℕ → Blocks) (work : Blocks) (terms : List Term) (q : ℕ) (x : Term) (i j k : ℕ) (new : Grid) → q < length terms → x ≡ get_or terms q x
    → IsUpdated m x.minus (block_structure op.work.structure i j) (factor_block_cols op knowns x.first i k) (factor_block op knowns x.first i k)
    (factor_block op knowns x.second k j) (work i j) new
    → term_effect m op knowns work terms q i j k new
term-effect m op knowns work [] q x i j k new below e is = absurd (omega arith)
term-effect m op knowns work (y ∷ terms) zero x i j k new below e is = rw e at is
term-effect m op knowns work (y ∷ terms) (suc q) x i j k new below e is = term-effect m op knowns work terms q x i j k new (omega arith) e is

-- as code reads it
pub read_term : (xs terms : List Term) (q : ℕ) (d : Term) → xs ≡ terms → q < length terms → get_or xs q d ≡ get_or terms q (get_or xs q d)
read_term xs terms q d same below = rw same (get_or_default terms q d (get_or terms q d) below)

-- ---- the task of a term

module _ (t : BlockTask) (knowns : ℕ → Blocks) (work : Blocks) (g : Grid) (ready : IsReady t knowns work g) (kind : t.task.kind ≡ kinds.Term) where
  has_it : has_numbered_term t.op.now ready.counts t.task.term t.task.i t.task.j t.task.k ≡ true
  has_it = rw kind at (parts_own t knowns work g ready).1

  -- its number is that of a term
  numbered : (1 ≤ t.task.term) × (has_term t.op.now ready.counts t.op.now.terms (t.task.term - 1) t.task.i t.task.j t.task.k ≡ true)
  numbered = go t.task.term has_it
    where
      go : (n : ℕ) → has_numbered_term t.op.now ready.counts n t.task.i t.task.j t.task.k ≡ true
          → (1 ≤ n) × (has_term t.op.now ready.counts t.op.now.terms (n - 1) t.task.i t.task.j t.task.k ≡ true)
      go zero h = absurd (false≢true h)
      go (suc q) h = let e : suc q - 1 ≡ q = omega arith in (omega arith, rw e h)

  pub term_from_one : 1 ≤ t.task.term
  term_from_one = numbered.0

  pub term_below : t.task.term - 1 < length t.op.now.terms
  term_below = term-below t.op.now ready.counts t.op.now.terms (t.task.term - 1) t.task.i t.task.j t.task.k numbered.1

  module _ (x : Term) (is : x ≡ get_or t.op.now.terms (t.task.term - 1) x) where
    among : Contains t.op.now.terms x
    among = (t.task.term - 1, term_below, sym is)

    pub term_known : (x.first.known < length t.op.now.knowns) × (x.second.known < length t.op.now.knowns)
    term_known = term_knowns t.op.now ready.has_knowns.valid x among

    abbrev pub term_reads : List Grid
    term_reads = factor_grid t.op.now knowns x.first t.task.i t.task.k ∷ factor_grid t.op.now knowns x.second t.task.k t.task.j ∷ []

    pub reads_are : grids_of t ≡ term_reads
    reads_are = rw kind at ready.reads ∙ go t.task.term term_from_one term_below is
      where
        go : (n : ℕ) → 1 ≤ n → n - 1 < length t.op.now.terms → x ≡ get_or t.op.now.terms (n - 1) x → numbered_term_grids t.op.now knowns n t.task.i t.task.j t.task.k ≡ term_reads
        go zero one below e = absurd (omega arith)
        go (suc q) one below e =
            let p : suc q - 1 ≡ q = omega arith in
            term-grids t.op.now knowns t.op.now.terms q x t.task.i t.task.j t.task.k (rw p at below) (rw p at e)

    pub two_reads : length t.reads.now ≡ 2
    two_reads = read_count t knowns work g ready term_reads reads_are

    -- the inner part is one of the inner dimension
    inner_in : t.task.k < part_count (ready.lengths (col_dim t.op.now x.first)) t.b
    inner_in =
        let product = term-product t.op.now ready.counts t.op.now.terms (t.task.term - 1) x t.task.i t.task.j t.task.k is numbered.1 in
        let outer = and_parts (nat_lt t.task.k (parts_of ready.counts (col_dim t.op.now x.first)) && is_inside t.op.now x.first t.task.i t.task.k) (is_inside t.op.now x.second t.task.k t.task.j) product in
        let inner = and_parts (nat_lt t.task.k (parts_of ready.counts (col_dim t.op.now x.first))) (is_inside t.op.now x.first t.task.i t.task.k) outer.0 in
        rw (ready.counts_are (col_dim t.op.now x.first) (col_dim_in t.op.now ready.has_knowns.valid x.first term_known.0))
        at (ltb-true t.task.k (parts_of ready.counts (col_dim t.op.now x.first)) inner.0)

    module _ (a b : Oper) (is_a : IsBlockOper (known t.op.now x.first.known).structure x.first.primed t.task.i t.task.k (nth_grid (grids_of t) 0) a)
        (is_b : IsBlockOper (known t.op.now x.second.known).structure x.second.primed t.task.k t.task.j (nth_grid (grids_of t) 1) b)
        (residues_a : AreResidues t.m a.part) (residues_b : AreResidues t.m b.part) where
      dims : (row_dim t.op.now x.first ≡ t.op.now.work.rows) × (row_dim t.op.now x.second ≡ col_dim t.op.now x.first) × (col_dim t.op.now x.second ≡ t.op.now.work.cols)
      dims = term_dims t.op.now ready.has_knowns.valid x among

      abbrev inner : ℕ
      inner = part_length (ready.lengths (col_dim t.op.now x.first)) t.b t.task.k

      first_read : IsRead t.m g.rows inner (factor_block t.op.now knowns x.first t.task.i t.task.k) a
      first_read = rw (own_sizes t knowns work g ready).0
          (factor-is_read t.b t.m t.op.now ready.lengths knowns ready.has_knowns x.first term_known.0 t.task.i t.task.k t.op.now.work.rows (col_dim t.op.now x.first) dims.0 refl
          (own_in t knowns work g ready).0 inner_in (nth_grid (grids_of t) 0) a (ap (λ (gs : List Grid). nth_grid gs 0) reads_are) is_a residues_a)

      second_read : IsRead t.m inner g.cols (factor_block t.op.now knowns x.second t.task.k t.task.j) b
      second_read = rw (own_sizes t knowns work g ready).1
          (factor-is_read t.b t.m t.op.now ready.lengths knowns ready.has_knowns x.second term_known.1 t.task.k t.task.j (col_dim t.op.now x.first) t.op.now.work.cols dims.1 dims.2
          inner_in (own_in t knowns work g ready).1 (nth_grid (grids_of t) 1) b (ap (λ (gs : List Grid). nth_grid gs 1) reads_are) is_b residues_b)

      pub term_can : CanUpdate t.m g a b
      term_can = can_update t.m inner g _ _ a b first_read second_read

      inner_cols : op_cols a ≡ factor_block_cols t.op.now knowns x.first t.task.i t.task.k
      inner_cols = factor-cols t.b t.m t.op.now ready.lengths knowns ready.has_knowns x.first term_known.0 t.task.i t.task.k t.op.now.work.rows (col_dim t.op.now x.first) dims.0 refl
          (own_in t knowns work g ready).0 inner_in (nth_grid (grids_of t) 0) a (ap (λ (gs : List Grid). nth_grid gs 0) reads_are) is_a

      pub term_done : (inside : _) (new : Grid) → inside ≡ block_structure t.op.now.work.structure t.task.i t.task.j
          → IsUpdated t.m x.minus inside (op_cols a) (op_table a) (op_table b) g new → IsEffect t.m t.op.now knowns work t.task new
      term_done inside new inside_is updated = rw kind (go t.task.term term_from_one term_below is)
        where
          named : IsUpdated t.m x.minus (block_structure t.op.now.work.structure t.task.i t.task.j) (factor_block_cols t.op.now knowns x.first t.task.i t.task.k)
              (factor_block t.op.now knowns x.first t.task.i t.task.k) (factor_block t.op.now knowns x.second t.task.k t.task.j) (work t.task.i t.task.j) new
          named = updated-same t.m x.minus (block_structure t.op.now.work.structure t.task.i t.task.j) _ _ _ _ _ _ (work t.task.i t.task.j) new
              inner_cols first_read.table_is second_read.table_is (rw (inside_is, ready.block) at updated)

          go : (n : ℕ) → 1 ≤ n → n - 1 < length t.op.now.terms → x ≡ get_or t.op.now.terms (n - 1) x → numbered_term_effect t.m t.op.now knowns work n t.task.i t.task.j t.task.k new
          go zero one below e = absurd (omega arith)
          go (suc q) one below e =
              let p : suc q - 1 ≡ q = omega arith in
              term-effect t.m t.op.now knowns work t.op.now.terms q x t.task.i t.task.j t.task.k new (rw p at below) (rw p at e) named
