-- The shapes of lists of blocks, one list behind the other. Cited by the loops that make them.
use Rattle.std.proofs.Common.{◌≡◌, ℕ, ◌+◌, ◌*◌, ◌/◌, ◌%◌, ◌<◌, ◌≤◌, List, [], ◌∷◌, ◌++◌, length, map, get_or, drop, append-nil, append_assoc, sym, ap, ap₂, ◌∙◌, arith}
use Rattle.std.specs.List.{flat_map, range_with_len}
use Rattle.std.proofs.lemmas.List.{drop_all, drop_more, length-map, map-append, get_or-map}
use Rattle.std.proofs.lemmas.List.FromFn.{map-range_with_len_more}
use Rattle.std.proofs.lemmas.Nat.{div_below}
use Rattle.std.proofs.lemmas.Option.{get_or_from_slice_get, slice_get_within}
use Rattle.std.proofs.Math.Nat.{mod-lt, pos_of_ne-zero}
use Rattle.std.specs.Prelude.{slice_get, Some}
use Rattle.residue_sums.specs.Grids.{Grid}
use Rattle.equation.specs.declared.job.Job.{Job}
use Rattle.equation.specs.Jobs.{no_grid}
use Rattle.step_replays.specs.Accesses.{first_block}
use Rattle.job_blocks.specs.BlockedJobs.{AreFirstBlocks, BlockedJob, block_total}
use Rattle.block_store.specs.declared.key.BoardKey.{BoardKey}
use Rattle.block_store.specs.Blocks.{block_count}
use Rattle.dispatcher.specs.declared.shared_run.Size.{Size}
use Rattle.dispatcher.specs.SharedRuns.{AreBlockSizes}
use Rattle.dispatcher.specs.BufferSizes.{size_of}

module _ {X : Type 0} (blocks : X → List Grid) (xs : List X) where
  -- the shapes of one more list
  pub shapes-more : (n : ℕ) (x : X) (before after : List Size) → n < length xs → x ≡ get_or xs n x → after ≡ before ++ map size_of (blocks x)
      → after ++ map size_of (flat_map blocks (drop (n + 1) xs)) ≡ before ++ map size_of (flat_map blocks (drop n xs))
  shapes-more n x before after below read e =
      let rest : List Grid = flat_map blocks (drop (n + 1) xs) in
      ap (λ (ys : List Size). ys ++ map size_of rest) e
      ∙ (append_assoc before (map size_of (blocks x)) (map size_of rest)
      ∙ (ap (λ (ys : List Size). before ++ ys) (sym (map-append size_of (blocks x) rest))
      ∙ ap (λ (all : List X). before ++ map size_of (flat_map blocks all)) (ap (λ (h : X). h ∷ drop (n + 1) xs) read ∙ sym (drop_more xs n x below))))

  -- and of none more
  pub shapes-all : (n : ℕ) (before all : List Size) → length xs ≤ n → all ++ map size_of (flat_map blocks (drop n xs)) ≡ before ++ map size_of (flat_map blocks xs)
      → all ≡ before ++ map size_of (flat_map blocks xs)
  shapes-all n before all past e =
      sym (append-nil all) ∙ (ap (λ (ys : List X). all ++ map size_of (flat_map blocks ys)) (sym (drop_all n xs past)) ∙ e)

-- the shape of one more block
pub shape-pushed : (F : ℕ → Size) (k : ℕ) (before some after : List Size) (x : Size) → after ≡ some ++ x ∷ [] → some ≡ before ++ map F (range_with_len 0 k) → x ≡ F k
    → after ≡ before ++ map F (range_with_len 0 (k + 1))
shape-pushed F k before some after x e so_far is =
    e ∙ (ap₂ (λ (ys : List Size) (y : Size). ys ++ y ∷ []) so_far is ∙ (append_assoc before (map F (range_with_len 0 k)) (F k ∷ [])
    ∙ ap (λ (ys : List Size). before ++ ys) (sym (map-range_with_len_more F 0 k k (omega arith)))))

-- row and column of blocks of the k-th block
pub in-rows : (k p q : ℕ) → k < p * q → (0 < q) × (k / q < p) × (k % q < q)
in-rows k p q below =
    let pos : 0 < q = pos_of_ne-zero (λ e. let none : p * q ≡ 0 = rw e (omega arith) in omega arith) in (pos, div_below k q p pos below, mod-lt k pos)

-- the shapes of all blocks of a job are those of the board's
pub are-sizes : (key : BoardKey) (x : BlockedJob) (blocks : List Grid) (sizes : List Size) → AreFirstBlocks x blocks → sizes ≡ map size_of blocks → key.job.value ≡ x.job → key.b ≡ x.b
    → AreBlockSizes key sizes
are-sizes key x blocks sizes first are job_is b_is = record {
  many = many ∙ (first.count ∙ sym counted);
  rows = λ n size at. ap (λ (s : Size). s.rows) (shape n size at) ∙ sym (ap (λ (g : Grid). g.rows) (own_first n));
  cols = λ n size at. ap (λ (s : Size). s.cols) (shape n size at) ∙ sym (ap (λ (g : Grid). g.cols) (own_first n));
}
  where
    many : length sizes ≡ length blocks
    many = ap (λ (ss : List Size). length ss) are ∙ length-map blocks size_of

    counted : block_count key ≡ block_total x
    counted = ap₂ (λ (j : Job) (b : ℕ). block_total (record { job = j; b = b })) job_is b_is

    own_first : (n : ℕ) → first_block key.job.value key.b n ≡ first_block x.job x.b n
    own_first n = ap₂ (λ (j : Job) (b : ℕ). first_block j b n) job_is b_is

    shape : (n : ℕ) (size : Size) → slice_get sizes n ≡ Some size → size ≡ size_of (first_block x.job x.b n)
    shape n size at =
        let within : n < length blocks = omega (arith, slice_get_within sizes n size at, many) in
        sym (get_or_from_slice_get sizes n size (size_of no_grid) at) ∙ (ap (λ (ss : List Size). get_or ss n (size_of no_grid)) are
        ∙ (get_or-map size_of blocks n no_grid (size_of no_grid) within ∙ ap size_of (first.each n (omega (arith, within, first.count)))))
