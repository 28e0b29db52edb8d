-- Matrices of the same sizes: what fits ones fits the others.
use Rattle.std.proofs.Common.{◌≡◌, ℕ, ◌<◌, ◌⊎◌, inl, inr, List, length, get_or, set, sym, ap, ◌∙◌, arith, length-set, get_or-set_same, get_or-set_other}
use Rattle.std.proofs.lemmas.Bool.{cases_eq}
use Rattle.std.proofs.lemmas.List.{get_or-map}
use Rattle.residue_sums.specs.Grids.{Grid}
use Rattle.operation_spec.specs.declared.operation.Operation.{Operation}
use Rattle.operation_spec.specs.declared.operation.Binding.{Binding}
use Rattle.equation.specs.Jobs.{Fits, HasLengths, known_grids, nth_grid, no_grid}

-- matrices of the same sizes
pub record HaveSizes (grids others : List Grid) : Type 0 where
  pub count : length grids ≡ length others
  pub rows : (n : ℕ) → (nth_grid grids n).rows ≡ (nth_grid others n).rows
  pub cols : (n : ℕ) → (nth_grid grids n).cols ≡ (nth_grid others n).cols

-- matrices fit an operation where others of the same sizes do
module _ (op : Operation) (grids others : List Grid) (bind : Binding) (sizes : HaveSizes grids others) (fits : Fits op others bind) where
  known-is : (all : List Grid) (k : ℕ) → k < length bind.knowns → nth_grid (known_grids all bind) k ≡ nth_grid all (get_or bind.knowns k 0)
  known-is all k within = get_or-map (nth_grid all) bind.knowns k 0 no_grid within

  known-fits : (k : ℕ) → k < length op.knowns → HasLengths fits.lengths (get_or op.knowns k op.work) (nth_grid (known_grids grids bind) k)
  known-fits k known =
      let within : k < length bind.knowns = omega (arith, fits.count) in
      let has : HasLengths fits.lengths (get_or op.knowns k op.work) (nth_grid (known_grids others bind) k) = fits.knowns k known in
      let n : ℕ = get_or bind.knowns k 0 in
      record {
        rows = ap (λ (g : Grid). g.rows) (known-is grids k within) ∙ sizes.rows n ∙ ap (λ (g : Grid). g.rows) (sym (known-is others k within)) ∙ has.rows;
        cols = ap (λ (g : Grid). g.cols) (known-is grids k within) ∙ sizes.cols n ∙ ap (λ (g : Grid). g.cols) (sym (known-is others k within)) ∙ has.cols;
      }

  pub Fits-same_sizes : Fits op grids bind
  Fits-same_sizes = record {
    work_in = rw sizes.count fits.work_in;
    knowns_in = λ k d within. rw sizes.count (fits.knowns_in k d within);
    count = fits.count;
    lengths = fits.lengths;
    work = record { rows = sizes.rows bind.work ∙ fits.work.rows; cols = sizes.cols bind.work ∙ fits.work.cols };
    knowns = known-fits;
    apart = fits.apart;
  }

-- a matrix is replaced by one of its sizes
module _ (grids others : List Grid) (w : ℕ) (g : Grid) (within : w < length grids) (sizes : HaveSizes grids others) (rows : g.rows ≡ (nth_grid grids w).rows) (cols : g.cols ≡ (nth_grid grids w).cols) where
  replaced : (n : ℕ) → (nth_grid (set grids w g) n ≡ g) × (n ≡ w) ⊎ (nth_grid (set grids w g) n ≡ nth_grid grids n)
  replaced n = elim (cases_eq n w) [
    | inl same ↦ inl (rw same (get_or-set_same grids w g no_grid within), same)
    | inr other ↦ inr (get_or-set_other grids w n g no_grid other)
  ]

  pub HaveSizes-set : HaveSizes (set grids w g) others
  HaveSizes-set = record {
    count = length-set grids w g ∙ sizes.count;
    rows = λ n. elim (replaced n) [
      | inl h ↦ ap (λ (x : Grid). x.rows) h.0 ∙ rows ∙ ap (λ (k : ℕ). (nth_grid grids k).rows) (sym h.1) ∙ sizes.rows n
      | inr h ↦ ap (λ (x : Grid). x.rows) h ∙ sizes.rows n
    ];
    cols = λ n. elim (replaced n) [
      | inl h ↦ ap (λ (x : Grid). x.cols) h.0 ∙ cols ∙ ap (λ (k : ℕ). (nth_grid grids k).cols) (sym h.1) ∙ sizes.cols n
      | inr h ↦ ap (λ (x : Grid). x.cols) h ∙ sizes.cols n
    ];
  }
