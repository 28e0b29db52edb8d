-- Steps of reading the blocks of matrices as they stand after statements. Cited by their reader.
use Rattle.std.proofs.Common.{◌≡◌, ◌≢◌, ℕ, ◌+◌, ◌<◌, ◌≤◌, List, [], ◌∷◌, ◌++◌, length, drop, get_or, Option, Result, Ok, Err, refl, sym, ap, subst, ◌∙◌, arith, inl, inr}
use Rattle.std.proofs.lemmas.Bool.{cases_lt}
use Rattle.std.proofs.lemmas.List.{at_drop_all, at_drop_more, get_or_default}
use Rattle.std.proofs.lemmas.List.Elements.{All-nil}
use Rattle.residue_sums.specs.Grids.{Grid}
use Rattle.byte_texts.specs.Reading.{◌>>=◌, EndsWith}
use Rattle.byte_texts.proofs.Binding.{EndsWith-along, EndsWith-bind}
use Rattle.text_scan.specs.Faults.{Fault, ◌on◌}
use Rattle.text_scan.specs.FaultKinds.{Syntax}
use Rattle.text_scan.specs.Lines.{Line}
use Rattle.equation.specs.declared.job.Job.{Job}
use Rattle.equation.specs.declared.job.Statement.{Statement}
use Rattle.job_text.specs.AfterBlocks.{HasShortSizes, HaveShortSizes, work_grid, work_name}
use Rattle.job_text.specs.AfterFaults.{after_at, block_at, blocks_at}
use Rattle.job_text.specs.JobFaults.{nothing_at}

-- ---- no bytes are left

pub nothing_due : (end : ℕ) (job : Job) → job.statements ≡ [] → after_at end job [] ≡ Ok []
unfolding after_at blocks_at nothing_at
nothing_due end job none = rw none refl

blocks_due : (end : ℕ) (job : Job) (statements : List Statement) → statements ≢ [] → blocks_at end job [] statements [] ≡ Err (Syntax on end)
unfolding blocks_at block_at
blocks_due end job [] some = absurd (some refl)
blocks_due end job (s ∷ statements) some = refl

pub still_due : (end : ℕ) (job : Job) → job.statements ≢ [] → after_at end job [] ≡ Err (Syntax on end)
unfolding after_at
still_due end job some = rw (blocks_due end job job.statements some) refl

-- no work matrix is long
pub no_sizes : (job : Job) → job.statements ≡ [] → HaveShortSizes job job.statements
no_sizes job none = subst (HaveShortSizes job) (sym none) (All-nil (λ s. HasShortSizes (work_grid job s)))

-- ---- block after block

module _ (end : ℕ) (job : Job) (found : List Grid) (statements : List Statement) (i : ℕ) (lines : List Line) (all : Result (List Grid × List Line) Fault)
    (so_far : blocks_at end job found (drop i statements) lines ≡ all) where
  abbrev block : Statement → Result (Grid × List Line) Fault
  block s = block_at end job.modulus (work_name job s) (work_grid job s) lines

  next : (d : Statement) → i < length statements → all ≡ (block (get_or statements i d) >>= λ read. blocks_at end job (found ++ read.0 ∷ []) (drop (i + 1) statements) read.1)
  unfolding blocks_at
  next d inside = sym so_far ∙ at_drop_more (λ (ss : List Statement). blocks_at end job found ss lines) statements i d inside

  pub block_found : (s : Statement) (g : Grid) (behind : List Line) → i < length statements → s ≡ get_or statements i s → block s ≡ Ok (g, behind) → blocks_at end job (found ++ g ∷ []) (drop (i + 1) statements) behind ≡ all
  block_found s g behind inside is read =
      let here : block (get_or statements i s) ≡ Ok (g, behind) = ap block (sym is) ∙ read in
      sym (next s inside ∙ ap (λ (r : Result (Grid × List Line) Fault). r >>= λ read. blocks_at end job (found ++ read.0 ∷ []) (drop (i + 1) statements) read.1) here)

  pub block_refused : (s : Statement) (fault : Option Fault) → i < length statements → s ≡ get_or statements i s → EndsWith fault (block s) → EndsWith fault all
  block_refused s fault inside is ends = EndsWith-along fault all _ (next s inside) (EndsWith-bind fault (block (get_or statements i s)) _ (subst (λ (t : Statement). EndsWith fault (block t)) is ends))

  pub blocks_end : length statements ≤ i → all ≡ Ok (found, lines)
  unfolding blocks_at
  blocks_end past = sym so_far ∙ at_drop_all (λ (ss : List Statement). blocks_at end job found ss lines) statements i past

-- ---- the sizes of the work matrices so far

pub one_size_more : (job : Job) (statements : List Statement) (i : ℕ) (s : Statement) → i < length statements → s ≡ get_or statements i s → HasShortSizes (work_grid job s)
    → ((k : ℕ) (d : Statement) → k < i → HasShortSizes (work_grid job (get_or statements k d))) → (k : ℕ) (d : Statement) → k < i + 1 → HasShortSizes (work_grid job (get_or statements k d))
one_size_more job statements i s inside is short before k d below = elim (cases_lt k i) [
  | inl lt ↦ before k d lt
  | inr ge ↦ let same : k ≡ i = omega arith in rw same (subst (λ (t : Statement). HasShortSizes (work_grid job t)) (is ∙ get_or_default statements i s d inside) short)
]
