-- Each block keeps the rows and columns that the job gives it. Cited by the law that says so.
use Rattle.std.proofs.Common.{◌≡◌, ℕ, zero, suc, ◌<◌, ◌≤◌, true, inl, inr, length, subst, sym, arith}
use Rattle.std.specs.Prelude.{◌==◌, ◌&&◌, nat_lt}
use Rattle.std.proofs.lemmas.Bool.{cases_Bool, and_parts, eqb-true}
use Rattle.residue_sums.specs.Grids.{Grid}
use Rattle.equation.specs.Jobs.{IsJob}
use Rattle.flash_blocks.specs.Flashes.{HasShape}
use Rattle.step_replays.specs.Accesses.{first_block}
use Rattle.step_replays.specs.Fits.{FitsJob}
use Rattle.step_replays.specs.Replays.{StepResult, Ran, Skipped, Failed, value_within, written, writes_before}
use Rattle.step_replays.proofs.JobReplays.{JobReplay, block_at, result_at, step_at, whole-front}
use Rattle.step_replays.proofs.ReplayBlocks.{IsLikeFirst, like}
use Rattle.step_replays.proofs.SomeReplay.{some-replay}
use Rattle.block_store.specs.declared.key.BoardKey.{BoardKey}
use Rattle.block_store.specs.Blocks.{KeepShapes}

module _ (replay : JobReplay) (x v : ℕ) where
  abbrev pub kept_at : ℕ → Grid
  kept_at s = value_within replay.job replay.b replay.steps replay.results s x v

  -- what a step leaves in the block that it writes is like the first one, whatever stood there
  like-left : (s : ℕ) → s < length replay.steps → (step_at replay s).access.write ≡ x → IsLikeFirst replay x (kept_at s) → IsLikeFirst replay x (written (result_at replay s) (kept_at s))
  like-left s below same h = go (result_at replay s) after
    where
      here : ((step_at replay s).access.write == x) ≡ true
      here = subst (λ y. ((step_at replay s).access.write == y) ≡ true) same (grind arith)

      after : IsLikeFirst replay x (written (result_at replay s) (block_at replay s x))
      after = rw here at (like replay (suc s) x (omega arith))

      go : (r : StepResult) → IsLikeFirst replay x (written r (block_at replay s x)) → IsLikeFirst replay x (written r (kept_at s))
      go (Ran value) g = g
      go Skipped g = h
      go (Failed place) g = h

  pub like-value : (s : ℕ) → s ≤ length replay.steps → IsLikeFirst replay x (kept_at s)
  like-value zero le = like replay zero x (omega arith)
  like-value (suc s) le = elim (cases_Bool ((step_at replay s).access.write == x && nat_lt (writes_before replay.job replay.b replay.steps replay.results s x) v)) [
    | inl writes ↦ rw writes (like-left s (omega arith) (eqb-true (step_at replay s).access.write x (and_parts _ _ writes).0) (like-value s (omega arith)))
    | inr other ↦ rw other (like-value s (omega arith))
  ]

pub keep-shapes : (key : BoardKey) → IsJob key.job.value → 1 ≤ key.b → FitsJob key.job.value key.b key.steps.value → KeepShapes key
keep-shapes key valid pos fits x v g is =
    let some = some-replay key.job.value key.b key.steps.value pos valid fits in
    let replay : JobReplay = record {
      job = key.job.value;
      b = key.b;
      steps = key.steps.value;
      results = some.0;
      pos = pos;
      valid = valid;
      fits = fits;
      done = length key.steps.value;
      outcomes = whole-front key.job.value key.b key.steps.value some.0 some.1;
    } in
    let h = like-value replay x v (length key.steps.value) (omega arith) in
    subst (λ (y : Grid). HasShape (first_block key.job.value key.b x).rows (first_block key.job.value key.b x).cols y) (sym (is some.0 some.1)) (record { rows = h.rows; cols = h.cols; full = h.full })
