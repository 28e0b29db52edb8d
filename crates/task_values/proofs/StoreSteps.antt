-- What is held after one more step: it ran, was skipped, or met a bad pivot.
use Rattle.std.proofs.Common.{◌≡◌, ◌≢◌, ℕ, suc, ◌<◌, ◌≤◌, inl, inr, true, false, List, [], ◌∷◌, ◌++◌, length, set, All, refl, sym, ◌∙◌, ap, subst, arith, get_or-set_same, get_or-set_other}
use Rattle.std.specs.Prelude.{◌==◌, Option, None, Some}
use Rattle.std.proofs.lemmas.Bool.{cases_eq, eq-eqb}
use Rattle.std.proofs.lemmas.Bool.Decides.{nat_tests}
use Rattle.std.proofs.lemmas.List.{length-set}
use Rattle.std.proofs.lemmas.List.Elements.{All-set}
use Rattle.residue_sums.specs.Grids.{Grid, AreResidues}
use Rattle.equation.specs.Jobs.{nth_grid, no_grid}
use Rattle.equation.specs.declared.job.Place.{Place}
use Rattle.step_replays.specs.declared.step.Step.{Step}
use Rattle.step_replays.specs.Replays.{StepResult, Ran, Skipped, Failed, IsFront, IsResult, IsStop, block_after, nth_access, nth_result, nth_step, written}
use Rattle.step_replays.proofs.FrontLaws.{front-next, block-kept}
use Rattle.job_blocks.specs.BlockedJobs.{block_total}
use Rattle.task_values.specs.declared.outcome.Failure.{Failure}
use Rattle.task_values.specs.declared.run.Run.{Run}
use Rattle.task_values.specs.declared.store.Store.{Store}
use Rattle.task_values.specs.Marks.{AreMarks, IsLost, all_marked}
use Rattle.task_values.specs.Progress.{IsFirstFailure, IsHeldAfter, IsNoted}
use Rattle.task_values.proofs.MarkLaws.{AreMarks-marked, AreMarks-ran, lost-before, result-before, result-last}

-- ---- the first failure

module _ (steps : List Step) (results : List StepResult) (x : StepResult) (n : ℕ) (count : length results ≡ n) where
  pub noted-kept : (f : Failure) → IsFirstFailure steps results n f → IsFirstFailure steps (results ++ x ∷ []) (suc n) f
  noted-kept f noted = record {
    step = noted.step;
    within = omega (arith, noted.within);
    failed = result-before results x n count noted.step noted.within ∙ noted.failed;
    of = noted.of;
    first = λ q place before failed.
        noted.first q place before (sym (result-before results x n count q (omega (arith, before, noted.within))) ∙ failed);
  }

  pub noted-more : (f : Option Failure) → ((place : Place) → x ≡ Failed place → ⊥) → IsNoted steps results n f → IsNoted steps (results ++ x ∷ []) (suc n) f
  noted-more None other noted = λ q place below failed. elim (cases_eq q n) [
    | inl same ↦ other place (sym (result-last results x n count) ∙ ap (nth_result (results ++ x ∷ [])) (sym same) ∙ failed)
    | inr apart ↦ (let before : q < n = omega arith in noted q place before (sym (result-before results x n count q before) ∙ failed))
  ]
  noted-more (Some f) other noted = noted-kept f noted

  -- where none failed before, it is the first
  pub noted-first : (place : Place) → x ≡ Failed place → IsNoted steps results n None
      → IsFirstFailure steps (results ++ x ∷ []) (suc n) (record { statement = (nth_step steps n).statement; row = place.row; col = place.col })
  noted-first place failed none = record {
    step = n;
    within = omega arith;
    failed = result-last results x n count ∙ failed;
    of = refl;
    first = λ q other before bad. none q other before (sym (result-before results x n count q before) ∙ bad);
  }

-- ---- the store

module _ (r : Run) (results : List StepResult) (n : ℕ) (s : Store) (held : IsHeldAfter r results n s) (within : n < length r.steps.now) (x : StepResult)
    (is : IsResult r.job.now r.b r.steps.now results n x)
    (write_in : (nth_access r.steps.now n).write < block_total (record { job = r.job.now; b = r.b }))
    (reads_in : All (λ y. y < block_total (record { job = r.job.now; b = r.b })) (nth_access r.steps.now n).reads) where
  abbrev more : List StepResult
  more = results ++ x ∷ []

  abbrev w : ℕ
  w = (nth_access r.steps.now n).write

  count : length results ≡ n
  count = held.front.count

  front : IsFront r.job.now r.b r.steps.now (results ++ x ∷ []) (suc n)
  front = front-next r.job.now r.b r.steps.now results x n held.front within is

  w_in : (nth_access r.steps.now n).write < length s.blocks.items
  w_in = omega (arith, write_in, held.count)

  -- a block that the step doesn't write is as it was
  other-block : (y : ℕ) → y ≢ w → block_after r.job.now r.b r.steps.now (results ++ x ∷ []) (suc n) y ≡ block_after r.job.now r.b r.steps.now results n y
  other-block y apart =
      let e : (w == y) ≡ false = grind (arith, nat_tests) in
      rw e (block-kept r.job.now r.b r.steps.now results x n y (omega (arith, count)))

  -- the one that it writes is what it leaves
  pub own-block : block_after r.job.now r.b r.steps.now (results ++ x ∷ []) (suc n) w ≡ written x (block_after r.job.now r.b r.steps.now results n w)
  own-block =
      rw (eq-eqb w w refl, result-last results x n count) (ap (written x) (block-kept r.job.now r.b r.steps.now results x n w (omega (arith, count))))

  kept-before : (y : ℕ) → (IsLost r.steps.now (results ++ x ∷ []) (suc n) y → ⊥) → IsLost r.steps.now results n y → ⊥
  kept-before y kept lost = kept (lost-before r.steps.now results x n (length s.blocks.items) s.marks.written.items s.marks.read.items held.marks count y lost)

  -- where it failed or was skipped, its block is lost
  lost-here : IsStop x → (y : ℕ) → (IsLost r.steps.now (results ++ x ∷ []) (suc n) y → ⊥) → y ≢ w
  lost-here stop y kept same = kept (n, omega arith, subst IsStop (sym (result-last results x n count)) stop, sym same)

  marked : IsStop x → AreMarks r.steps.now (results ++ x ∷ []) (suc n) (length s.blocks.items) (set s.marks.written.items w true) (all_marked (nth_access r.steps.now n).reads s.marks.read.items)
  marked stop = AreMarks-marked r.steps.now results x n (length s.blocks.items) s.marks.written.items s.marks.read.items held.marks count stop w_in
      (subst (λ (k : ℕ). All (λ y. y < k) (nth_access r.steps.now n).reads) (sym held.count) reads_in)

  -- it ran, and its block was replaced
  pub held-ran : (new e : Grid) (after : Store) → x ≡ Ran new → AreResidues r.job.now.modulus new → AreResidues r.job.now.modulus e → after.blocks.items ≡ set (set s.blocks.items w e) w new
      → after.marks.written.items ≡ s.marks.written.items → after.marks.read.items ≡ s.marks.read.items → r.b ≤ length after.room.items → after.failure ≡ s.failure
      → IsHeldAfter r (results ++ x ∷ []) (suc n) after
  held-ran new e after ran residues empty blocks_are written_are read_are room failure_is = record {
    front = front;
    count = ap length blocks_are ∙ same_length ∙ held.count;
    residues = rw blocks_are (All-set (AreResidues r.job.now.modulus) (set s.blocks.items w e) w new residues (All-set (AreResidues r.job.now.modulus) s.blocks.items w e empty held.residues));
    blocks = λ y below kept. rw blocks_are (block-at y (omega (arith, below, ap length blocks_are, same_length)) kept);
    marks = rw (written_are, read_are) (subst (λ (k : ℕ). AreMarks r.steps.now (results ++ x ∷ []) (suc n) k s.marks.written.items s.marks.read.items) (sym (ap length blocks_are ∙ same_length))
        (AreMarks-ran r.steps.now results x n (length s.blocks.items) s.marks.written.items s.marks.read.items held.marks count (λ stop. subst IsStop ran stop)));
    room = room;
    noted = rw failure_is (noted-more r.steps.now results x n count s.failure (λ place failed. absurd (ran-failed new place (sym ran ∙ failed))) held.noted);
  }
    where
      same_length : length (set (set s.blocks.items w e) w new) ≡ length s.blocks.items
      same_length = length-set (set s.blocks.items w e) w new ∙ length-set s.blocks.items w e

      ran-failed : (v : Grid) (place : Place) → Ran v ≡ Failed place → ⊥
      ran-failed v place same = cc

      block-at : (y : ℕ) → y < length s.blocks.items → (IsLost r.steps.now (results ++ x ∷ []) (suc n) y → ⊥)
          → nth_grid (set (set s.blocks.items w e) w new) y ≡ block_after r.job.now r.b r.steps.now (results ++ x ∷ []) (suc n) y
      block-at y below kept = elim (cases_eq y w) [
        | inl same ↦ rw same (get_or-set_same (set s.blocks.items w e) w new no_grid (omega (arith, w_in, length-set s.blocks.items w e))
            ∙ sym (own-block ∙ rw ran refl))
        | inr apart ↦ get_or-set_other (set s.blocks.items w e) w y new no_grid apart ∙ get_or-set_other s.blocks.items w y e no_grid apart
            ∙ held.blocks y below (kept-before y kept) ∙ sym (other-block y apart)
      ]

  -- it was skipped
  pub held-skipped : (after : Store) → x ≡ Skipped → after.blocks.items ≡ s.blocks.items
      → after.marks.written.items ≡ set s.marks.written.items w true → after.marks.read.items ≡ all_marked (nth_access r.steps.now n).reads s.marks.read.items
      → r.b ≤ length after.room.items → after.failure ≡ s.failure → IsHeldAfter r (results ++ x ∷ []) (suc n) after
  held-skipped after skipped blocks_are written_are read_are room failure_is =
      let stop : IsStop x = subst IsStop (sym skipped) tt in
      record {
        front = front;
        count = ap length blocks_are ∙ held.count;
        residues = rw blocks_are held.residues;
        blocks = λ y below kept. rw blocks_are (held.blocks y (omega (arith, below, ap length blocks_are)) (kept-before y kept) ∙ sym (other-block y (lost-here stop y kept)));
        marks = rw (blocks_are, written_are, read_are) (marked stop);
        room = room;
        noted = rw failure_is (noted-more r.steps.now results x n count s.failure (λ place failed. skipped-failed place (sym skipped ∙ failed)) held.noted);
      }
    where
      skipped-failed : (place : Place) → Skipped ≡ Failed place → ⊥
      skipped-failed place same = cc

  -- it met a bad pivot, and its block was dropped
  pub held-failed : (place : Place) (e : Grid) (after : Store) → x ≡ Failed place → AreResidues r.job.now.modulus e → after.blocks.items ≡ set s.blocks.items w e
      → after.marks.written.items ≡ set s.marks.written.items w true → after.marks.read.items ≡ all_marked (nth_access r.steps.now n).reads s.marks.read.items
      → r.b ≤ length after.room.items → IsNoted r.steps.now (results ++ x ∷ []) (suc n) after.failure → IsHeldAfter r (results ++ x ∷ []) (suc n) after
  held-failed place e after failed residues blocks_are written_are read_are room noted =
      let stop : IsStop x = subst IsStop (sym failed) tt in
      let same_length : length after.blocks.items ≡ length s.blocks.items = ap length blocks_are ∙ length-set s.blocks.items w e in
      record {
        front = front;
        count = same_length ∙ held.count;
        residues = rw blocks_are (All-set (AreResidues r.job.now.modulus) s.blocks.items w e residues held.residues);
        blocks = λ y below kept.
            let apart = lost-here stop y kept in
            rw blocks_are (get_or-set_other s.blocks.items w y e no_grid apart
            ∙ held.blocks y (omega (arith, below, same_length)) (kept-before y kept) ∙ sym (other-block y apart));
        marks = rw (written_are, read_are) (subst (λ (k : ℕ). AreMarks r.steps.now (results ++ x ∷ []) (suc n) k (set s.marks.written.items w true) (all_marked (nth_access r.steps.now n).reads s.marks.read.items))
            (sym same_length) (marked stop));
        room = room;
        noted = noted;
      }
