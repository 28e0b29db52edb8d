-- Where the steps of each statement stand in a list that fits a job: one behind the other, `Pivots` first. Cited where the outcome of a
-- replay is what the job means.
use Rattle.std.proofs.Common.{◌≡◌, ◌≢◌, ℕ, zero, suc, ◌+◌, ◌-◌, ◌<◌, ◌≤◌, ◌⊎◌, inl, inr, Bool, true, false, List, length, refl, sym, ◌∙◌, ap, arith}
use Rattle.std.specs.Prelude.{IsTrue, ◌&&◌}
use Rattle.std.proofs.lemmas.Bool.{cases_lt, cases_eq, false≢true}
use Rattle.operation_spec.specs.declared.operation.Operation.{Operation}
use Rattle.operation_spec.specs.declared.task.Task.{Task}
use Rattle.task_graph.specs.Tasks.{has}
use Rattle.equation.specs.declared.job.Job.{Job}
use Rattle.step_replays.specs.declared.step.Step.{Step}
use Rattle.step_replays.specs.Accesses.{has_pivots, operation_of, statement_of}
use Rattle.step_replays.specs.Replays.{nth_step, pivots_task}
use Rattle.step_replays.specs.Fits.{counts_of, FitsJob, IsTaskOf, IsAt}
use Rattle.step_replays.proofs.ReplayRuns.{IsRange}
use Rattle.step_replays.proofs.JobReplays.{JobReplay, two, cuts, step_at, result_at, access_at, block_at, blocks_at, matrix_at, matrices_at, IsResultAt, IsStoppedAt, own_statement, own_operation, own_binding, own_counts}

-- the place between the steps of the first t statements and the others
pub record IsBoundary (steps : List Step) (t p : ℕ) : Type 0 where
  pub within : p ≤ length steps
  pub before : (q : ℕ) → q < p → (nth_step steps q).statement ≤ t
  pub behind : (q : ℕ) → p ≤ q → q < length steps → t < (nth_step steps q).statement

module _ (replay : JobReplay) where
  abbrev statement : ℕ → ℕ
  statement p = (step_at replay p).statement

  -- the search from the end
  search : (t k : ℕ) → k ≤ length replay.steps → ((q : ℕ) → k ≤ q → q < length replay.steps → t < statement q) → (p : ℕ) × IsBoundary replay.steps t p
  search t zero le above = (zero, record { within = le; before = λ q below. absurd (omega arith); behind = above })
  search t (suc k) le above = elim (cases_lt t (statement k)) [
    | inl more ↦ search t k (omega arith) (λ q from below. elim (cases_eq q k) [ inl here ↦ rw here more | inr other ↦ above q (omega arith) below ])
    | inr own ↦ (
      suc k,
      record {
        within = le;
        before = λ q below. elim (cases_eq q k) [
          | inl here ↦ rw here own
          | inr other ↦ (let sorted : statement q ≤ statement k = replay.fits.sorted q k (omega arith) (omega arith) in omega arith)
        ];
        behind = above;
      },
    )
  ]

  boundary : (t : ℕ) → (p : ℕ) × IsBoundary replay.steps t p
  boundary t = search t (length replay.steps) (omega arith) (λ q from below. absurd (omega arith))

  -- the number of steps of the first t statements
  pub steps_until : ℕ → ℕ
  steps_until t = (boundary t).0

  pub until-is : (t : ℕ) → IsBoundary replay.steps t (steps_until t)
  unfolding steps_until
  until-is t = (boundary t).1

  pub until-none : steps_until 0 ≡ 0
  until-none = elim (cases_lt 0 (steps_until 0)) [
    | inl some ↦ (let le = until-is 0 in let first = replay.fits.exists 0 (omega (arith, le.within)) in absurd (omega (arith, le.before 0 some, first.0.1)))
    | inr none ↦ omega arith
  ]

  pub until-all : steps_until (length replay.job.statements) ≡ length replay.steps
  until-all =
      let is = until-is (length replay.job.statements) in
      elim (cases_lt (steps_until (length replay.job.statements)) (length replay.steps)) [
        | inl more ↦ (let last = replay.fits.exists (steps_until (length replay.job.statements)) more in
            absurd (omega (arith, is.behind (steps_until (length replay.job.statements)) (omega arith) more, last.0.1, last.0.2)))
        | inr none ↦ omega (arith, is.within)
      ]

  pub until-more : (t : ℕ) → steps_until t ≤ steps_until (suc t)
  until-more t =
      let is = until-is t in let next = until-is (suc t) in
      elim (cases_lt (steps_until (suc t)) (steps_until t)) [
        | inl less ↦ absurd (omega (arith, is.before (steps_until (suc t)) less, next.behind (steps_until (suc t)) (omega arith) (omega (arith, is.within))))
        | inr le ↦ le
      ]

  -- ---- the steps of statement t + 1

  module _ (t : ℕ) (t_in : t < length replay.job.statements) where
    abbrev op : Operation
    op = own_operation replay t

    pub own-step : (p : ℕ) → steps_until t ≤ p → p < steps_until (suc t) → statement p ≡ suc t
    own-step p from below =
        let is = until-is t in let next = until-is (suc t) in
        let most : statement p ≤ suc t = next.before p below in
        let least : t < statement p = is.behind p from (omega (arith, next.within)) in
        omega arith

    pub own-place : (p : ℕ) → p < length replay.steps → statement p ≡ suc t → (steps_until t ≤ p) × (p < steps_until (suc t))
    own-place p below own =
        let is = until-is t in let next = until-is (suc t) in (
          elim (cases_lt p (steps_until t)) [ inl less ↦ absurd (omega (arith, is.before p less)) | inr le ↦ le ],
          elim (cases_lt p (steps_until (suc t))) [ inl less ↦ less | inr le ↦ absurd (omega (arith, next.behind p le below)) ],
        )

    -- the task of one of its steps
    own-task : (p : ℕ) → p < length replay.steps → statement p ≡ suc t → IsTaskOf op (own_counts replay t) (step_at replay p).task
    own-task p below own = rw own at (replay.fits.exists p below).1

    block-task : (u : Task) → IsTaskOf op (own_counts replay t) u → u ≢ pivots_task → has op (own_counts replay t) u ≡ true
    block-task u (inl pivots) other = absurd (other pivots.0)
    block-task u (inr block) other = block

    -- where the form has no Pivots, all are block tasks
    pub range-plain : has_pivots op ≡ false → IsRange replay.job replay.b replay.steps t (steps_until t) (steps_until (suc t) - steps_until t)
    range-plain none =
        let next = until-is (suc t) in
        record {
          within = omega (arith, next.within, until-more t);
          each = λ p below.
              let own : statement (steps_until t + p) ≡ suc t = own-step (steps_until t + p) (omega arith) (omega arith) in
              (own, plain (step_at replay (steps_until t + p)).task (own-task (steps_until t + p) (omega (arith, next.within)) own));
          all = λ q below own block. let place = own-place q below own in (q - steps_until t, omega (arith, place), omega (arith, place));
        }
      where
        plain : (u : Task) → IsTaskOf op (own_counts replay t) u → has op (own_counts replay t) u ≡ true
        plain u (inl pivots) = absurd (false≢true (sym none ∙ pivots.1))
        plain u (inr block) = block

    -- where it has Pivots, this is the first, and the others are block tasks
    module _ (some : has_pivots op ≡ true) where
      pivots-at : (p : ℕ) × IsAt replay.steps p (suc t) pivots_task
      pivots-at = replay.fits.all t pivots_task t_in (inl (refl, some))

      pivots-first : (steps_until t < steps_until (suc t)) × (pivots-at.0 ≡ steps_until t)
      pivots-first =
          let place = own-place pivots-at.0 pivots-at.1.0 pivots-at.1.1 in
          let next = until-is (suc t) in
          let first : pivots-at.0 ≤ steps_until t = replay.fits.pivots_first pivots-at.0 (steps_until t) (suc t) (step_at replay (steps_until t)).task pivots-at.1
          (omega (arith, place, next.within), own-step (steps_until t) (omega arith) (omega (arith, place)), refl) in
          (omega (arith, place), omega (arith, place))

      pub pivots-step : (steps_until t < steps_until (suc t)) × IsAt replay.steps (steps_until t) (suc t) pivots_task
      pivots-step = (pivots-first.0, rw pivots-first.1 at pivots-at.1)

      pub range-behind : IsRange replay.job replay.b replay.steps t (suc (steps_until t)) (steps_until (suc t) - suc (steps_until t))
      range-behind =
          let next = until-is (suc t) in
          record {
            within = omega (arith, next.within, pivots-step.0);
            each = λ p below.
                let own : statement (suc (steps_until t) + p) ≡ suc t = own-step (suc (steps_until t) + p) (omega arith) (omega arith) in
                let inside : suc (steps_until t) + p < length replay.steps = omega (arith, next.within) in (
                  own,
                  block-task (step_at replay (suc (steps_until t) + p)).task (own-task (suc (steps_until t) + p) inside own) (λ e.
                      let same : suc (steps_until t) + p ≡ steps_until t = replay.fits.once (suc (steps_until t) + p) (steps_until t) (suc t) pivots_task (inside, own, e) pivots-step.1 in omega arith),
                );
            all = λ q below own block.
                let place = own-place q below own in
                let other : q ≢ steps_until t = λ e. not-pivots (rw (e, pivots-step.1.2) at block) in
                (q - suc (steps_until t), omega (arith, place), omega (arith, place));
          }
        where
          and-false : (x : Bool) → (x && false) ≡ false
          and-false true = refl
          and-false false = refl

          not-pivots : has op (own_counts replay t) pivots_task ≡ true → ⊥
          not-pivots h = false≢true (sym (and-false _) ∙ h)
