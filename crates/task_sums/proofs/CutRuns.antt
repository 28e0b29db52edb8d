-- A run that is cut behind a step which meets a bad pivot: with other contents in its block that step is a solve, on some of the entries.
-- Cited by the forms that factor: on the entries up to the bad pivot the step would have been a solve.
use Rattle.std.proofs.Common.{◌≡◌, ◌≢◌, ℕ, zero, suc, ◌+◌, ◌/◌, ◌<◌, ◌≤◌, ◌⊎◌, inl, inr, Bool, true, false, if◌then◌else◌, refl, sym, ◌∙◌, ap, arith}
use Rattle.std.specs.Prelude.{◌==◌}
use Rattle.std.proofs.lemmas.Bool.{cases_eq, false≢true}
use Rattle.std.proofs.lemmas.Bool.Decides.{nat_tests}
use Rattle.residue_sums.specs.Residues.{Cong}
use Rattle.residue_sums.specs.Tables.{Table}
use Rattle.task_sums.specs.SharedSums.{Tasks, WeightedSum, IsShared}
use Rattle.task_sums.specs.TaskRuns.{IsRun, EachRan}
use Rattle.task_sums.proofs.Shares.{IsShared-within}
use Rattle.task_sums.proofs.Runs.{whole-solved}

module _ (m b : ℕ) (tasks : Tasks) (inside : ℕ → ℕ → Type 0) (S : WeightedSum tasks) (shared : IsShared b tasks inside S)
    (n : ℕ) (task : ℕ → tasks.Task) (did : ℕ → Bool) (w : ℕ → Table)
    (run : IsRun m b tasks inside S n task did w)
    -- the step is a solve whose block no step that ran before it reads
    (f : ℕ) (f_in : f < n) (solve : tasks.IsSolve (task f)) (unread : (p : ℕ) → p < f → did p ≡ true → ¬ (tasks.Reads (task p) (tasks.row (task f)) (tasks.col (task f))))
    -- on some of the entries these contents of its block are what the solve would have left
    (part : ℕ → ℕ → Type 0) (part_inside : (r c : ℕ) → part r c → inside r c)
    (last : Table) (last_elsewhere : (r c : ℕ) → (tasks.row (task f) ≢ r / b) ⊎ (tasks.col (task f) ≢ c / b) → last r c ≡ w f r c)
    (last_solved : (r c : ℕ) → part r c → tasks.row (task f) ≡ r / b → tasks.col (task f) ≡ c / b → Cong m (S (tasks.is (task f)) last r c) (w f r c)) where
  pub part_shared : IsShared b tasks part S
  part_shared = IsShared-within b tasks inside part S part_inside shared

  -- the step counts as one that ran
  pub cut_did : ℕ → Bool
  cut_did p = if p == f then true else did p

  pub cut_did-last : cut_did f ≡ true
  unfolding cut_did
  cut_did-last = let e : (f == f) ≡ true = grind (arith, nat_tests) in rw e refl

  pub cut_did-earlier : (p : ℕ) → p ≢ f → cut_did p ≡ did p
  unfolding cut_did
  cut_did-earlier p other = let e : (p == f) ≡ false = grind (arith, nat_tests) in rw e refl

  pub cut_tables : ℕ → Table
  cut_tables p = if p == suc f then last else w p

  pub cut_tables-last : cut_tables (suc f) ≡ last
  unfolding cut_tables
  cut_tables-last = let e : (suc f == suc f) ≡ true = grind (arith, nat_tests) in rw e refl

  pub cut_tables-earlier : (p : ℕ) → p ≤ f → cut_tables p ≡ w p
  unfolding cut_tables
  cut_tables-earlier p le = let e : (p == suc f) ≡ false = grind (arith, nat_tests) in rw e refl

  -- a step before it is as it was
  earlier-did : (p : ℕ) → p ≢ f → cut_did p ≡ true → did p ≡ true
  earlier-did p other ran = sym (cut_did-earlier p other) ∙ ran

  earlier-same : (p : ℕ) → p ≢ f → p < suc f → (r c : ℕ) → w (suc p) r c ≡ w p r c → cut_tables (suc p) r c ≡ cut_tables p r c
  earlier-same p other below r c e =
      ap (λ (t : Table). t r c) (cut_tables-earlier (suc p) (omega arith)) ∙ e ∙ sym (ap (λ (t : Table). t r c) (cut_tables-earlier p (omega arith)))

  pub IsRun-cut : IsRun m b tasks part S (suc f) task cut_did cut_tables
  IsRun-cut = record {
    settled = λ p q p_in q_in p_ran q_ran read. elim (cases_eq q f) [
      | inl here ↦ omega arith
      | inr other ↦ elim (cases_eq p f) [
        | inl last_one ↦ absurd (unread q (omega arith) (earlier-did q other q_ran) (rw last_one at read))
        | inr apart ↦ run.settled p q (omega arith) (omega arith) (earlier-did p apart p_ran) (earlier-did q other q_ran) read
      ]
    ];
    update_own = λ p p_in update. run.update_own p (omega arith) update;
    solve_own = λ p p_in solves. run.solve_own p (omega arith) solves;
    decide = λ p p_in. run.decide p (omega arith);
    idle = λ p p_in idle r c. elim (cases_eq p f) [
      | inl here ↦ absurd (false≢true (sym idle ∙ rw here cut_did-last))
      | inr other ↦ earlier-same p other p_in r c (run.idle p (omega arith) (sym (cut_did-earlier p other) ∙ idle) r c)
    ];
    elsewhere = λ p p_in r c apart. elim (cases_eq p f) [
      | inl here ↦ rw here (ap (λ (t : Table). t r c) cut_tables-last ∙ last_elsewhere r c (rw here at apart) ∙ sym (ap (λ (t : Table). t r c) (cut_tables-earlier f (omega arith))))
      | inr other ↦ earlier-same p other p_in r c (run.elsewhere p (omega arith) r c apart)
    ];
    updated = λ p p_in ran update r c within x y. elim (cases_eq p f) [
      | inl here ↦ absurd (update (rw here solve))
      | inr other ↦ rw (cut_tables-earlier (suc p) (omega arith), cut_tables-earlier p (omega arith))
          (run.updated p (omega arith) (earlier-did p other ran) update r c (part_inside r c within) x y)
    ];
    solved = λ p p_in ran solves r c within x y. elim (cases_eq p f) [
      | inl here ↦ rw here (rw (cut_tables-last, cut_tables-earlier f (omega arith)) (last_solved r c within (rw here at x) (rw here at y)))
      | inr other ↦ rw (cut_tables-earlier (suc p) (omega arith), cut_tables-earlier p (omega arith))
          (run.solved p (omega arith) (earlier-did p other ran) solves r c (part_inside r c within) x y)
    ];
  }

  -- where each task of its block is among the steps up to this one, a block that was solved meets the whole equation on these entries
  pub whole-cut : (r c : ℕ) → part r c
      → EachRan m b tasks part S (suc f) task cut_did cut_tables r c
      → (q : ℕ) → q < suc f → cut_did q ≡ true → tasks.IsSolve (task q) → tasks.row (task q) ≡ r / b → tasks.col (task q) ≡ c / b → Cong m (S (λ u. 1) last r c) (w 0 r c)
  whole-cut r c within each q q_in ran solves x y =
      let whole : Cong m (S (λ u. 1) (cut_tables (suc f)) r c) (cut_tables 0 r c)
      = whole-solved m b tasks part S part_shared (suc f) task cut_did cut_tables IsRun-cut r c within each q q_in
      (record { ran = ran; solve = solves; row_is = x; col_is = y }) in
      rw (cut_tables-last, cut_tables-earlier 0 (omega arith)) at whole
