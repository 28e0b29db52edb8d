-- Tasks in a row: what each block holds after each of them, whatever their order. A block whose solve hasn't run is its old block less what
-- its updates that ran contribute; a block whose solve ran meets with that sum the whole equation. Cited by each form of equation, with the
-- sum of its products. No two orders are compared, and no list is permuted.
use Rattle.std.proofs.Common.{◌≡◌, ◌≢◌, ℕ, zero, suc, Bool, true, false, if◌then◌else◌, ◌+◌, ◌*◌, ◌/◌, ◌<◌, ◌≤◌, ◌⊎◌, inl, inr, refl, sym, ◌∙◌, ap, arith}
use Rattle.std.proofs.lemmas.Bool.{cases_Bool, cases_eq, cases_lt, false≢true}
use Rattle.residue_sums.specs.Residues.{Cong}
use Rattle.residue_sums.specs.Tables.{Table}
use Rattle.residue_sums.proofs.Congruence.{Cong-refl, Cong-by, Cong-add, Cong-sym, Cong-from_same}
use Rattle.task_sums.specs.SharedSums.{Tasks, WeightedSum, IsShared}
use Rattle.task_sums.specs.TaskRuns.{IsRun, IsSolvedAt, EachRan}
use Rattle.task_sums.proofs.Shares.{shared-none, shared-zero, shared-weights}

module _ (m b : ℕ) (tasks : Tasks) (inside : ℕ → ℕ → Type 0) (S : WeightedSum tasks) (shared : IsShared b tasks inside S)
    (n : ℕ) (task : ℕ → tasks.Task) (did : ℕ → Bool) (w : ℕ → Table) where
  -- how often a task is among the first p steps that ran
  abbrev pub done : ℕ → tasks.Task → ℕ
  done zero u = 0
  done (suc p) u = if did p then done p u + tasks.is (task p) u else done p u

  done-idle : (p : ℕ) → did p ≡ false → (u : tasks.Task) → done (suc p) u ≡ done p u
  done-idle p e u = rw e refl

  done-ran : (p : ℕ) → did p ≡ true → (u : tasks.Task) → done (suc p) u ≡ done p u + tasks.is (task p) u
  done-ran p e u = rw e refl

  -- a task is not among them, or it is one of them
  pub done-or : (p : ℕ) (u : tasks.Task) → (done p u ≡ 0) ⊎ ((q : ℕ) × (q < p) × (did q ≡ true) × (task q ≡ u))
  done-or zero u = inl refl
  done-or (suc p) u = go (cases_Bool (did p)) (done-or p u) (tasks.is_or (task p) u)
    where
      go : (did p ≡ true) ⊎ (did p ≡ false) → (done p u ≡ 0) ⊎ ((q : ℕ) × (q < p) × (did q ≡ true) × (task q ≡ u)) → (tasks.is (task p) u ≡ 0) ⊎ (task p ≡ u)
          → (done (suc p) u ≡ 0) ⊎ ((q : ℕ) × (q < suc p) × (did q ≡ true) × (task q ≡ u))
      go d (inr h) i = inr (h.0, omega (arith, h.1), h.2, h.3)
      go (inr d) (inl h) i = inl (done-idle p d u ∙ h)
      go (inl d) (inl h) (inl i) = inl (done-ran p d u ∙ omega arith)
      go (inl d) (inl h) (inr i) = inr (p, omega arith, d, i)

  -- no step is this task
  done-none : (p : ℕ) (u : tasks.Task) → ((q : ℕ) → q < p → did q ≡ true → task q ≢ u) → done p u ≡ 0
  done-none p u none = elim (done-or p u) [ inl h ↦ h | inr h ↦ absurd (none h.0 h.1 h.2 h.3) ]

  -- just one is
  pub done-one : (p q : ℕ) (u : tasks.Task) → q < p → did q ≡ true → task q ≡ u → ((k : ℕ) → k < p → task k ≡ u → k ≡ q) → done p u ≡ 1
  done-one zero q u below d e once = absurd (omega arith)
  done-one (suc p) q u below d e once = elim (cases_eq p q) [
    | inl here ↦ (let none : done p u ≡ 0 = done-none p u (λ k h ran same. let f : k ≡ q = once k (omega arith) same in absurd (omega arith)) in
        let one : tasks.is (task p) u ≡ 1 = rw (here, e) (tasks.is_self u) in
        done-ran p (rw here d) u ∙ omega arith)
    | inr other ↦ (let before : done p u ≡ 1 = done-one p q u (omega arith) d e (λ k h same. once k (omega arith) same) in
        let none : tasks.is (task p) u ≡ 0 = elim (tasks.is_or (task p) u) [ inl z ↦ z | inr same ↦ absurd (other (once p (omega arith) same)) ] in
        elim (cases_Bool (did p)) [ inl ran ↦ done-ran p ran u ∙ omega arith | inr not ↦ done-idle p not u ∙ before ])
  ]

  -- what an entry holds after p steps
  pub record Holds (p r c : ℕ) : Type 0 where
    pub before : ((q : ℕ) → q < p → ¬ (IsSolvedAt m b tasks inside S n task did w q r c)) → Cong m (w p r c + S (done p) (w p) r c) (w 0 r c)
    pub after : (q : ℕ) → q < p → IsSolvedAt m b tasks inside S n task did w q r c → Cong m (S (done p) (w p) r c) (w 0 r c)

  module _ (run : IsRun m b tasks inside S n task did w) where
    -- a step leaves what is read by a step that ran before it
    unchanged : (p q : ℕ) → p < n → q < p → did p ≡ true → did q ≡ true → (r c : ℕ) → tasks.Reads (task q) (r / b) (c / b) → w (suc p) r c ≡ w p r c
    unchanged p q below before ran ran' r c read = go (cases_eq (tasks.row (task p)) (r / b)) (cases_eq (tasks.col (task p)) (c / b))
      where
        go : (tasks.row (task p) ≡ r / b) ⊎ (tasks.row (task p) ≢ r / b) → (tasks.col (task p) ≡ c / b) ⊎ (tasks.col (task p) ≢ c / b) → w (suc p) r c ≡ w p r c
        go (inr x) y = run.elsewhere p below r c (inl x)
        go (inl x) (inr y) = run.elsewhere p below r c (inr y)
        go (inl x) (inl y) = let late : p ≤ q = run.settled p q below (omega arith) ran ran' (rw (x, y) read) in absurd (omega arith)

    -- an update leaves what it reads itself
    update-unchanged : (p : ℕ) → p < n → ¬ (tasks.IsSolve (task p)) → (r c : ℕ) → tasks.Reads (task p) (r / b) (c / b) → w (suc p) r c ≡ w p r c
    update-unchanged p below update r c read = go (cases_eq (tasks.row (task p)) (r / b)) (cases_eq (tasks.col (task p)) (c / b))
      where
        go : (tasks.row (task p) ≡ r / b) ⊎ (tasks.row (task p) ≢ r / b) → (tasks.col (task p) ≡ c / b) ⊎ (tasks.col (task p) ≢ c / b) → w (suc p) r c ≡ w p r c
        go (inr x) y = run.elsewhere p below r c (inl x)
        go (inl x) (inr y) = run.elsewhere p below r c (inr y)
        go (inl x) (inl y) = absurd (run.update_own p below update (rw (x, y) read))

    -- no step that runs writes a block that was solved
    solved-settled : (p q r c : ℕ) → p < n → q < p → did p ≡ true → IsSolvedAt m b tasks inside S n task did w q r c → tasks.row (task p) ≡ r / b → tasks.col (task p) ≡ c / b → ⊥
    solved-settled p q r c below before ran at x y =
        let own : tasks.Reads (task q) (tasks.row (task q)) (tasks.col (task q)) = run.solve_own q (omega arith) at.solve in
        let there : tasks.Reads (task q) (tasks.row (task p)) (tasks.col (task p)) = rw (x ∙ sym at.row_is, y ∙ sym at.col_is) own in
        let late : p ≤ q = run.settled p q below (omega arith) ran at.ran there in
        omega arith

    -- the sums before and after a step that ran
    sum-ran : (p : ℕ) → p < n → did p ≡ true → (r c : ℕ) → inside r c
        → S (done (suc p)) (w (suc p)) r c ≡ S (done p) (w p) r c + S (tasks.is (task p)) (w (suc p)) r c
    sum-ran p below ran r c within =
        shared-weights b tasks inside S shared (done (suc p)) (λ u. done p u + tasks.is (task p) u) (w (suc p)) r c within (λ u h. done-ran p ran u)
        ∙ shared.add (done p) (tasks.is (task p)) (w (suc p)) r c
        ∙ ap (λ (x : ℕ). x + S (tasks.is (task p)) (w (suc p)) r c)
        (shared.same (done p) (done p) (w (suc p)) (w p) r c within (λ u h. (
          refl,
          elim (done-or p u) [
            | inl none ↦ inl none
            | inr some ↦ inr (λ a d read. sym (unchanged p some.0 below some.1 ran some.2 a d (rw (some.3) read)))
          ],
        )))

    sum-idle : (p : ℕ) → p < n → did p ≡ false → (r c : ℕ) → inside r c → S (done (suc p)) (w (suc p)) r c ≡ S (done p) (w p) r c
    sum-idle p below idle r c within =
        shared.same (done (suc p)) (done p) (w (suc p)) (w p) r c within (λ u h. (done-idle p idle u, inr (λ a d read. sym (run.idle p below idle a d))))

    -- the share of a step in another block
    share-apart : (p : ℕ) (r c : ℕ) → inside r c → (tasks.row (task p) ≢ r / b) ⊎ (tasks.col (task p) ≢ c / b) → (v : Table) → S (tasks.is (task p)) v r c ≡ 0
    share-apart p r c within apart v = shared-none b tasks inside S shared (tasks.is (task p)) v r c within (λ u h. elim (tasks.is_or (task p) u) [
      | inl z ↦ z
      | inr same ↦ absurd (elim apart [ inl x ↦ x (rw same h.1) | inr y ↦ y (rw same h.2) ])
    ])

    -- the share of an update, before and after it
    share-update : (p : ℕ) → p < n → ¬ (tasks.IsSolve (task p)) → (r c : ℕ) → inside r c → S (tasks.is (task p)) (w (suc p)) r c ≡ S (tasks.is (task p)) (w p) r c
    share-update p below update r c within = shared.same (tasks.is (task p)) (tasks.is (task p)) (w (suc p)) (w p) r c within (λ u h. (
      refl,
      elim (tasks.is_or (task p) u) [
        | inl z ↦ inl z
        | inr same ↦ inr (λ a d read. sym (update-unchanged p below update a d (rw same read)))
      ],
    ))

    holds-idle : (p : ℕ) → p < n → did p ≡ false → (r c : ℕ) → inside r c → Holds p r c → Holds (suc p) r c
    holds-idle p below idle r c within h = record {
      before = λ none. Cong-by (h.before (λ q e. none q (omega arith))) (omega (arith, run.idle p below idle r c, sum-idle p below idle r c within));
      after = λ q e at. elim (cases_eq q p) [
        | inl here ↦ absurd (false≢true (sym idle ∙ (rw (← here) at.ran)))
        | inr there ↦ Cong-by (h.after q (omega arith) at) (omega (arith, sum-idle p below idle r c within))
      ];
    }

    holds-elsewhere : (p : ℕ) → p < n → did p ≡ true → (r c : ℕ) → inside r c → (tasks.row (task p) ≢ r / b) ⊎ (tasks.col (task p) ≢ c / b) → Holds p r c → Holds (suc p) r c
    holds-elsewhere p below ran r c within apart h = record {
      before = λ none. Cong-by (h.before (λ q e. none q (omega arith)))
          (omega (arith, run.elsewhere p below r c apart, sum-ran p below ran r c within, share-apart p r c within apart (w (suc p))));
      after = λ q e at. elim (cases_eq q p) [
        | inl here ↦ absurd (elim apart [ inl x ↦ x (rw (← here) at.row_is) | inr y ↦ y (rw (← here) at.col_is) ])
        | inr there ↦ Cong-by (h.after q (omega arith) at) (omega (arith, sum-ran p below ran r c within, share-apart p r c within apart (w (suc p))))
      ];
    }

    holds-update : (p : ℕ) → p < n → did p ≡ true → ¬ (tasks.IsSolve (task p)) → (r c : ℕ) → inside r c → tasks.row (task p) ≡ r / b → tasks.col (task p) ≡ c / b → Holds p r c → Holds (suc p) r c
    holds-update p below ran update r c within x y h = record {
      before = λ none. Cong-by (Cong-add (h.before (λ q e. none q (omega arith))) (run.updated p below ran update r c within x y))
          (omega (arith, sum-ran p below ran r c within, share-update p below update r c within));
      after = λ q e at. elim (cases_eq q p) [
        | inl here ↦ absurd (update (rw (← here) at.solve))
        | inr there ↦ absurd (solved-settled p q r c below (omega arith) ran at x y)
      ];
    }

    holds-solve : (p : ℕ) → p < n → did p ≡ true → tasks.IsSolve (task p) → (r c : ℕ) → inside r c → tasks.row (task p) ≡ r / b → tasks.col (task p) ≡ c / b → Holds p r c → Holds (suc p) r c
    holds-solve p below ran solve r c within x y h = record {
      before = λ none. absurd (none p (omega arith) (record { ran = ran; solve = solve; row_is = x; col_is = y }));
      after = λ q e at. Cong-by (Cong-add (h.before (λ k e at. solved-settled p k r c below e ran at x y)) (run.solved p below ran solve r c within x y))
          (omega (arith, sum-ran p below ran r c within));
    }

    holds-step : (p : ℕ) → p < n → (r c : ℕ) → inside r c → Holds p r c → Holds (suc p) r c
    holds-step p below r c within h = go (cases_Bool (did p)) (cases_eq (tasks.row (task p)) (r / b)) (cases_eq (tasks.col (task p)) (c / b)) (run.decide p below)
      where
        go : (did p ≡ true) ⊎ (did p ≡ false) → (tasks.row (task p) ≡ r / b) ⊎ (tasks.row (task p) ≢ r / b) → (tasks.col (task p) ≡ c / b) ⊎ (tasks.col (task p) ≢ c / b)
            → tasks.IsSolve (task p) ⊎ ¬ (tasks.IsSolve (task p)) → Holds (suc p) r c
        go (inr idle) x y s = holds-idle p below idle r c within h
        go (inl ran) (inr x) y s = holds-elsewhere p below ran r c within (inl x) h
        go (inl ran) (inl x) (inr y) s = holds-elsewhere p below ran r c within (inr y) h
        go (inl ran) (inl x) (inl y) (inl s) = holds-solve p below ran s r c within x y h
        go (inl ran) (inl x) (inl y) (inr s) = holds-update p below ran s r c within x y h

    -- after each number of steps
    pub holds : (p : ℕ) → p ≤ n → (r c : ℕ) → inside r c → Holds p r c
    holds zero le r c within = record {
      before = λ none. Cong-from_same (omega (arith, shared-zero b tasks inside S shared (w 0) r c));
      after = λ q below at. absurd (omega arith);
    }
    holds (suc p) le r c within = holds-step p (omega arith) r c within (holds p (omega arith) r c within)

    -- where each task of the block of (r, c) ran once, a block that was solved meets the whole equation
    module _ (r c : ℕ) (within : inside r c) (each : EachRan m b tasks inside S n task did w r c) where
      all-done : S (done n) (w n) r c ≡ S (λ u. 1) (w n) r c
      all-done = shared-weights b tasks inside S shared (done n) (λ u. 1) (w n) r c within
          (λ u h. let e = each u h in done-one n e.0 u e.1 e.2 e.3 e.4)

      pub whole-solved : (q : ℕ) → q < n → IsSolvedAt m b tasks inside S n task did w q r c → Cong m (S (λ u. 1) (w n) r c) (w 0 r c)
      whole-solved q below at = Cong-by ((holds n (omega arith) r c within).after q below at) (omega (arith, all-done))

      -- and a block that has no solve is its old block less the whole sum
      pub whole-updated : ((q : ℕ) → q < n → ¬ (IsSolvedAt m b tasks inside S n task did w q r c)) → Cong m (w n r c + S (λ u. 1) (w n) r c) (w 0 r c)
      whole-updated none = Cong-by ((holds n (omega arith) r c within).before none) (omega (arith, all-done))
