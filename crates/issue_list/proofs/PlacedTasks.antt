-- Tasks with the iterations of a loop that do them, and the cuts by which they were found. Cited by the functions that order the tasks of a
-- statement.
use Rattle.std.proofs.Common.{◌≡◌, ◌≢◌, ℕ, ◌+◌, ◌-◌, ◌<◌, ◌≤◌, inl, inr, Bool, true, false, cond, ◌&&◌, not, ◌==◌, List, [], ◌∷◌, ◌++◌, length, map, take, get_or, All, refl, sym, ap, ◌∙◌, subst, arith}
use Rattle.std.specs.List.{filter, range_with_len}
use Rattle.std.proofs.lemmas.Bool.{both_ways, cases_lt}
use Rattle.std.proofs.lemmas.Bool.Decides.{eqb_tells}
use Rattle.std.proofs.lemmas.List.{map-append, take_more}
use Rattle.std.proofs.lemmas.List.Elements.{All-head, All-tail, All-weaker}
use Rattle.std.proofs.lemmas.List.FromFn.{get_or-map-range_with_len, length-map-range_with_len}
use Rattle.operation_spec.specs.declared.operation.Operation.{Operation}
use Rattle.operation_spec.specs.declared.task.Task.{Task}
use Rattle.operation_spec.specs.ValidOperations.{IsValid}
use Rattle.task_graph.specs.declared.cut.Sides.{Sides}
use Rattle.task_graph.specs.Classes.{class_of}
use Rattle.task_graph.specs.Order.{tasks_of}
use Rattle.task_graph.specs.Tasks.{has}
use Rattle.invariant_family.specs.declared.variant.Variant.{Variant}
use Rattle.invariant_family.specs.Feasible.{holds}
use Rattle.issue_list.specs.declared.loop_order.Placed.{Placed}
use Rattle.issue_list.specs.IssuedSteps.{cut_after, is_done, is_next, iterations, tasks_in}
use Rattle.issue_list.specs.LoopOrder.{IsInFamily, IsPlaced, tasks_placed}
use Rattle.issue_list.proofs.IssuedTasks.{variant-found}
use Rattle.issue_list.proofs.LoopsDone.{IsVariant, done-all, done-later, done-none}

-- ---- the tasks of an iteration

-- what passes a test is at iteration t
pub tasks-by_test : (p : Task → Bool) (t : ℕ) (placed : List Placed) → All (λ x. p x.task ≡ (x.iteration == t)) placed
    → tasks_placed placed t ≡ filter p (map (λ x. x.task) placed)
tasks-by_test p t [] same = refl
tasks-by_test p t (x ∷ placed) same =
    rw (All-head (λ y. p y.task ≡ (y.iteration == t)) x placed same)
    (go (x.iteration == t) (filter (λ y. y.iteration == t) placed) (filter p (map (λ y. y.task) placed)) (tasks-by_test p t placed (All-tail (λ y. p y.task ≡ (y.iteration == t)) x placed same)))
  where
    go : (b : Bool) (fs : List Placed) (gs : List Task) → map (λ y. y.task) fs ≡ gs → map (λ y. y.task) (cond b (x ∷ fs) fs) ≡ cond b (x.task ∷ gs) gs
    go true fs gs e = ap (λ us. x.task ∷ us) e
    go false fs gs e = e

-- the test of a task that is undone up to n, and done behind it
pub test-at : (n t : ℕ) (undone done : Bool) → (t + 1 ≤ n → done ≡ false) → (n ≡ t → (undone ≡ false) × (done ≡ true)) → (n + 1 ≤ t → undone ≡ true)
    → (not undone && done) ≡ (n == t)
test-at n t undone done before at behind = elim (eqb_tells n t) [
  | inl p ↦ (let own = at p.1 in rw (own.0, own.1) (sym p.0))
  | inr p ↦ (elim (cases_lt t n) [
    | inl less ↦ (let none : done ≡ false = before (omega (arith, less)) in rw (none, p.0) (and-false (not undone)))
    | inr more ↦ (let all : undone ≡ true = behind (above more p.1) in rw (all, p.0) refl)
  ])
]
  where
    and-false : (b : Bool) → (b && false) ≡ false
    and-false true = refl
    and-false false = refl

    above : n ≤ t → n ≢ t → n + 1 ≤ t
    above more other = omega (arith, more, other)

module _ (op : Operation) (counts : List ℕ) (valid : IsValid op) (v : Variant) (is : IsInFamily op v) where
  family : IsVariant op v
  family = variant-found op is.0 v is.1

  -- a task is next in its iteration, and in no other
  next-placed : (t : ℕ) (x : Placed) → IsPlaced op counts v x → is_next op counts v t x.task ≡ (x.iteration == t)
  next-placed t x placed = test-at x.iteration t (is_done op counts v t x.task) (is_done op counts v (t + 1) x.task)
      (λ before. undone (is_done op counts v (t + 1) x.task) refl (λ kept. done-later op valid counts v family (t + 1) x.iteration x.task before placed.there kept))
      (λ same. (subst (λ n. is_done op counts v n x.task ≡ false) same placed.undone, subst (λ n. is_done op counts v (n + 1) x.task ≡ true) same placed.done))
      (λ behind. done-later op valid counts v family (x.iteration + 1) t x.task behind placed.there placed.done)
    where
      undone : (b : Bool) → is_done op counts v (t + 1) x.task ≡ b → (is_done op counts v (t + 1) x.task ≡ true → is_done op counts v x.iteration x.task ≡ true) → is_done op counts v (t + 1) x.task ≡ false
      undone true e later = absurd (both_ways (is_done op counts v x.iteration x.task) placed.undone (later e))
      undone false e later = e

  -- the tasks of each iteration, where all are placed
  pub tasks-placed : (placed : List Placed) → map (λ x. x.task) placed ≡ tasks_of op counts → All (IsPlaced op counts v) placed
      → (t : ℕ) → tasks_placed placed t ≡ tasks_in op counts v t
  tasks-placed placed all places t = tasks-by_test (is_next op counts v t) t placed
      (All-weaker (IsPlaced op counts v) (λ x. is_next op counts v t x.task ≡ (x.iteration == t)) (next-placed t) placed places)
      ∙ ap (filter (is_next op counts v t)) all

-- one task more
pub placed-more : (own : List Task) (i : ℕ) (d : Task) (x : Placed) (placed more : List Placed) → i < length own → map (λ y. y.task) placed ≡ take i own
    → x.task ≡ get_or own i d → more ≡ placed ++ x ∷ [] → map (λ y. y.task) more ≡ take (i + 1) own
placed-more own i d x placed more below so_far next is =
    ap (map (λ y. y.task)) is ∙ map-append (λ y. y.task) placed (x ∷ [])
    ∙ ap (λ (us : List Task). us ++ x.task ∷ []) so_far ∙ ap (λ (u : Task). take i own ++ u ∷ []) next ∙ sym (take_more own i d below)

-- ---- the cuts

module _ (op : Operation) (counts : List ℕ) (v : Variant) (kept : List Task) (whole : kept ≡ v.kept) (cuts : List (List Sides))
    (are : cuts ≡ map (cut_after op counts v.split v.dirs) (range_with_len 0 (iterations counts v.split + 1))) where
  length-cuts : length cuts ≡ iterations counts v.split + 1
  length-cuts = ap length are ∙ length-map-range_with_len (cut_after op counts v.split v.dirs) 0 (iterations counts v.split + 1)

  done-by : (t : ℕ) (u : Task) → t < length cuts → holds kept (class_of op (get_or cuts t []) u) ≡ is_done op counts v t u
  done-by t u below =
      let inside : t < iterations counts v.split + 1 = omega (arith, length-cuts) in
      let same : 0 + t ≡ t = omega arith in
      ap (λ (s : List Task). holds s (class_of op (get_or cuts t []) u)) whole
      ∙ ap (λ (c : List Sides). holds v.kept (class_of op c u))
      (ap (λ (all : List (List Sides)). get_or all t []) are ∙ get_or-map-range_with_len (cut_after op counts v.split v.dirs) 0 (iterations counts v.split + 1) t t [] inside same)

  pub some-cut : 0 < length cuts
  some-cut = omega (arith, length-cuts)

  module _ (valid : IsValid op) (is : IsInFamily op v) (u : Task) (there : has op counts u ≡ true) where
    pub first-undone : holds kept (class_of op (get_or cuts 0 []) u) ≡ false
    first-undone = done-by 0 u some-cut ∙ done-none op valid counts v (variant-found op is.0 v is.1) u there

    pub last-done : holds kept (class_of op (get_or cuts (length cuts - 1) []) u) ≡ true
    last-done = done-by (length cuts - 1) u (omega (arith, length-cuts))
        ∙ done-all op valid counts v (variant-found op is.0 v is.1) (length cuts - 1) u (omega (arith, length-cuts)) there

  -- a task that is undone by one cut and done by the next
  pub placed-by : (t : ℕ) (u : Task) → has op counts u ≡ true → t + 1 < length cuts → holds kept (class_of op (get_or cuts t []) u) ≡ false
      → holds kept (class_of op (get_or cuts (t + 1) []) u) ≡ true → IsPlaced op counts v (record { task = u; iteration = t })
  placed-by t u there below undone done = record {
    there = there;
    within = omega (arith, length-cuts);
    undone = sym (done-by t u (omega arith)) ∙ undone;
    done = sym (done-by (t + 1) u below) ∙ done;
  }
