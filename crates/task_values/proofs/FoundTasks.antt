-- What a kernel is handed for a step of a run: the blocks that the step reads, by their numbers in a store, or alone and in their order. Where they
-- come alone, what the kernel answers is what becomes of the step in the replay. Cited where a step is done.
use Rattle.std.proofs.Common.{◌≡◌, ◌≢◌, ◌⊎◌, inl, inr, ℕ, ◌<◌, true, List, [], ◌∷◌, length, map, get_or, All, refl, sym, ◌∙◌, ap, ap₂, subst, arith}
use Rattle.std.specs.Prelude.{◌==◌, MatchOption, None, Option, Some}
use Rattle.std.proofs.lemmas.Bool.{eq-eqb, or_left, or_right}
use Rattle.std.proofs.lemmas.Grind.{get_or_default_zero}
use Rattle.std.proofs.lemmas.List.{get_or-map, get_or_default, length-map, same_lists}
use Rattle.residue_sums.specs.Grids.{Grid, AreResidues}
use Rattle.operation_spec.specs.declared.task.Kind.{Kind}
use Rattle.operation_spec.specs.declared.task.Kind.TheVariants as kinds
use Rattle.operation_spec.specs.declared.task.Task.{Task}
use Rattle.equation.specs.declared.job.Place.{Place}
use Rattle.equation.specs.Jobs.{nth_grid, no_grid}
use Rattle.dependence_queue.specs.Conflicts.{has_number}
use Rattle.step_replays.specs.Replays.{StepResult, Ran, Skipped, Failed, IsFront, IsResult, IsStopped, block_after, nth_access, nth_result, nth_step}
use Rattle.step_replays.proofs.JobReplays.{whole-front}
use Rattle.step_replays.proofs.OneOutcome.{one-outcome}
use Rattle.step_replays.proofs.SomeReplay.{some-replay}
use Rattle.block_kernels.specs.declared.block_task.BlockTask.{BlockTask}
use Rattle.block_kernels.specs.Outcomes.{IsOutcome}
use Rattle.block_kernels.specs.PivotLists.{AreInverted, CanInvert}
use Rattle.block_kernels.specs.Ready.{CanApply, IsStored, grids_of}
use Rattle.task_values.specs.declared.run.Run.{Run}
use Rattle.task_values.specs.AnyTasks.{CanDo, IsDoneSo}
use Rattle.task_values.specs.FoundBlocks.{AreFirstNumbers, ComesTo, Finds, IsFoundBy, IsReplayOf, result_of}
use Rattle.task_values.specs.Progress.{Fails, IsNext, IsReady, IsRun, Leaves}
use Rattle.task_values.proofs.NextTasks.{IsTaskAt, IsTurn, are-pivots, fails, is-ready, leaves, list-fails, list-leaves}
use Rattle.task_values.proofs.RunFronts.{residues-after, run_replay}
use Rattle.task_values.proofs.StepUses.{reads_in}

-- a task tests the pivots, or it is a block task
pivots-or-not : (kind : Kind) → (kind ≡ kinds.Pivots) ⊎ (kind ≢ kinds.Pivots)
pivots-or-not kinds.Pivots = inl refl
pivots-or-not kinds.Term = inr (λ e. cc)
pivots-or-not kinds.Left = inr (λ e. cc)
pivots-or-not kinds.Right = inr (λ e. cc)
pivots-or-not kinds.Solve = inr (λ e. cc)

-- ---- out of a store

-- stores that agree on numbers have the same blocks there
map-agree : (f g : ℕ → Grid) (xs : List ℕ) → ((x : ℕ) → has_number xs x ≡ true → f x ≡ g x) → map f xs ≡ map g xs
map-agree f g [] same = refl
map-agree f g (x ∷ xs) same =
    ap₂ (λ (y : Grid) (ys : List Grid). y ∷ ys) (same x (or_left (x == x) (has_number xs x) (eq-eqb x x refl)))
    (map-agree f g xs (λ y h. same y (or_right (y == x) (has_number xs y) h)))

module _ (r : Run) (is : IsRun r) (n : ℕ) (store : List Grid) (block : Grid) (t : BlockTask) (own_is : IsTaskAt r n t)
    (reads_is : t.reads.now ≡ (nth_access r.steps.now n).reads) (store_is : t.store ≡ store) where
  module _ (results : List StepResult) (next : IsNext r results n store block) where
    next-turn : IsTurn r results n block
    next-turn = record { within = next.within; done = n; front = next.front; active = next.active; block = next.block }

    next-stored : IsStored t
    next-stored = record {
      inside = rw (store_is, reads_is, next.count) (reads_in r is n next.within);
      residues = rw (store_is, own_is.modulus) next.residues;
    }

    next-grids : grids_of t ≡ map (block_after r.job.now r.b r.steps.now results n) (nth_access r.steps.now n).reads
    next-grids = rw (reads_is, store_is)
        (map-agree (nth_grid store) (block_after r.job.now r.b r.steps.now results n) (nth_access r.steps.now n).reads next.reads)

  module _ (apart : (nth_step r.steps.now n).task.kind ≢ kinds.Pivots) where
    store-applies : IsReady r n store block → CanApply t block
    store-applies ready = record {
      knowns = _;
      work = _;
      ready = is-ready r is ready.0 n block (next-turn ready.0 ready.1) t own_is (next-stored ready.0 ready.1) (next-grids ready.0 ready.1) apart;
    }

    store-applied : (bad : Option Place) (new : Grid) → IsOutcome t block new bad → MatchOption bad (Leaves r n store block new) (Fails r n store block)
    store-applied None new outcome = λ results next.
        leaves r is results n block (next-turn results next) t own_is (next-stored results next) (next-grids results next) apart new outcome
    store-applied (Some place) new outcome = λ results next.
        fails r is results n block (next-turn results next) t own_is (next-stored results next) (next-grids results next) apart new place outcome

  module _ (kind : (nth_step r.steps.now n).task.kind ≡ kinds.Pivots) where
    store-inverts : IsReady r n store block → CanInvert t block
    store-inverts ready = record {
      knowns = _;
      rows = _;
      cols = _;
      pivots = are-pivots r is ready.0 n block (next-turn ready.0 ready.1) t own_is (next-stored ready.0 ready.1) (next-grids ready.0 ready.1) kind;
    }

    store-inverted : (bad : Option Place) (new : Grid) → AreInverted t block new bad → MatchOption bad (Leaves r n store block new) (Fails r n store block)
    store-inverted None new outcome = λ results next.
        list-leaves r is results n block (next-turn results next) t own_is (next-stored results next) (next-grids results next) kind new outcome
    store-inverted (Some place) new outcome = λ results next.
        list-fails r is results n block (next-turn results next) t own_is (next-stored results next) (next-grids results next) kind new place outcome

  -- either way
  own-kind : t.task.kind ≡ (nth_step r.steps.now n).task.kind
  own-kind = ap (λ (u : Task). u.kind) own_is.task

  pub store-does : IsReady r n store block → CanDo t block
  store-does ready = record {
    inverts = λ kind. store-inverts (sym own-kind ∙ kind) ready;
    applies = λ apart. store-applies (λ kind. apart (own-kind ∙ kind)) ready;
  }

  pub store-done : (bad : Option Place) (new : Grid) → IsDoneSo t block new bad → MatchOption bad (Leaves r n store block new) (Fails r n store block)
  store-done bad new done = elim (pivots-or-not t.task.kind) [
    | inl kind ↦ store-inverted (sym own-kind ∙ kind) bad new (done.inverted kind)
    | inr apart ↦ store-applied (λ kind. apart (own-kind ∙ kind)) bad new (done.applied apart)
  ]

-- ---- alone

-- blocks in their order, read by the numbers from 0 on
in-order : (reads : List Grid) (numbers named : List ℕ) (f : ℕ → Grid) → AreFirstNumbers numbers (length reads) → length reads ≡ length named
    → ((k : ℕ) → k < length reads → nth_grid reads k ≡ f (get_or named k 0)) → map (nth_grid reads) numbers ≡ map f named
in-order reads numbers named f first count each =
    same_lists (map (nth_grid reads) numbers) (map f named) (length-map numbers (nth_grid reads) ∙ first.length_is ∙ count ∙ sym (length-map named f))
    (λ k d below.
    let k_in : k < length numbers = omega (arith, below, length-map numbers (nth_grid reads)) in
    let in_reads : k < length reads = omega (arith, k_in, first.length_is) in
    let in_named : k < length named = omega (arith, in_reads, count) in
    get_or-map (nth_grid reads) numbers k 0 d k_in ∙ ap (nth_grid reads) (first.each k in_reads) ∙ each k in_reads
    ∙ sym (get_or-map f named k 0 d in_named))

first-inside : (numbers : List ℕ) (count : ℕ) → AreFirstNumbers numbers count → All (λ x. x < count) numbers
first-inside numbers count first = λ k d below.
    let k_in : k < count = omega (arith, below, first.length_is) in
    rw (get_or_default_zero numbers k d below, first.each k k_in) k_in

-- a step that has an outcome other than being skipped isn't stopped
unstopped : (r : Run) (results : List StepResult) (n : ℕ) (x : StepResult) → IsResult r.job.now r.b r.steps.now results n x → x ≢ Skipped
    → IsStopped r.job.now r.b r.steps.now results n → ⊥
unstopped r results n (Ran v) is_x active stopped = is_x.0 stopped
unstopped r results n (Failed place) is_x active stopped = is_x.0 stopped
unstopped r results n Skipped is_x active stopped = active refl

module _ (r : Run) (is : IsRun r) (n : ℕ) (within : n < length r.steps.now) (reads : List Grid) (block : Grid) (finds : Finds r n reads block)
    (t : BlockTask) (own_is : IsTaskAt r n t) (numbers : List ℕ) (first : AreFirstNumbers numbers (length reads)) (reads_is : t.reads.now ≡ numbers)
    (store_is : t.store ≡ reads) where
  module _ (results : List StepResult) (replay : IsReplayOf r results) where
    abbrev found : ℕ → Grid
    found y = block_after r.job.now r.b r.steps.now results n y

    there : IsFoundBy r results n reads block
    there = finds results replay

    whole : IsFront r.job.now r.b r.steps.now results (length r.steps.now)
    whole = whole-front r.job.now r.b r.steps.now results replay

    turn : IsTurn r results n block
    turn = record {
      within = within;
      done = length r.steps.now;
      front = whole;
      active = unstopped r results n (nth_result results n) (replay.each n within) there.active;
      block = there.write_is;
    }

    residues : All (AreResidues r.job.now.modulus) reads
    residues = λ k d below.
        subst (AreResidues r.job.now.modulus) (sym (get_or_default reads k d no_grid below ∙ there.reads_are k below))
        (residues-after r is results (length r.steps.now) whole n (get_or (nth_access r.steps.now n).reads k 0) (omega (arith, within)))

    stored : IsStored t
    stored = record {
      inside = rw (store_is, reads_is) (first-inside numbers (length reads) first);
      residues = rw (store_is, own_is.modulus) residues;
    }

    grids : grids_of t ≡ map found (nth_access r.steps.now n).reads
    grids = rw (reads_is, store_is) (in-order reads numbers (nth_access r.steps.now n).reads found first there.count there.reads_are)

    -- what the kernel answers is what becomes of the step
    one : (x : StepResult) → IsResult r.job.now r.b r.steps.now results n x → nth_result results n ≡ x
    one x is_x = one-outcome (run_replay r is results (length r.steps.now) whole) n within (nth_result results n) x (replay.each n within) is_x

  some : (results : List StepResult) × IsReplayOf r results
  some = some-replay r.job.now r.b r.steps.now is.size is.job is.fit

  module _ (apart : (nth_step r.steps.now n).task.kind ≢ kinds.Pivots) where
    can-apply : CanApply t block
    can-apply = record {
      knowns = _;
      work = _;
      ready = is-ready r is some.0 n block (turn some.0 some.1) t own_is (stored some.0 some.1) (grids some.0 some.1) apart;
    }

    comes-applied : (bad : Option Place) (new : Grid) → IsOutcome t block new bad → ComesTo r n (result_of bad new)
    comes-applied None new outcome = λ results replay.
        one results replay (Ran new) (leaves r is results n block (turn results replay) t own_is (stored results replay) (grids results replay) apart new outcome)
    comes-applied (Some place) new outcome = λ results replay.
        one results replay (Failed place) (fails r is results n block (turn results replay) t own_is (stored results replay) (grids results replay) apart new place outcome)

  module _ (kind : (nth_step r.steps.now n).task.kind ≡ kinds.Pivots) where
    can-invert : CanInvert t block
    can-invert = record {
      knowns = _;
      rows = _;
      cols = _;
      pivots = are-pivots r is some.0 n block (turn some.0 some.1) t own_is (stored some.0 some.1) (grids some.0 some.1) kind;
    }

    comes-inverted : (bad : Option Place) (new : Grid) → AreInverted t block new bad → ComesTo r n (result_of bad new)
    comes-inverted None new outcome = λ results replay.
        one results replay (Ran new) (list-leaves r is results n block (turn results replay) t own_is (stored results replay) (grids results replay) kind new outcome)
    comes-inverted (Some place) new outcome = λ results replay.
        one results replay (Failed place) (list-fails r is results n block (turn results replay) t own_is (stored results replay) (grids results replay) kind new place outcome)

  -- either way
  alone-kind : t.task.kind ≡ (nth_step r.steps.now n).task.kind
  alone-kind = ap (λ (u : Task). u.kind) own_is.task

  pub alone-does : CanDo t block
  alone-does = record {
    inverts = λ kind. can-invert (sym alone-kind ∙ kind);
    applies = λ apart. can-apply (λ kind. apart (alone-kind ∙ kind));
  }

  pub alone-done : (bad : Option Place) (new : Grid) → IsDoneSo t block new bad → ComesTo r n (result_of bad new)
  alone-done bad new done = elim (pivots-or-not t.task.kind) [
    | inl kind ↦ comes-inverted (sym alone-kind ∙ kind) bad new (done.inverted kind)
    | inr apart ↦ comes-applied (λ kind. apart (alone-kind ∙ kind)) bad new (done.applied apart)
  ]
