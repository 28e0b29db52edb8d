-- The rule holds before the first step.
use Rattle.std.proofs.Common.{◌≡◌, ℕ, zero, suc, ◌+◌, ◌≤◌, ◌<◌, inl, inr, List, [], ◌∷◌, ◌++◌, length, map, max, cond, replicate, get_or, Some, None, refl, sym, ap, ◌∙◌, subst, arith}
use Rattle.std.specs.Prelude.{sum}
use Rattle.std.proofs.lemmas.Bool.{cases_eq}
use Rattle.std.proofs.lemmas.List.FromFn.{get_or-map-range_with_len, length-map-range_with_len, map-range_with_len_more}
use Rattle.std.proofs.lemmas.List.Sums.{fold_push}
use Rattle.std.specs.List.{range_with_len}
use mathlib.Core.Option.{some, some-injective, some-ne-none}
use lib.ListN.{get_elem?}
use Rattle.std.proofs.lemmas.List.{length-append}
use Rattle.atomic_table.proofs.Lists.{at_map}
use Rattle.residue_sums.specs.Grids.{Grid}
use Rattle.equation.specs.declared.job.Job.{Job}
use Rattle.equation.specs.Jobs.{nth_grid}
use Rattle.step_replays.proofs.ValueLaws.{value-zero}
use Rattle.job_blocks.specs.BlockedJobs.{AreFirstBlocks}
use Rattle.block_store.specs.Blocks.{block_count, is_writer, IsValue}
use Rattle.block_store.specs.Holding.{version, turn_word, AreFirst, IsHeld, IsHolder}
use Rattle.block_store.proofs.Versions.{cond-zero}
use Rattle.residue_sums.specs.Sums.{sum_below}
use Rattle.residue_sums.proofs.Sums.{sum_below-zero}
use Rattle.dependence_queue.specs.declared.edge.Edge.{Edge}
use Rattle.step_replays.specs.declared.step.Step.{Step}
use Rattle.schedule_core.specs.StepAccesses.{accesses_of}
use Rattle.dependence_queue.specs.Edges.{count_into, edges_of, edge_number}
use Rattle.dependence_queue.proofs.ListedEdges.{counted}
use Rattle.block_store.specs.declared.key.BoardKey.{BoardKey}
use Rattle.block_store.specs.declared.view.View.{View}
use Rattle.issue_list.specs.CanonicalSteps.{most_steps}
use Rattle.block_store.specs.Keys.{accesses, step_count, edge, preds}
use Rattle.block_store.specs.Opening.{IsOpening}
use Rattle.block_store.specs.Sums.{below}
use Rattle.block_store.specs.Tallies.{count_in, begins, ends, notices, marks, puts}
use Rattle.block_store.specs.Rule.{IsView, IsKept}
use Rattle.block_store.specs.Views.{opening_view, numbers}
use Rattle.block_store.proofs.Sums.{below-ge, below-more}
use Rattle.block_store.proofs.Edges.{access-count, edge-steps}

-- ---- workers

pub numbers-count : (n worker : ℕ) → count_in worker (numbers n) ≡ below n worker
numbers-count zero worker = sym (below-ge 0 worker (omega arith))
numbers-count (suc n) worker = let one : suc n ≡ n + 1 = omega arith in omega (arith, numbers-count n worker, below-more n worker, ap (λ x. below x worker) one)

pub numbers-length : (n : ℕ) → length (numbers n) ≡ n
numbers-length zero = refl
numbers-length (suc n) = omega (arith, numbers-length n)

-- ---- the edges into a step, counted in the list and by numbers

sum-range : (f : ℕ → ℕ) (n : ℕ) → sum (map f (range_with_len 1 n)) + f 0 ≡ sum_below f (suc n)
sum-range f zero = omega arith
sum-range f (suc n) =
    let one : suc n ≡ n + 1 = omega arith in
    let more : map f (range_with_len 1 (suc n)) ≡ map f (range_with_len 1 n) ++ f (suc n) ∷ []
    = ap (λ (k : ℕ). map f (range_with_len 1 k)) one ∙ map-range_with_len_more f 1 n (suc n) (omega arith) in
    omega (arith, ap sum more ∙ fold_push ◌+◌ 0 (map f (range_with_len 1 n)) (f (suc n)), sum-range f n)

no_edge-from_0 : (key : BoardKey) (t : ℕ) → edge key 0 t ≡ 0
no_edge-from_0 key t = elim (cases_eq (edge key 0 t) 0) [ inl z ↦ z | inr nz ↦ absurd (let h = (edge-steps key 0 t (omega arith)).0.0 in omega arith) ]

pub counted_preds : (key : BoardKey) (t : ℕ) → count_into (edges_of (accesses key)) t ≡ preds key t
unfolding edge
counted_preds key t =
    let f : ℕ → ℕ = λ s. edge_number (accesses key) s t in
    let one : suc (step_count key) ≡ step_count key + 1 = omega arith in
    let none : f 0 ≡ 0 = no_edge-from_0 key t in
    let listed : count_into (edges_of (accesses key)) t ≡ sum (map f (range_with_len 1 (step_count key)))
    = counted (accesses key) t ∙ ap (λ (n : ℕ). sum (map f (range_with_len 1 n))) (access-count key) in
    omega (arith, listed, sum-range f (step_count key), ap (sum_below f) one, none)

-- ---- lists

get_or-append_left : (xs ys : List ℕ) (i d : ℕ) → i < length xs → get_or (xs ++ ys) i d ≡ get_or xs i d
get_or-append_left [] ys i d low = absurd (omega arith)
get_or-append_left (x ∷ xs) ys zero d low = refl
get_or-append_left (x ∷ xs) ys (suc i) d low = get_or-append_left xs ys i d (omega arith)

get_or-append_right : (xs ys : List ℕ) (i d : ℕ) → get_or (xs ++ ys) (length xs + i) d ≡ get_or ys i d
get_or-append_right [] ys i d = ap (λ (k : ℕ). get_or ys k d) (omega arith)
get_or-append_right (x ∷ xs) ys i d =
    let e : suc (length xs) + i ≡ suc (length xs + i) = omega arith in
    ap (λ (k : ℕ). get_or (x ∷ (xs ++ ys)) k d) e ∙ get_or-append_right xs ys i d

-- so many zeros
abbrev pub zeros : ℕ → List ℕ
zeros n = replicate n 0

length-zeros : (n : ℕ) → length (zeros n) ≡ n
length-zeros zero = refl
length-zeros (suc n) = omega (arith, length-zeros n)

get_or-zeros : (n i : ℕ) → get_or (zeros n) i 0 ≡ 0
get_or-zeros zero i = refl
get_or-zeros (suc n) zero = refl
get_or-zeros (suc n) (suc i) = get_or-zeros n i

-- ---- the rule

pub opens : (key : BoardKey) (words : List ℕ) → IsOpening key words → IsKept key words (opening_view key ∷ [])
opens key words o = record {
  words_are = record {
    long = o.long;
    word = λ t step. omega (arith, o.counts t step, counted_preds key t, sum_below-zero (λ s. notices views s t) (step_count key + 1) (λ s q. refl), sum_below-zero (λ s. marks views s t) (step_count key + 1) (λ s q. refl));
    clock = o.clock ∙ sym (sum_below-zero (λ t. begins views t + ends views t) (step_count key + 1) (λ t q. omega arith));
  };
  claims_are = record {
    once = λ t. omega arith;
    real = λ t z. absurd (omega arith);
    ready = λ t z. absurd (omega arith);
    noticed = λ s t. omega arith;
    marked = λ s t. omega arith;
    last = λ t z. absurd (omega arith);
  };
  stamps_are = record {
    drawn_once = λ n. sym (ap (λ c. below c n) o.clock ∙ below-ge 0 n (omega arith));
    start_low = λ t z. absurd (omega arith);
    finish_low = λ t z. absurd (omega arith);
    start_first = λ t z. absurd (omega arith);
    edge_ended = λ s t e z. absurd (omega arith);
    edge_forward = λ s t e z. absurd (omega arith);
  };
  each_view = λ j v at. subst (IsView key (get_or words 0 0)) (only j v at) first;
  found_marks = λ j v at t found. absurd (let e : None ≡ Some t = ap (λ (x : View). x.found_mark) (only j v at) ∙ found in cc);
  workers_are = λ worker. omega (arith, numbers-count key.workers worker);
  small = o.small;
}
  where
    views : List View
    views = opening_view key ∷ []

    only : (j : ℕ) (v : View) → get_elem? (opening_view key ∷ []) j ≡ some v → opening_view key ≡ v
    only zero v at = some-injective (opening_view key) v at
    only (suc j) v at = absurd (some-ne-none v (sym at))

    first : IsView key (get_or words 0 0) (opening_view key)
    first = record {
      begun = λ t. omega arith;
      ended = λ t. omega arith;
      marked = λ a b. omega arith;
      noticed = λ a b. omega arith;
      outcomes = λ t n q h. absurd h;
      loaded = omega arith;
      spent = λ z. refl;
      knows = λ z. refl;
    }

-- ---- the blocks

map-length : (slots : List Grid) → length (map some slots) ≡ length slots
map-length [] = refl
map-length (g ∷ slots) = omega (arith, map-length slots)

pub holds_first : (key : BoardKey) (words : List ℕ) (slots : List Grid) → IsOpening key words → AreFirst key slots → IsHeld key words (map some slots) (opening_view key ∷ [])
holds_first key words slots o first = record {
  long = o.room;
  many = map-length slots ∙ first.many;
  turn = λ x lt. omega (arith, o.turns x lt);
  one = λ x. omega arith;
  home = λ x lt z.
      let h = first.each x lt in
      let none : version (opening_view key ∷ []) key x ≡ 0 = sum_below-zero (λ t. cond (is_writer key x t) (max (puts (opening_view key ∷ []) t) (ends (opening_view key ∷ []) t)) 0) (step_count key + 1)
      (λ t q. cond-zero (is_writer key x t) _ (λ w. omega arith)) in
      (h.0, at_map some slots x h.0 h.1, subst (λ v. IsValue key x v h.0) (sym none) h.2);
  holders = λ j v at. subst IsHolder (only j v at) (record { puts_begun = λ t. omega arith; gaves_taken = λ x. omega arith });
}
  where
    only : (j : ℕ) (v : View) → get_elem? (opening_view key ∷ []) j ≡ some v → opening_view key ≡ v
    only zero v at = some-injective (opening_view key) v at
    only (suc j) v at = absurd (some-ne-none v (sym at))

-- ---- the words that are made

pub opens_by : (key : BoardKey) (steps : List Step) (edges : List Edge) (n blocks : ℕ) (words : List ℕ) → key.steps.value ≡ steps → edges ≡ edges_of (accesses_of steps) → n ≡ length steps
    → n ≤ most_steps → blocks ≡ block_count key → words ≡ map (λ t. count_into edges t) (range_with_len 0 (n + 1)) ++ zeros blocks → IsOpening key words
opens_by key steps edges n blocks words same edges_are count few total are =
    let f : ℕ → ℕ = λ t. count_into edges t in
    let front : List ℕ = map f (range_with_len 0 (n + 1)) in
    let long : length front ≡ n + 1 = length-map-range_with_len f 0 (n + 1) in
    let listed : (t : ℕ) → f t ≡ preds key t
    = λ t. ap (λ (es : List Edge). count_into es t) (edges_are ∙ ap (λ (xs : List Step). edges_of (accesses_of xs)) (sym same)) ∙ counted_preds key t in
    let count_same : step_count key ≡ length steps = ap (λ (xs : List Step). length xs) same in
    let at : (t : ℕ) → t < n + 1 → get_or words t 0 ≡ f t
    = λ t below. ap (λ (xs : List ℕ). get_or xs t 0) are ∙ (get_or-append_left front (zeros blocks) t 0 (omega (arith, long)) ∙ get_or-map-range_with_len f 0 (n + 1) t t 0 below (omega arith)) in
    let none : preds key 0 ≡ 0 = sum_below-zero (λ s. edge key s 0) (step_count key + 1)
    (λ s q. elim (cases_eq (edge key s 0) 0) [ inl z ↦ z | inr nz ↦ absurd (let h = (edge-steps key s 0 (omega arith)).1.0 in omega arith) ]) in
    let all : length words ≡ n + 1 + blocks = ap (λ (xs : List ℕ). length xs) are ∙ (length-append front (zeros blocks) ∙ omega (arith, long, length-zeros blocks)) in
    record {
      long = omega (arith, all);
      room = omega (arith, all, total, count, count_same);
      turns = λ x lt.
          let place : turn_word key x ≡ length front + x = omega (arith, long, count, count_same) in
          ap (λ (xs : List ℕ). get_or xs (turn_word key x) 0) are ∙ (ap (λ (i : ℕ). get_or (front ++ zeros blocks) i 0) place ∙ (get_or-append_right front (zeros blocks) x 0 ∙ get_or-zeros blocks x));
      clock = omega (arith, at 0 (omega arith), listed 0);
      counts = λ t step. at t (omega (arith, step, count, count_same)) ∙ (ap (λ (es : List Edge). count_into es t) (edges_are ∙ ap (λ (xs : List Step). edges_of (accesses_of xs)) (sym same)));
      small = omega (arith, count, count_same);
    }

-- ---- the slots that are made

get-nth : (slots : List Grid) (x : ℕ) → x < length slots → get_elem? slots x ≡ some (nth_grid slots x)
get-nth [] x low = absurd (omega arith)
get-nth (g ∷ slots) zero low = refl
get-nth (g ∷ slots) (suc x) low = get-nth slots x (omega arith)

pub first_by : (key : BoardKey) (job : Job) (slots : List Grid) → key.job.value ≡ job → AreFirstBlocks (record { job = job; b = key.b }) slots → AreFirst key slots
first_by key job slots same first =
    let here : AreFirstBlocks (record { job = key.job.value; b = key.b }) slots = subst (λ (j : Job). AreFirstBlocks (record { job = j; b = key.b }) slots) (sym same) first in
    record {
      many = here.count;
      each = λ x lt. (
        nth_grid slots x,
        get-nth slots x (omega (arith, here.count)),
        λ results replay. here.each x lt ∙ sym (value-zero key.job.value key.b key.steps.value results x),
      );
    }
