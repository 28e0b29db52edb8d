-- How many edges go into a step from steps that haven't ended: when none is left, and what an event changes. How many edges
-- there are.
use Rattle.std.proofs.Common.{◌≡◌, ℕ, zero, suc, ◌+◌, ◌-◌, ◌*◌, ◌<◌, ◌≤◌, inl, inr, Bool, true, false, cond, List, [], ◌∷◌, ◌++◌, length, map, refl, sym, ◌∙◌, ap, arith}
use Rattle.std.specs.Prelude.{◌==◌, ◌&&◌, not, All, AllPairs, sum}
use Rattle.std.specs.List.{range_with_len}
use Rattle.std.proofs.lemmas.Bool.{cases_Bool, eq-eqb, eqb-true, ne_eqb, le-ltb, lt-ltb, false≢true, and_from, and_parts, or_cases, or_left, or_right}
use Rattle.std.proofs.lemmas.List.Elements.{All-cons, All-head, All-nil, All-tail, All-weaker}
use Rattle.std.proofs.lemmas.List.FromFn.{sum_by-map-range_with_len_more}
use Rattle.std.proofs.lemmas.List.Sums.{sum_by-cons}
use Rattle.residue_sums.specs.Sums.{sum_below}
use Rattle.residue_sums.proofs.Sums.{sum_below-add, sum_below-le, sum_below-only, sum_below-same, sum_below-shrink, sum_below-zero}
use Rattle.dependence_queue.specs.declared.access.Access.{Access}
use Rattle.dependence_queue.specs.declared.edge.Edge.{Edge}
use Rattle.dependence_queue.specs.Edges.{IsOrdered, count_into, edge_number, edges_of, has_edge, joins, successors}
use Rattle.dependence_queue.proofs.ListedEdges.{All-steps, counted}
use Rattle.schedule_core.specs.declared.event.Event.{Event}
use Rattle.schedule_core.specs.declared.event.Event.TheVariants.{Start, Finish}
use Rattle.schedule_core.specs.Schedules.{has_event}
use Rattle.schedule_core.specs.Turns.{times_in, waits_for}
use Rattle.schedule_core.proofs.EventTests.{and-false, and-true, has-last, or-false, or-true, start-ends}

abbrev one_if : Bool → ℕ
one_if b = cond b 1 0

-- an edge that a step still waits for
abbrev waits_by : List Event → ℕ → Edge → Bool
waits_by events t e = e.to == t && not (has_event events (Finish e.from))

waits-cons : (e : Edge) (edges : List Edge) (events : List Event) (t : ℕ)
    → waits_for (e ∷ edges) events t ≡ one_if (waits_by events t e) + waits_for edges events t
waits-cons e edges events t = sum_by-cons (λ (d : Edge). one_if (waits_by events t d)) e edges

-- ---- none is left

pub none-waits : (edges : List Edge) (events : List Event) (t : ℕ) → ((s : ℕ) → has_edge edges s t ≡ true → has_event events (Finish s) ≡ true)
    → waits_for edges events t ≡ 0
none-waits [] events t all = refl
none-waits (e ∷ edges) events t all = omega (
  arith,
  waits-cons e edges events t,
  here,
  none-waits edges events t (λ s h. all s (or_right (e.from == s && e.to == t) (has_edge edges s t) h)),
)
  where
    here : one_if (waits_by events t e) ≡ 0
    here = elim (cases_Bool (e.to == t)) [
      | inl same ↦ (let ended = all e.from (or_left (e.from == e.from && e.to == t) (has_edge edges e.from t)
          (and_from (e.from == e.from) (e.to == t) (eq-eqb e.from e.from refl) same)) in rw (same, ended) refl)
      | inr other ↦ rw other refl
    ]

pub waits-ended : (edges : List Edge) (events : List Event) (t : ℕ) → waits_for edges events t ≡ 0 → (s : ℕ) → has_edge edges s t ≡ true
    → has_event events (Finish s) ≡ true
waits-ended [] events t none s h = absurd (false≢true h)
waits-ended (e ∷ edges) events t none s h = elim (or_cases (e.from == s && e.to == t) (has_edge edges s t) h) [
  | inl here ↦ own (and_parts (e.from == s) (e.to == t) here).0 (and_parts (e.from == s) (e.to == t) here).1
  | inr later ↦ waits-ended edges events t (omega (arith, none, waits-cons e edges events t)) s later
]
  where
    own : (e.from == s) ≡ true → (e.to == t) ≡ true → has_event events (Finish s) ≡ true
    own from to = elim (cases_Bool (has_event events (Finish s))) [
      | inl ended ↦ ended
      | inr runs ↦ (let is : e.from ≡ s = eqb-true e.from s from in
          let one : one_if (waits_by events t e) ≡ 1 = rw (to, is, runs) refl in
          absurd (omega (arith, none, waits-cons e edges events t, one)))
    ]

-- ---- events

pub waits-first : (edges : List Edge) (t : ℕ) → waits_for edges [] t ≡ count_into edges t
waits-first [] t = refl
waits-first (e ∷ edges) t = waits-cons e edges [] t ∙ (rw (← (waits-first edges t)) here
    ∙ sym (sum_by-cons (λ (d : Edge). one_if (d.to == t)) e edges))
  where
    here : one_if (waits_by [] t e) + waits_for edges [] t ≡ one_if (e.to == t) + waits_for edges [] t
    here = elim (cases_Bool (e.to == t)) [ inl same ↦ rw same refl | inr other ↦ rw other refl ]

-- lists with the same ends
waits-same : (edges : List Edge) (es fs : List Event) (x : ℕ) → ((s : ℕ) → has_event es (Finish s) ≡ has_event fs (Finish s))
    → waits_for edges es x ≡ waits_for edges fs x
waits-same [] es fs x same = refl
waits-same (e ∷ edges) es fs x same =
    waits-cons e edges es x ∙ (rw (same e.from, waits-same edges es fs x same) refl ∙ sym (waits-cons e edges fs x))

pub waits-start : (edges : List Edge) (events : List Event) (t x : ℕ) → waits_for edges (events ++ Start t ∷ []) x ≡ waits_for edges events x
waits-start edges events t x = waits-same edges (events ++ Start t ∷ []) events x (start-ends events t)

-- the end of step t: each edge from it counts no more
pub waits-finish : (edges : List Edge) (events : List Event) (t x : ℕ) → has_event events (Finish t) ≡ false
    → waits_for edges (events ++ Finish t ∷ []) x + times_in (successors edges t) x ≡ waits_for edges events x
waits-finish [] events t x runs = omega arith
waits-finish (e ∷ edges) events t x runs = elim (cases_Bool (e.from == t)) [
  | inl own ↦ (let is : e.from ≡ t = eqb-true e.from t own in
      let now : one_if (waits_by (events ++ Finish t ∷ []) x e) ≡ 0
      = rw (is, has-last events (Finish t) (Finish t), eq-eqb t t refl, or-true (has_event events (Finish t)), and-false (e.to == x)) refl in
      let before : one_if (waits_by events x e) ≡ one_if (e.to == x) = rw (is, runs, and-true (e.to == x)) refl in
      let counted : times_in (successors (e ∷ edges) t) x ≡ one_if (e.to == x) + times_in (successors edges t) x
      = rw own (sum_by-cons (λ (y : ℕ). one_if (y == x)) e.to (successors edges t)) in
      omega (arith, waits-cons e edges (events ++ Finish t ∷ []) x, waits-cons e edges events x, now, before, counted, waits-finish edges events t x runs))
  | inr other ↦ (let same : one_if (waits_by (events ++ Finish t ∷ []) x e) ≡ one_if (waits_by events x e)
      = rw (has-last events (Finish t) (Finish e.from), apart other, or-false (has_event events (Finish e.from))) refl in
      let counted : times_in (successors (e ∷ edges) t) x ≡ times_in (successors edges t) x = rw other refl in
      omega (arith, waits-cons e edges (events ++ Finish t ∷ []) x, waits-cons e edges events x, same, counted, waits-finish edges events t x runs))
]
  where
    apart : (e.from == t) ≡ false → (t == e.from) ≡ false
    apart other = ne_eqb t e.from (λ same. false≢true (sym other ∙ eq-eqb e.from t (sym same)))

-- ---- the edges from one step go to ascending steps, so there are few

pub few-successors : (edges : List Edge) (a n s : ℕ) → AllPairs IsOrdered edges → All (λ (e : Edge). e.to ≤ n) edges
    → All (λ (e : Edge). e.from ≡ s → a < e.to) edges → a ≤ n → a + length (successors edges s) ≤ n
few-successors [] a n s sorted within above bound = omega arith
few-successors (e ∷ edges) a n s sorted within above bound = elim (cases_Bool (e.from == s)) [
  | inl own ↦ (let is : e.from ≡ s = eqb-true e.from s own in
      let rest : e.to + length (successors edges s) ≤ n = few-successors edges e.to n s tail (All-tail (λ (d : Edge). d.to ≤ n) e edges within)
      (λ k d below same. elim (sorted 0 (suc k) d (omega arith) (omega (arith, below))) [
        | inl less ↦ absurd (omega (arith, less, is, same))
        | inr next ↦ next.1
      ]) (All-head (λ (d : Edge). d.to ≤ n) e edges within) in
      let here : a < e.to = All-head (λ (d : Edge). d.from ≡ s → a < d.to) e edges above is in
      rw own (omega (arith, rest, here)))
  | inr other ↦ rw other (few-successors edges a n s tail (All-tail (λ (d : Edge). d.to ≤ n) e edges within)
      (All-tail (λ (d : Edge). d.from ≡ s → a < d.to) e edges above) bound)
]
  where
    tail : AllPairs IsOrdered edges
    tail i j d less below = sorted (suc i) (suc j) d (omega (arith, less)) (omega (arith, below))

pub successors-within : (edges : List Edge) (n s : ℕ) → All (λ (e : Edge). (0 < e.from) × (e.from < e.to) × (e.to ≤ n)) edges
    → All (λ (t : ℕ). (0 < t) × (t ≤ n)) (successors edges s)
successors-within [] n s all = All-nil (λ (t : ℕ). (0 < t) × (t ≤ n))
successors-within (e ∷ edges) n s all =
    let rest = successors-within edges n s (All-tail (λ (d : Edge). (0 < d.from) × (d.from < d.to) × (d.to ≤ n)) e edges all) in
    let here = All-head (λ (d : Edge). (0 < d.from) × (d.from < d.to) × (d.to ≤ n)) e edges all in
    elim (cases_Bool (e.from == s)) [
      | inl own ↦ rw own (All-cons (λ (t : ℕ). (0 < t) × (t ≤ n)) e.to (successors edges s) (omega (arith, here.1), here.2) rest)
      | inr other ↦ rw other rest
    ]

-- a number past them stands nowhere among them
pub none-times : (xs : List ℕ) (n x : ℕ) → All (λ (t : ℕ). (0 < t) × (t ≤ n)) xs → n < x → times_in xs x ≡ 0
none-times [] n x within past = refl
none-times (y ∷ ys) n x within past =
    let here = All-head (λ (t : ℕ). (0 < t) × (t ≤ n)) y ys within in
    let apart : (y == x) ≡ false = ne_eqb y x (λ same. absurd (omega (arith, here.1, same, past))) in
    sum_by-cons (λ (z : ℕ). one_if (z == x)) y ys
    ∙ (rw apart (omega (arith, none-times ys n x (All-tail (λ (t : ℕ). (0 < t) × (t ≤ n)) y ys within) past)))

-- ---- all edges

-- a sum over n steps, which are numbered from 1, as one below n
pub sum-steps : (f : ℕ → ℕ) (n : ℕ) → sum (map f (range_with_len 1 n)) ≡ sum_below (λ k. f (suc k)) n
sum-steps f zero = refl
sum-steps f (suc n) =
    let next : suc n ≡ n + 1 = omega arith in
    ap (λ (k : ℕ). sum (map f (range_with_len 1 k))) next
    ∙ (sum_by-map-range_with_len_more (λ (k : ℕ). k) f 1 n (suc n) (omega arith) ∙ ap (λ (k : ℕ). k + f (suc n)) (sum-steps f n))

-- an edge goes into one of the steps
once : (e : Edge) (n : ℕ) → 0 < e.to → e.to ≤ n → sum_below (λ k. one_if (e.to == suc k)) n ≡ 1
once e n first within =
    sum_below-only (λ k. one_if (e.to == suc k)) n (e.to - 1) (omega (arith, first, within))
    (λ k below other. rw (ne_eqb e.to (suc k) (λ same. other (omega (arith, same)))) refl)
    ∙ rw (eq-eqb e.to (suc (e.to - 1)) (omega (arith, first))) refl

-- all edges are counted at the steps that they go into
length-into : (edges : List Edge) (n : ℕ) → All (λ e. (0 < e.to) × (e.to ≤ n)) edges
    → length edges ≡ sum_below (λ k. count_into edges (suc k)) n
length-into [] n all = sym (sum_below-zero (λ k. 0) n (λ k below. refl))
length-into (e ∷ edges) n all =
    let here = All-head (λ (d : Edge). (0 < d.to) × (d.to ≤ n)) e edges all in
    let rest = length-into edges n (All-tail (λ (d : Edge). (0 < d.to) × (d.to ≤ n)) e edges all) in
    let parts = sum_below-add (λ k. one_if (e.to == suc k)) (λ k. count_into edges (suc k)) n in
    let each = sum_below-same (λ k. count_into (e ∷ edges) (suc k)) (λ k. one_if (e.to == suc k) + count_into edges (suc k)) n
    (λ k below. sum_by-cons (λ (d : Edge). one_if (d.to == suc k)) e edges) in
    omega (arith, rest, parts, each, once e n here.0 here.1)

-- a sum of terms that are at most their places
sum-places : (f : ℕ → ℕ) (n : ℕ) → ((k : ℕ) → k < n → f k ≤ k) → sum_below f n * 2 + n ≤ n * n
sum-places f zero each = omega arith
sum-places f (suc n) each = omega (arith, sum-places f n (λ k below. each k (omega arith)), each n (omega arith))

module _ (accesses : List Access) where
  -- over the steps of the list
  count_below : sum_below (λ k. count_into (edges_of accesses) (suc k)) (length accesses) ≡ length (edges_of accesses)
  count_below = sym (length-into (edges_of accesses) (length accesses)
      (All-weaker (λ (e : Edge). (0 < e.from) × (e.from < e.to) × (e.to ≤ length accesses)) (λ (e : Edge). (0 < e.to) × (e.to ≤ length accesses))
      (λ e h. (omega (arith, h.1), h.2)) (edges_of accesses) (All-steps accesses)))

  -- by the steps that they go into, and by pairs of steps
  pub edges-into : length (edges_of accesses) ≡ sum (map (λ t. count_into (edges_of accesses) t) (range_with_len 1 (length accesses)))
  edges-into = sym (sum-steps (count_into (edges_of accesses)) (length accesses) ∙ count_below)

  pub edges-pairs : length (edges_of accesses)
      ≡ sum (map (λ t. sum (map (λ s. edge_number accesses s t) (range_with_len 1 (length accesses)))) (range_with_len 1 (length accesses)))
  edges-pairs =
      let f : ℕ → ℕ = λ t. sum (map (λ s. edge_number accesses s t) (range_with_len 1 (length accesses))) in
      sym (sum-steps f (length accesses)
      ∙ (sum_below-same (λ k. f (suc k)) (λ k. count_into (edges_of accesses) (suc k)) (length accesses) (λ k below. sym (counted accesses (suc k)))
      ∙ count_below))

  -- no more edges go into a step than steps come before it
  few_before : (k : ℕ) → k < length accesses → count_into (edges_of accesses) (suc k) ≤ k
  unfolding joins
  few_before k below =
      let f : ℕ → ℕ = λ j. edge_number accesses (suc j) (suc k) in
      let none : (j : ℕ) → k ≤ j → j < length accesses → f j ≡ 0 = λ j behind inside. rw (lt-ltb 0 (suc j) (omega arith), le-ltb (suc j) (suc k) (omega arith)) refl in
      let one : (j : ℕ) → j < k → f j ≤ 1 = λ j before. at_most_one (joins accesses (suc j) (suc k)) in
      omega (
        arith,
        counted accesses (suc k),
        sum-steps (λ s. edge_number accesses s (suc k)) (length accesses),
        sum_below-shrink f (length accesses) k (omega arith) none,
        sum_below-le f k 1 one,
      )
    where
      at_most_one : (b : Bool) → one_if b ≤ 1
      at_most_one true = omega arith
      at_most_one false = omega arith

  -- so at most one for each two steps
  pub edges-few : length (edges_of accesses) * 2 ≤ length accesses * (length accesses - 1)
  edges-few = omega (
    arith,
    half (length accesses) (length (edges_of accesses)) (rw (← count_below)
        (sum-places (λ k. count_into (edges_of accesses) (suc k)) (length accesses) few_before)),
  )
    where
      half : (n m : ℕ) → m * 2 + n ≤ n * n → m * 2 ≤ n * (n - 1)
      half zero m h = omega (arith, h)
      half (suc n) m h = (let e : suc n - 1 ≡ n = omega arith in rw e (omega (arith, h)))
