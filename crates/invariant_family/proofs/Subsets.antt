-- The subsets of a list of tasks: each is a part of the list, each part is one, and they come by their numbers.
-- Cited by the laws of families.
use Rattle.std.proofs.Common.{◌≡◌, ◌≢◌, ◌+◌, ◌*◌, ◌<◌, ◌≤◌, inl, inr, List, [], ◌∷◌, false, refl, sym, ap, ◌∙◌, arith}
use Rattle.std.specs.Prelude.{All, AllPairs, Contains}
use Rattle.std.proofs.lemmas.List.Elements.{All-nil, All-cons, All-head, All-tail, All-weaker}
use Rattle.std.proofs.lemmas.List.Kept.{AllPairs-cons}
use Rattle.std.proofs.lemmas.Bool.{or_from}
use Rattle.operation_spec.specs.declared.task.Task.{Task}
use Rattle.task_graph.proofs.EarlierTasks as earlier_tasks
use Rattle.invariant_family.specs.Feasible.{same_task, holds}
use Rattle.invariant_family.specs.Families.{subsets}
use Rattle.invariant_family.specs.Sublists.{IsSublist, set_number}
use Rattle.invariant_family.proofs.FlatMaps.{All-flat_map, Contains-flat_map, AllPairs-flat_map, AllPairs-parts}
use Rattle.invariant_family.proofs.SameTasks.{same_task-refl, same_task-false}

-- ---- which they are

-- a subset is a part of the list, in its order
pub subsets_are_sublists : (ts : List Task) → All (λ s. IsSublist s ts) (subsets ts)
subsets_are_sublists [] = All-cons (λ s. IsSublist s []) [] [] refl (All-nil (λ s. IsSublist s []))
subsets_are_sublists (t ∷ ts) = All-flat_map In (λ s. s ∷ (t ∷ s) ∷ []) (subsets ts)
    (All-weaker (λ s. IsSublist s ts) (λ s. All In (s ∷ (t ∷ s) ∷ [])) (λ s h. All-cons In s ((t ∷ s) ∷ []) (inl h) (All-cons In (t ∷ s) [] (inr (s, refl, h)) (All-nil In)))
    (subsets ts) (subsets_are_sublists ts))
  where
    In : List Task → Type 0
    In s = IsSublist s (t ∷ ts)

-- each part of the list is one
pub sublists_are_subsets : (ts s : List Task) → IsSublist s ts → Contains (subsets ts) s
sublists_are_subsets [] s h = (0, omega arith, sym h)
sublists_are_subsets (t ∷ ts) s (inl h) = Contains-flat_map (λ r. r ∷ (t ∷ r) ∷ []) (subsets ts) s s (sublists_are_subsets ts s h) (0, omega arith, refl)
sublists_are_subsets (t ∷ ts) s (inr (rest, e, h)) = Contains-flat_map (λ r. r ∷ (t ∷ r) ∷ []) (subsets ts) rest s (sublists_are_subsets ts rest h) (1, omega arith, sym e)

-- ---- in which order

-- a part of a list doesn't hold a task that the list doesn't have
holds-sublist : (ts s : List Task) (t : Task) → All (λ u. t ≢ u) ts → IsSublist s ts → holds s t ≡ false
holds-sublist [] s t apart h = ap (λ r. holds r t) h
holds-sublist (u ∷ ts) s t apart (inl h) = holds-sublist ts s t (All-tail (λ u. t ≢ u) u ts apart) h
holds-sublist (u ∷ ts) s t apart (inr (rest, e, h)) = ap (λ r. holds r t) e
    ∙ or_from (same_task t u) (holds rest t) (same_task-false t u (All-head (λ u. t ≢ u) u ts apart)) (holds-sublist ts rest t (All-tail (λ u. t ≢ u) u ts apart) h)

-- a task that the list doesn't have adds nothing to a number
set_number-cons : (ts s : List Task) (t : Task) → All (λ u. t ≢ u) ts → set_number ts (t ∷ s) ≡ set_number ts s
set_number-cons [] s t apart = refl
set_number-cons (u ∷ ts) s t apart =
    let other : same_task u t ≡ false = same_task-false u t (λ e. All-head (λ u. t ≢ u) u ts apart (sym e)) in
    let rest : set_number ts (t ∷ s) ≡ set_number ts s = set_number-cons ts s t (All-tail (λ u. t ≢ u) u ts apart) in
    rw (other, rest) refl

module _ (t : Task) (ts : List Task) (apart : All (λ u. t ≢ u) ts) where
  -- the number of a set without the head, and with it
  set_number-without : (s : List Task) → IsSublist s ts → set_number (t ∷ ts) s ≡ 2 * set_number ts s
  set_number-without s h = let none : holds s t ≡ false = holds-sublist ts s t apart h in rw none (omega arith)

  set_number-with : (s : List Task) → set_number (t ∷ ts) (t ∷ s) ≡ 1 + 2 * set_number ts s
  set_number-with s = rw (same_task-refl t, set_number-cons ts s t apart) refl

  -- what a set gives: its number twice, and one more
  abbrev IsBetween : List Task → List Task → Type 0
  IsBetween s r = (2 * set_number ts s ≤ set_number (t ∷ ts) r) × (set_number (t ∷ ts) r ≤ 2 * set_number ts s + 1)

  abbrev IsBelow : List Task → List Task → Type 0
  IsBelow a b = set_number (t ∷ ts) a < set_number (t ∷ ts) b

  both_between : (s : List Task) → IsSublist s ts → All (IsBetween s) (s ∷ (t ∷ s) ∷ [])
  both_between s h =
      let without = set_number-without s h in
      let with_head = set_number-with s in
      All-cons (IsBetween s) s ((t ∷ s) ∷ []) (omega (arith, without), omega (arith, without))
      (All-cons (IsBetween s) (t ∷ s) [] (omega (arith, with_head), omega (arith, with_head)) (All-nil (IsBetween s)))

  both_by_number : (s : List Task) → IsSublist s ts → AllPairs IsBelow (s ∷ (t ∷ s) ∷ [])
  both_by_number s h = AllPairs-cons IsBelow s ((t ∷ s) ∷ [])
      (All-cons (IsBelow s) (t ∷ s) [] (omega (arith, set_number-without s h, set_number-with s)) (All-nil (IsBelow s)))
      (AllPairs-cons IsBelow (t ∷ s) [] (All-nil (IsBelow (t ∷ s))) (λ i j d before below. absurd (omega arith)))

  -- numbers that ascend among the sets of the tail ascend among those of the list
  more_by_number : AllPairs (λ a b. set_number ts a < set_number ts b) (subsets ts) → AllPairs IsBelow (subsets (t ∷ ts))
  more_by_number ascending = AllPairs-flat_map IsBelow (λ s. s ∷ (t ∷ s) ∷ []) IsBetween (λ a b. set_number ts a < set_number ts b)
      (λ a b u v less p q. let high : set_number (t ∷ ts) u ≤ 2 * set_number ts a + 1 = p.1 in let low : 2 * set_number ts b ≤ set_number (t ∷ ts) v = q.0 in omega arith)
      (subsets ts)
      (All-weaker (λ s. IsSublist s ts) (λ s. All (IsBetween s) (s ∷ (t ∷ s) ∷ [])) both_between (subsets ts) (subsets_are_sublists ts))
      (All-weaker (λ s. IsSublist s ts) (λ s. AllPairs IsBelow (s ∷ (t ∷ s) ∷ [])) both_by_number (subsets ts) (subsets_are_sublists ts))
      ascending

-- the subsets of tasks without repeats come by ascending number
pub subsets_by_number : (ts : List Task) → AllPairs (λ a b. a ≢ b) ts → AllPairs (λ a b. set_number ts a < set_number ts b) (subsets ts)
subsets_by_number [] once = λ i j d before below. absurd (omega arith)
subsets_by_number (t ∷ ts) once =
    let parts = AllPairs-parts (λ a b. a ≢ b) t ts once in
    more_by_number t ts parts.0 (subsets_by_number ts parts.1)
