-- An operation of at most two terms has few tasks where each dimension is cut into few parts. Cited by the law
-- of the cuts that a loop makes.
use Rattle.std.proofs.Common.{◌≡◌, ℕ, zero, suc, ◌+◌, ◌*◌, ◌≤◌, List, [], ◌∷◌, length, Bool, true, false, not, if◌then◌else◌, map, refl, ◌∙◌, arith, length-append}
use Rattle.std.specs.Prelude.{All}
use Rattle.std.specs.List.{filter, flat_map}
use Rattle.std.proofs.Math.Nat.{suc-mul, mul-le-mul_right}
use Rattle.std.proofs.lemmas.Bool.{cond_both}
use Rattle.std.proofs.lemmas.List.{length-map, length-reverse}
use Rattle.std.proofs.lemmas.List.Elements.{All-map, All-tail}
use Rattle.std.proofs.lemmas.List.Filters.{length-filter_both}
use Rattle.operation_spec.specs.declared.operation.Operation.{Operation}
use Rattle.operation_spec.specs.declared.operation.Term.{Term}
use Rattle.operation_spec.specs.declared.split.Split.{Split}
use Rattle.operation_spec.specs.declared.task.Task.{Task}
use Rattle.task_graph.specs.Factors.{factor_cols}
use Rattle.task_graph.specs.Tasks.{parts_of, has}
use Rattle.task_graph.specs.Order.{numbers_below, numbers_in, term_candidates, candidates, tasks_of, rows_descend, cols_descend}
use Rattle.invariant_family.specs.Splits.{is_split}
use Rattle.invariant_family.proofs.AllSplits.{length-numbers_below}

-- ---- the lengths of lists

-- at most n parts, of at most so many items
length-flat_map-le : {X Y : Type 0} (f : X → List Y) (most : ℕ) → ((x : X) → length (f x) ≤ most) → (xs : List X) (n : ℕ) → length xs ≤ n → length (flat_map f xs) ≤ n * most
length-flat_map-le f most few [] n short = omega arith
length-flat_map-le f most few (x ∷ xs) zero short = absurd (omega arith)
length-flat_map-le f most few (x ∷ xs) (suc n) short =
    omega (arith, length-append (f x) (flat_map f xs), few x, length-flat_map-le f most few xs n (omega arith), suc-mul n most)

length-numbers_in : (descend : Bool) (n : ℕ) → length (numbers_in descend n) ≡ n
length-numbers_in true n = length-reverse (numbers_below n) ∙ length-numbers_below n
length-numbers_in false n = length-numbers_below n

-- ---- at most m parts

module _ (m : ℕ) where
  -- of each dimension; one that is not there has none
  abbrev pub AreFew : List ℕ → Type 0
  AreFew counts = (d : ℕ) → parts_of counts d ≤ m

  AreFew-all : (counts : List ℕ) → All (λ count. count ≤ m) counts → AreFew counts
  AreFew-all [] each d = omega arith
  AreFew-all (count ∷ counts) each zero = each 0 0 (omega arith)
  AreFew-all (count ∷ counts) each (suc d) = AreFew-all counts (All-tail (λ count. count ≤ m) count counts each) d

  -- where a loop along a split cuts its dimensions into so many parts
  pub AreFew-cut : (split : Split) (n : ℕ) → 1 ≤ m → AreFew (map (λ d. if is_split split d then m else 1) (numbers_below n))
  AreFew-cut split n some = AreFew-all _ (All-map (λ count. count ≤ m) (λ d. if is_split split d then m else 1) (numbers_below n)
      (λ k d below. cond_both _ m 1 (λ count. count ≤ m) (λ along. omega arith) (λ whole. some)))

  -- ---- the tasks

  -- a term has at most m products in a block
  term_candidates-few : (op : Operation) (counts : List ℕ) (terms : List Term) (t i j : ℕ) → AreFew counts → length (term_candidates op counts terms t i j) ≤ length terms * m
  term_candidates-few op counts [] t i j few = omega arith
  term_candidates-few op counts (term ∷ terms) t i j few =
      simp (length-append, length-map, length-numbers_below)
      (omega (arith, few (factor_cols op term.first), term_candidates-few op counts terms (t + 1) i j few, suc-mul (length terms) m))

  -- a block has at most 2 m products of terms, m updates on each side, and its solve
  candidates-few : (op : Operation) (counts : List ℕ) (i j : ℕ) → length op.terms ≤ 2 → AreFew counts → length (candidates op counts i j) ≤ 4 * m + 1
  candidates-few op counts i j terms few =
      simp (length-append, length-map, length-numbers_below)
      (omega (arith, term_candidates-few op counts op.terms 1 i j few, mul-le-mul_right m terms, few op.work.rows, few op.work.cols))

  block-few : (op : Operation) (counts : List ℕ) (i j : ℕ) → length op.terms ≤ 2 → AreFew counts → length (filter (has op counts) (candidates op counts i j)) ≤ 4 * m + 1
  block-few op counts i j terms few =
      omega (arith, candidates-few op counts i j terms few, length-filter_both (has op counts) (λ task. not (has op counts task)) (λ task. refl) (candidates op counts i j))

  -- a row has at most m blocks
  row-few : (op : Operation) (counts : List ℕ) (i : ℕ) → length op.terms ≤ 2 → AreFew counts
      → length (flat_map (λ j. filter (has op counts) (candidates op counts i j)) (numbers_in (cols_descend op) (parts_of counts op.work.cols))) ≤ m * (4 * m + 1)
  row-few op counts i terms few = length-flat_map-le (λ j. filter (has op counts) (candidates op counts i j)) (4 * m + 1) (λ j. block-few op counts i j terms few)
      (numbers_in (cols_descend op) (parts_of counts op.work.cols)) m (omega (arith, few op.work.cols, length-numbers_in (cols_descend op) (parts_of counts op.work.cols)))

  -- and there are at most m rows
  pub tasks_of-few : (op : Operation) (counts : List ℕ) → length op.terms ≤ 2 → AreFew counts → length (tasks_of op counts) ≤ m * (m * (4 * m + 1))
  tasks_of-few op counts terms few = length-flat_map-le {Y = Task} _ (m * (4 * m + 1)) (λ i. row-few op counts i terms few)
      (numbers_in (rows_descend op) (parts_of counts op.work.rows)) m (omega (arith, few op.work.rows, length-numbers_in (rows_descend op) (parts_of counts op.work.rows)))
