-- The tasks of a block, picked from all tasks, are the block's list; so each state is that with all tasks done.
use Rattle.std.proofs.Common.{◌≡◌, ◌≢◌, ℕ, zero, suc, ◌+◌, ◌<◌, ◌⊎◌, inl, inr, List, [], ◌∷◌, ◌++◌, Bool, true, false, if◌then◌else◌, map, All, refl, sym, ◌∙◌, ap, ap₂, subst}
use Rattle.std.specs.Prelude.{◌&&◌, ◌==◌, filter, AllPairs}
use Rattle.std.proofs.lemmas.Bool.{and_parts, and_from, eqb-true, eq-eqb}
use Rattle.std.proofs.lemmas.List.Elements.{All-nil, All-cons, All-append, All-head, All-tail}
use Rattle.structure_rules.specs.declared.Structure.TheVariants.{Lower}
use Rattle.operation_spec.specs.declared.operation.Operation.{Operation}
use Rattle.operation_spec.specs.declared.operation.Form.TheVariants.{Ldl}
use Rattle.operation_spec.specs.declared.task.Task.{Task}
use Rattle.operation_spec.specs.ValidOperations.{IsValid}
use Rattle.equation.specs.declared.job.Place.{Place}
use Rattle.equation.proofs.ValidForms.{ldl-lower}
use Rattle.task_graph.specs.Tasks.{has, is_work_block, parts_of}
use Rattle.task_graph.specs.Order.{tasks_of}
use Rattle.task_graph.specs.Listing.{block_of}
use Rattle.task_graph.proofs.TasksExist.{has-listed, listed-has}
use Rattle.task_graph.proofs.TasksSorted.{tasks_of-once}
use Rattle.block_values.specs.Trees.{Tree}
use Rattle.block_values.specs.Orders.{in_order}
use Rattle.block_values.specs.States.{state_tree, full_tree}
use Rattle.block_values.proofs.Orders.{Among, IsOnce, among-contains, contains-among, IsOnce-pairs}
use Rattle.block_values.proofs.BlockTasks.{IsTaskAt, in_order-block}
use Rattle.block_expr.specs.Places.{each_below, place_at, if_work_block, row_places, work_places}
use Rattle.pme_builder.specs.Pmes.{is_at, state_at, block_trees}

-- ---- tasks that pass a test

module _ (p : Task → Bool) where
  among-filter : (a : Task) (xs : List Task) → Among a (filter p xs) → Among a xs × (p a ≡ true)
  among-filter a [] among = absurd among
  among-filter a (x ∷ xs) among = go (p x) refl (among-filter a xs) among
    where
      go : (b : Bool) → p x ≡ b → (Among a (filter p xs) → Among a xs × (p a ≡ true)) → Among a (if b then x ∷ filter p xs else filter p xs) → Among a (x ∷ xs) × (p a ≡ true)
      go true h rest (inl same) = (inl same, subst (λ z. p z ≡ true) (sym same) h)
      go true h rest (inr among) = (inr (rest among).0, (rest among).1)
      go false h rest among = (inr (rest among).0, (rest among).1)

  filter-among : (a : Task) (xs : List Task) → Among a xs → p a ≡ true → Among a (filter p xs)
  filter-among a [] among passes = absurd among
  filter-among a (x ∷ xs) among passes = go (p x) refl (λ found. filter-among a xs found passes) among
    where
      go : (b : Bool) → p x ≡ b → (Among a xs → Among a (filter p xs)) → Among a (x ∷ xs) → Among a (if b then x ∷ filter p xs else filter p xs)
      go true h rest (inl same) = inl same
      go true h rest (inr among) = inr (rest among)
      go false h rest (inl same) = let passed : p x ≡ true = subst (λ z. p z ≡ true) same passes in absurd (cc)
      go false h rest (inr among) = rest among

  once-filter : (xs : List Task) → IsOnce xs → IsOnce (filter p xs)
  once-filter [] once = tt
  once-filter (x ∷ xs) once = go (p x) (once-filter xs once.1)
    where
      go : (b : Bool) → IsOnce (filter p xs) → IsOnce (if b then x ∷ filter p xs else filter p xs)
      go true rest = (λ among. once.0 (among-filter x xs among).0, rest)
      go false rest = rest

-- ---- the tasks of a block

module _ (op : Operation) (counts : List ℕ) (valid : IsValid op) where
  own-in_order : (i j : ℕ) → is_work_block op counts i j ≡ true → in_order op (filter (is_at i j) (tasks_of op counts)) ≡ block_of op counts i j
  own-in_order i j work = in_order-block op counts (ldl-lower op valid) i j work (filter (is_at i j) (tasks_of op counts))
      (once-filter (is_at i j) (tasks_of op counts) (IsOnce-pairs (tasks_of op counts) (tasks_of-once op counts)))
      (λ a among.
      let found = among-filter (is_at i j) a (tasks_of op counts) among in
      let at = and_parts (a.i == i) (a.j == j) found.1 in
      (has-listed op counts a (contains-among a (tasks_of op counts) found.0), eqb-true a.i i at.0, eqb-true a.j j at.1))
      (λ a at. filter-among (is_at i j) a (tasks_of op counts) (among-contains a (tasks_of op counts) (listed-has op counts a (ldl-lower op valid) at.0))
      (and_from (a.i == i) (a.j == j) (eq-eqb a.i i at.1) (eq-eqb a.j j at.2)))

  -- ---- all blocks

  IsWork : Place → Type 0
  IsWork at = is_work_block op counts at.row at.col ≡ true

  all-each : (P : Place → Type 0) (f : ℕ → List Place) (n : ℕ) → ((k : ℕ) → All P (f k)) → All P (each_below f n)
  all-each P f zero each = All-nil P
  all-each P f (suc n) each = All-append P (each_below f n) (f n) (all-each P f n each) (each n)

  all-work : All IsWork (work_places op counts)
  unfolding IsWork
  all-work = all-each IsWork (row_places op counts) (parts_of counts op.work.rows) (λ i. all-each IsWork (if_work_block op counts i) (parts_of counts op.work.cols) (λ j. one i j))
    where
      one : (i j : ℕ) → All IsWork (if_work_block op counts i j)
      one i j = go (is_work_block op counts i j) refl
        where
          go : (b : Bool) → is_work_block op counts i j ≡ b → All IsWork (if b then place_at i j ∷ [] else [])
          go true h = All-cons IsWork (place_at i j) [] h (All-nil IsWork)
          go false h = All-nil IsWork

  states-same : (places : List Place) → All IsWork places → map (state_at op (tasks_of op counts)) places ≡ map (λ (at : Place). full_tree op counts at.row at.col) places
  unfolding IsWork
  states-same [] work = refl
  states-same (at ∷ places) work = ap₂ (λ e es. e ∷ es)
      (ap (λ tasks. state_tree op at.row at.col tasks) (own-in_order at.row at.col (All-head IsWork at places work)))
      (states-same places (All-tail IsWork at places work))

  pub states_full : map (state_at op (tasks_of op counts)) (work_places op counts) ≡ block_trees op counts
  states_full = states-same (work_places op counts) all-work

-- the same as code finds them
pub states_are_full : (op : Operation) (counts parts : List ℕ) → IsValid op → (found : List Task) (places : List Place) (trees : List Tree)
    → parts ≡ counts → found ≡ tasks_of op parts → places ≡ work_places op parts → trees ≡ map (state_at op found) places → trees ≡ block_trees op counts
states_are_full op counts parts valid found places trees same tasks_are places_are trees_are =
    trees_are
    ∙ ap (λ xs. map (state_at op xs) places) tasks_are ∙ ap (λ ps. map (state_at op (tasks_of op parts)) ps) places_are
    ∙ states_full op parts valid ∙ ap (block_trees op) same
