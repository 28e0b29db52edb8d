-- The list of a block's tasks has each of them once, and whoever has each once has this list, in canonical order.
use Rattle.std.proofs.Common.{◌≡◌, ◌≢◌, ℕ, zero, suc, ◌<◌, List, [], ◌∷◌, length, get_or, true, false, sym, subst, arith}
use Rattle.operation_spec.specs.declared.operation.Operation.{Operation}
use Rattle.operation_spec.specs.declared.task.Task.{Task}
use Rattle.operation_spec.specs.ValidOperations.{IsValid}
use Rattle.task_graph.specs.Order.{is_earlier}
use Rattle.task_graph.specs.Tasks.{is_work_block}
use Rattle.task_graph.specs.Listing.{block_of}
use Rattle.task_graph.proofs.EarlierTasks.{is_earlier-same}
use Rattle.task_graph.proofs.ValidFactors.{lower-valid}
use Rattle.block_values.specs.Orders.{AreAll, in_order}
use Rattle.block_values.proofs.Orders.{Among, IsBefore, IsSorted, IsOnce-pairs, among-contains, contains-among}
use Rattle.block_values.proofs.BlockTasks.{IsTaskAt, at-block, sorted-block, block-has, in_order-block}

-- ---- a list in order has no task twice

not_earlier : (op : Operation) (a b : Task) → is_earlier op a b ≡ true → a ≢ b
not_earlier op a b h same =
    let none : is_earlier op a a ≡ false = is_earlier-same op a in
    let some : is_earlier op a a ≡ true = subst (λ z. is_earlier op a z ≡ true) (sym same) h in
    absurd (cc)

before-at : (op : Operation) (a : Task) (xs : List Task) → IsBefore op a xs → (k : ℕ) (d : Task) → k < length xs → is_earlier op a (get_or xs k d) ≡ true
before-at op a [] before k d below = absurd (omega arith)
before-at op a (x ∷ xs) before zero d below = before.0
before-at op a (x ∷ xs) before (suc k) d below = before-at op a xs before.1 k d (omega arith)

once-sorted : (op : Operation) (xs : List Task) → IsSorted op xs → (i j : ℕ) (d : Task) → i < j → j < length xs → get_or xs i d ≢ get_or xs j d
once-sorted op [] sorted i j d less below = absurd (omega arith)
once-sorted op (x ∷ xs) sorted zero zero d less below = absurd (omega arith)
once-sorted op (x ∷ xs) sorted zero (suc j) d less below = not_earlier op x (get_or xs j d) (before-at op x xs sorted.0 j d (omega arith))
once-sorted op (x ∷ xs) sorted (suc i) zero d less below = absurd (omega arith)
once-sorted op (x ∷ xs) sorted (suc i) (suc j) d less below = once-sorted op xs sorted.1 i j d (omega arith) (omega arith)

-- ---- the list of a block

module _ (op : Operation) (counts : List ℕ) (valid : IsValid op) (i j : ℕ) (work : is_work_block op counts i j ≡ true) where
  block-has_at : (a : Task) → IsTaskAt op counts i j a → Among a (block_of op counts i j)
  block-has_at a at = subst (λ (p : ℕ). Among a (block_of op counts p j)) at.1
      (subst (λ (q : ℕ). Among a (block_of op counts a.i q)) at.2 (block-has op counts (lower-valid op valid) a at.0))

  pub all_listed : AreAll op counts i j (block_of op counts i j)
  all_listed = record {
    once = once-sorted op (block_of op counts i j) (sorted-block op counts i j work);
    own = λ a has. at-block op counts i j a (among-contains a (block_of op counts i j) has);
    all = λ a at. contains-among a (block_of op counts i j) (block-has_at a at);
  }

  pub in_order_listed : (done : List Task) → AreAll op counts i j done → in_order op done ≡ block_of op counts i j
  in_order_listed done are = in_order-block op counts (lower-valid op valid) i j work done (IsOnce-pairs done are.once)
      (λ a among. are.own a (contains-among a done among)) (λ a at. among-contains a done (are.all a at))
