-- The canonical order of tasks is a strict order: level by level, row, column, kind, term, inner part.
use Rattle.std.proofs.Common.{◌≡◌, ◌≢◌, ℕ, ◌<◌, ◌⊎◌, inl, inr, subst, Bool, true, false, ◌&&◌, ◌||◌, nat_lt, refl, sym, ap, ◌∙◌, arith}
use Rattle.std.specs.Prelude.{◌==◌}
use Rattle.std.proofs.lemmas.Bool.{and_from, and_parts, and_right, eqb-true, eq-eqb, lt-ltb, or_cases, or_left, or_right, cases_eq}
use Rattle.std.proofs.lemmas.Bool.Decides.{nat_tests}
use Rattle.operation_spec.specs.declared.operation.Operation.{Operation}
use Rattle.operation_spec.specs.declared.task.Kind.{Kind}
use Rattle.operation_spec.specs.declared.task.Task.{Task}
use Rattle.task_graph.specs.Order.{comes_before, rank, earlier_in_block, is_earlier, rows_descend, cols_descend, task_of}

-- ---- numbers in a direction

comes_before-same : (descend : Bool) (n : ℕ) → comes_before descend n n ≡ false
comes_before-same true n = grind (arith, nat_tests)
comes_before-same false n = grind (arith, nat_tests)

comes_before-trans : (descend : Bool) (a b c : ℕ) → comes_before descend a b ≡ true → comes_before descend b c ≡ true → comes_before descend a c ≡ true
comes_before-trans true a b c h k = grind (arith, nat_tests)
comes_before-trans false a b c h k = grind (arith, nat_tests)

comes_before-total : (descend : Bool) (a b : ℕ) → a ≢ b → (comes_before descend a b ≡ true) ⊎ (comes_before descend b a ≡ true)
comes_before-total true a b h = grind (arith, nat_tests)
comes_before-total false a b h = grind (arith, nat_tests)

-- ---- one level over the next: by a number first, and where it is the same by the rest

module _ (less : ℕ → ℕ → Bool) where
  level-same : (a : ℕ) (rest : Bool) → less a a ≡ false → rest ≡ false → (less a a || (a == a && rest)) ≡ false
  level-same a rest h k = rw (h, k) (and_right (a == a) false refl)

  level-first : (a b : ℕ) (rest : Bool) → less a b ≡ true → (less a b || (a == b && rest)) ≡ true
  level-first a b rest h = or_left (less a b) (a == b && rest) h

  level-next : (a b : ℕ) (rest : Bool) → a ≡ b → rest ≡ true → (less a b || (a == b && rest)) ≡ true
  level-next a b rest e h = or_right (less a b) (a == b && rest) (and_from (a == b) rest (eq-eqb a b e) h)

  level-cases : (a b : ℕ) (rest : Bool) → (less a b || (a == b && rest)) ≡ true → (less a b ≡ true) ⊎ ((a ≡ b) × (rest ≡ true))
  level-cases a b rest h = elim (or_cases (less a b) (a == b && rest) h) [
    | inl l ↦ inl l
    | inr r ↦ (let p = and_parts (a == b) rest r in inr (eqb-true a b p.0, p.1))
  ]

  level-trans : (trans : (a b c : ℕ) → less a b ≡ true → less b c ≡ true → less a c ≡ true) (a b c : ℕ) (r s t : Bool)
      → (r ≡ true → s ≡ true → t ≡ true)
      → (less a b || (a == b && r)) ≡ true → (less b c || (b == c && s)) ≡ true → (less a c || (a == c && t)) ≡ true
  level-trans trans a b c r s t rest h k = go (level-cases a b r h) (level-cases b c s k)
    where
      go : (less a b ≡ true) ⊎ ((a ≡ b) × (r ≡ true)) → (less b c ≡ true) ⊎ ((b ≡ c) × (s ≡ true)) → (less a c || (a == c && t)) ≡ true
      go (inl x) (inl y) = level-first a c t (trans a b c x y)
      go (inl x) (inr (e, y)) = level-first a c t (subst (λ n. less a n ≡ true) e x)
      go (inr (e, x)) (inl y) = level-first a c t (subst (λ n. less n c ≡ true) (sym e) y)
      go (inr (e, x)) (inr (d, y)) = level-next a c t (e ∙ d) (rest x y)

  level-total : (total : (a b : ℕ) → a ≢ b → (less a b ≡ true) ⊎ (less b a ≡ true)) (a b : ℕ) (r s : Bool) (Same : Type 0)
      → (a ≡ b → Same ⊎ ((r ≡ true) ⊎ (s ≡ true)))
      → Same ⊎ (((less a b || (a == b && r)) ≡ true) ⊎ ((less b a || (b == a && s)) ≡ true))
  level-total total a b r s Same rest = go (cases_eq a b)
    where
      same : (e : a ≡ b) → Same ⊎ ((r ≡ true) ⊎ (s ≡ true)) → Same ⊎ (((less a b || (a == b && r)) ≡ true) ⊎ ((less b a || (b == a && s)) ≡ true))
      same e (inl x) = inl x
      same e (inr (inl x)) = inr (inl (level-next a b r e x))
      same e (inr (inr x)) = inr (inr (level-next b a s (sym e) x))

      apart : (less a b ≡ true) ⊎ (less b a ≡ true) → Same ⊎ (((less a b || (a == b && r)) ≡ true) ⊎ ((less b a || (b == a && s)) ≡ true))
      apart (inl x) = inr (inl (level-first a b r x))
      apart (inr x) = inr (inr (level-first b a s x))

      go : (a ≡ b) ⊎ (a ≢ b) → Same ⊎ (((less a b || (a == b && r)) ≡ true) ⊎ ((less b a || (b == a && s)) ≡ true))
      go (inl e) = same e (rest e)
      go (inr e) = apart (total a b e)

-- ---- tasks

-- kinds with one place are one kind
rank-injective : (a b : Kind) → rank a ≡ rank b → a ≡ b
rank-injective a b h = grind arith

-- tasks that agree in all levels are one task
pub same_task : (a b : Task) → a.i ≡ b.i → a.j ≡ b.j → rank a.kind ≡ rank b.kind → a.term ≡ b.term → a.k ≡ b.k → a ≡ b
same_task a b i j kind term k = let e : a.kind ≡ b.kind = rank-injective a.kind b.kind kind in
    let same : task_of a.kind a.term a.i a.j a.k ≡ task_of b.kind b.term b.i b.j b.k = cc in same

-- no task is before itself
pub is_earlier-same : (op : Operation) (a : Task) → is_earlier op a a ≡ false
is_earlier-same op a =
    level-same (comes_before (rows_descend op)) a.i _ (comes_before-same (rows_descend op) a.i)
    (level-same (comes_before (cols_descend op)) a.j _ (comes_before-same (cols_descend op) a.j)
    (level-same nat_lt (rank a.kind) _ (comes_before-same false (rank a.kind))
    (level-same nat_lt a.term _ (comes_before-same false a.term) (comes_before-same false a.k))))

-- a task before one that is before a third is before the third
pub is_earlier-trans : (op : Operation) (a b c : Task) → is_earlier op a b ≡ true → is_earlier op b c ≡ true → is_earlier op a c ≡ true
is_earlier-trans op a b c =
    level-trans (comes_before (rows_descend op)) (comes_before-trans (rows_descend op)) a.i b.i c.i _ _ _
    (level-trans (comes_before (cols_descend op)) (comes_before-trans (cols_descend op)) a.j b.j c.j _ _ _
    (level-trans nat_lt (comes_before-trans false) (rank a.kind) (rank b.kind) (rank c.kind) _ _ _
    (level-trans nat_lt (comes_before-trans false) a.term b.term c.term _ _ _ (comes_before-trans false a.k b.k c.k))))

-- of two tasks one is before the other, or they are one
pub is_earlier-total : (op : Operation) (a b : Task) → (a ≡ b) ⊎ ((is_earlier op a b ≡ true) ⊎ (is_earlier op b a ≡ true))
is_earlier-total op a b =
    level-total (comes_before (rows_descend op)) (comes_before-total (rows_descend op)) a.i b.i _ _ (a ≡ b) (λ i.
    level-total (comes_before (cols_descend op)) (comes_before-total (cols_descend op)) a.j b.j _ _ (a ≡ b) (λ j.
    level-total nat_lt (comes_before-total false) (rank a.kind) (rank b.kind) _ _ (a ≡ b) (λ kind.
    level-total nat_lt (comes_before-total false) a.term b.term _ _ (a ≡ b) (λ term.
    last i j kind term (cases_eq a.k b.k)))))
  where
    last : a.i ≡ b.i → a.j ≡ b.j → rank a.kind ≡ rank b.kind → a.term ≡ b.term → (a.k ≡ b.k) ⊎ (a.k ≢ b.k)
        → (a ≡ b) ⊎ ((nat_lt a.k b.k ≡ true) ⊎ (nat_lt b.k a.k ≡ true))
    last i j kind term (inl k) = inl (same_task a b i j kind term k)
    last i j kind term (inr k) = inr (comes_before-total false a.k b.k k)

-- ---- what makes a task the earlier one

-- its row
pub earlier-by_row : (op : Operation) (a b : Task) → comes_before (rows_descend op) a.i b.i ≡ true → is_earlier op a b ≡ true
earlier-by_row op a b h = level-first (comes_before (rows_descend op)) a.i b.i _ h

-- in one row, its column
pub earlier-by_col : (op : Operation) (a b : Task) → a.i ≡ b.i → comes_before (cols_descend op) a.j b.j ≡ true → is_earlier op a b ≡ true
earlier-by_col op a b i h = level-next (comes_before (rows_descend op)) a.i b.i _ i (level-first (comes_before (cols_descend op)) a.j b.j _ h)

-- in one block, what makes it so there
earlier-in_block : (op : Operation) (a b : Task) → a.i ≡ b.i → a.j ≡ b.j → earlier_in_block a b ≡ true → is_earlier op a b ≡ true
earlier-in_block op a b i j h = level-next (comes_before (rows_descend op)) a.i b.i _ i (level-next (comes_before (cols_descend op)) a.j b.j _ j h)

-- its kind
pub earlier-by_kind : (op : Operation) (a b : Task) → a.i ≡ b.i → a.j ≡ b.j → rank a.kind < rank b.kind → is_earlier op a b ≡ true
earlier-by_kind op a b i j h = earlier-in_block op a b i j (level-first nat_lt (rank a.kind) (rank b.kind) _ (lt-ltb (rank a.kind) (rank b.kind) h))

-- of one kind, its term
pub earlier-by_term : (op : Operation) (a b : Task) → a.i ≡ b.i → a.j ≡ b.j → a.kind ≡ b.kind → a.term < b.term → is_earlier op a b ≡ true
earlier-by_term op a b i j kind h = earlier-in_block op a b i j (level-next nat_lt (rank a.kind) (rank b.kind) _ (ap rank kind) (level-first nat_lt a.term b.term _ (lt-ltb a.term b.term h)))

-- of one kind and term, its inner part
pub earlier-by_inner : (op : Operation) (kind : Kind) (t i j k l : ℕ) → k < l → is_earlier op (task_of kind t i j k) (task_of kind t i j l) ≡ true
earlier-by_inner op kind t i j k l h = earlier-in_block op (task_of kind t i j k) (task_of kind t i j l) refl refl
    (level-next nat_lt (rank kind) (rank kind) _ refl (level-next nat_lt t t _ refl (lt-ltb k l h)))
