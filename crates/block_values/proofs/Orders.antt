-- Tasks put in canonical order: what stays of a list, and that all tasks of a block, in whatever order, become the block's list.
use Rattle.std.proofs.Common.{◌≡◌, ◌≢◌, ℕ, zero, suc, ◌+◌, ◌⊎◌, inl, inr, List, [], ◌∷◌, Bool, true, false, if◌then◌else◌, refl, sym, ◌∙◌, ap, ap₂, subst, arith}
use Rattle.std.specs.Prelude.{◌||◌, AllPairs, Contains}
use Rattle.operation_spec.specs.declared.operation.Operation.{Operation}
use Rattle.operation_spec.specs.declared.task.Task.{Task}
use Rattle.task_graph.specs.Needs.{is_solve}
use Rattle.task_graph.specs.Order.{is_earlier}
use Rattle.task_graph.proofs.EarlierTasks.{is_earlier-same, is_earlier-trans, is_earlier-total}
use Rattle.block_values.specs.Values.{Setting}
use Rattle.block_values.specs.States.{has_solved}
use Rattle.block_values.specs.Orders.{placed, placed_all, in_order}
use Rattle.block_values.proofs.TaskShares.{task_share, shares}

-- ---- what stays: the shares, and whether a solve is there

shares-placed : (s : Setting) (op : Operation) (taken : Bool) (a : Task) (xs : List Task) (r c : ℕ)
    → shares s taken (placed op a xs) r c ≡ task_share s taken a r c + shares s taken xs r c
shares-placed s op taken a [] r c = refl
shares-placed s op taken a (b ∷ xs) r c = go (is_earlier op a b) (shares-placed s op taken a xs r c)
  where
    go : (t : Bool) → shares s taken (placed op a xs) r c ≡ task_share s taken a r c + shares s taken xs r c → shares s taken (if t then a ∷ b ∷ xs else b ∷ placed op a xs) r c ≡ task_share s taken a r c + (task_share s taken b r c + shares s taken xs r c)
    go true h = refl
    go false h = omega (arith, h)

shares-placed_all : (s : Setting) (op : Operation) (taken : Bool) (xs ys : List Task) (r c : ℕ)
    → shares s taken (placed_all op xs ys) r c ≡ shares s taken xs r c + shares s taken ys r c
shares-placed_all s op taken xs [] r c = omega arith
shares-placed_all s op taken xs (a ∷ ys) r c = omega (arith, shares-placed_all s op taken (placed op a xs) ys r c, shares-placed s op taken a xs r c)

pub shares-in_order : (s : Setting) (op : Operation) (taken : Bool) (xs : List Task) (r c : ℕ) → shares s taken (in_order op xs) r c ≡ shares s taken xs r c
shares-in_order s op taken xs r c = omega (arith, shares-placed_all s op taken [] xs r c)

or-swap : (x y z : Bool) → (y || (x || z)) ≡ (x || (y || z))
or-swap true true z = refl
or-swap true false z = refl
or-swap false true z = refl
or-swap false false z = refl

has_solved-placed : (op : Operation) (a : Task) (xs : List Task) → has_solved (placed op a xs) ≡ (is_solve a.kind || has_solved xs)
has_solved-placed op a [] = refl
has_solved-placed op a (b ∷ xs) = go (is_earlier op a b) (has_solved-placed op a xs)
  where
    go : (t : Bool) → has_solved (placed op a xs) ≡ (is_solve a.kind || has_solved xs) → has_solved (if t then a ∷ b ∷ xs else b ∷ placed op a xs) ≡ (is_solve a.kind || (is_solve b.kind || has_solved xs))
    go true h = refl
    go false h = ap (λ z. is_solve b.kind || z) h ∙ or-swap (is_solve a.kind) (is_solve b.kind) (has_solved xs)

or-assoc : (x y z : Bool) → ((x || y) || z) ≡ (y || (x || z))
or-assoc true true z = refl
or-assoc true false z = refl
or-assoc false true z = refl
or-assoc false false z = refl

has_solved-placed_all : (op : Operation) (xs ys : List Task) → has_solved (placed_all op xs ys) ≡ (has_solved xs || has_solved ys)
has_solved-placed_all op xs [] = or-none (has_solved xs)
  where
    or-none : (x : Bool) → x ≡ (x || false)
    or-none true = refl
    or-none false = refl
has_solved-placed_all op xs (a ∷ ys) = has_solved-placed_all op (placed op a xs) ys
    ∙ ap (λ z. z || has_solved ys) (has_solved-placed op a xs) ∙ or-assoc (is_solve a.kind) (has_solved xs) (has_solved ys)

pub has_solved-in_order : (op : Operation) (xs : List Task) → has_solved (in_order op xs) ≡ has_solved xs
has_solved-in_order op xs = has_solved-placed_all op [] xs

-- ---- lists in order, task by task

abbrev pub Among : Task → List Task → Type 0
Among a [] = ⊥
Among a (b ∷ xs) = (a ≡ b) ⊎ Among a xs

-- a comes before each of them
abbrev pub IsBefore : Operation → Task → List Task → Type 0
IsBefore op a [] = Unit {0}
IsBefore op a (b ∷ xs) = (is_earlier op a b ≡ true) × IsBefore op a xs

abbrev pub IsSorted : Operation → List Task → Type 0
IsSorted op [] = Unit {0}
IsSorted op (a ∷ xs) = IsBefore op a xs × IsSorted op xs

-- no task stands twice
abbrev pub IsOnce : List Task → Type 0
IsOnce [] = Unit {0}
IsOnce (a ∷ xs) = ¬ (Among a xs) × IsOnce xs

module _ (op : Operation) where
  not_itself : (a b : Task) → a ≡ b → is_earlier op a b ≡ true → ⊥
  not_itself a b e h = let none : is_earlier op a a ≡ false = is_earlier-same op a in
      let some : is_earlier op a a ≡ true = subst (λ z. is_earlier op a z ≡ true) (sym e) h in absurd (cc)

  before_among : (a b : Task) (xs : List Task) → IsBefore op a xs → Among b xs → is_earlier op a b ≡ true
  before_among a b [] before among = absurd among
  before_among a b (x ∷ xs) before (inl same) = subst (λ z. is_earlier op a z ≡ true) (sym same) before.0
  before_among a b (x ∷ xs) before (inr among) = before_among a b xs before.1 among

  before_all : (a : Task) (xs : List Task) → ((b : Task) → Among b xs → is_earlier op a b ≡ true) → IsBefore op a xs
  before_all a [] each = tt
  before_all a (x ∷ xs) each = (each x (inl refl), before_all a xs (λ b among. each b (inr among)))

  -- two lists in order that have the same tasks
  pub sorted-same : (xs ys : List Task) → IsSorted op xs → IsSorted op ys → ((a : Task) → Among a xs → Among a ys) → ((a : Task) → Among a ys → Among a xs) → xs ≡ ys
  sorted-same [] [] p q there back = refl
  sorted-same [] (b ∷ ys) p q there back = absurd (back b (inl refl))
  sorted-same (a ∷ xs) [] p q there back = absurd (there a (inl refl))
  sorted-same (a ∷ xs) (b ∷ ys) p q there back = ap₂ (λ (x : Task) (zs : List Task). x ∷ zs) first
      (sorted-same xs ys p.1 q.1 (λ c among. in_tail a b c xs ys first p.0 (there c (inr among)) among)
      (λ c among. in_tail b a c ys xs (sym first) q.0 (back c (inr among)) among))
    where
      heads : (a ≡ b) ⊎ Among a ys → (b ≡ a) ⊎ Among b xs → a ≡ b
      heads (inl same) other = same
      heads (inr in_ys) (inl same) = sym same
      heads (inr in_ys) (inr in_xs) = absurd (not_itself a a refl
          (is_earlier-trans op a b a (before_among a b xs p.0 in_xs) (before_among b a ys q.0 in_ys)))

      first : a ≡ b
      first = heads (there a (inl refl)) (back b (inl refl))

      in_tail : (a b c : Task) (xs ys : List Task) → a ≡ b → IsBefore op a xs → (c ≡ b) ⊎ Among c ys → Among c xs → Among c ys
      in_tail a b c xs ys first before (inl same) among = absurd (not_itself a c (first ∙ sym same) (before_among a c xs before among))
      in_tail a b c xs ys first before (inr found) among = found

  -- ---- a task put in its place

  placed-among : (a b : Task) (xs : List Task) → Among b (placed op a xs) → (b ≡ a) ⊎ Among b xs
  placed-among a b [] among = among
  placed-among a b (x ∷ xs) among = go (is_earlier op a x) (placed-among a b xs) among
    where
      go : (t : Bool) → (Among b (placed op a xs) → (b ≡ a) ⊎ Among b xs) → Among b (if t then a ∷ x ∷ xs else x ∷ placed op a xs) → (b ≡ a) ⊎ Among b (x ∷ xs)
      go true rest among = among
      go false rest (inl same) = inr (inl same)
      go false rest (inr among) = elim (rest among) [
        | inl same ↦ inl same
        | inr found ↦ inr (inr found)
      ]

  among-placed : (a b : Task) (xs : List Task) → (b ≡ a) ⊎ Among b xs → Among b (placed op a xs)
  among-placed a b [] among = among
  among-placed a b (x ∷ xs) among = go (is_earlier op a x) (among-placed a b xs) among
    where
      go : (t : Bool) → ((b ≡ a) ⊎ Among b xs → Among b (placed op a xs)) → (b ≡ a) ⊎ Among b (x ∷ xs) → Among b (if t then a ∷ x ∷ xs else x ∷ placed op a xs)
      go true rest among = among
      go false rest (inl same) = inr (rest (inl same))
      go false rest (inr (inl same)) = inl same
      go false rest (inr (inr among)) = inr (rest (inr among))

  placed-sorted : (a : Task) (xs : List Task) → IsSorted op xs → ¬ (Among a xs) → IsSorted op (placed op a xs)
  placed-sorted a [] sorted apart = (tt, tt)
  placed-sorted a (x ∷ xs) sorted apart = go (is_earlier op a x) refl (placed-sorted a xs sorted.1 (λ among. apart (inr among)))
    where
      later : is_earlier op a x ≡ false → is_earlier op x a ≡ true
      later h = elim (is_earlier-total op a x) [
        | inl same ↦ absurd (apart (inl same))
        | inr (inl before) ↦ absurd (cc)
        | inr (inr behind) ↦ behind
      ]

      go : (t : Bool) → is_earlier op a x ≡ t → IsSorted op (placed op a xs) → IsSorted op (if t then a ∷ x ∷ xs else x ∷ placed op a xs)
      go true h rest = ((h, before_all a xs (λ b among. is_earlier-trans op a x b h (before_among x b xs sorted.0 among))), sorted)
      go false h rest = (
        before_all x (placed op a xs) (λ b among. elim (placed-among a b xs among) [
          | inl same ↦ subst (λ z. is_earlier op x z ≡ true) (sym same) (later h)
          | inr found ↦ before_among x b xs sorted.0 found
        ]),
        rest,
      )

  -- ---- all tasks

  placed_all-among : (b : Task) (xs ys : List Task) → Among b (placed_all op xs ys) → Among b xs ⊎ Among b ys
  placed_all-among b xs [] among = inl among
  placed_all-among b xs (a ∷ ys) among = elim (placed_all-among b (placed op a xs) ys among) [
    | inl found ↦ (elim (placed-among a b xs found) [
      | inl same ↦ inr (inl same)
      | inr before ↦ inl before
    ])
    | inr found ↦ inr (inr found)
  ]

  among-placed_all : (b : Task) (xs ys : List Task) → Among b xs ⊎ Among b ys → Among b (placed_all op xs ys)
  among-placed_all b xs [] (inl among) = among
  among-placed_all b xs [] (inr among) = absurd among
  among-placed_all b xs (a ∷ ys) (inl among) = among-placed_all b (placed op a xs) ys (inl (among-placed a b xs (inr among)))
  among-placed_all b xs (a ∷ ys) (inr (inl same)) = among-placed_all b (placed op a xs) ys (inl (among-placed a b xs (inl same)))
  among-placed_all b xs (a ∷ ys) (inr (inr among)) = among-placed_all b (placed op a xs) ys (inr among)

  placed_all-sorted : (xs ys : List Task) → IsSorted op xs → IsOnce ys → ((a : Task) → Among a ys → ¬ (Among a xs)) → IsSorted op (placed_all op xs ys)
  placed_all-sorted xs [] sorted once apart = sorted
  placed_all-sorted xs (a ∷ ys) sorted once apart = placed_all-sorted (placed op a xs) ys (placed-sorted a xs sorted (apart a (inl refl))) once.1
      (λ b among found. elim (placed-among a b xs found) [
        | inl same ↦ once.0 (subst (λ z. Among z ys) same among)
        | inr before ↦ apart b (inr among) before
      ])

  -- tasks that are those of a list in order, in whatever order, become that list
  pub in_order-is : (xs ys : List Task) → IsOnce xs → IsSorted op ys → ((a : Task) → Among a xs → Among a ys) → ((a : Task) → Among a ys → Among a xs) → in_order op xs ≡ ys
  in_order-is xs ys once sorted there back = sorted-same (in_order op xs) ys
      (placed_all-sorted [] xs tt once (λ a among none. none)) sorted
      (λ a among. elim (placed_all-among a [] xs among) [
        | inl none ↦ absurd none
        | inr found ↦ there a found
      ])
      (λ a among. among-placed_all a [] xs (inr (back a among)))

-- ---- from the words of clauses

pub among-contains : (a : Task) (xs : List Task) → Contains xs a → Among a xs
among-contains a [] h = absurd (omega (arith, h.1))
among-contains a (x ∷ xs) (zero, below, is) = inl (sym is)
among-contains a (x ∷ xs) (suc k, below, is) = inr (among-contains a xs (k, omega arith, is))

pub contains-among : (a : Task) (xs : List Task) → Among a xs → Contains xs a
contains-among a [] h = absurd h
contains-among a (x ∷ xs) (inl same) = (zero, omega arith, sym same)
contains-among a (x ∷ xs) (inr among) = let found = contains-among a xs among in (suc found.0, omega (arith, found.1), found.2)

pub IsOnce-pairs : (xs : List Task) → AllPairs (λ a b. a ≢ b) xs → IsOnce xs
IsOnce-pairs [] pairs = tt
IsOnce-pairs (x ∷ xs) pairs = (
  λ among. let found = contains-among x xs among in pairs zero (suc found.0) x (omega arith) (omega (arith, found.1)) (sym found.2),
  IsOnce-pairs xs (λ i j d h k. pairs (suc i) (suc j) d (omega arith) (omega arith)),
)

pub IsSorted-pairs : (op : Operation) (xs : List Task) → AllPairs (λ a b. is_earlier op a b ≡ true) xs → IsSorted op xs
IsSorted-pairs op [] pairs = tt
IsSorted-pairs op (x ∷ xs) pairs = (
  before_all op x xs (λ b among. let found = contains-among b xs among in subst (λ z. is_earlier op x z ≡ true) found.2 (pairs zero (suc found.0) b (omega arith) (omega (arith, found.1)))),
  IsSorted-pairs op xs (λ i j d h k. pairs (suc i) (suc j) d (omega arith) (omega arith)),
)
