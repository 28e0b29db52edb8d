-- What holds of lists that are joined from parts. Cited by the laws of families.
use Rattle.std.proofs.Common.{◌≡◌, zero, suc, List, [], ◌∷◌, Bool, true, false, cond, get_or, map, sym, ap, subst, arith}
use Rattle.std.specs.Prelude.{All, AllPairs, Contains}
use Rattle.std.specs.List.{filter, flat_map}
use Rattle.std.proofs.lemmas.List.Elements.{All-nil, All-head, All-tail, All-append, All-map, All-weaker, Contains-append_left, Contains-append_right}
use Rattle.std.proofs.lemmas.List.Kept.{AllPairs-cons}
use Rattle.task_graph.proofs.TasksSorted.{AllPairs-append}

-- ---- each item

pub All-flat_map : {X Y : Type 0} (P : Y → Type 0) (f : X → List Y) (xs : List X) → All (λ x. All P (f x)) xs → All P (flat_map f xs)
All-flat_map P f [] each = All-nil P
All-flat_map P f (x ∷ xs) each =
    All-append P (f x) (flat_map f xs) (All-head (λ x. All P (f x)) x xs each) (All-flat_map P f xs (All-tail (λ x. All P (f x)) x xs each))

-- ---- an item

-- an item of the tail
Contains-cons : {X : Type 0} (x : X) (xs : List X) (y : X) → Contains xs y → Contains (x ∷ xs) y
Contains-cons x xs y (k, below, at) = (suc k, omega arith, at)

pub Contains-flat_map : {X Y : Type 0} (f : X → List Y) (xs : List X) (x : X) (y : Y) → Contains xs x → Contains (f x) y → Contains (flat_map f xs) y
Contains-flat_map f [] x y (k, below, at) h = absurd (omega arith)
Contains-flat_map f (z ∷ zs) x y (zero, below, at) h = Contains-append_left (f z) (flat_map f zs) y (subst (λ w. Contains (f w) y) (sym at) h)
Contains-flat_map f (z ∷ zs) x y (suc k, below, at) h = Contains-append_right (f z) (flat_map f zs) y (Contains-flat_map f zs x y (k, omega arith, at) h)

pub Contains-map : {X Y : Type 0} (f : X → Y) (xs : List X) (x : X) → Contains xs x → Contains (map f xs) (f x)
Contains-map f [] x (k, below, at) = absurd (omega arith)
Contains-map f (z ∷ zs) x (zero, below, at) = (zero, omega arith, ap f at)
Contains-map f (z ∷ zs) x (suc k, below, at) = Contains-cons (f z) (map f zs) (f x) (Contains-map f zs x (k, omega arith, at))

-- an item that passes the test
pub Contains-filter : {X : Type 0} (test : X → Bool) (xs : List X) (x : X) → Contains xs x → test x ≡ true → Contains (filter test xs) x
Contains-filter test [] x (k, below, at) passes = absurd (omega arith)
Contains-filter test (z ∷ zs) x (zero, below, at) passes = rw (ap test at) (rw passes (zero, omega arith, at))
Contains-filter test (z ∷ zs) x (suc k, below, at) passes = either (Contains-filter test zs x (k, omega arith, at) passes) (test z)
  where
    either : Contains (filter test zs) x → (b : Bool) → Contains (cond b (z ∷ filter test zs) (filter test zs)) x
    either h true = Contains-cons z (filter test zs) x h
    either h false = h

-- ---- pairs of items

-- the head before each item of the tail, and the pairs of the tail
pub AllPairs-parts : {X : Type 0} (R : X → X → Type 0) (x : X) (xs : List X) → AllPairs R (x ∷ xs) → All (R x) xs × AllPairs R xs
AllPairs-parts R x xs pairs = (λ k d below. pairs zero (suc k) d (omega arith) (omega arith), λ i j d before below. pairs (suc i) (suc j) d (omega arith) (omega arith))

pub AllPairs-map : {X Y : Type 0} (R : Y → Y → Type 0) (f : X → Y) (xs : List X) → AllPairs (λ a b. R (f a) (f b)) xs → AllPairs R (map f xs)
AllPairs-map R f [] pairs = λ i j d before below. absurd (omega arith)
AllPairs-map R f (x ∷ xs) pairs =
    let parts = AllPairs-parts (λ a b. R (f a) (f b)) x xs pairs in
    AllPairs-cons R (f x) (map f xs) (All-map (R (f x)) f xs parts.0) (AllPairs-map R f xs parts.1)

-- parts whose items are related, where each item of a part is related to those of each later part
pub AllPairs-flat_map : {X Y : Type 0} (R : Y → Y → Type 0) (f : X → List Y) (P : X → Y → Type 0) (S : X → X → Type 0) → ((a b : X) (u v : Y) → S a b → P a u → P b v → R u v)
    → (xs : List X) → All (λ x. All (P x) (f x)) xs → All (λ x. AllPairs R (f x)) xs → AllPairs S xs → AllPairs R (flat_map f xs)
AllPairs-flat_map R f P S apart [] each within pairs = λ i j d before below. absurd (omega arith)
AllPairs-flat_map {X} {Y} R f P S apart (x ∷ xs) each within pairs =
    let parts = AllPairs-parts S x xs pairs in
    let Later : Y → Type 0 = λ v. (b : X) × S x b × P b v in
    let rest : All (λ b. All (P b) (f b)) xs = All-tail (λ b. All (P b) (f b)) x xs each in
    AllPairs-append R (P x) Later (f x) (flat_map f xs) (All-head (λ b. AllPairs R (f b)) x xs within)
    (AllPairs-flat_map R f P S apart xs rest (All-tail (λ b. AllPairs R (f b)) x xs within) parts.1)
    (All-head (λ b. All (P b) (f b)) x xs each)
    (All-flat_map Later f xs (λ k d below. All-weaker (P (get_or xs k d)) Later (λ v p. (get_or xs k d, parts.0 k d below, p)) (f (get_or xs k d)) (rest k d below)))
    (λ u v p later. apart x later.0 u v later.1 p later.2)
