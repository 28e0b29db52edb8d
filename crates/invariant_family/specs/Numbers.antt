-- Sets of tasks as numbers, in which the task at place p of a list counts 2^p, and the numbers that a walk keeps from
-- the last task to the first.
use Rattle.std.specs.Prelude.{ℕ, ◌+◌, ◌*◌, ◌/◌, ◌%◌, ◌^◌, List, [], ◌∷◌, ◌++◌, Bool, ◌&&◌, not, ◌==◌, if◌then◌else◌}
use Rattle.std.specs.List.{flat_map, list_all}
use Rattle.operation_spec.specs.declared.task.Task.{Task}

abbrev pub is_odd : ℕ → Bool
is_odd n = n % 2 == 1

-- the task at place k is in the set with this number
abbrev pub has_bit : ℕ → ℕ → Bool
has_bit n k = is_odd (n / 2 ^ k)

-- the set with a number
abbrev pub set_of : List Task → ℕ → List Task
set_of [] n = []
set_of (t ∷ ts) n = (if is_odd n then t ∷ [] else []) ++ set_of ts (n / 2)

-- the places of the tasks that pass a test, the first one being k
abbrev pub places_from : (Task → Bool) → ℕ → List Task → List ℕ
places_from test k [] = []
places_from test k (t ∷ ts) = (if test t then k ∷ [] else []) ++ places_from test (k + 1) ts

-- a task may be out of a set of those behind it: it may be lacking at all, and the set has none of those that want it
abbrev pub can_lack : Bool → List ℕ → ℕ → Bool
can_lack may_lack wanting n = may_lack && list_all (λ k. not (has_bit n k)) wanting

-- or in it: it may be held at all, and the set has all that it wants
abbrev pub can_hold : Bool → List ℕ → ℕ → Bool
can_hold may_hold wanted n = may_hold && list_all (has_bit n) wanted

-- the sets with one task more in front, without it and then with it
abbrev pub with_next : (ℕ → Bool) → (ℕ → Bool) → ℕ → List ℕ
with_next lacks holds n = (if lacks n then (2 * n) ∷ [] else []) ++ (if holds n then (2 * n + 1) ∷ [] else [])

-- the numbers of the sets of these tasks in which each task that is held may be, and brings all that it wants, and each
-- that is lacking may be; ascending
abbrev pub numbers_of : (Task → Task → Bool) → (Task → Bool) → (Task → Bool) → List Task → List ℕ
numbers_of wants may_hold may_lack [] = 0 ∷ []
numbers_of wants may_hold may_lack (t ∷ ts) = flat_map
    (with_next (can_lack (may_lack t) (places_from (λ b. wants b t) 0 ts)) (can_hold (may_hold t) (places_from (wants t) 0 ts)))
    (numbers_of wants may_hold may_lack ts)
