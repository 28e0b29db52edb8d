-- Sets of tasks as parts of a list in its order, and their numbers.
use Rattle.std.specs.Prelude.{◌≡◌, ℕ, ◌+◌, ◌*◌, List, [], ◌∷◌, ◌⊎◌, if◌then◌else◌}
use Rattle.operation_spec.specs.declared.task.Task.{Task}
use Rattle.invariant_family.specs.Feasible.{holds}

-- the set has some of the tasks of a list, in the list's order
abbrev pub IsSublist : List Task → List Task → Type 0
IsSublist s [] = s ≡ []
IsSublist s (t ∷ ts) = IsSublist s ts ⊎ ((rest : List Task) × (s ≡ t ∷ rest) × IsSublist rest ts)

-- the number of a set of tasks of a list: the task at place p, from 0, counts 2^p
abbrev pub set_number : List Task → List Task → ℕ
set_number [] s = 0
set_number (t ∷ ts) s = (if holds s t then 1 else 0) + 2 * set_number ts s
