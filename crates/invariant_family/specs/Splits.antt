-- Splits of an operation's dimensions, their directions, and the cuts that a loop along them makes.
use Rattle.std.specs.Prelude.{ℕ, List, [], ◌∷◌, length, Bool, true, false, ◌||◌, not, nat_lt, ◌==◌, if◌then◌else◌, map, Option, Some, None}
use Rattle.std.specs.List.{flat_map, list_all}
use Rattle.operation_spec.specs.declared.operation.Operation.{Operation}
use Rattle.operation_spec.specs.declared.split.Split.{Split}
use Rattle.operation_spec.specs.declared.split.Dirs.{Dirs}
use Rattle.operation_spec.specs.declared.split.Dir.{Dir}
use Rattle.operation_spec.specs.declared.split.Dir.TheVariants.{Forward, Backward}
use Rattle.operation_spec.specs.declared.task.Kind.{Kind}
use Rattle.operation_spec.specs.declared.task.Kind.TheVariants as kinds
use Rattle.operation_spec.specs.declared.task.Task.{Task}
use Rattle.task_graph.specs.declared.cut.Sides.{Sides}
use Rattle.task_graph.specs.declared.cut.Sides.TheVariants.{One, Two}
use Rattle.task_graph.specs.Order.{numbers_below}
use Rattle.task_graph.specs.Classes.{inner_dim}

abbrev pub is_second : Option ℕ → ℕ → Bool
is_second None d = false
is_second (Some second) d = second == d

-- dimension d is one of the split
abbrev pub is_split : Split → ℕ → Bool
is_split split d = split.first == d || is_second split.second d

-- the direction of a dimension of the split
abbrev pub dir_of : Split → Dirs → ℕ → Dir
dir_of split dirs d = if split.first == d then dirs.first else dirs.second

-- ---- the cuts, one item for each dimension of the operation

-- two parts in each dimension of the split, and one in the others
abbrev pub two_parts : Operation → Split → List ℕ
two_parts op split = map (λ d. if is_split split d then 2 else 1) (numbers_below (length op.dims))

-- three parts: those that are done, the next one in the middle, and those that remain
abbrev pub three_parts : Operation → Split → List ℕ
three_parts op split = map (λ d. if is_split split d then 3 else 1) (numbers_below (length op.dims))

-- of two parts, the one that is done: the first one forward, and the last one backward
abbrev pub done_part : Dir → ℕ
done_part Forward = 0
done_part Backward = 1

abbrev pub remaining_part : Dir → ℕ
remaining_part Forward = 1
remaining_part Backward = 0

-- three parts as two, with the middle one among those that remain
abbrev pub middle_remaining : Dir → Sides
middle_remaining Forward = Two 1
middle_remaining Backward = Two 2

-- and with the middle one among those that are done
abbrev pub middle_done : Dir → Sides
middle_done Forward = Two 2
middle_done Backward = Two 1

abbrev pub cut_by : Operation → Split → Dirs → (Dir → Sides) → List Sides
cut_by op split dirs sides = map (λ d. if is_split split d then sides (dir_of split dirs d) else One) (numbers_below (length op.dims))

-- ---- the indices of a task

-- an index of a task, with the dimension that it counts parts of
pub record Index : Type 0 where
  pub dim : ℕ
  pub part : ℕ

abbrev pub has_inner : Kind → Bool
has_inner kinds.Term = true
has_inner kinds.Left = true
has_inner kinds.Right = true
has_inner _ = false

-- the indices of a task: its row, its column, and for an update its inner part
abbrev pub indices_of : Operation → Task → List Index
indices_of op task = record { dim = op.work.rows; part = task.i } ∷ record { dim = op.work.cols; part = task.j }
    ∷ (if has_inner task.kind then record { dim = inner_dim op task.kind task.term; part = task.k } ∷ [] else [])

-- each index of the task that belongs to a dimension of the split stands on this side
abbrev pub all_split_indices : Operation → Split → Dirs → (Dir → ℕ) → Task → Bool
all_split_indices op split dirs side task = list_all (λ x. not (is_split split x.dim) || x.part == side (dir_of split dirs x.dim)) (indices_of op task)

-- ---- all splits and directions, in order

-- one dimension alone
abbrev pub along : ℕ → Split
along d = record { first = d; second = None }

-- each dimension alone
abbrev pub single_splits : Operation → List Split
single_splits op = map along (numbers_below (length op.dims))

-- the pair of two dimensions, where the second is later
abbrev pub pair_if_later : ℕ → ℕ → List Split
pair_if_later d e = if nat_lt d e then record { first = d; second = Some e } ∷ [] else []

-- a dimension with each later one below n
abbrev pub pairs_from : ℕ → ℕ → List Split
pairs_from n d = flat_map (pair_if_later d) (numbers_below n)

-- two dimensions in declared order, by the first and then the second
abbrev pub pair_splits : Operation → List Split
pair_splits op = flat_map (pairs_from (length op.dims)) (numbers_below (length op.dims))

abbrev pub both_directions : List Dir
both_directions = Forward ∷ Backward ∷ []

-- the directions of a split, forward first, for the first dimension before the second; a split of one
-- dimension goes forward in the second
abbrev pub directions_of : Split → List Dirs
directions_of split = flat_map (λ first. map (λ second. record { first = first; second = second }) (if is_single split.second then Forward ∷ [] else both_directions)) both_directions
  where
    is_single : Option ℕ → Bool
    is_single None = true
    is_single (Some second) = false
