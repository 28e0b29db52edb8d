-- The dimensions of a split, in order, and the ends at which a loop along them begins.
use Rattle.std.specs.Prelude.{ℕ, List, [], ◌∷◌, Bool, true, false, map, Option, Some, None}
use Rattle.operation_spec.specs.declared.split.Split.{Split}
use Rattle.operation_spec.specs.declared.split.Dirs.{Dirs}
use Rattle.operation_spec.specs.declared.split.Dir.{Dir}
use Rattle.operation_spec.specs.declared.split.Dir.TheVariants.{Forward, Backward}
use Rattle.invariant_family.specs.Splits.{dir_of}
use Rattle.worksheet.specs.declared.sheet.End.{End}

abbrev pub second_dim : Option ℕ → List ℕ
second_dim None = []
second_dim (Some d) = d ∷ []

-- the dimensions of a split, in declared order
abbrev pub split_dims : Split → List ℕ
split_dims split = split.first ∷ second_dim split.second

-- forward a loop begins at the first end of a dimension, backward at the last
abbrev pub is_last : Dir → Bool
is_last Forward = false
is_last Backward = true

abbrev pub end_of : Split → Dirs → ℕ → End
end_of split dirs d = record { dim = d; last = is_last (dir_of split dirs d) }

-- the end of each dimension of the split, in order
abbrev pub split_ends : Split → Dirs → List End
split_ends split dirs = map (end_of split dirs) (split_dims split)
