-- The dimensions of a split as text, each with its direction.
use Rattle.std.specs.Prelude.{ℕ, List, [], ◌++◌, codes, slice_index_or, Option, Some, None}
use Rattle.operation_spec.specs.declared.operation.Operation.{Operation}
use Rattle.operation_spec.specs.declared.split.Split.{Split}
use Rattle.operation_spec.specs.declared.split.Dirs.{Dirs}
use Rattle.operation_spec.specs.declared.split.Dir.{Dir}
use Rattle.operation_spec.specs.declared.split.Dir.TheVariants.{Forward, Backward}

abbrev pub dir_text : Dir → List ℕ
dir_text Forward = codes "forward"
dir_text Backward = codes "backward"

-- the name of a dimension
abbrev pub dim_name : Operation → ℕ → List ℕ
dim_name op d = slice_index_or op.dims d []

-- a dimension and its direction, behind a space
abbrev pub dim_text : Operation → ℕ → Dir → List ℕ
dim_text op d dir = codes " " ++ dim_name op d ++ codes " " ++ dir_text dir

abbrev pub second_text : Operation → Option ℕ → Dir → List ℕ
second_text op None dir = []
second_text op (Some d) dir = dim_text op d dir

-- the dimensions of a split, each with its direction
abbrev pub split_text : Operation → Split → Dirs → List ℕ
split_text op split dirs = dim_text op split.first dirs.first ++ second_text op split.second dirs.second
