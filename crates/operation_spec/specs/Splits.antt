-- Which splits an operation has.
use Rattle.std.specs.Prelude.{ℕ, length, ◌<◌, Option, Some, None}
use Rattle.operation_spec.specs.declared.operation.Operation.{Operation}
use Rattle.operation_spec.specs.declared.split.Split.{Split}

-- its dimensions exist, and the second is declared after the first
abbrev pub IsSplit : Operation → Split → Type 0
IsSplit op split = (split.first < length op.dims) × second split.second
  where
    second : Option ℕ → Type 0
    second None = Unit {0}
    second (Some d) = (split.first < d) × (d < length op.dims)
