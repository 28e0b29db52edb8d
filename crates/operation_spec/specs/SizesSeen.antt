-- Sizes of the code, as those that definitions speak of.
use Rattle.operation_spec.specs.declared.equation_sizes.Size as declared_size
use Rattle.operation_spec.specs.Equations.{Size}

abbrev pub size_seen : declared_size.Size → Size
size_seen s = record { rows = s.rows; cols = s.cols }
