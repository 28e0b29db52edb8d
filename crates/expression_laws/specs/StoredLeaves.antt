-- The matrices that leaves are read from.
use Rattle.residue_sums.specs.Tables.{Table}
use Rattle.residue_sums.specs.Grids.{entry}
use Rattle.equation.specs.Equations.{known_grid}
use Rattle.block_values.specs.declared.leaf.Leaf.{Leaf}
use Rattle.block_values.specs.declared.leaf.Leaf.TheVariants.{Work, Known}
use Rattle.block_values.specs.Values.{Setting}

-- what is stored where the leaf is read: X and its factors are read from the stored solution
abbrev pub stored_table : Setting → Leaf → Table
stored_table s Work = entry s.work
stored_table s (Known k) = entry (known_grid s.knowns k)
stored_table s _ = entry s.solution
