-- Parts that are read through the view of a structure, transposed where they are primed.
use Rattle.std.specs.Prelude.{◌≡◌, ◌≢◌, ℕ, if◌then◌else◌}
use Rattle.residue_sums.specs.Tables.{Table, oriented}
use Rattle.residue_sums.specs.Grids.{entry}
use Rattle.structure_rules.specs.declared.Structure.TheVariants.{General}
use Rattle.structure_rules.specs.Structures.{view}
use Rattle.matrix_parts.specs.declared.oper.Oper.{Oper}

abbrev pub op_rows : Oper → ℕ
op_rows o = if o.primed then o.part.cols else o.part.rows

abbrev pub op_cols : Oper → ℕ
op_cols o = if o.primed then o.part.rows else o.part.cols

abbrev pub op_table : Oper → Table
op_table o = oriented o.primed (view o.structure (entry o.part))

-- a view that is not general is of a square part
abbrev pub IsOper : Oper → Type 0
IsOper o = o.structure ≢ General → o.part.rows ≡ o.part.cols
