-- A view of a matrix of residues has residues, transposed too; so has a factor of one.
use Rattle.std.proofs.Common.{ℕ, ◌<◌, ◌≤◌, List, Bool, true, false, arith}
use Rattle.std.proofs.lemmas.Bool.Decides.{nat_tests}
use Rattle.residue_sums.specs.Tables.{Table, oriented}
use Rattle.residue_sums.specs.Grids.{Grid, AreResidues, entry}
use Rattle.structure_rules.specs.declared.Structure.{Structure}
use Rattle.structure_rules.specs.Structures.{view}
use Rattle.operation_spec.specs.declared.operation.Operation.{Operation}
use Rattle.operation_spec.specs.declared.operation.Factor.{Factor}
use Rattle.equation.specs.Equations.{known_grid, factor_table}
use Rattle.equation.specs.Pivots.{HasResidues}
use Rattle.equation.proofs.AssignedGrids.{HasResidues-entry}
use Rattle.equation.proofs.ValidForms.{known_structure}

view-below : (m : ℕ) (s : Structure) (a : Table) (i j : ℕ) → 2 ≤ m → a i j < m → a j i < m → view s a i j < m
view-below m s a i j two here mirrored = grind (arith, nat_tests)

oriented-below : (m : ℕ) (primed : Bool) (a : Table) → HasResidues m a → HasResidues m (oriented primed a)
oriented-below m true a residues i j = residues j i
oriented-below m false a residues i j = residues i j

pub HasResidues-view : (m : ℕ) (primed : Bool) (s : Structure) (g : Grid) → 2 ≤ m → AreResidues m g → HasResidues m (oriented primed (view s (entry g)))
HasResidues-view m primed s g two residues =
    let entries : HasResidues m (entry g) = HasResidues-entry m g (omega arith) residues in
    oriented-below m primed (view s (entry g)) (λ i j. view-below m s (entry g) i j two (entries i j) (entries j i))

pub HasResidues-factor : (m : ℕ) (op : Operation) (knowns : List Grid) (f : Factor) → 2 ≤ m → AreResidues m (known_grid knowns f.known) → HasResidues m (factor_table op knowns f)
HasResidues-factor m op knowns f two residues = HasResidues-view m f.primed (known_structure op f) (known_grid knowns f.known) two residues
