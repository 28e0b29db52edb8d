use Rattle.std.proofs.Common.{◌≡◌, ℕ, ◌+◌, ◌*◌, ◌<◌, slice_index}
use Rattle.residue_sums.specs.Grids.{entry}
use Rattle.structure_rules.specs.Structures.{view}
use Rattle.operand_lines.proofs.lines.fill_straight.Given as goal

abbrev pub invariant-loop-g : goal.invariant-loop-g
invariant-loop-g l = (e k : ℕ) → e < l.g → k < l.window.height → slice_index l.panel (e * l.window.height + k)
    ≡ view l.o.structure (entry l.o.part) (l.window.first + e) (l.window.from + k)
