use Rattle.std.proofs.Common.{◌≡◌, ℕ, ◌+◌, ◌*◌, ◌<◌, slice_index}
use Rattle.residue_sums.specs.Grids.{entry}
use Rattle.structure_rules.specs.Structures.{view}
use Rattle.operand_lines.proofs.lines.fill_across.Given as goal

abbrev pub invariant-loop-k : goal.invariant-loop-k
invariant-loop-k l = (g q : ℕ) → g < l.window.lines → q < l.k → slice_index l.panel (g * l.window.height + q)
    ≡ view l.o.structure (entry l.o.part) (l.window.from + q) (l.window.first + g)
