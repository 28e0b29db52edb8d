use Rattle.std.proofs.Common.{◌≡◌, ℕ, ◌+◌, ◌<◌, ◌≤◌, ◌⊎◌, slice_index}
use Rattle.residue_sums.specs.Grids.{entry}
use Rattle.structure_rules.specs.Structures.{view}
use Rattle.operand_lines.proofs.lines.view_line.Given as goal

abbrev pub invariant-loop-k : goal.invariant-loop-k
invariant-loop-k l = record {
  here : (q : ℕ) → q < l.k → slice_index l.panel (l.at + q) ≡ view l.o.structure (entry l.o.part) l.i (l.from + q);
  others : (p : ℕ) → (p < l.at) ⊎ (l.at + l.width ≤ p) → slice_index l.panel p ≡ slice_index l.fn.panel p;
}
