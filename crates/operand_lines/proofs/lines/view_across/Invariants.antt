use Rattle.std.proofs.Common.{◌≡◌, ◌≢◌, ℕ, ◌+◌, ◌*◌, ◌<◌, slice_index}
use Rattle.residue_sums.specs.Grids.{entry}
use Rattle.structure_rules.specs.Structures.{view}
use Rattle.operand_lines.proofs.lines.view_across.Given as goal

abbrev pub invariant-loop-g : goal.invariant-loop-g
invariant-loop-g l = record {
  here : (e : ℕ) → e < l.g → slice_index l.panel (e * l.window.height + l.k) ≡ view l.o.structure (entry l.o.part) (l.window.from + l.k) (l.window.first + e);
  others : (e q : ℕ) → q < l.window.height → q ≢ l.k → slice_index l.panel (e * l.window.height + q) ≡ slice_index l.fn.panel (e * l.window.height + q);
}
