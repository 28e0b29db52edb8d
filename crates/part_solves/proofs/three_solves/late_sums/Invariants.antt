use Rattle.std.proofs.Common.{◌≡◌, ℕ, ◌+◌, ◌*◌, ◌%◌, ◌<◌, length, slice_index}
use Rattle.residue_sums.specs.Sums.{sum_below}
use Rattle.part_solves.proofs.three_solves.late_sums.Given as goal

abbrev pub invariant-loop-g : goal.invariant-loop-g
invariant-loop-g l = record {
  sums : (h : ℕ) → h < l.g → slice_index l.sums h ≡ (slice_index l.e.early.now h
      + sum_below (λ k. slice_index l.e.row.now k * slice_index l.panel.entries.now (h * l.panel.height + (l.panel.from + k))) (length l.e.row.now)) % l.fn.m;
  range : (h : ℕ) → h < l.g → slice_index l.sums h < l.fn.m;
}
