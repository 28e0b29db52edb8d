use Rattle.std.proofs.Common.{◌≡◌, drop}
use Rattle.text_scan.specs.FaultKinds.{EntryRange}
use Rattle.text_scan.specs.Faults.{◌on◌}
use Rattle.matrix_text.specs.MatrixFaults.{numbers_behind}
use Rattle.matrix_text.proofs.reading.put_row.Given as goal

abbrev pub invariant-loop-i : goal.invariant-loop-i
invariant-loop-i l =
    numbers_behind l.m (EntryRange on l.line.number) l.entries.items (drop l.i l.line.words) ≡ numbers_behind l.m (EntryRange on l.line.number) l.fn.entries.items l.line.words
