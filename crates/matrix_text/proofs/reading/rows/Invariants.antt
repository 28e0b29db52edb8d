use Rattle.std.proofs.Common.{◌≡◌, ◌-◌}
use Rattle.matrix_text.specs.MatrixFaults.{with_entries, rows_at}
use Rattle.matrix_text.proofs.reading.rows.Given as goal

abbrev pub invariant-loop : goal.invariant-loop
invariant-loop l = record {
  rows : with_entries l.entries.items (rows_at l.fn.lines.end l.m l.cols (l.count - l.counter) l.lines.lines) ≡ rows_at l.fn.lines.end l.m l.cols l.count l.fn.lines.lines;
  end : l.lines.end ≡ l.fn.lines.end;
}
