use Rattle.std.proofs.Common.{◌≡◌, ◌+◌}
use Rattle.job_blocks.proofs.TableSteps.{first_items, start}
use Rattle.job_blocks.proofs.tables.starts_of.Given as goal

abbrev pub invariant-loop-matrix : goal.invariant-loop-matrix
invariant-loop-matrix l = record {
  items : l.starts.items ≡ first_items (start l.b l.matrices) (l.matrix-index + 1);
  next : l.next ≡ start l.b l.matrices l.matrix-index;
}
