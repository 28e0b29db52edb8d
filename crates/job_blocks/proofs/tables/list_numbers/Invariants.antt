use Rattle.std.proofs.Common.{◌≡◌, ◌+◌}
use Rattle.job_blocks.proofs.TableSteps.{first_items, list_start}
use Rattle.job_blocks.proofs.tables.list_numbers.Given as goal

abbrev pub invariant-loop-statement : goal.invariant-loop-statement
invariant-loop-statement l = record {
  items : l.numbers.items ≡ first_items (list_start l.job l.first) (l.statement-index + 1);
  next : l.next ≡ list_start l.job l.first l.statement-index;
}
