use Rattle.std.proofs.Common.{◌≡◌, ◌≤◌, [], length}
use Rattle.operation_spec.specs.OperationFaults.{knowns_at}
use Rattle.operation_spec.proofs.KnownLines.{knowns_from}
use Rattle.operation_spec.proofs.declarations.read_knowns.Given as goal

-- the operands so far, and those from the line on
abbrev pub invariant-loop-alloc : goal.invariant-loop-alloc
invariant-loop-alloc l = record {
  read : knowns_from l.fn.lines.end l.dims l.work l.operands l.line l.lines.lines ≡ knowns_at l.fn.lines.end l.dims l.work [] l.fn.lines.lines;
  few : length l.operands ≤ 6;
  end : l.lines.end ≡ l.fn.lines.end;
}

abbrev pub decreases-loop-alloc : goal.decreases-loop-alloc
decreases-loop-alloc l = length l.lines.lines
