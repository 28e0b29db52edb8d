use Rattle.std.proofs.Common.{◌≡◌, ◌∙◌, ◌∷◌, [], codes, true, Ok, Some, length, sym, ap, arith, length-append}
use Rattle.std.proofs.lemmas.Result.{err_from_is_err_and}
use Rattle.text_scan.specs.FaultKinds.{Syntax}
use Rattle.text_scan.specs.Faults.{◌on◌}
use Rattle.text_scan.specs.Lines.{begins_with}
use Rattle.operation_spec.specs.OperationFaults.{known_at}
use Rattle.operation_spec.proofs.KnownLines.{knowns_at-fault, knowns_at-line, knowns_from-end, knowns_from-next}
use Rattle.operation_spec.proofs.declarations.read_knowns.Goals as goal

pub returns-in_err-line-clause-knowns : goal.returns-in_err-line-clause-knowns
returns-in_err-line-clause-knowns c =
    let p = err_from_is_err_and c.from_residual.result c.from_residual.ensures.1 in
    rw (p.1, p.2) (knowns_at-fault c.args.lines.now.end c.args.dims.now c.args.work.now [] c.args.lines.now.lines (Some (Syntax on c.in_err-line.field-0.0.line)) c.in_err-line.ensures.line)

pub loop-alloc-init : goal.loop-alloc-init
loop-alloc-init c =
    let none : length c.new-operands.result ≡ 0 = ap length c.new-operands.ensures in
    record {
      read = rw c.new-operands.ensures (sym (knowns_at-line c.args.lines.now.end c.args.dims.now c.args.work.now [] c.args.lines.now.lines c.inner.new.self.lines c.in_ok-line.line c.in_ok-line.ensures.line));
      few = omega arith;
      end = c.in_ok-line.ensures.end;
    }

pub returns-in_err-line-2-clause-knowns : goal.returns-in_err-line-2-clause-knowns
returns-in_err-line-2-clause-knowns c =
    let p = err_from_is_err_and c.from_residual-in_err-line-2.result c.from_residual-in_err-line-2.ensures.1 in
    let line = c.loop-alloc.line in
    let begins : begins_with (codes "known") line.words ≡ true = sym c.begins_with.ensures ∙ c.loop-alloc-test.true in
    let read : known_at c.args.dims.now c.args.work.now c.loop-alloc.operands line ≡ Ok c.in_ok-known.known = rw c.as_slice.ensures at c.in_ok-known.ensures.known in
    rw (p.1, p.2) (knowns_from-end c.args.lines.now.end c.args.dims.now c.args.work.now c.in_ok-known.known c.loop-alloc.operands line c.loop-alloc.lines.lines
    _ (Some (Syntax on c.in_err-line-2.field-0.0.line)) c.loop-alloc.invariant.read begins read (rw c.loop-alloc.invariant.end at c.in_err-line-2.ensures.line))

pub loop-alloc-preserved : goal.loop-alloc-preserved
loop-alloc-preserved c =
    let line = c.loop-alloc.line in
    let next = c.in_ok-line-2.line in
    let known = c.in_ok-known.known in
    let begins : begins_with (codes "known") line.words ≡ true = sym c.begins_with.ensures ∙ c.loop-alloc-test.true in
    let read : known_at c.args.dims.now c.args.work.now c.loop-alloc.operands line ≡ Ok known = rw c.as_slice.ensures at c.in_ok-known.ensures.known in
    let longer = length-append c.loop-alloc.operands (known ∷ []) in
    record {
      read = rw c.in_ok-push.ensures.ok (knowns_from-next c.args.lines.now.end c.args.dims.now c.args.work.now known c.loop-alloc.operands line next
          c.loop-alloc.lines.lines c.inner-in-loop-alloc.new.self.lines _ c.loop-alloc.invariant.read begins read (rw c.loop-alloc.invariant.end at c.in_ok-line-2.ensures.line));
      few = rw (c.in_ok-push.ensures.ok, longer) (omega (arith, c.in_ok-known.ensures.room, ap length c.as_slice.ensures));
      end = c.in_ok-line-2.ensures.end ∙ c.loop-alloc.invariant.end;
    }
