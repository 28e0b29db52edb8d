use Rattle.std.proofs.Common.{◌≡◌, ◌∙◌, ◌-◌, ◌∷◌, ◌++◌, [], suc, refl, length, sym, ap, arith, length-append}
use Rattle.std.proofs.lemmas.Result.{err_from_is_err_and}
use Rattle.job_text.specs.JobFaults.{job_fault, operation_limit}
use Rattle.job_text.proofs.BlockSteps.{operations-end, operations-fault, operations-next}
use Rattle.job_text.proofs.blocks.read_operations.Goals as goal

pub loop-alloc-init : goal.loop-alloc-init
loop-alloc-init c = record { few = rw c.new-found.ensures (omega arith); end = refl; on = rw c.new-found.ensures refl }

pub returns-in_err-operation-clause-read : goal.returns-in_err-operation-clause-read
returns-in_err-operation-clause-read c =
    let p = err_from_is_err_and c.from_residual.result c.from_residual.ensures.1 in
    let found = c.loop-alloc.found in
    let left : suc operation_limit - length found ≡ suc (operation_limit - length found) = omega (arith, c.loop-alloc.invariant.few) in
    rw (p.1, p.2) (operations-fault (operation_limit - length found) c.args.lines.now.end found c.loop-alloc.lines.lines _ (rw left at c.loop-alloc.invariant.on)
    (sym c.begins.ensures ∙ c.loop-alloc-test.true) (job_fault c.in_err-operation.field-0.0) (rw (c.as_slice.ensures, c.loop-alloc.invariant.end) at c.in_err-operation.ensures.read))

pub loop-alloc-preserved : goal.loop-alloc-preserved
loop-alloc-preserved c =
    let found = c.loop-alloc.found in
    let op = c.in_ok-operation.operation in
    let longer = length-append found (op ∷ []) in
    let left : suc operation_limit - length found ≡ suc (operation_limit - length found) = omega (arith, c.loop-alloc.invariant.few) in
    let less : suc operation_limit - length (found ++ op ∷ []) ≡ operation_limit - length found = omega (arith, longer) in
    record {
      few = rw (c.in_ok-push.ensures.ok, longer) (omega (arith, c.in_ok-operation.ensures.room, ap length c.as_slice.ensures));
      end = c.in_ok-operation.ensures.end ∙ c.loop-alloc.invariant.end;
      on = rw (c.in_ok-push.ensures.ok, less) (operations-next (operation_limit - length found) c.args.lines.now.end found c.loop-alloc.lines.lines _ (rw left at c.loop-alloc.invariant.on)
          (sym c.begins.ensures ∙ c.loop-alloc-test.true) _ op (rw (c.as_slice.ensures, c.loop-alloc.invariant.end) at c.in_ok-operation.ensures.read));
    }

pub returns-clause-read : goal.returns-clause-read
returns-clause-read c =
    sym c.loop-alloc.invariant.on ∙ operations-end (suc operation_limit - length c.loop-alloc.found) c.args.lines.now.end c.loop-alloc.found c.loop-alloc.lines.lines (sym c.begins.ensures ∙ c.loop-alloc-test.false)
