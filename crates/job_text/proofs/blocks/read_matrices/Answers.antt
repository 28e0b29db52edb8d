use Rattle.std.proofs.Common.{◌≡◌, ◌∙◌, ◌+◌, ◌-◌, ◌*◌, ◌∷◌, ◌++◌, [], suc, refl, length, sym, ap, arith, length-append}
use Rattle.std.proofs.lemmas.Result.{err_from_is_err_and}
use Rattle.job_text.specs.JobFaults.{Matrices, job_fault, matrix_limit}
use Rattle.job_text.proofs.BlockSteps.{matrices-end, matrices-fault, matrices-next}
use Rattle.job_text.proofs.MatricesTaken.{entry_count-push}
use Rattle.job_text.proofs.blocks.read_matrices.Goals as goal

pub loop-alloc-init : goal.loop-alloc-init
loop-alloc-init c = record {
  few = rw c.new-matrices.ensures (omega arith);
  same = rw (c.new-matrices.ensures, c.new-names.ensures) refl;
  room = rw c.new-matrices.ensures refl;
  end = refl;
  on = rw (c.new-matrices.ensures, c.new-names.ensures) refl;
}

pub returns-in_err-name-clause-read : goal.returns-in_err-name-clause-read
returns-in_err-name-clause-read c =
    let p = err_from_is_err_and c.from_residual.result c.from_residual.ensures.1 in
    let grids = c.loop-alloc.matrices in
    let left : suc matrix_limit - length grids ≡ suc (matrix_limit - length grids) = omega (arith, c.loop-alloc.invariant.few) in
    rw (p.1, p.2) (matrices-fault (matrix_limit - length grids) c.args.lines.now.end c.args.m (record { names = c.loop-alloc.names; grids = grids }) c.loop-alloc.lines.lines _ (rw left at c.loop-alloc.invariant.on)
    (sym c.begins.ensures ∙ c.loop-alloc-test.true) (job_fault c.in_err-name.field-0.0) (rw (c.as_slice.ensures, c.as_slice-in-loop-alloc.ensures, c.loop-alloc.invariant.end) at c.in_err-name.ensures.read))

pub loop-alloc-preserved : goal.loop-alloc-preserved
loop-alloc-preserved c =
    let names = c.loop-alloc.names in
    let grids = c.loop-alloc.matrices in
    let name = c.in_ok-name.name in
    let g = c.in_ok-name.matrix in
    let found : Matrices = record { names = names; grids = grids } in
    let longer = length-append grids (g ∷ []) in
    let left : suc matrix_limit - length grids ≡ suc (matrix_limit - length grids) = omega (arith, c.loop-alloc.invariant.few) in
    let less : suc matrix_limit - length (grids ++ g ∷ []) ≡ matrix_limit - length grids = omega (arith, longer) in
    let size : c.rows.result * c.cols.result ≡ g.rows * g.cols = rw (c.rows.ensures.rows, c.cols.ensures.cols) refl in
    record {
      few = rw (c.in_ok-push-2.ensures.ok, longer) (omega (arith, c.in_ok-name.ensures.few, ap length c.as_slice-in-loop-alloc.ensures));
      same = rw (c.in_ok-push-2.ensures.ok, c.in_ok-push.ensures.ok, longer, length-append names (name ∷ [])) (ap (λ n. n + 1) c.loop-alloc.invariant.same);
      room = rw (c.in_ok-push-2.ensures.ok, size, entry_count-push grids g) (omega (arith, c.loop-alloc.invariant.room));
      end = c.in_ok-name.ensures.end ∙ c.loop-alloc.invariant.end;
      on = rw (c.in_ok-push-2.ensures.ok, c.in_ok-push.ensures.ok, less) (matrices-next (matrix_limit - length grids) c.args.lines.now.end c.args.m found c.loop-alloc.lines.lines _ (rw left at c.loop-alloc.invariant.on)
          (sym c.begins.ensures ∙ c.loop-alloc-test.true) _ (record { name = name; grid = g }) (rw (c.as_slice.ensures, c.as_slice-in-loop-alloc.ensures, c.loop-alloc.invariant.end) at c.in_ok-name.ensures.read));
    }

pub returns-clause-read : goal.returns-clause-read
returns-clause-read c =
    sym c.loop-alloc.invariant.on
    ∙ matrices-end (suc matrix_limit - length c.loop-alloc.matrices) c.args.lines.now.end c.args.m (record { names = c.loop-alloc.names; grids = c.loop-alloc.matrices }) c.loop-alloc.lines.lines (sym c.begins.ensures ∙ c.loop-alloc-test.false)
