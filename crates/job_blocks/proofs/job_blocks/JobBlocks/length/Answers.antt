use Rattle.std.proofs.Common.{◌≡◌, ℕ, List, map, sym, ap, ap₂, ◌∙◌}
use Rattle.operation_spec.specs.declared.operation.Operation.{Operation}
use Rattle.operation_spec.specs.declared.operation.Operand.{Operand}
use Rattle.equation.specs.declared.job.Statement.{Statement}
use Rattle.equation.specs.Jobs.{nth_grid}
use Rattle.step_replays.specs.Fits.{length_among}
use Rattle.job_blocks.specs.BlockedJobs.{binding_at, operation_at}
use Rattle.job_blocks.proofs.StatementFacts.{IsSound, sound}
use Rattle.job_blocks.proofs.TableSteps.{length_of-cols, length_of-knowns, length_of-rows}
use Rattle.job_blocks.proofs.job_blocks.JobBlocks.length.Goals as goal

pub returns-then-op-d : goal.returns-then-op-d
returns-then-op-d c =
    let x = c.args.self.now in
    c.work_rows.ensures
    ∙ length_of-rows (operation_at x c.args.s) x.job.matrices (binding_at x c.args.s) c.args.d
    (ap (λ (o : Operation). o.work.rows) (sym c.operation-op.ensures.operation) ∙ c.if-op-d.true)

pub returns-then-op-d-2 : goal.returns-then-op-d-2
returns-then-op-d-2 c =
    let x = c.args.self.now in
    c.work_cols.ensures
    ∙ length_of-cols (operation_at x c.args.s) x.job.matrices (binding_at x c.args.s) c.args.d
    (λ e. c.if-op-d.false (ap (λ (o : Operation). o.work.rows) c.operation-op.ensures.operation ∙ e))
    (ap (λ (o : Operation). o.work.cols) (sym c.operation-op.ensures.operation) ∙ c.if-op-d-2.true)

pub length_among-requires : goal.length_among-requires
length_among-requires c =
    let x = c.args.self.now in
    let so : IsSound x c.args.s = sound x c.args.s c.operation-op.ensures.valid c.requires in
    let operands : c.as_slice.result.now ≡ (operation_at x c.args.s).knowns = c.as_slice.ensures ∙ ap (λ (o : Operation). o.knowns) c.operation-op.ensures.operation in
    let numbers : c.as_slice-else-op-d-2.result.now ≡ (binding_at x c.args.s).knowns =
    c.as_slice-else-op-d-2.ensures ∙ ap (λ (t : Statement). t.bind.knowns) c.statement.ensures.statement in
    record { count = rw (operands, numbers) so.fits.count; exist = rw numbers so.fits.knowns_in }

pub returns-else-op-d-2 : goal.returns-else-op-d-2
returns-else-op-d-2 c =
    let x = c.args.self.now in
    let operands : c.as_slice.result.now ≡ (operation_at x c.args.s).knowns = c.as_slice.ensures ∙ ap (λ (o : Operation). o.knowns) c.operation-op.ensures.operation in
    let numbers : c.as_slice-else-op-d-2.result.now ≡ (binding_at x c.args.s).knowns =
    c.as_slice-else-op-d-2.ensures ∙ ap (λ (t : Statement). t.bind.knowns) c.statement.ensures.statement in
    c.length_among.ensures
    ∙ ap₂ (λ (os : List Operand) (ns : List ℕ). length_among os (map (nth_grid x.job.matrices) ns) c.args.d) operands numbers
    ∙ length_of-knowns (operation_at x c.args.s) x.job.matrices (binding_at x c.args.s) c.args.d
    (λ e. c.if-op-d.false (ap (λ (o : Operation). o.work.rows) c.operation-op.ensures.operation ∙ e))
    (λ e. c.if-op-d-2.false (ap (λ (o : Operation). o.work.cols) c.operation-op.ensures.operation ∙ e))
