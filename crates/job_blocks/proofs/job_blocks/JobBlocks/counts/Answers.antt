use Rattle.std.proofs.Common.{◌≡◌, ℕ, length, ap, ap₂, ◌∙◌, arith}
use Rattle.residue_sums.specs.Sums.{part_count}
use Rattle.operation_spec.specs.declared.operation.Operation.{Operation}
use Rattle.step_replays.specs.Fits.{length_of}
use Rattle.job_blocks.specs.BlockedJobs.{binding_at, operation_at}
use Rattle.job_blocks.proofs.StatementFacts.{IsSound, sound}
use Rattle.job_blocks.proofs.TableSteps.{first_items, items-more}
use Rattle.job_blocks.proofs.job_blocks.JobBlocks.counts.Goals as goal

pub overflow_cast-d : goal.overflow_cast-d
overflow_cast-d c =
    let so : IsSound c.args.self.now c.args.s = sound c.args.self.now c.args.s c.operation.ensures.valid c.requires in
    omega (arith, so.valid.dims.few, c.len-dims.ensures, ap (λ (o : Operation). length o.dims) c.operation.ensures.operation)

pub loop-d-preserved : goal.loop-d-preserved
loop-d-preserved c =
    let x = c.args.self.now in
    let f : ℕ → ℕ = λ d. part_count (length_of (operation_at x c.args.s) x.job.matrices (binding_at x c.args.s) d) x.b in
    c.in_ok-push.ensures.items
    ∙ items-more f c.loop-d.counts.items c.loop-d.d c.parts.result c.loop-d.invariant (c.parts.ensures ∙ ap₂ (λ (n b : ℕ). part_count n b) c.length.ensures c.b-b.ensures.size)

pub returns : goal.returns
returns c =
    let x = c.args.self.now in
    let f : ℕ → ℕ = λ d. part_count (length_of (operation_at x c.args.s) x.job.matrices (binding_at x c.args.s) d) x.b in
    let done : c.loop-d.d ≡ length (operation_at x c.args.s).dims =
    omega (arith, c.len-dims.ensures, ap (λ (o : Operation). length o.dims) c.operation.ensures.operation) in
    c.from_vec.ensures ∙ c.loop-d.invariant ∙ ap (first_items f) done
