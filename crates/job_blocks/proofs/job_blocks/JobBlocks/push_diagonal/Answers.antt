use Rattle.std.proofs.Common.{◌≡◌, ℕ, map, ◌++◌, ap, ◌∙◌, arith}
use Rattle.residue_sums.specs.Sums.{part_count}
use Rattle.task_graph.specs.Order.{numbers_below}
use Rattle.step_replays.specs.Accesses.{factor_number}
use Rattle.job_blocks.specs.BlockedJobs.{binding_at, operation_at}
use Rattle.job_blocks.proofs.TableSteps.{listed-more}
use Rattle.job_blocks.proofs.job_blocks.JobBlocks.push_diagonal.Goals as goal

pub factor-requires-clause-block : goal.factor-requires-clause-block
factor-requires-clause-block c =
    let count : c.parts-i-end.result ≡ part_count c.args.n c.args.self.now.b = c.parts-i-end.ensures ∙ ap (part_count c.args.n) c.b.ensures.size in
    c.requires.blocks c.loop-i.i (omega arith)

pub loop-i-preserved : goal.loop-i-preserved
loop-i-preserved c =
    let f : ℕ → ℕ = λ i. factor_number c.args.self.now.b c.args.self.now.job.matrices (operation_at c.args.self.now c.args.s) (binding_at c.args.self.now c.args.s) c.args.f i i in
    listed-more f c.args.reads.now c.loop-i.reads _ c.loop-i.i c.factor.result c.loop-i.invariant c.factor.ensures c.in_ok-push.ensures.ok

pub returns : goal.returns
returns c =
    let count : c.parts-i-end.result ≡ part_count c.args.n c.args.self.now.b = c.parts-i-end.ensures ∙ ap (part_count c.args.n) c.b.ensures.size in
    let done : c.loop-i.i ≡ part_count c.args.n c.args.self.now.b = omega arith in
    c.loop-i.invariant
    ∙ ap (λ (n : ℕ). c.args.reads.now ++ map (λ i. factor_number c.args.self.now.b c.args.self.now.job.matrices (operation_at c.args.self.now c.args.s) (binding_at c.args.self.now c.args.s) c.args.f i i) (numbers_below n)) done
