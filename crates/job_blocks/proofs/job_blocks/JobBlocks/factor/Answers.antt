use Rattle.std.proofs.Common.{◌≡◌, ℕ, List, length, get_or, ap, ap₂, ◌∙◌, arith}
use Rattle.structure_rules.specs.declared.Stored.{Stored}
use Rattle.equation.specs.declared.job.Statement.{Statement}
use Rattle.job_blocks.specs.BlockedJobs.{binding_at, number_at}
use Rattle.job_blocks.specs.FactorBlocks.{stored_at}
use Rattle.job_blocks.proofs.ReadSteps.{place-read}
use Rattle.job_blocks.proofs.job_blocks.JobBlocks.factor.Goals as goal

pub bounds-as_slice-f : goal.bounds-as_slice-f
bounds-as_slice-f c =
    let all : c.as_slice.result.now ≡ (binding_at c.args.self.now c.args.s).knowns = c.as_slice.ensures ∙ ap (λ (t : Statement). t.bind.knowns) c.statement.ensures.statement in
    omega (arith, c.requires.block.bound, ap (λ (xs : List ℕ). length xs) all)

pub block-requires : goal.block-requires
block-requires c =
    let all : c.as_slice.result.now ≡ (binding_at c.args.self.now c.args.s).knowns = c.as_slice.ensures ∙ ap (λ (t : Statement). t.bind.knowns) c.statement.ensures.statement in
    let place : c.stored_block-place.result ≡ stored_at c.args.self.now c.args.s c.args.f c.args.i c.args.k =
    place-read c.args.self.now c.args.s c.args.f c.args.i c.args.k c.operation.result.now c.known_structure-structure.result c.stored_block-place.result
    c.operation.ensures.operation c.known_structure-structure.ensures c.stored_block-place.ensures in
    rw (all, place) c.requires.block.stored

pub returns : goal.returns
returns c =
    let all : c.as_slice.result.now ≡ (binding_at c.args.self.now c.args.s).knowns = c.as_slice.ensures ∙ ap (λ (t : Statement). t.bind.knowns) c.statement.ensures.statement in
    let place : c.stored_block-place.result ≡ stored_at c.args.self.now c.args.s c.args.f c.args.i c.args.k =
    place-read c.args.self.now c.args.s c.args.f c.args.i c.args.k c.operation.result.now c.known_structure-structure.result c.stored_block-place.result
    c.operation.ensures.operation c.known_structure-structure.ensures c.stored_block-place.ensures in
    c.block.ensures ∙ ap₂ (λ (xs : List ℕ) (p : Stored). number_at c.args.self.now (get_or xs c.args.f.known 0) p.row p.col) all place
