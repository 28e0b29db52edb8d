use Rattle.std.proofs.Common.{ℕ, [], ◌∷◌, sym, subst, ap, ap₂, ◌∙◌}
use Rattle.std.proofs.lemmas.Result.{IfOk-weaker}
use Rattle.operation_spec.specs.declared.operation.Term.{Term}
use Rattle.job_blocks.specs.BlockedJobs.{counts_at, operation_at}
use Rattle.job_blocks.specs.FactorBlocks.{HasFactorBlock, factor_at}
use Rattle.job_blocks.proofs.ReadSteps.{term-blocks, term-in, term-reads}
use Rattle.job_blocks.proofs.job_blocks.JobBlocks.term_reads.Goals as goal

pub term-term-requires : goal.term-term-requires
term-term-requires c =
    let found = term-in (operation_at c.args.self.now c.args.s) (counts_at c.args.self.now c.args.s) c.args.task c.requires.task c.requires.kind in
    record { statement = c.requires.statement; from = found.0; within = found.1 }

pub factor-first-requires-clause-block : goal.factor-first-requires-clause-block
factor-first-requires-clause-block c =
    let x = c.args.self.now in
    let blocks = term-blocks x c.args.s c.term-term.ensures.valid c.requires.statement c.args.task c.requires.task c.requires.kind in
    subst (λ (t : Term). HasFactorBlock x c.args.s t.first c.args.task.i c.args.task.k) (sym c.term-term.ensures.term) blocks.0

pub factor-second-requires-clause-block : goal.factor-second-requires-clause-block
factor-second-requires-clause-block c =
    let x = c.args.self.now in
    let blocks = term-blocks x c.args.s c.term-term.ensures.valid c.requires.statement c.args.task c.requires.task c.requires.kind in
    subst (λ (t : Term). HasFactorBlock x c.args.s t.second c.args.task.k c.args.task.j) (sym c.term-term.ensures.term) blocks.1

pub returns : goal.returns
returns c =
    let x = c.args.self.now in
    let found = term-in (operation_at x c.args.s) (counts_at x c.args.s) c.args.task c.requires.task c.requires.kind in
    let first = c.factor-first.ensures ∙ ap (λ (t : Term). factor_at x c.args.s t.first c.args.task.i c.args.task.k) c.term-term.ensures.term in
    let second = c.factor-second.ensures ∙ ap (λ (t : Term). factor_at x c.args.s t.second c.args.task.k c.args.task.j) c.term-term.ensures.term in
    let both = ap₂ (λ (n m : ℕ). n ∷ m ∷ []) first second ∙ sym (term-reads x c.args.s c.args.task.term c.args.task.i c.args.task.j c.args.task.k found.0 found.1) in
    IfOk-weaker c.numbers.result _ _ (λ reads made. made ∙ both) c.numbers.ensures
