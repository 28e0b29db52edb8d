use Rattle.std.proofs.Common.{◌≡◌, ◌-◌, ◌<◌, List, length, get_or, ap, ◌∙◌, arith}
use Rattle.std.proofs.lemmas.List.{get_or_default}
use Rattle.operation_spec.specs.declared.operation.Operation.{Operation}
use Rattle.operation_spec.specs.declared.operation.Term.{Term}
use Rattle.job_blocks.specs.BlockedJobs.{operation_at}
use Rattle.job_blocks.specs.FactorBlocks.{no_term}
use Rattle.job_blocks.proofs.job_blocks.JobBlocks.term.Goals as goal

pub overflow_sub-result : goal.overflow_sub-result
overflow_sub-result c = omega (arith, c.requires.from)

pub bounds-as_slice-t : goal.bounds-as_slice-t
bounds-as_slice-t c =
    let all : c.as_slice.result.now ≡ (operation_at c.args.self.now c.args.s).terms = c.as_slice.ensures ∙ ap (λ (o : Operation). o.terms) c.operation.ensures.operation in
    omega (arith, c.requires.from, c.requires.within, ap (λ (xs : List Term). length xs) all)

pub returns-clause-term : goal.returns-clause-term
returns-clause-term c =
    let all : c.as_slice.result.now ≡ (operation_at c.args.self.now c.args.s).terms = c.as_slice.ensures ∙ ap (λ (o : Operation). o.terms) c.operation.ensures.operation in
    let below : c.args.t - 1 < length (operation_at c.args.self.now c.args.s).terms = omega (arith, c.requires.from, c.requires.within) in
    ap (λ (xs : List Term). get_or xs (c.args.t - 1) _) all ∙ get_or_default (operation_at c.args.self.now c.args.s).terms (c.args.t - 1) _ no_term below
