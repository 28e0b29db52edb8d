use Rattle.std.proofs.Common.{List, length, ap, arith}
use Rattle.std.proofs.lemmas.Option.{slice_get_within}
use Rattle.operation_spec.specs.declared.operation.Operation.{Operation}
use Rattle.job_blocks.proofs.ReadSteps.{operation-read}
use Rattle.job_blocks.proofs.tables.operation_of.Goals as goal

pub bounds-as_slice-statement : goal.bounds-as_slice-statement
bounds-as_slice-statement c =
    omega (
      arith,
      slice_get_within c.args.job.now.operations c.args.statement.now.operation c.requires.operation c.requires.found,
      ap (λ (xs : List Operation). length xs) c.as_slice.ensures,
    )

pub returns : goal.returns
returns c = operation-read c.args.job.now c.args.statement.now c.as_slice.result.now c.index-as_slice-statement.result c.requires c.as_slice.ensures c.index-as_slice-statement.is
