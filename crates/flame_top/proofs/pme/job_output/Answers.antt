use Rattle.std.proofs.Common.{◌≡◌, List, subst}
use Rattle.std.specs.Prelude.{Some}
use Rattle.operation_spec.specs.declared.operation.Operation.{Operation}
use Rattle.worksheet_text.specs.SheetReading.{operation_named}
use Rattle.flame_top.proofs.NamedLaws.{valid_named}
use Rattle.flame_top.proofs.pme.job_output.Goals as goal

pub operation_output-requires : goal.operation_output-requires
operation_output-requires c =
    let named = subst (λ (operations : List Operation). operation_named operations c.args.name.now ≡ Some c.in-Some.op.now) c.as_slice.ensures c.in-Some.ensures in
    valid_named c.args.job.now.operations c.args.name.now c.in-Some.op.now c.requires.operations named
