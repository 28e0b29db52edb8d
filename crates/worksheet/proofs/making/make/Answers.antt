use Rattle.std.proofs.Common.{◌≡◌, sym, subst}
use Rattle.std.proofs.lemmas.Result.{IfOk-weaker}
use Rattle.worksheet.specs.declared.sheet.Worksheet.{Worksheet}
use Rattle.worksheet.specs.Worksheets.{worksheet_of, Valid}
use Rattle.worksheet.proofs.MadeWorksheets.{variant_is_valid}
use Rattle.worksheet.proofs.making.make.Goals as goal

pub returns-clause-valid : goal.returns-clause-valid
returns-clause-valid c valid of_op =
    let op = c.args.op.now in
    let due = worksheet_of op c.args.v.now.split c.args.v.now.dirs c.args.v.now.kept in
    IfOk-weaker c.worksheet_of.result (λ (w : Worksheet). w ≡ due) (λ (w : Worksheet). Valid op w)
    (λ w same. subst (λ (x : Worksheet). Valid op x) (sym same) (variant_is_valid op c.args.v.now valid of_op)) c.worksheet_of.ensures
