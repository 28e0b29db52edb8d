use Rattle.flame_top.proofs.CheckLaws.{names_one}
use Rattle.flame_top.proofs.checks.behind_output.Goals as goal

pub sheet_output-requires : goal.sheet_output-requires
sheet_output-requires c = names_one c.args.bytes.now c.args.rest c.args.job.now.operations c.in-Ok.w c.in-Ok.ensures
