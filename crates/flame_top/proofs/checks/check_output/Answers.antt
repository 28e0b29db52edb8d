use Rattle.job_text.specs.declared.stop.Stop.TheVariants.{Worksheet}
use Rattle.job_text.proofs.AfterPlaces.{second_part_place}
use Rattle.flame_top.proofs.checks.check_output.Goals as goal

pub behind_output-requires-clause-place : goal.behind_output-requires-clause-place
behind_output-requires-clause-place c = second_part_place c.args.bytes.now Worksheet c.in-Ok.rest c.in-Ok.ensures.found.second
