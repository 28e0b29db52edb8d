use Rattle.job_text.specs.declared.stop.Stop.TheVariants.{After}
use Rattle.job_text.proofs.AfterPlaces.{second_part_place}
use Rattle.flame_top.proofs.verify.verify_output.Goals as goal

pub behind_output-requires-clause-place : goal.behind_output-requires-clause-place
behind_output-requires-clause-place c = second_part_place c.args.bytes.now After c.in-Ok.rest c.in-Ok.ensures.found.second
