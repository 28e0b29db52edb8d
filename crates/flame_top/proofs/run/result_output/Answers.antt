use Rattle.equation.proofs.MeaningLengths.{left_count}
use Rattle.flame_top.proofs.run.result_output.Goals as goal

pub write_result-requires-clause-count : goal.write_result-requires-clause-count
write_result-requires-clause-count c = left_count c.args.job.now c.args.after.now c.requires.means
