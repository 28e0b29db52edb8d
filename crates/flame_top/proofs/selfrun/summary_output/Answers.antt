use Rattle.equation.proofs.MeaningLengths.{left_count}
use Rattle.flame_top.proofs.selfrun.summary_output.Goals as goal

pub write_summary-requires-clause-count : goal.write_summary-requires-clause-count
write_summary-requires-clause-count c = left_count c.args.job.now c.args.after.now c.requires.means
