use Rattle.std.proofs.Common.{length}
use Rattle.job_text.proofs.binding.+has_two_lengths.Given as goal

abbrev pub decreases-has_two_lengths : goal.decreases-has_two_lengths
decreases-has_two_lengths l = length l.lengths.now
