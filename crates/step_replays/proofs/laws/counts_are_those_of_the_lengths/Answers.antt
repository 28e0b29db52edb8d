use Rattle.step_replays.proofs.StatementCuts.{counts-are}
use Rattle.step_replays.proofs.laws.counts_are_those_of_the_lengths.Goals as goal

pub returns : goal.returns
returns c b op valid grids bind fits = counts-are b op valid grids bind fits
