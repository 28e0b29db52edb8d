use Rattle.flame_top.specs.Due.{Due}
use Rattle.flame_top.proofs.QuietStreams.{quiet_streams}
use Rattle.flame_top.proofs.laws.quiet_streams_get_the_whole_text.Goals as goal

pub returns : goal.returns
returns c = λ words. quiet_streams (Due words)
