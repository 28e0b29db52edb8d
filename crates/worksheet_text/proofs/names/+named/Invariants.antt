use Rattle.std.proofs.Common.{length}
use Rattle.worksheet_text.proofs.names.+named.Given as goal

abbrev pub decreases-named : goal.decreases-named
decreases-named l = length l.operations.now
