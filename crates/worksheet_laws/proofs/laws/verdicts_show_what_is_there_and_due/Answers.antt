use Rattle.worksheet_laws.proofs.ShownVerdicts.{verdict_shows}
use Rattle.worksheet_laws.proofs.laws.verdicts_show_what_is_there_and_due.Goals as goal

pub returns : goal.returns
returns c = verdict_shows
