use Rattle.worksheet_laws.proofs.MadeAgain.{job_is_read, sheet_is_read, sheet_is_right}
use Rattle.worksheet_laws.proofs.laws.made_worksheets_stand_behind_their_jobs.Goals as goal

pub returns-clause-job : goal.returns-clause-job
returns-clause-job c = job_is_read

pub returns-clause-sheet : goal.returns-clause-sheet
returns-clause-sheet c = sheet_is_read

pub returns-clause-right : goal.returns-clause-right
returns-clause-right c = sheet_is_right
