use Rattle.worksheet_laws.proofs.BehindJobs.{sheets_stand_behind_jobs}
use Rattle.worksheet_laws.proofs.laws.worksheets_stand_behind_jobs.Goals as goal

pub returns : goal.returns
returns c job op w valid writable op_valid names is = sheets_stand_behind_jobs job valid writable op w op_valid names is
