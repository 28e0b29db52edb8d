use Rattle.job_text.proofs.JobSteps.{found_from_read, job_in-after, job_in-worksheet}
use Rattle.job_text.proofs.reading.read_job.Goals as goal

pub returns-in-Nothing-clause-found : goal.returns-in-Nothing-clause-found
returns-in-Nothing-clause-found c = found_from_read c.args.stop c.args.bytes.now c.read_to_end.result (rw c.in-Nothing.is c.read_to_end.ensures)

pub returns-in-Worksheet-clause-read : goal.returns-in-Worksheet-clause-read
returns-in-Worksheet-clause-read c = rw (c.in-Worksheet.is, job_in-worksheet c.args.bytes.now) c.read_front.ensures

pub returns-in-Worksheet-clause-found : goal.returns-in-Worksheet-clause-found
returns-in-Worksheet-clause-found c = found_from_read c.args.stop c.args.bytes.now c.read_front.result (returns-in-Worksheet-clause-read c)

pub returns-in-After-clause-read : goal.returns-in-After-clause-read
returns-in-After-clause-read c = rw (c.in-After.is, job_in-after c.args.bytes.now) c.read_front-in-After.ensures

pub returns-in-After-clause-found : goal.returns-in-After-clause-found
returns-in-After-clause-found c = found_from_read c.args.stop c.args.bytes.now c.read_front-in-After.result (returns-in-After-clause-read c)
