use Rattle.job_blocks.proofs.job_blocks.JobBlocks.job.Goals as goal

pub returns-clause-valid : goal.returns-clause-valid
returns-clause-valid c = rw (← c.self.view_is) (record { job = c.self.invariant.valid; size = c.self.invariant.size })
