use Rattle.schedule_core.proofs.HeldUses.{reads_marked, write_in_reads, write_marked}
use Rattle.schedule_core.proofs.held.Held.end.Goals as goal

pub stop-requires-clause-write : goal.stop-requires-clause-write
stop-requires-clause-write c = write_marked c.args.run.now c.requires.run c.args.n c.requires.within c.args.self.now c.requires.due c.index-run-n.result

pub stop-requires-clause-marks : goal.stop-requires-clause-marks
stop-requires-clause-marks c = write_in_reads c.args.run.now c.requires.run c.args.n c.requires.within c.args.self.now c.requires.due c.index-run-n.result

pub stop-requires-clause-reads : goal.stop-requires-clause-reads
stop-requires-clause-reads c = reads_marked c.args.run.now c.requires.run c.args.n c.requires.within c.args.self.now c.requires.due c.index-run-n.result
