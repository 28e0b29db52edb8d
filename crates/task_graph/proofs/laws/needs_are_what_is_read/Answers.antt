use Rattle.task_graph.proofs.BlocksRead.{update-needs, reads-solved, solve-needs}
use Rattle.task_graph.proofs.laws.needs_are_what_is_read.Goals as goal

pub returns-clause-updates : goal.returns-clause-updates
returns-clause-updates c op counts a b h other = update-needs op counts a b h other

pub returns-clause-read : goal.returns-clause-read
returns-clause-read c op counts a valid h = reads-solved op counts a valid h

pub returns-clause-solves : goal.returns-clause-solves
returns-clause-solves c op counts a b ha hb solve = solve-needs op counts a b ha hb solve
