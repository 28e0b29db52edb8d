use Rattle.task_graph.proofs.ClassNeeds.{needs-classes}
use Rattle.task_graph.proofs.laws.needs_pass_to_classes.Goals as goal

pub returns : goal.returns
returns c op cut counts a b valid sized ha hb need = needs-classes op cut valid sized counts a b ha hb need
