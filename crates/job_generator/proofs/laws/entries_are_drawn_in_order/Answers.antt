use Rattle.job_generator.proofs.PlacesInOrder.{off_diagonal-counted}
use Rattle.job_generator.proofs.laws.entries_are_drawn_in_order.Goals as goal

pub returns : goal.returns
returns c = off_diagonal-counted
