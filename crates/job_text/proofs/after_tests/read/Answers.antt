use Rattle.job_text.proofs.AfterPlaces.{second_part_place}
use Rattle.job_text.proofs.after_tests.read.Goals as goal

pub read_after-requires-clause-place : goal.read_after-requires-clause-place
read_after-requires-clause-place c = rw c.deref-in-Ok.ensures.value (rw c.deref.ensures.value at (second_part_place c.deref.result.now _ c.in-Ok.rest c.in-Ok.ensures.found.second))
