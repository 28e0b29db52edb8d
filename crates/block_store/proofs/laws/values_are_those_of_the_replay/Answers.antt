use Rattle.block_store.proofs.Versions.{found-after, left-after, last-after}
use Rattle.block_store.proofs.laws.values_are_those_of_the_replay.Goals as goal

pub returns-clause-found : goal.returns-clause-found
returns-clause-found c key results replay t x g step is = found-after key results replay t x g step is

pub returns-clause-left : goal.returns-clause-left
returns-clause-left c key results replay t g step is = left-after key results replay t g step is

pub returns-clause-last : goal.returns-clause-last
returns-clause-last c key results replay slots last x lt = last-after key results replay slots last x lt
