use Rattle.block_store.proofs.ByStamps.{a_schedule, by_stamps}
use Rattle.block_store.proofs.Ending.{each-stamp}
use Rattle.block_store.proofs.laws.stamps_are_a_schedule.Goals as goal

pub returns-clause-stamps : goal.returns-clause-stamps
returns-clause-stamps c key v whole n low = each-stamp key _ v whole n low

pub returns-clause-schedule : goal.returns-clause-schedule
returns-clause-schedule c key v events whole long by = a_schedule key v events whole long by

pub returns-clause-placed : goal.returns-clause-placed
returns-clause-placed c key v events whole long by = by_stamps key v events whole long by
