use Rattle.std.proofs.Common.{length, arith}
use Rattle.schedule_core.specs.declared.event.Event.TheVariants.{Finish}
use Rattle.schedule_core.specs.EventBlocks.{step_access}
use Rattle.schedule_core.proofs.ScheduleTests.{may-is, began-within}
use Rattle.schedule_core.proofs.EventBlocks.{block-first, block-start, block-found, block-finish, block-whole}
use Rattle.schedule_core.proofs.block_laws.blocks_follow_the_events.Goals as goal

pub returns-clause-first : goal.returns-clause-first
returns-clause-first c job b steps results x = block-first job b steps results x

pub returns-clause-start : goal.returns-clause-start
returns-clause-start c job b steps results events t x = block-start job b steps results events t x

pub returns-clause-found : goal.returns-clause-found
returns-clause-found c job b steps results events begun t x began runs uses =
    let is = began-within (step_access steps) (length steps) events begun t began in
    block-found job b steps results events begun t began runs x (omega (arith, is.1)) uses

pub returns-clause-finish : goal.returns-clause-finish
returns-clause-finish c job b steps results events begun t x may =
    let is = may-is (step_access steps) (length steps) events (Finish t) may in
    block-finish job b steps results events begun t is.2 is.1 x is.0.0 is.0.1

pub returns-clause-whole : goal.returns-clause-whole
returns-clause-whole c job b steps results events schedule x = block-whole job b steps results events schedule x
