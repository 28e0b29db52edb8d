use Rattle.std.proofs.Common.{take}
use Rattle.step_replays.proofs.AgreeingResults.{same-stopped}
use Rattle.schedule_core.proofs.ReplayFronts.{agree-taken, taken-agree, front-taken, found-taken, outcome-taken}
use Rattle.schedule_core.proofs.block_laws.a_step_has_its_outcome_in_the_replay.Goals as goal

pub returns-clause-front : goal.returns-clause-front
returns-clause-front c job b steps results replay s within = front-taken job b steps results replay s within

pub returns-clause-found : goal.returns-clause-found
returns-clause-found c job b steps results s x = found-taken job b steps results s x

pub returns-clause-stopped : goal.returns-clause-stopped
returns-clause-stopped c job b steps results s =
    (same-stopped job b steps (take s results) results s (agree-taken s results), same-stopped job b steps results (take s results) s (taken-agree s results))

pub returns-clause-outcome : goal.returns-clause-outcome
returns-clause-outcome c job b steps results valid pos fits replay s below r h = outcome-taken job b steps results valid pos fits replay s below r h
