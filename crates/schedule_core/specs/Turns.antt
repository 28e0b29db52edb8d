-- What is kept to tell which steps may begin and end: marks of those that did, and for each step how many edges go into it from
-- steps that haven't ended.
use Rattle.std.specs.Prelude.{◌≡◌, ℕ, suc, ◌+◌, ◌-◌, ◌*◌, ◌<◌, List, length, map, take, replicate, count_by, slice_index, Bool, false, not, ◌==◌, ◌&&◌, nat_lt, nat_le}
use Rattle.std.specs.List.{range_with_len}
use Rattle.dependence_queue.specs.declared.edge.Edge.{Edge}
use Rattle.dependence_queue.specs.Edges.{count_into, edges_of}
use Rattle.step_replays.specs.declared.step.Step.{Step}
use Rattle.task_values.specs.Marks.{is_marked}
use Rattle.schedule_core.specs.declared.event.Event.{Event}
use Rattle.schedule_core.specs.declared.event.Event.TheVariants.{Start, Finish}
use Rattle.schedule_core.specs.declared.turns.Turns.{Turns}
use Rattle.schedule_core.specs.Schedules.{has_event}
use Rattle.schedule_core.specs.StepAccesses.{accesses_of}

-- ---- tests of what is kept, for step t

abbrev pub can_start : List Bool → List ℕ → ℕ → Bool
can_start begun waits t = nat_lt 0 t && (nat_le t (length begun) && (not (is_marked begun (t - 1)) && slice_index waits (t - 1) == 0))

abbrev pub can_finish : List Bool → List Bool → ℕ → Bool
can_finish begun ended t = nat_lt 0 t && (nat_le t (length begun) && (not (is_marked ended (t - 1)) && is_marked begun (t - 1)))

-- ---- what is kept

-- how many edges go into step t from steps that haven't ended
abbrev pub waits_for : List Edge → List Event → ℕ → ℕ
waits_for edges events t = count_by (λ (e : Edge). e.to == t && not (has_event events (Finish e.from))) edges

-- how often a number stands in a list
abbrev pub times_in : List ℕ → ℕ → ℕ
times_in xs x = count_by (λ (y : ℕ). y == x) xs

-- how many steps aren't marked
abbrev pub unmarked : List Bool → ℕ
unmarked marks = count_by not marks

-- the events so far
abbrev pub logged : Turns → List Event
logged u = take u.count u.log.items

-- it says this of steps and events, with room for each event that is still to come
pub record AreTurns (steps : List Step) (events : List Event) (u : Turns) : Type 0 where
  pub begun_count : length u.begun.items ≡ length steps
  pub ended_count : length u.ended.items ≡ length steps
  pub waits_count : length u.waits.items ≡ length steps
  pub begun : (s : ℕ) → s < length steps → is_marked u.begun.items s ≡ has_event events (Start (suc s))
  pub ended : (s : ℕ) → s < length steps → is_marked u.ended.items s ≡ has_event events (Finish (suc s))
  pub waits : (s : ℕ) → s < length steps → slice_index u.waits.items s ≡ waits_for (edges_of (accesses_of steps)) events (suc s)
  pub events_are : logged u ≡ events
  pub room : u.count + (unmarked u.begun.items + unmarked u.ended.items) ≡ length u.log.items

-- before any event
pub record IsFirstTurns (edges : List Edge) (n : ℕ) (u : Turns) : Type 0 where
  pub begun : u.begun.items ≡ replicate n false
  pub ended : u.ended.items ≡ replicate n false
  pub waits : u.waits.items ≡ map (λ s. count_into edges (s + 1)) (range_with_len 0 n)
  pub log : length u.log.items ≡ 2 * n
  pub count : u.count ≡ 0
