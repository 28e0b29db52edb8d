-- In which order steps may begin and end: each does so once, and begins when all before it that it conflicts with have ended. Steps are
-- numbered from 1, and their accesses are given by their numbers.
use Rattle.std.specs.Prelude.{◌≡◌, ℕ, zero, suc, ◌+◌, ◌-◌, ◌<◌, ◌≤◌, List, [], ◌∷◌, ◌++◌, All, Bool, true, false, not, ◌==◌, ◌&&◌, ◌||◌, nat_lt, nat_le, if◌then◌else◌, IsTrue}
use Rattle.dependence_queue.specs.declared.access.Access.{Access}
use Rattle.dependence_queue.specs.Conflicts.{has_number, conflicts}
use Rattle.dependence_queue.specs.Chains.{IsConflict}
use Rattle.schedule_core.specs.declared.event.Event.{Event}
use Rattle.schedule_core.specs.declared.event.Event.TheVariants.{Start, Finish}

-- ---- events

abbrev pub is_event : Event → Event → Bool
is_event (Start s) (Start t) = s == t
is_event (Finish s) (Finish t) = s == t
is_event d e = false

-- the event is in the list, and how often
abbrev pub has_event : List Event → Event → Bool
has_event [] e = false
has_event (d ∷ events) e = is_event d e || has_event events e

abbrev pub times : List Event → Event → ℕ
times [] e = 0
times (d ∷ events) e = (if is_event d e then 1 else 0) + times events e

abbrev pub event_step : Event → ℕ
event_step (Start t) = t
event_step (Finish t) = t

-- it is an event of one of n steps
abbrev pub IsEventOf : ℕ → Event → Type 0
IsEventOf n e = (0 < event_step e) × (event_step e ≤ n)

-- ---- schedules

-- a list of the events of n steps: each once, the beginning of a step first, and the end of a step before the beginning of each later one
-- that it conflicts with
pub record IsSchedule (accesses : ℕ → Access) (n : ℕ) (events : List Event) : Type 0 where
  pub only : All (IsEventOf n) events
  pub once : (e : Event) → IsEventOf n e → times events e ≡ 1
  pub start_first : (t : ℕ) (before after : List Event) → events ≡ before ++ Finish t ∷ after → IsTrue (has_event before (Start t))
  pub conflicts_apart : (s t : ℕ) (before after : List Event) → 0 < s → IsConflict accesses s t → events ≡ before ++ Start t ∷ after
      → IsTrue (has_event before (Finish s))

-- some schedule begins with these events
abbrev pub IsBegun : (ℕ → Access) → ℕ → List Event → Type 0
IsBegun accesses n events = (rest : List Event) × IsSchedule accesses n (events ++ rest)

-- ---- the same as tests

-- those of the first k steps that conflict with step t have ended
abbrev pub are_over : (ℕ → Access) → List Event → ℕ → ℕ → Bool
are_over accesses done t zero = true
are_over accesses done t (suc k) = (not (conflicts (accesses (suc k)) (accesses t)) || has_event done (Finish (suc k))) && are_over accesses done t k

-- what an event waits for has come
abbrev pub is_ready : (ℕ → Access) → List Event → Event → Bool
is_ready accesses done (Start t) = are_over accesses done t (t - 1)
is_ready accesses done (Finish t) = has_event done (Start t)

-- the event may come next, after these of n steps
abbrev pub may_come : (ℕ → Access) → ℕ → List Event → Event → Bool
may_come accesses n done e = nat_lt 0 (event_step e) && (nat_le (event_step e) n && (not (has_event done e) && is_ready accesses done e))

-- each of these events may come, after those that are done and the ones before it
abbrev pub goes_on : (ℕ → Access) → ℕ → List Event → List Event → Bool
goes_on accesses n done [] = true
goes_on accesses n done (e ∷ events) = may_come accesses n done e && goes_on accesses n (done ++ e ∷ []) events

abbrev pub is_begun : (ℕ → Access) → ℕ → List Event → Bool
is_begun accesses n events = goes_on accesses n [] events

-- the first k steps have ended
abbrev pub all_over : List Event → ℕ → Bool
all_over events zero = true
all_over events (suc k) = has_event events (Finish (suc k)) && all_over events k

abbrev pub is_schedule : (ℕ → Access) → ℕ → List Event → Bool
is_schedule accesses n events = is_begun accesses n events && all_over events n

-- ---- one after another

-- the beginning and then the end of each of n steps
abbrev pub in_order : ℕ → List Event
in_order zero = []
in_order (suc n) = in_order n ++ Start (suc n) ∷ Finish (suc n) ∷ []

-- ---- writes of a block

-- how many of the first k steps write block x, and how many of these have ended
abbrev pub writes_upto : (ℕ → Access) → ℕ → ℕ → ℕ
writes_upto accesses x zero = 0
writes_upto accesses x (suc k) = (if (accesses (suc k)).write == x then 1 else 0) + writes_upto accesses x k

abbrev pub ended_writes : (ℕ → Access) → List Event → ℕ → ℕ → ℕ
ended_writes accesses events x zero = 0
ended_writes accesses events x (suc k) =
    (if (accesses (suc k)).write == x && has_event events (Finish (suc k)) then 1 else 0) + ended_writes accesses events x k

-- a step reads or writes block x
abbrev pub uses_block : Access → ℕ → Bool
uses_block access x = has_number access.reads x || access.write == x
