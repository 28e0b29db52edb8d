-- The places of a worksheet in their order, and what a worksheet that is right has at each.
use Rattle.std.specs.Prelude.{◌≡◌, ℕ, zero, suc, Bool, ◌&&◌, ◌||◌, ◌==◌, nat_lt, List, take, Contains, IsTrue, Option, Some, None, slice_get, ⊤}
use Rattle.operation_spec.specs.declared.operation.Operation.{Operation}
use Rattle.operation_spec.specs.declared.task.Task.{Task}
use Rattle.task_graph.specs.Needs.{does_need}
use Rattle.task_graph.specs.Order.{tasks_of}
use Rattle.invariant_family.specs.Feasible.{is_closed, has_nothing_remaining, has_all_done, undoes_nothing}
use Rattle.invariant_family.specs.Splits.{two_parts}
use Rattle.invariant_family.specs.Sublists.{IsSublist}
use Rattle.worksheet.specs.declared.sheet.Worksheet.{Worksheet}
use Rattle.worksheet.specs.declared.verdict.WsPlace.{WsPlace}
use Rattle.worksheet.specs.declared.verdict.WsPlace.TheVariants.{Order, F1, F2, F3, F4, Guard, Start, Take, Before, Update, Give, After}
use Rattle.worksheet.specs.Ends.{split_dims, split_ends}
use Rattle.worksheet.specs.Moments.{cut_before, cut_after, states_at, updates_of}

-- ---- the order of places

abbrev pub place_rank : WsPlace → ℕ
place_rank Order = 0
place_rank F1 = 1
place_rank F2 = 2
place_rank F3 = 3
place_rank F4 = 4
place_rank Guard = 5
place_rank Start = 6
place_rank Take = 7
place_rank (Before p) = 8
place_rank (Update p) = 9
place_rank Give = 10
place_rank (After p) = 11

-- the number of a line or an update, from 1
abbrev pub line_number : WsPlace → ℕ
line_number Order = 0
line_number F1 = 0
line_number F2 = 0
line_number F3 = 0
line_number F4 = 0
line_number Guard = 0
line_number Start = 0
line_number Take = 0
line_number (Before p) = p
line_number (Update p) = p
line_number Give = 0
line_number (After p) = p

abbrev pub is_before : WsPlace → WsPlace → Bool
is_before a b = nat_lt (place_rank a) (place_rank b) || (place_rank a == place_rank b && nat_lt (line_number a) (line_number b))

-- ---- what is right at a place

-- an update behind others: it is due and none of them, and each due task that it needs is one of them
pub record IsNextUpdate (op : Operation) (due seen : List Task) (a : Task) : Type 0 where
  pub is_due : Contains due a
  pub new : ¬ Contains seen a
  pub after_needs : (b : Task) → Contains due b → IsTrue (does_need op a b) → Contains seen b

-- an update is the next one; and behind the last one no due task is missing
abbrev pub IsRightUpdate : Operation → List Task → List Task → Option Task → Type 0
IsRightUpdate op due seen (Some a) = IsNextUpdate op due seen a
IsRightUpdate op due seen None = (b : Task) → Contains due b → Contains seen b

-- a line is the one that is due, and there is none where none is
abbrev pub IsRightAt : Operation → Worksheet → WsPlace → Type 0
IsRightAt op w Order = IsSublist w.invariant (tasks_of op (two_parts op w.split))
IsRightAt op w F1 = IsTrue (is_closed op w.split w.invariant)
IsRightAt op w F2 = IsTrue (has_nothing_remaining op w.split w.dirs w.invariant)
IsRightAt op w F3 = IsTrue (has_all_done op w.split w.dirs w.invariant)
IsRightAt op w F4 = IsTrue (undoes_nothing op w.split w.dirs w.invariant)
IsRightAt op w Guard = w.guard ≡ split_dims w.split
IsRightAt op w Start = w.start ≡ split_ends w.split w.dirs
IsRightAt op w Take = w.take ≡ split_ends w.split w.dirs
IsRightAt op w (Before zero) = ⊤
IsRightAt op w (Before (suc k)) = slice_get w.before k ≡ slice_get (states_at op w.split w.invariant (cut_before op w.split w.dirs)) k
IsRightAt op w (Update zero) = ⊤
IsRightAt op w (Update (suc k)) = IsRightUpdate op (updates_of op w.split w.dirs w.invariant) (take k w.updates) (slice_get w.updates k)
IsRightAt op w Give = w.give ≡ split_ends w.split w.dirs
IsRightAt op w (After zero) = ⊤
IsRightAt op w (After (suc k)) = slice_get w.after k ≡ slice_get (states_at op w.split w.invariant (cut_after op w.split w.dirs)) k
