-- What is shown of a wrong place: what the worksheet has there, and what is due.
use Rattle.std.specs.Prelude.{◌≡◌, ◌<◌, ◌≤◌, ◌⊎◌, ℕ, zero, suc, List, length, take, Contains, IsTrue, Option, Some, None, slice_get}
use Rattle.operation_spec.specs.declared.operation.Operation.{Operation}
use Rattle.operation_spec.specs.declared.task.Task.{Task}
use Rattle.task_graph.specs.Classes.{class_of}
use Rattle.task_graph.specs.Needs.{does_need}
use Rattle.task_graph.specs.Order.{tasks_of}
use Rattle.invariant_family.specs.Splits.{two_parts, three_parts, done_part, remaining_part, all_split_indices}
use Rattle.invariant_family.specs.Sublists.{IsSublist}
use Rattle.worksheet.specs.declared.sheet.Worksheet.{Worksheet}
use Rattle.worksheet.specs.declared.verdict.Shown.{Shown}
use Rattle.worksheet.specs.declared.verdict.Shown.TheVariants.{Nothing, One, Dims, Ends}
use Rattle.worksheet.specs.declared.verdict.WsPlace.{WsPlace}
use Rattle.worksheet.specs.declared.verdict.WsPlace.TheVariants.{Order, F1, F2, F3, F4, Guard, Start, Take, Before, Update, Give, After}
use Rattle.worksheet.specs.Ends.{split_dims, split_ends}
use Rattle.worksheet.specs.Moments.{cut_before, cut_after, states_at, updates_of}
use Rattle.worksheet_check.specs.RoundFindings.{line_shown}

-- ---- the first of some

-- x is in the list, has P, and none before it has
pub record IsFirstWith {X : Type 0} (P : X → Type 0) (xs : List X) (x : X) : Type 0 where
  pub at : ℕ
  pub here : slice_get xs at ≡ Some x
  pub has : P x
  pub none_before : (j : ℕ) → j < at → (y : X) → slice_get xs j ≡ Some y → ¬ P y

-- the tasks of a set before a are some of a list, in its order, and with a they aren't
pub record IsFirstAstray (tasks s : List Task) (a : Task) : Type 0 where
  pub at : ℕ
  pub here : slice_get s at ≡ Some a
  pub before : IsSublist (take at s) tasks
  pub with_it : ¬ IsSublist (take (suc at) s) tasks

-- ---- tasks that others need

-- a needs b, which isn't one of s
abbrev pub Lacks : Operation → List Task → Task → Task → Type 0
Lacks op s a b = IsTrue (does_need op a b) × ¬ Contains s b

-- a needs a task of a list that isn't one of s
abbrev pub LacksOne : Operation → List Task → List Task → Task → Type 0
LacksOne op tasks s a = (b : Task) × Contains tasks b × Lacks op s a b

-- ---- invariants

-- a is the first task of s that needs one outside it, and b is the first one that it needs so
abbrev pub AreNeeding : Operation → List Task → List Task → Shown → Shown → Type 0
AreNeeding op tasks s found due = (a : Task) × (b : Task) × (found ≡ One a) × (due ≡ One b) × IsFirstWith (LacksOne op tasks s) s a × IsFirstWith (Lacks op s a) tasks b

-- of the tasks of the cut in three parts, the first one that is done before a round and not after it, by its classes
abbrev pub AreUndone : Operation → Worksheet → Shown → Shown → Type 0
AreUndone op w found due =
    let before = class_of op (cut_before op w.split w.dirs) in
    let after = class_of op (cut_after op w.split w.dirs) in
    (a : Task) × (found ≡ One (before a)) × (due ≡ One (after a))
    × IsFirstWith (λ a. Contains w.invariant (before a) × ¬ Contains w.invariant (after a)) (tasks_of op (three_parts op w.split)) a

-- ---- updates

-- what is due for an update a, behind those that were seen: nothing, where it isn't due or was seen; else the first due
-- task that it needs and that wasn't seen
abbrev pub IsDueFor : Operation → List Task → List Task → Task → Shown → Type 0
IsDueFor op due seen a shown = ((¬ Contains due a ⊎ Contains seen a) × (shown ≡ Nothing))
    ⊎ (Contains due a × (¬ Contains seen a) × ((b : Task) × (shown ≡ One b) × IsFirstWith (Lacks op seen a) due b))

-- an update, or none where all of the list was seen: then the first due task that is missing
abbrev pub IsShownUpdate : Operation → List Task → List Task → Option Task → Shown → Shown → Type 0
IsShownUpdate op due seen (Some a) found shown = (found ≡ One a) × IsDueFor op due seen a shown
IsShownUpdate op due seen None found shown = (found ≡ Nothing) × ((b : Task) × (shown ≡ One b) × IsFirstWith (λ b. ¬ Contains seen b) due b)

-- ---- all places

-- found is what the worksheet has at the place, and due is what is due there
abbrev pub IsShownAt : Operation → Worksheet → WsPlace → Shown → Shown → Type 0
IsShownAt op w Order found due = (a : Task) × (found ≡ One a) × (due ≡ Nothing) × IsFirstAstray (tasks_of op (two_parts op w.split)) w.invariant a
IsShownAt op w F1 found due = AreNeeding op (tasks_of op (two_parts op w.split)) w.invariant found due
IsShownAt op w F2 found due = (a : Task) × (found ≡ One a) × (due ≡ Nothing) × IsFirstWith (λ a. IsTrue (all_split_indices op w.split w.dirs remaining_part a)) w.invariant a
IsShownAt op w F3 found due = (a : Task) × (found ≡ Nothing) × (due ≡ One a)
    × IsFirstWith (λ a. IsTrue (all_split_indices op w.split w.dirs done_part a) × ¬ Contains w.invariant a) (tasks_of op (two_parts op w.split)) a
IsShownAt op w F4 found due = AreUndone op w found due
IsShownAt op w Guard found due = (found ≡ Dims w.guard) × (due ≡ Dims (split_dims w.split))
IsShownAt op w Start found due = (found ≡ Ends w.start) × (due ≡ Ends (split_ends w.split w.dirs))
IsShownAt op w Take found due = (found ≡ Ends w.take) × (due ≡ Ends (split_ends w.split w.dirs))
IsShownAt op w (Before zero) found due = ⊥
IsShownAt op w (Before (suc k)) found due = (found ≡ line_shown (slice_get w.before k))
    × (due ≡ line_shown (slice_get (states_at op w.split w.invariant (cut_before op w.split w.dirs)) k))
IsShownAt op w (Update zero) found due = ⊥
IsShownAt op w (Update (suc k)) found due = (k ≤ length w.updates) × IsShownUpdate op (updates_of op w.split w.dirs w.invariant) (take k w.updates) (slice_get w.updates k) found due
IsShownAt op w Give found due = (found ≡ Ends w.give) × (due ≡ Ends (split_ends w.split w.dirs))
IsShownAt op w (After zero) found due = ⊥
IsShownAt op w (After (suc k)) found due = (found ≡ line_shown (slice_get w.after k))
    × (due ≡ line_shown (slice_get (states_at op w.split w.invariant (cut_after op w.split w.dirs)) k))
