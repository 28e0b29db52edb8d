-- The worksheet of a loop, and which worksheets are valid.
use Rattle.std.specs.Prelude.{◌≡◌, ◌≢◌, ◌↔◌, List, AllPairs, Contains, IsTrue}
use Rattle.operation_spec.specs.declared.operation.Operation.{Operation}
use Rattle.operation_spec.specs.declared.split.Split.{Split}
use Rattle.operation_spec.specs.declared.split.Dirs.{Dirs}
use Rattle.operation_spec.specs.declared.task.Task.{Task}
use Rattle.task_graph.specs.Needs.{does_need}
use Rattle.task_graph.specs.Order.{tasks_of}
use Rattle.invariant_family.specs.Splits.{two_parts}
use Rattle.invariant_family.specs.Feasible.{is_feasible}
use Rattle.invariant_family.specs.Sublists.{IsSublist}
use Rattle.worksheet.specs.declared.sheet.Worksheet.{Worksheet}
use Rattle.worksheet.specs.Ends.{split_dims, split_ends}
use Rattle.worksheet.specs.Moments.{cut_before, cut_after, states_at, updates_of}

-- the worksheet of the loop along a split in these directions that keeps s done, with its updates in canonical order
abbrev pub worksheet_of : Operation → Split → Dirs → List Task → Worksheet
worksheet_of op split dirs s = record {
  operation = op.name;
  split = split;
  dirs = dirs;
  invariant = s;
  guard = split_dims split;
  start = split_ends split dirs;
  take = split_ends split dirs;
  before = states_at op split s (cut_before op split dirs);
  updates = updates_of op split dirs s;
  give = split_ends split dirs;
  after = states_at op split s (cut_after op split dirs);
}

-- the list has each of the due tasks once and no other, and none stands before one that it needs
pub record AreUpdates (op : Operation) (due updates : List Task) : Type 0 where
  pub exact : (a : Task) → Contains updates a ↔ Contains due a
  pub once : AllPairs (λ a b. a ≢ b) updates
  pub in_turn : AllPairs (λ a b. ¬ (IsTrue (does_need op a b))) updates

-- a worksheet of the operation is right: its invariant is feasible and has tasks of the cut in two parts in canonical
-- order; the loop goes along its split, from the ends of its directions; its states are those of the two moments, and
-- its updates lead from the one to the other
pub record Valid (op : Operation) (w : Worksheet) : Type 0 where
  pub in_order : IsSublist w.invariant (tasks_of op (two_parts op w.split))
  pub feasible : IsTrue (is_feasible op w.split w.dirs w.invariant)
  pub guard : w.guard ≡ split_dims w.split
  pub start : w.start ≡ split_ends w.split w.dirs
  pub take : w.take ≡ split_ends w.split w.dirs
  pub before : w.before ≡ states_at op w.split w.invariant (cut_before op w.split w.dirs)
  pub updates : AreUpdates op (updates_of op w.split w.dirs w.invariant) w.updates
  pub give : w.give ≡ split_ends w.split w.dirs
  pub after : w.after ≡ states_at op w.split w.invariant (cut_after op w.split w.dirs)
