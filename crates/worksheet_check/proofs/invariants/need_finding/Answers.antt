use Rattle.std.proofs.Common.{◌≡◌, ℕ, ◌+◌, ◌<◌, Bool, List, length, get_or, drop, Some, None, sym, ap, ◌∙◌, arith}
use Rattle.std.specs.Prelude.{is_some}
use Rattle.std.specs.List.{find, list_any}
use Rattle.std.specs.Option.{option_map}
use Rattle.operation_spec.specs.declared.operation.Operation.{Operation}
use Rattle.operation_spec.specs.declared.task.Task.{Task}
use Rattle.worksheet.specs.declared.verdict.Shown.TheVariants as shown
use Rattle.worksheet.specs.declared.verdict.WsPlace.TheVariants as places
use Rattle.worksheet_check.specs.Findings.{finding, task_shown}
use Rattle.worksheet_check.specs.InvariantFindings.{lacks, need_finding}
use Rattle.worksheet_check.proofs.Searches.{any_found, found_at, passed_at, none_at}
use Rattle.worksheet_check.proofs.invariants.need_finding.Goals as goal

module _ (op : Operation) (tasks set : List Task) where
  -- the task needs one outside the set
  abbrev wants : Task → Bool
  wants a = list_any (lacks op set a) tasks

  module _ (i : ℕ) (d : Task) (so_far : find wants (drop i set) ≡ find wants set) (below : i < length set) where
    -- the task at place i is the first that does, with the first such one
    found : (need : Task) → find (lacks op set (get_or set i d)) tasks ≡ Some need
        → Some (finding places.F1 (shown.One (get_or set i d)) (shown.One need)) ≡ need_finding op tasks set
    found need lacking =
        let first = found_at wants set i so_far d below (any_found (lacks op set (get_or set i d)) tasks ∙ ap is_some lacking) in
        sym (ap (option_map (λ a. finding places.F1 (shown.One a) (task_shown (find (lacks op set a) tasks)))) first
        ∙ ap (λ o. Some (finding places.F1 (shown.One (get_or set i d)) (task_shown o))) lacking)

    -- it needs none
    passed : find (lacks op set (get_or set i d)) tasks ≡ None → find wants (drop (i + 1) set) ≡ find wants set
    passed none = passed_at wants set i so_far d below (any_found (lacks op set (get_or set i d)) tasks ∙ ap is_some none)

pub returns-in-Some : goal.returns-in-Some
returns-in-Some c = found c.args.op.now c.args.tasks.now c.args.set.now c.loop-task.task-index _ c.loop-task.invariant (omega arith) _ (sym c.lacking.ensures ∙ c.in-Some.is)

pub loop-task-preserved : goal.loop-task-preserved
loop-task-preserved c = passed c.args.op.now c.args.tasks.now c.args.set.now c.loop-task.task-index _ c.loop-task.invariant (omega arith) (sym c.lacking.ensures ∙ c.in_default.is)

pub returns : goal.returns
returns c =
    let op = c.args.op.now in
    let tasks = c.args.tasks.now in
    let set = c.args.set.now in
    sym (ap (option_map _) (none_at (λ a. list_any (lacks op set a) tasks) set c.loop-task.task-index c.loop-task.invariant (omega arith)))
