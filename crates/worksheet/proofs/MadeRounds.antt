-- The states and updates that are made from a cut's tasks and blocks are those of the loop's round.
use Rattle.std.proofs.Common.{◌≡◌, ℕ, List, map, ap, ◌∙◌}
use Rattle.std.specs.Prelude.{filter}
use Rattle.operation_spec.specs.declared.operation.Operation.{Operation}
use Rattle.operation_spec.specs.declared.split.Split.{Split}
use Rattle.operation_spec.specs.declared.split.Dirs.{Dirs}
use Rattle.operation_spec.specs.declared.task.Task.{Task}
use Rattle.equation.specs.declared.job.Place.{Place}
use Rattle.task_graph.specs.declared.cut.Sides.{Sides}
use Rattle.task_graph.specs.Order.{tasks_of}
use Rattle.invariant_family.specs.Splits.{three_parts}
use Rattle.block_expr.specs.Places.{work_places}
use Rattle.worksheet.specs.declared.sheet.State.{State}
use Rattle.worksheet.specs.Moments.{cut_before, cut_after, is_done, state_of, states_at, is_update, updates_of}

module _ (op : Operation) (split : Split) (s kept : List Task) (parts : List ℕ) (same : kept ≡ s) (cut : parts ≡ three_parts op split) where
  pub made_states : (due sides : List Sides) (tasks : List Task) (places : List Place) (states : List State)
      → sides ≡ due → tasks ≡ tasks_of op parts → places ≡ work_places op parts → states ≡ map (state_of (is_done op kept sides) tasks) places
      → states ≡ states_at op split s due
  made_states due sides tasks places states by_due by_tasks by_places made =
      made ∙ ap (λ k. map (state_of (is_done op k sides) tasks) places) same
      ∙ ap (λ k. map (state_of (is_done op s k) tasks) places) by_due
      ∙ ap (λ k. map (state_of (is_done op s due) k) places) (by_tasks ∙ ap (tasks_of op) cut)
      ∙ ap (λ k. map (state_of (is_done op s due) (tasks_of op (three_parts op split))) k) (by_places ∙ ap (work_places op) cut)

  pub made_updates : (dirs : Dirs) (before after : List Sides) (tasks updates : List Task)
      → before ≡ cut_before op split dirs → after ≡ cut_after op split dirs → tasks ≡ tasks_of op parts → updates ≡ filter (is_update op kept before after) tasks
      → updates ≡ updates_of op split dirs s
  made_updates dirs before after tasks updates by_before by_after by_tasks made =
      made ∙ ap (λ k. filter (is_update op k before after) tasks) same
      ∙ ap (λ k. filter (is_update op s k after) tasks) by_before
      ∙ ap (λ k. filter (is_update op s (cut_before op split dirs) k) tasks) by_after
      ∙ ap (λ k. filter (is_update op s (cut_before op split dirs) (cut_after op split dirs)) k) (by_tasks ∙ ap (tasks_of op) cut)
