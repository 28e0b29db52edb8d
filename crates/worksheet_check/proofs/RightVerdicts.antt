-- No place of a worksheet is wrong exactly where it is valid.
use Rattle.std.proofs.Common.{◌≡◌, List, ◌++◌, None, refl, sym, subst, ap, true}
use Rattle.std.specs.Prelude.{◌&&◌, ◌||◌, not}
use Rattle.std.specs.List.{list_all, list_any}
use Rattle.std.proofs.lemmas.Bool.{and_parts, and_from}
use Rattle.operation_spec.specs.declared.operation.Operation.{Operation}
use Rattle.operation_spec.specs.declared.task.Task.{Task}
use Rattle.task_graph.specs.Needs.{does_need}
use Rattle.task_graph.specs.Order.{tasks_of}
use Rattle.task_graph.proofs.TasksSorted.{tasks_of-sorted}
use Rattle.invariant_family.specs.Feasible.{holds, is_closed, has_nothing_remaining, has_all_done, undoes_nothing}
use Rattle.invariant_family.specs.Splits.{two_parts, three_parts, done_part, remaining_part, all_split_indices}
use Rattle.invariant_family.specs.Sublists.{IsSublist}
use Rattle.worksheet.specs.declared.sheet.State.{State}
use Rattle.worksheet.specs.declared.sheet.Worksheet.{Worksheet}
use Rattle.worksheet.specs.declared.verdict.Verdict.TheVariants.{Right}
use Rattle.worksheet.specs.declared.verdict.WsPlace.TheVariants as places
use Rattle.worksheet.specs.Moments.{cut_before, cut_after, is_done}
use Rattle.worksheet.specs.Worksheets.{worksheet_of, Valid}
use Rattle.worksheet_check.specs.Findings.{first_finding, verdict_by}
use Rattle.worksheet_check.specs.InvariantFindings.{out_of_order, order_finding, lacks, need_finding, remaining_finding, done_finding, undone_finding, invariant_findings}
use Rattle.worksheet_check.specs.RoundFindings.{line_finding}
use Rattle.worksheet_check.specs.Verdicts.{line_findings, verdict_of}
use Rattle.worksheet_check.proofs.NoFindings.{none_right, none_parts, none_first, mapped_none, none_mapped, all_right, none_wrong, all_or_any, implies}
use Rattle.worksheet_check.proofs.OrderedSets.{chain-from_none, none-from_chain, sublist-from_chain, held-sublist, chain-sublist}
use Rattle.worksheet_check.proofs.RightUpdates.{updates_right, right_updates}
use Rattle.worksheet_check.proofs.SameLines.{guard_same, same_guard, ends_same, same_ends, lines_same, same_lines}

module _ (op : Operation) (w : Worksheet) where
  -- ---- the order

  pub order_right : order_finding op (tasks_of op (two_parts op w.split)) w.invariant ≡ None → IsSublist w.invariant (tasks_of op (two_parts op w.split))
  order_right h =
      let tasks = tasks_of op (two_parts op w.split) in
      let chain = chain-from_none op tasks None w.invariant (mapped_none _ (out_of_order op tasks None w.invariant) h) in
      sublist-from_chain op tasks (tasks_of-sorted op (two_parts op w.split)) None w.invariant chain.0 chain.1

  pub right_order : IsSublist w.invariant (tasks_of op (two_parts op w.split)) → order_finding op (tasks_of op (two_parts op w.split)) w.invariant ≡ None
  right_order h =
      let tasks = tasks_of op (two_parts op w.split) in
      none_mapped _ (out_of_order op tasks None w.invariant) (none-from_chain op tasks None w.invariant (held-sublist op tasks w.invariant h)
      (chain-sublist op tasks w.invariant None (tasks_of-sorted op (two_parts op w.split)) (λ k d below. refl) h))

  -- ---- the rules

  closed_at : (a : Task) → list_all (λ b. not (does_need op a b) || holds w.invariant b) (tasks_of op (two_parts op w.split)) ≡ not (list_any (lacks op w.invariant a) (tasks_of op (two_parts op w.split)))
  closed_at a = all_or_any (lacks op w.invariant a) (λ b. not (does_need op a b) || holds w.invariant b) (λ b. implies (does_need op a b) (holds w.invariant b)) (tasks_of op (two_parts op w.split))

  pub closed_right : need_finding op (tasks_of op (two_parts op w.split)) w.invariant ≡ None → is_closed op w.split w.invariant ≡ true
  closed_right h = all_right (λ a. list_any (lacks op w.invariant a) (tasks_of op (two_parts op w.split)))
      (λ a. list_all (λ b. not (does_need op a b) || holds w.invariant b) (tasks_of op (two_parts op w.split))) closed_at w.invariant (mapped_none _ _ h)

  pub right_closed : is_closed op w.split w.invariant ≡ true → need_finding op (tasks_of op (two_parts op w.split)) w.invariant ≡ None
  right_closed h = none_mapped _ _ (none_wrong (λ a. list_any (lacks op w.invariant a) (tasks_of op (two_parts op w.split)))
      (λ a. list_all (λ b. not (does_need op a b) || holds w.invariant b) (tasks_of op (two_parts op w.split))) closed_at w.invariant h)

  pub remaining_right : remaining_finding op w.split w.dirs w.invariant ≡ None → has_nothing_remaining op w.split w.dirs w.invariant ≡ true
  remaining_right h = all_right (all_split_indices op w.split w.dirs remaining_part) (λ a. not (all_split_indices op w.split w.dirs remaining_part a)) (λ a. refl) w.invariant (mapped_none _ _ h)

  pub right_remaining : has_nothing_remaining op w.split w.dirs w.invariant ≡ true → remaining_finding op w.split w.dirs w.invariant ≡ None
  right_remaining h = none_mapped _ _ (none_wrong (all_split_indices op w.split w.dirs remaining_part) (λ a. not (all_split_indices op w.split w.dirs remaining_part a)) (λ a. refl) w.invariant h)

  pub done_right : done_finding op w.split w.dirs (tasks_of op (two_parts op w.split)) w.invariant ≡ None → has_all_done op w.split w.dirs w.invariant ≡ true
  done_right h = all_right (λ a. all_split_indices op w.split w.dirs done_part a && not (holds w.invariant a)) (λ a. not (all_split_indices op w.split w.dirs done_part a) || holds w.invariant a)
      (λ a. implies (all_split_indices op w.split w.dirs done_part a) (holds w.invariant a)) (tasks_of op (two_parts op w.split)) (mapped_none _ _ h)

  pub right_done : has_all_done op w.split w.dirs w.invariant ≡ true → done_finding op w.split w.dirs (tasks_of op (two_parts op w.split)) w.invariant ≡ None
  right_done h = none_mapped _ _ (none_wrong (λ a. all_split_indices op w.split w.dirs done_part a && not (holds w.invariant a)) (λ a. not (all_split_indices op w.split w.dirs done_part a) || holds w.invariant a)
      (λ a. implies (all_split_indices op w.split w.dirs done_part a) (holds w.invariant a)) (tasks_of op (two_parts op w.split)) h)

  pub undone_right : undone_finding op (cut_before op w.split w.dirs) (cut_after op w.split w.dirs) (tasks_of op (three_parts op w.split)) w.invariant ≡ None → undoes_nothing op w.split w.dirs w.invariant ≡ true
  undone_right h = all_right (λ a. is_done op w.invariant (cut_before op w.split w.dirs) a && not (is_done op w.invariant (cut_after op w.split w.dirs) a))
      (λ a. not (is_done op w.invariant (cut_before op w.split w.dirs) a) || is_done op w.invariant (cut_after op w.split w.dirs) a)
      (λ a. implies (is_done op w.invariant (cut_before op w.split w.dirs) a) (is_done op w.invariant (cut_after op w.split w.dirs) a)) (tasks_of op (three_parts op w.split)) (mapped_none _ _ h)

  pub right_undone : undoes_nothing op w.split w.dirs w.invariant ≡ true → undone_finding op (cut_before op w.split w.dirs) (cut_after op w.split w.dirs) (tasks_of op (three_parts op w.split)) w.invariant ≡ None
  right_undone h = none_mapped _ _ (none_wrong (λ a. is_done op w.invariant (cut_before op w.split w.dirs) a && not (is_done op w.invariant (cut_after op w.split w.dirs) a))
      (λ a. not (is_done op w.invariant (cut_before op w.split w.dirs) a) || is_done op w.invariant (cut_after op w.split w.dirs) a)
      (λ a. implies (is_done op w.invariant (cut_before op w.split w.dirs) a) (is_done op w.invariant (cut_after op w.split w.dirs) a)) (tasks_of op (three_parts op w.split)) h)

  -- ---- the whole

  pub right_valid : verdict_of op w ≡ Right → Valid op w
  right_valid h =
      let due = worksheet_of op w.split w.dirs w.invariant in
      let all = none_right (first_finding (invariant_findings op w ++ line_findings op w due)) h in
      let p1 = none_parts _ _ all in
      let p2 = none_parts _ _ p1.1 in
      let p3 = none_parts _ _ p2.1 in
      let p4 = none_parts _ _ p3.1 in
      let p5 = none_parts _ _ p4.1 in
      let p6 = none_parts _ _ p5.1 in
      let p7 = none_parts _ _ p6.1 in
      let p8 = none_parts _ _ p7.1 in
      let p9 = none_parts _ _ p8.1 in
      let p10 = none_parts _ _ p9.1 in
      let p11 = none_parts _ _ p10.1 in
      let p12 = none_parts _ _ p11.1 in
      record {
        in_order = order_right p1.0;
        feasible = and_from _ _ (and_from _ _ (and_from _ _ (closed_right p2.0) (remaining_right p3.0)) (done_right p4.0)) (undone_right p5.0);
        guard = guard_same w.guard due.guard p6.0;
        start = ends_same places.Start w.start due.start p7.0;
        take = ends_same places.Take w.take due.take p8.0;
        before = lines_same places.Before 1 w.before due.before p9.0;
        updates = updates_right op due.updates w.updates p10.0;
        give = ends_same places.Give w.give due.give p11.0;
        after = lines_same places.After 1 w.after due.after p12.0;
      }

  pub valid_right : Valid op w → verdict_of op w ≡ Right
  valid_right v =
      let due = worksheet_of op w.split w.dirs w.invariant in
      let undone = and_parts _ (undoes_nothing op w.split w.dirs w.invariant) v.feasible in
      let done = and_parts _ (has_all_done op w.split w.dirs w.invariant) undone.0 in
      let remaining = and_parts (is_closed op w.split w.invariant) (has_nothing_remaining op w.split w.dirs w.invariant) done.0 in
      let none : first_finding (invariant_findings op w ++ line_findings op w due) ≡ None =
      none_first _ _ (right_order v.in_order)
      (none_first _ _ (right_closed remaining.0)
      (none_first _ _ (right_remaining remaining.1)
      (none_first _ _ (right_done done.1)
      (none_first _ _ (right_undone undone.1)
      (none_first _ _ (same_guard w.guard due.guard v.guard)
      (none_first _ _ (same_ends places.Start w.start due.start v.start)
      (none_first _ _ (same_ends places.Take w.take due.take v.take)
      (none_first _ _ (subst (λ (l : List State). line_finding places.Before 1 l due.before ≡ None) (sym v.before) (same_lines places.Before 1 due.before))
      (none_first _ _ (right_updates op due.updates w.updates v.updates)
      (none_first _ _ (same_ends places.Give w.give due.give v.give)
      (none_first _ _ (subst (λ (l : List State). line_finding places.After 1 l due.after ≡ None) (sym v.after) (same_lines places.After 1 due.after)) refl))))))))))) in
      ap verdict_by none
