-- What a verdict shows of a place is what the worksheet has there, and what is due there.
use Rattle.std.proofs.Common.{◌≡◌, suc, List, [], true, not, ◌&&◌, Some, None, refl, sym, ap, ◌∙◌, subst, take, arith}
use Rattle.std.specs.Prelude.{Contains}
use Rattle.std.specs.List.{find, list_any}
use Rattle.operation_spec.specs.declared.operation.Operation.{Operation}
use Rattle.operation_spec.specs.declared.task.Task.{Task}
use Rattle.task_graph.specs.Classes.{class_of}
use Rattle.task_graph.specs.Needs.{does_need}
use Rattle.task_graph.specs.Order.{tasks_of}
use Rattle.invariant_family.specs.Feasible.{holds}
use Rattle.invariant_family.specs.Splits.{two_parts, three_parts, done_part, remaining_part, all_split_indices}
use Rattle.worksheet.specs.declared.sheet.Worksheet.{Worksheet}
use Rattle.worksheet.specs.declared.verdict.Shown.{Shown}
use Rattle.worksheet.specs.declared.verdict.Shown.TheVariants.{Nothing, One, Dims, Ends}
use Rattle.worksheet.specs.declared.verdict.Verdict.TheVariants.{Wrong}
use Rattle.worksheet.specs.declared.verdict.WsPlace.{WsPlace}
use Rattle.worksheet.specs.declared.verdict.WsPlace.TheVariants.{Order, F1, F2, F3, F4, Guard, Start, Take, Before, Update, Give, After}
use Rattle.worksheet.specs.Moments.{cut_before, cut_after}
use Rattle.worksheet.specs.Worksheets.{worksheet_of}
use Rattle.worksheet_check.specs.Findings.{task_shown, verdict_by}
use Rattle.worksheet_check.specs.InvariantFindings.{done_finding, lacks, need_finding, order_finding, out_of_order, remaining_finding, undone_finding}
use Rattle.worksheet_check.specs.RoundFindings.{ends_finding, guard_finding, line_finding, update_finding}
use Rattle.worksheet_check.specs.Verdicts.{verdict_of}
use Rattle.worksheet_check.proofs.FirstLines.{never_found}
use Rattle.worksheet_check.proofs.Held.{contains-from_held, held-from_contains}
use Rattle.worksheet_check.proofs.NoFindings.{mapped_none, none_mapped}
use Rattle.worksheet_check.proofs.RightVerdicts.{order_right, right_order}
use Rattle.worksheet_laws.specs.ShownPlaces.{AreNeeding, IsFirstAstray, IsShownAt, Lacks, LacksOne}
use Rattle.worksheet_laws.proofs.FirstFound.{any_one, any_within, first_found, first_told, found_within, from_outside, mapped_told, outside, tested_told}
use Rattle.worksheet_laws.proofs.ShownLines.{first_out, line_told, update_told}

module _ (op : Operation) (w : Worksheet) where
  abbrev due_sheet : Worksheet
  due_sheet = worksheet_of op w.split w.dirs w.invariant

  abbrev two_tasks : List Task
  two_tasks = tasks_of op (two_parts op w.split)

  abbrev three_tasks : List Task
  three_tasks = tasks_of op (three_parts op w.split)

  -- ---- the invariant

  -- the worksheet with other tasks in its invariant
  abbrev keeping : List Task → Worksheet
  keeping s = record w { invariant = s }

  astray : (a : Task) → out_of_order op two_tasks None w.invariant ≡ Some a → IsFirstAstray two_tasks w.invariant a
  astray a h =
      let first = first_out op two_tasks None w.invariant a h in
      record {
        at = first.at;
        here = first.here;
        before = order_right op (keeping (take first.at w.invariant)) (none_mapped _ _ first.none_before);
        with_it = λ sub. never_found (out_of_order op two_tasks None (take (suc first.at) w.invariant)) a
            (mapped_none _ _ (right_order op (keeping (take (suc first.at) w.invariant)) sub)) first.with_it;
      }

  lacks_one : (a : Task) → list_any (lacks op w.invariant a) two_tasks ≡ true → LacksOne op two_tasks w.invariant a
  lacks_one a h =
      let (b, one) = any_one (lacks op w.invariant a) two_tasks h in
      let within = found_within (lacks op w.invariant a) two_tasks b one in
      (b, within.0, outside w.invariant (does_need op a b) b within.1)

  from_lacks_one : (a : Task) → LacksOne op two_tasks w.invariant a → list_any (lacks op w.invariant a) two_tasks ≡ true
  from_lacks_one a (b, within, need) = any_within (lacks op w.invariant a) two_tasks b within (from_outside w.invariant (does_need op a b) b need)

  -- the first task that lacks one, and the first one that it lacks
  needing : (a : Task) → find (λ a. list_any (lacks op w.invariant a) two_tasks) w.invariant ≡ Some a
      → AreNeeding op two_tasks w.invariant (One a) (task_shown (find (lacks op w.invariant a) two_tasks))
  needing a one =
      let first = first_found (λ a. list_any (lacks op w.invariant a) two_tasks) (LacksOne op two_tasks w.invariant) lacks_one from_lacks_one w.invariant a one in
      let (b, need) = any_one (lacks op w.invariant a) two_tasks (from_lacks_one a first.has) in
      let next = first_found (lacks op w.invariant a) (Lacks op w.invariant a) (λ c. outside w.invariant (does_need op a c) c)
      (λ c. from_outside w.invariant (does_need op a c) c) two_tasks b need in
      (a, b, refl, ap task_shown need, first, next)

  -- the first of two tasks is one of the invariant and the second isn't
  kept_and_not : (a b : Task) → (holds w.invariant a && not (holds w.invariant b)) ≡ true → Contains w.invariant a × (¬ Contains w.invariant b)
  kept_and_not a b h = let both = outside w.invariant (holds w.invariant a) b h in (contains-from_held w.invariant a both.0, both.1)

  from_kept_and_not : (a b : Task) → Contains w.invariant a × (¬ Contains w.invariant b) → (holds w.invariant a && not (holds w.invariant b)) ≡ true
  from_kept_and_not a b h = from_outside w.invariant (holds w.invariant a) b (held-from_contains w.invariant a h.0, h.1)

-- ---- each finding

module _ (op : Operation) (w : Worksheet) (place : WsPlace) (found due : Shown) where
  order_told : verdict_by (order_finding op (two_tasks op w) w.invariant) ≡ Wrong place found due → IsShownAt op w place found due
  order_told h = mapped_told (IsShownAt op w) place found due (λ a. Order) One (λ a. Nothing) (out_of_order op (two_tasks op w) None w.invariant) h (λ a one. (a, refl, refl, astray op w a one))

  need_told : verdict_by (need_finding op (two_tasks op w) w.invariant) ≡ Wrong place found due → IsShownAt op w place found due
  need_told h =
      mapped_told (IsShownAt op w) place found due (λ a. F1) One (λ a. task_shown (find (lacks op w.invariant a) (two_tasks op w)))
      (find (λ a. list_any (lacks op w.invariant a) (two_tasks op w)) w.invariant) h (needing op w)

  remaining_told : verdict_by (remaining_finding op w.split w.dirs w.invariant) ≡ Wrong place found due → IsShownAt op w place found due
  remaining_told h =
      let remains = all_split_indices op w.split w.dirs remaining_part in
      mapped_told (IsShownAt op w) place found due (λ a. F2) One (λ a. Nothing) (find remains w.invariant) h
      (λ a one. (a, refl, refl, first_found remains (λ b. remains b ≡ true) (λ b e. e) (λ b e. e) w.invariant a one))

  done_told : verdict_by (done_finding op w.split w.dirs (two_tasks op w) w.invariant) ≡ Wrong place found due → IsShownAt op w place found due
  done_told h =
      let has_done = all_split_indices op w.split w.dirs done_part in
      let is_wanted = λ (a : Task). has_done a && not (holds w.invariant a) in
      mapped_told (IsShownAt op w) place found due (λ a. F3) (λ a. Nothing) One (find is_wanted (two_tasks op w)) h
      (λ a one. (
        a,
        refl,
        refl,
        first_found is_wanted (λ b. (has_done b ≡ true) × (¬ Contains w.invariant b)) (λ b. outside w.invariant (has_done b) b)
            (λ b. from_outside w.invariant (has_done b) b) (two_tasks op w) a one,
      ))

  undone_told : verdict_by (undone_finding op (cut_before op w.split w.dirs) (cut_after op w.split w.dirs) (three_tasks op w) w.invariant) ≡ Wrong place found due → IsShownAt op w place found due
  undone_told h =
      let before = class_of op (cut_before op w.split w.dirs) in
      let after = class_of op (cut_after op w.split w.dirs) in
      let is_undone = λ (a : Task). holds w.invariant (before a) && not (holds w.invariant (after a)) in
      mapped_told (IsShownAt op w) place found due (λ a. F4) (λ a. One (before a)) (λ a. One (after a)) (find is_undone (three_tasks op w)) h
      (λ a one. (
        a,
        refl,
        refl,
        first_found is_undone (λ b. Contains w.invariant (before b) × (¬ Contains w.invariant (after b))) (λ b. kept_and_not op w (before b) (after b))
            (λ b. from_kept_and_not op w (before b) (after b)) (three_tasks op w) a one,
      ))

  guard_told : verdict_by (guard_finding w.guard (due_sheet op w).guard) ≡ Wrong place found due → IsShownAt op w place found due
  guard_told h = tested_told (IsShownAt op w) place found due _ Guard (Dims w.guard) (Dims (due_sheet op w).guard) h (refl, refl)

  start_told : verdict_by (ends_finding Start w.start (due_sheet op w).start) ≡ Wrong place found due → IsShownAt op w place found due
  start_told h = tested_told (IsShownAt op w) place found due _ Start (Ends w.start) (Ends (due_sheet op w).start) h (refl, refl)

  take_told : verdict_by (ends_finding Take w.take (due_sheet op w).take) ≡ Wrong place found due → IsShownAt op w place found due
  take_told h = tested_told (IsShownAt op w) place found due _ Take (Ends w.take) (Ends (due_sheet op w).take) h (refl, refl)

  give_told : verdict_by (ends_finding Give w.give (due_sheet op w).give) ≡ Wrong place found due → IsShownAt op w place found due
  give_told h = tested_told (IsShownAt op w) place found due _ Give (Ends w.give) (Ends (due_sheet op w).give) h (refl, refl)

  before_told : verdict_by (line_finding Before 1 w.before (due_sheet op w).before) ≡ Wrong place found due → IsShownAt op w place found due
  before_told h =
      let line = line_told Before 1 w.before (due_sheet op w).before place found due h in
      let at : place ≡ Before (suc line.number) = line.placed ∙ ap Before (omega arith) in
      subst (λ x. IsShownAt op w x found due) (sym at) (line.found_there, line.due_there)

  after_told : verdict_by (line_finding After 1 w.after (due_sheet op w).after) ≡ Wrong place found due → IsShownAt op w place found due
  after_told h =
      let line = line_told After 1 w.after (due_sheet op w).after place found due h in
      let at : place ≡ After (suc line.number) = line.placed ∙ ap After (omega arith) in
      subst (λ x. IsShownAt op w x found due) (sym at) (line.found_there, line.due_there)

  updates_told : verdict_by (update_finding op (due_sheet op w).updates [] 1 w.updates) ≡ Wrong place found due → IsShownAt op w place found due
  updates_told h =
      let update = update_told op (due_sheet op w).updates [] 1 w.updates place found due h in
      let at : place ≡ Update (suc update.number) = update.placed ∙ ap Update (omega arith) in
      subst (λ x. IsShownAt op w x found due) (sym at) (update.within, update.is_shown)

  -- ---- the first of them

  pub verdict_shows : verdict_of op w ≡ Wrong place found due → IsShownAt op w place found due
  verdict_shows =
      let or = first_told (IsShownAt op w) place found due in
      or _ _ order_told (or _ _ need_told (or _ _ remaining_told (or _ _ done_told (or _ _ undone_told
      (or _ _ guard_told (or _ _ start_told (or _ _ take_told (or _ _ before_told (or _ _ updates_told
      (or _ _ give_told (or _ _ after_told (λ h. absurd cc))))))))))))
