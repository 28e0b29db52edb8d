-- A worksheet is valid exactly where it is right at all its places.
use Rattle.std.proofs.Common.{◌≡◌, zero, suc, [], true, refl, ap}
use Rattle.std.specs.Prelude.{slice_get}
use Rattle.std.proofs.lemmas.Bool.{and_parts}
use Rattle.operation_spec.specs.declared.operation.Operation.{Operation}
use Rattle.invariant_family.specs.Feasible.{is_closed, has_nothing_remaining, has_all_done, undoes_nothing}
use Rattle.worksheet.specs.declared.sheet.Worksheet.{Worksheet}
use Rattle.worksheet.specs.declared.verdict.Verdict.{Verdict}
use Rattle.worksheet.specs.declared.verdict.Verdict.TheVariants.{Right, Wrong}
use Rattle.worksheet.specs.declared.verdict.WsPlace.{WsPlace}
use Rattle.worksheet.specs.declared.verdict.WsPlace.TheVariants.{Order, F1, F2, F3, F4, Guard, Start, Take, Before, Update, Give, After}
use Rattle.worksheet.specs.Moments.{updates_of}
use Rattle.worksheet.specs.Worksheets.{Valid}
use Rattle.worksheet_check.specs.Places.{IsRightAt}
use Rattle.worksheet_check.specs.Verdicts.{verdict_of}
use Rattle.worksheet_check.proofs.FirstUpdates.{each_right}
use Rattle.worksheet_check.proofs.RightUpdates.{right_updates}
use Rattle.worksheet_check.proofs.RightVerdicts.{right_valid}
use Rattle.worksheet_check.proofs.WrongPlaces.{wrong_there}

module _ (op : Operation) (w : Worksheet) where
  pub right_where_valid : Valid op w → (place : WsPlace) → IsRightAt op w place
  right_where_valid v = at
    where
      undone : (is_closed op w.split w.invariant ≡ true) × (has_nothing_remaining op w.split w.dirs w.invariant ≡ true)
          × (has_all_done op w.split w.dirs w.invariant ≡ true) × (undoes_nothing op w.split w.dirs w.invariant ≡ true)
      undone =
          let last = and_parts _ (undoes_nothing op w.split w.dirs w.invariant) v.feasible in
          let done = and_parts _ (has_all_done op w.split w.dirs w.invariant) last.0 in
          let first = and_parts (is_closed op w.split w.invariant) (has_nothing_remaining op w.split w.dirs w.invariant) done.0 in
          (first.0, first.1, done.1, last.1)

      at : (place : WsPlace) → IsRightAt op w place
      at Order = v.in_order
      at F1 = undone.0
      at F2 = undone.1
      at F3 = undone.2
      at F4 = undone.3
      at Guard = v.guard
      at Start = v.start
      at Take = v.take
      at (Before zero) = tt
      at (Before (suc k)) = ap (λ lines. slice_get lines k) v.before
      at (Update zero) = tt
      at (Update (suc k)) =
          let due = updates_of op w.split w.dirs w.invariant in
          each_right op due [] 1 w.updates (right_updates op due w.updates v.updates) k
      at Give = v.give
      at (After zero) = tt
      at (After (suc k)) = ap (λ lines. slice_get lines k) v.after

  -- a verdict that some place is wrong isn't one where all are right
  pub valid_where_right : ((place : WsPlace) → IsRightAt op w place) → Valid op w
  valid_where_right all = by_verdict (verdict_of op w) refl
    where
      by_verdict : (v : Verdict) → verdict_of op w ≡ v → Valid op w
      by_verdict Right told = right_valid op w told
      by_verdict (Wrong place found due) told = absurd (wrong_there op w place found due told (all place))
