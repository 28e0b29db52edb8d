-- The place that a verdict names is the first one that is wrong.
use Rattle.std.proofs.Common.{◌≡◌, suc, ◌+◌, List, [], ◌++◌, Bool, true, false, cond, Option, Some, None, refl, sym, ap, ◌∙◌, subst, arith}
use Rattle.std.specs.Prelude.{slice_get}
use Rattle.operation_spec.specs.declared.operation.Operation.{Operation}
use Rattle.worksheet.specs.declared.sheet.State.{State}
use Rattle.worksheet.specs.declared.sheet.Worksheet.{Worksheet}
use Rattle.worksheet.specs.declared.verdict.Shown.{Shown}
use Rattle.worksheet.specs.declared.verdict.Verdict.TheVariants.{Wrong}
use Rattle.worksheet.specs.declared.verdict.WsPlace.{WsPlace}
use Rattle.worksheet.specs.declared.verdict.WsPlace.TheVariants.{Order, F1, F2, F3, F4, Guard, Start, Take, Before, Update, Give, After}
use Rattle.worksheet.specs.Worksheets.{worksheet_of}
use Rattle.worksheet_check.specs.declared.findings.Finding.{Finding}
use Rattle.worksheet_check.specs.Findings.{first_finding, verdict_by}
use Rattle.worksheet_check.specs.InvariantFindings.{invariant_findings}
use Rattle.worksheet_check.specs.Places.{is_before, IsRightAt}
use Rattle.worksheet_check.specs.RoundFindings.{line_finding, update_finding}
use Rattle.worksheet_check.specs.Verdicts.{line_findings, verdict_of}
use Rattle.worksheet_check.proofs.FirstLines.{same_place, mapped_place, first_other}
use Rattle.worksheet_check.proofs.FirstPlaces.{Stage, IsFirst, first, alone, numbered}
use Rattle.worksheet_check.proofs.FirstUpdates.{each_right, first_wrong}
use Rattle.worksheet_check.proofs.RightVerdicts.{order_right, right_order, closed_right, right_closed, remaining_right, right_remaining, done_right, right_done, undone_right, right_undone}
use Rattle.worksheet_check.proofs.SameLines.{guard_same, same_guard, ends_same, same_ends, lines_same}

-- a finding where a test fails is at its place
tested_place : (b : Bool) (g f : Finding) → cond b None (Some g) ≡ Some f → f.place ≡ g.place
tested_place true g f h = cc
tested_place false g f h = same_place g f h

-- a verdict of a wrong place comes from a finding there
by_finding : (o : Option Finding) (place : WsPlace) (found due : Shown) → verdict_by o ≡ Wrong place found due → (f : Finding) × (o ≡ Some f) × (f.place ≡ place)
by_finding None place found due h = cc
by_finding (Some f) place found due h = (f, refl, cc)

module _ (op : Operation) (w : Worksheet) where
  abbrev due_sheet : Worksheet
  due_sheet = worksheet_of op w.split w.dirs w.invariant

  before_stage : Stage op w 8 (line_finding Before 1 w.before due_sheet.before)
  before_stage = numbered op w Before 8 (line_finding Before 1 w.before due_sheet.before) (λ n. refl) (λ n. refl) tt (λ n. refl)
      (λ none k. ap (λ (l : List State). slice_get l k) (lines_same Before 1 w.before due_sheet.before none))
      (λ f h. let (k, at, one) = first_other Before 1 w.before due_sheet.before f h in
      let next : k + 1 ≡ suc k = omega arith in (k, at ∙ ap Before next, one.before, one.here))

  after_stage : Stage op w 11 (line_finding After 1 w.after due_sheet.after)
  after_stage = numbered op w After 11 (line_finding After 1 w.after due_sheet.after) (λ n. refl) (λ n. refl) tt (λ n. refl)
      (λ none k. ap (λ (l : List State). slice_get l k) (lines_same After 1 w.after due_sheet.after none))
      (λ f h. let (k, at, one) = first_other After 1 w.after due_sheet.after f h in
      let next : k + 1 ≡ suc k = omega arith in (k, at ∙ ap After next, one.before, one.here))

  update_stage : Stage op w 9 (update_finding op due_sheet.updates [] 1 w.updates)
  update_stage = numbered op w Update 9 (update_finding op due_sheet.updates [] 1 w.updates) (λ n. refl) (λ n. refl) tt (λ n. refl)
      (λ none k. each_right op due_sheet.updates [] 1 w.updates none k)
      (λ f h. let (k, at, one) = first_wrong op due_sheet.updates [] 1 w.updates f h in
      let next : k + 1 ≡ suc k = omega arith in (k, at ∙ ap Update next, one.before, one.here))

  first_found : (f : Finding) → first_finding (invariant_findings op w ++ line_findings op w due_sheet) ≡ Some f → IsFirst op w 0 f
  first_found f h = first op w 0 (invariant_findings op w ++ line_findings op w due_sheet) (
    alone op w Order _ refl (λ n. refl) (order_right op w) (right_order op w) (λ f h. mapped_place _ Order _ f h (λ x. refl)),
    (
      alone op w F1 _ refl (λ n. refl) (closed_right op w) (right_closed op w) (λ f h. mapped_place _ F1 _ f h (λ x. refl)),
      (
        alone op w F2 _ refl (λ n. refl) (remaining_right op w) (right_remaining op w) (λ f h. mapped_place _ F2 _ f h (λ x. refl)),
        (
          alone op w F3 _ refl (λ n. refl) (done_right op w) (right_done op w) (λ f h. mapped_place _ F3 _ f h (λ x. refl)),
          (
            alone op w F4 _ refl (λ n. refl) (undone_right op w) (right_undone op w) (λ f h. mapped_place _ F4 _ f h (λ x. refl)),
            (
              alone op w Guard _ refl (λ n. refl) (guard_same w.guard due_sheet.guard) (same_guard w.guard due_sheet.guard) (λ f h. tested_place _ _ f h),
              (
                alone op w Start _ refl (λ n. refl) (ends_same Start w.start due_sheet.start) (same_ends Start w.start due_sheet.start) (λ f h. tested_place _ _ f h),
                (
                  alone op w Take _ refl (λ n. refl) (ends_same Take w.take due_sheet.take) (same_ends Take w.take due_sheet.take) (λ f h. tested_place _ _ f h),
                  (
                    before_stage,
                    (
                      update_stage,
                      (
                        alone op w Give _ refl (λ n. refl) (ends_same Give w.give due_sheet.give) (same_ends Give w.give due_sheet.give) (λ f h. tested_place _ _ f h),
                        (
                          after_stage,
                          tt,
                        ),
                      ),
                    ),
                  ),
                ),
              ),
            ),
          ),
        ),
      ),
    ),
  ) f h

  pub wrong_there : (place : WsPlace) (found due : Shown) → verdict_of op w ≡ Wrong place found due → ¬ IsRightAt op w place
  wrong_there place found due h right =
      let (f, one, at) = by_finding (first_finding (invariant_findings op w ++ line_findings op w due_sheet)) place found due h in
      (first_found f one).wrong (subst (IsRightAt op w) (sym at) right)

  pub right_before : (place : WsPlace) (found due : Shown) (earlier : WsPlace) → verdict_of op w ≡ Wrong place found due → is_before earlier place ≡ true → IsRightAt op w earlier
  right_before place found due earlier h before =
      let (f, one, at) = by_finding (first_finding (invariant_findings op w ++ line_findings op w due_sheet)) place found due h in
      (first_found f one).earlier earlier (omega arith) (subst (λ p. is_before earlier p ≡ true) (sym at) before)
