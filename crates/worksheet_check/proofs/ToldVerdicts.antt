-- The verdict that is told of findings, one after another. Cited by the check.
use Rattle.std.proofs.Common.{◌≡◌, List, [], ◌∷◌, ◌++◌, Option, Some, None, refl, sym, ap, ◌∙◌, subst}
use Rattle.std.specs.Prelude.{◌↔◌, Result, Err, IfOk}
use Rattle.std.specs.Option.{option_or}
use Rattle.operation_spec.specs.declared.operation.Operation.{Operation}
use Rattle.operation_spec.specs.declared.task.Task.{Task}
use Rattle.task_graph.specs.declared.cut.Sides.{Sides}
use Rattle.task_graph.specs.Order.{tasks_of}
use Rattle.invariant_family.specs.Splits.{two_parts, three_parts}
use Rattle.worksheet.specs.declared.sheet.Worksheet.{Worksheet}
use Rattle.worksheet.specs.declared.verdict.Verdict.{Verdict}
use Rattle.worksheet.specs.declared.verdict.Verdict.TheVariants.{Right}
use Rattle.worksheet.specs.Moments.{cut_before, cut_after}
use Rattle.worksheet.specs.Worksheets.{worksheet_of, Valid}
use Rattle.worksheet_check.specs.declared.findings.Finding.{Finding}
use Rattle.worksheet_check.specs.Findings.{first_finding, verdict_by}
use Rattle.worksheet_check.specs.InvariantFindings.{order_finding, need_finding, remaining_finding, done_finding, undone_finding, invariant_findings}
use Rattle.worksheet_check.specs.Verdicts.{line_findings, verdict_of}
use Rattle.worksheet_check.proofs.RightVerdicts.{right_valid, valid_right}

-- where a call answers an error, nothing is told of a value
pub refused : {T E : Type 0} (r : Result T E) (P : T → Type 0) (e : E) → r ≡ Err e → IfOk r P
refused r P e h = subst (λ x. IfOk x P) (sym h) tt

-- ---- the first of several

pub first_of_five : (a b c d e : Option Finding) → option_or (option_or (option_or (option_or a b) c) d) e ≡ first_finding (a ∷ b ∷ c ∷ d ∷ e ∷ [])
first_of_five (Some f) b c d e = refl
first_of_five None (Some f) c d e = refl
first_of_five None None (Some f) d e = refl
first_of_five None None None (Some f) e = refl
first_of_five None None None None (Some f) = refl
first_of_five None None None None None = refl

pub first_of_seven : (a b c d e f g : Option Finding)
    → option_or (option_or (option_or (option_or (option_or (option_or a b) c) d) e) f) g ≡ first_finding (a ∷ b ∷ c ∷ d ∷ e ∷ f ∷ g ∷ [])
first_of_seven (Some x) b c d e f g = refl
first_of_seven None b c d e f g = six b c d e f g
  where
    six : (b c d e f g : Option Finding) → option_or (option_or (option_or (option_or (option_or b c) d) e) f) g ≡ first_finding (b ∷ c ∷ d ∷ e ∷ f ∷ g ∷ [])
    six (Some x) c d e f g = refl
    six None c d e f g = first_of_five c d e f g

-- the same, joined step by step
pub five_told : (a b c d e : Option Finding) {o1 o2 o3 o4 : Option Finding} → o1 ≡ option_or a b → o2 ≡ option_or o1 c → o3 ≡ option_or o2 d → o4 ≡ option_or o3 e
    → o4 ≡ first_finding (a ∷ b ∷ c ∷ d ∷ e ∷ [])
five_told a b c d e h1 h2 h3 h4 =
    h4 ∙ ap (λ o. option_or o e) (h3 ∙ ap (λ o. option_or o d) (h2 ∙ ap (λ o. option_or o c) h1)) ∙ first_of_five a b c d e

pub seven_told : (a b c d e f g : Option Finding) {o1 o2 o3 o4 o5 o6 : Option Finding} → o1 ≡ option_or a b → o2 ≡ option_or o1 c → o3 ≡ option_or o2 d → o4 ≡ option_or o3 e
    → o5 ≡ option_or o4 f → o6 ≡ option_or o5 g → o6 ≡ first_finding (a ∷ b ∷ c ∷ d ∷ e ∷ f ∷ g ∷ [])
seven_told a b c d e f g h1 h2 h3 h4 h5 h6 =
    h6 ∙ ap (λ o. option_or o g) (h5 ∙ ap (λ o. option_or o f) (h4 ∙ ap (λ o. option_or o e) (h3 ∙ ap (λ o. option_or o d) (h2 ∙ ap (λ o. option_or o c) h1))))
    ∙ first_of_seven a b c d e f g

-- equal findings in front of equal ones
pub in_front : {a b : Option Finding} {xs ys : List (Option Finding)} → a ≡ b → xs ≡ ys → (a ∷ xs) ≡ (b ∷ ys)
in_front {a} {b} {xs} h k = ap (λ x. x ∷ xs) h ∙ ap (λ l. b ∷ l) k

-- a finding by two lists that are known by others
pub by_both : {A B C : Type 0} (f : A → B → C) {a c : A} {b d : B} → a ≡ c → b ≡ d → f a b ≡ f c d
by_both f {a} {c} {b} h k = ap (λ x. f x b) h ∙ ap (f c) k

-- those of two lists
joined : (xs ys : List (Option Finding)) → option_or (first_finding xs) (first_finding ys) ≡ first_finding (xs ++ ys)
joined [] ys = refl
joined (None ∷ xs) ys = joined xs ys
joined (Some f ∷ xs) ys = refl

module _ (op : Operation) (w : Worksheet) where
  -- the findings of the invariant, from the tasks and cuts that were made
  pub invariant_told : (two three set : List Task) (before after : List Sides) (found : Option Finding)
      → two ≡ tasks_of op (two_parts op w.split) → three ≡ tasks_of op (three_parts op w.split)
      → before ≡ cut_before op w.split w.dirs → after ≡ cut_after op w.split w.dirs → set ≡ w.invariant
      → found ≡ first_finding (order_finding op two set ∷ need_finding op two set ∷ remaining_finding op w.split w.dirs set
      ∷ done_finding op w.split w.dirs two set ∷ undone_finding op before after three set ∷ [])
      → found ≡ first_finding (invariant_findings op w)
  invariant_told two three set before after found by_two by_three by_before by_after by_set h =
      let findings = λ (two three set : List Task) (before after : List Sides). first_finding (order_finding op two set ∷ need_finding op two set
      ∷ remaining_finding op w.split w.dirs set ∷ done_finding op w.split w.dirs two set ∷ undone_finding op before after three set ∷ []) in
      h ∙ ap (λ x. findings x three set before after) by_two
      ∙ ap (λ x. findings (tasks_of op (two_parts op w.split)) x set before after) by_three
      ∙ ap (λ x. findings (tasks_of op (two_parts op w.split)) (tasks_of op (three_parts op w.split)) x before after) by_set
      ∙ ap (λ x. findings (tasks_of op (two_parts op w.split)) (tasks_of op (three_parts op w.split)) w.invariant x after) by_before
      ∙ ap (λ x. findings (tasks_of op (two_parts op w.split)) (tasks_of op (three_parts op w.split)) w.invariant (cut_before op w.split w.dirs) x) by_after

  -- the verdict, by the findings of the invariant and those of the other lines
  pub verdict_told : (due : Worksheet) (of_invariant of_lines found : Option Finding) (v : Verdict)
      → due ≡ worksheet_of op w.split w.dirs w.invariant → of_invariant ≡ first_finding (invariant_findings op w)
      → of_lines ≡ first_finding (line_findings op w due) → found ≡ option_or of_invariant of_lines → v ≡ verdict_by found → v ≡ verdict_of op w
  verdict_told due of_invariant of_lines found v by_due by_invariant by_lines by_both told =
      told ∙ ap verdict_by (by_both ∙ ap (λ x. option_or x of_lines) by_invariant
      ∙ ap (option_or (first_finding (invariant_findings op w))) (by_lines ∙ ap (λ d. first_finding (line_findings op w d)) by_due)
      ∙ joined (invariant_findings op w) (line_findings op w (worksheet_of op w.split w.dirs w.invariant)))

  -- it is right exactly where the worksheet is valid
  pub right_told : (v : Verdict) → v ≡ verdict_of op w → (v ≡ Right) ↔ Valid op w
  right_told v told = (λ right. right_valid op w (sym told ∙ right), λ valid. told ∙ valid_right op w valid)
