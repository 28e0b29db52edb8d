use Rattle.std.proofs.Common.{◌≡◌, ℕ, ◌+◌, ◌<◌, ◌≤◌, Result, Err, Option, List, length, refl, sym, ap, ◌∙◌, subst, arith}
use Rattle.std.specs.Prelude.{IfNone, IfSome, IsErrAnd}
use Rattle.std.proofs.lemmas.Result.{err_from_is_err_and}
use Rattle.task_graph.specs.declared.fault.TaskFault.{TaskFault}
use Rattle.task_graph.specs.declared.fault.TaskFault.TheVariants as tasks
use Rattle.equation.specs.declared.job.Job.{Job}
use Rattle.equation.specs.Jobs.{IsJob}
use Rattle.step_replays.specs.declared.step.Step.{Step}
use Rattle.step_replays.specs.Fits.{FitsJob}
use Rattle.invariant_family.specs.declared.variant.Variant.{Variant}
use Rattle.job_blocks.specs.BlockedJobs.{BlockedJob}
use Rattle.issue_list.specs.declared.choice.Choice.{Choice}
use Rattle.issue_list.specs.declared.fault.IssueFault.{IssueFault}
use Rattle.issue_list.specs.declared.fault.IssueFault.TheVariants.{TooManySteps}
use Rattle.issue_list.specs.declared.parts.StatementDim.{StatementDim}
use Rattle.issue_list.specs.CanonicalSteps.{HasFewParts, IsFirstLong, most_steps}
use Rattle.issue_list.specs.IssuedSteps.{HaveVariants, issued_steps}
use Rattle.issue_list.specs.Choices.{HasDueCount, IsFirstWithout, numbers_for, numbers_of}
use Rattle.issue_list.specs.ChosenVariants.{AreFirstVariants, AreVariants, chosen_steps}
use Rattle.issue_list.specs.Faults.{fault_of}
use Rattle.issue_list.proofs.FoundVariants.{are-variants, chosen-issued, first-without, have-variants}
use Rattle.issue_list.proofs.IssuedSteps.{issued-fits}
use Rattle.issue_list.proofs.job_steps.issue.Goals as goal

-- what the functions that are called say of the blocked job x, of the job itself
module _ (job : Job) (choice : Choice) (b : ℕ) (x : BlockedJob) (is : x ≡ record { job = job; b = b }) where
  -- the numbers are as many as the statements
  counted : (given due : ℕ) → given ≡ length (numbers_for due choice) → given ≡ due → due ≡ length x.job.statements → HasDueCount job choice
  counted given due e same all = subst (λ (y : BlockedJob). HasDueCount y.job choice) is (ap (λ (n : ℕ). length (numbers_for n choice)) (sym all) ∙ sym e ∙ same ∙ all)

  module _ (vs : List Variant) (are : AreFirstVariants x.job (numbers_of x.job choice) vs) where
    none-next : length vs < length x.job.statements → IsFirstWithout job (numbers_of job choice) (length vs + 1)
    none-next below = subst (λ (y : BlockedJob). IsFirstWithout y.job (numbers_of y.job choice) (length vs + 1)) is (first-without x.job (numbers_of x.job choice) vs are below)

    module _ (all : length x.job.statements ≤ length vs) where
      have : HaveVariants job (numbers_of job choice)
      have = subst (λ (y : BlockedJob). HaveVariants y.job (numbers_of y.job choice)) is (have-variants x.job (numbers_of x.job choice) vs are all)

      same-steps : chosen_steps x.job x.b vs ≡ issued_steps job b (numbers_of job choice)
      same-steps = chosen-issued x.job (numbers_of x.job choice) vs are all x.b ∙ ap (λ (y : BlockedJob). issued_steps y.job y.b (numbers_of y.job choice)) is

      -- and so they fit it
      fit : (steps : List Step) → IsJob job → steps ≡ chosen_steps x.job x.b vs → FitsJob job b steps
      fit steps valid e = subst (FitsJob job b) (sym (e ∙ same-steps)) (issued-fits job b (numbers_of job choice) valid have)

pub returns-then-len-due-clause-none : goal.returns-then-len-due-clause-none
returns-then-len-due-clause-none c s h =
    let job = c.args.job.now in
    let choice = c.args.choice.now in
    let vs = c.in_ok-variants.variants.items in
    let below : length vs < length c.in_ok-blocks.blocks.job.statements =
    omega (arith, c.if-len-due.true, c.len.ensures, c.in_ok-variants.variants.ok.0, c.statement_count-due.ensures.count) in
    let told : c.len-then-len-due.result + 1 ≡ s = cc in
    let number : length vs + 1 ≡ s = omega (arith, told, c.len-then-len-due.ensures, c.in_ok-variants.variants.ok.0) in (
      counted job choice c.args.b c.in_ok-blocks.blocks c.in_ok-blocks.ensures c.count-given.result c.statement_count-due.result c.count-given.ensures c.if-given-due.false c.statement_count-due.ensures.count,
      subst (IsFirstWithout job (numbers_of job choice)) number (none-next job choice c.args.b c.in_ok-blocks.blocks c.in_ok-blocks.ensures vs c.in_ok-variants.ensures below),
    )

pub list_steps-requires : goal.list_steps-requires
list_steps-requires c =
    let x = c.in_ok-blocks.blocks in
    let vs = c.in_ok-variants.variants.items in
    let all : length x.job.statements ≤ length vs = omega (arith, c.if-len-due.false, c.len.ensures, c.in_ok-variants.variants.ok.0, c.statement_count-due.ensures.count) in
    subst (AreVariants x.job) (sym c.as_slice.ensures.value) (are-variants x.job (numbers_of x.job c.args.choice.now) vs c.in_ok-variants.ensures all)

pub returns-in-Some-clause-parts : goal.returns-in-Some-clause-parts
returns-in-Some-clause-parts c s d h =
    let job = c.args.job.now in
    let choice = c.args.choice.now in
    let x = c.in_ok-blocks.blocks in
    let all : length x.job.statements ≤ length c.in_ok-variants.variants.items =
    omega (arith, c.if-len-due.false, c.len.ensures, c.in_ok-variants.variants.ok.0, c.statement_count-due.ensures.count) in
    let statement : c.in-Some.long.statement ≡ s = cc in
    let dim : c.in-Some.long.dim ≡ d = cc in
    let long : IsFirstLong x.job x.b c.in-Some.long.statement c.in-Some.long.dim =
    subst (λ (found : Option StatementDim). IfSome found (λ long. IsFirstLong x.job x.b long.statement long.dim)) c.in-Some.is c.in_ok-long.ensures.long in (
      counted job choice c.args.b x c.in_ok-blocks.ensures c.count-given.result c.statement_count-due.result c.count-given.ensures c.if-given-due.false c.statement_count-due.ensures.count,
      have job choice c.args.b x c.in_ok-blocks.ensures c.in_ok-variants.variants.items c.in_ok-variants.ensures all,
      subst (IsFirstLong job c.args.b s) dim (subst (λ (n : ℕ). IsFirstLong job c.args.b n c.in-Some.long.dim) statement
          (subst (λ (y : BlockedJob). IsFirstLong y.job y.b c.in-Some.long.statement c.in-Some.long.dim) c.in_ok-blocks.ensures long)),
    )

-- the fault that is handed on as TooManySteps
too-many : {T U : Type 0} (came : TaskFault) (r : Result T IssueFault) → IsErrAnd r (λ e. e ≡ fault_of came) → r ≡ Err TooManySteps
    → ◌≡◌ {A = Result U TaskFault} (Err came) (Err tasks.TooMany)
too-many {T} {U} came r passed told = let p = err_from_is_err_and r passed in go came (cc)
  where
    go : (f : TaskFault) → fault_of f ≡ TooManySteps → ◌≡◌ {A = Result U TaskFault} (Err f) (Err tasks.TooMany)
    go tasks.Memory e = absurd (cc)
    go tasks.TooMany e = refl

pub returns-in_err-list_steps-in-None-clause-many : goal.returns-in_err-list_steps-in-None-clause-many
returns-in_err-list_steps-in-None-clause-many c h =
    let job = c.args.job.now in
    let choice = c.args.choice.now in
    let x = c.in_ok-blocks.blocks in
    let vs = c.in_ok-variants.variants.items in
    let all : length x.job.statements ≤ length vs = omega (arith, c.if-len-due.false, c.len.ensures, c.in_ok-variants.variants.ok.0, c.statement_count-due.ensures.count) in
    let passed = c.from_residual-in_err-list_steps-in-None in
    let few : HasFewParts x.job x.b = subst (λ (found : Option StatementDim). IfNone found (HasFewParts x.job x.b)) c.in-None.is c.in_ok-long.ensures.few in (
      counted job choice c.args.b x c.in_ok-blocks.ensures c.count-given.result c.statement_count-due.result c.count-given.ensures c.if-given-due.false c.statement_count-due.ensures.count,
      have job choice c.args.b x c.in_ok-blocks.ensures vs c.in_ok-variants.ensures all,
      subst (λ (y : BlockedJob). HasFewParts y.job y.b) c.in_ok-blocks.ensures few,
      subst (λ (n : ℕ). most_steps < n) (ap (λ (own : List Variant). length (chosen_steps x.job x.b own)) c.as_slice.ensures.value
          ∙ ap length (same-steps job choice c.args.b x c.in_ok-blocks.ensures vs c.in_ok-variants.ensures all))
          (c.in_err-list_steps-in-None.ensures.many (too-many c.in_err-list_steps-in-None.field-0.0 passed.result passed.ensures.1 h)),
    )

pub returns-clause-steps : goal.returns-clause-steps
returns-clause-steps c =
    let x = c.in_ok-blocks.blocks in
    let vs = c.in_ok-variants.variants.items in
    let all : length x.job.statements ≤ length vs = omega (arith, c.if-len-due.false, c.len.ensures, c.in_ok-variants.variants.ok.0, c.statement_count-due.ensures.count) in
    c.in_ok-list_steps-in-None.ensures.steps
    ∙ ap (chosen_steps x.job x.b) c.as_slice.ensures.value
    ∙ same-steps c.args.job.now c.args.choice.now c.args.b x c.in_ok-blocks.ensures vs c.in_ok-variants.ensures all

pub returns-clause-variants : goal.returns-clause-variants
returns-clause-variants c =
    let x = c.in_ok-blocks.blocks in
    let vs = c.in_ok-variants.variants.items in
    let all : length x.job.statements ≤ length vs = omega (arith, c.if-len-due.false, c.len.ensures, c.in_ok-variants.variants.ok.0, c.statement_count-due.ensures.count) in (
      counted c.args.job.now c.args.choice.now c.args.b x c.in_ok-blocks.ensures c.count-given.result c.statement_count-due.result c.count-given.ensures c.if-given-due.false c.statement_count-due.ensures.count,
      have c.args.job.now c.args.choice.now c.args.b x c.in_ok-blocks.ensures vs c.in_ok-variants.ensures all,
    )

pub returns-clause-fit : goal.returns-clause-fit
returns-clause-fit c =
    let x = c.in_ok-blocks.blocks in
    let vs = c.in_ok-variants.variants.items in
    let all : length x.job.statements ≤ length vs = omega (arith, c.if-len-due.false, c.len.ensures, c.in_ok-variants.variants.ok.0, c.statement_count-due.ensures.count) in
    fit c.args.job.now c.args.choice.now c.args.b x c.in_ok-blocks.ensures vs c.in_ok-variants.ensures all c.in_ok-list_steps-in-None.field-0 c.requires.job
    (c.in_ok-list_steps-in-None.ensures.steps ∙ ap (chosen_steps x.job x.b) c.as_slice.ensures.value)
