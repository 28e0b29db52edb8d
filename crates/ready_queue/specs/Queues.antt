-- What a clause says of a queue and its passes.
use Rattle.std.specs.Prelude.{◌≡◌, ℕ, List, [], length, All}
use Rattle.crossbeam_queue.specs.Passes as passes
use Rattle.ready_queue.specs.declared.pass_view.PassView.{PassView}
use Rattle.ready_queue.specs.declared.queue.Pass.{Pass}
use Rattle.ready_queue.specs.declared.queue.Ready.{Ready}

-- the steps of the queue are numbered from 1 to this number
abbrev pub steps_of : Ready → ℕ
steps_of queue = queue.steps

-- how many callers the queue is for
abbrev pub callers_of : Ready → ℕ
callers_of queue = queue.callers

-- what the pass knows
abbrev pub view : Pass → PassView
view pass = passes.view pass.inner

-- the pass is of this queue, knows its sizes, and stands for so many callers
pub record IsPassFor (queue : Ready) (parts : ℕ) (pass : Pass) : Type 0 where
  pub inner : passes.IsPassOf queue.numbers pass.inner
  pub steps_are : (view pass).steps ≡ steps_of queue
  pub callers_are : (view pass).callers ≡ callers_of queue
  pub parts_are : (view pass).parts ≡ parts

-- the pass of one caller
abbrev pub IsPassOf : Ready → Pass → Type 0
IsPassOf queue pass = IsPassFor queue 1 pass

-- ---- a queue that was made

-- and it has pushed and popped nothing
pub record IsNewPass (queue : Ready) (parts : ℕ) (pass : Pass) : Type 0 where
  pub of : IsPassFor queue parts pass
  pub pushed : (view pass).pushed ≡ []
  pub popped : (view pass).popped ≡ []

-- a caller's pass that has pushed and popped nothing
abbrev pub IsFirstPass : Ready → Pass → Type 0
IsFirstPass queue pass = IsNewPass queue 1 pass

-- one such pass for each caller
pub record AreFirstPasses (queue : Ready) (passes : List Pass) : Type 0 where
  pub many : length passes ≡ callers_of queue
  pub each : All (IsFirstPass queue) passes
