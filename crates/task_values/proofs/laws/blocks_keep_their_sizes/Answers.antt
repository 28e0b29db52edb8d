use Rattle.std.proofs.Common.{◌≡◌, ℕ, ◌*◌, ◌≤◌, List, length, ap₂, sym, ◌∙◌, arith}
use Rattle.equation.specs.declared.job.Job.{Job}
use Rattle.equation.specs.Jobs.{IsJob}
use Rattle.step_replays.specs.declared.step.Step.{Step}
use Rattle.step_replays.specs.Accesses.{first_block}
use Rattle.step_replays.specs.Fits.{FitsJob}
use Rattle.step_replays.specs.Replays.{StepResult, IsReplay, block_after}
use Rattle.step_replays.proofs.JobReplays.{JobReplay, whole-front}
use Rattle.step_replays.proofs.ReplayBlocks.{IsLikeFirst, like}
use Rattle.task_values.proofs.laws.blocks_keep_their_sizes.Goals as goal

module _ (job : Job) (b : ℕ) (steps : List Step) (results : List StepResult) (valid : IsJob job) (pos : 1 ≤ b) (fits : FitsJob job b steps)
    (is : IsReplay job b steps results) where
  abbrev whole : JobReplay
  whole = record {
    job = job;
    b = b;
    steps = steps;
    results = results;
    pos = pos;
    valid = valid;
    fits = fits;
    done = length steps;
    outcomes = whole-front job b steps results is;
  }

  alike : (n x : ℕ) → n ≤ length steps → IsLikeFirst whole x (block_after job b steps results n x)
  alike n x le = like whole n x le

  counted : (n x : ℕ) → n ≤ length steps → length (block_after job b steps results n x).entries ≡ length (first_block job b x).entries
  counted n x le =
      let after = alike n x le in
      let first = alike 0 x (omega arith) in
      after.full ∙ ap₂ (λ (r k : ℕ). r * k) after.rows after.cols ∙ sym first.full

pub returns-clause-rows : goal.returns-clause-rows
returns-clause-rows c = λ job b steps results valid pos fits is n x le. (alike job b steps results valid pos fits is n x le).rows

pub returns-clause-cols : goal.returns-clause-cols
returns-clause-cols c = λ job b steps results valid pos fits is n x le. (alike job b steps results valid pos fits is n x le).cols

pub returns-clause-entries : goal.returns-clause-entries
returns-clause-entries c = λ job b steps results valid pos fits is n x le. counted job b steps results valid pos fits is n x le
