-- For the words of a run of the generated job one answer is due, and there is one; other workers change nothing but the line of the words.
use Rattle.std.proofs.Common.{◌≡◌, ◌≢◌, inl, inr, ℕ, List, ◌++◌, length, refl, append_assoc, arith}
use Rattle.std.specs.Prelude.{codes}
use Rattle.std.specs.List.{flat_map}
use Rattle.residue_sums.specs.Grids.{Grid}
use Rattle.issue_list.specs.declared.choice.Choice.TheVariants.{First}
use Rattle.equation.specs.Jobs.{IsJob}
use Rattle.variant_report.specs.declared.self_words.SelfWords.{SelfWords}
use Rattle.command_words.specs.Words.{AreSelfWords}
use Rattle.flame_top.specs.Meaning.{DueMeaning}
use Rattle.variant_report.specs.NumberLines.{number_line}
use Rattle.variant_report.specs.SummaryTexts.{sum_line, summary_text, words_line}
use Rattle.flame_top.specs.SameTexts.{AreSameSummaries}
use Rattle.flame_top.specs.SelfRun.{DueSelfRun, job_of, self_text}
use Rattle.flame_top.specs.Steps.{steps_by}
use Rattle.flame_top.proofs.MeaningLaws.{alike_meaning, same_meaning, some_due_meaning}
use Rattle.flame_top.proofs.SameDue.{AreAlike, IsDetermined, IsSomeDue}
use Rattle.flame_top.proofs.StepsLaws.{alike_by_steps, refused_status, some_by_steps}
use Rattle.job_generator.proofs.GoodPivots.{none-generated}
use Rattle.job_generator.proofs.ValidJobs.{generated-valid}

module _ (words : SelfWords) (range : AreSelfWords words) where
  valid : IsJob (job_of words)
  valid = generated-valid words.n words.m words.seed range.numbers.n_high (record { at_least_two = range.numbers.m_low; below_limit = range.numbers.m_high })

  pub same_selfrun : IsDetermined (DueSelfRun words)
  same_selfrun = alike_by_steps words.block First (job_of words) (λ text different. text ≡ different) (λ text. refl)
      (DueMeaning (job_of words) (self_text words (job_of words))) (DueMeaning (job_of words) (self_text words (job_of words)))
      (same_meaning (job_of words) valid (self_text words (job_of words)))

  -- what stands behind the line of the words
  sums : List Grid → List ℕ
  sums after = number_line (codes "tasks") (length (steps_by (job_of words) words.block First)) ++ flat_map (sum_line (job_of words) after) (job_of words).prints

  behind : (other : SelfWords) (after : List Grid)
      → summary_text (job_of words) other (length (steps_by (job_of words) words.block First)) after ≡ words_line other ++ sums after
  unfolding sums
  behind other after =
      append_assoc (words_line other) (number_line (codes "tasks") (length (steps_by (job_of words) words.block First))) (flat_map (sum_line (job_of words) after) (job_of words).prints)

  pub alike_selfrun : (workers : ℕ)
      → AreAlike (AreSameSummaries words (record words { workers = workers })) (DueSelfRun words) (DueSelfRun (record words { workers = workers }))
  unfolding sums
  alike_selfrun workers =
      let changed : SelfWords = record words { workers = workers } in
      let alike = AreSameSummaries words changed in
      let itself : (text : List ℕ) → alike text text = λ text. inl refl in
      let printed = self_text words (job_of words) in
      let second = self_text changed (job_of words) in
      alike_by_steps words.block First (job_of words) alike itself (DueMeaning (job_of words) printed) (DueMeaning (job_of words) second)
      (alike_meaning (job_of words) valid alike itself printed second (λ after. inr (sums after, behind words after, behind changed after)))

  pub some_selfrun : IsSomeDue (DueSelfRun words)
  some_selfrun = some_by_steps words.block First (job_of words) (DueMeaning (job_of words) (self_text words (job_of words)))
      (some_due_meaning (job_of words) valid (self_text words (job_of words)))

  -- a refusal, or a summary: the generated job has no bad pivot
  not_four : (status : ℕ) (text : List ℕ) → DueMeaning (job_of words) (self_text words (job_of words)) status text → status ≢ 4
  not_four status text (inl result) is = omega (arith, result.2.0)
  not_four status text (inr bad) is =
      none-generated words.n words.m words.seed bad.0 bad.1 range.numbers.n_high
      (record { at_least_two = range.numbers.m_low; below_limit = range.numbers.m_high }) bad.2

  pub no_selfrun_fails : (status : ℕ) (text : List ℕ) → DueSelfRun words status text → status ≢ 4
  no_selfrun_fails status text (inl refused) is = let three = refused_status words.block First (job_of words) status text refused in omega arith
  no_selfrun_fails status text (inr listed) is = not_four status text listed.1 is
