use Rattle.std.proofs.Common.{◌≡◌, ◌++◌, ◌-◌, length, drop}
use Rattle.job_text.specs.JobTexts.{matrix_texts}
use Rattle.job_text.proofs.writing.put_matrices.Given as goal

-- what is appended, and the blocks that are left
abbrev pub invariant-loop-at : goal.invariant-loop-at
invariant-loop-at l = l.out.items ++ matrix_texts (drop l.at l.names) (drop l.at l.matrices) ≡ l.fn.out.items ++ matrix_texts l.names l.matrices

abbrev pub decreases-loop-at : goal.decreases-loop-at
decreases-loop-at l = length l.names - l.at
