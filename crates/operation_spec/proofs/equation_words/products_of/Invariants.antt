use Rattle.std.proofs.Common.{◌≡◌, ◌≤◌, ◌-◌, drop, length}
use Rattle.operation_spec.specs.Equations.{products_of}
use Rattle.operation_spec.specs.OperationFaults.{names_of}
use Rattle.operation_spec.specs.MarkedWords.{marked_words}
use Rattle.operation_spec.proofs.EquationReading.{with_front}
use Rattle.operation_spec.proofs.equation_words.products_of.Given as goal

-- the products so far, and those that the words that are left say
abbrev pub invariant-loop-at : goal.invariant-loop-at
invariant-loop-at l = record {
  within : l.at ≤ length l.words;
  products : with_front l.products (products_of (names_of l.work l.knowns) (marked_words (drop l.at l.words))) ≡ products_of (names_of l.work l.knowns) (marked_words l.words);
}

abbrev pub decreases-loop-at : goal.decreases-loop-at
decreases-loop-at l = length l.words - l.at
