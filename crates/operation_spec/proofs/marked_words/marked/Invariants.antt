use Rattle.std.proofs.Common.{◌≡◌, ◌++◌, length}
use Rattle.operation_spec.specs.Equations.{marked}
use Rattle.operation_spec.specs.MarkedWords.{marked_words}
use Rattle.operation_spec.proofs.marked_words.marked.Given as goal

-- the words so far, and those that are left
abbrev pub invariant-loop-word : goal.invariant-loop-word
invariant-loop-word l = marked_words l.found.items ++ marked l.rest ≡ marked l.fn.words

abbrev pub decreases-loop-word : goal.decreases-loop-word
decreases-loop-word l = length l.rest
