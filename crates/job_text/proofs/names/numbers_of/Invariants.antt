use Rattle.std.proofs.Common.{◌≡◌, ◌++◌, length, map}
use Rattle.text_scan.specs.Names.{number_of}
use Rattle.job_text.proofs.names.numbers_of.Given as goal

-- the numbers so far, and those of the words that are left
abbrev pub invariant-loop-word : goal.invariant-loop-word
invariant-loop-word l = l.numbers.items ++ map (number_of l.names) l.rest ≡ map (number_of l.names) l.fn.words

abbrev pub decreases-loop-word : goal.decreases-loop-word
decreases-loop-word l = length l.rest
