-- What is printed of a generated job in place of its matrices: the words of the command, the number of steps, and for each print
-- the sum of the matrix's entries.
use Rattle.std.specs.Prelude.{ℕ, ◌%◌, List, ◌++◌, codes, decimal, sum}
use Rattle.std.specs.List.{flat_map}
use Rattle.residue_sums.specs.Grids.{Grid}
use Rattle.operation_spec.specs.OperationLines.{nth_name}
use Rattle.equation.specs.Jobs.{nth_grid}
use Rattle.equation.specs.declared.job.Job.{Job}
use Rattle.variant_report.specs.declared.self_words.SelfWords.{SelfWords}
use Rattle.variant_report.specs.NumberLines.{number_line}

abbrev pub words_line : SelfWords → List ℕ
words_line words = codes "selfrun " ++ decimal words.n ++ codes " " ++ decimal words.m ++ codes " " ++ decimal words.seed
    ++ codes " block " ++ decimal words.block ++ codes " workers " ++ decimal words.workers ++ codes "\n"

-- the residue of the sum of all entries
abbrev pub entry_sum : ℕ → Grid → ℕ
entry_sum m g = sum g.entries % m

-- the name of the matrix with a number, and the sum of its entries as it stands in the end
abbrev pub sum_line : Job → List Grid → ℕ → List ℕ
sum_line job after n = codes "sum " ++ number_line (nth_name job.names n) (entry_sum job.modulus (nth_grid after n))

abbrev pub summary_text : Job → SelfWords → ℕ → List Grid → List ℕ
summary_text job words steps after = words_line words ++ number_line (codes "tasks") steps ++ flat_map (sum_line job after) job.prints
