-- The readers of the lines of matrices behind a job, on two texts that begin with the same lines.
use Rattle.std.proofs.Common.{◌≡◌, ℕ, ◌==◌, List, [], ◌∷◌, ◌++◌, Ok, refl}
use Rattle.std.proofs.lemmas.List.Elements.{All-head}
use Rattle.residue_sums.specs.Grids.{Grid}
use Rattle.byte_texts.specs.Reading.{◌>>=◌}
use Rattle.text_scan.specs.FaultKinds.{Binding, Syntax}
use Rattle.text_scan.specs.Faults.{Fault}
use Rattle.text_scan.specs.Lines.{Line}
use Rattle.matrix_text.specs.MatrixFaults.{grid_at}
use Rattle.equation.specs.declared.job.Job.{Job}
use Rattle.equation.specs.declared.job.Statement.{Statement}
use Rattle.job_text.specs.AfterBlocks.{work_grid, work_name}
use Rattle.job_text.specs.AfterFaults.{after_at, after_head_at, block_at, blocks_at}
use Rattle.job_text.specs.JobFaults.{nothing_at}
use Rattle.fault_laws.proofs.JobReaders.{nothing_reads}
use Rattle.fault_laws.proofs.MatrixReaders.{grid_reads}
use Rattle.fault_laws.proofs.Readers.{IsShared, OnLine, Reads, Tells, due_reads, line_shape, none_before, on_test, pair, taken, tests_stay, then_stays, value_alone, value_told}

-- ---- a block

head_on : (P : Fault → Type 0) (end : ℕ) (name : List ℕ) (g : Grid) (line : Line) → OnLine P line → Tells P (after_head_at end name g line)
unfolding after_head_at
head_on P end name g line may = on_test P _ _ _ (may Syntax tt) (on_test P _ _ _ (may Binding tt) (value_told _))

head_same : (end other : ℕ) (name : List ℕ) (g : Grid) (line : Line) → (line.number == end) ≡ (line.number == other) → after_head_at end name g line ≡ after_head_at other name g line
unfolding after_head_at
head_same end other name g line same = rw same refl

block_reads : (m : ℕ) (name : List ℕ) (g : Grid) → Reads pair [] (λ end lines. block_at end m name g lines)
unfolding block_at
block_reads m name g texts front before all =
    then_stays line_shape pair texts (λ end line. after_head_at end name g line.0 >>= λ head. grid_at end m g.rows g.cols line.1) (due_reads texts front before all) (λ line texts front before all.
    let shared = All-head (IsShared texts) line [] before in
    tests_stay (after_head_at texts.end name g line) (after_head_at texts.other_end name g line) _ _ (head_same texts.end texts.other_end name g line shared.1) (head_on texts.P texts.end name g line shared.0)
    (λ head. grid_reads m g.rows g.cols texts front (none_before texts) all))

-- ---- all blocks

blocks_reads : (job : Job) (found : List Grid) (statements : List Statement) → Reads pair [] (λ end lines. blocks_at end job found statements lines)
unfolding blocks_at
blocks_reads job found [] texts front before all = taken found front (none_before texts) all
blocks_reads job found (s ∷ statements) texts front before all =
    then_stays pair pair texts (λ end read. blocks_at end job (found ++ read.0 ∷ []) statements read.1) (block_reads job.modulus (work_name job s) (work_grid job s) texts front before all)
    (λ g. blocks_reads job (found ++ g ∷ []) statements)

nothing_behind : (grids : List Grid) → Reads value_alone [] (λ end lines. nothing_at lines >>= λ done. Ok grids)
nothing_behind grids texts front before all =
    then_stays value_alone value_alone texts (λ end done. Ok grids) (nothing_reads texts front before all) (λ done texts front before all. taken grids front (none_before texts) all)

pub after_reads : (job : Job) → Reads value_alone [] (λ end lines. after_at end job lines)
unfolding after_at
after_reads job texts front before all =
    then_stays pair value_alone texts (λ end read. nothing_at read.1 >>= λ done. Ok read.0) (blocks_reads job [] job.statements texts front before all) nothing_behind
