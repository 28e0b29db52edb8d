-- The readers of the lines of a matrix, on two texts that begin with the same lines.
use Rattle.std.proofs.Common.{ℕ, zero, suc, ◌==◌, not, List, [], ◌∷◌, ◌++◌, Ok, refl, if◌then◌else◌}
use Rattle.residue_sums.specs.Grids.{Grid}
use Rattle.byte_texts.specs.Reading.{◌>>=◌}
use Rattle.text_scan.specs.FaultKinds.{EntryRange, RowLength, Syntax, TooLarge}
use Rattle.text_scan.specs.Faults.{Fault, ◌on◌, first_fault}
use Rattle.text_scan.specs.Lines.{Line, is_end}
use Rattle.matrix_text.specs.MatrixFaults.{NamedGrid, grid_at, heading_at, last_at, matrix_at, next_row_at, row_at, rows_at}
use Rattle.fault_laws.proofs.Readers.{OnLine, Reads, Tells, due_reads, if_stays, inner_reads, line_shape, lines_alone, none_before, on_before, on_test, pair, taken, test_stays, then_stays, value_told}

-- ---- rows

row_on : (P : Fault → Type 0) (m cols : ℕ) (line : Line) → OnLine P line → Tells P (row_at m cols line)
unfolding row_at
row_on P m cols line may = on_test P _ _ _ (may Syntax tt) (on_test P _ _ _ (may RowLength tt) (on_test P _ _ _ (may EntryRange tt) (value_told _)))

next_row_reads : (m cols : ℕ) → Reads pair [] (λ end lines. next_row_at end m cols lines)
unfolding next_row_at
next_row_reads m cols texts front before all =
    then_stays line_shape pair texts (λ end line. row_at m cols line.0 >>= λ row. Ok (row, line.1)) (inner_reads texts front before all) (λ line texts front before all.
    test_stays (row_at m cols line) _ _ (row_on texts.P m cols line (on_before texts line before)) (λ row. taken row front (none_before texts) all))

rows_reads : (m cols rows : ℕ) → Reads pair [] (λ end lines. rows_at end m cols rows lines)
unfolding rows_at
rows_reads m cols zero texts front before all = taken [] front (none_before texts) all
rows_reads m cols (suc rows) texts front before all =
    then_stays pair pair texts (λ end row. rows_at end m cols rows row.1 >>= λ others. Ok (row.0 ++ others.0, others.1)) (next_row_reads m cols texts front before all) (λ row texts front before all.
    then_stays pair pair texts (λ end others. Ok (row ++ others.0, others.1)) (rows_reads m cols rows texts front before all) (λ others texts front before all.
    taken (row ++ others) front (none_before texts) all))

-- ---- the whole matrix

last_reads : Reads lines_alone [] last_at
unfolding last_at
last_reads texts front before all =
    then_stays line_shape lines_alone texts (λ end line. first_fault (record { holds = not (is_end line.0.words); fault = Syntax on line.0.number } ∷ []) line.1) (due_reads texts front before all) (λ line texts front before all.
    if_stays (not (is_end line.words)) (not (is_end line.words)) (Syntax on line.number) _ _ refl (on_before texts line before Syntax tt) (taken tt front (none_before texts) all))

pub grid_reads : (m rows cols : ℕ) → Reads pair [] (λ end lines. grid_at end m rows cols lines)
grid_reads m rows cols texts front before all =
    let due = if cols == 0 then 0 else rows in
    let grid : List ℕ → Grid = λ entries. record { rows = rows; cols = cols; entries = entries } in
    then_stays pair pair texts (λ end entries. last_at end entries.1 >>= λ behind. Ok (grid entries.0, behind)) (rows_reads m cols due texts front before all) (λ entries texts front before all.
    then_stays lines_alone pair texts (λ end behind. Ok (grid entries, behind)) (last_reads texts front before all) (λ x texts front before all.
    taken (grid entries) front (none_before texts) all))

heading_on : (P : Fault → Type 0) (room : ℕ) (line : Line) → OnLine P line → Tells P (heading_at room line)
unfolding heading_at
heading_on P room line may = on_test P _ _ _ (may Syntax tt) (on_test P _ _ _ (may TooLarge tt) (value_told _))

pub matrix_reads : (m room : ℕ) → Reads pair [] (λ end lines. matrix_at end m room lines)
unfolding matrix_at
matrix_reads m room texts front before all =
    let named : List ℕ → Grid → NamedGrid = λ name grid. record { name = name; grid = grid } in
    then_stays line_shape pair texts (λ end first. heading_at room first.0 >>= λ heading. grid_at end m heading.rows heading.cols first.1 >>= λ grid. Ok (named heading.name grid.0, grid.1)) (inner_reads texts front before all) (λ line texts front before all.
    test_stays (heading_at room line) _ _ (heading_on texts.P room line (on_before texts line before)) (λ heading.
    then_stays pair pair texts (λ end grid. Ok (named heading.name grid.0, grid.1)) (grid_reads m heading.rows heading.cols texts front (none_before texts) all) (λ grid texts front before all.
    taken (named heading.name grid) front (none_before texts) all)))
