-- No fault of the blocks of matrices behind a job is a bad byte. Cited by their reader.
use Rattle.std.proofs.Common.{◌≡◌, ◌≢◌, ℕ, zero, suc, List, [], ◌∷◌, ◌++◌, drop, if◌then◌else◌, ◌==◌, Result, Ok, Err, IfErr, ap}
use Rattle.residue_sums.specs.Grids.{Grid}
use Rattle.byte_texts.specs.Reading.{Gives}
use Rattle.text_scan.specs.declared.Rest.{Rest}
use Rattle.text_scan.specs.declared.token.Token.{Token}
use Rattle.text_scan.specs.FaultKinds.{FaultKind, BadByte, Binding, EntryRange, RowLength, Syntax, TrailingText}
use Rattle.text_scan.specs.Faults.{Fault, ◌on◌}
use Rattle.text_scan.specs.Lines.{Line, due_line, end_line_of, inner_line, lines_of}
use Rattle.text_scan.specs.Tokens.{tokens_of}
use Rattle.matrix_text.specs.MatrixFaults.{grid_at, last_at, next_row_at, row_at, rows_at}
use Rattle.equation.specs.declared.job.Job.{Job}
use Rattle.equation.specs.declared.job.Statement.{Statement}
use Rattle.job_text.specs.declared.fault.JobFault.{JobFault}
use Rattle.job_text.specs.declared.fault.JobFault.TheVariants as job_faults
use Rattle.job_text.specs.AfterBlocks.{IsPlace, work_grid, work_name}
use Rattle.job_text.specs.AfterFaults.{after_at, after_head_at, after_in, block_at, blocks_at}
use Rattle.job_text.specs.JobFaults.{job_fault, nothing_at}
use Rattle.job_text.proofs.AfterTails.{tail_has_tokens}
use Rattle.job_text.proofs.NotThisFault.{test_none, then_none, value_none}

module _ (number : ℕ) where
  abbrev bad : Fault
  bad = BadByte on number

  -- a fault of another kind is told
  told : (kind : FaultKind) (line : ℕ) → kind ≢ BadByte → (kind on line) ≢ bad
  told kind line other e = other (ap (λ (f : Fault). f.kind) e)

  syntax_told : (line : ℕ) → (Syntax on line) ≢ bad
  syntax_told line = told Syntax line (λ e. cc)

  -- ---- lines

  due_none : (end : ℕ) (lines : List Line) → due_line end lines ≢ Err bad
  due_none end [] e = syntax_told end (cc)
  due_none end (line ∷ lines) e = cc

  inner_none : (end : ℕ) (lines : List Line) → inner_line end lines ≢ Err bad
  inner_none end [] e = syntax_told end (cc)
  inner_none end (line ∷ lines) e = test_none bad (line.number == end) _ _ (syntax_told end) (value_none bad (line, lines)) e

  -- ---- rows

  row_none : (m cols : ℕ) (line : Line) → row_at m cols line ≢ Err bad
  unfolding row_at
  row_none m cols line =
      test_none bad _ _ _ (syntax_told _)
      (test_none bad _ _ _ (told RowLength _ (λ e. cc))
      (test_none bad _ _ _ (told EntryRange _ (λ e. cc)) (value_none bad _)))

  next_row_none : (end m cols : ℕ) (lines : List Line) → next_row_at end m cols lines ≢ Err bad
  unfolding next_row_at
  next_row_none end m cols lines =
      then_none bad (inner_line end lines) _ (inner_none end lines) (λ line.
      then_none bad (row_at m cols line.0) _ (row_none m cols line.0) (λ row. value_none bad _))

  rows_none : (end m cols rows : ℕ) (lines : List Line) → rows_at end m cols rows lines ≢ Err bad
  unfolding rows_at
  rows_none end m cols zero lines = value_none bad _
  rows_none end m cols (suc rows) lines =
      then_none bad (next_row_at end m cols lines) _ (next_row_none end m cols lines) (λ row.
      then_none bad (rows_at end m cols rows row.1) _ (rows_none end m cols rows row.1) (λ others. value_none bad _))

  last_none : (end : ℕ) (lines : List Line) → last_at end lines ≢ Err bad
  unfolding last_at
  last_none end lines = then_none bad (due_line end lines) _ (due_none end lines) (λ line. test_none bad _ _ _ (syntax_told _) (value_none bad _))

  grid_none : (end m rows cols : ℕ) (lines : List Line) → grid_at end m rows cols lines ≢ Err bad
  grid_none end m rows cols lines =
      let due = if cols == 0 then 0 else rows in
      then_none bad (rows_at end m cols due lines) _ (rows_none end m cols due lines) (λ entries.
      then_none bad (last_at end entries.1) _ (last_none end entries.1) (λ behind. value_none bad _))

  -- ---- the blocks

  head_none : (end : ℕ) (name : List ℕ) (g : Grid) (line : Line) → after_head_at end name g line ≢ Err bad
  unfolding after_head_at
  head_none end name g line = test_none bad _ _ _ (syntax_told _) (test_none bad _ _ _ (told Binding _ (λ e. cc)) (value_none bad _))

  block_none : (end m : ℕ) (name : List ℕ) (g : Grid) (lines : List Line) → block_at end m name g lines ≢ Err bad
  unfolding block_at
  block_none end m name g lines =
      then_none bad (due_line end lines) _ (due_none end lines) (λ line.
      then_none bad (after_head_at end name g line.0) _ (head_none end name g line.0) (λ head. grid_none end m g.rows g.cols line.1))

  blocks_none : (end : ℕ) (job : Job) (found : List Grid) (statements : List Statement) (lines : List Line) → blocks_at end job found statements lines ≢ Err bad
  unfolding blocks_at
  blocks_none end job found [] lines e = cc
  blocks_none end job found (s ∷ statements) lines e =
      then_none bad (block_at end job.modulus (work_name job s) (work_grid job s) lines) (λ read. blocks_at end job (found ++ read.0 ∷ []) statements read.1)
      (block_none end job.modulus (work_name job s) (work_grid job s) lines)
      (λ read. blocks_none end job (found ++ read.0 ∷ []) statements read.1) e

  nothing_none : (lines : List Line) → nothing_at lines ≢ Err bad
  unfolding nothing_at
  nothing_none [] e = cc
  nothing_none (line ∷ lines) e = told TrailingText line.number (λ e. cc) cc

  after_none : (end : ℕ) (job : Job) (lines : List Line) → after_at end job lines ≢ Err bad
  unfolding after_at
  after_none end job lines =
      then_none bad (blocks_at end job [] job.statements lines) _ (blocks_none end job [] job.statements lines) (λ read.
      then_none bad (nothing_at read.1) _ (nothing_none read.1) (λ done. value_none bad _))

-- of bytes without a bad byte, from a place on, the reader answers none
pub no_bad_byte : (bytes : List ℕ) (rest : Rest) (job : Job) (tokens : List Token) (read : Result (List Grid) JobFault) → tokens_of 1 bytes ≡ Ok tokens → IsPlace bytes rest
    → Gives job_fault (λ (grids : List Grid). grids) read (after_in bytes rest job) → IfErr read (λ e. (line : ℕ) → e ≢ job_faults.BadByte line)
no_bad_byte bytes rest job tokens (Ok grids) scanned place gives = tt
no_bad_byte bytes rest job tokens (Err fault) scanned place gives = λ line is.
    let there = tail_has_tokens bytes rest tokens scanned place in
    let text = drop rest.at bytes in
    let ends : after_in bytes rest job ≡ Err (BadByte on line) = rw is at gives in
    after_none line (end_line_of rest.line text) job (lines_of text there.0) (rw there.1 at ends)
