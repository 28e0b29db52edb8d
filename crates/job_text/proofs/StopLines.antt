-- No line of a job begins a second part: its first word is another. Cited by the laws of printed jobs.
use Rattle.std.proofs.Common.{◌≡◌, ℕ, zero, suc, Bool, true, false, cond, ◌==◌, if◌then◌else◌, List, [], ◌∷◌, ◌++◌, length, take, drop, map, codes, All, refl}
use Rattle.std.specs.Fmt.{decimal}
use Rattle.std.specs.List.{flat_map}
use Rattle.std.specs.Str.{bytes_eq}
use Rattle.std.proofs.lemmas.List.Elements.{All-nil, All-cons, All-head, All-tail, All-append, All-map}
use Rattle.residue_sums.specs.Grids.{Grid}
use Rattle.text_scan.specs.declared.token.TokenKind.{TokenKind}
use Rattle.text_scan.specs.declared.token.TokenKind.TheVariants.{Name, Number}
use Rattle.text_scan.specs.Lines.{Line, end_line_of}
use Rattle.text_scan.proofs.NumberTexts.{bytes_eq-kinds, decimal_word}
use Rattle.operation_spec.specs.declared.operation.Operation.{Operation}
use Rattle.operation_spec.specs.OperationLines.{equation_words, operand_line, operation_lines}
use Rattle.matrix_text.specs.MatrixLines.{grid_lines, matrix_lines, row_lines}
use Rattle.equation.specs.declared.job.Job.{Job}
use Rattle.job_text.specs.declared.stop.Stop.{Stop}
use Rattle.job_text.specs.declared.stop.Stop.TheVariants.{Nothing, Worksheet, After}
use Rattle.job_text.specs.JobLines.{job_lines, matrix_blocks, print_line, statement_line}
use Rattle.job_text.specs.SpelledJobs.{is_stop_line, rest_of}
use Rattle.job_text.proofs.SectionsAgain.{words_of}

module _ (stop : Stop) where
  -- the line begins no second part
  abbrev pub GoesOn : List (List ℕ) → Type 0
  GoesOn words = is_stop_line stop words ≡ false

  -- ---- one line

  -- nor does a line with another first word
  by_first : (first : List ℕ) (words : List (List ℕ)) → bytes_eq first (codes "worksheet") ≡ false → bytes_eq first (codes "after") ≡ false → GoesOn (first ∷ words)
  by_first first words no_worksheet no_after = by_stop stop
    where
      by_stop : (s : Stop) → is_stop_line s (first ∷ words) ≡ false
      by_stop Nothing = refl
      by_stop Worksheet = no_worksheet
      by_stop After = no_after

  empty_goes_on : GoesOn []
  empty_goes_on = by_stop stop
    where
      by_stop : (s : Stop) → is_stop_line s [] ≡ false
      by_stop Nothing = refl
      by_stop Worksheet = refl
      by_stop After = refl

  no_name : (kind : TokenKind) → kind ≡ Number → kind ≡ Name → ⊥
  no_name kind number name = cc

  -- a line of numbers
  row_goes_on : (xs : List ℕ) → GoesOn (map decimal xs)
  row_goes_on [] = empty_goes_on
  row_goes_on (x ∷ xs) =
      let number = no_name _ (decimal_word x).1 in
      by_first (decimal x) (map decimal xs) (bytes_eq-kinds (decimal x) (codes "worksheet") number) (bytes_eq-kinds (decimal x) (codes "after") number)

  -- ---- blocks

  operation_goes_on : (op : Operation) → All GoesOn (operation_lines op)
  operation_goes_on op =
      let knowns = map (operand_line op.dims (codes "known")) op.knowns in
      let last : List (List (List ℕ)) = (codes "equation" ∷ equation_words op) ∷ (codes "end" ∷ []) ∷ [] in
      let known_lines = All-map GoesOn (operand_line op.dims (codes "known")) op.knowns (λ k d inside. by_first (codes "known") _ refl refl) in
      let last_lines = All-cons GoesOn (codes "equation" ∷ equation_words op) ((codes "end" ∷ []) ∷ []) (by_first (codes "equation") _ refl refl)
      (All-cons GoesOn (codes "end" ∷ []) [] (by_first (codes "end") [] refl refl) (All-nil GoesOn)) in
      let work = operand_line op.dims (codes "work") op.work in
      All-cons GoesOn (codes "operation" ∷ op.name ∷ []) ((codes "dims" ∷ op.dims) ∷ work ∷ knowns ++ last) (by_first (codes "operation") _ refl refl)
      (All-cons GoesOn (codes "dims" ∷ op.dims) (work ∷ knowns ++ last) (by_first (codes "dims") _ refl refl)
      (All-cons GoesOn work (knowns ++ last) (by_first (codes "work") _ refl refl) (All-append GoesOn knowns last known_lines last_lines)))

  operations_go_on : (ops : List Operation) → All GoesOn (flat_map operation_lines ops)
  operations_go_on [] = All-nil GoesOn
  operations_go_on (op ∷ ops) = All-append GoesOn (operation_lines op) (flat_map operation_lines ops) (operation_goes_on op) (operations_go_on ops)

  rows_go_on : (rows cols : ℕ) (xs : List ℕ) → All GoesOn (row_lines rows cols xs)
  rows_go_on zero cols xs = All-nil GoesOn
  rows_go_on (suc rows) cols xs = All-cons GoesOn (map decimal (take cols xs)) (row_lines rows cols (drop cols xs)) (row_goes_on (take cols xs)) (rows_go_on rows cols (drop cols xs))

  grid_goes_on : (g : Grid) → All GoesOn (grid_lines g)
  grid_goes_on g =
      let last = All-cons GoesOn (codes "end" ∷ []) [] (by_first (codes "end") [] refl refl) (All-nil GoesOn) in
      All-append GoesOn (if g.cols == 0 then [] else row_lines g.rows g.cols g.entries) ((codes "end" ∷ []) ∷ []) (by_test (g.cols == 0)) last
    where
      by_test : (b : Bool) → All GoesOn (cond b [] (row_lines g.rows g.cols g.entries))
      by_test true = All-nil GoesOn
      by_test false = rows_go_on g.rows g.cols g.entries

  matrices_go_on : (names : List (List ℕ)) (grids : List Grid) → All GoesOn (matrix_blocks names grids)
  matrices_go_on [] grids = All-nil GoesOn
  matrices_go_on (name ∷ names) [] = All-nil GoesOn
  matrices_go_on (name ∷ names) (g ∷ grids) =
      All-append GoesOn (matrix_lines name g) (matrix_blocks names grids)
      (All-cons GoesOn (codes "matrix" ∷ name ∷ decimal g.rows ∷ decimal g.cols ∷ []) (grid_lines g) (by_first (codes "matrix") _ refl refl) (grid_goes_on g)) (matrices_go_on names grids)

  -- ---- all lines

  pub job_goes_on : (job : Job) → All GoesOn (job_lines job)
  job_goes_on job =
      let ops = flat_map operation_lines job.operations in
      let mats = matrix_blocks job.names job.matrices in
      let stmts = map (statement_line job) job.statements in
      let prints = map (print_line job) job.prints in
      let statement_lines = All-map GoesOn (statement_line job) job.statements (λ k d inside. by_first (codes "do") _ refl refl) in
      let print_lines = All-map GoesOn (print_line job) job.prints (λ k d inside. by_first (codes "print") _ refl refl) in
      let sections = All-append GoesOn (ops ++ mats ++ stmts) prints
      (All-append GoesOn (ops ++ mats) stmts (All-append GoesOn ops mats (operations_go_on job.operations) (matrices_go_on job.names job.matrices)) statement_lines) print_lines in
      All-cons GoesOn (codes "flame" ∷ codes "1" ∷ []) ((codes "modulus" ∷ decimal job.modulus ∷ []) ∷ ops ++ mats ++ stmts ++ prints) (by_first (codes "flame") _ refl refl)
      (All-cons GoesOn (codes "modulus" ∷ decimal job.modulus ∷ []) (ops ++ mats ++ stmts ++ prints) (by_first (codes "modulus") _ refl refl) sections)

  -- where no line begins a second part, it begins at the end
  pub rest_of-none : (bytes : List ℕ) (lines : List Line) → All GoesOn (words_of lines) → rest_of stop bytes lines ≡ record { at = length bytes; line = end_line_of 1 bytes }
  rest_of-none bytes [] all = refl
  rest_of-none bytes (line ∷ lines) all =
      let here = All-head GoesOn line.words (words_of lines) all in
      rw here (rest_of-none bytes lines (All-tail GoesOn line.words (words_of lines) all))
