-- The normal text of a job spells it: each of its lines has words. Cited by the law that says so.
use Rattle.std.proofs.Common.{◌≡◌, ℕ, ◌+◌, ◌<◌, true, List, [], ◌∷◌, ◌++◌, length, map, codes, All, IsTrue, Ok, refl, sym, ap, ◌∙◌, subst, arith}
use Rattle.std.specs.Fmt.{decimal}
use Rattle.std.specs.List.{flat_map, list_all}
use Rattle.std.proofs.lemmas.Bool.{and_from}
use Rattle.std.proofs.lemmas.List.{length-map, take_all}
use Rattle.std.proofs.lemmas.List.Elements.{All-nil, All-cons, All-head, All-tail, All-append, All-map}
use Rattle.std.proofs.lemmas.Option.{slice_get_within}
use Rattle.residue_sums.specs.Grids.{Grid, IsFull}
use Rattle.text_scan.specs.declared.token.Token.{Token}
use Rattle.text_scan.specs.Lines.{Line, lines_of, end_line_of}
use Rattle.text_scan.specs.NormalTexts.{is_line, lines_text, numbered_lines}
use Rattle.text_scan.specs.Tokens.{tokens_of}
use Rattle.text_scan.specs.Words.{is_word}
use Rattle.text_scan.proofs.LineOrders.{is_line-more}
use Rattle.text_scan.proofs.NormalScans.{normal_text_scanned, end_line_of-normal_text}
use Rattle.text_scan.proofs.NumberedLines.{words-numbered_lines}
use Rattle.text_scan.proofs.NumberTexts.{decimal_word}
use Rattle.operation_spec.specs.declared.operation.Operation.{Operation}
use Rattle.operation_spec.specs.OperationLines.{nth_name, operation_lines}
use Rattle.operation_spec.specs.ValidOperations.{HasNames, IsValid}
use Rattle.operation_spec.proofs.PrintedLines.{printed_lines}
use Rattle.matrix_text.specs.MatrixLines.{matrix_lines}
use Rattle.matrix_text.proofs.PrintedLines.{matrix_lines-words}
use Rattle.equation.specs.declared.job.Job.{Job}
use Rattle.equation.specs.declared.job.Statement.{Statement}
use Rattle.equation.specs.Jobs.{IsJob, IsStatement}
use Rattle.job_text.specs.declared.stop.Stop.{Stop}
use Rattle.job_text.specs.JobLines.{job_lines, matrix_blocks, operation_names, print_line, statement_line}
use Rattle.job_text.specs.JobTexts.{job_text}
use Rattle.job_text.specs.SpelledJobs.{HasRest, IsTextOf, IsWritable, Spells}
use Rattle.job_text.proofs.NamesAgain.{names_pass}
use Rattle.job_text.proofs.SectionsAgain.{words_of}
use Rattle.job_text.proofs.StatementsAgain.{bound_named}
use Rattle.job_text.proofs.StopLines.{GoesOn, job_goes_on, rest_of-none}
use Rattle.job_text.proofs.WrittenLines.{job_text-lines}

-- each of them can stand in a text
abbrev AreLinesOfWords : List (List (List ℕ)) → Type 0
AreLinesOfWords lines = All (λ words. IsTrue (is_line words)) lines

-- ---- blocks

-- those of operations
operations_words : (ops : List Operation) → All IsValid ops → All HasNames ops → AreLinesOfWords (flat_map operation_lines ops)
operations_words [] valid named = All-nil (λ words. IsTrue (is_line words))
operations_words (op ∷ ops) valid named =
    All-append (λ words. IsTrue (is_line words)) (operation_lines op) (flat_map operation_lines ops) (printed_lines op (All-head IsValid op ops valid) (All-head HasNames op ops named))
    (operations_words ops (All-tail IsValid op ops valid) (All-tail HasNames op ops named))

-- those of matrices
matrices_words : (names : List (List ℕ)) (grids : List Grid) → All (λ name. IsTrue (is_word name)) names → All IsFull grids → AreLinesOfWords (matrix_blocks names grids)
matrices_words (name ∷ names) (g ∷ grids) words full =
    let word : List ℕ → Type 0 = λ w. IsTrue (is_word w) in
    All-append (λ ws. IsTrue (is_line ws)) (matrix_lines name g) (matrix_blocks names grids) (matrix_lines-words name g (All-head word name names words) (All-head IsFull g grids full))
    (matrices_words names grids (All-tail word name names words) (All-tail IsFull g grids full))
matrices_words [] grids words full = All-nil (λ ws. IsTrue (is_line ws))
matrices_words (name ∷ names) [] words full = All-nil (λ ws. IsTrue (is_line ws))

-- ---- the lines of a job

-- the first two lines, before others
header_words : (m : ℕ) (lines : List (List (List ℕ))) → AreLinesOfWords lines → AreLinesOfWords ((codes "flame" ∷ codes "1" ∷ []) ∷ (codes "modulus" ∷ decimal m ∷ []) ∷ lines)
header_words m lines others =
    let line : List (List ℕ) → Type 0 = λ words. IsTrue (is_line words) in
    let modulus : line (codes "modulus" ∷ decimal m ∷ []) = is_line-more (codes "modulus") (decimal m ∷ []) refl (and_from _ _ (decimal_word m).0 refl) in
    All-cons line (codes "flame" ∷ codes "1" ∷ []) ((codes "modulus" ∷ decimal m ∷ []) ∷ lines) refl (All-cons line (codes "modulus" ∷ decimal m ∷ []) lines modulus others)

module _ (job : Job) (valid : IsJob job) (writable : IsWritable job) where
  -- the name of an operation that exists is a word
  operation_name_word : (n : ℕ) → n < length job.operations → IsTrue (is_word (nth_name (operation_names job) n))
  operation_name_word n inside =
      let words = All-map (λ name. IsTrue (is_word name)) (λ (op : Operation). op.name) job.operations (λ k d below. (writable.operations_named k d below).words 0 [] (omega arith)) in
      words n [] (omega (arith, length-map job.operations (λ (op : Operation). op.name)))

  -- the line of a statement
  statement_words : (s : Statement) → IsStatement job s → IsTrue (is_line (statement_line job s))
  statement_words s is =
      let operation = nth_name (operation_names job) s.operation in
      let bound = map (nth_name job.names) (s.bind.work ∷ s.bind.knowns) in
      is_line-more (codes "do") (operation ∷ bound) refl
      (and_from (is_word operation) (list_all is_word bound) (operation_name_word s.operation (slice_get_within job.operations s.operation is.operation is.found))
      (names_pass job.names is_word (s.bind.work ∷ s.bind.knowns) writable.matrices_words (bound_named job valid writable s is)))

  -- the line of a print
  print_words : (n : ℕ) → n < length job.matrices → IsTrue (is_line (print_line job n))
  print_words n inside =
      let word = writable.matrices_words n [] (omega (arith, valid.named)) in
      is_line-more (codes "print") (nth_name job.names n ∷ []) refl (and_from (is_word (nth_name job.names n)) true word refl)

  -- all lines
  pub job_lines-words : AreLinesOfWords (job_lines job)
  job_lines-words =
      let line : List (List ℕ) → Type 0 = λ words. IsTrue (is_line words) in
      let ops = flat_map operation_lines job.operations in
      let mats = matrix_blocks job.names job.matrices in
      let stmts = map (statement_line job) job.statements in
      let first = All-append line ops mats (operations_words job.operations valid.operations writable.operations_named) (matrices_words job.names job.matrices writable.matrices_words valid.full) in
      let statements = All-map line (statement_line job) job.statements (λ k d below. statement_words _ (valid.statements k d below)) in
      let prints = All-map line (print_line job) job.prints (λ k d below. print_words _ (valid.prints k d below)) in
      header_words job.modulus (ops ++ mats ++ stmts ++ map (print_line job) job.prints)
      (All-append line (ops ++ mats ++ stmts) (map (print_line job) job.prints) (All-append line (ops ++ mats) stmts first statements) prints)

-- ---- its text

-- lines with their numbers have the words that they had without
words_scanned : (read : List Line) (lines : List (List (List ℕ))) → read ≡ numbered_lines 1 lines → words_of read ≡ lines
words_scanned read lines same = ap words_of same ∙ words-numbered_lines 1 lines

-- scanning it gives lines that spell the job
pub printed_text : (job : Job) → IsJob job → IsWritable job → IsTextOf (lines_text (job_lines job)) job
printed_text job valid writable =
    let scans = normal_text_scanned 1 (job_lines job) (job_lines-words job valid writable) in
    record {
      tokens = scans.0;
      scanned = scans.1;
      lines = record { text = words_scanned (lines_of (lines_text (job_lines job)) scans.0) (job_lines job) scans.2; valid = valid; writable = writable };
    }

-- the second part of bytes that have tokens, and no line that begins it
nothing_behind : (stop : Stop) (bytes : List ℕ) (tokens : List Token) (line : ℕ) → tokens_of 1 bytes ≡ Ok tokens → All (GoesOn stop) (words_of (lines_of bytes tokens)) → line ≡ end_line_of 1 bytes
    → HasRest bytes stop (record { at = length bytes; line = line })
nothing_behind stop bytes tokens line scanned go_on last =
    record { tokens = tokens; scanned = scanned; begins = ap (λ (n : ℕ). record { at = length bytes; line = n }) last ∙ sym (rest_of-none stop bytes (lines_of bytes tokens) go_on) }

-- both together
lines_are_spelled : (stop : Stop) (job : Job) → IsJob job → IsWritable job
    → Spells (lines_text (job_lines job)) stop job (record { at = length (lines_text (job_lines job)); line = length (job_lines job) + 1 })
lines_are_spelled stop job valid writable =
    let bytes = lines_text (job_lines job) in
    let text = printed_text job valid writable in
    let go_on = subst (All (GoesOn stop)) (sym text.lines.text) (job_goes_on stop job) in
    let last : length (job_lines job) + 1 ≡ end_line_of 1 bytes = omega (arith, end_line_of-normal_text 1 (job_lines job) (job_lines-words job valid writable)) in
    record {
      second = nothing_behind stop bytes text.tokens (length (job_lines job) + 1) text.scanned go_on last;
      first = subst (λ (bs : List ℕ). IsTextOf bs job) (sym (take_all (length bytes) bytes (omega arith))) text;
    }

-- so is the printed text, which is the same
pub printed_job_is_spelled : (stop : Stop) (job : Job) → IsJob job → IsWritable job
    → Spells (job_text job) stop job (record { at = length (job_text job); line = length (job_lines job) + 1 })
printed_job_is_spelled stop job valid writable =
    subst (λ (bytes : List ℕ). Spells bytes stop job (record { at = length bytes; line = length (job_lines job) + 1 })) (sym (job_text-lines job writable.matrices_named)) (lines_are_spelled stop job valid writable)
