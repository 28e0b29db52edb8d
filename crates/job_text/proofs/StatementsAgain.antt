-- The lines of statements are read as these: no test of such a line holds. Cited by the law that a job's lines are read
-- as the job.
use Rattle.std.proofs.Common.{◌≡◌, ◌≢◌, ℕ, ◌<◌, true, false, not, List, [], ◌∷◌, ◌++◌, length, map, codes, All, IsTrue, Ok, refl, sym, ap, ◌∙◌, arith, append_assoc, length-append, drop}
use Rattle.std.specs.List.{list_all}
use Rattle.std.proofs.lemmas.Bool.{and_from, lt-leb, not_from_true, or_from}
use Rattle.std.proofs.lemmas.List.{append-nil, length-map}
use Rattle.std.proofs.lemmas.List.Elements.{All-cons, All-map}
use Rattle.std.proofs.lemmas.Option.{slice_get_within}
use Rattle.text_scan.specs.Names.{is_among, number_of}
use Rattle.text_scan.specs.Lines.{Line, begins_with, nth_word}
use Rattle.text_scan.specs.Words.{is_name}
use Rattle.text_scan.proofs.FaultTests.{passes_by}
use Rattle.operation_spec.specs.declared.operation.Operation.{Operation}
use Rattle.operation_spec.specs.OperationLines.{nth_name}
use Rattle.operation_spec.proofs.NamesApart.{number_of-nth, is_among-nth}
use Rattle.equation.specs.declared.job.Job.{Job}
use Rattle.equation.specs.declared.job.Statement.{Statement}
use Rattle.equation.specs.Jobs.{IsJob, IsStatement}
use Rattle.job_text.specs.JobFaults.{Matrices, statement_limit, bound_of, operation_number, is_statement_line, statement_head_at, statement_at, statements_at}
use Rattle.job_text.specs.JobLines.{operation_names, statement_line}
use Rattle.job_text.specs.SpelledJobs.{IsWritable}
use Rattle.job_text.proofs.BoundAgain.{bound_at-fits, nth_bound-at}
use Rattle.job_text.proofs.ItemsAgain.{All-at, AllPairs-map}
use Rattle.job_text.proofs.NamesAgain.{names_pass, are_among, numbers_again}
use Rattle.job_text.proofs.SectionsAgain.{words_of, first_begins}

-- ---- a statement of a job that can be written

-- the matrices of a job, with their names
abbrev pub matrices_of : Job → Matrices
matrices_of job = record { names = job.names; grids = job.matrices }

module _ (job : Job) (valid : IsJob job) (writable : IsWritable job) where
  -- what the line of a statement says of its operation
  record IsNamed (name : List ℕ) (n : ℕ) : Type 0 where
    named : IsTrue (is_name name)
    among : is_among (operation_names job) name ≡ true
    number : number_of (operation_names job) name ≡ n

  -- an operation that exists has a name, and is found by it
  operation_named : (n : ℕ) → n < length job.operations → IsNamed (nth_name (operation_names job) n) n
  operation_named n inside =
      let once = AllPairs-map (λ a b. a ≢ b) (λ (op : Operation). op.name) job.operations writable.operations_once in
      let named = All-map (λ name. IsTrue (is_name name)) (λ (op : Operation). op.name) job.operations (λ k d below. (writable.operations_named k d below).own) in
      let below : n < length (operation_names job) = omega (arith, length-map job.operations (λ (op : Operation). op.name)) in
      record { named = named n [] below; among = is_among-nth (operation_names job) n once below; number = number_of-nth (operation_names job) n once below }

  -- the matrices that its operands are bound to have names
  pub bound_named : (s : Statement) → IsStatement job s → All (λ k. k < length job.names) (s.bind.work ∷ s.bind.knowns)
  bound_named s is =
      let inside : ℕ → Type 0 = λ k. k < length job.names in
      let count = valid.named in
      All-cons inside s.bind.work s.bind.knowns (omega (arith, is.fits.work_in, count)) (λ k d below. let known = is.fits.knowns_in k d below in omega (arith, known, count))

  -- no test holds that comes before the matrices are held against the operation
  statement_head_at-line : (found : List Statement) (line : Line) (s : Statement) → line.words ≡ statement_line job s → IsStatement job s → length found < statement_limit
      → statement_head_at job.operations (matrices_of job) found line ≡ Ok tt
  unfolding statement_head_at
  statement_head_at-line found line s words is few =
      let operation = operation_named s.operation (slice_get_within job.operations s.operation is.operation is.found) in
      let bound = bound_named s is in
      let ks = s.bind.work ∷ s.bind.knowns in
      passes_by _ (ap (λ ws. not (is_statement_line ws)) words ∙ not_from_true _ (and_from _ _ operation.named (names_pass job.names is_name ks writable.matrices_named bound)))
      (passes_by _ (lt-leb statement_limit (length found) few)
      (passes_by _ (or_from _ _ (not_from_true _ (ap (λ ws. is_among (operation_names job) (nth_word ws 1)) words ∙ operation.among))
      (not_from_true _ (ap (λ ws. list_all (is_among job.names) (drop 2 ws)) words ∙ are_among job.names ks writable.matrices_once bound))) refl))

  -- the line is read as the statement
  statement_at-line : (found : List Statement) (line : Line) (s : Statement) → line.words ≡ statement_line job s → IsStatement job s → length found < statement_limit
      → statement_at job.operations (matrices_of job) found line ≡ Ok s
  unfolding statement_at
  statement_at-line found line s words is few =
      let operation = operation_named s.operation (slice_get_within job.operations s.operation is.operation is.found) in
      let bound = numbers_again job.names (s.bind.work ∷ s.bind.knowns) writable.matrices_once (bound_named s is) in
      let number : operation_number job.operations line.words ≡ s.operation = ap (operation_number job.operations) words ∙ operation.number in
      let matrices : bound_of job.names line.words ≡ s.bind.work ∷ s.bind.knowns = ap (bound_of job.names) words ∙ bound in
      rw (statement_head_at-line found line s words is few, number, matrices)
      (nth_bound-at line job.operations job.matrices s.operation (s.bind.work ∷ s.bind.knowns) is.operation is.found ∙ bound_at-fits line is.operation job.matrices s.operation s.bind is.fits)

  -- ---- all statements

  -- it is found, and the lines behind it are left
  one_more_statement : (found : List Statement) (line : Line) (lines : List Line) (s : Statement) → line.words ≡ statement_line job s → IsStatement job s → length found < statement_limit
      → statements_at job.operations (matrices_of job) found (line ∷ lines) ≡ statements_at job.operations (matrices_of job) (found ++ s ∷ []) lines
  unfolding statements_at
  one_more_statement found line lines s words is few =
      let begins : begins_with (codes "do") line.words ≡ true = ap (begins_with (codes "do")) words in
      rw (begins, statement_at-line found line s words is few) refl

  -- the lines begin with no statement
  no_more_statements : (found : List Statement) (lines : List Line) → first_begins (codes "do") (words_of lines) ≡ false → statements_at job.operations (matrices_of job) found lines ≡ Ok (found, lines)
  unfolding statements_at
  no_more_statements found [] other = refl
  no_more_statements found (line ∷ lines) other = rw other refl

  -- the statements behind those found
  pub statements_at-lines : (found ss : List Statement) (own rest : List Line) → found ++ ss ≡ job.statements → words_of own ≡ map (statement_line job) ss → first_begins (codes "do") (words_of rest) ≡ false
      → statements_at job.operations (matrices_of job) found (own ++ rest) ≡ Ok (job.statements, rest)
  statements_at-lines found [] [] rest parts words other = no_more_statements found rest other ∙ ap (λ (ss : List Statement). Ok (ss, rest)) (sym (append-nil found) ∙ parts)
  statements_at-lines found [] (line ∷ own) rest parts words other = absurd cc
  statements_at-lines found (s ∷ ss) [] rest parts words other = absurd cc
  statements_at-lines found (s ∷ ss) (line ∷ own) rest parts words other =
      let few : length found < statement_limit = omega (arith, length-append found (s ∷ ss), ap length parts, writable.statements) in
      one_more_statement found line (own ++ rest) s (cc) (All-at (IsStatement job) found s ss job.statements parts valid.statements) few
      ∙ statements_at-lines (found ++ s ∷ []) ss own rest (append_assoc found (s ∷ []) ss ∙ parts) (cc) other
