-- The statements of a job that were read. Cited by the law that what is read is spelled so.
use Rattle.std.proofs.Common.{◌≡◌, ℕ, ◌<◌, ◌≤◌, true, not, ◌&&◌, List, [], ◌∷◌, ◌++◌, length, map, codes, Ok, All, bytes_eq, refl, sym, ap, ◌∙◌, subst, arith, length-append, leb-false, drop}
use Rattle.std.specs.List.{list_all}
use Rattle.std.proofs.lemmas.Bool.{and_parts, or_parts, not-false}
use Rattle.std.proofs.lemmas.List.{map_push}
use Rattle.std.proofs.lemmas.List.Elements.{All-nil, All-cons, All-push}
use Rattle.byte_texts.proofs.Binding.{bind_ok}
use Rattle.text_scan.specs.Names.{is_among, number_of}
use Rattle.text_scan.specs.Lines.{Line, begins_with, nth_word}
use Rattle.text_scan.specs.Words.{is_name}
use Rattle.text_scan.proofs.FaultTests.{passed_by}
use Rattle.operation_spec.specs.OperationLines.{nth_name}
use Rattle.operation_spec.proofs.FoundNames.{text_is, nth_name-number_of, among_below}
use Rattle.equation.specs.declared.job.Job.{Job}
use Rattle.equation.specs.declared.job.Statement.{Statement}
use Rattle.equation.specs.Jobs.{IsStatement}
use Rattle.job_text.specs.JobFaults.{Matrices, statement_limit, is_statement_line, bound_of, operation_number, statement_head_at, statement_at, statements_at}
use Rattle.job_text.specs.JobLines.{operation_names, statement_line}
use Rattle.job_text.proofs.BindingTaken.{BoundTaken, nth_bound_taken}
use Rattle.job_text.proofs.SectionLines.{SectionTaken, no_part, part_before, at_word}

-- ---- names by their numbers

-- names that are among others are found by their numbers again
names_again : (names words : List (List ℕ)) → list_all (is_among names) words ≡ true → map (nth_name names) (map (number_of names) words) ≡ words
names_again names [] known = refl
names_again names (w ∷ words) known =
    let both = and_parts (is_among names w) (list_all (is_among names) words) known in
    λ i. nth_name-number_of names w (among_below names w both.0) i ∷ names_again names words both.1 i

pub numbers_below : (names words : List (List ℕ)) → list_all (is_among names) words ≡ true → All (λ k. k < length names) (map (number_of names) words)
numbers_below names [] known = All-nil (λ k. k < length names)
numbers_below names (w ∷ words) known =
    let both = and_parts (is_among names w) (list_all (is_among names) words) known in
    All-cons (λ k. k < length names) (number_of names w) (map (number_of names) words) (among_below names w both.0) (numbers_below names words both.1)

-- the words of a statement's line
line_words : (words : List (List ℕ)) → is_statement_line words ≡ true → words ≡ codes "do" ∷ nth_word words 1 ∷ drop 2 words
line_words [] is = absurd cc
line_words (first ∷ []) is = absurd cc
line_words (first ∷ operation ∷ names) is =
    let both = and_parts (bytes_eq first (codes "do") && is_name operation) (list_all is_name names) is in
    let front = and_parts (bytes_eq first (codes "do")) (is_name operation) both.0 in
    ap (λ (w : List ℕ). w ∷ operation ∷ names) (text_is first (codes "do") front.0)

-- ---- one statement

-- the matrices of a job, with their names
abbrev pub matrices_of : Job → Matrices
matrices_of job = record { names = job.names; grids = job.matrices }

module _ (job : Job) (each : length job.names ≡ length job.matrices) where
  -- a statement behind others
  record StatementTaken (found : List Statement) (words : List (List ℕ)) (s : Statement) : Type 0 where
    spelled : words ≡ statement_line job s
    few : length found < statement_limit
    valid : IsStatement job s

  -- the tests that come before its matrices are held against the operation
  record HeadTaken (found : List Statement) (words : List (List ℕ)) : Type 0 where
    form : is_statement_line words ≡ true
    few : length found < statement_limit
    operation : is_among (operation_names job) (nth_word words 1) ≡ true
    names : list_all (is_among job.names) (drop 2 words) ≡ true

  head_taken : (found : List Statement) (line : Line) (done : Unit {0}) → statement_head_at job.operations (matrices_of job) found line ≡ Ok done → HeadTaken found line.words
  unfolding statement_head_at
  head_taken found line done e =
      let form = passed_by _ _ _ done e in
      let few = passed_by _ _ _ done form.1 in
      let known = passed_by _ _ _ done few.1 in
      let both = or_parts (not (is_among (operation_names job) (nth_word line.words 1))) (not (list_all (is_among job.names) (drop 2 line.words))) known.0 in
      record { form = not-false _ form.0; few = leb-false statement_limit (length found) few.0; operation = not-false _ both.0; names = not-false _ both.1 }

  -- the words of its line
  spelled : (found : List Statement) (words : List (List ℕ)) (s : Statement) → HeadTaken found words
      → BoundTaken job.operations job.matrices (operation_number job.operations words) (bound_of job.names words) s → words ≡ statement_line job s
  spelled found words s head bound =
      let operation = ap (nth_name (operation_names job)) (sym bound.number) ∙ nth_name-number_of (operation_names job) (nth_word words 1) (among_below (operation_names job) (nth_word words 1) head.operation) in
      let names = ap (map (nth_name job.names)) (sym bound.numbers) ∙ names_again job.names (drop 2 words) head.names in
      line_words words head.form ∙ sym (λ i. codes "do" ∷ operation i ∷ names i)

  statement_taken : (found : List Statement) (line : Line) (s : Statement) → statement_at job.operations (matrices_of job) found line ≡ Ok s → StatementTaken found line.words s
  unfolding statement_at
  statement_taken found line s e =
      let step = bind_ok _ _ s e in
      let head = head_taken found line step.0 step.1 in
      let below = subst (λ n. All (λ k. k < n) (bound_of job.names line.words)) each (numbers_below job.names (drop 2 line.words) head.names) in
      let bound = nth_bound_taken line job.operations job.matrices (operation_number job.operations line.words) (bound_of job.names line.words) s below step.2 in
      record { spelled = spelled found line.words s head bound; few = head.few; valid = record { operation = bound.operation; found = bound.found; fits = bound.fits } }

  -- ---- all statements

  -- what holds of statements that were read
  pub record AreStatements (statements : List Statement) : Type 0 where
    pub valid : All (IsStatement job) statements
    pub few : length statements ≤ statement_limit

  pub no_statements : AreStatements []
  no_statements = record { valid = All-nil (IsStatement job); few = omega arith }

  -- lines that were read as statements behind those found
  abbrev pub StatementsTaken : List Statement → List Line → List Statement × List Line → Type 0
  StatementsTaken = SectionTaken AreStatements (map (statement_line job))

  -- a statement, where those behind it were read
  statement_before : (found : List Statement) (line : Line) (lines : List Line) (read : List Statement × List Line) (s : Statement) → AreStatements found
      → statement_at job.operations (matrices_of job) found line ≡ Ok s → (AreStatements (found ++ s ∷ []) → StatementsTaken (found ++ s ∷ []) lines read) → StatementsTaken found (line ∷ lines) read
  statement_before found line lines read s are e others =
      let taken = statement_taken found line s e in
      let text = map_push (statement_line job) found s ∙ ap (λ (words : List (List ℕ)). map (statement_line job) found ++ words ∷ []) (sym taken.spelled) in
      part_before AreStatements (map (statement_line job)) found (found ++ s ∷ []) (line ∷ lines) (line ∷ []) lines read refl text (others (record {
        valid = All-push (IsStatement job) found s are.valid taken.valid;
        few = omega (arith, taken.few, length-append found (s ∷ []));
      }))

  pub statements_taken : (found : List Statement) (lines : List Line) (read : List Statement × List Line) → AreStatements found
      → statements_at job.operations (matrices_of job) found lines ≡ Ok read → StatementsTaken found lines read
  unfolding statements_at
  statements_taken found [] read are e = no_part AreStatements (map (statement_line job)) found [] read are e
  statements_taken found (line ∷ lines) read are e =
      at_word AreStatements (map (statement_line job)) found (line ∷ lines) read (statement_at job.operations (matrices_of job) found line)
      (λ s. statements_at job.operations (matrices_of job) (found ++ s ∷ []) lines) are
      (λ s step behind. statement_before found line lines read s are step (λ more. statements_taken (found ++ s ∷ []) lines read more behind)) (begins_with (codes "do") line.words) e
