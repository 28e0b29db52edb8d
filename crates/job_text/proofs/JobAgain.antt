-- Lines that spell a job are read as the job, and so is a text that spells it. Cited by the law that says so.
use Rattle.std.proofs.Common.{◌≡◌, ℕ, suc, ◌≤◌, false, List, [], ◌∷◌, ◌++◌, length, take, map, codes, Ok, bytes_eq, refl, sym, ap, subst, ◌∙◌, arith}
use Rattle.std.specs.Fmt.{decimal}
use Rattle.std.specs.List.{flat_map}
use Rattle.residue_sums.specs.Grids.{Grid}
use Rattle.text_scan.specs.declared.Rest.{Rest}
use Rattle.text_scan.specs.LineOrder.{AreLines}
use Rattle.text_scan.specs.Lines.{Line, lines_of, end_line_of}
use Rattle.text_scan.specs.Tokens.{tokens_of}
use Rattle.text_scan.proofs.LineOrders.{AreLines-behind, AreLines-from_tokens}
use Rattle.text_scan.proofs.ScannedTokens.{AreTokens-scanned}
use Rattle.operation_spec.specs.OperationLines.{operation_lines}
use Rattle.operation_spec.proofs.ImageParts.{map_cons}
use Rattle.equation.specs.declared.job.Job.{Job}
use Rattle.equation.specs.declared.job.Statement.{Statement}
use Rattle.equation.specs.Jobs.{IsJob}
use Rattle.job_text.specs.declared.stop.Stop.{Stop}
use Rattle.job_text.specs.JobFaults.{operation_limit, matrix_limit, first_lines_at, operations_at, matrices_at, statements_at, prints_at, nothing_at, job_at, sections_at}
use Rattle.job_text.specs.JobLines.{job_lines, matrix_blocks, print_line, statement_line}
use Rattle.job_text.specs.SpelledJobs.{IsWritable, HasRest, IsTextOf, Spells, SpellsJob, job_in, job_of, rest_in}
use Rattle.job_text.proofs.HeaderAgain.{first_lines_at-lines}
use Rattle.job_text.proofs.MatricesAgain.{AreMatrices, matrices_at-lines}
use Rattle.job_text.proofs.OperationsAgain.{AreOperations, operations_at-lines}
use Rattle.job_text.proofs.PrintsAgain.{prints_at-lines}
use Rattle.job_text.proofs.SectionsAgain.{words_of, first_begins, FourSections, four_sections}
use Rattle.job_text.proofs.StatementsAgain.{matrices_of, statements_at-lines}

-- ---- where a section ends

-- a line of prints, of statements or of matrices begins with its own word, and with no other
module _ (job : Job) (word : List ℕ) where
  prints_first : bytes_eq (codes "print") word ≡ false → (ns : List ℕ) → first_begins word (map (print_line job) ns) ≡ false
  prints_first other [] = refl
  prints_first other (n ∷ ns) = other

  statements_first : bytes_eq (codes "do") word ≡ false → (ss : List Statement) (others : List (List (List ℕ))) → first_begins word others ≡ false → first_begins word (map (statement_line job) ss ++ others) ≡ false
  statements_first other [] others behind = behind
  statements_first other (s ∷ ss) others behind = other

  matrices_first : bytes_eq (codes "matrix") word ≡ false → (names : List (List ℕ)) (grids : List Grid) (others : List (List (List ℕ))) → first_begins word others ≡ false
      → first_begins word (matrix_blocks names grids ++ others) ≡ false
  matrices_first other (name ∷ names) (g ∷ grids) others behind = other
  matrices_first other [] grids others behind = behind
  matrices_first other (name ∷ names) [] others behind = behind

-- ---- the lines of a job

-- its first two, and those of its sections
record JobParts (job : Job) (lines : List Line) : Type 0 where
  header : Line
  modulus : Line
  behind : List Line
  parts : lines ≡ header ∷ modulus ∷ behind
  header_words : header.words ≡ codes "flame" ∷ codes "1" ∷ []
  modulus_words : modulus.words ≡ codes "modulus" ∷ decimal job.modulus ∷ []
  sections : FourSections behind (flat_map operation_lines job.operations) (matrix_blocks job.names job.matrices) (map (statement_line job) job.statements) (map (print_line job) job.prints)

-- such parts of lines with the words of a job's lines
job_parts : (job : Job) (lines : List Line) → words_of lines ≡ job_lines job → JobParts job lines
job_parts job lines same =
    let words = λ (l : Line). l.words in
    let header = map_cons words lines _ _ same in
    let modulus = map_cons words header.1 _ _ header.4 in
    let parts : lines ≡ header.0 ∷ modulus.0 ∷ modulus.1 = header.2 ∙ ap (λ (ls : List Line). header.0 ∷ ls) modulus.2 in
    record {
      header = header.0;
      modulus = modulus.0;
      behind = modulus.1;
      parts = parts;
      header_words = header.3;
      modulus_words = modulus.3;
      sections = four_sections modulus.1 _ _ _ _ modulus.4;
    }

-- ---- what a job that can be written has

-- its operations
are_operations : (job : Job) → IsJob job → IsWritable job → AreOperations job.operations
are_operations job valid writable = record { valid = valid.operations; named = writable.operations_named; few = writable.operations; once = writable.operations_once }

-- its matrices
are_matrices : (job : Job) (valid : IsJob job) (writable : IsWritable job) → AreMatrices job.modulus (matrices_of job)
are_matrices job valid writable = record {
  small = omega (arith, valid.modulus.below_limit);
  grids = λ k d below. record { full = valid.full k d below; residues = valid.residues k d below; rows = (writable.sizes k d below).0; cols = (writable.sizes k d below).1 };
  few = writable.matrices;
  entries = writable.entries;
  named = writable.matrices_named;
  once = writable.matrices_once;
}

-- ---- all lines

-- a job whose sections are read one after another
job_at-sections : (end : ℕ) (job : Job) (lines behind_first behind_operations behind_matrices behind_statements : List Line)
    → first_lines_at end lines ≡ Ok (job.modulus, behind_first)
    → operations_at (suc operation_limit) end [] behind_first ≡ Ok (job.operations, behind_operations)
    → matrices_at (suc matrix_limit) end job.modulus (record { names = []; grids = [] }) behind_operations ≡ Ok (matrices_of job, behind_matrices)
    → statements_at job.operations (matrices_of job) [] behind_matrices ≡ Ok (job.statements, behind_statements)
    → prints_at job.names [] behind_statements ≡ Ok (job.prints, []) → job_at end lines ≡ Ok job
unfolding job_at sections_at nothing_at
job_at-sections end job lines l0 l1 l2 l3 first operations matrices statements prints = rw (first, operations, matrices, statements, prints) refl

-- the lines of a job in their order, section by section
module _ (end : ℕ) (job : Job) (lines : List Line) (valid : IsJob job) (writable : IsWritable job) (in_order : AreLines end lines) (p : JobParts job lines) where
  abbrev behind_operations : List Line
  behind_operations = p.sections.second ++ (p.sections.third ++ p.sections.fourth)

  abbrev behind_matrices : List Line
  behind_matrices = p.sections.third ++ p.sections.fourth

  sections_in_order : AreLines end (p.sections.first ++ behind_operations)
  sections_in_order = subst (AreLines end) p.sections.parts (AreLines-behind (p.header ∷ p.modulus ∷ []) p.behind (subst (AreLines end) p.parts in_order))

  first_read : first_lines_at end lines ≡ Ok (job.modulus, p.sections.first ++ behind_operations)
  first_read =
      ap (first_lines_at end) p.parts ∙ first_lines_at-lines end job.modulus p.header p.modulus p.behind (subst (AreLines end) p.parts in_order) p.header_words p.modulus_words valid.modulus
      ∙ ap (λ (ls : List Line). Ok (job.modulus, ls)) p.sections.parts

  operations_read : operations_at (suc operation_limit) end [] (p.sections.first ++ behind_operations) ≡ Ok (job.operations, behind_operations)
  operations_read =
      let enough : length job.operations ≤ suc operation_limit = omega (arith, writable.operations) in
      let word = codes "operation" in
      let other = matrices_first job word refl job.names job.matrices _ (statements_first job word refl job.statements _ (prints_first job word refl job.prints)) in
      operations_at-lines end [] job.operations job.operations (suc operation_limit) p.sections.first behind_operations refl (are_operations job valid writable) sections_in_order p.sections.first_words
      (ap (first_begins word) p.sections.behind_first ∙ other) enough

  matrices_read : matrices_at (suc matrix_limit) end job.modulus (record { names = []; grids = [] }) behind_operations ≡ Ok (matrices_of job, behind_matrices)
  matrices_read =
      let enough : length job.matrices ≤ suc matrix_limit = omega (arith, writable.matrices) in
      let word = codes "matrix" in
      let other = statements_first job word refl job.statements _ (prints_first job word refl job.prints) in
      matrices_at-lines end job.modulus (record { names = []; grids = [] }) job.names job.matrices (matrices_of job) (suc matrix_limit) p.sections.second behind_matrices valid.named refl refl
      (are_matrices job valid writable) (AreLines-behind p.sections.first behind_operations sections_in_order) p.sections.second_words (ap (first_begins word) p.sections.behind_second ∙ other) enough

  statements_read : statements_at job.operations (matrices_of job) [] behind_matrices ≡ Ok (job.statements, p.sections.fourth)
  statements_read =
      statements_at-lines job valid writable [] job.statements p.sections.third p.sections.fourth refl p.sections.third_words
      (ap (first_begins (codes "do")) p.sections.fourth_words ∙ prints_first job (codes "do") refl job.prints)

  job_read : job_at end lines ≡ Ok job
  job_read =
      job_at-sections end job lines (p.sections.first ++ behind_operations) behind_operations behind_matrices p.sections.fourth first_read operations_read matrices_read statements_read
      (prints_at-lines job valid writable [] job.prints p.sections.fourth refl p.sections.fourth_words)

-- lines that spell a job
pub spelled_lines_are_read : (end : ℕ) (lines : List Line) (job : Job) → AreLines end lines → SpellsJob lines job → job_at end lines ≡ Ok job
spelled_lines_are_read end lines job in_order spells = job_read end job lines spells.valid spells.writable in_order (job_parts job lines spells.text)

-- ---- a text

-- bytes that are a text of the job
text_is_read : (bytes : List ℕ) (job : Job) → IsTextOf bytes job → job_of bytes (tokens_of 1 bytes) ≡ Ok job
text_is_read bytes job is =
    let in_order = AreLines-from_tokens 1 bytes is.tokens (AreTokens-scanned 1 bytes is.tokens is.scanned) in
    ap (job_of bytes) is.scanned ∙ spelled_lines_are_read (end_line_of 1 bytes) (lines_of bytes is.tokens) job in_order is.lines

-- where the second part begins
rest_is_found : (bytes : List ℕ) (stop : Stop) (rest : Rest) → HasRest bytes stop rest → rest_in stop bytes (tokens_of 1 bytes) ≡ Ok rest
rest_is_found bytes stop rest has = ap (rest_in stop bytes) has.scanned ∙ ap (λ (r : Rest). Ok r) (sym has.begins)

-- both together
pub spelled_job_is_read : (bytes : List ℕ) (stop : Stop) (job : Job) (rest : Rest) → Spells bytes stop job rest → job_in stop bytes ≡ Ok (job, rest)
unfolding job_in
spelled_job_is_read bytes stop job rest spells = rw (rest_is_found bytes stop rest spells.second, text_is_read (take rest.at bytes) job spells.first) refl
