-- A job that was read is valid and spelled by its lines, and a text that was read is a text of its job. Cited by the law
-- that what is read is spelled so.
use Rattle.std.proofs.Common.{◌≡◌, ℕ, suc, ◌<◌, List, [], ◌∷◌, ◌++◌, take, map, Result, Ok, Err, All, refl, sym, ap, ◌∙◌, subst, arith, append-nil}
use Rattle.std.specs.List.{flat_map}
use Rattle.byte_texts.proofs.Binding.{bind_ok, same_ok}
use Rattle.text_scan.specs.Faults.{Fault}
use Rattle.text_scan.specs.declared.token.Token.{Token}
use Rattle.text_scan.specs.declared.Rest.{Rest}
use Rattle.text_scan.specs.LineOrder.{AreLines}
use Rattle.text_scan.specs.Lines.{Line, end_line_of, lines_of}
use Rattle.text_scan.specs.Tokens.{tokens_of, BadByte}
use Rattle.text_scan.proofs.LineOrders.{AreLines-from_tokens}
use Rattle.text_scan.proofs.ScannedTokens.{AreTokens-scanned}
use Rattle.operation_spec.specs.OperationLines.{operation_lines}
use Rattle.equation.specs.declared.job.Job.{Job}
use Rattle.equation.specs.Jobs.{IsJob}
use Rattle.job_text.specs.declared.stop.Stop.{Stop}
use Rattle.job_text.specs.JobFaults.{matrix_limit, operation_limit, first_lines_at, operations_at, matrices_at, statements_at, prints_at, nothing_at, job_at, sections_at}
use Rattle.job_text.specs.JobLines.{job_lines, matrix_blocks, print_line, statement_line}
use Rattle.job_text.specs.SpelledJobs.{IsWritable, SpellsJob, IsTextOf, Spells, rest_of, job_of, rest_in, job_in}
use Rattle.job_text.proofs.HeaderTaken.{FirstTaken, first_lines_taken}
use Rattle.job_text.proofs.MatricesTaken.{MatricesTaken, no_matrix, no_matrices, matrices_taken}
use Rattle.job_text.proofs.OperationsTaken.{OperationsTaken, no_operations, operations_taken}
use Rattle.job_text.proofs.PrintsTaken.{PrintsTaken, no_prints, prints_taken}
use Rattle.job_text.proofs.SectionLines.{both_lines, both_words, lines_behind}
use Rattle.job_text.proofs.StatementsTaken.{StatementsTaken, matrices_of, no_statements, statements_taken}

-- ---- the sections

-- no line is left
nothing_taken : (lines : List Line) (done : Unit {0}) → nothing_at lines ≡ Ok done → lines ≡ []
unfolding nothing_at
nothing_taken [] done e = refl
nothing_taken (line ∷ lines) done e = absurd cc

-- the steps of reading a job, and the lines behind each
record JobSteps (end : ℕ) (lines : List Line) (job : Job) : Type 0 where
  behind : List Line
  behind_operations : List Line
  behind_matrices : List Line
  behind_statements : List Line
  first : first_lines_at end lines ≡ Ok (job.modulus, behind)
  operations : operations_at (suc operation_limit) end [] behind ≡ Ok (job.operations, behind_operations)
  matrices : matrices_at (suc matrix_limit) end job.modulus no_matrix behind_operations ≡ Ok (matrices_of job, behind_matrices)
  statements : statements_at job.operations (matrices_of job) [] behind_matrices ≡ Ok (job.statements, behind_statements)
  prints : prints_at job.names [] behind_statements ≡ Ok (job.prints, [])

job_steps : (end : ℕ) (lines : List Line) (job : Job) → job_at end lines ≡ Ok job → JobSteps end lines job
unfolding job_at sections_at
job_steps end lines job e =
    let first = bind_ok (first_lines_at end lines) _ job e in
    let operations = bind_ok (operations_at (suc operation_limit) end [] first.0.1) _ job first.2 in
    let matrices = bind_ok (matrices_at (suc matrix_limit) end first.0.0 no_matrix operations.0.1) _ job operations.2 in
    let statements = bind_ok (statements_at operations.0.0 matrices.0.0 [] matrices.0.1) _ job matrices.2 in
    let prints = bind_ok (prints_at matrices.0.0.names [] statements.0.1) _ job statements.2 in
    let done = bind_ok (nothing_at prints.0.1) _ job prints.2 in
    let no_line = nothing_taken prints.0.1 done.0 done.1 in
    let read : Job = record {
      modulus = first.0.0;
      operations = operations.0.0;
      names = matrices.0.0.names;
      matrices = matrices.0.0.grids;
      statements = statements.0.0;
      prints = prints.0.0;
    } in
    subst (JobSteps end lines) (same_ok {F = Fault} read job done.2) (record {
      behind = first.0.1;
      behind_operations = operations.0.1;
      behind_matrices = matrices.0.1;
      behind_statements = statements.0.1;
      first = first.1;
      operations = operations.1;
      matrices = matrices.1;
      statements = statements.1;
      prints = prints.1 ∙ ap (λ (ls : List Line). Ok (prints.0.0, ls)) no_line;
    })

-- the sections of a job that was read by such steps
record Sections (end : ℕ) (lines : List Line) (job : Job) (steps : JobSteps end lines job) : Type 0 where
  first : FirstTaken end lines job.modulus steps.behind
  operations : OperationsTaken [] steps.behind (job.operations, steps.behind_operations)
  matrices : MatricesTaken job.modulus no_matrix steps.behind_operations (matrices_of job, steps.behind_matrices)
  statements : StatementsTaken job matrices.are.each [] steps.behind_matrices (job.statements, steps.behind_statements)
  prints : PrintsTaken job [] steps.behind_statements (job.prints, [])

sections_taken : (end : ℕ) (lines : List Line) (job : Job) (steps : JobSteps end lines job) → AreLines end lines → Sections end lines job steps
sections_taken end lines job steps are =
    let first = first_lines_taken end lines job.modulus steps.behind are steps.first in
    let operations = operations_taken (suc operation_limit) end [] steps.behind (job.operations, steps.behind_operations) first.are no_operations steps.operations in
    let others = lines_behind end steps.behind operations.own steps.behind_operations first.are operations.lines_are in
    let matrices = matrices_taken (suc matrix_limit) end job.modulus no_matrix steps.behind_operations (matrices_of job, steps.behind_matrices) first.modulus.below_limit others
    (no_matrices job.modulus) steps.matrices in
    let each = matrices.are.each in
    record {
      first = first;
      operations = operations;
      matrices = matrices;
      statements = statements_taken job each [] steps.behind_matrices (job.statements, steps.behind_statements) (no_statements job each) steps.statements;
      prints = prints_taken job [] steps.behind_statements (job.prints, []) (no_prints job.names) steps.prints;
    }

-- ---- the words of all lines

-- lines of four sections behind two lines
all_lines : (lines behind first rest_1 second rest_2 third rest_3 fourth : List Line) (a b : Line) → lines ≡ a ∷ b ∷ behind → behind ≡ first ++ rest_1 → rest_1 ≡ second ++ rest_2
    → rest_2 ≡ third ++ rest_3 → rest_3 ≡ fourth ++ [] → lines ≡ a ∷ b ∷ (first ++ second ++ third ++ fourth)
all_lines lines behind first rest_1 second rest_2 third rest_3 fourth a b e e_1 e_2 e_3 e_4 =
    let two = both_lines behind first rest_1 second rest_2 e_1 e_2 in
    let three = both_lines behind (first ++ second) rest_2 third rest_3 two e_3 in
    let four = both_lines behind (first ++ second ++ third) rest_3 fourth [] three e_4 in
    e ∙ ap (λ (ls : List Line). a ∷ b ∷ ls) (four ∙ append-nil (first ++ second ++ third ++ fourth))

module _ (end : ℕ) (lines : List Line) (job : Job) (steps : JobSteps end lines job) (are : Sections end lines job steps) where
  -- the words of the sections
  sections_words : map (λ line. line.words) (are.operations.own ++ are.matrices.own ++ are.statements.own ++ are.prints.own)
      ≡ flat_map operation_lines job.operations ++ matrix_blocks job.names job.matrices ++ map (statement_line job) job.statements ++ map (print_line job) job.prints
  sections_words =
      let two = both_words are.operations.own are.matrices.own _ _ (sym are.operations.text_is) (sym are.matrices.text_is) in
      let three = both_words (are.operations.own ++ are.matrices.own) are.statements.own _ _ two (sym are.statements.text_is) in
      both_words (are.operations.own ++ are.matrices.own ++ are.statements.own) are.prints.own _ _ three (sym are.prints.text_is)

  text_taken : map (λ line. line.words) lines ≡ job_lines job
  text_taken =
      let all = all_lines lines steps.behind are.operations.own steps.behind_operations are.matrices.own steps.behind_matrices are.statements.own steps.behind_statements are.prints.own
      are.first.header are.first.second are.first.lines_are are.operations.lines_are are.matrices.lines_are are.statements.lines_are are.prints.lines_are in
      ap (map (λ (line : Line). line.words)) all ∙ (λ i. are.first.header_is i ∷ are.first.second_is i ∷ sections_words i)

  -- ---- what holds of it

  valid_taken : IsJob job
  valid_taken = record {
    modulus = are.first.modulus;
    few_operations = omega (arith, are.operations.are.few);
    few_matrices = omega (arith, are.matrices.are.few);
    few_statements = omega (arith, are.statements.are.few);
    operations = are.operations.are.valid;
    named = are.matrices.are.each;
    full = are.matrices.are.full;
    residues = are.matrices.are.residues;
    statements = are.statements.are.valid;
    prints = subst (λ n. All (λ k. k < n) job.prints) are.matrices.are.each are.prints.are.below;
    entries = omega (arith, are.matrices.are.entries);
  }

  writable_taken : IsWritable job
  writable_taken = record {
    operations = are.operations.are.few;
    matrices = are.matrices.are.few;
    statements = are.statements.are.few;
    entries = are.matrices.are.entries;
    sizes = are.matrices.are.sizes;
    operations_named = are.operations.are.named;
    operations_once = are.operations.are.once;
    matrices_named = are.matrices.are.named;
    matrices_words = are.matrices.are.words;
    matrices_once = are.matrices.are.once;
    prints_once = are.prints.are.once;
  }

pub job_taken : (end : ℕ) (lines : List Line) (job : Job) → AreLines end lines → job_at end lines ≡ Ok job → SpellsJob lines job
job_taken end lines job are e =
    let steps = job_steps end lines job e in
    let sections = sections_taken end lines job steps are in
    record { text = text_taken end lines job steps sections; valid = valid_taken end lines job steps sections; writable = writable_taken end lines job steps sections }

-- ---- the text

-- the tokens of bytes that have a second part
rest_taken : (stop : Stop) (bytes : List ℕ) (scan : Result (List Token) BadByte) (rest : Rest) → rest_in stop bytes scan ≡ Ok rest
    → (tokens : List Token) × (scan ≡ Ok tokens) × (rest ≡ rest_of stop bytes (lines_of bytes tokens))
rest_taken stop bytes (Err bad) rest e = absurd cc
rest_taken stop bytes (Ok tokens) rest e = (tokens, refl, sym (same_ok {F = Fault} (rest_of stop bytes (lines_of bytes tokens)) rest e))

-- the tokens of bytes that are a text of a job
tokens_taken : (bytes : List ℕ) (scan : Result (List Token) BadByte) (job : Job) → job_of bytes scan ≡ Ok job
    → (tokens : List Token) × (scan ≡ Ok tokens) × (job_at (end_line_of 1 bytes) (lines_of bytes tokens) ≡ Ok job)
tokens_taken bytes (Err bad) job e = absurd cc
tokens_taken bytes (Ok tokens) job e = (tokens, refl, e)

text_of_taken : (bytes : List ℕ) (job : Job) → job_of bytes (tokens_of 1 bytes) ≡ Ok job → IsTextOf bytes job
text_of_taken bytes job e =
    let taken = tokens_taken bytes (tokens_of 1 bytes) job e in
    let are = AreLines-from_tokens 1 bytes taken.0 (AreTokens-scanned 1 bytes taken.0 taken.1) in
    record { tokens = taken.0; scanned = taken.1; lines = job_taken (end_line_of 1 bytes) (lines_of bytes taken.0) job are taken.2 }

pub read_job_spelled : (stop : Stop) (bytes : List ℕ) (job : Job) (rest : Rest) → job_in stop bytes ≡ Ok (job, rest) → Spells bytes stop job rest
unfolding job_in
read_job_spelled stop bytes job rest e =
    let second = bind_ok _ _ (job, rest) e in
    let first = bind_ok _ _ (job, rest) second.2 in
    let taken = rest_taken stop bytes (tokens_of 1 bytes) second.0 second.1 in
    subst (λ (x : Job × Rest). Spells bytes stop x.0 x.1) (same_ok {F = Fault} (first.0, second.0) (job, rest) first.2) (record {
      second = record { tokens = taken.0; scanned = taken.1; begins = taken.2 };
      first = text_of_taken (take second.0.at bytes) first.0 first.1;
    })
