-- Which texts spell a job, and where the second part of an input begins.
use Rattle.std.specs.Prelude.{◌≡◌, ◌≢◌, ℕ, zero, suc, ◌+◌, ◌-◌, ◌≤◌, List, [], ◌∷◌, length, take, codes, map, Result, Ok, Bool, false, ◌==◌, if◌then◌else◌, All, AllPairs, IsTrue}
use Rattle.text_scan.specs.declared.token.Token.{Token}
use Rattle.text_scan.specs.declared.Rest.{Rest}
use Rattle.byte_texts.specs.Reading.{◌>>=◌}
use Rattle.text_scan.specs.Faults.{Fault}
use Rattle.text_scan.specs.Lines.{Line, begins_with, end_line_of, lines_of}
use Rattle.text_scan.specs.Tokens.{BadByte, scanned, tokens_of}
use Rattle.text_scan.specs.Words.{is_name, is_word}
use Rattle.operation_spec.specs.ValidOperations.{HasNames}
use Rattle.matrix_text.specs.MatrixLines.{size_limit}
use Rattle.equation.specs.declared.job.Job.{Job}
use Rattle.equation.specs.Jobs.{IsJob, entry_count}
use Rattle.job_text.specs.declared.stop.Stop.{Stop}
use Rattle.job_text.specs.declared.stop.Stop.TheVariants.{Nothing, Worksheet, After}
use Rattle.job_text.specs.JobFaults.{job_at, operation_limit, matrix_limit, statement_limit, entry_limit}
use Rattle.job_text.specs.JobLines.{job_lines}

-- a job within the limits of a text, whose names can stand in it
pub record IsWritable (job : Job) : Type 0 where
  pub operations : length job.operations ≤ operation_limit
  pub matrices : length job.matrices ≤ matrix_limit
  pub statements : length job.statements ≤ statement_limit
  pub entries : entry_count job.matrices ≤ entry_limit
  pub sizes : All (λ g. (g.rows ≤ size_limit) × (g.cols ≤ size_limit)) job.matrices
  pub operations_named : All HasNames job.operations
  pub operations_once : AllPairs (λ a b. a.name ≢ b.name) job.operations
  pub matrices_named : All (λ name. IsTrue (is_name name)) job.names
  pub matrices_words : All (λ name. IsTrue (is_word name)) job.names
  pub matrices_once : AllPairs (λ a b. a ≢ b) job.names
  pub prints_once : AllPairs (λ a b. a ≢ b) job.prints

-- ---- the two parts of an input

-- the line begins the second part
abbrev pub is_stop_line : Stop → List (List ℕ) → Bool
is_stop_line Nothing words = false
is_stop_line Worksheet words = begins_with (codes "worksheet") words
is_stop_line After words = begins_with (codes "after") words

-- the place behind so many line feeds, where a line begins
abbrev pub place_behind : ℕ → List ℕ → ℕ
place_behind zero bytes = 0
place_behind (suc feeds) [] = 0
place_behind (suc feeds) (b ∷ bytes) = (if b == 10 then place_behind feeds bytes else place_behind (suc feeds) bytes) + 1

-- where the second part begins: at the beginning of the first line that begins it, or at the end of the bytes
abbrev pub rest_of : Stop → List ℕ → List Line → Rest
rest_of stop bytes [] = record { at = length bytes; line = end_line_of 1 bytes }
rest_of stop bytes (line ∷ lines) =
    if is_stop_line stop line.words then record { at = place_behind (line.number - 1) bytes; line = line.number } else rest_of stop bytes lines

-- the bytes have tokens, and their second part begins here
pub record HasRest (bytes : List ℕ) (stop : Stop) (rest : Rest) : Type 0 where
  pub tokens : List Token
  pub scanned : tokens_of 1 bytes ≡ Ok tokens
  pub begins : rest ≡ rest_of stop bytes (lines_of bytes tokens)

-- ---- texts of a job

-- the lines are those of a valid job
pub record SpellsJob (lines : List Line) (job : Job) : Type 0 where
  pub text : map (λ line. line.words) lines ≡ job_lines job
  pub valid : IsJob job
  pub writable : IsWritable job

-- the bytes are a text of the job
pub record IsTextOf (bytes : List ℕ) (job : Job) : Type 0 where
  pub tokens : List Token
  pub scanned : tokens_of 1 bytes ≡ Ok tokens
  pub lines : SpellsJob (lines_of bytes tokens) job

-- the bytes have no bad byte, those up to rest are a text of the job, and behind them the second part begins
pub record Spells (bytes : List ℕ) (stop : Stop) (job : Job) (rest : Rest) : Type 0 where
  pub second : HasRest bytes stop rest
  pub first : IsTextOf (take rest.at bytes) job

-- ---- reading a text

-- the job that the tokens of bytes say, or their first fault
abbrev pub job_of : List ℕ → Result (List Token) BadByte → Result Job Fault
job_of bytes read = scanned read >>= λ tokens. job_at (end_line_of 1 bytes) (lines_of bytes tokens)

abbrev pub rest_in : Stop → List ℕ → Result (List Token) BadByte → Result Rest Fault
rest_in stop bytes read = scanned read >>= λ tokens. Ok (rest_of stop bytes (lines_of bytes tokens))

-- a job and where the second part of its input begins
unfoldable pub job_in : Stop → List ℕ → Result (Job × Rest) Fault
job_in stop bytes = do
  rest ← rest_in stop bytes (tokens_of 1 bytes)
  job ← job_of (take rest.at bytes) (tokens_of 1 (take rest.at bytes))
  Ok (job, rest)
