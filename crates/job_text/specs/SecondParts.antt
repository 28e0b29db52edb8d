-- The second part of an input, from the line that begins it.
use Rattle.std.specs.Prelude.{ℕ, ◌-◌, List, [], ◌∷◌, length, take, Result, Ok, if◌then◌else◌}
use Rattle.byte_texts.specs.Reading.{◌>>=◌}
use Rattle.text_scan.specs.declared.Rest.{Rest}
use Rattle.text_scan.specs.Lines.{Line, begins_with, end_line_of, lines_of}
use Rattle.text_scan.specs.Faults.{Fault}
use Rattle.text_scan.specs.Tokens.{scanned, tokens_of}
use Rattle.equation.specs.declared.job.Job.{Job}
use Rattle.job_text.specs.SpelledJobs.{job_of, place_behind}

-- the lines from the first on that begins with the word
abbrev pub from_word : List ℕ → List Line → List Line
from_word w [] = []
from_word w (line ∷ lines) = if begins_with w line.words then line ∷ lines else from_word w lines

-- where these lines begin; the end of the bytes where there is none
abbrev pub rest_at : List ℕ → List Line → Rest
rest_at bytes [] = record { at = length bytes; line = end_line_of 1 bytes }
rest_at bytes (line ∷ lines) = record { at = place_behind (line.number - 1) bytes; line = line.number }

-- the job up to there
abbrev pub front_at : List ℕ → Rest → Result (Job × Rest) Fault
front_at bytes rest = job_of (take rest.at bytes) (tokens_of 1 (take rest.at bytes)) >>= λ job. Ok (job, rest)

-- where the first line that begins with the word begins, or the first bad byte
abbrev pub place_of_word : List ℕ → List ℕ → Result Rest Fault
place_of_word w bytes = scanned (tokens_of 1 bytes) >>= λ tokens. Ok (rest_at bytes (from_word w (lines_of bytes tokens)))

-- the job up to the line that begins with the word
abbrev pub front_in : List ℕ → List ℕ → Result (Job × Rest) Fault
front_in w bytes = place_of_word w bytes >>= λ rest. front_at bytes rest
