-- The steps of reading a job, joined. Cited by its readers.
use Rattle.std.proofs.Common.{◌≡◌, ℕ, zero, suc, get_or, drop, ◌+◌, ◌-◌, ◌<◌, ◌≤◌, Bool, true, false, cond, ◌==◌, List, [], ◌∷◌, length, take, codes, Result, Ok, Err, IfOk, refl, ap, ◌∙◌, arith}
use Rattle.std.proofs.lemmas.List.{at_drop_all, at_drop_more, take_all}
use Rattle.byte_texts.specs.Reading.{◌>>=◌, Gives}
use Rattle.text_scan.specs.declared.Rest.{Rest}
use Rattle.text_scan.specs.declared.token.Token.{Token}
use Rattle.text_scan.specs.Lines.{Line, end_line_of, lines_of, begins_with}
use Rattle.text_scan.specs.Tokens.{BadByte, scanned, tokens_of}
use Rattle.equation.specs.declared.job.Job.{Job}
use Rattle.job_text.specs.declared.fault.JobFault.{JobFault}
use Rattle.job_text.specs.declared.stop.Stop.{Stop}
use Rattle.job_text.specs.declared.stop.Stop.TheVariants.{Nothing, Worksheet, After}
use Rattle.job_text.specs.JobFaults.{job_fault}
use Rattle.job_text.specs.SecondParts.{from_word, front_at, front_in, rest_at}
use Rattle.job_text.specs.SpelledJobs.{Spells, is_stop_line, job_in, job_of, place_behind, rest_in, rest_of}
use Rattle.job_text.proofs.JobTaken.{read_job_spelled}

-- ---- the second part of an input

-- it begins with the first line that begins so
rest_of-word : (stop : Stop) (w bytes : List ℕ) (lines : List Line) → ((words : List (List ℕ)) → is_stop_line stop words ≡ begins_with w words) → rest_of stop bytes lines ≡ rest_at bytes (from_word w lines)
rest_of-word stop w bytes [] same = refl
rest_of-word stop w bytes (line ∷ lines) same = rw (same line.words) (by_test (rest_of-word stop w bytes lines same) (begins_with w line.words))
  where
    by_test : rest_of stop bytes lines ≡ rest_at bytes (from_word w lines) → (b : Bool) → cond b (record { at = place_behind (line.number - 1) bytes; line = line.number }) (rest_of stop bytes lines) ≡ rest_at bytes (cond b (line ∷ lines) (from_word w lines))
    by_test behind true = refl
    by_test behind false = behind

pub rest_of-worksheet : (bytes : List ℕ) (lines : List Line) → rest_of Worksheet bytes lines ≡ rest_at bytes (from_word (codes "worksheet") lines)
rest_of-worksheet bytes lines = rest_of-word Worksheet (codes "worksheet") bytes lines (λ words. refl)

pub rest_of-after : (bytes : List ℕ) (lines : List Line) → rest_of After bytes lines ≡ rest_at bytes (from_word (codes "after") lines)
rest_of-after bytes lines = rest_of-word After (codes "after") bytes lines (λ words. refl)

-- there is none
rest_of-nothing : (bytes : List ℕ) (lines : List Line) → rest_of Nothing bytes lines ≡ record { at = length bytes; line = end_line_of 1 bytes }
rest_of-nothing bytes [] = refl
rest_of-nothing bytes (line ∷ lines) = rest_of-nothing bytes lines

-- a job up to the end of the bytes
pub job_in-nothing : (bytes : List ℕ) (r : Result (List Token) BadByte) → tokens_of 1 bytes ≡ r
    → job_in Nothing bytes ≡ (job_of bytes (tokens_of 1 bytes) >>= λ job. Ok (job, record { at = length bytes; line = end_line_of 1 bytes }))
unfolding job_in
job_in-nothing bytes (Ok tokens) is = rw (is, rest_of-nothing bytes (lines_of bytes tokens), take_all (length bytes) bytes (omega arith), is) refl
job_in-nothing bytes (Err bad) is = rw is refl

-- a job up to the line that begins with the word
front_steps : (stop : Stop) (w bytes : List ℕ) (r : Result (List Token) BadByte) → ((tokens : List Token) → rest_of stop bytes (lines_of bytes tokens) ≡ rest_at bytes (from_word w (lines_of bytes tokens)))
    → (rest_in stop bytes r >>= λ rest. job_of (take rest.at bytes) (tokens_of 1 (take rest.at bytes)) >>= λ job. Ok (job, rest)) ≡ ((scanned r >>= λ tokens. Ok (rest_at bytes (from_word w (lines_of bytes tokens)))) >>= λ rest. front_at bytes rest)
front_steps stop w bytes (Ok tokens) same = ap (front_at bytes) (same tokens)
front_steps stop w bytes (Err bad) same = refl

pub job_in-worksheet : (bytes : List ℕ) → job_in Worksheet bytes ≡ front_in (codes "worksheet") bytes
unfolding job_in
job_in-worksheet bytes = front_steps Worksheet (codes "worksheet") bytes (tokens_of 1 bytes) (λ tokens. rest_of-worksheet bytes (lines_of bytes tokens))

pub job_in-after : (bytes : List ℕ) → job_in After bytes ≡ front_in (codes "after") bytes
unfolding job_in
job_in-after bytes = front_steps After (codes "after") bytes (tokens_of 1 bytes) (λ tokens. rest_of-after bytes (lines_of bytes tokens))

-- ---- going to the line that begins so

-- ---- the place of a line

-- one byte more
pub place_behind-step : (bytes : List ℕ) (left at d : ℕ) → 0 < left → at < length bytes
    → at + 1 + place_behind (cond (get_or bytes at d == 10) (left - 1) left) (drop (at + 1) bytes) ≡ at + place_behind left (drop at bytes)
place_behind-step bytes zero at d some within = absurd (omega (arith, some))
place_behind-step bytes (suc left) at d some within =
    let one : place_behind (suc left) (drop at bytes) ≡ place_behind (cond (get_or bytes at d == 10) left (suc left)) (drop (at + 1) bytes) + 1 =
    at_drop_more (place_behind (suc left)) bytes at d within ∙ by_test (get_or bytes at d == 10) in
    let less : suc left - 1 ≡ left = omega arith in
    rw less (omega (arith, one))
  where
    by_test : (b : Bool) → cond b (place_behind left (drop (at + 1) bytes)) (place_behind (suc left) (drop (at + 1) bytes)) + 1 ≡ place_behind (cond b left (suc left)) (drop (at + 1) bytes) + 1
    by_test true = refl
    by_test false = refl

-- no byte is left
pub place_behind-none : (bytes : List ℕ) (left at : ℕ) → length bytes ≤ at → place_behind left (drop at bytes) ≡ 0
place_behind-none bytes left at past = at_drop_all (place_behind left) bytes at past ∙ at_end left
  where
    at_end : (n : ℕ) → place_behind n [] ≡ 0
    at_end zero = refl
    at_end (suc n) = refl

-- ---- what was read is spelled so

pub found_from_read : (stop : Stop) (bytes : List ℕ) (read : Result (Job × Rest) JobFault) → Gives job_fault (λ (x : Job × Rest). (x.0, x.1)) read (job_in stop bytes) → IfOk read (λ x. Spells bytes stop x.0 x.1)
found_from_read stop bytes (Ok x) gives = read_job_spelled stop bytes x.0 x.1 gives
found_from_read stop bytes (Err e) gives = tt
