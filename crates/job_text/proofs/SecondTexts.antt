-- The normal text of a job before a second part of lines spells the job: the second part begins behind the job's last line
-- feed. Cited by the law that says so.
use Rattle.std.proofs.Common.{◌≡◌, ℕ, zero, suc, ◌+◌, ◌-◌, ◌<◌, Bool, true, false, ◌==◌, List, [], ◌∷◌, ◌++◌, length, codes, All, IsTrue, refl, sym, ap, ◌∙◌, subst, arith, append_assoc, append-nil}
use Rattle.std.proofs.lemmas.Grind.{flat_map-append}
use Rattle.std.proofs.lemmas.List.{take_at}
use Rattle.std.proofs.lemmas.List.Elements.{All-head, All-tail, All-append}
use Rattle.text_scan.specs.declared.Rest.{Rest}
use Rattle.text_scan.specs.Lines.{Line}
use Rattle.text_scan.specs.NormalTexts.{before_word, is_line, line_text, lines_text, numbered_lines}
use Rattle.text_scan.proofs.LineFeeds.{line_feeds, line_feeds-append}
use Rattle.text_scan.proofs.NormalScans.{end_line_of-normal_text, normal_text_scanned}
use Rattle.equation.specs.declared.job.Job.{Job}
use Rattle.equation.specs.Jobs.{IsJob}
use Rattle.job_text.specs.declared.stop.Stop.{Stop}
use Rattle.job_text.specs.JobLines.{job_lines}
use Rattle.job_text.specs.JobTexts.{job_text}
use Rattle.job_text.specs.SpelledJobs.{HasRest, IsTextOf, IsWritable, Spells, is_stop_line, place_behind, rest_of}
use Rattle.job_text.proofs.PrintedJobs.{job_lines-words, printed_text}
use Rattle.job_text.proofs.StopLines.{GoesOn, job_goes_on}
use Rattle.job_text.proofs.WrittenLines.{job_text-lines}

-- ---- bytes up to their last line feed

-- bytes that end in a line feed
abbrev EndsInFeed : List ℕ → Type 0
EndsInFeed bytes = (front : List ℕ) × (bytes ≡ front ++ codes "\n")

ends-behind : (xs ys : List ℕ) → EndsInFeed ys → EndsInFeed (xs ++ ys)
ends-behind xs ys ends = (xs ++ ends.0, ap (λ (bs : List ℕ). xs ++ bs) ends.1 ∙ sym (append_assoc xs ends.0 (codes "\n")))

ends-line : (words : List (List ℕ)) → EndsInFeed (line_text words)
ends-line [] = ([], refl)
ends-line (w ∷ []) = (w, refl)
ends-line (w ∷ v ∷ words) = ends-behind (w ++ before_word v) (line_text (v ∷ words)) (ends-line (v ∷ words))

ends-lines : (words : List (List ℕ)) (lines : List (List (List ℕ))) → EndsInFeed (lines_text (words ∷ lines))
ends-lines words [] = subst EndsInFeed (sym (append-nil (line_text words))) (ends-line words)
ends-lines words (others ∷ lines) = ends-behind (line_text words) (lines_text (others ∷ lines)) (ends-lines others lines)

-- behind all feeds of a front that ends in one is its end
behind_front : (front rest : List ℕ) (n : ℕ) → line_feeds front ≡ n → place_behind (suc n) ((front ++ codes "\n") ++ rest) ≡ length (front ++ codes "\n")
behind_front [] rest zero count = refl
behind_front [] rest (suc n) count = absurd (omega (arith, count))
behind_front (b ∷ front) rest n count = by_test (behind_front front rest) (b == 10) refl n count
  where
    by_test : ((k : ℕ) → line_feeds front ≡ k → place_behind (suc k) ((front ++ codes "\n") ++ rest) ≡ length (front ++ codes "\n")) → (t : Bool) → (b == 10) ≡ t → (k : ℕ) → line_feeds (b ∷ front) ≡ k → place_behind (suc k) ((b ∷ front ++ codes "\n") ++ rest) ≡ length (b ∷ front ++ codes "\n")
    by_test others true is zero all = let more : line_feeds (b ∷ front) ≡ suc (line_feeds front) = rw is refl in absurd (omega (arith, all, more))
    by_test others true is (suc k) all =
        let more : line_feeds (b ∷ front) ≡ suc (line_feeds front) = rw is refl in
        let behind = others k (omega (arith, all, more)) in
        rw is (omega (arith, behind))
    by_test others false other k all =
        let same : line_feeds (b ∷ front) ≡ line_feeds front = rw other refl in
        let behind = others k (sym same ∙ all) in
        rw other (omega (arith, behind))

-- so it is behind lines with their line feeds
behind_lines : (lines : List (List (List ℕ))) (rest : List ℕ) → 0 < length lines → All (λ ws. IsTrue (is_line ws)) lines → place_behind (length lines) (lines_text lines ++ rest) ≡ length (lines_text lines)
behind_lines [] rest some are = absurd (omega (arith, some))
behind_lines (words ∷ lines) rest some are =
    let ends = ends-lines words lines in
    let feeds : line_feeds (lines_text (words ∷ lines)) ≡ suc (length lines) = omega (arith, end_line_of-normal_text 1 (words ∷ lines) are) in
    let last : line_feeds (ends.0 ++ codes "\n") ≡ line_feeds ends.0 + 1 = line_feeds-append ends.0 (codes "\n") in
    let count : line_feeds ends.0 ≡ length lines = omega (arith, feeds, last, ap line_feeds ends.1) in
    subst (λ (bs : List ℕ). place_behind (suc (length lines)) (bs ++ rest) ≡ length bs) (sym ends.1) (behind_front ends.0 rest (length lines) count)

-- ---- the first line that begins the second part

module _ (stop : Stop) (bytes : List ℕ) (first : List (List ℕ)) (others : List (List (List ℕ))) (begins : IsTrue (is_stop_line stop first)) where
  rest_of-first : (n : ℕ) (lines : List (List (List ℕ))) → All (GoesOn stop) lines
      → rest_of stop bytes (numbered_lines n (lines ++ first ∷ others)) ≡ record { at = place_behind (n + length lines - 1) bytes; line = n + length lines }
  rest_of-first n [] all =
      let same : n ≡ n + 0 = omega arith in
      rw begins (ap (λ (k : ℕ). record { at = place_behind (k - 1) bytes; line = k }) same)
  rest_of-first n (words ∷ lines) all =
      let same : n + 1 + length lines ≡ n + suc (length lines) = omega arith in
      rw (All-head (GoesOn stop) words lines all)
      (rest_of-first (n + 1) lines (All-tail (GoesOn stop) words lines all) ∙ ap (λ (k : ℕ). record { at = place_behind (k - 1) bytes; line = k }) same)

-- ---- the text of a job before it

same_rest : (at other line n : ℕ) → at ≡ other → line ≡ n → ◌≡◌ {A = Rest} (record { at = at; line = line }) (record { at = other; line = n })
same_rest at other line n same_at same_line = ap (λ (k : ℕ). record { at = k; line = line }) same_at ∙ ap (λ (k : ℕ). record { at = other; line = k }) same_line

module _ (stop : Stop) (job : Job) (first : List (List ℕ)) (others : List (List (List ℕ))) (valid : IsJob job) (writable : IsWritable job) (begins : IsTrue (is_stop_line stop first))
    (are : All (λ words. IsTrue (is_line words)) (first ∷ others)) where
  abbrev front : List ℕ
  front = lines_text (job_lines job)

  abbrev whole : List ℕ
  whole = front ++ lines_text (first ∷ others)

  abbrev behind : Rest
  behind = record { at = length front; line = length (job_lines job) + 1 }

  -- it begins behind as many feeds as the job has lines
  place : (bytes : List ℕ) (lines : List Line) → bytes ≡ whole → lines ≡ numbered_lines 1 (job_lines job ++ first ∷ others) → behind ≡ rest_of stop bytes lines
  place bytes lines text read =
      let count = length (job_lines job) in
      let feeds : 1 + count - 1 ≡ count = omega arith in
      let at : length front ≡ place_behind (1 + count - 1) bytes = rw (feeds, text) (sym (behind_lines (job_lines job) (lines_text (first ∷ others)) (omega arith) (job_lines-words job valid writable))) in
      same_rest (length front) (place_behind (1 + count - 1) bytes) (count + 1) (1 + count) at (omega arith)
      ∙ sym (ap (rest_of stop bytes) read ∙ rest_of-first stop bytes first others begins 1 (job_lines job) (job_goes_on stop job))

  second_part : HasRest whole stop behind
  second_part =
      let all = All-append (λ ws. IsTrue (is_line ws)) (job_lines job) (first ∷ others) (job_lines-words job valid writable) are in
      let scans = normal_text_scanned 1 (job_lines job ++ first ∷ others) all in
      let text : lines_text (job_lines job ++ first ∷ others) ≡ whole = flat_map-append line_text (job_lines job) (first ∷ others) in
      subst (λ (bytes : List ℕ). HasRest bytes stop behind) text (record { tokens = scans.0; scanned = scans.1; begins = place (lines_text (job_lines job ++ first ∷ others)) _ text scans.2 })

  lines_before_others : Spells whole stop job behind
  lines_before_others = record {
    second = second_part;
    first = subst (λ (bs : List ℕ). IsTextOf bs job) (sym (take_at front (lines_text (first ∷ others)) (length front) refl)) (printed_text job valid writable);
  }

  pub printed_before_others : Spells (job_text job ++ lines_text (first ∷ others)) stop job (record { at = length (job_text job); line = length (job_lines job) + 1 })
  printed_before_others =
      subst (λ (bytes : List ℕ). Spells (bytes ++ lines_text (first ∷ others)) stop job (record { at = length bytes; line = length (job_lines job) + 1 })) (sym (job_text-lines job writable.matrices_named)) lines_before_others
