-- The printed text of a worksheet behind that of a job: the text spells the job, and its second part begins where the worksheet does.
-- Cited by the law that says so.
use Rattle.std.proofs.Common.{◌≡◌, ℕ, ◌+◌, ◌-◌, ◌<◌, ◌≤◌, ◌⊎◌, inl, inr, Bool, true, false, cond, List, [], ◌∷◌, ◌++◌, length, take, All, IsTrue, Ok, Result, refl, sym, ap, subst, ◌∙◌, arith, length-append}
use Rattle.std.specs.Prelude.{codes}
use Rattle.std.proofs.lemmas.Bool.{and_from}
use Rattle.std.proofs.lemmas.List.{drop_at, take_all, take_at}
use Rattle.std.proofs.lemmas.List.Elements.{All-cons, All-head, All-nil, All-tail, All-weaker}
use Rattle.byte_texts.specs.Reading.{◌>>=◌}
use Rattle.text_scan.specs.declared.Rest.{Rest}
use Rattle.text_scan.specs.declared.token.Token.{Token}
use Rattle.text_scan.specs.Lines.{Line, end_line_of, lines_of}
use Rattle.text_scan.specs.NormalTexts.{is_line, lines_text}
use Rattle.text_scan.specs.Tokens.{tokens_from, tokens_of, with_found}
use Rattle.text_scan.proofs.LineOrders.{is_line-more}
use Rattle.text_scan.proofs.ScannedTokens.{AreTokens-scanned}
use Rattle.operation_spec.specs.declared.operation.Operation.{Operation}
use Rattle.operation_spec.specs.ValidOperations.{HasNames, IsValid}
use Rattle.equation.specs.declared.job.Job.{Job}
use Rattle.equation.specs.Jobs.{IsJob}
use Rattle.job_text.specs.declared.stop.Stop.TheVariants.{Worksheet}
use Rattle.job_text.specs.AfterBlocks.{IsPlace}
use Rattle.job_text.specs.JobLines.{job_lines}
use Rattle.job_text.specs.JobTexts.{job_text}
use Rattle.job_text.specs.SpelledJobs.{IsTextOf, IsWritable, Spells, is_stop_line, place_behind, rest_of}
use Rattle.job_text.proofs.AfterPlaces.{second_part_place}
use Rattle.job_text.proofs.PrintedJobs.{printed_job_is_spelled}
use Rattle.job_text.proofs.SecondTexts.{printed_before_others}
use Rattle.job_text.proofs.StopLines.{GoesOn, job_goes_on}
use Rattle.fault_laws.specs.CutTexts.{AreWholeLines}
use Rattle.fault_laws.proofs.CutTokens.{lines_joined, lines_of-front, own_below, whole_joined}
use Rattle.fault_laws.proofs.TextFronts.{place-front, whole_place}
use Rattle.worksheet.specs.declared.sheet.Worksheet as sheets
use Rattle.worksheet_text.specs.SheetTexts.{worksheet_text}
use Rattle.worksheet_text.specs.SheetWords.{Words}
use Rattle.worksheet_laws.specs.SpelledSheets.{IsPrintable}
use Rattle.worksheet_laws.proofs.PrintedComments.{own_word}
use Rattle.worksheet_laws.proofs.PrintedParts.{Reads}
use Rattle.worksheet_laws.proofs.PrintedSheets.{behind_lines, sheet_begins}
use Rattle.worksheet_laws.proofs.RoundAgain.{words_of}

-- ---- where the second part begins

module _ (bytes : List ℕ) where
  -- at the line that begins it
  rest_at-line : (own : List Line) (line : Line) (back : List Line) → All (GoesOn Worksheet) (words_of own) → is_stop_line Worksheet line.words ≡ true
      → rest_of Worksheet bytes (own ++ line ∷ back) ≡ record { at = place_behind (line.number - 1) bytes; line = line.number }
  rest_at-line [] line back go_on begins = rw begins refl
  rest_at-line (first ∷ own) line back go_on begins =
      rw (All-head (GoesOn Worksheet) first.words (words_of own) go_on) (rest_at-line own line back (All-tail (GoesOn Worksheet) first.words (words_of own) go_on) begins)

  -- or behind all lines
  abbrev Found : Rest → Type 0
  Found rest = (rest.at ≡ length bytes) ⊎ (rest.at ≡ place_behind (rest.line - 1) bytes)

  found : (lines : List Line) → Found (rest_of Worksheet bytes lines)
  found [] = inl refl
  found (line ∷ lines) = by_test (is_stop_line Worksheet line.words) (found lines)
    where
      by_test : (b : Bool) → Found (rest_of Worksheet bytes lines) → Found (cond b (record { at = place_behind (line.number - 1) bytes; line = line.number }) (rest_of Worksheet bytes lines))
      by_test true others = inr refl
      by_test false others = others

-- ---- the text of a job

module _ (job : Job) (valid : IsJob job) (writable : IsWritable job) (op : Operation) (w : sheets.Worksheet) (op_valid : IsValid op) (names : HasNames op) (is : IsPrintable op w) where
  abbrev front : List ℕ
  front = job_text job

  abbrev count : ℕ
  count = length (job_lines job)

  abbrev behind : Rest
  behind = record { at = length front; line = count + 1 }

  -- it is a text of the job
  own : IsTextOf front job
  own = subst (λ (bytes : List ℕ). IsTextOf bytes job) (take_all (length front) front (omega arith)) (printed_job_is_spelled Worksheet job valid writable).first

  -- the first line of a worksheet behind it, alone
  abbrev first : Words
  first = codes "worksheet" ∷ op.name ∷ []

  abbrev short : List ℕ
  short = front ++ lines_text (first ∷ [])

  first_line : All (λ (words : Words). IsTrue (is_line words)) (first ∷ [])
  first_line =
      All-cons (λ (words : Words). IsTrue (is_line words)) first [] (is_line-more (codes "worksheet") (op.name ∷ []) refl (and_from _ true (own_word op names) refl)) (All-nil (λ (words : Words). IsTrue (is_line words)))

  before_first : Spells short Worksheet job behind
  before_first = printed_before_others Worksheet job first [] valid writable refl first_line

  longer : length front < length short
  longer = omega (arith, length-append front (lines_text (first ∷ [])))

  its_place : IsPlace short behind
  its_place = second_part_place short Worksheet behind before_first.second

  front_is : take (length front) short ≡ front
  front_is = take_at front (lines_text (first ∷ [])) (length front) refl

  -- it ends in a line feed, on the line behind its own
  whole_lines : AreWholeLines front
  whole_lines = elim (whole_place short behind its_place) [
    | inl end ↦ absurd (omega (arith, end, longer))
    | inr whole ↦ subst AreWholeLines front_is whole
  ]

  end_line : count + 1 ≡ end_line_of 1 front
  end_line = its_place.line ∙ ap (end_line_of 1) front_is

  -- behind as many feeds as it has lines
  place_in : (more : List ℕ) → place_behind count (front ++ more) ≡ place_behind count front
  place_in more = place-front count front more (omega (arith, end_line))

  place : (more : List ℕ) → place_behind (count + 1 - 1) (front ++ more) ≡ length front
  place more =
      let lines = lines_of short before_first.second.tokens in
      let same : count + 1 - 1 ≡ count = omega arith in
      let there = subst (Found short) (sym before_first.second.begins) (found short lines) in
      rw same (elim there [
        | inl end ↦ absurd (omega (arith, end, longer))
        | inr at ↦ place_in more ∙ sym (place_in (lines_text (first ∷ []))) ∙ ap (λ k. place_behind k short) (sym same) ∙ sym at
      ])

  -- ---- with the worksheet behind it

  abbrev sheet : List ℕ
  sheet = worksheet_text op w

  abbrev whole : List ℕ
  whole = front ++ sheet

  sheet_reads : Reads whole (length front) (end_line_of 1 front) sheet (codes "worksheet" ∷ w.operation ∷ []) (behind_lines op op_valid names w)
  sheet_reads = sheet_begins op op_valid names whole (end_line_of 1 front) w is (length front) (drop_at front sheet (length front) refl)

  abbrev tokens : List Token
  tokens = own.tokens ++ sheet_reads.tokens

  all_tokens : tokens_of 1 whole ≡ Ok tokens
  all_tokens = whole_joined 1 front sheet whole_lines ∙ ap (λ (r : Result (List Token) _). r >>= λ ts. with_found ts (tokens_from 0 (length front) (end_line_of 1 front) sheet)) own.scanned
      ∙ ap (with_found own.tokens) sheet_reads.read

  abbrev first_of_sheet : Line
  first_of_sheet = record { number = end_line_of 1 front; words = codes "worksheet" ∷ w.operation ∷ [] }

  all_lines : lines_of whole tokens ≡ lines_of front own.tokens ++ first_of_sheet ∷ sheet_reads.behind
  all_lines =
      let e = end_line_of 1 front in
      let P : Line → Type 0 = λ l. e ≤ l.number in
      let above = subst (All P) (sym sheet_reads.are) (All-cons P first_of_sheet sheet_reads.behind (omega arith) (All-weaker (λ (l : Line). e < l.number) P (λ l below. omega (arith, below)) sheet_reads.behind sheet_reads.above)) in
      lines_joined e whole own.tokens sheet_reads.tokens (own_below 1 front own.tokens whole_lines own.scanned) above
      ∙ ap (λ (ls : List Line). ls ++ lines_of whole sheet_reads.tokens) (lines_of-front front sheet own.tokens (AreTokens-scanned 1 front own.tokens own.scanned).within)
      ∙ ap (λ (ls : List Line). lines_of front own.tokens ++ ls) sheet_reads.are

  begins : behind ≡ rest_of Worksheet whole (lines_of whole tokens)
  begins =
      let go_on = subst (All (GoesOn Worksheet)) (sym own.lines.text) (job_goes_on Worksheet job) in
      let at = rest_at-line whole (lines_of front own.tokens) first_of_sheet sheet_reads.behind go_on refl in
      ap (λ (k : ℕ). record { at = k; line = count + 1 }) (sym (place sheet)) ∙ ap (λ (k : ℕ). record { at = place_behind (k - 1) whole; line = k }) end_line ∙ sym at ∙ ap (rest_of Worksheet whole) (sym all_lines)

  pub sheets_stand_behind_jobs : Spells whole Worksheet job behind
  sheets_stand_behind_jobs = record {
    second = record { tokens = tokens; scanned = all_tokens; begins = begins };
    first = subst (λ (bytes : List ℕ). IsTextOf bytes job) (sym (take_at front sheet (length front) refl)) own;
  }
