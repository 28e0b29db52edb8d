-- The laws of the faults of inputs that have a job: they stay, whatever stands behind their lines, and a text that is cut off ends too
-- early.
use Rattle.std.proofs.Common.{◌≡◌, ◌≢◌, inl, inr, ℕ, ◌<◌, ◌≤◌, List, [], ◌++◌, Result, Ok, Err, IfErr, refl, sym, ap, subst, ◌∙◌, arith, append-nil, append_assoc}
use Rattle.std.proofs.lemmas.List.{take_all}
use Rattle.std.proofs.lemmas.List.Elements.{All-nil}
use Rattle.std.proofs.lemmas.Result.{IfErr-at_err}
use Rattle.byte_texts.specs.Reading.{◌>>=◌}
use Rattle.byte_texts.proofs.Binding.{same_ok}
use Rattle.text_scan.specs.declared.Rest.{Rest}
use Rattle.text_scan.specs.declared.token.Token.{Token}
use Rattle.text_scan.specs.FaultKinds.{BadByte, Header}
use Rattle.text_scan.specs.Faults.{Fault, ◌on◌}
use Rattle.text_scan.specs.Lines.{Line, end_line_of, lines_of}
use Rattle.text_scan.specs.Tokens as tokens
use Rattle.text_scan.specs.Tokens.{tokens_of}
use Rattle.text_scan.proofs.FirstBadBytes.{IsFirstBad-scanned}
use Rattle.equation.specs.declared.job.Job.{Job}
use Rattle.job_text.specs.declared.stop.Stop.{Stop}
use Rattle.job_text.specs.JobFaults.{job_at}
use Rattle.job_text.specs.SpelledJobs.{job_in, rest_of}
use Rattle.fault_laws.specs.CutTexts.{AreWholeLines, EndsTooEarly}
use Rattle.fault_laws.proofs.CutReads.{bytes_cut, bytes_stay}
use Rattle.fault_laws.proofs.CutTokens.{AreCut, bad_stays, feeds-take, lines_cut}
use Rattle.fault_laws.proofs.JobReaders.{job_stays}
use Rattle.fault_laws.proofs.Readers.{Texts}
use Rattle.fault_laws.proofs.TextFronts.{GoesOn, in_bad, in_within, job_read, rest_line, split, stops, text_goes_on, text_stops, value_refused, with_rest}

-- what the reader of a job needs of a text: the fault of a missing header is told behind the shared lines
abbrev NeedsHeader : Texts → Type 0
NeedsHeader texts = texts.Past (Header on texts.end)

-- ---- on which lines faults are

bad_kind : (n : ℕ) (fault : Fault) → fault.kind ≢ BadByte → (BadByte on n) ≡ fault → ⊥
bad_kind n fault other same = other (sym (ap (λ (f : Fault). f.kind) same))

-- what two refusals with one fault have
pub same_err : {A : Type 0} (f g : Fault) → ◌≡◌ {A = Result A Fault} (Err f) (Err g) → f ≡ g
same_err f g e = cc

pub in_text : (stop : Stop) (bytes : List ℕ) (fault : Fault) → job_in stop bytes ≡ Err fault → (1 ≤ fault.line) × (fault.line ≤ end_line_of 1 bytes)
in_text stop bytes fault is = by_tokens (tokens_of 1 bytes) refl
  where
    by_tokens : (read : Result (List Token) tokens.BadByte) → tokens_of 1 bytes ≡ read → (1 ≤ fault.line) × (fault.line ≤ end_line_of 1 bytes)
    by_tokens (Ok all) scanned =
        let on_line = in_within stop bytes all scanned fault is in
        (on_line.0, omega (arith, on_line.1, rest_line stop bytes all scanned))
    by_tokens (Err bad) scanned =
        let same : (BadByte on bad.line) ≡ fault = same_err (BadByte on bad.line) fault (sym (in_bad stop bytes bad scanned) ∙ is) in
        let line : bad.line ≡ fault.line = ap (λ (f : Fault). f.line) same in
        let first = IsFirstBad-scanned 1 bytes bad.at bad.line scanned in
        (omega (arith, line, first.on_line), omega (arith, line, first.on_line, feeds-take bad.at bytes))

-- the tokens of an input whose fault is no bad byte
has_tokens : (stop : Stop) (bytes : List ℕ) (fault : Fault) → job_in stop bytes ≡ Err fault → fault.kind ≢ BadByte → (all : List Token) × (tokens_of 1 bytes ≡ Ok all)
has_tokens stop bytes fault is other = by_tokens (tokens_of 1 bytes) refl
  where
    by_tokens : (read : Result (List Token) tokens.BadByte) → tokens_of 1 bytes ≡ read → (all : List Token) × (tokens_of 1 bytes ≡ Ok all)
    by_tokens (Ok all) scanned = (all, scanned)
    by_tokens (Err bad) scanned = absurd (bad_kind bad.line fault other (same_err (BadByte on bad.line) fault (sym (in_bad stop bytes bad scanned) ∙ is)))

-- the bad byte of one whose fault is
has_bad_byte : (stop : Stop) (bytes : List ℕ) (line : ℕ) → job_in stop bytes ≡ Err (BadByte on line) → (bad : tokens.BadByte) × (tokens_of 1 bytes ≡ Err bad) × (bad.line ≡ line)
has_bad_byte stop bytes line is = by_tokens (tokens_of 1 bytes) refl
  where
    by_tokens : (read : Result (List Token) tokens.BadByte) → tokens_of 1 bytes ≡ read → (bad : tokens.BadByte) × (tokens_of 1 bytes ≡ Err bad) × (bad.line ≡ line)
    by_tokens (Ok all) scanned = absurd (in_within stop bytes all scanned (BadByte on line) is).2
    by_tokens (Err bad) scanned = (bad, scanned, ap (λ (f : Fault). f.line) (same_err (BadByte on bad.line) (BadByte on line) (sym (in_bad stop bytes bad scanned) ∙ is)))

-- ---- whole lines, and what stands behind them

module _ (stop : Stop) (lines more other : List ℕ) (all others : List Token) (whole : AreWholeLines lines) (scanned : tokens_of 1 (lines ++ more) ≡ Ok all) (scanned_there : tokens_of 1 (lines ++ other) ≡ Ok others) where
  cut : AreCut 1 lines more all
  cut = lines_cut 1 lines more all whole scanned

  there : AreCut 1 lines other others
  there = lines_cut 1 lines other others whole scanned_there

  same_own : lines_of (lines ++ other) others ≡ lines_of lines cut.own ++ there.back
  same_own =
      let same : there.own ≡ cut.own = same_ok {F = tokens.BadByte} there.own cut.own (sym there.scanned ∙ cut.scanned) in
      there.are ∙ ap (λ (own : List Token). lines_of lines own ++ there.back) same

  jobs_stay : (here : GoesOn stop lines more) (far : GoesOn stop lines other) (fault : Fault) → fault.line < end_line_of 1 lines → job_in stop (lines ++ more) ≡ Err fault → job_in stop (lines ++ other) ≡ Err fault
  jobs_stay here far fault above is =
      let job = bytes_stay NeedsHeader (λ texts is. is) job_at job_stays 1 lines here.inner far.inner here.own far.own whole here.scanned far.scanned fault (value_refused (job_read (lines ++ here.inner) here.own) here.rest fault (sym here.read ∙ is)) above in
      far.read ∙ ap (λ (r : Result Job Fault). r >>= with_rest far.rest) job

  pub texts_stay : (fault : Fault) → fault.line < end_line_of 1 lines → job_in stop (lines ++ more) ≡ Err fault → job_in stop (lines ++ other) ≡ Err fault
  texts_stay fault above is = elim (stops stop (end_line_of 1 lines) (lines_of lines cut.own) cut.before) [
    | inr at ↦ text_stops stop lines other others (lines_of lines cut.own) there.back at scanned_there same_own ∙ sym (text_stops stop lines more all (lines_of lines cut.own) cut.back at scanned cut.are) ∙ is
    | inl none ↦ jobs_stay
        (text_goes_on stop lines more all (lines_of lines cut.own) cut.back whole none scanned cut.are cut.behind)
        (text_goes_on stop lines other others (lines_of lines cut.own) there.back whole none scanned_there same_own there.behind) fault above is
  ]

-- ---- faults stay

-- bytes behind the whole lines that a front begins with
behind_split : (front lines tail more : List ℕ) → front ≡ lines ++ tail → front ++ more ≡ lines ++ (tail ++ more)
behind_split front lines tail more are = ap (λ (bs : List ℕ). bs ++ more) are ∙ append_assoc lines tail more

pub faults_stay : (stop : Stop) (front more other : List ℕ) (others : List Token) (fault : Fault) → job_in stop (front ++ more) ≡ Err fault → fault.kind ≢ BadByte → fault.line < end_line_of 1 front → tokens_of 1 (front ++ other) ≡ Ok others
    → job_in stop (front ++ other) ≡ Err fault
faults_stay stop front more other others fault is kind above scanned_there =
    let parts = split front in
    let here = behind_split front parts.lines parts.tail more parts.are in
    let far = behind_split front parts.lines parts.tail other parts.are in
    let all = has_tokens stop (front ++ more) fault is kind in
    ap (job_in stop) far
    ∙ texts_stay stop parts.lines (parts.tail ++ more) (parts.tail ++ other) all.0 others parts.whole (ap (tokens_of 1) (sym here) ∙ all.1) (ap (tokens_of 1) (sym far) ∙ scanned_there) fault (omega (arith, above, parts.feeds))
    (ap (job_in stop) (sym here) ∙ is)

pub bad_bytes_stay : (stop : Stop) (front more other : List ℕ) (line : ℕ) → job_in stop (front ++ more) ≡ Err (BadByte on line) → line < end_line_of 1 front → job_in stop (front ++ other) ≡ Err (BadByte on line)
bad_bytes_stay stop front more other line is above =
    let parts = split front in
    let here = behind_split front parts.lines parts.tail more parts.are in
    let far = behind_split front parts.lines parts.tail other parts.are in
    let found = has_bad_byte stop (front ++ more) line is in
    let bad = found.0 in
    let stays = bad_stays 1 parts.lines (parts.tail ++ more) (parts.tail ++ other) bad parts.whole (ap (tokens_of 1) (sym here) ∙ found.1) (omega (arith, above, parts.feeds, found.2)) in
    in_bad stop (front ++ other) bad (ap (tokens_of 1) far ∙ stays) ∙ ap (λ (n : ℕ). Err (BadByte on n)) found.2

-- ---- a text that is cut off

-- what is read has no fault above a line, so the job has none
late_value : (r : Result Job Fault) (rest : Rest) (e : ℕ) → IfErr (r >>= with_rest rest) (λ f. e ≤ f.line) → IfErr r (λ f. e ≤ f.line)
late_value (Ok job) rest e late = tt
late_value (Err fault) rest e late = late

-- a text that goes on to its end is read as a whole
read_alone : (stop : Stop) (lines : List ℕ) (own : List Token) (here : GoesOn stop lines []) (fault : Fault) → tokens_of 1 lines ≡ Ok own → job_in stop (lines ++ []) ≡ Err fault → job_at (end_line_of 1 lines) (lines_of lines own) ≡ Err fault
read_alone stop lines own here fault scanned is =
    let none : here.inner ≡ [] = here.part.1 ∙ take_all here.part.0 [] (omega arith) in
    let all : lines ++ here.inner ≡ lines = ap (λ (bs : List ℕ). lines ++ bs) none ∙ append-nil lines in
    let job : job_at (end_line_of 1 (lines ++ here.inner)) (lines_of (lines ++ here.inner) here.own) ≡ Err fault = value_refused (job_read (lines ++ here.inner) here.own) here.rest fault (sym here.read ∙ is) in
    let same : own ≡ here.own = same_ok {F = tokens.BadByte} own here.own (sym scanned ∙ ap (tokens_of 1) (sym all) ∙ here.scanned) in
    ap (λ (ts : List Token). job_at (end_line_of 1 lines) (lines_of lines ts)) same ∙ subst (λ (bs : List ℕ). job_at (end_line_of 1 bs) (lines_of bs here.own) ≡ Err fault) all job

module _ (stop : Stop) (lines more : List ℕ) (all : List Token) (whole : AreWholeLines lines) (scanned : tokens_of 1 (lines ++ more) ≡ Ok all) (late : IfErr (job_in stop (lines ++ more)) (λ f. end_line_of 1 lines ≤ f.line))
    (fault : Fault) (is : job_in stop (lines ++ []) ≡ Err fault) where
  abbrev e : ℕ
  e = end_line_of 1 lines

  whole_cut : AreCut 1 lines more all
  whole_cut = lines_cut 1 lines more all whole scanned

  abbrev own_lines : List Line
  own_lines = lines_of lines whole_cut.own

  alone_scanned : tokens_of 1 (lines ++ []) ≡ Ok whole_cut.own
  alone_scanned = ap (tokens_of 1) (append-nil lines) ∙ whole_cut.scanned

  alone_are : lines_of (lines ++ []) whole_cut.own ≡ own_lines ++ []
  alone_are = ap (λ (bs : List ℕ). lines_of bs whole_cut.own) (append-nil lines) ∙ sym (append-nil own_lines)

  -- where one of the lines begins the second part, the whole text has the same fault
  cut_stops : (number : ℕ) → number < e → ((bytes : List ℕ) (back : List Line) → (rest_of stop bytes (own_lines ++ back)).line ≡ number) → job_in stop (lines ++ more) ≡ Err fault → EndsTooEarly e fault
  cut_stops number above begins same =
      let below : e ≤ fault.line = IfErr-at_err (λ (f : Fault). e ≤ f.line) same late in
      let on_line = in_within stop (lines ++ more) all scanned fault same in
      let line : (rest_of stop (lines ++ more) (lines_of (lines ++ more) all)).line ≡ number = ap (λ (ls : List Line). (rest_of stop (lines ++ more) ls).line) whole_cut.are ∙ begins (lines ++ more) whole_cut.back in
      absurd (omega (arith, above, below, on_line.1, line))

  cut_goes_on : GoesOn stop lines [] → GoesOn stop lines more → EndsTooEarly e fault
  cut_goes_on here far =
      bytes_cut NeedsHeader (λ texts is. is) job_at job_stays 1 lines far.inner whole_cut.own far.own (EndsTooEarly e) (inr refl) (λ other back. inl refl) whole whole_cut.scanned far.scanned
      (late_value (job_read (lines ++ far.inner) far.own) far.rest e (subst (λ (r : Result (Job × Rest) Fault). IfErr r (λ f. e ≤ f.line)) far.read late)) fault (read_alone stop lines whole_cut.own here fault whole_cut.scanned is)

  pub cut_off : EndsTooEarly e fault
  cut_off = elim (stops stop e own_lines whole_cut.before) [
    | inr at ↦ cut_stops at.number at.above (λ bytes back. ap (λ (r : Rest). r.line) (at.rest bytes back))
        (text_stops stop lines more all own_lines whole_cut.back at scanned whole_cut.are ∙ sym (text_stops stop lines [] whole_cut.own own_lines [] at alone_scanned alone_are) ∙ is)
    | inl none ↦ cut_goes_on
        (text_goes_on stop lines [] whole_cut.own own_lines [] whole none alone_scanned alone_are (All-nil (λ (l : Line). e ≤ l.number)))
        (text_goes_on stop lines more all own_lines whole_cut.back whole none scanned whole_cut.are whole_cut.behind)
  ]

pub texts_cut : (stop : Stop) (lines more : List ℕ) (all : List Token) (fault : Fault) → AreWholeLines lines → tokens_of 1 (lines ++ more) ≡ Ok all → IfErr (job_in stop (lines ++ more)) (λ f. end_line_of 1 lines ≤ f.line)
    → job_in stop lines ≡ Err fault → EndsTooEarly (end_line_of 1 lines) fault
texts_cut stop lines more all fault whole scanned late is = cut_off stop lines more all whole scanned late fault (ap (job_in stop) (append-nil lines) ∙ is)
