-- The laws of the faults of matrices behind a job: they stay, whatever stands behind their lines, and a text that is cut off ends too
-- early.
use Rattle.std.proofs.Common.{◌≡◌, ◌≢◌, ℕ, ◌<◌, ◌≤◌, List, ◌++◌, length, drop, All, Result, Ok, Err, IfErr, refl, sym, ap, subst, ◌∙◌, arith, append_assoc}
use Rattle.std.proofs.lemmas.List.{drop-append-le}
use Rattle.residue_sums.specs.Grids.{Grid}
use Rattle.text_scan.specs.declared.Rest.{Rest}
use Rattle.text_scan.specs.declared.token.Token.{Token}
use Rattle.text_scan.specs.FaultKinds.{BadByte, Syntax}
use Rattle.text_scan.specs.Faults.{Fault, ◌on◌}
use Rattle.text_scan.specs.Lines.{Line, end_line_of, lines_of}
use Rattle.text_scan.specs.Tokens as tokens
use Rattle.text_scan.specs.Tokens.{tokens_of}
use Rattle.equation.specs.declared.job.Job.{Job}
use Rattle.job_text.specs.AfterFaults.{after_at, after_in, after_of}
use Rattle.fault_laws.specs.CutTexts.{AreWholeLines}
use Rattle.fault_laws.proofs.AfterReaders.{after_reads}
use Rattle.fault_laws.proofs.CutReads.{bytes_cut, bytes_stay}
use Rattle.fault_laws.proofs.CutTokens.{lines_cut}
use Rattle.fault_laws.proofs.FaultsStay.{same_err}
use Rattle.fault_laws.proofs.Readers.{IsShared, Stays, Texts, none_before, value_alone}
use Rattle.fault_laws.proofs.TextFronts.{split}

module _ (job : Job) where
  -- the reader needs nothing of a text
  abbrev NeedsNothing : Texts → Type 0
  NeedsNothing texts = Unit {0}

  after_stays : (texts : Texts) → NeedsNothing texts → (front : List Line) → All (IsShared texts) front → Stays value_alone texts (after_at texts.end job (front ++ texts.back)) (after_at texts.other_end job (front ++ texts.other_back))
  after_stays texts needs front shared = after_reads job texts front (none_before texts) shared

  -- what is read of bytes, the first of which is on a line
  abbrev after_from : ℕ → List ℕ → Result (List Grid) Fault
  after_from first_line bytes = after_of first_line bytes job (tokens_of first_line bytes)

  from_tokens : (first_line : ℕ) (bytes : List ℕ) (all : List Token) → tokens_of first_line bytes ≡ Ok all → after_from first_line bytes ≡ after_at (end_line_of first_line bytes) job (lines_of bytes all)
  from_tokens first_line bytes all scanned = ap (after_of first_line bytes job) scanned

  -- bytes whose fault is no bad byte have tokens
  has_tokens : (first_line : ℕ) (bytes : List ℕ) (fault : Fault) → after_from first_line bytes ≡ Err fault → fault.kind ≢ BadByte → (all : List Token) × (tokens_of first_line bytes ≡ Ok all)
  has_tokens first_line bytes fault is other = by_tokens (tokens_of first_line bytes) refl
    where
      by_tokens : (read : Result (List Token) tokens.BadByte) → tokens_of first_line bytes ≡ read → (all : List Token) × (tokens_of first_line bytes ≡ Ok all)
      by_tokens (Ok all) scanned = (all, scanned)
      by_tokens (Err bad) scanned =
          let same = same_err (BadByte on bad.line) fault (sym (ap (after_of first_line bytes job) scanned) ∙ is) in
          absurd (other (sym (ap (λ (f : Fault). f.kind) same)))

  lines_stay : (first_line : ℕ) (lines more other : List ℕ) (others : List Token) (fault : Fault) → AreWholeLines lines → after_from first_line (lines ++ more) ≡ Err fault → fault.kind ≢ BadByte → fault.line < end_line_of first_line lines
      → tokens_of first_line (lines ++ other) ≡ Ok others → after_from first_line (lines ++ other) ≡ Err fault
  lines_stay first_line lines more other others fault whole is kind above scanned_there =
      let all = has_tokens first_line (lines ++ more) fault is kind in
      from_tokens first_line (lines ++ other) others scanned_there
      ∙ bytes_stay NeedsNothing (λ texts is. tt) (λ end lines. after_at end job lines) after_stays first_line lines more other all.0 others whole all.1 scanned_there fault (sym (from_tokens first_line (lines ++ more) all.0 all.1) ∙ is) above

  pub after_faults_stay : (front more other : List ℕ) (rest : Rest) (others : List Token) (fault : Fault) → rest.at ≤ length front → after_in (front ++ more) rest job ≡ Err fault → fault.kind ≢ BadByte
      → fault.line < end_line_of rest.line (drop rest.at front) → tokens_of rest.line (drop rest.at (front ++ other)) ≡ Ok others → after_in (front ++ other) rest job ≡ Err fault
  after_faults_stay front more other rest others fault within is kind above scanned_there =
      let parts = split (drop rest.at front) in
      let bytes : (bs : List ℕ) → drop rest.at (front ++ bs) ≡ parts.lines ++ (parts.tail ++ bs) =
      λ bs. drop-append-le rest.at front bs within ∙ ap (λ (xs : List ℕ). xs ++ bs) parts.are ∙ append_assoc parts.lines parts.tail bs in
      ap (after_from rest.line) (bytes other)
      ∙ lines_stay rest.line parts.lines (parts.tail ++ more) (parts.tail ++ other) others fault parts.whole (ap (after_from rest.line) (sym (bytes more)) ∙ is) kind (omega (arith, above, parts.feeds)) (ap (tokens_of rest.line) (sym (bytes other)) ∙ scanned_there)

  -- a text that is cut off at a line
  pub after_cut : (first_line : ℕ) (lines more : List ℕ) (all : List Token) (fault : Fault) → AreWholeLines lines → tokens_of first_line (lines ++ more) ≡ Ok all → IfErr (after_from first_line (lines ++ more)) (λ f. end_line_of first_line lines ≤ f.line)
      → after_from first_line lines ≡ Err fault → fault ≡ Syntax on end_line_of first_line lines
  after_cut first_line lines more all fault whole scanned late is =
      let cut = lines_cut first_line lines more all whole scanned in
      let e = end_line_of first_line lines in
      bytes_cut NeedsNothing (λ texts is. tt) (λ end lines. after_at end job lines) after_stays first_line lines more cut.own all (λ f. f ≡ Syntax on e) refl (λ other back. tt) whole cut.scanned scanned
      (subst (λ (r : Result (List Grid) Fault). IfErr r (λ f. e ≤ f.line)) (from_tokens first_line (lines ++ more) all scanned) late) fault (sym (from_tokens first_line lines cut.own cut.scanned) ∙ is)

  pub matrices_cut : (bytes more : List ℕ) (rest : Rest) (all : List Token) (fault : Fault) → rest.at ≤ length bytes → AreWholeLines (drop rest.at bytes) → tokens_of rest.line (drop rest.at (bytes ++ more)) ≡ Ok all
      → IfErr (after_in (bytes ++ more) rest job) (λ f. end_line_of rest.line (drop rest.at bytes) ≤ f.line) → after_in bytes rest job ≡ Err fault → fault ≡ Syntax on end_line_of rest.line (drop rest.at bytes)
  matrices_cut bytes more rest all fault within whole scanned late is =
      let behind : drop rest.at (bytes ++ more) ≡ drop rest.at bytes ++ more = drop-append-le rest.at bytes more within in
      after_cut rest.line (drop rest.at bytes) more all fault whole (ap (tokens_of rest.line) (sym behind) ∙ scanned)
      (subst (λ (bs : List ℕ). IfErr (after_from rest.line bs) (λ f. end_line_of rest.line (drop rest.at bytes) ≤ f.line)) behind late) is
