-- The lines of prints are read as the numbers of their matrices. Cited by the law that a job's lines are read as the job.
use Rattle.std.proofs.Common.{◌≡◌, ◌≢◌, ℕ, ◌<◌, true, not, List, [], ◌∷◌, ◌++◌, length, map, codes, All, Ok, refl, sym, ap, ◌∙◌, arith, append_assoc}
use Rattle.std.proofs.lemmas.Bool.{not_from_true}
use Rattle.std.proofs.lemmas.List.{append-nil}
use Rattle.text_scan.specs.Names.{is_among, number_of}
use Rattle.text_scan.specs.Lines.{Line, begins_with, nth_word}
use Rattle.text_scan.proofs.FaultTests.{passes_by}
use Rattle.operation_spec.proofs.NamesApart.{number_of-nth, is_among-nth}
use Rattle.equation.specs.declared.job.Job.{Job}
use Rattle.equation.specs.Jobs.{IsJob}
use Rattle.job_text.specs.JobFaults.{is_print_line, has_number, print_at, prints_at}
use Rattle.job_text.specs.JobLines.{print_line}
use Rattle.job_text.specs.SpelledJobs.{IsWritable}
use Rattle.job_text.proofs.ItemsAgain.{All-at, AllPairs-before, has_number-none}
use Rattle.job_text.proofs.SectionsAgain.{words_of}

module _ (job : Job) (valid : IsJob job) (writable : IsWritable job) where
  -- a line is read as the number of its matrix, where that isn't among those found
  print_at-line : (found : List ℕ) (line : Line) (n : ℕ) → line.words ≡ print_line job n → n < length job.matrices → All (λ k. k ≢ n) found → print_at job.names found line ≡ Ok n
  unfolding print_at
  print_at-line found line n words inside others =
      let below : n < length job.names = omega (arith, valid.named) in
      let number : number_of job.names (nth_word line.words 1) ≡ n = ap (λ ws. number_of job.names (nth_word ws 1)) words ∙ number_of-nth job.names n writable.matrices_once below in
      passes_by _ (ap (λ ws. not (is_print_line ws)) words ∙ not_from_true _ (writable.matrices_named n [] below))
      (passes_by _ (ap (has_number found) number ∙ has_number-none found n others)
      (passes_by _ (ap (λ ws. not (is_among job.names (nth_word ws 1))) words ∙ not_from_true _ (is_among-nth job.names n writable.matrices_once below))
      (ap (λ (k : ℕ). Ok k) number)))

  -- it is found, and the lines behind it are left
  one_more_print : (found : List ℕ) (line : Line) (lines : List Line) (n : ℕ) → line.words ≡ print_line job n → n < length job.matrices → All (λ k. k ≢ n) found
      → prints_at job.names found (line ∷ lines) ≡ prints_at job.names (found ++ n ∷ []) lines
  unfolding prints_at
  one_more_print found line lines n words inside others =
      let begins : begins_with (codes "print") line.words ≡ true = ap (begins_with (codes "print")) words in
      rw (begins, print_at-line found line n words inside others) refl

  -- the prints behind those found, up to the end
  pub prints_at-lines : (found ns : List ℕ) (own : List Line) → found ++ ns ≡ job.prints → words_of own ≡ map (print_line job) ns → prints_at job.names found own ≡ Ok (job.prints, [])
  unfolding prints_at
  prints_at-lines found [] [] parts words = ap (λ (ns : List ℕ). Ok (ns, [])) (sym (append-nil found) ∙ parts)
  prints_at-lines found [] (line ∷ own) parts words = absurd cc
  prints_at-lines found (n ∷ ns) [] parts words = absurd cc
  prints_at-lines found (n ∷ ns) (line ∷ own) parts words =
      one_more_print found line own n (cc) (All-at (λ k. k < length job.matrices) found n ns job.prints parts valid.prints) (AllPairs-before (λ a b. a ≢ b) found n ns job.prints parts writable.prints_once)
      ∙ prints_at-lines (found ++ n ∷ []) ns own (append_assoc found (n ∷ []) ns ∙ parts) (cc)
