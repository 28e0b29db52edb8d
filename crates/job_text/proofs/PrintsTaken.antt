-- The prints of a job that were read. Cited by the law that what is read is spelled so.
use Rattle.std.proofs.Common.{◌≡◌, ◌≢◌, ℕ, ◌<◌, true, List, [], ◌∷◌, ◌++◌, length, map, codes, Ok, All, AllPairs, bytes_eq, refl, sym, ap, ◌∙◌, subst, arith}
use Rattle.std.proofs.lemmas.Bool.{and_parts, not-false}
use Rattle.std.proofs.lemmas.List.{map_push}
use Rattle.std.proofs.lemmas.List.Elements.{All-nil, All-push}
use Rattle.std.proofs.lemmas.List.Quantifiers.{all_pairs_push}
use Rattle.byte_texts.proofs.Binding.{same_ok}
use Rattle.text_scan.specs.Faults.{Fault}
use Rattle.text_scan.specs.Names.{number_of}
use Rattle.text_scan.specs.Lines.{Line, begins_with, nth_word}
use Rattle.text_scan.specs.Words.{is_name}
use Rattle.text_scan.proofs.FaultTests.{passed_by}
use Rattle.operation_spec.proofs.FoundNames.{text_is, nth_name-number_of, among_below}
use Rattle.equation.specs.declared.job.Job.{Job}
use Rattle.job_text.specs.JobFaults.{is_print_line, print_at, prints_at}
use Rattle.job_text.specs.JobLines.{print_line}
use Rattle.job_text.proofs.ListFacts.{not_among}
use Rattle.job_text.proofs.SectionLines.{SectionTaken, no_part, part_before, at_word}

-- the words of a print's line
line_words : (words : List (List ℕ)) → is_print_line words ≡ true → words ≡ codes "print" ∷ nth_word words 1 ∷ []
line_words (first ∷ name ∷ []) is = ap (λ (w : List ℕ). w ∷ name ∷ []) (text_is first (codes "print") (and_parts (bytes_eq first (codes "print")) (is_name name) is).0)
line_words _ is = absurd cc

-- numbers of matrices, each once
pub record ArePrints (names : List (List ℕ)) (numbers : List ℕ) : Type 0 where
  pub below : All (λ n. n < length names) numbers
  pub once : AllPairs (λ a b. a ≢ b) numbers

pub no_prints : (names : List (List ℕ)) → ArePrints names []
no_prints names = record { below = All-nil (λ n. n < length names); once = λ i j d before below. absurd (omega arith) }

module _ (job : Job) where
  -- a print behind others
  record PrintTaken (found : List ℕ) (words : List (List ℕ)) (n : ℕ) : Type 0 where
    spelled : words ≡ print_line job n
    below : n < length job.names
    new : All (λ k. k ≢ n) found

  print_taken : (found : List ℕ) (line : Line) (n : ℕ) → print_at job.names found line ≡ Ok n → PrintTaken found line.words n
  unfolding print_at
  print_taken found line n e =
      let name = nth_word line.words 1 in
      let form = passed_by _ _ _ n e in
      let twice = passed_by _ _ _ n form.1 in
      let unknown = passed_by _ _ _ n twice.1 in
      let below = among_below job.names name (not-false _ unknown.0) in
      subst (PrintTaken found line.words) (same_ok {F = Fault} (number_of job.names name) n unknown.1) (record {
        spelled = line_words line.words (not-false _ form.0) ∙ ap (λ (w : List ℕ). codes "print" ∷ w ∷ []) (sym (nth_name-number_of job.names name below));
        below = below;
        new = not_among found (number_of job.names name) twice.0;
      })

  one_more : (found : List ℕ) (words : List (List ℕ)) (n : ℕ) → ArePrints job.names found → PrintTaken found words n → ArePrints job.names (found ++ n ∷ [])
  one_more found words n are more = record {
    below = All-push (λ k. k < length job.names) found n are.below more.below;
    once = all_pairs_push (λ a b. a ≢ b) found n are.once more.new;
  }

  -- lines that were read as prints behind those found
  abbrev pub PrintsTaken : List ℕ → List Line → List ℕ × List Line → Type 0
  PrintsTaken = SectionTaken (ArePrints job.names) (map (print_line job))

  -- a print, where those behind it were read
  print_before : (found : List ℕ) (line : Line) (lines : List Line) (read : List ℕ × List Line) (n : ℕ) → ArePrints job.names found → print_at job.names found line ≡ Ok n
      → (ArePrints job.names (found ++ n ∷ []) → PrintsTaken (found ++ n ∷ []) lines read) → PrintsTaken found (line ∷ lines) read
  print_before found line lines read n are e others =
      let taken = print_taken found line n e in
      let text = map_push (print_line job) found n ∙ ap (λ (words : List (List ℕ)). map (print_line job) found ++ words ∷ []) (sym taken.spelled) in
      part_before (ArePrints job.names) (map (print_line job)) found (found ++ n ∷ []) (line ∷ lines) (line ∷ []) lines read refl text (others (one_more found line.words n are taken))

  pub prints_taken : (found : List ℕ) (lines : List Line) (read : List ℕ × List Line) → ArePrints job.names found → prints_at job.names found lines ≡ Ok read → PrintsTaken found lines read
  unfolding prints_at
  prints_taken found [] read are e = no_part (ArePrints job.names) (map (print_line job)) found [] read are e
  prints_taken found (line ∷ lines) read are e =
      at_word (ArePrints job.names) (map (print_line job)) found (line ∷ lines) read (print_at job.names found line) (λ n. prints_at job.names (found ++ n ∷ []) lines) are
      (λ n step behind. print_before found line lines read n are step (λ more. prints_taken (found ++ n ∷ []) lines read more behind)) (begins_with (codes "print") line.words) e
