-- A generated job can stand in a text. Cited by the law.
use Rattle.std.proofs.Common.{◌≡◌, ◌≢◌, ℕ, ◌+◌, ◌≤◌, List, [], ◌∷◌, length, codes, Ok, IsTrue, refl, arith}
use Rattle.std.specs.Prelude.{AllPairs}
use Rattle.std.proofs.lemmas.Nat.{mul-le}
use Rattle.std.proofs.lemmas.List.Elements.{All-from_recursion, All-nil}
use Rattle.std.proofs.lemmas.List.Kept.{AllPairs-cons}
use Rattle.residue_sums.specs.Residues.{IsModulus}
use Rattle.residue_sums.specs.Grids.{Grid}
use Rattle.text_scan.specs.declared.Rest.{Rest}
use Rattle.text_scan.specs.Words.{is_name, is_word}
use Rattle.matrix_core.specs.Matrices.{zero_grid}
use Rattle.operation_spec.specs.declared.operation.Operation.{Operation}
use Rattle.operation_spec.specs.ValidOperations.{HasNames}
use Rattle.operation_spec.proofs.FoundNames.{text_is_not}
use Rattle.job_text.specs.declared.stop.Stop.{Stop}
use Rattle.job_text.specs.JobLines.{job_lines}
use Rattle.job_text.specs.JobTexts.{job_text}
use Rattle.job_text.specs.SpelledJobs.{IsWritable, job_in}
use Rattle.job_text.proofs.JobAgain.{spelled_job_is_read}
use Rattle.job_text.proofs.PrintedJobs.{printed_job_is_spelled}
use Rattle.job_generator.specs.GeneratedOperations.{prod, lu, solve, ulow, upp}
use Rattle.job_generator.specs.GeneratedJobs.{factors, right_side, generated_job}
use Rattle.job_generator.proofs.OperationsRead.{prod-read, lu-read, ulow-read, upp-read}
use Rattle.job_generator.proofs.ValidJobs.{generated-valid}

-- ---- names that stand once

AllPairs-none : {X : Type 0} (R : X → X → Type 0) → AllPairs R []
AllPairs-none R i j d before below = absurd (omega arith)

-- one item has no other
AllPairs-one : {X : Type 0} (R : X → X → Type 0) (x : X) → AllPairs R (x ∷ [])
AllPairs-one R x = AllPairs-cons R x [] (All-nil (R x)) (AllPairs-none R)

abbrev HaveOtherNames : Operation → Operation → Type 0
HaveOtherNames a b = a.name ≢ b.name

operations_once : AllPairs HaveOtherNames (prod ∷ lu ∷ ulow ∷ upp ∷ [])
unfolding prod lu solve
operations_once =
    AllPairs-cons HaveOtherNames prod (lu ∷ ulow ∷ upp ∷ []) (All-from_recursion (HaveOtherNames prod) (lu ∷ ulow ∷ upp ∷ []) (text_is_not _ lu.name refl, (text_is_not _ ulow.name refl, (text_is_not _ upp.name refl, tt))))
    (AllPairs-cons HaveOtherNames lu (ulow ∷ upp ∷ []) (All-from_recursion (HaveOtherNames lu) (ulow ∷ upp ∷ []) (text_is_not _ ulow.name refl, (text_is_not _ upp.name refl, tt)))
    (AllPairs-cons HaveOtherNames ulow (upp ∷ []) (All-from_recursion (HaveOtherNames ulow) (upp ∷ []) (text_is_not _ upp.name refl, tt))
    (AllPairs-one HaveOtherNames upp)))

abbrev names : List (List ℕ)
names = codes "F" ∷ codes "S" ∷ codes "B" ∷ []

abbrev Differ : List ℕ → List ℕ → Type 0
Differ a b = a ≢ b

matrices_once : AllPairs Differ names
matrices_once =
    AllPairs-cons Differ (codes "F") (codes "S" ∷ codes "B" ∷ []) (All-from_recursion (Differ (codes "F")) (codes "S" ∷ codes "B" ∷ []) (text_is_not _ (codes "S") refl, (text_is_not _ (codes "B") refl, tt)))
    (AllPairs-cons Differ (codes "S") (codes "B" ∷ []) (All-from_recursion (Differ (codes "S")) (codes "B" ∷ []) (text_is_not _ (codes "B") refl, tt))
    (AllPairs-one Differ (codes "B")))

-- ---- the job

pub generated-writable : (n m seed : ℕ) → n ≤ 1024 → IsWritable (generated_job n m seed)
unfolding generated_job
generated-writable n m seed small = record {
  operations = omega arith;
  matrices = omega arith;
  statements = omega arith;
  entries = omega (arith, mul-le n n 1024 1024 small small);
  sizes = All-from_recursion (λ (g : Grid). (g.rows ≤ 1024) × (g.cols ≤ 1024)) (factors n m seed ∷ zero_grid n n ∷ right_side n m seed ∷ []) ((small, small), ((small, small), ((small, small), tt)));
  operations_named = All-from_recursion HasNames (prod ∷ lu ∷ ulow ∷ upp ∷ []) (prod-read.named, (lu-read.named, (ulow-read.named, (upp-read.named, tt))));
  operations_once = operations_once;
  matrices_named = All-from_recursion (λ name. IsTrue (is_name name)) names (refl, (refl, (refl, tt)));
  matrices_words = All-from_recursion (λ name. IsTrue (is_word name)) names (refl, (refl, (refl, tt)));
  matrices_once = matrices_once;
  prints_once = AllPairs-cons (λ (a b : ℕ). a ≢ b) 1 (2 ∷ []) (All-from_recursion (λ b. 1 ≢ b) (2 ∷ []) (omega arith, tt)) (AllPairs-one (λ (a b : ℕ). a ≢ b) 2);
}

pub generated-read : (stop : Stop) (n m seed : ℕ) → n ≤ 1024 → IsModulus m
    → (rest : Rest) × (job_in stop (job_text (generated_job n m seed)) ≡ Ok (generated_job n m seed, rest))
generated-read stop n m seed small modulus =
    let job = generated_job n m seed in
    let rest : Rest = record { at = length (job_text job); line = length (job_lines job) + 1 } in
    (rest, spelled_job_is_read (job_text job) stop job rest (printed_job_is_spelled stop job (generated-valid n m seed small modulus) (generated-writable n m seed small)))
