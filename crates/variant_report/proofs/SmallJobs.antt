-- The job of two empty matrices that a test makes is valid. Cited by the test.
use Rattle.std.proofs.Common.{◌≡◌, ℕ, ◌<◌, List, [], ◌∷◌, length, refl, arith}
use Rattle.std.specs.Prelude.{All}
use Rattle.std.proofs.lemmas.List.Elements.{All-cons, All-nil}
use Rattle.residue_sums.specs.Residues.{IsModulus}
use Rattle.residue_sums.specs.Grids.{AreResidues, IsFull}
use Rattle.operation_spec.specs.ValidOperations.{IsValid}
use Rattle.equation.specs.declared.job.Job.{Job}
use Rattle.equation.specs.Jobs.{IsJob, IsStatement, no_grid}

abbrev pub printing : ℕ → List (List ℕ) → Job
printing m names = record { modulus = m; operations = []; names = names; matrices = no_grid ∷ no_grid ∷ []; statements = []; prints = 0 ∷ 1 ∷ [] }

-- a fact of the two items of a list
both : {X : Type 0} (P : X → Type 0) (x y : X) → P x → P y → All P (x ∷ y ∷ [])
both P x y h k = All-cons P x (y ∷ []) h (All-cons P y [] k (All-nil P))

pub printing-valid : (m : ℕ) (names : List (List ℕ)) → IsModulus m → length names ≡ 2 → IsJob (printing m names)
printing-valid m names is named = record {
  modulus = is;
  few_operations = omega arith;
  few_matrices = omega arith;
  few_statements = omega arith;
  operations = All-nil IsValid;
  named = named;
  full = both IsFull no_grid no_grid refl refl;
  residues = both (AreResidues m) no_grid no_grid (All-nil (λ x. x < m)) (All-nil (λ x. x < m));
  statements = All-nil (IsStatement (printing m names));
  prints = both (λ n. n < 2) 0 1 (omega arith) (omega arith);
  entries = omega arith;
}
