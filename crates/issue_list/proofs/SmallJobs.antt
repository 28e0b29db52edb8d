-- The job of one entry that a test makes is valid. Cited by the test.
use Rattle.std.proofs.Common.{◌≢◌, ℕ, zero, ◌<◌, List, [], ◌∷◌, refl, arith}
use Rattle.std.specs.Prelude.{All}
use Rattle.std.proofs.lemmas.List.Elements.{All-cons, All-nil}
use Rattle.residue_sums.specs.Residues.{IsModulus}
use Rattle.residue_sums.specs.Grids.{AreResidues, Grid, IsFull}
use Rattle.structure_rules.specs.declared.Structure.TheVariants.{General}
use Rattle.operation_spec.specs.declared.operation.Operand.{Operand}
use Rattle.operation_spec.specs.declared.operation.Operation.{Operation}
use Rattle.operation_spec.specs.declared.operation.Form.TheVariants.{Lu}
use Rattle.operation_spec.specs.ValidOperations.{IsOperand, IsValid}
use Rattle.equation.specs.declared.job.Job.{Job}
use Rattle.equation.specs.declared.job.Statement.{Statement}
use Rattle.equation.specs.Jobs.{Fits, IsJob, IsStatement}

abbrev dims : List (List ℕ)
dims = [] ∷ []

abbrev work : Operand
work = record { name = []; structure = General; rows = 0; cols = 0 }

abbrev lu : Operation
lu = record { name = []; dims = dims; work = work; knowns = []; form = Lu; terms = [] }

abbrev entry : Grid
entry = record { rows = 1; cols = 1; entries = 1 ∷ [] }

abbrev whole : Statement
whole = record { operation = 0; bind = record { work = 0; knowns = [] } }

abbrev pub small : ℕ → Job
small m = record { modulus = m; operations = lu ∷ []; names = dims; matrices = entry ∷ []; statements = whole ∷ []; prints = [] }

-- a fact of the one item of a list
one : {X : Type 0} (P : X → Type 0) (x : X) → P x → All P (x ∷ [])
one P x h = All-cons P x [] h (All-nil P)

lu-valid : IsValid lu
lu-valid = record {
  dims = record { some = omega arith; few = omega arith; once = λ i j d before below. absurd (omega arith) };
  operands = one (IsOperand dims) work (record { rows = omega arith; cols = omega arith; square = λ other. absurd (other refl); not_solution = λ e. absurd (cc) });
  names_once = λ i j d before below. absurd (omega arith);
  work = refl;
  few_knowns = omega arith;
  few_terms = omega arith;
  factors = All-nil (λ f. f.known < 0);
  sizes = refl;
  form = refl;
  knowns_used = λ k below. absurd (omega arith);
  dims_used = λ d below. (zero, omega arith, omega arith);
}

lu-fits : Fits lu (entry ∷ []) whole.bind
lu-fits = record {
  work_in = omega arith;
  knowns_in = All-nil (λ k. k < 1);
  count = refl;
  lengths = λ d. 1;
  work = record { rows = refl; cols = refl };
  knowns = λ k below. absurd (omega arith);
  apart = All-nil (λ k. k ≢ 0);
}

pub small-valid : (m : ℕ) → IsModulus m → IsJob (small m)
small-valid m is = record {
  modulus = is;
  few_operations = omega arith;
  few_matrices = omega arith;
  few_statements = omega arith;
  operations = one IsValid lu lu-valid;
  named = refl;
  full = one IsFull entry refl;
  residues = one (AreResidues m) entry (one (λ x. x < m) 1 (omega (arith, is.at_least_two)));
  statements = one (IsStatement (small m)) whole (record { operation = lu; found = refl; fits = lu-fits });
  prints = All-nil (λ n. n < 1);
  entries = omega arith;
}
