-- Matrices that fit an operation are held against it without a fault. Cited by what shows that a statement's line is read
-- as the statement.
use Rattle.std.proofs.Common.{◌≡◌, ℕ, zero, suc, ◌<◌, false, List, ◌∷◌, length, get_or, map, Ok, Err, Some, slice_get, refl, ap, arith, eq-eqb, None}
use Rattle.std.proofs.lemmas.Bool.{not_from_true, or_from}
use Rattle.residue_sums.specs.Grids.{Grid}
use Rattle.text_scan.specs.Faults.{◌on◌}
use Rattle.text_scan.specs.FaultKinds.{NameUnknown}
use Rattle.text_scan.specs.Lines.{Line}
use Rattle.text_scan.proofs.FaultTests.{passes_by}
use Rattle.operation_spec.specs.declared.operation.Binding.{Binding}
use Rattle.operation_spec.specs.declared.operation.Operation.{Operation}
use Rattle.equation.specs.Jobs.{Fits, HasLengths, nth_grid}
use Rattle.job_text.specs.JobFaults.{is_misbound, lengths_of, has_two_lengths, bound_at, nth_bound}
use Rattle.job_text.proofs.ItemsAgain.{has_number-none}
use Rattle.job_text.proofs.LengthsAgain.{has_two_lengths-one, lengths_of-has}

-- ---- the matrices against the operation

-- each operand has the lengths of its matrix
each_has_lengths : (op : Operation) (grids : List Grid) (bind : Binding) (fits : Fits op grids bind) (k : ℕ) → k < length (op.work ∷ op.knowns)
    → HasLengths fits.lengths (get_or (op.work ∷ op.knowns) k op.work) (nth_grid (map (nth_grid grids) (bind.work ∷ bind.knowns)) k)
each_has_lengths op grids bind fits zero below = fits.work
each_has_lengths op grids bind fits (suc k) below = fits.knowns k (omega arith)

-- so that no dimension has two
has_two_lengths-fits : (op : Operation) (grids : List Grid) (bind : Binding) → Fits op grids bind → has_two_lengths (lengths_of (op.work ∷ op.knowns) (map (nth_grid grids) (bind.work ∷ bind.knowns))) ≡ false
has_two_lengths-fits op grids bind fits =
    has_two_lengths-one fits.lengths (lengths_of (op.work ∷ op.knowns) (map (nth_grid grids) (bind.work ∷ bind.knowns)))
    (lengths_of-has fits.lengths (op.work ∷ op.knowns) (map (nth_grid grids) (bind.work ∷ bind.knowns)) op.work (each_has_lengths op grids bind fits))

-- and they are as many as the operands
is_misbound-fits : (op : Operation) (grids : List Grid) (bind : Binding) → Fits op grids bind → is_misbound op grids (bind.work ∷ bind.knowns) ≡ false
is_misbound-fits op grids bind fits =
    or_from _ _ (not_from_true _ (eq-eqb _ _ (ap suc fits.count))) (has_two_lengths-fits op grids bind fits)

-- matrices that fit an operation are a statement
pub bound_at-fits : (line : Line) (op : Operation) (grids : List Grid) (n : ℕ) (bind : Binding) → Fits op grids bind
    → bound_at line op grids n (bind.work ∷ bind.knowns) ≡ Ok (record { operation = n; bind = bind })
unfolding bound_at
bound_at-fits line op grids n bind fits = passes_by _ (is_misbound-fits op grids bind fits) (passes_by _ (has_number-none bind.knowns bind.work fits.apart) refl)

-- ---- the operation with a number

-- where there is an operation with the number, it decides
pub nth_bound-at : (line : Line) (ops : List Operation) (grids : List Grid) (n : ℕ) (bound : List ℕ) (op : Operation) → slice_get ops n ≡ Some op
    → nth_bound line ops grids n bound ≡ bound_at line op grids n bound
nth_bound-at line ops grids n bound op found = rw found refl

-- there is none
pub nth_bound-none : (line : Line) (ops : List Operation) (grids : List Grid) (n : ℕ) (bound : List ℕ) → slice_get ops n ≡ None → nth_bound line ops grids n bound ≡ Err (NameUnknown on line.number)
nth_bound-none line ops grids n bound past = rw past refl
