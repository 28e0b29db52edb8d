-- What isn't inside by structure is zero, block by block.
pub use Rattle.block_values.proofs.Fitting.{factor_rows, IsSquare}
use Rattle.std.proofs.Common.{◌≡◌, ◌≢◌, ℕ, suc, ◌≤◌, List, Bool, true, false, if◌then◌else◌, not, refl, sym, subst, arith}
use Rattle.std.proofs.lemmas.Bool.Decides.{nat_tests}
use Rattle.residue_sums.specs.Tables.{Table, oriented}
use Rattle.residue_sums.specs.Grids.{Grid, entry}
use Rattle.structure_rules.specs.declared.Structure.{Structure}
use Rattle.structure_rules.specs.declared.Structure.TheVariants.{General, Lower, UnitLower, Upper, UnitUpper, Diagonal, Symmetric}
use Rattle.structure_rules.specs.Structures.{view, IsZero, IsInside, is_zero, transpose_of}
use Rattle.structure_rules.proofs.Views.{view-zero}
use Rattle.operation_spec.specs.declared.operation.Operation.{Operation}
use Rattle.operation_spec.specs.declared.operation.Factor.{Factor}
use Rattle.equation.specs.Equations.{known_grid, factor_table}
use Rattle.task_graph.specs.Factors.{known, factor_structure, factor_cols}
use Rattle.task_graph.specs.Tasks.{is_inside}
use Rattle.block_values.specs.Cuts.{IsIn, Starts, part}
use Rattle.block_values.proofs.Ranges.{IsZero-part}

pub IsZero-from_test : (s : Structure) (i j : ℕ) → is_zero s i j ≡ true → IsZero s i j
IsZero-from_test s i j h = grind (arith, nat_tests)

pub IsInside-from_test : (s : Structure) (i j : ℕ) → is_zero s i j ≡ false → IsInside s i j
IsInside-from_test s i j h = grind (arith, nat_tests)

pub test-from_IsInside : (s : Structure) (i j : ℕ) → IsInside s i j → is_zero s i j ≡ false
test-from_IsInside s i j h = grind (arith, nat_tests)

-- a zero place of op(F)
turned-zero : (primed : Bool) (s : Structure) (a : Table) (r x : ℕ) → IsZero (if primed then transpose_of s else s) r x → oriented primed (view s a) r x ≡ 0
turned-zero false s a r x h = view-zero s a r x h
turned-zero true s a r x h = view-zero s a x r (turn s h)
  where
    turn : (s : Structure) → IsZero (transpose_of s) r x → IsZero s x r
    turn General h = h
    turn Lower h = h
    turn UnitLower h = h
    turn Upper h = h
    turn UnitUpper h = h
    turn Diagonal h = λ e. h (sym e)
    turn Symmetric h = h

not_general : (primed : Bool) (s : Structure) (i k : ℕ) → is_zero (if primed then transpose_of s else s) i k ≡ true → s ≢ General
not_general true s i k h e = let g : false ≡ true = subst (λ z. is_zero (transpose_of z) i k ≡ true) e h in absurd (cc)
not_general false s i k h e = let g : false ≡ true = subst (λ z. is_zero z i k ≡ true) e h in absurd (cc)

square_dims : (op : Operation) (f : Factor) → (known op f.known).rows ≡ (known op f.known).cols → factor_rows op f ≡ factor_cols op f
square_dims op f e = go f.primed
  where
    go : (b : Bool) → (if b then (known op f.known).cols else (known op f.known).rows) ≡ (if b then (known op f.known).rows else (known op f.known).cols)
    go true = sym e
    go false = e

-- a zero block of op(F) holds zeros
pub factor-zero : (op : Operation) (knowns : List Grid) (starts : Starts) (f : Factor) (i k r x : ℕ)
    → ((d : ℕ) → starts d 0 ≡ 0) → ((d p : ℕ) → starts d p ≤ starts d (suc p)) → IsSquare op f
    → IsIn (part starts (factor_rows op f) i) r → IsIn (part starts (factor_cols op f) k) x → is_inside op f i k ≡ false
    → factor_table op knowns f r x ≡ 0
factor-zero op knowns starts f i k r x from_zero ascending square r_in x_in outside =
    let zero_test : is_zero (factor_structure op f) i k ≡ true = flip (is_zero (factor_structure op f) i k) outside in
    let turned : is_zero (if f.primed then transpose_of (known op f.known).structure else (known op f.known).structure) i k ≡ true = same f.primed zero_test in
    let dims : factor_rows op f ≡ factor_cols op f = square_dims op f (square (not_general f.primed (known op f.known).structure i k turned)) in
    turned-zero f.primed (known op f.known).structure (entry (known_grid knowns f.known)) r x
    (IsZero-part starts (factor_cols op f) (from_zero (factor_cols op f)) (ascending (factor_cols op f)) _ i k r x (subst (λ d. IsIn (part starts d i) r) dims r_in) x_in (IsZero-from_test _ i k turned))
  where
    flip : (b : Bool) → not b ≡ false → b ≡ true
    flip true h = refl
    flip false h = absurd (cc)

    same : (b : Bool) → is_zero (if b then transpose_of (known op f.known).structure else (known op f.known).structure) i k ≡ true → is_zero (if b then transpose_of (known op f.known).structure else (known op f.known).structure) i k ≡ true
    same b h = h
