-- Leaves are read through their structures, and which of their blocks are zero by structure.
use Rattle.std.proofs.Common.{◌≡◌, ℕ, ◌*◌, ◌/◌, ◌≤◌, Bool, true, false, refl, arith}
use Rattle.std.proofs.Math.Nat.{mul-le-mul_right}
use Rattle.std.proofs.lemmas.Bool.Decides.{nat_tests}
use Rattle.residue_sums.specs.Tables.{Table, oriented}
use Rattle.residue_sums.specs.Grids.{entry}
use Rattle.structure_rules.specs.declared.Structure.{Structure}
use Rattle.structure_rules.specs.Structures.{view, is_zero}
use Rattle.structure_rules.proofs.Blocks.{view-zero_block}
use Rattle.operation_spec.specs.declared.operation.Operation.{Operation}
use Rattle.operation_spec.specs.ValidOperations.{IsValid}
use Rattle.equation.proofs.SolvedGrids.{solution_table-view}
use Rattle.equation.proofs.ValidForms.{work-valid}
use Rattle.block_values.specs.declared.leaf.Leaf.{Leaf}
use Rattle.block_values.specs.declared.leaf.Leaf.TheVariants.{Work, Known, Solution, L, D, U}
use Rattle.block_values.specs.Values.{Setting, leaf_table}
use Rattle.block_values.proofs.ZeroBlocks.{IsZero-from_test}
use Rattle.block_expr.specs.Simplified.{leaf_structure, is_zero_block}
use Rattle.expression_laws.specs.StoredLeaves.{stored_table}

pub read_through : (s : Setting) → IsValid s.op → (leaf : Leaf) (r c : ℕ) → leaf_table s leaf r c ≡ view (leaf_structure s.op leaf) (stored_table s leaf) r c
read_through s valid Work r c = refl
read_through s valid (Known k) r c = refl
read_through s valid Solution r c = solution_table-view s.op s.solution (entry s.solution) r c (work-valid s.op valid) refl
read_through s valid L r c = refl
read_through s valid D r c = refl
read_through s valid U r c = refl

pub zero_block : (op : Operation) (leaf : Leaf) (primed : Bool) (a : Table) (b r c : ℕ)
    → is_zero_block op leaf primed (r / b) (c / b) ≡ true → oriented primed (view (leaf_structure op leaf) a) r c ≡ 0
zero_block op leaf true a b r c h = view-zero_block (leaf_structure op leaf) a b c r (IsZero-from_test (leaf_structure op leaf) (c / b) (r / b) h)
zero_block op leaf false a b r c h = view-zero_block (leaf_structure op leaf) a b r c (IsZero-from_test (leaf_structure op leaf) (r / b) (c / b) h)

-- a place that lies to the diagonal as a block that isn't zero does
one_there : (s : Structure) (i j x y : ℕ) → (i ≤ j → x ≤ y) → (j ≤ i → y ≤ x) → is_zero s i j ≡ false → view s (λ _ _. 1) x y ≡ 1
one_there s i j x y above below h = grind (arith, nat_tests)

one_in : (s : Structure) (b i j : ℕ) → is_zero s i j ≡ false → view s (λ _ _. 1) (i * b) (j * b) ≡ 1
one_in s b i j h = one_there s i j (i * b) (j * b) (λ le. mul-le-mul_right {m = i} {n = j} b le) (λ le. mul-le-mul_right {m = j} {n = i} b le) h

pub other_block : (op : Operation) (leaf : Leaf) (primed : Bool) (b i j : ℕ)
    → is_zero_block op leaf primed i j ≡ false → oriented primed (view (leaf_structure op leaf) (λ _ _. 1)) (i * b) (j * b) ≡ 1
other_block op leaf true b i j h = one_in (leaf_structure op leaf) b j i h
other_block op leaf false b i j h = one_in (leaf_structure op leaf) b i j h
