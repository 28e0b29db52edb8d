-- What simplifying needs of the matrices, from a setting.
use Rattle.std.proofs.Common.{◌≡◌, ◌≢◌, ℕ, zero, suc, ◌<◌, ◌≤◌, inl, inr, List, [], length, Bool, true, false, if◌then◌else◌, refl, sym, subst, arith}
use Rattle.std.proofs.lemmas.Bool.{cases_lt}
use Rattle.std.proofs.lemmas.List.{get_or_past}
use Rattle.std.proofs.lemmas.List.Elements.{All-nil, All-get_or}
use Rattle.residue_sums.specs.Residues.{IsModulus}
use Rattle.residue_sums.specs.Grids.{Grid, AreResidues, entry}
use Rattle.structure_rules.specs.declared.Structure.TheVariants as structures
use Rattle.structure_rules.specs.declared.Structure.TheVariants.{General}
use Rattle.structure_rules.specs.Structures.{is_zero}
use Rattle.operation_spec.specs.ValidOperations.{IsOperand}
use Rattle.equation.specs.Equations.{known_grid}
use Rattle.equation.proofs.AssignedGrids.{HasResidues-entry}
use Rattle.equation.proofs.FactorResidues.{HasResidues-view}
use Rattle.task_graph.specs.Factors.{known}
use Rattle.block_values.specs.declared.leaf.Leaf.{Leaf}
use Rattle.block_values.specs.declared.leaf.Leaf.TheVariants.{Work, Known, Solution, L, D, U}
use Rattle.block_values.specs.Values.{Setting, leaf_table, leaf_operand}
use Rattle.block_values.specs.Settings.{IsSetting}
use Rattle.block_expr.specs.Simplified.{leaf_structure}
use Rattle.block_expr.specs.Shapes.{IsReadable}
use Rattle.block_expr.proofs.SimplifiedTrees.{IsPlain}

module _ (s : Setting) (counts : List ℕ) (is : IsSetting s counts) where
  two : 2 ≤ s.modulus
  two = let m : IsModulus s.modulus = is.modulus in m.at_least_two

  work_operand : IsOperand s.op.dims s.op.work
  work_operand = is.valid.operands zero s.op.work (omega arith)

  any_operand : (k : ℕ) → IsOperand s.op.dims (known s.op k)
  any_operand k = elim (cases_lt k (length s.op.knowns)) [
    | inl below ↦ is.valid.operands (suc k) s.op.work (omega arith)
    | inr past ↦ subst (IsOperand s.op.dims) (sym (get_or_past s.op.knowns k s.op.work (omega arith))) work_operand
  ]

  any_residues : (k : ℕ) → AreResidues s.modulus (known_grid s.knowns k)
  any_residues k = elim (cases_lt k (length s.knowns)) [
    | inl below ↦ All-get_or (AreResidues s.modulus) s.knowns k none below is.known_residues
    | inr past ↦ subst (AreResidues s.modulus) (sym (get_or_past s.knowns k none (omega arith))) (All-nil (λ x. x < s.modulus))
  ]
    where
      none : Grid
      none = record { rows = 0; cols = 0; entries = [] }

  leaf_square : (leaf : Leaf) → IsReadable s leaf → leaf_structure s.op leaf ≢ General → (leaf_operand s.op leaf).rows ≡ (leaf_operand s.op leaf).cols
  leaf_square Work readable h = absurd (h refl)
  leaf_square (Known k) readable h = let own : IsOperand s.op.dims (known s.op k) = any_operand k in own.square h
  leaf_square Solution readable h = let own : IsOperand s.op.dims s.op.work = work_operand in own.square h
  leaf_square L readable h = readable
  leaf_square D readable h = readable
  leaf_square U readable h = readable

  x_below : (r c : ℕ) → (b : Bool) → (if b then 0 else entry s.solution r c) < s.modulus
  x_below r c true = omega (arith, two)
  x_below r c false = HasResidues-entry s.modulus s.solution (omega (arith, two)) is.solution_residues r c

  leaf_below : (leaf : Leaf) (r c : ℕ) → leaf_table s leaf r c < s.modulus
  leaf_below Work r c = HasResidues-entry s.modulus s.work (omega (arith, two)) is.work_residues r c
  leaf_below (Known k) r c = HasResidues-view s.modulus false (known s.op k).structure (known_grid s.knowns k) two (any_residues k) r c
  leaf_below Solution r c = x_below r c (is_zero s.op.work.structure r c)
  leaf_below L r c = HasResidues-view s.modulus false structures.UnitLower s.solution two is.solution_residues r c
  leaf_below D r c = HasResidues-view s.modulus false structures.Diagonal s.solution two is.solution_residues r c
  leaf_below U r c = HasResidues-view s.modulus false structures.Upper s.solution two is.solution_residues r c

  pub IsPlain-setting : IsPlain s
  IsPlain-setting = record {
    pos = omega (arith, two);
    from_zero = is.cut.from_zero;
    ascending = is.cut.ascending;
    square = leaf_square;
    below = leaf_below;
  }
