-- The factors of a block once all its columns are found, or its first bad pivot is met. Cited by the kernels that factor.
use Rattle.std.proofs.Common.{◌≡◌, ℕ, ◌+◌, ◌<◌, ◌≤◌, refl, sym, arith}
use Rattle.residue_sums.specs.Tables.{Table}
use Rattle.residue_sums.proofs.Congruence.{Cong-trans, Cong-from_same, IsUnit-Cong}
use Rattle.structure_rules.specs.declared.Structure.TheVariants.{UnitLower, Upper, Diagonal}
use Rattle.structure_rules.specs.Structures.{view}
use Rattle.matrix_algebra.specs.Factors.{IsLu, IsLdl, IsLuBadPivot, IsLdlBadPivot}
use Rattle.matrix_algebra.proofs.Packed.{view-upper_above, view-diagonal_here, IsUnitLower-view, IsUpper-view, IsDiagonal-view}
use Rattle.matrix_algebra.proofs.Lu as lu
use Rattle.matrix_algebra.proofs.Ldl as ldl
use Rattle.part_factors.specs.declared.factoring.FactorKind.TheVariants.{Lu, Ldl}
use Rattle.part_factors.specs.ColumnFactors.{AreRowsFound, IsStoppedAt}

-- all columns are found
pub IsLu-found : (m n : ℕ) (old new : Table) → AreRowsFound m n Lu n 0 n old new → IsLu m n old (view UnitLower new) (view Upper new)
IsLu-found m n old new found = record {
  lower = IsUnitLower-view n new;
  upper = IsUpper-view n new;
  equation = λ i j row col. Cong-trans (Cong-from_same (lu.product-views n new i j row col)) (found.found i j row (omega arith) col (λ none. none));
}

pub IsLdl-found : (m n : ℕ) (old new : Table) → AreRowsFound m n Ldl n 0 n old new → IsLdl m n old (view UnitLower new) (view Diagonal new)
IsLdl-found m n old new found = record {
  lower = IsUnitLower-view n new;
  diagonal = IsDiagonal-view n new;
  equation = λ i j low row. Cong-trans (Cong-from_same (ldl.product-views n new i j low row)) (found.found i j row (omega arith) (omega arith) (λ over. omega arith));
}

-- the first bad pivot is met
pub IsLuBadPivot-found : (m n k : ℕ) (old new : Table) → IsStoppedAt m n Lu 0 k old new → IsLuBadPivot m n old k
IsLuBadPivot-found m n k old new stopped = record {
  within = stopped.within;
  l = view UnitLower new;
  u = view Upper new;
  factors = record {
    lower = IsUnitLower-view (k + 1) new;
    upper = IsUpper-view (k + 1) new;
    equation = λ i j row col. Cong-trans (Cong-from_same (lu.product-views (k + 1) new i j row col)) (stopped.found i j (omega arith) (omega arith) (omega arith) (λ none. none));
  };
  units = λ i below. IsUnit-Cong m (new i i) (view Upper new i i) (Cong-from_same (sym (view-upper_above new i i (omega arith)))) (stopped.units i (omega arith) below);
  bad = λ unit. stopped.bad (IsUnit-Cong m (view Upper new k k) (new k k) (Cong-from_same (view-upper_above new k k (omega arith))) unit);
}

pub IsLdlBadPivot-found : (m n k : ℕ) (old new : Table) → IsStoppedAt m n Ldl 0 k old new → IsLdlBadPivot m n old k
IsLdlBadPivot-found m n k old new stopped = record {
  within = stopped.within;
  l = view UnitLower new;
  d = view Diagonal new;
  factors = record {
    lower = IsUnitLower-view (k + 1) new;
    diagonal = IsDiagonal-view (k + 1) new;
    equation = λ i j low row. Cong-trans (Cong-from_same (ldl.product-views (k + 1) new i j low row)) (stopped.found i j (omega arith) (omega arith) (omega arith) (λ over. omega arith));
  };
  units = λ i below. IsUnit-Cong m (new i i) (view Diagonal new i i) (Cong-from_same (sym (view-diagonal_here new i i refl))) (stopped.units i (omega arith) below);
  bad = λ unit. stopped.bad (IsUnit-Cong m (view Diagonal new k k) (new k k) (Cong-from_same (view-diagonal_here new k k refl)) unit);
}
