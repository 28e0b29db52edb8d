-- What a block of a view has. Cited by tasks and kernels, which read a view block by block.
use Rattle.std.proofs.Common.{◌≡◌, ◌≢◌, ℕ, zero, suc, ◌/◌, ◌<◌, ◌≤◌, inl, inr, ap, arith}
use Rattle.std.proofs.Math.Nat.{div-zero, div-mul-le_self}
use Rattle.std.proofs.lemmas.Nat.{le-div}
use Rattle.std.proofs.lemmas.Bool.{cases_lt}
use Rattle.std.proofs.lemmas.Bool.Decides.{nat_tests}
use Rattle.residue_sums.specs.Tables.{Table, oriented}
use Rattle.structure_rules.specs.declared.Structure.{Structure}
use Rattle.structure_rules.specs.declared.Structure.TheVariants.{General, Lower, UnitLower, Upper, UnitUpper, Diagonal, Symmetric}
use Rattle.structure_rules.specs.Structures.{view, IsZero, IsInside, stored_of}
use Rattle.structure_rules.proofs.Views.{view-zero}

-- indices of an earlier block are less
block-lt : (b r c : ℕ) → r / b < c / b → r < c
block-lt zero r c h = omega (arith, div-zero r, div-zero c)
block-lt (suc b) r c h = elim (cases_lt r c) [
  | inl l ↦ l
  | inr l ↦ (let k : c / suc b ≤ r / suc b = le-div (c / suc b) r (suc b) (omega arith) (omega (arith, div-mul-le_self c (suc b))) in absurd (omega arith))
]

-- the places of a zero block are zero places
pub IsZero-block : (s : Structure) (b r c : ℕ) → IsZero s (r / b) (c / b) → IsZero s r c
IsZero-block General b r c h = h
IsZero-block Lower b r c h = block-lt b r c h
IsZero-block UnitLower b r c h = block-lt b r c h
IsZero-block Upper b r c h = block-lt b c r h
IsZero-block UnitUpper b r c h = block-lt b c r h
IsZero-block Diagonal b r c h = λ e. h (ap (λ (x : ℕ). x / b) e)
IsZero-block Symmetric b r c h = h

-- a zero block of a view holds zeros alone, whatever is stored
pub view-zero_block : (s : Structure) (a : Table) (b r c : ℕ) → IsZero s (r / b) (c / b) → view s a r c ≡ 0
view-zero_block s a b r c h = view-zero s a r c (IsZero-block s b r c h)

-- a place of an inside block off the diagonal
view-apart : (s : Structure) (a : Table) (i j r c : ℕ) → (i < j → r < c) → (j < i → c < r) → IsInside s i j → i ≢ j
    → view s a r c ≡ oriented (stored_of s i j).transposed a r c
view-apart s a i j r c above below h k = grind (arith, nat_tests)

-- a block off the diagonal that is no zero block is the block at the stored place, or its transpose
pub view-other_block : (s : Structure) (a : Table) (b r c : ℕ) → IsInside s (r / b) (c / b) → r / b ≢ c / b
    → view s a r c ≡ oriented (stored_of s (r / b) (c / b)).transposed a r c
view-other_block s a b r c h k = view-apart s a (r / b) (c / b) r c (block-lt b r c) (block-lt b c r) h k
