-- The blocks of a work matrix that is cut in two have the values of their expressions exactly where the textbook's equations hold.
use Rattle.std.proofs.Common.{◌≡◌, ℕ, ◌%◌, ◌≤◌, inl, inr, List, [], refl, sym, ◌∙◌, ap, subst, arith}
use Rattle.std.specs.Prelude.{◌↔◌}
use Rattle.std.proofs.lemmas.Bool.{cases_lt}
use Rattle.residue_sums.specs.Residues.{Cong}
use Rattle.residue_sums.specs.Tables.{Table, product, times, transpose}
use Rattle.residue_sums.specs.Grids.{entry}
use Rattle.residue_sums.proofs.Congruence.{Cong-refl}
use Rattle.matrix_algebra.proofs.Products.{product-times_left}
use Rattle.structure_rules.specs.declared.Structure.TheVariants.{General, Lower}
use Rattle.structure_rules.specs.Structures.{IsInside}
use Rattle.operation_spec.specs.declared.operation.Form.TheVariants.{Lu, Ldl}
use Rattle.equation.specs.Equations.{left_side, right_side}
use Rattle.equation.proofs.ValidForms.{lu-general, ldl-lower}
use Rattle.block_values.specs.Values.{Setting}
use Rattle.block_values.specs.Settings.{IsSetting}
use Rattle.block_values.specs.PartitionedEquations.{HaveValues}
use Rattle.block_values.proofs.Fitting.{IsFitting, ldl_square}
use Rattle.textbook_laws.specs.Textbook.{IsLuInTwo, IsLdlInTwo, four_blocks, lower, upper, diagonal}
use Rattle.textbook_laws.specs.TwoParts.{IsInTwo}
use Rattle.textbook_laws.proofs.LuInTwo.{lu_whole, lu_in_two}
use Rattle.textbook_laws.proofs.LdlInTwo.{ldl_whole, ldl_in_two}
use Rattle.textbook_laws.proofs.WholeMatrices.{fits, size_is, blocks_hold, plain_right}

module _ (s : Setting) (counts : List ℕ) (n0 n1 : ℕ) (is : IsSetting s counts) where
  module _ (form : s.op.form ≡ Lu) (two : IsInTwo s counts n0 n1) where
    lu_is : s.op.work.structure ≡ General × s.op.work.rows ≡ s.op.work.cols
    lu_is = lu-general s.op is.valid form

    lu_left : (r c : ℕ) → left_side s.modulus s.op s.knowns s.solution r c ≡ lu_whole n0 n1 (entry s.solution) r c % s.modulus
    lu_left r c =
        let over_rows : left_side s.modulus s.op s.knowns s.solution r c ≡ product s.solution.rows (lower (entry s.solution)) (upper (entry s.solution)) r c % s.modulus = rw form refl in
        over_rows ∙ ap (λ (n : ℕ). product n (lower (entry s.solution)) (upper (entry s.solution)) r c % s.modulus) (size_is s counts n0 n1 is two lu_is.1)

    pub lu_equations : HaveValues s counts ↔ IsLuInTwo s.modulus n0 n1 (four_blocks n0 (right_side s.modulus s.op s.knowns s.work)) (four_blocks n0 (entry s.solution))
    lu_equations =
        let blocks = blocks_hold s counts n0 n1 is two lu_is.1 (lu_whole n0 n1 (entry s.solution)) (lu_whole n0 n1 (entry s.solution)) lu_left (λ r c. Cong-refl s.modulus _) in
        let whole = lu_in_two s.modulus n0 n1 (right_side s.modulus s.op s.knowns s.work) (entry s.solution) fitting.pos in (
          λ values. whole.0 (λ r c row col. blocks.0 values r c row col (inside r c)),
          λ equations. blocks.1 (λ r c row col within. whole.1 equations r c row col),
        )
      where
        inside : (r c : ℕ) → IsInside s.op.work.structure r c
        inside r c = subst (λ z. IsInside z r c) (sym lu_is.0) (λ h. h)

        fitting : IsFitting s is.lengths counts
        fitting = fits s counts n0 n1 is two lu_is.1

    pub lu_equations_plain : s.op.terms ≡ [] → HaveValues s counts ↔ IsLuInTwo s.modulus n0 n1 (four_blocks n0 (entry s.work)) (four_blocks n0 (entry s.solution))
    lu_equations_plain none = subst (λ w. HaveValues s counts ↔ IsLuInTwo s.modulus n0 n1 (four_blocks n0 w) (four_blocks n0 (entry s.solution))) (plain_right s none) lu_equations

  module _ (form : s.op.form ≡ Ldl) (two : IsInTwo s counts n0 n1) where
    ldl_lower : s.op.work.structure ≡ Lower
    ldl_lower = ldl-lower s.op is.valid form

    square : s.op.work.rows ≡ s.op.work.cols
    square = ldl_square s counts is form

    -- the left side, of which L * D is reduced
    abbrev reduced : Table
    reduced = product s.solution.rows (times s.modulus s.solution.rows (lower (entry s.solution)) (diagonal (entry s.solution))) (transpose (lower (entry s.solution)))

    ldl_left : (r c : ℕ) → left_side s.modulus s.op s.knowns s.solution r c ≡ reduced r c % s.modulus
    ldl_left r c = rw form refl

    reduced_is : (r c : ℕ) → Cong s.modulus (reduced r c) (ldl_whole n0 n1 (entry s.solution) r c)
    reduced_is r c = subst (λ n. Cong s.modulus (reduced r c) (product n (product n (lower (entry s.solution)) (diagonal (entry s.solution))) (transpose (lower (entry s.solution))) r c))
        (size_is s counts n0 n1 is two square)
        (product-times_left s.modulus s.solution.rows s.solution.rows (lower (entry s.solution)) (diagonal (entry s.solution)) (transpose (lower (entry s.solution))) r c)

    pub ldl_equations : HaveValues s counts ↔ IsLdlInTwo s.modulus n0 n1 (four_blocks n0 (right_side s.modulus s.op s.knowns s.work)) (four_blocks n0 (entry s.solution))
    ldl_equations =
        let blocks = blocks_hold s counts n0 n1 is two square reduced (ldl_whole n0 n1 (entry s.solution)) ldl_left reduced_is in
        let whole = ldl_in_two s.modulus n0 n1 (right_side s.modulus s.op s.knowns s.work) (entry s.solution) fitting.pos in (
          λ values. whole.0 (λ r c row col le. blocks.0 values r c row col (inside r c le)),
          λ equations. blocks.1 (λ r c row col within. whole.1 equations r c row col (le_from r c within)),
        )
      where
        inside : (r c : ℕ) → c ≤ r → IsInside s.op.work.structure r c
        inside r c le = subst (λ z. IsInside z r c) (sym ldl_lower) (λ h. absurd (omega arith))

        le_from : (r c : ℕ) → IsInside s.op.work.structure r c → c ≤ r
        le_from r c within = let not_less : IsInside Lower r c = subst (λ z. IsInside z r c) ldl_lower within in elim (cases_lt r c) [
          | inl less ↦ absurd (not_less less)
          | inr le ↦ le
        ]

        fitting : IsFitting s is.lengths counts
        fitting = fits s counts n0 n1 is two square

    pub ldl_equations_plain : s.op.terms ≡ [] → HaveValues s counts ↔ IsLdlInTwo s.modulus n0 n1 (four_blocks n0 (entry s.work)) (four_blocks n0 (entry s.solution))
    ldl_equations_plain none = subst (λ w. HaveValues s counts ↔ IsLdlInTwo s.modulus n0 n1 (four_blocks n0 w) (four_blocks n0 (entry s.solution))) (plain_right s none) ldl_equations
