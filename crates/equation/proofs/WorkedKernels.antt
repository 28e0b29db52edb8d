-- What each kernel leaves, on two rows and columns modulo 7 that were worked by hand; and a block that it doesn't leave.
use Rattle.std.proofs.Common.{◌≡◌, ℕ, zero, suc, ◌<◌, [], ◌∷◌, true, refl, arith}
use Rattle.std.proofs.lemmas.List.Elements.{All-cons, All-nil}
use Rattle.residue_sums.specs.Tables.{Table, transpose}
use Rattle.residue_sums.specs.Grids.{Grid, AreResidues, entry}
use Rattle.structure_rules.specs.declared.Structure.{Structure}
use Rattle.structure_rules.specs.declared.Structure.TheVariants.{General, Lower, Upper}
use Rattle.structure_rules.specs.Structures.{IsInside, IsZero, view}
use Rattle.equation.specs.Kernels.{IsValue, IsUpdated, IsUpdatedLdl, IsSolvedLeft, IsSolvedRight, IsSolvedRightLdl, IsSolvedSylvester, IsFactoredLu, IsFactoredLdl, AreInverses, AreInversesOfPairs}

abbrev block : ℕ → ℕ → ℕ → ℕ → Grid
block a b c d = record { rows = 2; cols = 2; entries = a ∷ b ∷ c ∷ d ∷ [] }

-- what holds at the four places of a block holds at each
at_each : (P : ℕ → ℕ → Type 0) → P 0 0 → P 0 1 → P 1 0 → P 1 1 → (i j : ℕ) → i < 2 → j < 2 → P i j
at_each P a b c d zero zero row col = a
at_each P a b c d zero (suc zero) row col = b
at_each P a b c d (suc zero) zero row col = c
at_each P a b c d (suc zero) (suc zero) row col = d
at_each P a b c d zero (suc (suc j)) row col = absurd (omega arith)
at_each P a b c d (suc zero) (suc (suc j)) row col = absurd (omega arith)
at_each P a b c d (suc (suc i)) j row col = absurd (omega arith)

residues : (a b c d : ℕ) → a < 7 → b < 7 → c < 7 → d < 7 → AreResidues 7 (block a b c d)
residues a b c d a_is b_is c_is d_is =
    All-cons (λ x. x < 7) a (b ∷ c ∷ d ∷ []) a_is (All-cons (λ x. x < 7) b (c ∷ d ∷ []) b_is (All-cons (λ x. x < 7) c (d ∷ []) c_is (All-cons (λ x. x < 7) d [] d_is (All-nil (λ x. x < 7)))))

less : (x y : ℕ) → x < y → x ≡ y → ⊥
less x y h e = omega arith

more : (x y : ℕ) → y < x → x ≡ y → ⊥
more x y h e = omega arith

-- the block before
abbrev old : Grid
old = block 3 1 2 5

-- a value, place by place
pub record IsRight (s : Structure) (left : Table → Table) (right : Table) (new : Grid) (i j : ℕ) : Type 0 where
  pub equation : IsInside s i j → left (entry new) i j ≡ right i j
  pub others : IsZero s i j → entry new i j ≡ entry old i j

by_place : (s : Structure) (left : Table → Table) (right : Table) (a b c d : ℕ) → AreResidues 7 (block a b c d) → IsRight s left right (block a b c d) 0 0
    → IsRight s left right (block a b c d) 0 1 → IsRight s left right (block a b c d) 1 0 → IsRight s left right (block a b c d) 1 1 → IsValue 7 s left right old (block a b c d)
by_place s left right a b c d below p q r t = record {
  rows = refl;
  cols = refl;
  full = refl;
  residues = below;
  equation = λ i j row col. (at_each (IsRight s left right (block a b c d)) p q r t i j row col).equation;
  others = λ i j row col. (at_each (IsRight s left right (block a b c d)) p q r t i j row col).others;
}

-- where no place is outside
general : (left : Table → Table) (right : Table) (a b c d : ℕ) → a < 7 → b < 7 → c < 7 → d < 7
    → left (entry (block a b c d)) 0 0 ≡ right 0 0 → left (entry (block a b c d)) 0 1 ≡ right 0 1 → left (entry (block a b c d)) 1 0 ≡ right 1 0
    → left (entry (block a b c d)) 1 1 ≡ right 1 1 → IsValue 7 General left right old (block a b c d)
general left right a b c d a_is b_is c_is d_is p q r t = by_place General left right a b c d (residues a b c d a_is b_is c_is d_is)
    (record { equation = λ inside. p; others = λ none. absurd none }) (record { equation = λ inside. q; others = λ none. absurd none })
    (record { equation = λ inside. r; others = λ none. absurd none }) (record { equation = λ inside. t; others = λ none. absurd none })

-- ---- updates: A * B subtracted, and A * D * A'

abbrev a : Table
a = entry (block 1 2 3 4)

abbrev b : Table
b = entry (block 5 6 1 2)

updated : IsUpdated 7 true General 2 a b old (block 3 5 4 0)
updated = general _ _ 3 5 4 0 (omega arith) (omega arith) (omega arith) (omega arith) refl refl refl refl

-- it isn't added
updated_refused : ¬ (IsUpdated 7 true General 2 a b old (block 3 4 0 3))
updated_refused is = less 4 5 (omega arith) (is.equation 0 1 (omega arith) (omega arith) (λ outside. outside))

-- on the lower part alone
updated_lower : IsUpdated 7 true Lower 2 a b old (block 3 1 4 0)
updated_lower = by_place Lower _ _ 3 1 4 0 (residues 3 1 4 0 (omega arith) (omega arith) (omega arith) (omega arith))
    (record { equation = λ inside. refl; others = λ none. refl }) (record { equation = λ inside. absurd (inside (omega arith)); others = λ none. refl })
    (record { equation = λ inside. refl; others = λ none. absurd (omega arith) }) (record { equation = λ inside. refl; others = λ none. absurd (omega arith) })

-- the whole block isn't written where the structure is lower
updated_lower_refused : ¬ (IsUpdated 7 true Lower 2 a b old (block 3 5 4 0))
updated_lower_refused is = more 5 1 (omega arith) (is.others 0 1 (omega arith) (omega arith) (omega arith))

updated_ldl : IsUpdatedLdl 7 General 2 a (entry (block 2 0 0 3)) (transpose a) old (block 3 6 0 2)
updated_ldl = general _ _ 3 6 0 2 (omega arith) (omega arith) (omega arith) (omega arith) refl refl refl refl

updated_ldl_refused : ¬ (IsUpdatedLdl 7 General 2 a (entry (block 2 0 0 3)) (transpose a) old (block 3 6 1 2))
updated_ldl_refused is = more 1 0 (omega arith) (is.equation 1 0 (omega arith) (omega arith) (λ outside. outside))

-- ---- solves: T is lower, U is upper, and the numbers on their other sides aren't read

abbrev t : Table
t = view Lower (entry (block 2 5 1 3))

abbrev u : Table
u = view Upper (entry (block 3 5 6 2))

solved_left : IsSolvedLeft 7 General t old (block 5 4 6 5)
solved_left = general _ _ 5 4 6 5 (omega arith) (omega arith) (omega arith) (omega arith) refl refl refl refl

solved_left_refused : ¬ (IsSolvedLeft 7 General t old (block 5 4 6 4))
solved_left_refused is = less 2 5 (omega arith) (is.equation 1 1 (omega arith) (omega arith) (λ outside. outside))

solved_right : IsSolvedRight 7 General u old (block 1 5 3 2)
solved_right = general _ _ 1 5 3 2 (omega arith) (omega arith) (omega arith) (omega arith) refl refl refl refl

solved_right_refused : ¬ (IsSolvedRight 7 General u old (block 1 4 3 2))
solved_right_refused is = more 6 1 (omega arith) (is.equation 0 1 (omega arith) (omega arith) (λ outside. outside))

-- L has 4 below its diagonal, and D has 2 and 3; the 6 isn't read
solved_right_ldl : IsSolvedRightLdl 7 (entry (block 2 6 4 3)) old (block 5 1 1 6)
solved_right_ldl = general _ _ 5 1 1 6 (omega arith) (omega arith) (omega arith) (omega arith) refl refl refl refl

solved_right_ldl_refused : ¬ (IsSolvedRightLdl 7 (entry (block 2 6 4 3)) old (block 5 1 2 6))
solved_right_ldl_refused is = more 4 2 (omega arith) (is.equation 1 0 (omega arith) (omega arith) (λ outside. outside))

abbrev other_u : Table
other_u = view Upper (entry (block 5 5 1 6))

solved_sylvester : IsSolvedSylvester 7 true t other_u old (block 6 1 2 0)
solved_sylvester = general _ _ 6 1 2 0 (omega arith) (omega arith) (omega arith) (omega arith) refl refl refl refl

solved_sylvester_refused : ¬ (IsSolvedSylvester 7 true t other_u old (block 6 1 2 1))
solved_sylvester_refused is = less 2 5 (omega arith) (is.equation 1 1 (omega arith) (omega arith) (λ outside. outside))

-- ---- factors

factored_lu : IsFactoredLu 7 old (block 3 1 3 2)
factored_lu = general _ _ 3 1 3 2 (omega arith) (omega arith) (omega arith) (omega arith) refl refl refl refl

factored_lu_refused : ¬ (IsFactoredLu 7 old (block 3 1 3 5))
factored_lu_refused is = less 1 5 (omega arith) (is.equation 1 1 (omega arith) (omega arith) (λ outside. outside))

-- the 1 above the diagonal stays
factored_ldl : IsFactoredLdl 7 old (block 3 1 3 6)
factored_ldl = by_place Lower _ _ 3 1 3 6 (residues 3 1 3 6 (omega arith) (omega arith) (omega arith) (omega arith))
    (record { equation = λ inside. refl; others = λ none. refl }) (record { equation = λ inside. absurd (inside (omega arith)); others = λ none. refl })
    (record { equation = λ inside. refl; others = λ none. absurd (omega arith) }) (record { equation = λ inside. refl; others = λ none. absurd (omega arith) })

factored_ldl_refused : ¬ (IsFactoredLdl 7 old (block 3 3 3 6))
factored_ldl_refused is = more 3 1 (omega arith) (is.others 0 1 (omega arith) (omega arith) (omega arith))

-- ---- inverses: of 2 and 3 in each row; of 2 - 5, 2 - 6, 3 - 5 and 3 - 6

inverses : AreInverses 7 t old (block 4 5 4 5)
inverses = general _ _ 4 5 4 5 (omega arith) (omega arith) (omega arith) (omega arith) refl refl refl refl

inverses_refused : ¬ (AreInverses 7 t old (block 4 5 5 5))
inverses_refused is = more 3 1 (omega arith) (is.equation 1 0 (omega arith) (omega arith) (λ outside. outside))

inverses_of_pairs : AreInversesOfPairs 7 true t other_u old (block 2 5 3 2)
inverses_of_pairs = general _ _ 2 5 3 2 (omega arith) (omega arith) (omega arith) (omega arith) refl refl refl refl

inverses_of_pairs_refused : ¬ (AreInversesOfPairs 7 true t other_u old (block 2 3 5 2))
inverses_of_pairs_refused is = more 2 1 (omega arith) (is.equation 0 1 (omega arith) (omega arith) (λ outside. outside))
