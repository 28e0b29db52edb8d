-- Lines of a part that were solved, one piece after another.
use Rattle.std.proofs.Common.{◌≡◌, Bool, true, false, ℕ, ◌+◌, ◌-◌, ◌*◌, ◌<◌, ◌≤◌, ◌⊎◌, inl, inr, refl, sym, ap, ◌∙◌, arith}
use Rattle.std.proofs.lemmas.Bool.{cases_lt}
use Rattle.residue_sums.specs.Residues.{Cong}
use Rattle.residue_sums.specs.Sums.{sum_below}
use Rattle.residue_sums.specs.Tables.{Table, oriented}
use Rattle.residue_sums.specs.Grids.{Grid, entry}
use Rattle.residue_sums.proofs.Congruence.{Cong-trans, Cong-from_same}
use Rattle.residue_sums.proofs.Sums.{sum_below-same}
use Rattle.structure_rules.specs.declared.Structure.{Structure}
use Rattle.structure_rules.specs.Structures.{view, IsInside, IsWorkStructure}
use Rattle.structure_rules.proofs.Views.{IsZero-or_inside, view-zero, view-work}
use Rattle.matrix_parts.specs.declared.part_mut.PartMut.{PartMut}
use Rattle.matrix_parts.specs.Lent.{grid_of, IsKept}
use Rattle.matrix_parts.specs.Opers.{op_rows, op_table}
use Rattle.part_solves.specs.declared.line_systems.LineSystem.{LineSystem}
use Rattle.part_solves.specs.LineSystems.{IsInLine, IsSolvedTo, AreLinesSolved, line_table, line_count, line_size}
use Rattle.part_solves.proofs.LineSteps.{IsInLine-or_not}

-- a part that was written has as many lines, of the same size
pub line_count-kept : (turned : Bool) (p q : PartMut) → IsKept p q → line_count turned (grid_of q) ≡ line_count turned (grid_of p)
line_count-kept true p q kept = kept.cols
line_count-kept false p q kept = kept.rows

pub line_size-kept : (turned : Bool) (p q : PartMut) → IsKept p q → line_size turned (grid_of q) ≡ line_size turned (grid_of p)
line_size-kept true p q kept = kept.rows
line_size-kept false p q kept = kept.cols

-- what is told of the numbers counted from one on holds of these numbers
pub by_shift : (P : ℕ → Type 0) (from width : ℕ) → ((j : ℕ) → j < width → P (from + j)) → (j : ℕ) → from ≤ j → j < from + width → P j
by_shift P from width each j start end = let place : from + (j - from) ≡ j = omega arith in rw place at (each (j - from) (omega arith))

view-outside : (s : Structure) (x : Table) (i j : ℕ) → ¬ (IsInside s i j) → view s x i j ≡ 0
view-outside s x i j out = elim (IsZero-or_inside s i j) [ inl h ↦ view-zero s x i j h | inr inner ↦ absurd (out inner) ]

-- a line reads the entries inside, and 0 elsewhere
pub line_table-inside : (turned : Bool) (s : Structure) (x : Table) (g i : ℕ) → IsWorkStructure s → IsInLine turned s g i → line_table turned s x g i ≡ oriented turned x g i
line_table-inside true s x g i work inner = view-work s x i g work inner
line_table-inside false s x g i work inner = view-work s x g i work inner

pub line_table-outside : (turned : Bool) (s : Structure) (x : Table) (g i : ℕ) → ¬ (IsInLine turned s g i) → line_table turned s x g i ≡ 0
line_table-outside true s x g i out = view-outside s x i g out
line_table-outside false s x g i out = view-outside s x g i out

-- lines of two blocks that agree on the entries inside
pub line_table-agree : (turned : Bool) (s : Structure) (x y : Table) (g i : ℕ) → IsWorkStructure s → oriented turned x g i ≡ oriented turned y g i → line_table turned s x g i ≡ line_table turned s y g i
line_table-agree turned s x y g i work same = elim (IsInLine-or_not turned s g i) [
  | inl inner ↦ line_table-inside turned s x g i work inner ∙ same ∙ sym (line_table-inside turned s y g i work inner)
  | inr out ↦ line_table-outside turned s x g i out ∙ sym (line_table-outside turned s y g i out)
]

-- a line that was copied, solved and written back
pub line_done : (m n : ℕ) (turned : Bool) (s : Structure) (t : Table) (order : ℕ → ℕ) (old new : Table) (g : ℕ) (before now : ℕ → ℕ) → IsWorkStructure s
    → ((i : ℕ) → i < n → order i < n) → ((k : ℕ) → k < n → before k ≡ line_table turned s old g k)
    → IsSolvedTo m n (IsInLine turned s g) t order before now n
    → ((k : ℕ) → k < n → IsInLine turned s g k → oriented turned new g k ≡ now k)
    → (i : ℕ) → i < n → IsInLine turned s g i → Cong m (sum_below (λ k. t i k * line_table turned s new g k) n) (oriented turned old g i)
line_done m n turned s t order old new g before now work placed copied solved written i below inner =
    Cong-trans (Cong-from_same (sum_below-same (λ k. t i k * line_table turned s new g k) (λ k. t i k * now k) n (λ k col. ap (λ (v : ℕ). t i k * v) (same k col))))
    (Cong-trans (solved.solved i below inner (placed i below)) (Cong-from_same (copied i below ∙ line_table-inside turned s old g i work inner)))
  where
    same : (k : ℕ) → k < n → line_table turned s new g k ≡ now k
    same k col = elim (IsInLine-or_not turned s g k) [
      | inl inside ↦ line_table-inside turned s new g k work inside ∙ written k col inside
      | inr out ↦ line_table-outside turned s new g k out ∙ sym (solved.pending k col (inl out) ∙ copied k col ∙ line_table-outside turned s old g k out)
    ]

module _ (system : LineSystem) (work : IsWorkStructure system.inside) where
  -- no line is solved
  pub AreLinesSolved-none : (g : Grid) → ((i j : ℕ) → i < g.rows → j < g.cols → entry g i j < system.reducer) → AreLinesSolved system 0 0 g g
  AreLinesSolved-none g residues = record {
    solved = λ h i from to. absurd (omega arith);
    others = λ h i line below place. refl;
    residues = residues;
  }

  -- further lines are
  pub AreLinesSolved-more : (at to : ℕ) (old mid new : Grid) → mid.rows ≡ old.rows → mid.cols ≡ old.cols → at ≤ to → to ≤ line_count system.turned old
      → AreLinesSolved system 0 at old mid → AreLinesSolved system at to mid new → AreLinesSolved system 0 to old new
  AreLinesSolved-more at to old mid new rows cols le within first second = record {
    solved = λ g i from end below inner. solved g i end below inner (cases_lt g at);
    others = others;
    residues = λ i j row col. second.residues i j (omega arith) (omega arith);
  }
    where
      turned : Bool
      turned = system.turned

      count_by : (b : Bool) → line_count b mid ≡ line_count b old
      count_by true = cols
      count_by false = rows

      solved : (g i : ℕ) → g < to → i < op_rows system.table → IsInLine system.turned system.inside g i → (g < at) ⊎ (at ≤ g)
          → Cong system.reducer (sum_below (λ k. op_table system.table i k * line_table system.turned system.inside (entry new) g k) (op_rows system.table)) (oriented system.turned (entry old) g i)
      solved g i end below inner (inl before) =
          Cong-trans (Cong-from_same (sum_below-same
          (λ k. op_table system.table i k * line_table system.turned system.inside (entry new) g k)
          (λ k. op_table system.table i k * line_table system.turned system.inside (entry mid) g k) (op_rows system.table)
          (λ k col. ap (λ (v : ℕ). op_table system.table i k * v) (line_table-agree system.turned system.inside (entry new) (entry mid) g k work
          (second.others g k (omega (arith, count_by system.turned)) col (inl before))))))
          (first.solved g i (omega arith) before below inner)
      solved g i end below inner (inr later) =
          Cong-trans (second.solved g i later end below inner) (Cong-from_same (first.others g i (omega arith) below (inr (inl later))))

      others : (g i : ℕ) → g < line_count system.turned old → i < op_rows system.table → (g < 0) ⊎ ((to ≤ g) ⊎ ¬ (IsInLine system.turned system.inside g i))
          → oriented system.turned (entry new) g i ≡ oriented system.turned (entry old) g i
      others g i line below (inl none) = absurd (omega arith)
      others g i line below (inr (inl past)) =
          second.others g i (omega (arith, count_by system.turned)) below (inr (inl past)) ∙ first.others g i line below (inr (inl (omega arith)))
      others g i line below (inr (inr out)) =
          second.others g i (omega (arith, count_by system.turned)) below (inr (inr out)) ∙ first.others g i line below (inr (inr out))
