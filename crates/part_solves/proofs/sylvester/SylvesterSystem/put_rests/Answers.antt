use Rattle.std.proofs.Common.{◌≡◌, ◌≢◌, ℕ, ◌+◌, ◌*◌, ◌<◌, ◌⊎◌, inl, inr, length, slice_index, slice_set, get_or-set_same, get_or-set_other, ◌∙◌, arith, below_more}
use Rattle.std.proofs.lemmas.Bool.{cases_eq}
use Rattle.std.proofs.lemmas.Nat.{mul-add-lt}
use Rattle.residue_sums.specs.Residues.{Cong}
use Rattle.matrix_parts.specs.Opers.{op_rows}
use Rattle.part_solves.specs.LineSystems.{line_of}
use Rattle.part_solves.specs.SylvesterSystems.{sign}
use Rattle.part_solves.proofs.LineSteps.{other_place}
use Rattle.part_solves.proofs.SylvesterSteps.{taken}
use Rattle.part_solves.proofs.sylvester.SylvesterSystem.put_rests.Goals as goal

pub loop-g-preserved : goal.loop-g-preserved
loop-g-preserved c =
    let so_far = c.loop-g.invariant in
    let m : ℕ = c.args.self.now.columns.reducer in
    let negative = c.args.self.now.negative in
    let n : ℕ = op_rows c.args.self.now.columns.table in
    let i : ℕ = c.args.i in
    let g : ℕ = c.loop-g.g in
    let at : ℕ = g * c.size-n.result + i in
    let value : ℕ = c.combined_residues.result in
    let new = slice_set c.loop-g.panel at value in
    let fits : g * n + i < length c.loop-g.panel = omega (arith, mul-add-lt g n i (length c.args.sums.now) c.loop-g-test.true c.requires.row_in, c.requires.room, c.loop-g.auto.panel) in
    let here : line_of new n g i ≡ value = rw c.size-n.ensures (get_or-set_same c.loop-g.panel (g * n + i) value 0 fits) in
    let other : (h k : ℕ) → k < n → (h ≢ g) ⊎ (k ≢ i) → line_of new n h k ≡ line_of c.loop-g.panel n h k =
    other_place n i g c.loop-g.panel new c.requires.row_in (λ p apart. get_or-set_other c.loop-g.panel at p value 0 (rw c.size-n.ensures apart)) in
    let rest : Cong m (value + sign m negative * slice_index c.args.sums.now g) (line_of c.loop-g.panel n g i) =
    rw c.size-n.ensures at (taken m negative (slice_index c.loop-g.panel at) (slice_index c.args.sums.now g) value c.modulus-m.ensures.range.at_least_two
    (rw c.modulus-m.ensures.value at c.combined_residues.ensures.value)) in
    record {
      here = below_more (λ h. Cong m (line_of new n h i + sign m negative * slice_index c.args.sums.now h) (line_of c.args.panel.now n h i)) g
          (λ h below. rw (other h i c.requires.row_in (inl (λ e. omega arith))) (so_far.here h below))
          (rw (here, ← so_far.pending g (omega arith)) rest);
      pending = λ h later. other h i c.requires.row_in (inl (λ e. omega arith)) ∙ so_far.pending h (omega arith);
      others = λ h k below apart. other h k below (inr apart) ∙ so_far.others h k below apart;
      residues = λ h k line below. elim (cases_eq h g) [
        | inl same ↦ elim (cases_eq k i) [
          | inl same' ↦ rw (same, same', here) (rw c.modulus-m.ensures.value at c.combined_residues.ensures.range)
          | inr apart ↦ rw (other h k below (inr apart)) (so_far.residues h k line below)
        ]
        | inr apart ↦ rw (other h k below (inl apart)) (so_far.residues h k line below)
      ];
    }
