use Rattle.std.proofs.Common.{◌≡◌, ◌≢◌, ℕ, ◌+◌, ◌*◌, ◌%◌, ◌<◌, ◌⊎◌, inl, inr, slice_index, ◌∙◌, arith, below_more}
use Rattle.std.proofs.lemmas.Bool.{cases_eq}
use Rattle.residue_sums.specs.Residues.{Cong}
use Rattle.matrix_parts.specs.Opers.{op_rows}
use Rattle.part_solves.specs.LineSystems.{IsInLine, line_of}
use Rattle.part_solves.proofs.LineSteps.{other_place}
use Rattle.part_solves.proofs.panel_solves.put_unknowns.Goals as goal

pub put_unknown-requires-clause-right : goal.put_unknown-requires-clause-right
put_unknown-requires-clause-right c = rw c.size-n.ensures (c.loop-g.invariant.residues c.loop-g.g c.args.i (omega arith) c.requires.below)

pub loop-g-preserved : goal.loop-g-preserved
loop-g-preserved c =
    let so_far = c.loop-g.invariant in
    let n : ℕ = op_rows c.args.system.now.table in
    let m : ℕ = c.args.system.now.reducer in
    let i : ℕ = c.args.i in
    let new = c.put_unknown.new.panel in
    let is = c.is_inside-is_inside.ensures in
    let others : (p : ℕ) → p ≢ c.loop-g.g * n + i → slice_index new p ≡ slice_index c.loop-g.panel p = rw c.size-n.ensures at c.put_unknown.ensures.others in
    let other : (h k : ℕ) → k < n → (h ≢ c.loop-g.g) ⊎ (k ≢ i) → line_of new n h k ≡ line_of c.loop-g.panel n h k = other_place n i c.loop-g.g c.loop-g.panel new c.requires.below others in
    record {
      solves = below_more (λ g. IsInLine c.args.system.now.turned c.args.system.now.inside (c.args.first + g) i → (t : ℕ) → (t * c.args.inverse) % m ≡ 1
          → Cong m (slice_index c.args.sums.now g + t * line_of new n g i) (line_of c.args.panel.now n g i)) c.loop-g.g
          (λ g below inner t product. rw (other g i c.requires.below (inl (λ e. omega arith))) (so_far.solves g below inner t product))
          (λ inner t product. rw (← so_far.pending c.loop-g.g (omega arith)) ((rw c.size-n.ensures at c.put_unknown.ensures.solves) (is.1 inner) t product));
      skips = below_more (λ g. ¬ (IsInLine c.args.system.now.turned c.args.system.now.inside (c.args.first + g) i) → line_of new n g i ≡ line_of c.args.panel.now n g i) c.loop-g.g
          (λ g below out. other g i c.requires.below (inl (λ e. omega arith)) ∙ so_far.skips g below out)
          (λ out. (rw c.size-n.ensures at c.put_unknown.ensures.skips) (λ h. out (is.0 h)) ∙ so_far.pending c.loop-g.g (omega arith));
      pending = λ g later. other g i c.requires.below (inl (λ e. omega arith)) ∙ so_far.pending g (omega arith);
      others = λ g k below apart. other g k below (inr apart) ∙ so_far.others g k below apart;
      residues = λ g k line below. elim (cases_eq g c.loop-g.g) [
        | inl same ↦ elim (cases_eq k i) [
          | inl here ↦ rw (same, here) (rw c.size-n.ensures at c.put_unknown.ensures.range)
          | inr apart ↦ rw (other g k below (inr apart)) (so_far.residues g k line below)
        ]
        | inr apart ↦ rw (other g k below (inl apart)) (so_far.residues g k line below)
      ];
    }
