use Rattle.std.proofs.Common.{◌≡◌, ℕ, ◌*◌, ap₂}
use Rattle.residue_sums.specs.Residues.{Cong}
use Rattle.residue_sums.specs.Grids.{entry}
use Rattle.residue_sums.proofs.Congruence.{Cong-trans, Cong-scale, Cong-from_mod, Cong-from_same, mod_from_Cong}
use Rattle.residue_sums.proofs.Sums.{mod_sum_step}
use Rattle.matrix_parts.specs.Lent.{grid_of}
use Rattle.part_factors.proofs.columns.ldl_terms.Goals as goal

pub loop-k-preserved : goal.loop-k-preserved
loop-k-preserved c =
    let same : c.get-in-loop-k-2.result * (c.get.result * c.get-in-loop-k.result)
    ≡ entry (grid_of c.args.w.now) c.args.i c.loop-k.k * (entry (grid_of c.args.w.now) c.loop-k.k c.loop-k.k * entry (grid_of c.args.w.now) c.args.j c.loop-k.k) =
    ap₂ (λ (a b : ℕ). a * b) c.get-in-loop-k-2.ensures (ap₂ (λ (a b : ℕ). a * b) c.get.ensures c.get-in-loop-k.ensures) in
    let term : Cong c.args.m c.mul.result (entry (grid_of c.args.w.now) c.args.i c.loop-k.k * (entry (grid_of c.args.w.now) c.loop-k.k c.loop-k.k * entry (grid_of c.args.w.now) c.args.j c.loop-k.k)) =
    Cong-trans (Cong-from_mod c.mul.ensures.value) (Cong-trans (Cong-scale c.get-in-loop-k-2.result (Cong-from_mod c.mul-scaled.ensures.value)) (Cong-from_same same)) in
    mod_sum_step c.args.m (λ k. entry (grid_of c.args.w.now) c.args.i k * (entry (grid_of c.args.w.now) k k * entry (grid_of c.args.w.now) c.args.j k)) c.loop-k.k
    c.loop-k.invariant (mod_from_Cong c.mul.ensures.range term) c.add-sum.ensures.value
