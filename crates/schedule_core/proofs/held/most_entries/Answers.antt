use Rattle.std.proofs.Common.{◌≤◌, ℕ, length, ap, take, subst, arith}
use Rattle.residue_sums.specs.Grids.{Grid}
use Rattle.std.proofs.lemmas.List.{take_all}
use Rattle.std.proofs.lemmas.List.Elements.{All-more, All-weaker}
use Rattle.schedule_core.proofs.held.most_entries.Goals.{then-count-most, else-count-most}
use Rattle.schedule_core.proofs.held.most_entries.Goals as goal

pub loop-block-preserved : goal.loop-block-preserved
loop-block-preserved c =
    let most : ℕ = c.if-count-most.most in
    let both : (length c.entries-count.result.now ≤ c.if-count-most.most) × (c.loop-block.most ≤ c.if-count-most.most)
    = elim c.if-count-most.branch [ then-count-most w ↦ (omega arith, omega arith) | else-count-most w ↦ (omega arith, omega arith) ] in
    let here : length c.block-item.result.entries ≤ c.if-count-most.most = omega (arith, both.0, ap length c.entries-count.ensures.entries) in
    All-more (λ (g : Grid). length g.entries ≤ most) c.args.blocks.now c.loop-block.block-index c.block-item.result (omega arith)
    (All-weaker (λ (g : Grid). length g.entries ≤ c.loop-block.most) (λ (g : Grid). length g.entries ≤ most) (λ g le. omega (arith, le, both.1))
    (take c.loop-block.block-index c.args.blocks.now) c.loop-block.invariant)
    (subst (λ (g : Grid). length g.entries ≤ most) c.block-item.is here)

pub returns : goal.returns
returns c = rw (take_all c.loop-block.block-index c.args.blocks.now (omega arith)) at c.loop-block.invariant
