use Rattle.std.proofs.Common.{◌≡◌, ℕ, ◌*◌, ◌/◌, ◌%◌, ◌<◌, List, ◌++◌, map, refl, sym, subst, ap, ap₂, ◌∙◌, arith}
use Rattle.std.specs.List.{range_with_len}
use Rattle.std.proofs.lemmas.Simd.{map-map}
use Rattle.residue_sums.specs.Sums.{part_count}
use Rattle.residue_sums.specs.Grids.{Grid}
use Rattle.flash_blocks.specs.Blocks.{block_of}
use Rattle.flash_blocks.proofs.Places.{parts_counted}
use Rattle.dispatcher.specs.declared.shared_run.Size.{Size}
use Rattle.dispatcher.specs.BufferSizes.{size_of}
use Rattle.dispatcher.proofs.ShapeLists.{shape-pushed}
use Rattle.dispatcher.proofs.sizes.push_blocks.Goals as goal

abbrev nth_block : ℕ → Grid → ℕ → Grid
nth_block b g k = block_of b g (k / part_count g.cols b) (k % part_count g.cols b)

pub block_size-requires-clause-there : goal.block_size-requires-clause-there
block_size-requires-clause-there c =
    let m = c.args.matrix.now in
    let count : c.from.result * c.from-2.result ≡ part_count m.rows c.args.b * part_count m.cols c.args.b
    = ap₂ (λ (x y : ℕ). x * y) (c.from.ensures ∙ parts_counted _ _ _ _ _ c.requires c.rows.ensures.rows refl c.div_ceil-down.ensures)
    (c.from-2.ensures ∙ parts_counted _ _ _ _ _ c.requires c.cols.ensures.cols refl c.div_ceil-across.ensures) in
    subst (λ (n : ℕ). c.loop-k.k < n) count c.loop-k-test.true

pub loop-k-preserved : goal.loop-k-preserved
loop-k-preserved c =
    shape-pushed (λ (k : ℕ). size_of (nth_block c.args.b c.args.matrix.now k)) c.loop-k.k c.args.sizes.now.items c.loop-k.sizes.items _ c.block_size.result c.in_ok-push.ensures.items
    c.loop-k.invariant c.block_size.ensures

pub returns : goal.returns
returns c =
    let m = c.args.matrix.now in
    let count : c.from.result * c.from-2.result ≡ part_count m.rows c.args.b * part_count m.cols c.args.b
    = ap₂ (λ (x y : ℕ). x * y) (c.from.ensures ∙ parts_counted _ _ _ _ _ c.requires c.rows.ensures.rows refl c.div_ceil-down.ensures)
    (c.from-2.ensures ∙ parts_counted _ _ _ _ _ c.requires c.cols.ensures.cols refl c.div_ceil-across.ensures) in
    let all : c.loop-k.k ≡ c.from.result * c.from-2.result = omega arith in
    c.loop-k.invariant
    ∙ ap (λ (ys : List Size). c.args.sizes.now.items ++ ys) (ap (λ (n : ℕ). map (λ (k : ℕ). size_of (nth_block c.args.b m k)) (range_with_len 0 n)) (all ∙ count)
    ∙ sym (map-map size_of (nth_block c.args.b m) (range_with_len 0 (part_count m.rows c.args.b * part_count m.cols c.args.b))))
