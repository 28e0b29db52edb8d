use Rattle.std.proofs.Common.{◌≡◌, ℕ, ◌/◌, ◌%◌, refl, ap, ap₂, ◌∙◌}
use Rattle.residue_sums.specs.Sums.{part_count, part_length}
use Rattle.flash_blocks.proofs.Places.{part_begins_within, parts_counted}
use Rattle.dispatcher.specs.declared.shared_run.Size.{Size}
use Rattle.dispatcher.proofs.ShapeLists.{in-rows}
use Rattle.dispatcher.proofs.sizes.block_size.Goals as goal

abbrev shaped : ℕ → ℕ → Size
shaped r s = record { rows = r; cols = s }

pub part_length-requires : goal.part_length-requires
part_length-requires c =
    let m = c.args.matrix.now in
    let q : ℕ = part_count m.cols c.args.b in
    let across : c.from-across.result ≡ q = c.from-across.ensures ∙ parts_counted _ _ _ _ _ c.requires.size c.cols.ensures.cols refl c.div_ceil.ensures in
    rw (across, c.rows.ensures.rows) (part_begins_within m.rows c.args.b (c.args.k / q) (in-rows c.args.k (part_count m.rows c.args.b) q c.requires.there).1)

pub nonzero_rem-k : goal.nonzero_rem-k
nonzero_rem-k c =
    let m = c.args.matrix.now in
    let q : ℕ = part_count m.cols c.args.b in
    let across : c.from-across.result ≡ q = c.from-across.ensures ∙ parts_counted _ _ _ _ _ c.requires.size c.cols.ensures.cols refl c.div_ceil.ensures in
    rw across (in-rows c.args.k (part_count m.rows c.args.b) q c.requires.there).0

pub part_length-requires-2 : goal.part_length-requires-2
part_length-requires-2 c =
    let m = c.args.matrix.now in
    let q : ℕ = part_count m.cols c.args.b in
    let across : c.from-across.result ≡ q = c.from-across.ensures ∙ parts_counted _ _ _ _ _ c.requires.size c.cols.ensures.cols refl c.div_ceil.ensures in
    rw (across, c.cols-2.ensures.cols) (part_begins_within m.cols c.args.b (c.args.k % q) (in-rows c.args.k (part_count m.rows c.args.b) q c.requires.there).2)

pub returns : goal.returns
returns c =
    let m = c.args.matrix.now in
    let q : ℕ = part_count m.cols c.args.b in
    let across : c.from-across.result ≡ q = c.from-across.ensures ∙ parts_counted _ _ _ _ _ c.requires.size c.cols.ensures.cols refl c.div_ceil.ensures in
    ap₂ (λ (r s : ℕ). shaped r s) (c.part_length.ensures ∙ ap₂ (λ (n i : ℕ). part_length n c.args.b i) c.rows.ensures.rows (ap (λ (x : ℕ). c.args.k / x) across))
    (c.part_length-2.ensures ∙ ap₂ (λ (n i : ℕ). part_length n c.args.b i) c.cols-2.ensures.cols (ap (λ (x : ℕ). c.args.k % x) across))
