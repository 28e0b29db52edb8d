use Rattle.std.proofs.Common.{◌≤◌, ◌+◌, ◌*◌, refl, subst, sym}
use Rattle.residue_sums.specs.Grids.{Grid}
use Rattle.matrix_parts.specs.Rects.{IsBlockOf, rect}
use Rattle.block_kernels.specs.LaidBlocks.{laid_grid}
use Rattle.block_kernels.proofs.ReadBlocks.{within_list, block_of_list}
use Rattle.block_kernels.proofs.block_task.BlockTask.list_part.Goals as goal

pub of-requires : goal.of-requires
of-requires c =
    let list = c.laid-list in
    within_list (laid_grid list.result) list.result.entries.now c.args.row c.args.col c.args.rows c.args.cols list.ensures.full refl
    (subst (λ (g : Grid). c.args.row + c.args.rows ≤ g.rows) (sym list.ensures.grid) c.requires.list.rows_in)
    (subst (λ (g : Grid). c.args.col + c.args.cols ≤ g.cols) (sym list.ensures.grid) c.requires.list.cols_in)

pub returns : goal.returns
returns c =
    let list = c.laid-list in
    rw c.of.ensures (subst (λ (g : Grid). IsBlockOf g c.args.row c.args.col c.args.rows c.args.cols
    (rect list.result.entries.now (c.args.row * list.result.cols + c.args.col) list.result.cols c.args.rows c.args.cols)) list.ensures.grid
    (block_of_list (laid_grid list.result) list.result.entries.now c.args.row c.args.col c.args.rows c.args.cols list.ensures.full refl
    (subst (λ (g : Grid). c.args.row + c.args.rows ≤ g.rows) (sym list.ensures.grid) c.requires.list.rows_in)
    (subst (λ (g : Grid). c.args.col + c.args.cols ≤ g.cols) (sym list.ensures.grid) c.requires.list.cols_in)))
