use Rattle.std.proofs.Common.{◌++◌, refl, sym, ap, ◌∙◌}
use Rattle.std.proofs.lemmas.Result.{IfOk-weaker}
use Rattle.job_blocks.specs.BlockedJobs.{BlockedJob}
use Rattle.job_blocks.specs.Tables.{matrix_blocks, zero_lists}
use Rattle.job_blocks.proofs.NumberedBlocks.{first_blocks-listed}
use Rattle.block_store.specs.Seats.{key_of}
use Rattle.dispatcher.proofs.ShapeLists.{are-sizes}
use Rattle.dispatcher.proofs.buffers.block_sizes.Goals as goal

pub returns : goal.returns
returns c =
    let x = c.in_ok-blocks.blocks in
    IfOk-weaker c.sizes_of.result _ _
    (λ sizes e. are-sizes (key_of c.args.board.now) x (matrix_blocks x.b x.job.matrices ++ zero_lists x.job) sizes.items (first_blocks-listed x _ refl) e
    (c.requires.board.job_is ∙ sym (ap (λ (y : BlockedJob). y.job) c.in_ok-blocks.ensures)) (c.requires.board.size ∙ sym (ap (λ (y : BlockedJob). y.b) c.in_ok-blocks.ensures)))
    c.sizes_of.ensures
