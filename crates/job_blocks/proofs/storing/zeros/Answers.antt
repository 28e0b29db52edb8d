use Rattle.std.proofs.Common.{◌∙◌}
use Rattle.job_blocks.proofs.NumberedBlocks.{zeros-are}
use Rattle.job_blocks.proofs.storing.zeros.Goals as goal

pub returns : goal.returns
returns c = c.from_entries.ensures ∙ zeros-are c.args.rows c.args.cols c.in_ok-entries.entries.items (c.in_ok-entries.ensures.items_if_clones_equal (λ y e. e))
