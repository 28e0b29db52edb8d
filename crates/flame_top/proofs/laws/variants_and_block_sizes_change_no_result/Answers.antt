use Rattle.flame_top.proofs.RunLaws.{same_by_all_words}
use Rattle.flame_top.proofs.laws.variants_and_block_sizes_change_no_result.Goals as goal

pub returns : goal.returns
returns c = same_by_all_words
