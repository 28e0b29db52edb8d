use Rattle.job_blocks.proofs.AccessLaws.{list-behind, list-within, same-list}
use Rattle.job_blocks.proofs.laws.lists_have_one_statement.Goals as goal

pub returns-clause-behind : goal.returns-clause-behind
returns-clause-behind c x s = list-behind x s

pub returns-clause-within : goal.returns-clause-within
returns-clause-within c x s is pivots = list-within x s is pivots

pub returns-clause-one : goal.returns-clause-one
returns-clause-one c x s t s_is t_is s_has t_has e = same-list x s t s_is t_is s_has t_has e
