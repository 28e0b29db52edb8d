use Rattle.expression_laws.proofs.StatementSettings.{is_setting, cut_by_size, cut_by_edge}
use Rattle.expression_laws.proofs.laws.statements_are_settings.Goals as goal

pub returns-clause-matrices : goal.returns-clause-matrices
returns-clause-matrices c = is_setting

pub returns-clause-by_size : goal.returns-clause-by_size
returns-clause-by_size c = cut_by_size

pub returns-clause-in_two : goal.returns-clause-in_two
returns-clause-in_two c = cut_by_edge
