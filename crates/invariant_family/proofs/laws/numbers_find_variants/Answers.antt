use Rattle.std.proofs.Common.{◌++◌}
use Rattle.invariant_family.specs.Splits.{single_splits, pair_splits}
use Rattle.invariant_family.proofs.NumberedFamilies.{numbers_find, variants_found}
use Rattle.invariant_family.proofs.laws.numbers_find_variants.Goals as goal

pub returns-clause-found : goal.returns-clause-found
returns-clause-found c op number low high = numbers_find op (single_splits op ++ pair_splits op) number low high

pub returns-clause-each : goal.returns-clause-each
returns-clause-each c op = variants_found op (single_splits op ++ pair_splits op)
