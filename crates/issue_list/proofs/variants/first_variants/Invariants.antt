use Rattle.std.proofs.Common.{◌≡◌, length}
use Rattle.issue_list.specs.Choices.{numbers_of}
use Rattle.issue_list.specs.ChosenVariants.{HaveFound}
use Rattle.issue_list.proofs.variants.first_variants.Given as goal

abbrev pub invariant-loop-before : goal.invariant-loop-before
invariant-loop-before l = record {
  all : length l.variants.items ≡ l.before;
  found : HaveFound l.blocks.job (numbers_of l.blocks.job l.choice) l.variants.items;
}
