use Rattle.std.proofs.Common.{◌≡◌, ◌++◌, drop}
use Rattle.variant_report.specs.FamilyTexts.{variant_lines}
use Rattle.variant_report.proofs.families.put_variants.Given as goal

abbrev pub invariant-loop-variant : goal.invariant-loop-variant
invariant-loop-variant l = l.out.items ++ variant_lines l.op (drop l.variant-index l.variants) ≡ l.fn.out.items ++ variant_lines l.op l.variants
