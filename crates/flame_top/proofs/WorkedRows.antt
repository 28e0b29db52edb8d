-- The definitions, computed on small rows that were worked by hand.
use Rattle.std.proofs.Common.{◌≡◌, [], ◌∷◌, ◌++◌, take, drop, refl}
use Rattle.std.specs.Prelude.{codes}
use Rattle.std.specs.Fmt.{digits}
use Rattle.structure_rules.specs.declared.Structure.TheVariants.{General}
use Rattle.operation_spec.specs.declared.operation.Operation.{Operation}
use Rattle.operation_spec.specs.declared.operation.Form.TheVariants.{Assign}
use Rattle.operation_spec.proofs.WorkedOperations.{lu, low}
use Rattle.invariant_family.specs.Families.{family_of}
use Rattle.variant_report.specs.FamilyTexts.{variant_lines}
use Rattle.text_scan.specs.FaultKinds.{Alias}
use Rattle.text_scan.specs.Faults.{◌on◌}
use Rattle.flame_top.specs.Derive.{families_text}
use Rattle.flame_top.specs.Refusals.{bad_pivot_text, no_variant_text, refusal_text, too_many_parts_text, variant_count_text}

refused_line : refusal_text (Alias on 13) ≡ codes "refused Alias line 13\n"
unfolding digits
refused_line = refl

named_pivot : bad_pivot_text 2 (record { row = 10; col = 0 }) ≡ codes "no inverse statement 2 row 10 column 0\n"
unfolding digits
named_pivot = refl

named_dimension : too_many_parts_text 2 (codes "rows") ≡ codes "refused TooManyParts statement 2 dimension rows\n"
unfolding digits
named_dimension = refl

named_counts : variant_count_text 2 1 ≡ codes "refused VariantCount given 2 due 1\n"
unfolding digits
named_counts = refl

named_statement : no_variant_text 12 ≡ codes "refused NoVariant statement 12\n"
unfolding digits
named_statement = refl

-- `X = W` of general matrices, whose loops have one task for each block and nothing to do
same : Operation
same = record {
  name = codes "same";
  dims = codes "r" ∷ [];
  work = record { name = codes "W"; structure = General; rows = 0; cols = 0 };
  knowns = [];
  form = Assign;
  terms = [];
}

-- the families of two operations
printed_families : families_text (lu ∷ same ∷ [])
    ≡ codes "operation lu\nvariants 5\n1 split n forward : solve(0,0)\n2 split n forward : solve(0,0) solve(0,1)\n3 split n forward : solve(0,0) solve(1,0)\n4 split n forward : solve(0,0) solve(0,1) solve(1,0)\n5 split n forward : solve(0,0) solve(0,1) solve(1,0) left(1,1,0)\noperation same\nvariants 2\n1 split r forward :\n2 split r backward :\n"
unfolding digits lu same
printed_families = refl

-- the first five lines of a family along two dimensions, and its last two
printed_lines : variant_lines low (take 5 (family_of low) ++ drop 20 (family_of low))
    ≡ codes "1 split n forward : solve(0,0)\n2 split n forward : solve(0,0) left(1,0,0)\n3 split m forward : solve(0,0)\n4 split m backward : solve(0,1)\n5 split n forward m forward : solve(0,0)\n21 split n backward m forward : solve(0,0) left(1,0,0) solve(1,0)\n22 split n backward m backward : solve(0,1) left(1,1,0) solve(1,1)\n"
unfolding digits low
printed_lines = refl
