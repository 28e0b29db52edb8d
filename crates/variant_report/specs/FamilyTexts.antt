-- A family as text: the operation's name, the number of variants, and a line for each.
use Rattle.std.specs.Prelude.{ℕ, List, [], ◌∷◌, ◌++◌, length, codes, decimal}
use Rattle.operation_spec.specs.declared.operation.Operation.{Operation}
use Rattle.invariant_family.specs.declared.variant.Variant.{Variant}
use Rattle.task_texts.specs.DimTexts.{split_text}
use Rattle.task_texts.specs.TaskTexts.{tasks_text}

abbrev pub variant_line : Operation → Variant → List ℕ
variant_line op v = decimal v.number ++ codes " split" ++ split_text op v.split v.dirs ++ codes " :" ++ tasks_text v.kept ++ codes "\n"

abbrev pub variant_lines : Operation → List Variant → List ℕ
variant_lines op [] = []
variant_lines op (v ∷ vs) = variant_line op v ++ variant_lines op vs

abbrev pub family_text : Operation → List Variant → List ℕ
family_text op vs = codes "operation " ++ op.name ++ codes "\nvariants " ++ decimal (length vs) ++ codes "\n" ++ variant_lines op vs
