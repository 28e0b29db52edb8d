-- What is due for `derive`: the family of each operation of the job.
use Rattle.std.specs.Prelude.{ℕ, List}
use Rattle.std.specs.List.{flat_map}
use Rattle.operation_spec.specs.declared.operation.Operation.{Operation}
use Rattle.equation.specs.declared.job.Job.{Job}
use Rattle.invariant_family.specs.Families.{family_of}
use Rattle.variant_report.specs.FamilyTexts.{family_text}
use Rattle.flame_top.specs.DueTexts.{Says}

-- each operation's family
abbrev pub families_text : List Operation → List ℕ
families_text = flat_map (λ op. family_text op (family_of op))

-- the families of all operations of a job are printed
abbrev pub DueFamilies : Job → ℕ → List ℕ → Type 0
DueFamilies job status text = Says 0 (families_text job.operations) status text
