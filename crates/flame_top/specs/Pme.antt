-- What is due for `pme`: the partitioned matrix expression of an operation of the job along dimensions, by their names.
use Rattle.std.specs.Prelude.{ℕ, List, [], ◌∷◌, Option, Some, None, ◌&&◌, nat_lt, if◌then◌else◌}
use Rattle.text_scan.specs.Names.{is_among, number_of}
use Rattle.operation_spec.specs.declared.operation.Operation.{Operation}
use Rattle.operation_spec.specs.declared.split.Split.{Split}
use Rattle.equation.specs.declared.job.Job.{Job}
use Rattle.variant_report.specs.PmeTexts.{pme_text}
use Rattle.worksheet_text.specs.SheetReading.{operation_named}
use Rattle.flame_top.specs.DueTexts.{Says}
use Rattle.flame_top.specs.NamedOperations.{DueNamed}
use Rattle.flame_top.specs.Refusals.{no_split_text}

-- ---- what the names name

-- of the dimensions with these names, a split along one of them
abbrev pub single_named : List (List ℕ) → List ℕ → Option Split
single_named dims d = if is_among dims d then Some (record { first = number_of dims d; second = None }) else None

-- or along two, of which the second is declared after the first
abbrev pub pair_named : List (List ℕ) → List ℕ → List ℕ → Option Split
pair_named dims d e = if is_among dims d && is_among dims e && nat_lt (number_of dims d) (number_of dims e)
    then Some (record { first = number_of dims d; second = Some (number_of dims e) }) else None

abbrev pub split_named : List (List ℕ) → List (List ℕ) → Option Split
split_named dims (d ∷ []) = single_named dims d
split_named dims (d ∷ e ∷ []) = pair_named dims d e
split_named dims _ = None

-- ---- what is due

-- for an operation: its expression along the split, or the refusal where it has no such split
abbrev pub DueAlong : Operation → Option Split → ℕ → List ℕ → Type 0
DueAlong op None status text = Says 3 no_split_text status text
DueAlong op (Some split) status text = Says 0 (pme_text op split) status text

-- for a job
abbrev pub DuePme : List ℕ → List (List ℕ) → Job → ℕ → List ℕ → Type 0
DuePme name dims job = DueNamed (λ op. DueAlong op (split_named op.dims dims)) (operation_named job.operations name)
