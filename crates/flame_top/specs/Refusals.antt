-- What is printed of a refused input or job, and of a job that meets a bad pivot.
use Rattle.std.specs.Prelude.{ℕ, List, ◌++◌, codes, decimal}
use Rattle.text_scan.specs.FaultKinds.{FaultKind, BadByte, Header, TrailingText, Syntax, Modulus, Limit, NameTwice, NameUnknown, TooManyTerms, Shape, Form, TooLarge, RowLength, EntryRange, Binding, Alias}
use Rattle.text_scan.specs.Faults.{Fault}
use Rattle.equation.specs.declared.job.Place.{Place}
use Rattle.worksheet_text.specs.SheetFaults.{SheetFault, SplitOrder, Text}

-- the kind of a fault and its line
abbrev pub kind_at : List ℕ → ℕ → List ℕ
kind_at kind line = codes "refused " ++ kind ++ codes " line " ++ decimal line ++ codes "\n"

-- the words of a kind of fault
abbrev pub kind_text : FaultKind → List ℕ
kind_text BadByte = codes "BadByte"
kind_text Header = codes "Header"
kind_text TrailingText = codes "TrailingText"
kind_text Syntax = codes "Syntax"
kind_text Modulus = codes "Modulus"
kind_text Limit = codes "Limit"
kind_text NameTwice = codes "NameTwice"
kind_text NameUnknown = codes "NameUnknown"
kind_text TooManyTerms = codes "TooManyTerms"
kind_text Shape = codes "Shape"
kind_text Form = codes "Form"
kind_text TooLarge = codes "TooLarge"
kind_text RowLength = codes "RowLength"
kind_text EntryRange = codes "EntryRange"
kind_text Binding = codes "Binding"
kind_text Alias = codes "Alias"

-- a fault of the job's text
abbrev pub refusal_text : Fault → List ℕ
refusal_text fault = kind_at (kind_text fault.kind) fault.line

-- a fault of a worksheet's text
abbrev pub sheet_refusal_text : SheetFault → List ℕ
sheet_refusal_text (Text fault) = refusal_text fault
sheet_refusal_text (SplitOrder line) = kind_at (codes "SplitOrder") line

-- a job without the operation that is asked for, an operation without the split, and one without the variant
abbrev pub no_operation_text : List ℕ
no_operation_text = codes "refused NoOperation\n"

abbrev pub no_split_text : List ℕ
no_split_text = codes "refused NoSplit\n"

abbrev pub no_such_variant_text : List ℕ
no_such_variant_text = codes "refused NoVariant\n"

-- numbers of variants that are not as many as the statements
abbrev pub variant_count_text : ℕ → ℕ → List ℕ
variant_count_text given due = codes "refused VariantCount given " ++ decimal given ++ codes " due " ++ decimal due ++ codes "\n"

-- a statement, numbered from 1, whose operation has no variant with its number
abbrev pub no_variant_text : ℕ → List ℕ
no_variant_text number = codes "refused NoVariant statement " ++ decimal number ++ codes "\n"

-- a dimension of a job that is cut into too many parts, by the statement, numbered from 1, and the dimension's name
abbrev pub too_many_parts_text : ℕ → List ℕ → List ℕ
too_many_parts_text number name = codes "refused TooManyParts statement " ++ decimal number ++ codes " dimension " ++ name ++ codes "\n"

-- a job that has too many steps
abbrev pub too_many_steps_text : List ℕ
too_many_steps_text = codes "refused TooManySteps\n"

-- the first bad pivot of a job: the statement, numbered from 1, with the row and the column, numbered from 0
abbrev pub bad_pivot_text : ℕ → Place → List ℕ
bad_pivot_text number place =
    codes "no inverse statement " ++ decimal number ++ codes " row " ++ decimal place.row ++ codes " column " ++ decimal place.col ++ codes "\n"
