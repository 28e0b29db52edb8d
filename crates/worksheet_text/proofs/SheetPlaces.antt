-- A worksheet that begins at the end of its text. Cited by its reader.
use Rattle.std.proofs.Common.{◌≡◌, ℕ, ◌+◌, List, [], length, drop, Err, refl, ap, ◌∙◌, arith}
use Rattle.std.proofs.lemmas.List.{drop_all}
use Rattle.text_scan.specs.declared.Rest.{Rest}
use Rattle.text_scan.specs.Tokens.{tokens_from}
use Rattle.operation_spec.specs.declared.operation.Operation.{Operation}
use Rattle.worksheet_text.specs.SheetFaults.{syntax}
use Rattle.worksheet_text.specs.SheetReading.{next_line_at, sheet_at, worksheet_in}

-- its first line is due there
pub none_at_end : (bytes : List ℕ) (rest : Rest) (operations : List Operation) → rest.at ≡ length bytes → worksheet_in bytes rest operations ≡ Err (syntax rest.line)
unfolding tokens_from sheet_at next_line_at
none_at_end bytes rest operations end =
    let none : drop rest.at bytes ≡ [] = drop_all rest.at bytes (omega arith) in
    let line : rest.line + 0 ≡ rest.line = omega arith in
    rw none (ap (λ n. Err (syntax n)) line)
