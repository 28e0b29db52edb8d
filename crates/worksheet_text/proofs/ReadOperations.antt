-- The operation of a worksheet that was read. Cited by the law of it.
use Rattle.std.proofs.Common.{◌≡◌, ℕ, Bool, true, false, List, [], ◌∷◌, Option, Some, None, Result, Ok, Err, drop, refl, sym, ap, ◌∙◌, if◌then◌else◌}
use Rattle.std.specs.Str.{bytes_eq}
use Rattle.std.proofs.lemmas.Slice.Eq.{bytes_eq-Decides}
use Rattle.byte_texts.specs.Reading.{some_or}
use Rattle.byte_texts.proofs.Binding.{bind_ok, same_ok}
use Rattle.text_scan.specs.declared.Rest.{Rest}
use Rattle.text_scan.specs.Lines.{Line, nth_word}
use Rattle.text_scan.specs.Tokens.{scanned, tokens_of}
use Rattle.operation_spec.specs.declared.operation.Operation.{Operation}
use Rattle.worksheet.specs.declared.sheet.Worksheet.{Worksheet}
use Rattle.worksheet_text.specs.SheetFaults.{SheetFault, as_text, unknown, syntax}
use Rattle.worksheet_text.specs.SheetReading.{is_sheet_line, last_at, loop_at, next_line_at, operation_at, operation_named, round_at, sheet_at, worksheet_in}

-- the operation that is found has the name
named_so : (operations : List Operation) (name : List ℕ) (op : Operation) → operation_named operations name ≡ Some op → op.name ≡ name
named_so [] name op found = absurd cc
named_so (first ∷ operations) name op found = by_test (bytes_eq first.name name) refl found (named_so operations name op)
  where
    by_test : (b : Bool) → bytes_eq first.name name ≡ b → (if b then Some first else operation_named operations name) ≡ Some op
        → (operation_named operations name ≡ Some op → op.name ≡ name) → op.name ≡ name
    by_test true same found others = let is : first ≡ op = cc in sym (ap (λ (o : Operation). o.name) is) ∙ (bytes_eq-Decides first.name name).0 same
    by_test false other found others = others found

-- the first line names it
found_by_line : (operations : List Operation) (line : Line) (op : Operation) → operation_at operations line ≡ Ok op → operation_named operations (nth_word line.words 1) ≡ Some op
unfolding operation_at
found_by_line operations line op read = by_cases (is_sheet_line line.words) (operation_named operations (nth_word line.words 1)) read
  where
    by_cases : (b : Bool) (found : Option Operation) → (if b then some_or (unknown line.number) found else Err (syntax line.number)) ≡ Ok op → found ≡ Some op
    by_cases true (Some o) read = ap (λ (p : Operation). Some p) (same_ok o op read)
    by_cases true None read = absurd cc
    by_cases false found read = absurd cc

found_by_lines : (end : ℕ) (operations : List Operation) (lines : List Line) (w : Worksheet) → sheet_at end operations lines ≡ Ok w → (op : Operation) × (operation_named operations w.operation ≡ Some op)
unfolding sheet_at
found_by_lines end operations lines w read =
    let first = bind_ok (next_line_at end lines) _ w read in
    let op = bind_ok (operation_at operations first.0.0) _ w first.2 in
    let head = bind_ok (loop_at end op.0.dims first.0.1) _ w op.2 in
    let round = bind_ok (round_at end op.0.dims head.0.1) _ w head.2 in
    let last = bind_ok (last_at end round.0.1) _ w round.2 in
    let named = found_by_line operations first.0.0 op.0 op.1 in
    let its_name : op.0.name ≡ w.operation = ap (λ (sheet : Worksheet). sheet.operation) (same_ok _ w last.2) in
    let same : nth_word first.0.0.words 1 ≡ w.operation = sym (named_so operations _ op.0 named) ∙ its_name in
    (op.0, ap (operation_named operations) (sym same) ∙ named)

pub found_in_bytes : (bytes : List ℕ) (rest : Rest) (operations : List Operation) (w : Worksheet) → worksheet_in bytes rest operations ≡ Ok w → (op : Operation) × (operation_named operations w.operation ≡ Some op)
found_in_bytes bytes rest operations w read =
    let tokens = bind_ok (as_text (scanned (tokens_of rest.line (drop rest.at bytes)))) _ w read in found_by_lines _ operations _ w tokens.2
