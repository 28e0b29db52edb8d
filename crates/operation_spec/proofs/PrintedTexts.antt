-- The normal text of an operation spells it. Cited by the laws of operation texts.
use Rattle.std.proofs.Common.{◌≡◌, List, [], Ok, sym, ◌∙◌, append-nil}
use Rattle.text_scan.specs.declared.token.Token.{Token}
use Rattle.text_scan.specs.Lines.{lines_of}
use Rattle.text_scan.specs.NormalTexts.{lines_text, numbered_lines}
use Rattle.text_scan.specs.Tokens.{tokens_of}
use Rattle.text_scan.proofs.NormalScans.{normal_text_scanned}
use Rattle.text_scan.proofs.NumberedLines.{words-numbered_lines}
use Rattle.operation_spec.specs.declared.operation.Operation.{Operation}
use Rattle.operation_spec.specs.OperationLines.{operation_lines}
use Rattle.operation_spec.specs.ValidOperations.{HasNames, IsValid, SpellsOperation}
use Rattle.operation_spec.proofs.PrintedLines.{printed_lines}

-- scanning it gives lines that spell the operation
pub printed_operation_spelled : (op : Operation) → IsValid op → HasNames op → (tokens : List Token)
    × (tokens_of 1 (lines_text (operation_lines op)) ≡ Ok tokens) × SpellsOperation (lines_of (lines_text (operation_lines op)) tokens) op []
printed_operation_spelled op valid named =
    let scans = normal_text_scanned 1 (operation_lines op) (printed_lines op valid named) in
    let own = numbered_lines 1 (operation_lines op) in (
      scans.0,
      scans.1,
      record {
        text = (own, scans.2 ∙ sym (append-nil own), words-numbered_lines 1 (operation_lines op));
        valid = valid;
        names = named;
      },
    )
