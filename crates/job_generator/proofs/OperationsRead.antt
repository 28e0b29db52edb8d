-- The operations of a generated job are valid, and their names can stand in a text: a text of each is read as it. Cited by the laws.
use Rattle.std.proofs.Common.{◌≡◌, ℕ, List, [], Result, Ok, Err, refl, codes}
use Rattle.text_scan.specs.declared.token.Token.{Token}
use Rattle.text_scan.specs.Lines.{end_line_of, lines_of}
use Rattle.text_scan.specs.Tokens.{BadByte, front_of, tokens_from, tokens_of}
use Rattle.text_scan.proofs.LineOrders.{AreLines-from_tokens}
use Rattle.text_scan.proofs.ScannedTokens.{AreTokens-scanned}
use Rattle.operation_spec.specs.declared.operation.Operation.{Operation}
use Rattle.operation_spec.specs.Equations.{equation_of}
use Rattle.operation_spec.specs.OperationFaults.{name_at, dims_at, work_at, known_at, knowns_at, sides_at, equation_at, end_at, declared_at, operation_at}
use Rattle.operation_spec.specs.ValidOperations.{IsValid, HasNames}
use Rattle.operation_spec.proofs.OperationTaken.{operation_taken}
use Rattle.job_generator.specs.GeneratedOperations.{prod, lu, solve, ulow, upp}

-- valid, with names for a text
pub record IsRead (op : Operation) : Type 0 where
  pub valid : IsValid op
  pub named : HasNames op

-- an operation that is read from a text is
pub is_read : (text : List ℕ) (tokens : List Token) (op : Operation) → tokens_of 1 text ≡ Ok tokens
    → operation_at (end_line_of 1 text) (lines_of text tokens) ≡ Ok (op, []) → IsRead op
is_read text tokens op scanned read =
    let spells = operation_taken (end_line_of 1 text) (lines_of text tokens) op [] (AreLines-from_tokens 1 text tokens (AreTokens-scanned 1 text tokens scanned)) read in
    record { valid = spells.valid; named = spells.names }

-- the tokens of a text that has some
abbrev tokens_in : Result (List Token) BadByte → List Token
tokens_in (Ok tokens) = tokens
tokens_in (Err fault) = []

abbrev lu_text : List ℕ
lu_text = codes "operation lu\ndims n\nwork W general n n\nequation lu X = W\nend\n"

pub lu-read : IsRead lu
unfolding front_of tokens_from equation_of name_at dims_at work_at known_at knowns_at sides_at equation_at end_at declared_at operation_at lu
lu-read = is_read lu_text (tokens_in (tokens_of 1 lu_text)) lu refl refl

abbrev prod_text : List ℕ
prod_text = codes "operation prod\ndims n\nwork W general n n\nknown L unitlower n n\nknown U upper n n\nequation X = W + L * U\nend\n"

pub prod-read : IsRead prod
unfolding front_of tokens_from equation_of name_at dims_at work_at known_at knowns_at sides_at equation_at end_at declared_at operation_at prod
prod-read = is_read prod_text (tokens_in (tokens_of 1 prod_text)) prod refl refl

abbrev ulow_text : List ℕ
ulow_text = codes "operation ulow\ndims n m\nwork W general n m\nknown T unitlower n n\nequation T * X = W\nend\n"

pub ulow-read : IsRead ulow
unfolding front_of tokens_from equation_of name_at dims_at work_at known_at knowns_at sides_at equation_at end_at declared_at operation_at solve
ulow-read = is_read ulow_text (tokens_in (tokens_of 1 ulow_text)) ulow refl refl

abbrev upp_text : List ℕ
upp_text = codes "operation upp\ndims n m\nwork W general n m\nknown T upper n n\nequation T * X = W\nend\n"

pub upp-read : IsRead upp
unfolding front_of tokens_from equation_of name_at dims_at work_at known_at knowns_at sides_at equation_at end_at declared_at operation_at solve
upp-read = is_read upp_text (tokens_in (tokens_of 1 upp_text)) upp refl refl
