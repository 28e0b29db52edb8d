-- The definitions of operation texts, computed on small texts: each is read as its operation and has the operation's
-- lines, or its fault is told at its line.
use Rattle.std.proofs.Common.{◌≡◌, ℕ, List, [], Result, Ok, Err, refl, codes, map}
use Rattle.text_scan.specs.declared.token.Token.{Token}
use Rattle.text_scan.specs.FaultKinds.{Syntax, Limit, NameTwice, NameUnknown, TooManyTerms, Shape, Form}
use Rattle.text_scan.specs.Faults.{Fault, ◌on◌}
use Rattle.text_scan.specs.Lines.{Line, end_line_of, lines_of}
use Rattle.text_scan.specs.Tokens.{BadByte, front_of, scanned, tokens_from, tokens_of}
use Rattle.operation_spec.specs.declared.operation.Operation.{Operation}
use Rattle.operation_spec.proofs.WorkedOperations.{mul, lu, ldl, low, inv, syl, sqr, upp_right}
use Rattle.operation_spec.specs.Equations.{equation_of}
use Rattle.operation_spec.specs.OperationFaults.{name_at, dims_at, work_at, known_at, knowns_at, sides_at, equation_at, end_at, declared_at, operation_at}
use Rattle.operation_spec.specs.OperationLines.{operation_lines}

-- ---- reading a text

-- what the lines of a text say
read : List ℕ → Result (Operation × List Line) Fault
read text = go (scanned (tokens_of 1 text))
  where
    go : Result (List Token) Fault → Result (Operation × List Line) Fault
    go (Err fault) = Err fault
    go (Ok tokens) = operation_at (end_line_of 1 text) (lines_of text tokens)

-- the words of its lines
words : List ℕ → List (List (List ℕ))
words text = go (tokens_of 1 text)
  where
    go : Result (List Token) BadByte → List (List (List ℕ))
    go (Err fault) = []
    go (Ok tokens) = map (λ line. line.words) (lines_of text tokens)

-- ---- operations

abbrev mul_text : List ℕ
mul_text = codes "operation mul\ndims m n k\nwork W general m n\nknown A general m k\nknown B general k n\nequation X = W + A * B\nend\n"

mul_is_read : read mul_text ≡ Ok (mul, [])
unfolding read front_of tokens_from equation_of name_at dims_at work_at known_at knowns_at sides_at equation_at end_at declared_at operation_at mul
mul_is_read = refl

mul_has_lines : words mul_text ≡ operation_lines mul
unfolding words front_of tokens_from mul
mul_has_lines = refl

abbrev lu_text : List ℕ
lu_text = codes "operation lu\ndims n\nwork W general n n\nequation lu X = W\nend\n"

lu_is_read : read lu_text ≡ Ok (lu, [])
unfolding read front_of tokens_from equation_of name_at dims_at work_at known_at knowns_at sides_at equation_at end_at declared_at operation_at lu
lu_is_read = refl

lu_has_lines : words lu_text ≡ operation_lines lu
unfolding words front_of tokens_from lu
lu_has_lines = refl

abbrev ldl_text : List ℕ
ldl_text = codes "operation ldl\ndims n\nwork W lower n n\nequation ldl X = W\nend\n"

ldl_is_read : read ldl_text ≡ Ok (ldl, [])
unfolding read front_of tokens_from equation_of name_at dims_at work_at known_at knowns_at sides_at equation_at end_at declared_at operation_at ldl
ldl_is_read = refl

ldl_has_lines : words ldl_text ≡ operation_lines ldl
unfolding words front_of tokens_from ldl
ldl_has_lines = refl

abbrev low_text : List ℕ
low_text = codes "operation low\ndims n m\nwork W general n m\nknown T lower n n\nequation T * X = W\nend\n"

low_is_read : read low_text ≡ Ok (low, [])
unfolding read front_of tokens_from equation_of name_at dims_at work_at known_at knowns_at sides_at equation_at end_at declared_at operation_at low
low_is_read = refl

low_has_lines : words low_text ≡ operation_lines low
unfolding words front_of tokens_from low
low_has_lines = refl

abbrev inv_text : List ℕ
inv_text = codes "operation inv\ndims n\nwork W lower n n\nknown T lower n n\nequation T * X = W\nend\n"

inv_is_read : read inv_text ≡ Ok (inv, [])
unfolding read front_of tokens_from equation_of name_at dims_at work_at known_at knowns_at sides_at equation_at end_at declared_at operation_at inv
inv_is_read = refl

inv_has_lines : words inv_text ≡ operation_lines inv
unfolding words front_of tokens_from inv
inv_has_lines = refl

abbrev syl_text : List ℕ
syl_text = codes "operation syl\ndims m n\nwork W general m n\nknown T lower m m\nknown U upper n n\nequation T * X + X * U = W\nend\n"

syl_is_read : read syl_text ≡ Ok (syl, [])
unfolding read front_of tokens_from equation_of name_at dims_at work_at known_at knowns_at sides_at equation_at end_at declared_at operation_at syl
syl_is_read = refl

syl_has_lines : words syl_text ≡ operation_lines syl
unfolding words front_of tokens_from syl
syl_has_lines = refl

abbrev sqr_text : List ℕ
sqr_text = codes "operation sqr\ndims n k\nwork W lower n n\nknown A general n k\nequation X = W + A * A'\nend\n"

sqr_is_read : read sqr_text ≡ Ok (sqr, [])
unfolding read front_of tokens_from equation_of name_at dims_at work_at known_at knowns_at sides_at equation_at end_at declared_at operation_at sqr
sqr_is_read = refl

sqr_has_lines : words sqr_text ≡ operation_lines sqr
unfolding words front_of tokens_from sqr
sqr_has_lines = refl

abbrev upp_right_text : List ℕ
upp_right_text = codes "operation right\ndims n m\nwork W general n m\nknown T upper m m\nknown A general n m\nequation X * T' = W - A * T\nend\n"

upp_right_is_read : read upp_right_text ≡ Ok (upp_right, [])
unfolding read front_of tokens_from equation_of name_at dims_at work_at known_at knowns_at sides_at equation_at end_at declared_at operation_at upp_right
upp_right_is_read = refl

upp_right_has_lines : words upp_right_text ≡ operation_lines upp_right
unfolding words front_of tokens_from upp_right
upp_right_has_lines = refl

-- ---- a text as somebody writes it: comments, blanks, and no line feed at the end

abbrev loose_text : List ℕ
loose_text = codes "# a factorisation\n operation   lu # here\n\ndims n\r\nwork W general n n\n\tequation lu X=W\nend"

loose_text_is_read : read loose_text ≡ Ok (lu, [])
unfolding read front_of tokens_from equation_of name_at dims_at work_at known_at knowns_at sides_at equation_at end_at declared_at operation_at lu
loose_text_is_read = refl

-- ---- faults

third_term : read (codes "operation mul\ndims m n k\nwork W general m n\nknown A general m k\nknown B general k n\nequation X = W + A * B + A * B + A * B\nend\n") ≡ Err (TooManyTerms on 6)
unfolding read front_of tokens_from equation_of name_at dims_at work_at known_at knowns_at sides_at equation_at end_at declared_at operation_at mul
third_term = refl

unknown_operand : read (codes "operation mul\ndims m n k\nwork W general m n\nknown A general m k\nknown B general k n\nequation X = W + A * C\nend\n") ≡ Err (NameUnknown on 6)
unfolding read front_of tokens_from equation_of name_at dims_at work_at known_at knowns_at sides_at equation_at end_at declared_at operation_at mul
unknown_operand = refl

unknown_operand_in_third_term : read (codes "operation mul\ndims m n k\nwork W general m n\nknown A general m k\nknown B general k n\nequation X = W + A * B + A * B + A * C\nend\n") ≡ Err (NameUnknown on 6)
unfolding read front_of tokens_from equation_of name_at dims_at work_at known_at knowns_at sides_at equation_at end_at declared_at operation_at mul
unknown_operand_in_third_term = refl

dimensions_that_differ : read (codes "operation mul\ndims m n k\nwork W general m n\nknown A general m k\nknown B general k n\nequation X = W + B * A\nend\n") ≡ Err (Shape on 6)
unfolding read front_of tokens_from equation_of name_at dims_at work_at known_at knowns_at sides_at equation_at end_at declared_at operation_at mul
dimensions_that_differ = refl

unused_operands : read (codes "operation mul\ndims m n k\nwork W general m n\nknown A general m k\nknown B general k n\nequation X = W\nend\n") ≡ Err (Form on 6)
unfolding read front_of tokens_from equation_of name_at dims_at work_at known_at knowns_at sides_at equation_at end_at declared_at operation_at mul
unused_operands = refl

no_work_operand_first : read (codes "operation mul\ndims m n k\nwork W general m n\nknown A general m k\nknown B general k n\nequation X = + A * B\nend\n") ≡ Err (Syntax on 6)
unfolding read front_of tokens_from equation_of name_at dims_at work_at known_at knowns_at sides_at equation_at end_at declared_at operation_at mul
no_work_operand_first = refl

known_operand_first : read (codes "operation mul\ndims m n k\nwork W general m n\nknown A general m k\nknown B general k n\nequation X = A + A * B\nend\n") ≡ Err (Shape on 6)
unfolding read front_of tokens_from equation_of name_at dims_at work_at known_at knowns_at sides_at equation_at end_at declared_at operation_at mul
known_operand_first = refl

solution_as_factor : read (codes "operation mul\ndims m n k\nwork W general m n\nknown A general m k\nknown B general k n\nequation X * X = W\nend\n") ≡ Err (NameUnknown on 6)
unfolding read front_of tokens_from equation_of name_at dims_at work_at known_at knowns_at sides_at equation_at end_at declared_at operation_at mul
solution_as_factor = refl

primed_solution : read (codes "operation mul\ndims m n k\nwork W general m n\nknown A general m k\nknown B general k n\nequation T * X' = W\nend\n") ≡ Err (Syntax on 6)
unfolding read front_of tokens_from equation_of name_at dims_at work_at known_at knowns_at sides_at equation_at end_at declared_at operation_at mul
primed_solution = refl

no_further_line : read (codes "operation mul\ndims m n k\nwork W general m n\nknown A general m k\nknown B general k n\n") ≡ Err (Syntax on 6)
unfolding read front_of tokens_from equation_of name_at dims_at work_at known_at knowns_at sides_at equation_at end_at declared_at operation_at mul
no_further_line = refl

last_line_without_its_line_feed : read (codes "operation mul\ndims m n k\nwork W general m n\nknown A general m k\nknown B general k n\nequation X = W") ≡ Err (Syntax on 6)
unfolding read front_of tokens_from equation_of name_at dims_at work_at known_at knowns_at sides_at equation_at end_at declared_at operation_at mul
last_line_without_its_line_feed = refl

lu_of_two_dimensions : read (codes "operation lu\ndims n m\nwork W general n m\nequation lu X = W\nend\n") ≡ Err (Form on 4)
unfolding read front_of tokens_from equation_of name_at dims_at work_at known_at knowns_at sides_at equation_at end_at declared_at operation_at lu
lu_of_two_dimensions = refl

lower_on_two_dimensions : read (codes "operation lu\ndims n m\nwork W lower n m\n") ≡ Err (Shape on 3)
unfolding read front_of tokens_from equation_of name_at dims_at work_at known_at knowns_at sides_at equation_at end_at declared_at operation_at lu
lower_on_two_dimensions = refl

seven_dimensions : read (codes "operation lu\ndims n n n n n n n\nwork W symmetric n n\n") ≡ Err (Limit on 2)
unfolding read front_of tokens_from equation_of name_at dims_at work_at known_at knowns_at sides_at equation_at end_at declared_at operation_at lu
seven_dimensions = refl

dimension_twice : read (codes "operation lu\ndims n m n\n") ≡ Err (NameTwice on 2)
unfolding read front_of tokens_from equation_of name_at dims_at work_at known_at knowns_at sides_at equation_at end_at declared_at operation_at lu
dimension_twice = refl

operand_named_like_the_solution : read (codes "operation lu\ndims n\nwork X general n k\n") ≡ Err (NameTwice on 3)
unfolding read front_of tokens_from equation_of name_at dims_at work_at known_at knowns_at sides_at equation_at end_at declared_at operation_at lu
operand_named_like_the_solution = refl
