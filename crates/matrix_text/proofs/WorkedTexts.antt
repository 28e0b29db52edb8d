-- The definitions of matrix texts, computed on small texts: each is read as its matrix and has the matrix's lines, or its
-- fault is told at its line. Entries are below 7, and there is room for 6 of them.
use Rattle.std.proofs.Common.{◌≡◌, ℕ, List, [], ◌∷◌, Result, Ok, Err, refl, codes, map}
use Rattle.std.specs.Fmt.{digits}
use Rattle.residue_sums.specs.Grids.{Grid}
use Rattle.text_scan.specs.declared.token.Token.{Token}
use Rattle.text_scan.specs.FaultKinds.{Syntax, TooLarge, RowLength, EntryRange}
use Rattle.text_scan.specs.Faults.{Fault, ◌on◌}
use Rattle.text_scan.specs.Lines.{Line, end_line_of, lines_of}
use Rattle.text_scan.specs.Tokens.{BadByte, front_of, scanned, tokens_from, tokens_of}
use Rattle.matrix_text.specs.MatrixFaults.{NamedGrid, heading_at, row_at, next_row_at, rows_at, last_at, matrix_at}
use Rattle.matrix_text.specs.MatrixLines.{matrix_lines}

-- what the lines of a text say
read : List ℕ → Result (NamedGrid × List Line) Fault
read text = go (scanned (tokens_of 1 text))
  where
    go : Result (List Token) Fault → Result (NamedGrid × List Line) Fault
    go (Err fault) = Err fault
    go (Ok tokens) = matrix_at (end_line_of 1 text) 7 6 (lines_of text tokens)

-- the words of its lines
words : List ℕ → List (List (List ℕ))
words text = go (tokens_of 1 text)
  where
    go : Result (List Token) BadByte → List (List (List ℕ))
    go (Err fault) = []
    go (Ok tokens) = map (λ line. line.words) (lines_of text tokens)

-- ---- matrices

abbrev two_rows : Grid
two_rows = record { rows = 2; cols = 3; entries = 1 ∷ 2 ∷ 3 ∷ 4 ∷ 5 ∷ 6 ∷ [] }

two_rows_is_read : read (codes "matrix A 2 3\n1 2 3\n4 5 6\nend\n") ≡ Ok (record { name = codes "A"; grid = two_rows }, [])
unfolding read front_of tokens_from heading_at row_at next_row_at rows_at last_at matrix_at
two_rows_is_read = refl

two_rows_has_lines : words (codes "matrix A 2 3\n1 2 3\n4 5 6\nend\n") ≡ matrix_lines (codes "A") two_rows
unfolding words front_of tokens_from digits
two_rows_has_lines = refl

abbrev no_columns : Grid
no_columns = record { rows = 2; cols = 0; entries = [] }

no_columns_is_read : read (codes "# none\nmatrix P_1 2 0 # no rows of text\n\nend") ≡ Ok (record { name = codes "P_1"; grid = no_columns }, [])
unfolding read front_of tokens_from heading_at row_at next_row_at rows_at last_at matrix_at
no_columns_is_read = refl

no_columns_has_lines : words (codes "# none\nmatrix P_1 2 0 # no rows of text\n\nend") ≡ matrix_lines (codes "P_1") no_columns
unfolding words front_of tokens_from digits
no_columns_has_lines = refl

abbrev no_rows : Grid
no_rows = record { rows = 0; cols = 3; entries = [] }

no_rows_is_read : read (codes "matrix P 0 3\nend\n") ≡ Ok (record { name = codes "P"; grid = no_rows }, [])
unfolding read front_of tokens_from heading_at row_at next_row_at rows_at last_at matrix_at
no_rows_is_read = refl

no_rows_has_lines : words (codes "matrix P 0 3\nend\n") ≡ matrix_lines (codes "P") no_rows
unfolding words front_of tokens_from digits
no_rows_has_lines = refl

-- ---- faults

row_too_short : read (codes "matrix P 1 2\n3\n") ≡ Err (RowLength on 2)
unfolding read front_of tokens_from heading_at row_at next_row_at rows_at last_at matrix_at
row_too_short = refl

row_too_short_at_the_end : read (codes "matrix P 1 2\n3") ≡ Err (Syntax on 2)
unfolding read front_of tokens_from heading_at row_at next_row_at rows_at last_at matrix_at
row_too_short_at_the_end = refl

end_for_a_row : read (codes "matrix P 1 2\nend\n") ≡ Err (RowLength on 2)
unfolding read front_of tokens_from heading_at row_at next_row_at rows_at last_at matrix_at
end_for_a_row = refl

end_for_a_row_at_the_end : read (codes "matrix P 1 2\nend") ≡ Err (Syntax on 2)
unfolding read front_of tokens_from heading_at row_at next_row_at rows_at last_at matrix_at
end_for_a_row_at_the_end = refl

two_ends_for_a_row : read (codes "matrix P 1 2\nend end\n") ≡ Err (Syntax on 2)
unfolding read front_of tokens_from heading_at row_at next_row_at rows_at last_at matrix_at
two_ends_for_a_row = refl

entry_is_the_modulus : read (codes "matrix P 1 1\n7\nend\n") ≡ Err (EntryRange on 2)
unfolding read front_of tokens_from heading_at row_at next_row_at rows_at last_at matrix_at
entry_is_the_modulus = refl

length_before_range : read (codes "matrix P 1 1\n7 7\nend\n") ≡ Err (RowLength on 2)
unfolding read front_of tokens_from heading_at row_at next_row_at rows_at last_at matrix_at
length_before_range = refl

leading_zero : read (codes "matrix P 1 1\n03\nend\n") ≡ Err (Syntax on 2)
unfolding read front_of tokens_from heading_at row_at next_row_at rows_at last_at matrix_at
leading_zero = refl

entry_of_many_digits : read (codes "matrix P 1 1\n100000000000000000000000000000\nend\n") ≡ Err (EntryRange on 2)
unfolding read front_of tokens_from heading_at row_at next_row_at rows_at last_at matrix_at
entry_of_many_digits = refl

too_many_columns : read (codes "matrix P 1 1025\n") ≡ Err (TooLarge on 1)
unfolding read front_of tokens_from heading_at row_at next_row_at rows_at last_at matrix_at
too_many_columns = refl

no_room : read (codes "matrix P 1 7\n") ≡ Err (TooLarge on 1)
unfolding read front_of tokens_from heading_at row_at next_row_at rows_at last_at matrix_at
no_room = refl

row_for_the_end : read (codes "matrix P 1 1\n3\n3\nend\n") ≡ Err (Syntax on 3)
unfolding read front_of tokens_from heading_at row_at next_row_at rows_at last_at matrix_at
row_for_the_end = refl

text_ends : read (codes "matrix P 1 1\n3\n") ≡ Err (Syntax on 3)
unfolding read front_of tokens_from heading_at row_at next_row_at rows_at last_at matrix_at
text_ends = refl
