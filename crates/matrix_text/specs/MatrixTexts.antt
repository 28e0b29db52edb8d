-- A matrix as text: a line with its name, rows and columns, a line for each row, and `end`.
use Rattle.std.specs.Prelude.{ℕ, zero, suc, ◌%◌, List, [], ◌∷◌, ◌++◌, length, take, drop, codes, decimal, ◌==◌, if◌then◌else◌}
use Rattle.residue_sums.specs.Grids.{Grid}

-- the entries of a row with a space between two, and a line feed
abbrev pub row_text : List ℕ → List ℕ
row_text [] = codes "\n"
row_text (x ∷ []) = decimal x ++ codes "\n"
row_text (x ∷ y ∷ xs) = decimal x ++ codes " " ++ row_text (y ∷ xs)

-- so many rows, each of so many entries and on a line of its own
abbrev pub row_texts : ℕ → ℕ → List ℕ → List ℕ
row_texts zero cols entries = []
row_texts (suc rows) cols entries = row_text (take cols entries) ++ row_texts rows cols (drop cols entries)

-- the matrix under its name; with no columns there are no lines of rows
abbrev pub matrix_text : List ℕ → Grid → List ℕ
matrix_text name g = codes "matrix " ++ name ++ codes " " ++ decimal g.rows ++ codes " " ++ decimal g.cols ++ codes "\n"
    ++ (if g.cols == 0 then [] else row_texts g.rows g.cols g.entries) ++ codes "end\n"

-- ---- the same entry by entry, for code that goes along the entries

-- what stands behind an entry that so many entries follow: a line feed at a row's end, and else a space
abbrev pub entry_end : ℕ → ℕ → ℕ
entry_end cols behind = if behind % cols == 0 then 10 else 32

-- each entry of whole rows and what stands behind it
abbrev pub entry_lines : ℕ → List ℕ → List ℕ
entry_lines cols [] = []
entry_lines cols (x ∷ xs) = decimal x ++ entry_end cols (length xs) ∷ entry_lines cols xs
