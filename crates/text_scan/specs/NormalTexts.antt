-- Normal text: one space between tokens, none at a line's ends, no comment, no empty line, and ' right after its name.
use Rattle.std.specs.Prelude.{ℕ, ◌+◌, List, [], ◌∷◌, ◌++◌, length, codes, Bool, ◌&&◌, not, ◌==◌, if◌then◌else◌}
use Rattle.std.specs.List.{flat_map, list_all}
use Rattle.std.specs.Str.{bytes_eq}
use Rattle.text_scan.specs.Lines.{Line}
use Rattle.text_scan.specs.Words.{is_word}

-- what stands before a word that isn't the first of its line
abbrev pub before_word : List ℕ → List ℕ
before_word w = if bytes_eq w (codes "'") then [] else codes " "

-- the words of a line, and its line feed
abbrev pub line_text : List (List ℕ) → List ℕ
line_text [] = codes "\n"
line_text (w ∷ []) = w ++ codes "\n"
line_text (w ∷ v ∷ words) = w ++ before_word v ++ line_text (v ∷ words)

abbrev pub lines_text : List (List (List ℕ)) → List ℕ
lines_text lines = flat_map line_text lines

-- words that can stand on a line: there is one, and each is the text of a token
abbrev pub is_line : List (List ℕ) → Bool
is_line words = not (length words == 0) && list_all is_word words

-- the lines with their numbers, from the first one's
abbrev pub numbered_lines : ℕ → List (List (List ℕ)) → List Line
numbered_lines n [] = []
numbered_lines n (words ∷ lines) = record { number = n; words = words } ∷ numbered_lines (n + 1) lines
