-- Lines of a word and a number.
use Rattle.std.specs.Prelude.{ℕ, List, ◌++◌, codes, decimal}

-- the word, the number behind a space, and a line feed
abbrev pub number_line : List ℕ → ℕ → List ℕ
number_line word n = word ++ codes " " ++ decimal n ++ codes "\n"
