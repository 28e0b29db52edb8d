-- Words that follow others of their line, as normal text.
use Rattle.std.specs.Prelude.{ℕ, List, ◌++◌}
use Rattle.std.specs.List.{flat_map}
use Rattle.text_scan.specs.NormalTexts.{before_word}

abbrev pub word_text : List ℕ → List ℕ
word_text w = before_word w ++ w

abbrev pub words_text : List (List ℕ) → List ℕ
words_text words = flat_map word_text words
