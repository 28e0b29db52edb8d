-- The tokens of a text, line by line. A line without tokens is no line here.
use Rattle.std.specs.Prelude.{ℕ, ◌+◌, List, [], ◌∷◌, length, codes, slice_index_or, Option, Some, None, Result, Ok, Err, Bool, false, ◌==◌, if◌then◌else◌}
use Rattle.std.specs.List.{filter, sum_by}
use Rattle.std.specs.Str.{bytes_eq}
use Rattle.text_scan.specs.declared.token.Token.{Token}
use Rattle.text_scan.specs.Faults.{Fault, ◌on◌}
use Rattle.text_scan.specs.FaultKinds.{Syntax}
use Rattle.text_scan.specs.Words.{word}

-- a line with tokens: its number, and the texts of its tokens
pub record Line : Type 0 where
  pub number : ℕ
  pub words : List (List ℕ)

-- a word of a line, before other lines
abbrev pub with_word : ℕ → List ℕ → List Line → List Line
with_word number w [] = record { number = number; words = w ∷ [] } ∷ []
with_word number w (line ∷ lines) =
    if line.number == number then record { number = number; words = w ∷ line.words } ∷ lines
    else record { number = number; words = w ∷ [] } ∷ line ∷ lines

-- tokens that stand on one line are a line
abbrev pub lines_of : List ℕ → List Token → List Line
lines_of bytes [] = []
lines_of bytes (t ∷ tokens) = with_word t.line (word bytes t) (lines_of bytes tokens)

-- the number of the line at the end of the bytes, the first of which is on a line
abbrev pub end_line_of : ℕ → List ℕ → ℕ
end_line_of first_line bytes = first_line + length (filter (λ b. b == 10) bytes)

-- ---- words of a line

-- the word at a place, from 0; none past the last
abbrev pub nth_word : List (List ℕ) → ℕ → List ℕ
nth_word words n = slice_index_or words n []

-- the first word is this one
abbrev pub begins_with : List ℕ → List (List ℕ) → Bool
begins_with word [] = false
begins_with word (first ∷ words) = bytes_eq first word

-- the word `end`, alone
abbrev pub is_end : List (List ℕ) → Bool
is_end (word ∷ []) = bytes_eq word (codes "end")
is_end _ = false

-- ---- going from line to line; where the text ends too early is a fault of syntax, on the line at the end

-- how many words lines have
abbrev pub word_count : List Line → ℕ
word_count lines = sum_by (λ line. length line.words) lines

-- the first line
abbrev pub front_line : List Line → Option Line
front_line [] = None
front_line (line ∷ lines) = Some line

-- the first line begins with the word
abbrev pub begins : List ℕ → List Line → Bool
begins word [] = false
begins word (line ∷ lines) = begins_with word line.words

-- the line that is due, and those behind it
abbrev pub due_line : ℕ → List Line → Result (Line × List Line) Fault
due_line end [] = Err (Syntax on end)
due_line end (line ∷ lines) = Ok (line, lines)

-- the line that is due where another is due behind it: without its line feed it is the text's end
abbrev pub inner_line : ℕ → List Line → Result (Line × List Line) Fault
inner_line end [] = Err (Syntax on end)
inner_line end (line ∷ lines) = if line.number == end then Err (Syntax on end) else Ok (line, lines)
