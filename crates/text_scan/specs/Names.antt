-- Names, by their numbers in a list.
use Rattle.std.specs.Prelude.{ℕ, List, [], ◌∷◌, length, Bool, false, ◌||◌, not, nat_lt}
use Rattle.std.specs.List.{prefix_len}
use Rattle.std.specs.Str.{bytes_eq}

-- the first number with this name; the count of the names where none has it
abbrev pub number_of : List (List ℕ) → List ℕ → ℕ
number_of names w = prefix_len (λ name. not (bytes_eq name w)) names

-- one of the names is this one
abbrev pub is_among : List (List ℕ) → List ℕ → Bool
is_among names w = nat_lt (number_of names w) (length names)

-- a name stands twice
abbrev pub has_twice : List (List ℕ) → Bool
has_twice [] = false
has_twice (name ∷ names) = is_among names name || has_twice names
