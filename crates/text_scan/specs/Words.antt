-- Words: the texts of tokens. What a token is shows in its text: names begin with a letter, numbers with a digit, and
-- each other token is a sign.
use Rattle.std.specs.Prelude.{ℕ, ◌^◌, List, [], ◌∷◌, length, take, drop, Option, Some, None, Bool, true, false, ◌&&◌, ◌||◌, not, nat_le, ◌==◌, if◌then◌else◌}
use Rattle.std.specs.List.{list_all}
use Rattle.std.specs.Char.{is_ascii_digit, is_ascii_alphabetic}
use Rattle.std.specs.Str.Parse.{digits_value}
use Rattle.text_scan.specs.declared.token.Token.{Token}
use Rattle.text_scan.specs.declared.token.TokenKind.{TokenKind}
use Rattle.text_scan.specs.declared.token.TokenKind.TheVariants.{Name, Number, Sign}
use Rattle.text_scan.specs.Tokens.{is_name_byte, is_sign}

-- the text of a token, a slice of its source
abbrev pub word : List ℕ → Token → List ℕ
word bytes t = take t.len (drop t.start bytes)

-- the bytes are the text of one token, and of nothing more
abbrev pub is_word : List ℕ → Bool
is_word [] = false
is_word (b ∷ bytes) = if is_ascii_alphabetic b then list_all is_name_byte bytes else (if is_ascii_digit b then list_all is_ascii_digit bytes else (is_sign b && length bytes == 0))

-- what a token is, by the first byte of its text
abbrev pub kind_of : List ℕ → TokenKind
kind_of [] = Sign
kind_of (b ∷ bytes) = if is_ascii_alphabetic b then Name else (if is_ascii_digit b then Number else Sign)

abbrev pub is_kind : TokenKind → TokenKind → Bool
is_kind Name Name = true
is_kind Number Number = true
is_kind Sign Sign = true
is_kind _ _ = false

-- how many bytes a name may have
abbrev pub name_limit : ℕ
name_limit = 32

-- a word that may stand as a name
abbrev pub is_name : List ℕ → Bool
is_name w = is_kind (kind_of w) Name && nat_le (length w) name_limit

-- a leading zero and a second digit
abbrev pub has_leading_zero : List ℕ → Bool
has_leading_zero (b ∷ c ∷ digits) = b == 48
has_leading_zero _ = false

-- a word that may stand as a number
abbrev pub is_number : List ℕ → Bool
is_number w = is_kind (kind_of w) Number && not (has_leading_zero w)

-- the number, however many digits it has
abbrev pub number_value : List ℕ → ℕ
number_value w = digits_value 10 w

-- the number, where no zero leads a further digit and it is below 2^64
abbrev pub small_number : List ℕ → Option ℕ
small_number w = if has_leading_zero w || nat_le (2 ^ 64) (number_value w) then None else Some (number_value w)
