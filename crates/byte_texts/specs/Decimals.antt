-- Decimal numbers at the front of bytes.
use Rattle.std.specs.Prelude.{ℕ, ◌^◌, List, length, take, drop, Option, Some, None, Bool, ◌&&◌, ◌||◌, not, nat_lt, ◌==◌, if◌then◌else◌, slice_index}
use Rattle.std.specs.List.{prefix_len}
use Rattle.std.specs.Char.{is_ascii_digit}
use Rattle.std.specs.Str.Parse.{digits_value}

-- of a run of digits: there is one, the first is 0 only where it is the only one, and the number is below 2^64
abbrev pub is_decimal : List ℕ → Bool
is_decimal digits = nat_lt 0 (length digits) && (length digits == 1 || not (slice_index digits 0 == 48)) && nat_lt (digits_value 10 digits) (2 ^ 64)

-- the number that all leading digits are, and the bytes behind them; none where the digits are no decimal
unfoldable pub decimal_at : List ℕ → Option (ℕ × List ℕ)
decimal_at bytes =
    let n = prefix_len is_ascii_digit bytes in
    if is_decimal (take n bytes) then Some (digits_value 10 (take n bytes), drop n bytes) else None
