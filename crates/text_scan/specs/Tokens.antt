-- The tokens of a text: where each begins, how long it is, and on which line it stands; or the first byte that is in no
-- token, no blank and no comment.
use Rattle.std.specs.Prelude.{ℕ, zero, suc, ◌+◌, List, [], ◌∷◌, ◌++◌, Result, Ok, Err, Option, Some, None, Bool, ◌||◌, not, ◌==◌, if◌then◌else◌}
use Rattle.std.specs.List.{prefix_len}
use Rattle.std.specs.Char.{is_ascii_digit, is_ascii_alphabetic}
use Rattle.text_scan.specs.declared.token.Token.{Token}
use Rattle.text_scan.specs.declared.token.TokenKind.TheVariants.{Name, Number, Sign}
use Rattle.text_scan.specs.declared.token.Front.{Front}
use Rattle.text_scan.specs.declared.token.Front.TheVariants as fronts
use Rattle.text_scan.specs.declared.token.ScanFault.{ScanFault}
use Rattle.text_scan.specs.declared.token.ScanFault.TheVariants as scan_faults
use Rattle.text_scan.specs.Faults.{Fault, ◌on◌}
use Rattle.text_scan.specs.FaultKinds as kinds

-- letters, digits and _
abbrev pub is_name_byte : ℕ → Bool
is_name_byte b = is_ascii_alphabetic b || is_ascii_digit b || b == 95

-- a comment runs up to the line feed
abbrev pub is_comment_byte : ℕ → Bool
is_comment_byte b = not (b == 10)

-- space, tab, carriage return, and the line feed, which ends a line
abbrev pub is_blank : ℕ → Bool
is_blank b = b == 32 || b == 9 || b == 13 || b == 10

-- ( ) , : = + - * '
abbrev pub is_sign : ℕ → Bool
is_sign b = b == 40 || b == 41 || b == 44 || b == 58 || b == 61 || b == 43 || b == 45 || b == 42 || b == 39

-- what begins with a byte; # begins a comment
unfoldable pub front_of : ℕ → Front
front_of b = if is_blank b then fronts.Blank else (if b == 35 then fronts.Comment else (if is_ascii_alphabetic b then fronts.Token Name else (if is_ascii_digit b then fronts.Token Number else (if is_sign b then fronts.Token Sign else fronts.Bad))))

-- how many of the bytes behind the first go with it
abbrev pub behind : Front → List ℕ → ℕ
behind fronts.Comment bytes = prefix_len is_comment_byte bytes
behind (fronts.Token Name) bytes = prefix_len is_name_byte bytes
behind (fronts.Token Number) bytes = prefix_len is_ascii_digit bytes
behind (fronts.Token Sign) bytes = 0
behind fronts.Blank bytes = 0
behind fronts.Bad bytes = 0

-- a byte that is in no token, no blank and no comment: its place, and its line
pub record BadByte : Type 0 where
  pub at : ℕ
  pub line : ℕ

-- what begins at a place of a line and is so long, before the tokens behind it
abbrev pub with_front : Front → ℕ → ℕ → ℕ → Result (List Token) BadByte → Result (List Token) BadByte
with_front fronts.Bad at len line tokens = Err (record { at = at; line = line })
with_front fronts.Blank at len line tokens = tokens
with_front fronts.Comment at len line tokens = tokens
with_front (fronts.Token kind) at len line (Ok tokens) = Ok (record { kind = kind; start = at; len = len; line = line } ∷ tokens)
with_front (fronts.Token kind) at len line (Err fault) = Err fault

-- the line of what stands behind a byte of a line
abbrev pub line_behind : ℕ → ℕ → ℕ
line_behind b line = if b == 10 then line + 1 else line

-- the tokens of the bytes, of which so many go with what began before them; the first byte is at a place of a line
unfoldable pub tokens_from : ℕ → ℕ → ℕ → List ℕ → Result (List Token) BadByte
tokens_from passed at line [] = Ok []
tokens_from (suc passed) at line (b ∷ bytes) = tokens_from passed (at + 1) line bytes
tokens_from zero at line (b ∷ bytes) =
    with_front (front_of b) at (behind (front_of b) bytes + 1) line (tokens_from (behind (front_of b) bytes) (at + 1) (line_behind b line) bytes)

-- the tokens of the bytes, the first of which is on a line; or the first bad byte
abbrev pub tokens_of : ℕ → List ℕ → Result (List Token) BadByte
tokens_of first_line bytes = tokens_from 0 0 first_line bytes

-- tokens that were found before those that are read
abbrev pub with_found : List Token → Result (List Token) BadByte → Result (List Token) BadByte
with_found found (Ok tokens) = Ok (found ++ tokens)
with_found found (Err fault) = Err fault

-- ---- faults

-- the tokens, or the first bad byte as a fault of the text
abbrev pub scanned : Result (List Token) BadByte → Result (List Token) Fault
scanned (Ok tokens) = Ok tokens
scanned (Err bad) = Err (kinds.BadByte on bad.line)

-- the bad byte that an error of a scan names; want of memory names none
abbrev pub bad_byte : ScanFault → Option BadByte
bad_byte scan_faults.Memory = None
bad_byte (scan_faults.BadByte at line) = Some (record { at = at; line = line })

-- the same as a fault of the text
abbrev pub scan_fault : ScanFault → Option Fault
scan_fault scan_faults.Memory = None
scan_fault (scan_faults.BadByte at line) = Some (kinds.BadByte on line)
