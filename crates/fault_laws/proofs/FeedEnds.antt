-- How far a line feed ends what goes with a byte, and on which lines words stand. Cited by the lemmas of tokens.
use Rattle.std.proofs.Common.{◌≡◌, ℕ, suc, ◌+◌, ◌≤◌, Bool, true, false, cond, not, ◌==◌, List, [], ◌∷◌, All, refl, ap, arith}
use Rattle.std.specs.Char.{is_ascii_digit}
use Rattle.std.specs.List.{prefix_len}
use Rattle.std.proofs.lemmas.List.Elements.{All-cons, All-head, All-nil, All-tail}
use Rattle.text_scan.specs.declared.token.Front.{Front}
use Rattle.text_scan.specs.declared.token.Front.TheVariants as fronts
use Rattle.text_scan.specs.declared.token.Token.{Token}
use Rattle.text_scan.specs.declared.token.TokenKind.TheVariants.{Name, Number, Sign}
use Rattle.text_scan.specs.Lines.{Line, lines_of, with_word}
use Rattle.text_scan.specs.Tokens.{behind, is_comment_byte, is_name_byte}
use Rattle.text_scan.specs.Words.{word}
use Rattle.text_scan.proofs.LineFeeds.{other_byte}

-- more bytes pass a wider test
wider : (p q : ℕ → Bool) → ((b : ℕ) → p b ≡ true → q b ≡ true) → (bytes : List ℕ) → prefix_len p bytes ≤ prefix_len q bytes
wider p q more [] = omega arith
wider p q more (b ∷ bytes) = by_tests (p b) (q b) (more b) (wider p q more bytes)
  where
    by_tests : (t u : Bool) → (t ≡ true → u ≡ true) → prefix_len p bytes ≤ prefix_len q bytes → cond t (1 + prefix_len p bytes) 0 ≤ cond u (1 + prefix_len q bytes) 0
    by_tests true true both le = omega (arith, le)
    by_tests true false both le = absurd (let no = both refl in cc)
    by_tests false u both le = omega arith

other_is_comment : (p : ℕ → Bool) → p 10 ≡ false → (b : ℕ) → p b ≡ true → is_comment_byte b ≡ true
other_is_comment p fails b passes = ap not (other_byte p fails b passes)

-- nothing goes on over a line feed
pub on_its_line : (front : Front) (bytes : List ℕ) → behind front bytes ≤ prefix_len is_comment_byte bytes
on_its_line fronts.Comment bytes = omega arith
on_its_line (fronts.Token Name) bytes = wider is_name_byte is_comment_byte (other_is_comment is_name_byte refl) bytes
on_its_line (fronts.Token Number) bytes = wider is_ascii_digit is_comment_byte (other_is_comment is_ascii_digit refl) bytes
on_its_line (fronts.Token Sign) bytes = omega arith
on_its_line fronts.Blank bytes = omega arith
on_its_line fronts.Bad bytes = omega arith

pub one_passed : (passed b : ℕ) (bytes : List ℕ) → suc passed ≤ prefix_len is_comment_byte (b ∷ bytes) → passed ≤ prefix_len is_comment_byte bytes
one_passed passed b bytes le = by_test (is_comment_byte b) le
  where
    by_test : (t : Bool) → suc passed ≤ cond t (1 + prefix_len is_comment_byte bytes) 0 → passed ≤ prefix_len is_comment_byte bytes
    by_test true le = omega (arith, le)
    by_test false le = absurd (omega (arith, le))

-- lines of tokens are where these are: what holds of the lines of all tokens holds of the numbers of theirs
module _ (P : ℕ → Type 0) (bytes : List ℕ) where
  abbrev there : Line → Type 0
  there line = P line.number

  there-if : (b : Bool) (t : Token) (line : Line) (lines : List Line) → P t.line → All there (line ∷ lines)
      → All there (cond b (record { number = t.line; words = word bytes t ∷ line.words } ∷ lines) (record { number = t.line; words = word bytes t ∷ [] } ∷ line ∷ lines))
  there-if true t line lines here all = All-cons there (record { number = t.line; words = word bytes t ∷ line.words }) lines here (All-tail there line lines all)
  there-if false t line lines here all = All-cons there (record { number = t.line; words = word bytes t ∷ [] }) (line ∷ lines) here all

  there-with_word : (t : Token) (lines : List Line) → P t.line → All there lines → All there (with_word t.line (word bytes t) lines)
  there-with_word t [] here all = All-cons there (record { number = t.line; words = word bytes t ∷ [] }) [] here all
  there-with_word t (line ∷ lines) here all = there-if (line.number == t.line) t line lines here all

  pub numbers-lines_of : (tokens : List Token) → All (λ t. P t.line) tokens → All there (lines_of bytes tokens)
  numbers-lines_of [] all = All-nil there
  numbers-lines_of (t ∷ tokens) all = there-with_word t (lines_of bytes tokens) (All-head (λ (s : Token). P s.line) t tokens all) (numbers-lines_of tokens (All-tail (λ (s : Token). P s.line) t tokens all))
