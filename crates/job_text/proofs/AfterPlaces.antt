-- Where the second part of an input begins: it is a place of the bytes, and the bytes from it on have tokens. Cited by its
-- reader and by the laws.
use Rattle.std.proofs.Common.{◌≡◌, ℕ, zero, suc, ◌+◌, ◌-◌, ◌<◌, ◌≤◌, ◌⊎◌, inl, inr, Bool, true, false, cond, not, ◌==◌, List, [], ◌∷◌, length, take, drop, get_or, All, refl, sym, ap, subst, arith, length-take}
use Rattle.std.proofs.lemmas.Bool.{eqb-true}
use Rattle.std.proofs.lemmas.List.{drop_all, take_all}
use Rattle.std.proofs.lemmas.List.Elements.{All-cons, All-head, All-nil, All-tail}
use Rattle.std.proofs.lemmas.List.Filters.{length-filter_both}
use Rattle.text_scan.specs.declared.Rest.{Rest}
use Rattle.text_scan.specs.declared.token.Token.{Token}
use Rattle.text_scan.specs.Lines.{Line, end_line_of, lines_of, with_word}
use Rattle.text_scan.specs.Tokens.{tokens_from}
use Rattle.text_scan.specs.Words.{word}
use Rattle.text_scan.proofs.LineFeeds.{line_feeds}
use Rattle.text_scan.proofs.LineOrders.{AreLines-from_tokens}
use Rattle.text_scan.proofs.ScannedTokens.{AreTokens-scanned}
use Rattle.equation.specs.declared.job.Job.{Job}
use Rattle.job_text.specs.declared.stop.Stop.{Stop}
use Rattle.job_text.specs.AfterBlocks.{IsPlace}
use Rattle.job_text.specs.AfterFaults.{after_at, after_in}
use Rattle.job_text.specs.SpelledJobs.{HasRest, is_stop_line, place_behind, rest_of}

-- ---- its line

line_feeds-few : (bytes : List ℕ) → line_feeds bytes ≤ length bytes
line_feeds-few bytes = omega (arith, length-filter_both (λ b. b == 10) (λ b. not (b == 10)) (λ b. refl) bytes)

-- where bytes are left, the line isn't the last that a text may have
pub line_below : (bytes : List ℕ) (rest : Rest) → IsPlace bytes rest → rest.at < length bytes → rest.line ≤ length bytes
line_below bytes rest is some = omega (arith, is.line, line_feeds-few (take rest.at bytes), length-take rest.at bytes)

-- where none is left
pub at_end : (bytes : List ℕ) (rest : Rest) (job : Job) → rest.at ≡ length bytes → after_in bytes rest job ≡ after_at rest.line job []
unfolding tokens_from
at_end bytes rest job end =
    let none : drop rest.at bytes ≡ [] = drop_all rest.at bytes (omega arith) in
    let line : rest.line + 0 ≡ rest.line = omega arith in
    rw none (ap (λ n. after_at n job []) line)

-- ---- behind so many line feeds

record IsBehindFeeds (feeds : ℕ) (bytes : List ℕ) (at : ℕ) : Type 0 where
  within : at ≤ length bytes
  begins : (at ≡ 0) ⊎ (get_or bytes (at - 1) 0 ≡ 10)
  feeds_are : line_feeds (take at bytes) ≡ feeds

-- a byte before a place
byte_before : (b : ℕ) (bytes : List ℕ) (feeds more at : ℕ) → (b ≡ 10) ⊎ (0 < at) → line_feeds (b ∷ take at bytes) ≡ more → IsBehindFeeds feeds bytes at → IsBehindFeeds more (b ∷ bytes) (at + 1)
byte_before b bytes feeds more zero (inl is) count place = record { within = omega arith; begins = inr is; feeds_are = count }
byte_before b bytes feeds more zero (inr some) count place = absurd (omega (arith, some))
byte_before b bytes feeds more (suc at) first count place =
    let one : suc at + 1 ≡ suc (suc at) = omega arith in
    let less : suc (suc at) - 1 ≡ suc at = omega arith in
    rw one (record { within = omega (arith, place.within); begins = inr (rw less (here place.begins)); feeds_are = count })
  where
    here : (suc at ≡ 0) ⊎ (get_or bytes (suc at - 1) 0 ≡ 10) → get_or bytes at 0 ≡ 10
    here (inl none) = absurd (omega (arith, none))
    here (inr is) = let e : suc at - 1 ≡ at = omega arith in rw e at is

-- where a place behind feeds has one, bytes stand before it
some_before : (feeds : ℕ) (bytes : List ℕ) (at : ℕ) → line_feeds (take at bytes) ≡ suc feeds → 0 < at
some_before feeds bytes zero count = absurd (omega (arith, count))
some_before feeds bytes (suc at) count = omega arith

one_byte : (feeds b : ℕ) (bytes : List ℕ) (t : Bool) → (b == 10) ≡ t → suc feeds ≤ line_feeds (b ∷ bytes) → (feeds ≤ line_feeds bytes → IsBehindFeeds feeds bytes (place_behind feeds bytes))
    → (suc feeds ≤ line_feeds bytes → IsBehindFeeds (suc feeds) bytes (place_behind (suc feeds) bytes))
    → IsBehindFeeds (suc feeds) (b ∷ bytes) (cond t (place_behind feeds bytes) (place_behind (suc feeds) bytes) + 1)
one_byte feeds b bytes true is enough fewer same =
    let more : line_feeds (b ∷ bytes) ≡ suc (line_feeds bytes) = rw is refl in
    let place = fewer (omega (arith, enough, more)) in
    byte_before b bytes feeds (suc feeds) (place_behind feeds bytes) (inl (eqb-true b 10 is)) (rw is (ap suc place.feeds_are)) place
one_byte feeds b bytes false other enough fewer same =
    let none : line_feeds (b ∷ bytes) ≡ line_feeds bytes = rw other refl in
    let place = same (omega (arith, enough, none)) in
    byte_before b bytes (suc feeds) (suc feeds) (place_behind (suc feeds) bytes) (inr (some_before feeds bytes (place_behind (suc feeds) bytes) place.feeds_are)) (rw other place.feeds_are) place

place_of_feeds : (feeds : ℕ) (bytes : List ℕ) → feeds ≤ line_feeds bytes → IsBehindFeeds feeds bytes (place_behind feeds bytes)
place_of_feeds zero bytes enough = record { within = omega arith; begins = inl refl; feeds_are = refl }
place_of_feeds (suc feeds) [] enough = absurd (omega (arith, enough))
place_of_feeds (suc feeds) (b ∷ bytes) enough = one_byte feeds b bytes (b == 10) refl enough (place_of_feeds feeds bytes) (place_of_feeds (suc feeds) bytes)

-- ---- the second part of an input that a job was read from

-- lines of tokens are where these are
module _ (n : ℕ) (bytes : List ℕ) where
  abbrev above : Line → Type 0
  above line = n ≤ line.number

  above-if : (b : Bool) (t : Token) (line : Line) (lines : List Line) → n ≤ t.line → All above (line ∷ lines)
      → All above (cond b (record { number = t.line; words = word bytes t ∷ line.words } ∷ lines) (record { number = t.line; words = word bytes t ∷ [] } ∷ line ∷ lines))
  above-if true t line lines here all = All-cons above (record { number = t.line; words = word bytes t ∷ line.words }) lines here (All-tail above line lines all)
  above-if false t line lines here all = All-cons above (record { number = t.line; words = word bytes t ∷ [] }) (line ∷ lines) here all

  above-with_word : (t : Token) (lines : List Line) → n ≤ t.line → All above lines → All above (with_word t.line (word bytes t) lines)
  above-with_word t [] here all = All-cons above (record { number = t.line; words = word bytes t ∷ [] }) [] here all
  above-with_word t (line ∷ lines) here all = above-if (line.number == t.line) t line lines here all

  above-lines_of : (tokens : List Token) → All (λ t. n ≤ t.line) tokens → All above (lines_of bytes tokens)
  above-lines_of [] all = All-nil above
  above-lines_of (t ∷ tokens) all = above-with_word t (lines_of bytes tokens) (All-head (λ (s : Token). n ≤ s.line) t tokens all) (above-lines_of tokens (All-tail (λ (s : Token). n ≤ s.line) t tokens all))

-- the beginning of a line with tokens
place_of_line : (bytes : List ℕ) (number : ℕ) → 1 ≤ number → number ≤ end_line_of 1 bytes → IsPlace bytes (record { at = place_behind (number - 1) bytes; line = number })
place_of_line bytes number first last =
    let place = place_of_feeds (number - 1) bytes (omega (arith, first, last)) in
    record { within = place.within; begins = inr place.begins; line = omega (arith, first, place.feeds_are) }

rest_is_place : (stop : Stop) (bytes : List ℕ) (lines : List Line) → All (λ line. 1 ≤ line.number) lines → All (λ line. line.number ≤ end_line_of 1 bytes) lines → IsPlace bytes (rest_of stop bytes lines)
rest_is_place stop bytes [] first last = record { within = omega arith; begins = inl refl; line = ap (end_line_of 1) (sym (take_all (length bytes) bytes (omega arith))) }
rest_is_place stop bytes (line ∷ lines) first last = by_test (is_stop_line stop line.words)
    (place_of_line bytes line.number (All-head (λ (l : Line). 1 ≤ l.number) line lines first) (All-head (λ (l : Line). l.number ≤ end_line_of 1 bytes) line lines last))
    (rest_is_place stop bytes lines (All-tail (λ (l : Line). 1 ≤ l.number) line lines first) (All-tail (λ (l : Line). l.number ≤ end_line_of 1 bytes) line lines last))
  where
    by_test : (b : Bool) → IsPlace bytes (record { at = place_behind (line.number - 1) bytes; line = line.number }) → IsPlace bytes (rest_of stop bytes lines)
        → IsPlace bytes (cond b (record { at = place_behind (line.number - 1) bytes; line = line.number }) (rest_of stop bytes lines))
    by_test true here others = here
    by_test false here others = others

pub second_part_place : (bytes : List ℕ) (stop : Stop) (rest : Rest) → HasRest bytes stop rest → IsPlace bytes rest
second_part_place bytes stop rest has =
    let are = AreTokens-scanned 1 bytes has.tokens has.scanned in
    let lines = lines_of bytes has.tokens in
    subst (IsPlace bytes) (sym has.begins) (rest_is_place stop bytes lines (above-lines_of 1 bytes has.tokens are.first) (AreLines-from_tokens 1 bytes has.tokens are).last)
