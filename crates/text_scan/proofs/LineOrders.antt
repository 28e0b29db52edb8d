-- The lines of a text's tokens have words, and their numbers ascend up to the line of the text's end. Cited by the laws
-- of what reads line by line.
use Rattle.std.proofs.Common.{◌≡◌, ◌≢◌, ℕ, suc, ◌<◌, ◌≤◌, Bool, true, false, cond, not, ◌==◌, List, [], ◌∷◌, ◌++◌, length, All, AllPairs, IsTrue, refl, arith}
use Rattle.std.specs.List.{list_all}
use Rattle.std.proofs.lemmas.Bool.{and_parts, and_from, eqb-true, eqb-false, ne_eqb, not_from_false}
use Rattle.std.proofs.lemmas.List.Elements.{All-nil, All-cons, All-head, All-tail, All-weaker}
use Rattle.std.proofs.lemmas.List.Kept.{AllPairs-cons}
use Rattle.text_scan.specs.declared.token.Token.{Token}
use Rattle.text_scan.specs.LineOrder.{AreLines}
use Rattle.text_scan.specs.Lines.{Line, with_word, lines_of, end_line_of}
use Rattle.text_scan.specs.NormalTexts.{is_line}
use Rattle.text_scan.specs.Scanned.{AreTokens}
use Rattle.text_scan.specs.Words.{word, is_word}
use Rattle.text_scan.proofs.TokenParts.{AreTokens-drop}

-- ---- pairs of a list

AllPairs-head : {X : Type 0} (R : X → X → Type 0) (x : X) (xs : List X) → AllPairs R (x ∷ xs) → All (R x) xs
AllPairs-head R x xs pairs k d inside = pairs 0 (suc k) d (omega arith) (omega arith)

AllPairs-tail : {X : Type 0} (R : X → X → Type 0) (x : X) (xs : List X) → AllPairs R (x ∷ xs) → AllPairs R xs
AllPairs-tail R x xs pairs i j d before inside = pairs (suc i) (suc j) d (omega arith) (omega arith)

-- ---- words that can stand on a line

-- with a word in front they are such words, too
pub is_line-more : (w : List ℕ) (words : List (List ℕ)) → IsTrue (is_word w) → list_all is_word words ≡ true → IsTrue (is_line (w ∷ words))
is_line-more w words first others = and_from _ _ (not_from_false _ (ne_eqb (suc (length words)) 0 (λ none. omega arith))) (and_from _ _ first others)

-- each is the text of a token
pub is_line-words : (words : List (List ℕ)) → IsTrue (is_line words) → list_all is_word words ≡ true
is_line-words words line = (and_parts (not (length words == 0)) (list_all is_word words) line).1

-- ---- lines behind others

-- what holds of the first of some lines, and of those behind it
pub record IsLine (end : ℕ) (line : Line) (lines : List Line) : Type 0 where
  pub words : IsTrue (is_line line.words)
  pub last : line.number ≤ end
  pub ascending : All (λ l. line.number < l.number) lines
  pub others : AreLines end lines

pub AreLines-parts : {end : ℕ} {line : Line} {lines : List Line} → AreLines end (line ∷ lines) → IsLine end line lines
AreLines-parts {end} {line} {lines} are =
    let R : Line → Line → Type 0 = λ k l. k.number < l.number in
    let words : Line → Type 0 = λ l. IsTrue (is_line l.words) in
    let last : Line → Type 0 = λ l. l.number ≤ end in
    record {
      words = All-head words line lines are.words;
      last = All-head last line lines are.last;
      ascending = AllPairs-head R line lines are.ascending;
      others = record { words = All-tail words line lines are.words; ascending = AllPairs-tail R line lines are.ascending; last = All-tail last line lines are.last };
    }

pub AreLines-from_parts : {end : ℕ} {line : Line} {lines : List Line} → IsLine end line lines → AreLines end (line ∷ lines)
AreLines-from_parts {end} {line} {lines} is =
    let R : Line → Line → Type 0 = λ k l. k.number < l.number in
    record {
      words = All-cons (λ l. IsTrue (is_line l.words)) line lines is.words is.others.words;
      ascending = AllPairs-cons R line lines is.ascending is.others.ascending;
      last = All-cons (λ l. l.number ≤ end) line lines is.last is.others.last;
    }

pub AreLines-behind : {end : ℕ} (own rest : List Line) → AreLines end (own ++ rest) → AreLines end rest
AreLines-behind [] rest are = are
AreLines-behind (line ∷ own) rest are = AreLines-behind own rest (AreLines-parts are).others

-- a line that another follows isn't the last of its text
pub AreLines-inner : {end : ℕ} (line : Line) (lines : List Line) → AreLines end (line ∷ lines) → 0 < length lines → line.number ≢ end
AreLines-inner line [] are some = absurd (omega arith)
AreLines-inner line (next ∷ lines) are some =
    let here = AreLines-parts are in
    let below = here.ascending 0 next (omega arith) in
    let there = (AreLines-parts here.others).last in
    λ same. omega (arith, below, there)

-- ---- the lines of tokens

-- a word on a line that isn't behind others, before them
module _ (end number : ℕ) (w : List ℕ) (is : IsTrue (is_word w)) (within : number ≤ end) where
  joined : (line : Line) (lines : List Line) → line.number ≡ number → AreLines end (line ∷ lines) → AreLines end (record { number = number; words = w ∷ line.words } ∷ lines)
  joined line lines same are =
      let here = AreLines-parts are in
      AreLines-from_parts (record {
        words = is_line-more w line.words is (is_line-words line.words here.words);
        last = within;
        ascending = All-weaker (λ (l : Line). line.number < l.number) (λ (l : Line). number < l.number) (λ l below. omega (arith, below)) lines here.ascending;
        others = here.others;
      })

  before : (line : Line) (lines : List Line) → line.number ≢ number → number ≤ line.number → AreLines end (line ∷ lines) → AreLines end (record { number = number; words = w ∷ [] } ∷ line ∷ lines)
  before line lines other le are =
      let here = AreLines-parts are in
      let first : number < line.number = omega arith in
      AreLines-from_parts (record {
        words = is_line-more w [] is refl;
        last = within;
        ascending = All-cons (λ (l : Line). number < l.number) line lines first (All-weaker (λ (l : Line). line.number < l.number) (λ (l : Line). number < l.number) (λ l below. omega (arith, below)) lines here.ascending);
        others = are;
      })

  by_test : (line : Line) (lines : List Line) (b : Bool) → (line.number == number) ≡ b → number ≤ line.number → AreLines end (line ∷ lines)
      → AreLines end (cond b (record { number = number; words = w ∷ line.words } ∷ lines) (record { number = number; words = w ∷ [] } ∷ line ∷ lines))
  by_test line lines true same le are = joined line lines (eqb-true _ _ same) are
  by_test line lines false other le are = before line lines (eqb-false _ _ other) le are

  AreLines-with_word : (lines : List Line) → All (λ l. number ≤ l.number) lines → AreLines end lines → AreLines end (with_word number w lines)
  AreLines-with_word [] above are = AreLines-from_parts (record { words = is_line-more w [] is refl; last = within; ascending = All-nil (λ (l : Line). number < l.number); others = are })
  AreLines-with_word (line ∷ lines) above are = by_test line lines (line.number == number) refl (All-head (λ (l : Line). number ≤ l.number) line lines above) are

-- lines are where their tokens are
module _ (n : ℕ) where
  abbrev above : Line → Type 0
  above line = n ≤ line.number

  above-if : (b : Bool) (number : ℕ) (w : List ℕ) (line : Line) (lines : List Line) → n ≤ number → All above (line ∷ lines)
      → All above (cond b (record { number = number; words = w ∷ line.words } ∷ lines) (record { number = number; words = w ∷ [] } ∷ line ∷ lines))
  above-if true number w line lines here all = All-cons above (record { number = number; words = w ∷ line.words }) lines here (All-tail above line lines all)
  above-if false number w line lines here all = All-cons above (record { number = number; words = w ∷ [] }) (line ∷ lines) here all

  above-with_word : (number : ℕ) (w : List ℕ) (lines : List Line) → n ≤ number → All above lines → All above (with_word number w lines)
  above-with_word number w [] here all = All-cons above (record { number = number; words = w ∷ [] }) [] here all
  above-with_word number w (line ∷ lines) here all = above-if (line.number == number) number w line lines here all

  above-lines_of : (bytes : List ℕ) (tokens : List Token) → All (λ t. n ≤ t.line) tokens → All above (lines_of bytes tokens)
  above-lines_of bytes [] all = All-nil above
  above-lines_of bytes (t ∷ tokens) all =
      above-with_word t.line (word bytes t) (lines_of bytes tokens) (All-head (λ (s : Token). n ≤ s.line) t tokens all) (above-lines_of bytes tokens (All-tail (λ (s : Token). n ≤ s.line) t tokens all))

-- the lines of a text's tokens
pub AreLines-from_tokens : (first_line : ℕ) (bytes : List ℕ) (tokens : List Token) → AreTokens first_line bytes tokens → AreLines (end_line_of first_line bytes) (lines_of bytes tokens)
AreLines-from_tokens first_line bytes [] are = record { words = All-nil (λ (l : Line). IsTrue (is_line l.words)); ascending = λ i j d before inside. absurd (omega arith); last = All-nil (λ (l : Line). l.number ≤ end_line_of first_line bytes) }
AreLines-from_tokens first_line bytes (t ∷ tokens) are =
    let others = AreLines-from_tokens first_line bytes tokens (AreTokens-drop 1 are) in
    let not_below = above-lines_of t.line bytes tokens (AllPairs-head (λ (s u : Token). s.line ≤ u.line) t tokens are.lines) in
    AreLines-with_word _ t.line (word bytes t) (are.words 0 t (omega arith)) (are.last 0 t (omega arith)) (lines_of bytes tokens) not_below others
