-- How many line feeds bytes have.
use Rattle.std.proofs.Common.{◌≡◌, ℕ, ◌+◌, Bool, true, false, ◌==◌, List, [], ◌∷◌, ◌++◌, length, refl, sym, ap, ◌∙◌, length-append}
use Rattle.std.specs.List.{filter, list_all}
use Rattle.std.proofs.lemmas.Bool.{eqb-true, and_parts}
use Rattle.std.proofs.lemmas.List.Elements.{filter-append}

abbrev pub line_feeds : List ℕ → ℕ
line_feeds bytes = length (filter (λ b. b == 10) bytes)

pub line_feeds-append : (xs ys : List ℕ) → line_feeds (xs ++ ys) ≡ line_feeds xs + line_feeds ys
line_feeds-append xs ys = ap length (filter-append (λ b. b == 10) xs ys) ∙ length-append (filter (λ b. b == 10) xs) (filter (λ b. b == 10) ys)

-- a byte that passes a test which a line feed doesn't
pub other_byte : (p : ℕ → Bool) → p 10 ≡ false → (b : ℕ) → p b ≡ true → (b == 10) ≡ false
other_byte p fails b passes = by_test (b == 10) refl
  where
    by_test : (t : Bool) → (b == 10) ≡ t → t ≡ false
    by_test true same = let passes_too : p 10 ≡ true = ap p (sym (eqb-true b 10 same)) ∙ passes in absurd cc
    by_test false same = refl

-- bytes that all pass such a test
pub line_feeds-none : (p : ℕ → Bool) → p 10 ≡ false → (bytes : List ℕ) → list_all p bytes ≡ true → line_feeds bytes ≡ 0
line_feeds-none p fails [] all = refl
line_feeds-none p fails (b ∷ bytes) all =
    let both = and_parts (p b) (list_all p bytes) all in
    rw (other_byte p fails b both.0) (line_feeds-none p fails bytes both.1)
