-- Steps of the loops that go along the tokens of an equation.
use Rattle.std.proofs.Common.{◌≡◌, ℕ, ◌+◌, ◌<◌, ◌≤◌, true, false, List, [], ◌∷◌, ◌++◌, length, drop, get_or, codes, Option, Some, None, Ok, Err, refl, sym, ap, ◌∙◌, arith, length-drop}
use Rattle.std.specs.Option.{option_map}
use Rattle.std.proofs.lemmas.List.{drop-drop, drop-map, length-map}
use Rattle.text_scan.specs.Names.{number_of}
use Rattle.byte_texts.specs.Reading.{EndsWith, some_or}
use Rattle.text_scan.specs.FaultKinds.{Syntax}
use Rattle.text_scan.specs.Faults.{Fault, ◌on◌}
use Rattle.text_scan.specs.Words.{is_name}
use Rattle.operation_spec.specs.declared.equation.Product.{Product}
use Rattle.operation_spec.specs.declared.equation.LeftSide.{LeftSide}
use Rattle.operation_spec.specs.declared.equation.Equation.{Equation}
use Rattle.operation_spec.specs.declared.marked_words.MarkedWord.{MarkedWord}
use Rattle.operation_spec.specs.Equations.{Marked, is_plain, products_of, with_right}
use Rattle.operation_spec.specs.MarkedWords.{marked_word, marked_words, signed_at}
use Rattle.operation_spec.proofs.EquationReading.{no_signed, signed_more, with_front}

-- ---- marks

-- ---- products

-- a product more
pub product_more : (names : List (List ℕ)) (front : List Product) (words : List MarkedWord) (at : ℕ) (p : Product) → Some p ≡ signed_at names (marked_words (drop at words))
    → with_front (front ++ p ∷ []) (products_of names (marked_words (drop (at + 4) words))) ≡ with_front front (products_of names (marked_words (drop at words)))
product_more names front words at p e =
    let behind : marked_words (drop (at + 4) words) ≡ drop 4 (marked_words (drop at words)) = ap marked_words (sym (drop-drop 4 at words)) ∙ sym (drop-map marked_word 4 (drop at words)) in
    rw behind (signed_more names front (marked_words (drop at words)) p e)

-- none is left where words are
pub none_more : (names : List (List ℕ)) (words : List MarkedWord) (at : ℕ) → at < length words → None ≡ signed_at names (marked_words (drop at words)) → products_of names (marked_words (drop at words)) ≡ None
none_more names words at inside e = no_signed names (marked_words (drop at words)) (omega (arith, length-map (drop at words) marked_word, length-drop at words)) e

-- where no product follows, it is a fault
pub refused : (names : List (List ℕ)) (front : List Product) (left all : List Marked) (number : ℕ) → with_front front (products_of names left) ≡ products_of names all → products_of names left ≡ None
    → some_or (Syntax on number) (products_of names all) ≡ Err (Syntax on number)
refused names front left all number so_far none = rw (← so_far, none) refl

-- ---- right sides

-- the equation of these products
abbrev pub equation_with : List (List ℕ) → LeftSide → List ℕ → List Product → Equation
equation_with names left w products = record { left = left; first = number_of names w; products = products }

-- the right side's words, one by one
pub right_words : (names : List (List ℕ)) (left : LeftSide) (words : List MarkedWord) (d : MarkedWord) → 2 ≤ length words
    → is_plain (codes "=") (marked_word (get_or words 0 d)) ≡ true → (get_or words 1 d).primed ≡ false → is_name (get_or words 1 d).word.now ≡ true
    → with_right names (Some (record { left = left; rest = marked_words words })) ≡ option_map (equation_with names left (get_or words 1 d).word.now) (products_of names (marked_words (drop 2 words)))
right_words names left [] d two equals plain name = absurd (omega arith)
right_words names left (a ∷ []) d two equals plain name = absurd (omega arith)
right_words names left (a ∷ w ∷ rest) d two equals plain name = by_read (products_of names (marked_words rest)) refl
  where
    by_read : (read : Option (List Product)) → products_of names (marked_words rest) ≡ read
        → with_right names (Some (record { left = left; rest = marked_words (a ∷ w ∷ rest) })) ≡ option_map (equation_with names left w.word.now) read
    by_read None e = rw (equals, plain, name, e) refl
    by_read (Some products) e = rw (equals, plain, name, e) refl

-- the equation of the products that were read
pub equation_of_products : (names : List (List ℕ)) (left : LeftSide) (w : List ℕ) (number : ℕ) (read : Option (List Product)) (whole : Option Equation) (products : List Product)
    → whole ≡ option_map (equation_with names left w) read → some_or (Syntax on number) read ≡ Ok products → some_or (Syntax on number) whole ≡ Ok (equation_with names left w products)
equation_of_products names left w number None whole products e is = absurd cc
equation_of_products names left w number (Some read) whole products e is = let same : read ≡ products = cc in rw e (ap (λ (ps : List Product). Ok (equation_with names left w ps)) same)

-- its fault is that of its products
pub fault_of_products : (names : List (List ℕ)) (left : LeftSide) (w : List ℕ) (number : ℕ) (fault : Option Fault) (read : Option (List Product)) (whole : Option Equation)
    → whole ≡ option_map (equation_with names left w) read → EndsWith fault (some_or (Syntax on number) read) → EndsWith fault (some_or (Syntax on number) whole)
fault_of_products names left w number None read whole e ends = tt
fault_of_products names left w number (Some fault) None whole e ends = let same : Syntax on number ≡ fault = cc in rw e (ap (λ (f : Fault). Err f) same)
fault_of_products names left w number (Some fault) (Some products) whole e ends = absurd cc

-- a right side has two words at least
pub no_right_side : (names : List (List ℕ)) (left : LeftSide) (words : List MarkedWord) → length words < 2 → with_right names (Some (record { left = left; rest = marked_words words })) ≡ None
no_right_side names left [] short = refl
no_right_side names left (a ∷ []) short = refl
no_right_side names left (a ∷ b ∷ rest) short = absurd (omega arith)
