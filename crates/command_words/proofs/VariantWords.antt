-- Numbers of variants as one word, with a comma between each two.
use Rattle.std.proofs.Common.{◌≡◌, ◌≢◌, Bor, inl, inr, ◌⊎◌, ℕ, suc, ◌+◌, ◌<◌, ◌≤◌, ◌^◌, false, nat_eq, List, [], ◌∷◌, ◌++◌, length, get_or, take, refl, sym, ap, ◌∙◌, lit<, arith}
use Rattle.std.specs.Prelude.{All, map}
use Rattle.std.specs.Fmt.{decimal}
use Rattle.std.specs.List.{join_with_byte, slice_split}
use Rattle.std.specs.Str.Parse.{AllDigits, digits_value}
use Rattle.std.specs.Char.{digit_value}
use Rattle.std.proofs.lemmas.Bool.Decides.{nat_tests}
use Rattle.std.proofs.lemmas.Fmt.{decimal_injective, digits_decimal}
use Rattle.std.proofs.lemmas.List.{get_or-map, length-map, map-append, take_all, take_more}
use Rattle.std.proofs.lemmas.List.Elements.{All-append, All-cons, All-nil}
use Rattle.std.proofs.lemmas.List.Splits.{join_with_byte-slice_split, length-slice_split, slice_split_at, slice_split_none}
use Rattle.std.proofs.lemmas.Str.Parse.{IsNumeralModel, digit_from_value, numerals_by_value, tells_digits}
use Rattle.command_words.specs.Words.{AreVariants, variants_word}
use Rattle.command_words.proofs.NumberWords.{InRangeOrNone, in_range_or_none}

by_digits : IsNumeralModel (AllDigits 10) (digits_value 10)
by_digits = numerals_by_value (AllDigits 10) tells_digits

-- ---- digits are no commas

no_comma : (d : ℕ) → digit_value d < 10 → nat_eq d 44 ≡ false
no_comma d below = let in_range = digit_from_value d below in grind (arith, nat_tests)

no_commas : (ds : List ℕ) → AllDigits 10 ds → All (λ b. nat_eq b 44 ≡ false) ds
no_commas [] digits = All-nil (λ b. nat_eq b 44 ≡ false)
no_commas (d ∷ ds) digits = All-cons (λ b. nat_eq b 44 ≡ false) d ds (no_comma d digits.0) (no_commas ds digits.1)

no_comma_in : (n : ℕ) → n < 2 ^ 64 → All (λ b. nat_eq b 44 ≡ false) (decimal n)
no_comma_in n below = no_commas (decimal n) (digits_decimal by_digits n below)

-- ---- the pieces of the word are the numbers

abbrev pub pieces_of : List ℕ → List (List ℕ)
pieces_of word = slice_split (λ b. nat_eq b 44) word

abbrev AreNumbers : List ℕ → Type 0
AreNumbers numbers = All (λ v. v < 2 ^ 64) numbers

pub pieces-of_numbers : (v : ℕ) (more : List ℕ) → AreNumbers (v ∷ more) → pieces_of (variants_word (v ∷ more)) ≡ map decimal (v ∷ more)
pieces-of_numbers v [] below = slice_split_none (λ b. nat_eq b 44) (decimal v) (no_comma_in v (below 0 0 (omega arith)))
pieces-of_numbers v (w ∷ more) below =
    slice_split_at (λ b. nat_eq b 44) (decimal v) 44 (variants_word (w ∷ more)) (no_comma_in v (below 0 0 (omega arith))) refl
    ∙ ap (λ (l : List (List ℕ)). decimal v ∷ l) (pieces-of_numbers w more (λ k d lt. below (suc k) d (omega arith)))

pub numbers_below : (numbers : List ℕ) → AreVariants numbers → AreNumbers numbers
numbers_below numbers are k d below = omega (arith, (are.each k d below).1)

-- the pieces of the word of numbers
pub pieces-of_variants : (word numbers : List ℕ) → AreVariants numbers → word ≡ variants_word numbers → pieces_of word ≡ map decimal numbers
pieces-of_variants word [] are is = let some = are.some in absurd (omega arith)
pieces-of_variants word (v ∷ more) are is = ap pieces_of is ∙ pieces-of_numbers v more (numbers_below (v ∷ more) are)

-- a word whose pieces are numbers
pub variants-from_pieces : (word numbers : List ℕ) → pieces_of word ≡ map decimal numbers → word ≡ variants_word numbers
variants-from_pieces word numbers pieces = sym (join_with_byte-slice_split 44 word) ∙ ap (join_with_byte 44) pieces

-- ---- reading piece by piece

abbrev AreInRange : List ℕ → Type 0
AreInRange numbers = All (λ v. (1 ≤ v) × (v < 2 ^ 32)) numbers

-- the numbers are those of the first k pieces of the word
pub record AreRead (word : List ℕ) (pieces : List (List ℕ)) (k : ℕ) (numbers : List ℕ) : Type 0 where
  pub of_word : pieces ≡ pieces_of word
  pub so_far : map decimal numbers ≡ take k pieces
  pub each : AreInRange numbers

pub read_none : (word : List ℕ) (pieces : List (List ℕ)) → pieces ≡ pieces_of word → AreRead word pieces 0 []
read_none word pieces is = record { of_word = is; so_far = refl; each = All-nil (λ v. (1 ≤ v) × (v < 2 ^ 32)) }

one_in_range : (n : ℕ) → 1 ≤ n → n < 2 ^ 32 → AreInRange (n ∷ [])
one_in_range n from to = All-cons (λ v. (1 ≤ v) × (v < 2 ^ 32)) n [] (from, to) (All-nil (λ v. (1 ≤ v) × (v < 2 ^ 32)))

-- one piece more
pub read_more : (word : List ℕ) (pieces : List (List ℕ)) (k : ℕ) (numbers : List ℕ) (piece : List ℕ) (n : ℕ)
    → AreRead word pieces k numbers → k < length pieces → piece ≡ get_or pieces k [] → piece ≡ decimal n → 1 ≤ n → n < 2 ^ 32
    → AreRead word pieces (k + 1) (numbers ++ n ∷ [])
read_more word pieces k numbers piece n so_far below is named from to = record {
  of_word = so_far.of_word;
  so_far = map-append decimal numbers (n ∷ []) ∙ ap (λ (l : List (List ℕ)). l ++ decimal n ∷ []) so_far.so_far
      ∙ sym (take_more pieces k [] below ∙ ap (λ (p : List ℕ). take k pieces ++ p ∷ []) (sym is ∙ named));
  each = All-append (λ v. (1 ≤ v) × (v < 2 ^ 32)) numbers (n ∷ []) so_far.each (one_in_range n from to);
}

-- all pieces
pub read_all : (word : List ℕ) (pieces : List (List ℕ)) (k : ℕ) (numbers : List ℕ) → AreRead word pieces k numbers → length pieces ≤ k
    → AreVariants numbers × (word ≡ variants_word numbers)
read_all word pieces k numbers all end =
    let are : map decimal numbers ≡ pieces = all.so_far ∙ take_all k pieces end in
    let some : 1 ≤ length (pieces_of word) = omega (arith, length-slice_split (λ b. nat_eq b 44) word) in
    let count : length numbers ≡ length (pieces_of word) = sym (length-map numbers decimal) ∙ ap length (are ∙ all.of_word) in
    (record { some = omega arith; each = all.each }, variants-from_pieces word numbers (sym (are ∙ all.of_word)))

-- a piece that is no number in the range
pub bad_piece : (word : List ℕ) (pieces : List (List ℕ)) (k : ℕ) (piece : List ℕ) → pieces ≡ pieces_of word → k < length pieces
    → piece ≡ get_or pieces k [] → ((n : ℕ) → 1 ≤ n → n ≤ 4294967295 → piece ≢ decimal n)
    → (numbers : List ℕ) → AreVariants numbers → word ≢ variants_word numbers
bad_piece word pieces k piece of_word below is none numbers are named =
    let all : pieces ≡ map decimal numbers = of_word ∙ pieces-of_variants word numbers are named in
    let within : k < length numbers = omega (arith, ap length all, length-map numbers decimal) in
    let range = are.each k 0 within in
    let found : get_or pieces k [] ≡ decimal (get_or numbers k 0) =
    ap (λ (l : List (List ℕ)). get_or l k []) all ∙ get_or-map decimal numbers k 0 [] within in
    none (get_or numbers k 0) range.0 (omega (arith, range.1)) (is ∙ found)

-- texts that are lent, as lists of bytes, and one of them
abbrev pub texts : List (Bor (List ℕ)) → List (List ℕ)
texts items = map (λ x. x.now) items

pub text_at : (items : List (Bor (List ℕ))) (k : ℕ) (d : Bor (List ℕ)) → k < length items
    → (get_or items k d).now ≡ get_or (texts items) k []
text_at items k d below = sym (get_or-map (λ (x : Bor (List ℕ)). x.now) items k d [] below)

-- ---- each word is such a list, or none

abbrev pub VariantsOrNone : List ℕ → Type 0
VariantsOrNone word = ((numbers : List ℕ) × AreVariants numbers × (word ≡ variants_word numbers))
    ⊎ ((numbers : List ℕ) → AreVariants numbers → word ≢ variants_word numbers)

abbrev AllOrNone : List (List ℕ) → Type 0
AllOrNone pieces = ((numbers : List ℕ) × AreInRange numbers × (map decimal numbers ≡ pieces))
    ⊎ ((numbers : List ℕ) → AreInRange numbers → map decimal numbers ≢ pieces)

bad_first : (piece : List ℕ) (pieces : List (List ℕ)) → ((n : ℕ) → 1 ≤ n → n ≤ 4294967295 → piece ≢ decimal n)
    → (numbers : List ℕ) → AreInRange numbers → map decimal numbers ≢ piece ∷ pieces
bad_first piece pieces none [] are named = absurd cc
bad_first piece pieces none (n ∷ more) are named =
    let range = are 0 0 (omega arith) in
    none n range.0 (omega (arith, range.1)) (cc)

bad_rest : (piece : List ℕ) (pieces : List (List ℕ)) → ((numbers : List ℕ) → AreInRange numbers → map decimal numbers ≢ pieces)
    → (numbers : List ℕ) → AreInRange numbers → map decimal numbers ≢ piece ∷ pieces
bad_rest piece pieces none [] are named = absurd cc
bad_rest piece pieces none (n ∷ more) are named = none more (λ k d below. are (suc k) d (omega arith)) (cc)

all_or_none : (pieces : List (List ℕ)) → AllOrNone pieces
all_or_none [] = inl ([], All-nil (λ v. (1 ≤ v) × (v < 2 ^ 32)), refl)
all_or_none (piece ∷ pieces) = go (in_range_or_none 1 4294967295 piece (lit< tt)) (all_or_none pieces)
  where
    go : InRangeOrNone 1 4294967295 piece → AllOrNone pieces → AllOrNone (piece ∷ pieces)
    go (inr none) rest = inr (bad_first piece pieces none)
    go (inl (n, from, to, is)) (inr none) = inr (bad_rest piece pieces none)
    go (inl (n, from, to, is)) (inl (numbers, are, all)) =
        inl (n ∷ numbers, All-cons (λ v. (1 ≤ v) × (v < 2 ^ 32)) n numbers (from, omega arith) are, λ i. sym is i ∷ all i)

pub variants_or_none : (word : List ℕ) → VariantsOrNone word
variants_or_none word = go (all_or_none (pieces_of word))
  where
    go : AllOrNone (pieces_of word) → VariantsOrNone word
    go (inr none) = inr (λ numbers are named. none numbers are.each (sym (pieces-of_variants word numbers are named)))
    go (inl (numbers, are, all)) =
        let read : AreRead word (pieces_of word) (length (pieces_of word)) numbers =
        record { of_word = refl; so_far = all ∙ sym (take_all (length (pieces_of word)) (pieces_of word) (omega arith)); each = are } in
        let found = read_all word (pieces_of word) (length (pieces_of word)) numbers read (omega arith) in
        inl (numbers, found.0, found.1)

-- ---- two lists of numbers with one word

same_numbers : (xs ys : List ℕ) → AreNumbers xs → AreNumbers ys → map decimal xs ≡ map decimal ys → xs ≡ ys
same_numbers [] [] a b e = refl
same_numbers [] (y ∷ ys) a b e = absurd cc
same_numbers (x ∷ xs) [] a b e = absurd cc
same_numbers (x ∷ xs) (y ∷ ys) a b e =
    let first = decimal_injective x y (a 0 0 (omega arith)) (b 0 0 (omega arith)) (cc) in
    let rest = same_numbers xs ys (λ k d below. a (suc k) d (omega arith)) (λ k d below. b (suc k) d (omega arith)) (cc) in
    λ i. first i ∷ rest i

pub same_variants : (xs ys : List ℕ) → AreVariants xs → AreVariants ys → variants_word xs ≡ variants_word ys → xs ≡ ys
same_variants xs ys a b e =
    same_numbers xs ys (numbers_below xs a) (numbers_below ys b)
    (sym (pieces-of_variants (variants_word xs) xs a refl) ∙ pieces-of_variants (variants_word xs) ys b e)
