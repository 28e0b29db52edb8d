-- The lines of a worksheet that name dimensions are read as these. Cited by the reader of all lines.
use Rattle.std.proofs.Common.{◌≡◌, ◌≢◌, ℕ, ◌<◌, Bool, true, false, nat_le, ◌||◌, List, [], ◌∷◌, ◌++◌, length, map, Option, Some, None, Ok, All, AllPairs, IsTrue, refl, arith}
use Rattle.std.specs.Prelude.{codes}
use Rattle.std.specs.Str.{bytes_eq}
use Rattle.std.proofs.lemmas.Bool.Decides.{nat_tests}
use Rattle.text_scan.specs.Names.{is_among, number_of}
use Rattle.text_scan.specs.Words.{is_name}
use Rattle.operation_spec.specs.declared.operation.Operation.{Operation}
use Rattle.operation_spec.specs.declared.split.Dir.{Dir}
use Rattle.operation_spec.specs.declared.split.Dir.TheVariants.{Forward, Backward}
use Rattle.operation_spec.specs.Splits.{IsSplit}
use Rattle.operation_spec.proofs.NamesApart.{bytes_eq-same, is_among-nth, number_of-nth}
use Rattle.task_texts.specs.DimTexts.{dim_name, dir_text}
use Rattle.worksheet.specs.declared.sheet.End.{End}
use Rattle.worksheet_text.specs.SheetReading.{dir_of_word, ends_at, guard_at, split_at}
use Rattle.worksheet_text.specs.SheetTexts.{end_text}
use Rattle.worksheet_laws.specs.SheetLines.{along_words, ends_words, second_words}
use Rattle.worksheet_laws.specs.SpelledSheets.{AreEnds, AreOneOrTwo}

-- ---- single words

dir_passes : (dir : Dir) → (bytes_eq (dir_text dir) (codes "forward") || bytes_eq (dir_text dir) (codes "backward")) ≡ true
dir_passes Forward = refl
dir_passes Backward = refl

dir_again : (dir : Dir) → dir_of_word (dir_text dir) ≡ dir
dir_again Forward = refl
dir_again Backward = refl

end_passes : (last : Bool) → (bytes_eq (end_text last) (codes "first") || bytes_eq (end_text last) (codes "last")) ≡ true
end_passes false = refl
end_passes true = refl

end_again : (last : Bool) → bytes_eq (end_text last) (codes "last") ≡ last
end_again false = refl
end_again true = refl

not_le : (a b : ℕ) → a < b → nat_le b a ≡ false
not_le a b below = grind (arith, nat_tests)

-- ---- names of dimensions

module _ (op : Operation) (once : AllPairs (λ a b. a ≢ b) op.dims) (named : All (λ name. IsTrue (is_name name)) op.dims) where
  name_again : (d : ℕ) → d < length op.dims → is_name (dim_name op d) ≡ true
  name_again d below = named d [] below

  among : (d : ℕ) → d < length op.dims → is_among op.dims (dim_name op d) ≡ true
  among d below = is_among-nth op.dims d once below

  number : (d : ℕ) → d < length op.dims → number_of op.dims (dim_name op d) ≡ d
  number d below = number_of-nth op.dims d once below

  -- ---- `guard`

  pub guard_again : (n : ℕ) (guard : List ℕ) → AreOneOrTwo guard → All (λ d. d < length op.dims) guard → guard_at op.dims (record { number = n; words = codes "guard" ∷ map (dim_name op) guard }) ≡ Ok guard
  unfolding guard_at
  guard_again n [] few all = absurd (omega (arith, few.0))
  guard_again n (a ∷ []) few all =
      let one : a < length op.dims = all 0 0 (omega arith) in
      rw (name_again a one, among a one, number a one) refl
  guard_again n (a ∷ b ∷ []) few all =
      let one : a < length op.dims = all 0 0 (omega arith) in
      let two : b < length op.dims = all 1 0 (omega arith) in
      rw (name_again a one, name_again b two, among a one, among b two, number a one, number b two) refl
  guard_again n (a ∷ b ∷ c ∷ guard) few all = absurd (omega (arith, few.1))

  -- ---- `start`, `take` and `give`

  pub ends_again : (n : ℕ) (word : List ℕ) (ends : List End) → AreEnds op ends → ends_at op.dims word (record { number = n; words = word ∷ ends_words op ends }) ≡ Ok ends
  unfolding ends_at
  ends_again n word [] are = absurd (omega (arith, are.few.0))
  ends_again n word (e ∷ []) are =
      let one : e.dim < length op.dims = are.dims 0 e (omega arith) in
      rw (bytes_eq-same word, name_again e.dim one, end_passes e.last, among e.dim one, number e.dim one, end_again e.last) refl
  ends_again n word (e ∷ f ∷ []) are =
      let one : e.dim < length op.dims = are.dims 0 e (omega arith) in
      let two : f.dim < length op.dims = are.dims 1 e (omega arith) in
      rw (bytes_eq-same word, name_again e.dim one, end_passes e.last, name_again f.dim two, end_passes f.last, among e.dim one, among f.dim two, number e.dim one, end_again e.last, number f.dim two, end_again f.last) refl
  ends_again n word (e ∷ f ∷ g ∷ ends) are = absurd (omega (arith, are.few.1))

  -- ---- `split`

  pub split_again : (n first : ℕ) (second : Option ℕ) (d1 d2 : Dir) → IsSplit op (record { first = first; second = second }) → (second ≡ None → d2 ≡ Forward)
      → split_at op.dims (record { number = n; words = codes "split" ∷ (along_words op first d1 ++ second_words op second d2) }) ≡ Ok (record { split = record { first = first; second = second }; dirs = record { first = d1; second = d2 } })
  unfolding split_at
  split_again n first None d1 d2 is forward = rw (name_again first is.0, dir_passes d1, among first is.0, number first is.0, dir_again d1, forward refl) refl
  split_again n first (Some d) d1 d2 is forward =
      rw (name_again first is.0, dir_passes d1, name_again d is.1.1, dir_passes d2, among first is.0, among d is.1.1, number first is.0, number d is.1.1, not_le first d is.1.0, dir_again d1, dir_again d2) refl
