-- The first two lines of a job that were read, `flame 1` and the modulus. Cited by the law that what is read is spelled so.
use Rattle.std.proofs.Common.{◌≡◌, ℕ, ◌<◌, ◌^◌, true, false, nat_lt, nat_le, ◌||◌, List, [], ◌∷◌, codes, decimal, Ok, sym, ap, ◌∙◌, subst, arith, ltb-false, leb-false, bytes_eq}
use Rattle.std.specs.List.{list_all}
use Rattle.std.proofs.lemmas.Bool.{and_parts, or_parts, not-false}
use Rattle.residue_sums.specs.Residues.{IsModulus}
use Rattle.byte_texts.proofs.Binding.{bind_ok, same_ok}
use Rattle.text_scan.specs.Faults.{Fault}
use Rattle.text_scan.specs.LineOrder.{AreLines}
use Rattle.text_scan.specs.Lines.{Line, due_line}
use Rattle.text_scan.specs.Words.{is_word, is_number}
use Rattle.text_scan.proofs.FaultTests.{passed_by}
use Rattle.text_scan.proofs.LineOrders.{AreLines-parts, is_line-words}
use Rattle.text_scan.proofs.NumberTexts.{number_word}
use Rattle.operation_spec.proofs.FoundNames.{text_is}
use Rattle.job_text.specs.JobFaults.{is_header, header_at, is_modulus_line, modulus_of, modulus_at, first_lines_at}

-- ---- `flame 1`

header_words : (words : List (List ℕ)) → is_header words ≡ true → words ≡ codes "flame" ∷ codes "1" ∷ []
header_words (first ∷ version ∷ []) is =
    let both = and_parts (bytes_eq first (codes "flame")) (bytes_eq version (codes "1")) is in
    λ i. text_is first (codes "flame") both.0 i ∷ text_is version (codes "1") both.1 i ∷ []
header_words _ is = absurd cc

header_taken : (end : ℕ) (lines behind : List Line) → header_at end lines ≡ Ok behind → (line : Line) × (lines ≡ line ∷ behind) × (line.words ≡ codes "flame" ∷ codes "1" ∷ [])
unfolding header_at
header_taken end [] behind e = absurd cc
header_taken end (line ∷ lines) behind e =
    let form = passed_by _ _ _ behind e in
    let inner = passed_by _ _ _ behind form.1 in
    (line, ap (λ (ls : List Line). line ∷ ls) (same_ok {F = Fault} lines behind inner.1), header_words line.words (not-false _ form.0))

-- ---- `modulus M`

modulus_words : (words : List (List ℕ)) → list_all is_word words ≡ true → is_modulus_line words ≡ true → modulus_of words < 2 ^ 64 → words ≡ codes "modulus" ∷ decimal (modulus_of words) ∷ []
modulus_words (first ∷ m ∷ []) are is small =
    let form = and_parts (bytes_eq first (codes "modulus")) (is_number m) is in
    let word = (and_parts (is_word m) true (and_parts (is_word first) (list_all is_word (m ∷ [])) are).1).0 in
    λ i. text_is first (codes "modulus") form.0 i ∷ sym (number_word m word form.1 small) i ∷ []
modulus_words _ are is small = absurd cc

modulus_within : (m : ℕ) → (nat_lt m 2 || nat_le (2 ^ 32) m) ≡ false → IsModulus m
modulus_within m e =
    let parts = or_parts (nat_lt m 2) (nat_le (2 ^ 32) m) e in
    record { at_least_two = ltb-false m 2 parts.0; below_limit = leb-false (2 ^ 32) m parts.1 }

modulus_taken : (line : Line) (m : ℕ) → list_all is_word line.words ≡ true → modulus_at line ≡ Ok m → (line.words ≡ codes "modulus" ∷ decimal m ∷ []) × IsModulus m
unfolding modulus_at
modulus_taken line m are e =
    let form = passed_by _ _ _ m e in
    let range = passed_by _ _ _ m form.1 in
    let is = modulus_within (modulus_of line.words) range.0 in
    subst (λ (n : ℕ). (line.words ≡ codes "modulus" ∷ decimal n ∷ []) × IsModulus n) (same_ok {F = Fault} (modulus_of line.words) m range.1)
    (modulus_words line.words are (not-false _ form.0) (omega (arith, is.below_limit)), is)

-- ---- both

-- the first two lines, and those behind them
pub record FirstTaken (end : ℕ) (lines : List Line) (m : ℕ) (rest : List Line) : Type 0 where
  pub header : Line
  pub second : Line
  pub lines_are : lines ≡ header ∷ second ∷ rest
  pub header_is : header.words ≡ codes "flame" ∷ codes "1" ∷ []
  pub second_is : second.words ≡ codes "modulus" ∷ decimal m ∷ []
  pub modulus : IsModulus m
  pub are : AreLines end rest

due_taken : (end : ℕ) (lines : List Line) (x : Line × List Line) → due_line end lines ≡ Ok x → lines ≡ x.0 ∷ x.1
due_taken end [] x e = absurd cc
due_taken end (line ∷ lines) x e = ap (λ (p : Line × List Line). p.0 ∷ p.1) (same_ok {F = Fault} (line, lines) x e)

pub first_lines_taken : (end : ℕ) (lines : List Line) (m : ℕ) (rest : List Line) → AreLines end lines → first_lines_at end lines ≡ Ok (m, rest) → FirstTaken end lines m rest
unfolding first_lines_at
first_lines_taken end lines m rest are e =
    let behind = bind_ok _ _ (m, rest) e in
    let second = bind_ok _ _ (m, rest) behind.2 in
    let modulus = bind_ok _ _ (m, rest) second.2 in
    let header = header_taken end lines behind.0 behind.1 in
    let next = due_taken end behind.0 second.0 second.1 in
    let others = (AreLines-parts (subst (AreLines end) header.1 are)).others in
    let is = AreLines-parts (subst (AreLines end) next others) in
    let taken = modulus_taken second.0.0 modulus.0 (is_line-words second.0.0.words is.words) modulus.1 in
    subst (λ (x : ℕ × List Line). FirstTaken end lines x.0 x.1) (same_ok {F = Fault} (modulus.0, second.0.1) (m, rest) modulus.2) (record {
      header = header.0;
      second = second.0.0;
      lines_are = header.1 ∙ ap (λ (ls : List Line). header.0 ∷ ls) next;
      header_is = header.2;
      second_is = taken.0;
      modulus = taken.1;
      are = is.others;
    })
