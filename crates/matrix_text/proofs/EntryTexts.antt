-- The text of a matrix, row by row and entry by entry. Cited by what reads and what prints a matrix.
use Rattle.std.proofs.Common.{◌≡◌, ◌≢◌, ℕ, zero, suc, ◌+◌, ◌*◌, ◌%◌, ◌<◌, ◌≤◌, false, eqb, List, [], ◌∷◌, ◌++◌, length, take, drop, refl, sym, ap, ◌∙◌, arith, append_assoc, length-append, length-take, length-drop, take-append-drop, if◌then◌else◌, ◌==◌, inl, inr}
use Rattle.std.specs.Prelude.{codes}
use Rattle.std.specs.Fmt.{decimal}
use Rattle.std.proofs.lemmas.Bool.{cases_eq}
use Rattle.std.proofs.lemmas.Bool.Decides.{nat_tests}
use Rattle.std.proofs.lemmas.List.{nil_from_length}
use Rattle.std.proofs.Math.Nat.{add-mul-mod_self_right, mod-eq_of_lt}
use Rattle.residue_sums.specs.Grids.{Grid, IsFull}
use Rattle.matrix_text.specs.MatrixTexts.{row_text, row_texts, entry_end, entry_lines, matrix_text}

-- an entry in front of others of its row is followed by a space, and the last one by a line feed
entry_end-within : (cols rows behind : ℕ) → 0 < behind → behind < cols → entry_end cols (behind + rows * cols) ≡ 32
entry_end-within cols rows behind some below =
    let rest : (behind + rows * cols) % cols ≡ behind = add-mul-mod_self_right behind rows cols ∙ mod-eq_of_lt below in
    grind (arith, nat_tests)

entry_end-last : (cols rows : ℕ) → 0 < cols → entry_end cols (rows * cols) ≡ 10
entry_end-last cols rows some =
    let whole : rows * cols ≡ 0 + rows * cols = omega arith in
    let rest : (rows * cols) % cols ≡ 0 = ap (λ n. n % cols) whole ∙ add-mul-mod_self_right 0 rows cols ∙ mod-eq_of_lt some in
    grind (arith, nat_tests)

-- a row, with so many whole rows behind it
row_entries : (cols rows : ℕ) (row rest : List ℕ) → 0 < length row → length row ≤ cols → length rest ≡ rows * cols
    → entry_lines cols (row ++ rest) ≡ row_text row ++ entry_lines cols rest
row_entries cols rows [] rest some fits whole = absurd (omega arith)
row_entries cols rows (x ∷ []) rest some fits whole =
    let end : entry_end cols (length rest) ≡ 10 = ap (entry_end cols) whole ∙ entry_end-last cols rows (omega arith) in
    rw end (sym (append_assoc (decimal x) (codes "\n") (entry_lines cols rest)))
row_entries cols rows (x ∷ y ∷ xs) rest some fits whole =
    let behind : length ((y ∷ xs) ++ rest) ≡ length (y ∷ xs) + rows * cols = length-append (y ∷ xs) rest ∙ ap (λ n. length (y ∷ xs) + n) whole in
    let end : entry_end cols (length ((y ∷ xs) ++ rest)) ≡ 32 = ap (entry_end cols) behind ∙ entry_end-within cols rows (length (y ∷ xs)) (omega arith) (omega arith) in
    let others : entry_lines cols ((y ∷ xs) ++ rest) ≡ row_text (y ∷ xs) ++ entry_lines cols rest = row_entries cols rows (y ∷ xs) rest (omega arith) (omega arith) whole in
    ap (λ e. decimal x ++ e ∷ entry_lines cols ((y ∷ xs) ++ rest)) end
    ∙ ap (λ (l : List ℕ). decimal x ++ 32 ∷ l) others
    ∙ regrouped (decimal x) (row_text (y ∷ xs)) (entry_lines cols rest)
  where
    regrouped : (a b c : List ℕ) → a ++ 32 ∷ (b ++ c) ≡ (a ++ codes " " ++ b) ++ c
    regrouped a b c = sym (simp append_assoc)

-- whole rows
pub row_texts-entry_lines : (rows cols : ℕ) (entries : List ℕ) → 0 < cols → length entries ≡ rows * cols → row_texts rows cols entries ≡ entry_lines cols entries
row_texts-entry_lines zero cols entries some whole = rw (nil_from_length entries (omega (arith, whole))) refl
row_texts-entry_lines (suc rows) cols entries some whole =
    let front : length (take cols entries) ≡ cols = omega (arith, length-take cols entries, whole) in
    let behind : length (drop cols entries) ≡ rows * cols = omega (arith, length-drop cols entries, whole) in
    ap (λ (l : List ℕ). row_text (take cols entries) ++ l) (row_texts-entry_lines rows cols (drop cols entries) some behind)
    ∙ sym (row_entries cols rows (take cols entries) (drop cols entries) (omega arith) (omega arith) behind)
    ∙ ap (entry_lines cols) (take-append-drop cols entries)

-- the rows of a full grid
rows_entries : (g : Grid) → IsFull g → (if g.cols == 0 then [] else row_texts g.rows g.cols g.entries) ≡ entry_lines g.cols g.entries
rows_entries g full = elim (cases_eq g.cols 0) [
  | inl none ↦ (let nothing : g.rows * 0 ≡ 0 = omega arith in let empty : length g.entries ≡ 0 = full ∙ ap (λ n. g.rows * n) none ∙ nothing in rw (none, nil_from_length g.entries empty) refl)
  | inr some ↦ rw (eqb-false-of some) (row_texts-entry_lines g.rows g.cols g.entries (omega arith) full)
]
  where
    eqb-false-of : {n : ℕ} → n ≢ 0 → eqb n 0 ≡ false
    eqb-false-of {n} ne = grind (arith, nat_tests)

-- the text of a full grid, entry by entry
pub matrix_text-entry_lines : (name : List ℕ) (g : Grid) → IsFull g
    → matrix_text name g ≡ codes "matrix " ++ name ++ codes " " ++ decimal g.rows ++ codes " " ++ decimal g.cols ++ codes "\n" ++ entry_lines g.cols g.entries ++ codes "end\n"
matrix_text-entry_lines name g full =
    ap (λ (rows : List ℕ). codes "matrix " ++ name ++ codes " " ++ decimal g.rows ++ codes " " ++ decimal g.cols ++ codes "\n" ++ rows ++ codes "end\n") (rows_entries g full)
