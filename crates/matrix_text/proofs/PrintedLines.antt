-- The printed text of a matrix is the normal text of its lines. Cited by the laws of matrices.
use Rattle.std.proofs.Common.{◌≡◌, ℕ, zero, suc, ◌*◌, ◌<◌, Bool, true, false, cond, ◌==◌, if◌then◌else◌, List, [], ◌∷◌, ◌++◌, length, take, drop, map, All, IsTrue, refl, sym, ap, ◌∙◌, append_assoc, length-take, length-drop, arith}
use Rattle.std.specs.Prelude.{codes}
use Rattle.std.specs.List.{list_all}
use Rattle.std.specs.Fmt.{decimal}
use Rattle.std.specs.Str.{bytes_eq}
use Rattle.std.proofs.lemmas.Bool.{and_parts, and_from, eqb-false}
use Rattle.std.proofs.lemmas.Grind.{flat_map-append}
use Rattle.std.proofs.lemmas.List.Elements.{All-nil, All-cons, All-append}
use Rattle.residue_sums.specs.Grids.{Grid, IsFull}
use Rattle.matrix_text.specs.MatrixTexts as texts
use Rattle.text_scan.specs.declared.token.TokenKind.{TokenKind}
use Rattle.text_scan.specs.declared.token.TokenKind.TheVariants.{Name, Number, Sign}
use Rattle.text_scan.specs.NormalTexts.{line_text, lines_text, is_line}
use Rattle.text_scan.specs.Words.{is_kind, is_word, is_name, kind_of}
use Rattle.text_scan.proofs.LineOrders.{is_line-more}
use Rattle.text_scan.proofs.NumberTexts.{decimal_word, bytes_eq-kinds}
use Rattle.matrix_text.specs.MatrixLines.{row_lines, matrix_lines}

-- ---- a space stands before each word but '

no_sign : (kind : TokenKind) → kind ≡ Number → kind ≡ Sign → ⊥
no_sign kind number sign = cc

name_is_no_sign : (kind : TokenKind) → is_kind kind Name ≡ true → kind ≡ Sign → ⊥
name_is_no_sign Name is sign = cc
name_is_no_sign Number is sign = cc
name_is_no_sign Sign is sign = cc

before_number : (n : ℕ) → bytes_eq (decimal n) (codes "'") ≡ false
before_number n = bytes_eq-kinds (decimal n) (codes "'") (no_sign _ (decimal_word n).1)

before_name : (name : List ℕ) → IsTrue (is_name name) → bytes_eq name (codes "'") ≡ false
before_name name is = bytes_eq-kinds name (codes "'") (name_is_no_sign _ (and_parts (is_kind (kind_of name) Name) _ is).0)

-- ---- rows

row_text : (xs : List ℕ) → texts.row_text xs ≡ line_text (map decimal xs)
row_text [] = refl
row_text (x ∷ []) = refl
row_text (x ∷ y ∷ xs) = rw (before_number y) (ap (λ (text : List ℕ). decimal x ++ codes " " ++ text) (row_text (y ∷ xs)))

rows_text : (rows cols : ℕ) (xs : List ℕ) → texts.row_texts rows cols xs ≡ lines_text (row_lines rows cols xs)
rows_text zero cols xs = refl
rows_text (suc rows) cols xs = ap (λ (text : List ℕ). text ++ texts.row_texts rows cols (drop cols xs)) (row_text (take cols xs)) ∙ ap (λ (text : List ℕ). line_text (map decimal (take cols xs)) ++ text) (rows_text rows cols (drop cols xs))

some_rows_text : (b : Bool) (rows cols : ℕ) (xs : List ℕ) → cond b [] (texts.row_texts rows cols xs) ≡ lines_text (cond b [] (row_lines rows cols xs))
some_rows_text true rows cols xs = refl
some_rows_text false rows cols xs = rows_text rows cols xs

-- ---- the whole text

heading_text : (name : List ℕ) (rows cols : ℕ) → IsTrue (is_name name)
    → line_text (codes "matrix" ∷ name ∷ decimal rows ∷ decimal cols ∷ []) ≡ codes "matrix " ++ name ++ codes " " ++ decimal rows ++ codes " " ++ decimal cols ++ codes "\n"
heading_text name rows cols is = rw (before_name name is, before_number rows, before_number cols) (simp append_assoc)

pub matrix_text-lines : (name : List ℕ) (g : Grid) → IsTrue (is_name name) → texts.matrix_text name g ≡ lines_text (matrix_lines name g)
matrix_text-lines name g is =
    let heading = line_text (codes "matrix" ∷ name ∷ decimal g.rows ∷ decimal g.cols ∷ []) in
    let rows : List (List (List ℕ)) = if g.cols == 0 then [] else row_lines g.rows g.cols g.entries in
    let printed : List ℕ = if g.cols == 0 then [] else texts.row_texts g.rows g.cols g.entries in
    ap (λ (text : List ℕ). text ++ printed ++ codes "end\n") (sym (heading_text name g.rows g.cols is))
    ∙ ap (λ (text : List ℕ). heading ++ text ++ codes "end\n") (some_rows_text (g.cols == 0) g.rows g.cols g.entries)
    ∙ append_assoc heading (lines_text rows) (codes "end\n")
    ∙ ap (λ (text : List ℕ). heading ++ text) (sym (flat_map-append line_text rows ((codes "end" ∷ []) ∷ [])))

-- ---- its lines have words

words_of_numbers : (xs : List ℕ) → list_all is_word (map decimal xs) ≡ true
words_of_numbers [] = refl
words_of_numbers (x ∷ xs) = and_from _ _ (decimal_word x).0 (words_of_numbers xs)

row_is_line : (xs : List ℕ) → 0 < length xs → IsTrue (is_line (map decimal xs))
row_is_line [] some = absurd (omega arith)
row_is_line (x ∷ xs) some = is_line-more (decimal x) (map decimal xs) (decimal_word x).0 (words_of_numbers xs)

abbrev AreWords : List (List (List ℕ)) → Type 0
AreWords lines = All (λ words. IsTrue (is_line words)) lines

rows_are_lines : (rows cols : ℕ) (xs : List ℕ) → 0 < cols → length xs ≡ rows * cols → AreWords (row_lines rows cols xs)
rows_are_lines zero cols xs some full = All-nil (λ words. IsTrue (is_line words))
rows_are_lines (suc rows) cols xs some full =
    All-cons (λ words. IsTrue (is_line words)) (map decimal (take cols xs)) (row_lines rows cols (drop cols xs))
    (row_is_line (take cols xs) (omega (arith, length-take cols xs, full))) (rows_are_lines rows cols (drop cols xs) some (omega (arith, length-drop cols xs, full)))

some_rows_are_lines : (g : Grid) (b : Bool) → (g.cols == 0) ≡ b → IsFull g → AreWords (cond b [] (row_lines g.rows g.cols g.entries))
some_rows_are_lines g true none full = All-nil (λ words. IsTrue (is_line words))
some_rows_are_lines g false some full =
    let other = eqb-false g.cols 0 some in
    rows_are_lines g.rows g.cols g.entries (omega arith) full

pub matrix_lines-words : (name : List ℕ) (g : Grid) → IsTrue (is_word name) → IsFull g → AreWords (matrix_lines name g)
matrix_lines-words name g word full =
    let IsLine : List (List ℕ) → Type 0 = λ words. IsTrue (is_line words) in
    let numbers = and_from _ _ (decimal_word g.rows).0 (and_from _ _ (decimal_word g.cols).0 refl) in
    let heading : IsLine (codes "matrix" ∷ name ∷ decimal g.rows ∷ decimal g.cols ∷ []) = is_line-more (codes "matrix") (name ∷ decimal g.rows ∷ decimal g.cols ∷ []) refl (and_from _ _ word numbers) in
    All-append IsLine ((codes "matrix" ∷ name ∷ decimal g.rows ∷ decimal g.cols ∷ []) ∷ (if g.cols == 0 then [] else row_lines g.rows g.cols g.entries)) ((codes "end" ∷ []) ∷ [])
    (All-cons IsLine _ _ heading (some_rows_are_lines g (g.cols == 0) refl full)) (All-cons IsLine (codes "end" ∷ []) [] refl (All-nil IsLine))
