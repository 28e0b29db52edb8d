-- Rows that are read are spelled so, and rows that are spelled so are read. Cited by the laws of matrices.
use Rattle.std.proofs.Common.{◌≡◌, ◌≢◌, ℕ, zero, suc, ◌*◌, ◌<◌, ◌≤◌, ◌^◌, Bool, true, false, cond, not, nat_lt, ◌&&◌, ◌||◌, ◌==◌, List, [], ◌∷◌, ◌++◌, length, take, drop, map, All, Result, Ok, Err, IsTrue, refl, sym, ap, subst, ◌∙◌, length-append, length-take, length-drop, take-append-drop, arith}
use Rattle.std.specs.Prelude.{codes}
use Rattle.std.specs.List.{list_all}
use Rattle.std.specs.Fmt.{decimal}
use Rattle.std.specs.Str.{bytes_eq}
use Rattle.std.proofs.lemmas.Bool.{and_parts, and_from, lt-ltb, ltb-true, eq-eqb, eqb-true, not-false, or_parts, ne_eqb}
use Rattle.std.proofs.lemmas.List.{take_at, drop_at, nil_from_length}
use Rattle.std.proofs.lemmas.List.Elements.{All-nil, All-cons, All-head, All-tail, All-append, All-take, All-drop}
use Rattle.byte_texts.specs.Reading.{◌>>=◌}
use Rattle.byte_texts.proofs.Binding.{bind_ok, same_ok}
use Rattle.text_scan.specs.declared.token.TokenKind.{TokenKind}
use Rattle.text_scan.specs.declared.token.TokenKind.TheVariants.{Name, Number}
use Rattle.text_scan.specs.FaultKinds.{Syntax, RowLength, EntryRange}
use Rattle.text_scan.specs.Faults.{Fault, Test, ◌on◌}
use Rattle.text_scan.specs.LineOrder.{AreLines}
use Rattle.text_scan.specs.Lines.{Line, is_end}
use Rattle.text_scan.specs.Words.{is_word, is_number, number_value, kind_of}
use Rattle.text_scan.proofs.FaultTests.{passed}
use Rattle.text_scan.proofs.LineOrders.{AreLines-parts, AreLines-inner, is_line-words}
use Rattle.text_scan.proofs.NumberTexts.{number_word, decimal_number, is_number-parts, bytes_eq-kinds}
use Rattle.matrix_text.specs.MatrixFaults.{row_at, next_row_at, rows_at}
use Rattle.matrix_text.specs.MatrixLines.{row_lines}

-- ---- the numbers of a row

-- words that are numbers below m are what is printed of their numbers
numbers_take : (m : ℕ) (words : List (List ℕ)) → m ≤ 2 ^ 64 → list_all is_word words ≡ true → list_all is_number words ≡ true → list_all (λ w. nat_lt (number_value w) m) words ≡ true
    → (words ≡ map decimal (map number_value words)) × All (λ x. x < m) (map number_value words)
numbers_take m [] small are numbers below = (refl, All-nil (λ (x : ℕ). x < m))
numbers_take m (w ∷ words) small are numbers below =
    let word = and_parts (is_word w) (list_all is_word words) are in
    let number = and_parts (is_number w) (list_all is_number words) numbers in
    let range = and_parts (nat_lt (number_value w) m) (list_all (λ w. nat_lt (number_value w) m) words) below in
    let here : number_value w < m = ltb-true _ m range.0 in
    let text = number_word w word.0 number.0 (omega arith) in
    let others = numbers_take m words small word.1 number.1 range.1 in
    (ap (λ (v : List ℕ). v ∷ words) (sym text) ∙ ap (λ (vs : List (List ℕ)). decimal (number_value w) ∷ vs) others.0, All-cons (λ (x : ℕ). x < m) (number_value w) (map number_value words) here others.1)

-- what is printed of numbers below m
pub record PrintedNumbers (m : ℕ) (xs : List ℕ) : Type 0 where
  pub numbers : list_all is_number (map decimal xs) ≡ true
  pub below : list_all (λ w. nat_lt (number_value w) m) (map decimal xs) ≡ true
  pub values : map number_value (map decimal xs) ≡ xs
  pub count : length (map decimal xs) ≡ length xs

printed_numbers : (m : ℕ) (xs : List ℕ) → m ≤ 2 ^ 64 → All (λ x. x < m) xs → PrintedNumbers m xs
printed_numbers m [] small all = record { numbers = refl; below = refl; values = refl; count = refl }
printed_numbers m (x ∷ xs) small all =
    let here : x < m = All-head (λ (x : ℕ). x < m) x xs all in
    let number = decimal_number x (omega arith) in
    let test : nat_lt (number_value (decimal x)) m ≡ true = lt-ltb _ m (omega arith) in
    let others = printed_numbers m xs small (All-tail (λ (x : ℕ). x < m) x xs all) in
    record {
      numbers = and_from _ _ number.0 others.numbers;
      below = and_from _ _ test others.below;
      values = ap (λ (y : ℕ). y ∷ map number_value (map decimal xs)) number.1 ∙ ap (λ (ys : List ℕ). x ∷ ys) others.values;
      count = ap suc others.count;
    }

-- numbers are no `end`
end_is_name : (w : List ℕ) → IsTrue (is_number w) → bytes_eq w (codes "end") ≡ false
end_is_name w is = bytes_eq-kinds w (codes "end") (λ same. no_kind (kind_of w) (is_number-parts w is).0 same)
  where
    no_kind : (kind : TokenKind) → kind ≡ Number → kind ≡ Name → ⊥
    no_kind kind number name = cc

pub numbers_no_end : (words : List (List ℕ)) → list_all is_number words ≡ true → is_end words ≡ false
numbers_no_end [] numbers = refl
numbers_no_end (w ∷ []) numbers = end_is_name w (and_parts (is_number w) true numbers).0
numbers_no_end (w ∷ v ∷ words) numbers = refl

-- ---- a row

pub record IsRow (m cols : ℕ) (words : List (List ℕ)) (row : List ℕ) : Type 0 where
  pub text : words ≡ map decimal row
  pub count : length row ≡ cols
  pub below : All (λ x. x < m) row

-- what the tests of a row leave
record RowPassed (m cols : ℕ) (line : Line) (row : List ℕ) : Type 0 where
  numbers : list_all is_number line.words ≡ true
  count : length line.words ≡ cols
  below : list_all (λ w. nat_lt (number_value w) m) line.words ≡ true
  values : map number_value line.words ≡ row

by_tests : (ends numbers : Bool) → (not ends && not numbers) ≡ false → ends ≡ false → numbers ≡ true
by_tests true numbers first none = absurd cc
by_tests false true first none = refl
by_tests false false first none = absurd cc

row_passed : (m cols : ℕ) (line : Line) (row : List ℕ) → row_at m cols line ≡ Ok row → RowPassed m cols line row
unfolding row_at
row_passed m cols line row e =
    let syntax : Test Fault = record { holds = not (is_end line.words) && not (list_all is_number line.words); fault = Syntax on line.number } in
    let count : Test Fault = record { holds = is_end line.words || not (length line.words == cols); fault = RowLength on line.number } in
    let range : Test Fault = record { holds = not (list_all (λ w. nat_lt (number_value w) m) line.words); fault = EntryRange on line.number } in
    let first = passed syntax (count ∷ range ∷ []) (map number_value line.words) row e in
    let second = passed count (range ∷ []) (map number_value line.words) row first.1 in
    let third = passed range [] (map number_value line.words) row second.1 in
    let parts = or_parts (is_end line.words) (not (length line.words == cols)) second.0 in
    record {
      numbers = by_tests (is_end line.words) (list_all is_number line.words) first.0 parts.0;
      count = eqb-true _ cols (not-false _ parts.1);
      below = not-false _ third.0;
      values = same_ok {F = Fault} (map number_value line.words) row third.1;
    }

same_count : (words : List (List ℕ)) → length (map number_value words) ≡ length words
same_count [] = refl
same_count (w ∷ words) = ap suc (same_count words)

-- a row has as many entries as there are columns
pub row-count : (m cols : ℕ) (line : Line) (row : List ℕ) → row_at m cols line ≡ Ok row → length row ≡ cols
row-count m cols line row e =
    let is = row_passed m cols line row e in
    ap length (sym is.values) ∙ same_count line.words ∙ is.count

-- a row that is read is spelled so
pub row_takes : (m cols : ℕ) (line : Line) (row : List ℕ) → m ≤ 2 ^ 64 → list_all is_word line.words ≡ true → row_at m cols line ≡ Ok row → IsRow m cols line.words row
row_takes m cols line row small words e =
    let is = row_passed m cols line row e in
    let taken = numbers_take m line.words small words is.numbers is.below in
    record { text = taken.0 ∙ ap (map decimal) is.values; count = row-count m cols line row e; below = subst (All (λ (x : ℕ). x < m)) is.values taken.1 }

-- a row that is spelled so is read
pub row_again : (m cols : ℕ) (line : Line) (row : List ℕ) → m ≤ 2 ^ 64 → IsRow m cols line.words row → row_at m cols line ≡ Ok row
unfolding row_at
row_again m cols line row small is =
    let printed = printed_numbers m row small is.below in
    let count : (length (map decimal row) == cols) ≡ true = eq-eqb _ cols (printed.count ∙ is.count) in
    rw (is.text, numbers_no_end (map decimal row) printed.numbers, printed.numbers, count, printed.below) (ap (λ (xs : List ℕ). Ok xs) printed.values)

-- ---- the next row

abbrev Rows : Type 0
Rows = Result (List ℕ × List Line) Fault

-- the line that was due isn't the last of its text
pub inner_read : {B : Type 0} (last : Bool) (end : ℕ) (line : Line × List Line) (f : Line × List Line → Result B Fault) (y : B) → (cond last (Err (Syntax on end)) (Ok line) >>= f) ≡ Ok y → f line ≡ Ok y
inner_read true end line f y e = absurd cc
inner_read false end line f y e = e

-- the line that is the row
pub next_row-line : (end m cols : ℕ) (lines : List Line) (row : List ℕ) (behind : List Line) → next_row_at end m cols lines ≡ Ok (row, behind)
    → (line : Line) × (lines ≡ line ∷ behind) × (row_at m cols line ≡ Ok row)
unfolding next_row_at
next_row-line end m cols [] row behind e = absurd cc
next_row-line end m cols (line ∷ lines) row behind e =
    let inner = inner_read (line.number == end) end (line, lines) (λ l. row_at m cols l.0 >>= λ r. Ok (r, l.1)) (row, behind) e in
    let read = bind_ok (row_at m cols line) (λ r. Ok (r, lines)) (row, behind) inner in
    let same = same_ok {F = Fault} (read.0, lines) (row, behind) read.2 in
    (line, ap (λ (p : List ℕ × List Line). line ∷ p.1) same, read.1 ∙ ap (λ (p : List ℕ × List Line). Ok p.0) same)

pub next_row-again : (end m cols : ℕ) (line : Line) (behind : List Line) (row : List ℕ) → line.number ≢ end → row_at m cols line ≡ Ok row → next_row_at end m cols (line ∷ behind) ≡ Ok (row, behind)
unfolding next_row_at
next_row-again end m cols line behind row inner e = rw (ne_eqb line.number end inner, e) refl

-- ---- rows

-- each reading of rows has a first row and others
pub rows-parts : (end m cols n : ℕ) (lines : List Line) (xs : List ℕ) (behind : List Line) → rows_at end m cols (suc n) lines ≡ Ok (xs, behind)
    → (row : List ℕ × List Line) × (others : List ℕ × List Line) × (next_row_at end m cols lines ≡ Ok row) × (rows_at end m cols n row.1 ≡ Ok others) × (row.0 ++ others.0 ≡ xs) × (others.1 ≡ behind)
unfolding rows_at
rows-parts end m cols n lines xs behind e =
    let row = bind_ok (next_row_at end m cols lines) (λ row. rows_at end m cols n row.1 >>= λ others. Ok (row.0 ++ others.0, others.1)) (xs, behind) e in
    let others = bind_ok (rows_at end m cols n row.0.1) (λ others. Ok (row.0.0 ++ others.0, others.1)) (xs, behind) row.2 in
    let same = same_ok {F = Fault} (row.0.0 ++ others.0.0, others.0.1) (xs, behind) others.2 in
    (row.0, others.0, row.1, others.1, ap (λ (p : List ℕ × List Line). p.0) same, ap (λ (p : List ℕ × List Line). p.1) same)

rows-none : (end m cols : ℕ) (lines : List Line) (xs : List ℕ) (behind : List Line) → rows_at end m cols 0 lines ≡ Ok (xs, behind) → (xs ≡ []) × (lines ≡ behind)
unfolding rows_at
rows-none end m cols lines xs behind e =
    let same = same_ok {F = Fault} ([], lines) (xs, behind) e in
    (ap (λ (p : List ℕ × List Line). p.0) (sym same), ap (λ (p : List ℕ × List Line). p.1) same)

-- rows have as many entries as there are places
pub rows-count : (end m cols n : ℕ) (lines : List Line) (xs : List ℕ) (behind : List Line) → rows_at end m cols n lines ≡ Ok (xs, behind) → length xs ≡ n * cols
rows-count end m cols zero lines xs behind e = ap length (rows-none end m cols lines xs behind e).0 ∙ omega arith
rows-count end m cols (suc n) lines xs behind e =
    let parts = rows-parts end m cols n lines xs behind e in
    let line = next_row-line end m cols lines parts.0.0 parts.0.1 parts.2 in
    let first = row-count m cols line.0 parts.0.0 line.2 in
    let others = rows-count end m cols n parts.0.1 parts.1.0 parts.1.1 parts.3 in
    omega (arith, ap length (sym parts.4), length-append parts.0.0 parts.1.0, first, others)

-- the lines that are rows of these entries
pub record AreRows (m cols n : ℕ) (own : List Line) (xs : List ℕ) : Type 0 where
  pub text : map (λ line. line.words) own ≡ row_lines n cols xs
  pub below : All (λ x. x < m) xs

-- a row in front of others
one_row_more : (m cols n : ℕ) (line : Line) (own : List Line) (row others : List ℕ) → IsRow m cols line.words row → AreRows m cols n own others → AreRows m cols (suc n) (line ∷ own) (row ++ others)
one_row_more m cols n line own row others first rest = record {
  text = rw (first.text, rest.text, take_at row others cols first.count, drop_at row others cols first.count) refl;
  below = All-append (λ (x : ℕ). x < m) row others first.below rest.below;
}

-- rows that are read are spelled so
pub rows_take : (end m cols n : ℕ) (lines : List Line) (xs : List ℕ) (behind : List Line) → m ≤ 2 ^ 64 → AreLines end lines → rows_at end m cols n lines ≡ Ok (xs, behind)
    → (own : List Line) × (lines ≡ own ++ behind) × AreRows m cols n own xs
rows_take end m cols zero lines xs behind small are e =
    let none = rows-none end m cols lines xs behind e in
    ([], none.1, record { text = refl; below = subst (All (λ (x : ℕ). x < m)) (sym none.0) (All-nil (λ (x : ℕ). x < m)) })
rows_take end m cols (suc n) lines xs behind small are e =
    let parts = rows-parts end m cols n lines xs behind e in
    let line = next_row-line end m cols lines parts.0.0 parts.0.1 parts.2 in
    let is = AreLines-parts (subst (AreLines end) line.1 are) in
    let first = row_takes m cols line.0 parts.0.0 small (is_line-words line.0.words is.words) line.2 in
    let others = rows_take end m cols n parts.0.1 parts.1.0 parts.1.1 small is.others parts.3 in (
      line.0 ∷ others.0,
      line.1 ∙ ap (λ (ls : List Line). line.0 ∷ ls) (others.1 ∙ ap (λ (ls : List Line). others.0 ++ ls) parts.5),
      subst (AreRows m cols (suc n) (line.0 ∷ others.0)) parts.4 (one_row_more m cols n line.0 others.0 parts.0.0 parts.1.0 first others.2),
    )

longer : (own rest : List Line) → 0 < length rest → 0 < length (own ++ rest)
longer own rest some = omega (arith, length-append own rest)

-- the first row is of the first entries
first_row : (m cols n : ℕ) (line : Line) (own : List Line) (xs : List ℕ) → AreRows m cols (suc n) (line ∷ own) xs → length xs ≡ suc n * cols
    → IsRow m cols line.words (take cols xs) × AreRows m cols n own (drop cols xs) × (length (drop cols xs) ≡ n * cols)
first_row m cols n line own xs rows full = (
  record { text = (parts line.words (map (λ l. l.words) own) rows.text).0; count = omega (arith, length-take cols xs, full); below = All-take (λ (x : ℕ). x < m) cols xs rows.below },
  record { text = (parts line.words (map (λ l. l.words) own) rows.text).1; below = All-drop (λ (x : ℕ). x < m) cols xs rows.below },
  omega (arith, length-drop cols xs, full),
)
  where
    parts : (w : List (List ℕ)) (ws : List (List (List ℕ))) → w ∷ ws ≡ map decimal (take cols xs) ∷ row_lines n cols (drop cols xs) → (w ≡ map decimal (take cols xs)) × (ws ≡ row_lines n cols (drop cols xs))
    parts w ws e = (cc, cc)

-- rows that are spelled so are read, where a line is behind them
pub rows_again : (end m cols n : ℕ) (own rest : List Line) (xs : List ℕ) → m ≤ 2 ^ 64 → AreLines end (own ++ rest) → 0 < length rest → AreRows m cols n own xs → length xs ≡ n * cols
    → rows_at end m cols n (own ++ rest) ≡ Ok (xs, rest)
unfolding rows_at
rows_again end m cols zero [] rest xs small are some rows full = rw (nil_from_length xs (omega (arith, full))) refl
rows_again end m cols zero (line ∷ own) rest xs small are some rows full = absurd (let no = rows.text in cc)
rows_again end m cols (suc n) [] rest xs small are some rows full = absurd (let no = rows.text in cc)
rows_again end m cols (suc n) (line ∷ own) rest xs small are some rows full =
    let parts = first_row m cols n line own xs rows full in
    let inner = AreLines-inner line (own ++ rest) are (longer own rest some) in
    let first = next_row-again end m cols line (own ++ rest) (take cols xs) inner (row_again m cols line (take cols xs) small parts.0) in
    let others = rows_again end m cols n own rest (drop cols xs) small (AreLines-parts are).others some parts.1 parts.2 in
    rw (first, others) (ap (λ (ys : List ℕ). Ok (ys, rest)) (take-append-drop cols xs))
