-- A matrix that is read is spelled so, and a matrix that is spelled so is read. Cited by the laws of matrices and by
-- their reader.
use Rattle.std.proofs.Common.{◌≡◌, ℕ, ◌*◌, ◌<◌, ◌≤◌, ◌^◌, Bool, true, false, cond, not, nat_lt, ◌&&◌, ◌||◌, ◌==◌, if◌then◌else◌, List, [], ◌∷◌, ◌++◌, length, map, Ok, IsTrue, refl, sym, ap, subst, ◌∙◌, append_assoc, length-append, arith}
use Rattle.std.specs.Prelude.{codes}
use Rattle.std.specs.List.{list_all}
use Rattle.std.specs.Fmt.{decimal}
use Rattle.std.specs.Str.{bytes_eq}
use Rattle.std.proofs.lemmas.Bool.{and_parts, le-ltb, ltb-false, eqb-true, not-false, or_parts, or_from, ne_eqb}
use Rattle.std.proofs.lemmas.List.{length-map, map-append}
use Rattle.std.proofs.lemmas.Slice.Eq.{bytes_eq-Decides}
use Rattle.residue_sums.specs.Grids.{AreResidues, Grid, IsFull}
use Rattle.byte_texts.specs.Reading.{◌>>=◌}
use Rattle.byte_texts.proofs.Binding.{bind_ok, same_ok}
use Rattle.text_scan.specs.FaultKinds.{Syntax, TooLarge}
use Rattle.text_scan.specs.Faults.{Fault, Test, ◌on◌}
use Rattle.text_scan.specs.LineOrder.{AreLines}
use Rattle.text_scan.specs.Lines.{Line, is_end}
use Rattle.text_scan.specs.Words.{is_word, is_name, is_number, number_value}
use Rattle.text_scan.proofs.FaultTests.{passed}
use Rattle.text_scan.proofs.LineOrders.{AreLines-parts, AreLines-inner, is_line-words}
use Rattle.text_scan.proofs.NumberTexts.{number_word, decimal_number}
use Rattle.matrix_text.specs.MatrixFaults.{Heading, is_heading, heading_of, is_too_large, heading_at, rows_at, last_at, grid_at, NamedGrid, matrix_at}
use Rattle.matrix_text.specs.MatrixLines.{row_lines, grid_lines, matrix_lines, size_limit, SpellsMatrix, SpellsRows}
use Rattle.matrix_text.proofs.MatrixRows.{inner_read, rows-count, rows_take, rows_again}

-- ---- the first line

abbrev pub heading_words : List ℕ → ℕ → ℕ → List (List ℕ)
heading_words name rows cols = codes "matrix" ∷ name ∷ decimal rows ∷ decimal cols ∷ []

pub record IsHeading (room : ℕ) (words : List (List ℕ)) (name : List ℕ) (rows cols : ℕ) : Type 0 where
  pub text : words ≡ heading_words name rows cols
  pub named : IsTrue (is_name name)
  pub few_rows : rows ≤ size_limit
  pub few_cols : cols ≤ size_limit
  pub fits : rows * cols ≤ room

record HeadingPassed (room : ℕ) (line : Line) (h : Heading) : Type 0 where
  form : is_heading line.words ≡ true
  size : is_too_large room h.rows h.cols ≡ false
  says : heading_of line.words ≡ h

heading_passed : (room : ℕ) (line : Line) (h : Heading) → heading_at room line ≡ Ok h → HeadingPassed room line h
unfolding heading_at
heading_passed room line h e =
    let heading = heading_of line.words in
    let syntax : Test Fault = record { holds = not (is_heading line.words); fault = Syntax on line.number } in
    let large : Test Fault = record { holds = is_too_large room heading.rows heading.cols; fault = TooLarge on line.number } in
    let first = passed syntax (large ∷ []) heading h e in
    let second = passed large [] heading h first.1 in
    let says = same_ok {F = Fault} heading h second.1 in
    record { form = not-false _ first.0; size = subst (λ (g : Heading). is_too_large room g.rows g.cols ≡ false) says second.0; says = says }

-- how large it is
sizes : (room rows cols : ℕ) → is_too_large room rows cols ≡ false → (rows ≤ size_limit) × (cols ≤ size_limit) × (rows * cols ≤ room)
sizes room rows cols e =
    let last = or_parts (nat_lt size_limit rows || nat_lt size_limit cols) (nat_lt room (rows * cols)) e in
    let first = or_parts (nat_lt size_limit rows) (nat_lt size_limit cols) last.0 in
    (ltb-false _ _ first.0, ltb-false _ _ first.1, ltb-false _ _ last.1)

sizes_fit : (room rows cols : ℕ) → rows ≤ size_limit → cols ≤ size_limit → rows * cols ≤ room → is_too_large room rows cols ≡ false
sizes_fit room rows cols few_rows few_cols fits = or_from _ _ (or_from _ _ (le-ltb size_limit rows few_rows) (le-ltb size_limit cols few_cols)) (le-ltb room (rows * cols) fits)

-- four words that pass are the words of a heading
form_takes : (room : ℕ) (words : List (List ℕ)) → is_heading words ≡ true → list_all is_word words ≡ true → is_too_large room (heading_of words).rows (heading_of words).cols ≡ false
    → IsHeading room words (heading_of words).name (heading_of words).rows (heading_of words).cols
form_takes room [] form are size = absurd cc
form_takes room (a ∷ []) form are size = absurd cc
form_takes room (a ∷ b ∷ []) form are size = absurd cc
form_takes room (a ∷ b ∷ c ∷ []) form are size = absurd cc
form_takes room (a ∷ b ∷ c ∷ d ∷ []) form are size =
    let fourth = and_parts (bytes_eq a (codes "matrix") && is_name b && is_number c) (is_number d) form in
    let third = and_parts (bytes_eq a (codes "matrix") && is_name b) (is_number c) fourth.0 in
    let second = and_parts (bytes_eq a (codes "matrix")) (is_name b) third.0 in
    let first : a ≡ codes "matrix" = (bytes_eq-Decides a (codes "matrix")).0 second.0 in
    let one = and_parts (is_word a) (list_all is_word (b ∷ c ∷ d ∷ [])) are in
    let two = and_parts (is_word b) (list_all is_word (c ∷ d ∷ [])) one.1 in
    let three = and_parts (is_word c) (list_all is_word (d ∷ [])) two.1 in
    let four = and_parts (is_word d) true three.1 in
    let limits = sizes room (number_value c) (number_value d) size in
    let rows = number_word c three.0 third.1 (omega (arith, limits.0)) in
    let cols = number_word d four.0 fourth.1 (omega (arith, limits.1)) in
    record {
      text = ap (λ (w : List ℕ). w ∷ b ∷ c ∷ d ∷ []) first ∙ sym (rw (rows, cols) refl);
      named = second.1;
      few_rows = limits.0;
      few_cols = limits.1;
      fits = limits.2;
    }
form_takes room (a ∷ b ∷ c ∷ d ∷ e ∷ words) form are size = absurd cc

-- a first line that is read is spelled so
pub heading_takes : (room : ℕ) (line : Line) (h : Heading) → list_all is_word line.words ≡ true → heading_at room line ≡ Ok h → IsHeading room line.words h.name h.rows h.cols
heading_takes room line h are e =
    let is = heading_passed room line h e in
    subst (λ (g : Heading). IsHeading room line.words g.name g.rows g.cols) is.says
    (form_takes room line.words is.form are (subst (λ (g : Heading). is_too_large room g.rows g.cols ≡ false) (sym is.says) is.size))

-- a first line that is spelled so is read
pub heading_again : (room : ℕ) (line : Line) (name : List ℕ) (rows cols : ℕ) → IsHeading room line.words name rows cols → heading_at room line ≡ Ok (record { name = name; rows = rows; cols = cols })
unfolding heading_at
heading_again room line name rows cols is =
    let first = decimal_number rows (omega (arith, is.few_rows)) in
    let second = decimal_number cols (omega (arith, is.few_cols)) in
    let size = sizes_fit room rows cols is.few_rows is.few_cols is.fits in
    rw (is.text, is.named, first.0, second.0, first.1, second.1, size) refl

-- ---- the last line

-- the word `end` alone
end_word : (words : List (List ℕ)) → is_end words ≡ true → words ≡ codes "end" ∷ []
end_word [] is = absurd cc
end_word (w ∷ []) is = ap (λ (v : List ℕ). v ∷ []) ((bytes_eq-Decides w (codes "end")).0 is)
end_word (w ∷ v ∷ words) is = absurd cc

pub last_takes : (end : ℕ) (lines behind : List Line) → last_at end lines ≡ Ok behind → (line : Line) × (lines ≡ line ∷ behind) × (line.words ≡ codes "end" ∷ [])
unfolding last_at
last_takes end [] behind e = absurd cc
last_takes end (line ∷ lines) behind e =
    let test : Test Fault = record { holds = not (is_end line.words); fault = Syntax on line.number } in
    let ends = passed test [] lines behind e in
    (line, ap (λ (ls : List Line). line ∷ ls) (same_ok {F = Fault} lines behind ends.1), end_word line.words (not-false _ ends.0))

pub last_again : (end : ℕ) (line : Line) (behind : List Line) → line.words ≡ codes "end" ∷ [] → last_at end (line ∷ behind) ≡ Ok behind
unfolding last_at
last_again end line behind is = rw is refl

-- ---- how many lines of rows there are: none, where there are no columns

row_lines-none : (b : Bool) (rows cols : ℕ) (xs : List ℕ) → row_lines (cond b 0 rows) cols xs ≡ cond b [] (row_lines rows cols xs)
row_lines-none true rows cols xs = refl
row_lines-none false rows cols xs = refl

pub row_count-entries : (rows cols : ℕ) → (if cols == 0 then 0 else rows) * cols ≡ rows * cols
row_count-entries rows cols = by_test (cols == 0) refl
  where
    by_test : (b : Bool) → (cols == 0) ≡ b → cond b 0 rows * cols ≡ rows * cols
    by_test true none = let no : cols ≡ 0 = eqb-true cols 0 none in rw no (omega arith)
    by_test false some = refl

-- ---- the rows and the last line

abbrev words_of : List Line → List (List (List ℕ))
words_of lines = map (λ line. line.words) lines

abbrev made : ℕ → ℕ → List ℕ → Grid
made rows cols xs = record { rows = rows; cols = cols; entries = xs }

-- what the steps of reading them found
record GridSteps (end m rows cols : ℕ) (lines : List Line) (g : Grid) (rest : List Line) : Type 0 where
  behind_rows : List Line
  entries : rows_at end m cols (if cols == 0 then 0 else rows) lines ≡ Ok (g.entries, behind_rows)
  last : last_at end behind_rows ≡ Ok rest
  made_of : made rows cols g.entries ≡ g

grid_steps : (end m rows cols : ℕ) (lines : List Line) (g : Grid) (rest : List Line) → grid_at end m rows cols lines ≡ Ok (g, rest) → GridSteps end m rows cols lines g rest
grid_steps end m rows cols lines g rest e =
    let answer : Grid × List Line = (g, rest) in
    let read = bind_ok (rows_at end m cols (if cols == 0 then 0 else rows) lines) (λ entries. last_at end entries.1 >>= λ behind. Ok (made rows cols entries.0, behind)) answer e in
    let last = bind_ok (last_at end read.0.1) (λ behind. Ok (made rows cols read.0.0, behind)) answer read.2 in
    let found : Grid × List Line = (made rows cols read.0.0, last.0) in
    let same = same_ok {F = Fault} found answer last.2 in
    subst (λ (p : Grid × List Line). GridSteps end m rows cols lines p.0 p.1) same
    (record { behind_rows = read.0.1; entries = read.1; last = last.1; made_of = refl })

-- the grid is full
pub grid-full : (end m rows cols : ℕ) (lines : List Line) (g : Grid) (rest : List Line) → grid_at end m rows cols lines ≡ Ok (g, rest) → IsFull g
grid-full end m rows cols lines g rest e =
    let steps = grid_steps end m rows cols lines g rest e in
    subst IsFull steps.made_of (rows-count end m cols (if cols == 0 then 0 else rows) lines g.entries steps.behind_rows steps.entries ∙ row_count-entries rows cols)

-- rows and a last line are the lines of a grid
rows_spelled : (rows cols : ℕ) (xs : List ℕ) (own : List Line) (last : Line) → words_of own ≡ row_lines (if cols == 0 then 0 else rows) cols xs → last.words ≡ codes "end" ∷ []
    → words_of (own ++ last ∷ []) ≡ grid_lines (made rows cols xs)
rows_spelled rows cols xs own last words ends =
    map-append (λ (line : Line). line.words) own (last ∷ [])
    ∙ ap (λ (ws : List (List ℕ)). words_of own ++ ws ∷ []) ends
    ∙ ap (λ (vs : List (List (List ℕ))). vs ++ (codes "end" ∷ []) ∷ []) (words ∙ row_lines-none (cols == 0) rows cols xs)

-- rows that are read are spelled so
pub grid_takes : (end m rows cols : ℕ) (lines : List Line) (g : Grid) (rest : List Line) → m ≤ 2 ^ 64 → AreLines end lines
    → grid_at end m rows cols lines ≡ Ok (g, rest) → SpellsRows m rows cols lines g rest
grid_takes end m rows cols lines g rest small are e =
    let steps = grid_steps end m rows cols lines g rest e in
    let read = rows_take end m cols (if cols == 0 then 0 else rows) lines g.entries steps.behind_rows small are steps.entries in
    let last = last_takes end steps.behind_rows rest steps.last in
    let parts : lines ≡ (read.0 ++ last.0 ∷ []) ++ rest = read.1 ∙ ap (λ (ls : List Line). read.0 ++ ls) last.1 ∙ sym (append_assoc read.0 (last.0 ∷ []) rest) in
    subst (λ (h : Grid). SpellsRows m rows cols lines h rest) steps.made_of (record {
      text = (read.0 ++ last.0 ∷ [], parts, rows_spelled rows cols g.entries read.0 last.0 read.2.text last.2);
      as_many_rows = refl;
      as_many_cols = refl;
      full = subst IsFull (sym steps.made_of) (grid-full end m rows cols lines g rest e);
      residues = read.2.below;
    })

-- lines of which the last is known
record SplitLast (own : List Line) (words : List (List (List ℕ))) (last : List (List ℕ)) : Type 0 where
  front : List Line
  line : Line
  parts : own ≡ front ++ line ∷ []
  front_words : words_of front ≡ words
  line_words : line.words ≡ last

split_last : (own : List Line) (words : List (List (List ℕ))) (last : List (List ℕ)) → words_of own ≡ words ++ last ∷ [] → SplitLast own words last
split_last [] [] last e = absurd cc
split_last [] (w ∷ words) last e = absurd cc
split_last (line ∷ []) [] last e = record { front = []; line = line; parts = refl; front_words = refl; line_words = cc }
split_last (line ∷ next ∷ own) [] last e = absurd cc
split_last (line ∷ own) (w ∷ words) last e =
    let others : words_of own ≡ words ++ last ∷ [] = cc in
    let first : line.words ≡ w = cc in
    let split = split_last own words last others in
    record {
      front = line ∷ split.front;
      line = split.line;
      parts = ap (λ (ls : List Line). line ∷ ls) split.parts;
      front_words = ap (λ (v : List (List ℕ)). v ∷ words_of split.front) first ∙ ap (λ (vs : List (List (List ℕ))). w ∷ vs) split.front_words;
      line_words = split.line_words;
    }

-- the grid with its own rows and columns
own_rows : (end m : ℕ) (own rest : List Line) (g : Grid) → m ≤ 2 ^ 64 → AreLines end (own ++ rest) → words_of own ≡ grid_lines g → IsFull g → AreResidues m g
    → grid_at end m g.rows g.cols (own ++ rest) ≡ Ok (g, rest)
own_rows end m own rest g small are words full residues =
    let split = split_last own (if g.cols == 0 then [] else row_lines g.rows g.cols g.entries) (codes "end" ∷ []) words in
    let whole : own ++ rest ≡ split.front ++ split.line ∷ rest = ap (λ (ls : List Line). ls ++ rest) split.parts ∙ append_assoc split.front (split.line ∷ []) rest in
    let read = rows_again end m g.cols (if g.cols == 0 then 0 else g.rows) split.front (split.line ∷ rest) g.entries small (subst (AreLines end) whole are) (omega arith)
    (record { text = split.front_words ∙ sym (row_lines-none (g.cols == 0) g.rows g.cols g.entries); below = residues }) (full ∙ sym (row_count-entries g.rows g.cols)) in
    let last = last_again end split.line rest split.line_words in
    rw (whole, read, last) refl

-- rows that are spelled so are read
pub grid_again : (end m rows cols : ℕ) (lines : List Line) (g : Grid) (rest : List Line) → m ≤ 2 ^ 64 → AreLines end lines
    → SpellsRows m rows cols lines g rest → grid_at end m rows cols lines ≡ Ok (g, rest)
grid_again end m rows cols lines g rest small are is =
    ap (λ n. grid_at end m n cols lines) (sym is.as_many_rows) ∙ ap (λ n. grid_at end m g.rows n lines) (sym is.as_many_cols)
    ∙ ap (grid_at end m g.rows g.cols) is.text.1
    ∙ own_rows end m is.text.0 rest g small (subst (AreLines end) is.text.1 are) is.text.2 is.full is.residues

-- ---- the whole matrix

-- what the steps of reading a matrix found
record MatrixSteps (end m room : ℕ) (lines : List Line) (name : List ℕ) (g : Grid) (rest : List Line) : Type 0 where
  first : Line
  behind_first : List Line
  rows : ℕ
  cols : ℕ
  lines_are : lines ≡ first ∷ behind_first
  heading : heading_at room first ≡ Ok (record { name = name; rows = rows; cols = cols })
  grid : grid_at end m rows cols behind_first ≡ Ok (g, rest)

matrix_steps : (end m room : ℕ) (lines : List Line) (name : List ℕ) (g : Grid) (rest : List Line) → matrix_at end m room lines ≡ Ok (record { name = name; grid = g }, rest) → MatrixSteps end m room lines name g rest
unfolding matrix_at
matrix_steps end m room [] name g rest e = absurd cc
matrix_steps end m room (line ∷ lines) name g rest e =
    let answer : NamedGrid × List Line = (record { name = name; grid = g }, rest) in
    let inner = inner_read (line.number == end) end (line, lines) (λ first. heading_at room first.0 >>= λ h. grid_at end m h.rows h.cols first.1 >>= λ grid. Ok (record { name = h.name; grid = grid.0 }, grid.1)) answer e in
    let heading = bind_ok (heading_at room line) (λ h. grid_at end m h.rows h.cols lines >>= λ grid. Ok (record { name = h.name; grid = grid.0 }, grid.1)) answer inner in
    let h = heading.0 in
    let grid = bind_ok (grid_at end m h.rows h.cols lines) (λ grid. Ok (record { name = h.name; grid = grid.0 }, grid.1)) answer heading.2 in
    let found : NamedGrid × List Line = (record { name = h.name; grid = grid.0.0 }, grid.0.1) in
    let same = same_ok {F = Fault} found answer grid.2 in
    subst (λ (p : NamedGrid × List Line). MatrixSteps end m room (line ∷ lines) p.0.name p.0.grid p.1) same
    (record { first = line; behind_first = lines; rows = h.rows; cols = h.cols; lines_are = refl; heading = heading.1; grid = grid.1 })

-- its lines
spelled : (name : List ℕ) (rows cols : ℕ) (g : Grid) (first : Line) (own : List Line) → first.words ≡ heading_words name rows cols → g.rows ≡ rows → g.cols ≡ cols → words_of own ≡ grid_lines g
    → words_of (first ∷ own) ≡ matrix_lines name g
spelled name rows cols g first own heading as_many_rows as_many_cols words =
    ap (λ (ws : List (List ℕ)). ws ∷ words_of own) (heading ∙ ap (λ n. heading_words name n cols) (sym as_many_rows) ∙ ap (heading_words name g.rows) (sym as_many_cols))
    ∙ ap (λ (vs : List (List (List ℕ))). heading_words name g.rows g.cols ∷ vs) words

-- a matrix that is read is spelled so
pub matrix_takes : (end m room : ℕ) (lines : List Line) (name : List ℕ) (g : Grid) (rest : List Line) → m ≤ 2 ^ 64 → AreLines end lines
    → matrix_at end m room lines ≡ Ok (record { name = name; grid = g }, rest) → SpellsMatrix m room lines name g rest
matrix_takes end m room lines name g rest small are e =
    let steps = matrix_steps end m room lines name g rest e in
    let is = AreLines-parts (subst (AreLines end) steps.lines_are are) in
    let heading = heading_takes room steps.first (record { name = name; rows = steps.rows; cols = steps.cols }) (is_line-words steps.first.words is.words) steps.heading in
    let grid = grid_takes end m steps.rows steps.cols steps.behind_first g rest small is.others steps.grid in
    record {
      text = (
        steps.first ∷ grid.text.0,
        steps.lines_are ∙ ap (λ (ls : List Line). steps.first ∷ ls) grid.text.1,
        spelled name steps.rows steps.cols g steps.first grid.text.0 heading.text grid.as_many_rows grid.as_many_cols grid.text.2,
      );
      named = heading.named;
      rows = subst (λ n. n ≤ size_limit) (sym grid.as_many_rows) heading.few_rows;
      cols = subst (λ n. n ≤ size_limit) (sym grid.as_many_cols) heading.few_cols;
      fits = subst (λ n. n * g.cols ≤ room) (sym grid.as_many_rows) (subst (λ n. steps.rows * n ≤ room) (sym grid.as_many_cols) heading.fits);
      full = grid.full;
      residues = grid.residues;
    }

-- the lines of a matrix, taken apart
record MatrixOwn (name : List ℕ) (g : Grid) (own : List Line) : Type 0 where
  first : Line
  others : List Line
  parts : own ≡ first ∷ others
  heading : first.words ≡ heading_words name g.rows g.cols
  others_words : words_of others ≡ grid_lines g

own_parts : (name : List ℕ) (g : Grid) (own : List Line) → words_of own ≡ matrix_lines name g → MatrixOwn name g own
own_parts name g [] e = absurd cc
own_parts name g (first ∷ own) e = taken (grid_lines g) refl e
  where
    taken : (lines : List (List (List ℕ))) → lines ≡ grid_lines g → first.words ∷ words_of own ≡ heading_words name g.rows g.cols ∷ lines → MatrixOwn name g (first ∷ own)
    taken lines are e =
        let others : words_of own ≡ lines = cc in
        record { first = first; others = own; parts = refl; heading = cc; others_words = others ∙ are }

-- there is a last line
pub grid_lines-some : (g : Grid) → 0 < length (grid_lines g)
grid_lines-some g = omega (arith, length-append (if g.cols == 0 then [] else row_lines g.rows g.cols g.entries) ((codes "end" ∷ []) ∷ []))

-- a matrix that is spelled so is read
pub matrix_again : (end m room : ℕ) (lines : List Line) (name : List ℕ) (g : Grid) (rest : List Line) → m ≤ 2 ^ 64 → AreLines end lines
    → SpellsMatrix m room lines name g rest → matrix_at end m room lines ≡ Ok (record { name = name; grid = g }, rest)
unfolding matrix_at
matrix_again end m room lines name g rest small are is =
    let own = own_parts name g is.text.0 is.text.2 in
    let whole : lines ≡ own.first ∷ (own.others ++ rest) = is.text.1 ∙ ap (λ (ls : List Line). ls ++ rest) own.parts in
    let all = subst (AreLines end) whole are in
    let some : 0 < length (own.others ++ rest) = omega (arith, length-append own.others rest, length-map own.others (λ (line : Line). line.words), ap length own.others_words, grid_lines-some g) in
    let inner = AreLines-inner own.first (own.others ++ rest) all some in
    let heading = heading_again room own.first name g.rows g.cols (record { text = own.heading; named = is.named; few_rows = is.rows; few_cols = is.cols; fits = is.fits }) in
    let grid = own_rows end m own.others rest g small (AreLines-parts all).others own.others_words is.full is.residues in
    rw (whole, ne_eqb own.first.number end inner, heading, grid) refl
