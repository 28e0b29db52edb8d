-- The lines of matrices are read as these, block by block. Cited by the law that a job's lines are read as the job.
use Rattle.std.proofs.Common.{◌≡◌, ◌≢◌, ℕ, zero, suc, ◌+◌, ◌-◌, ◌*◌, ◌^◌, ◌<◌, ◌≤◌, true, false, ◌==◌, if◌then◌else◌, List, [], ◌∷◌, ◌++◌, length, codes, All, AllPairs, IsTrue, Ok, refl, sym, ap, subst, ◌∙◌, arith, append_assoc, length-append}
use Rattle.std.specs.Fmt.{decimal}
use Rattle.std.proofs.lemmas.Bool.{and_from, lt-leb, ne_eqb}
use Rattle.std.proofs.lemmas.List.{append-nil, length-map}
use Rattle.residue_sums.specs.Grids.{Grid, IsFull, AreResidues}
use Rattle.text_scan.specs.LineOrder.{AreLines}
use Rattle.text_scan.specs.Lines.{Line, begins_with}
use Rattle.text_scan.specs.Words.{is_name}
use Rattle.text_scan.proofs.LineOrders.{AreLines-behind, AreLines-inner}
use Rattle.text_scan.proofs.NumberTexts.{decimal_number}
use Rattle.operation_spec.proofs.ImageParts.{map_nil}
use Rattle.operation_spec.proofs.NamesApart.{is_among-none}
use Rattle.matrix_text.specs.MatrixFaults.{is_heading}
use Rattle.matrix_text.specs.MatrixLines.{SpellsMatrix, row_lines, matrix_lines, size_limit}
use Rattle.matrix_text.proofs.MatrixSpelling.{matrix_again}
use Rattle.equation.specs.Jobs.{entry_count}
use Rattle.job_text.specs.JobFaults.{Matrices, entry_limit, matrix_limit, matrix_head_at, matrices_at, next_matrix_at}
use Rattle.job_text.specs.JobLines.{matrix_blocks}
use Rattle.job_text.proofs.ItemsAgain.{All-at, AllPairs-before}
use Rattle.job_text.proofs.SectionsAgain.{words_of, first_begins, first_block}

-- a matrix that a text can have
pub record IsMatrix (m : ℕ) (g : Grid) : Type 0 where
  pub full : IsFull g
  pub residues : AreResidues m g
  pub rows : g.rows ≤ size_limit
  pub cols : g.cols ≤ size_limit

-- matrices that a text can have
pub record AreMatrices (m : ℕ) (all : Matrices) : Type 0 where
  pub small : m ≤ 2 ^ 64
  pub grids : All (IsMatrix m) all.grids
  pub few : length all.grids ≤ matrix_limit
  pub entries : entry_count all.grids ≤ entry_limit
  pub named : All (λ name. IsTrue (is_name name)) all.names
  pub once : AllPairs (λ a b. a ≢ b) all.names

-- ---- how many entries there are

-- those of two lists of matrices
entry_count-append : (gs hs : List Grid) → entry_count (gs ++ hs) ≡ entry_count gs + entry_count hs
entry_count-append [] hs = omega arith
entry_count-append (g ∷ gs) hs = omega (arith, entry_count-append gs hs)

-- a matrix has room behind those found
has_room : (found : List Grid) (g : Grid) (gs all : List Grid) → found ++ g ∷ gs ≡ all → entry_count all ≤ entry_limit → g.rows * g.cols ≤ entry_limit - entry_count found
has_room found g gs all parts few = room (g.rows * g.cols) (entry_count found) (entry_count gs) (entry_count all) (sym (entry_count-append found (g ∷ gs)) ∙ ap entry_count parts) few
  where
    room : (n before behind total : ℕ) → before + (n + behind) ≡ total → total ≤ entry_limit → n ≤ entry_limit - before
    room n before behind total sums below = omega arith

-- ---- a block

-- it has a first line and a last one
matrix_lines-many : (name : List ℕ) (g : Grid) → 1 < length (matrix_lines name g)
matrix_lines-many name g = omega (arith, length-append (if g.cols == 0 then [] else row_lines g.rows g.cols g.entries) ((codes "end" ∷ []) ∷ []))

-- its first line has the form
is_heading-line : (name : List ℕ) (g : Grid) → IsTrue (is_name name) → g.rows ≤ size_limit → g.cols ≤ size_limit → is_heading (codes "matrix" ∷ name ∷ decimal g.rows ∷ decimal g.cols ∷ []) ≡ true
is_heading-line name g named rows cols = and_from _ _ (and_from _ _ named (decimal_number g.rows (omega arith)).0) (decimal_number g.cols (omega arith)).0

-- no test of its first line holds that speaks of the matrices above
matrix_head_at-line : (end : ℕ) (found : Matrices) (line : Line) (name : List ℕ) (g : Grid) → line.words ≡ codes "matrix" ∷ name ∷ decimal g.rows ∷ decimal g.cols ∷ [] → line.number ≢ end
    → is_heading (codes "matrix" ∷ name ∷ decimal g.rows ∷ decimal g.cols ∷ []) ≡ true → length found.grids < matrix_limit → All (λ other. other ≢ name) found.names → matrix_head_at end found line ≡ Ok tt
unfolding matrix_head_at
matrix_head_at-line end found line name g words inside heading few others =
    rw (ne_eqb line.number end inside, words, heading, lt-leb matrix_limit (length found.grids) few, is_among-none found.names name others) refl

-- a matrix among others, and its lines before others
module _ (end m : ℕ) (found : Matrices) (name : List ℕ) (names : List (List ℕ)) (g : Grid) (grids : List Grid) (all : Matrices) (line : Line) (lines rest : List Line)
    (parts : found.names ++ name ∷ names ≡ all.names) (grid_parts : found.grids ++ g ∷ grids ≡ all.grids) (are : AreMatrices m all)
    (in_order : AreLines end (line ∷ (lines ++ rest))) (words : words_of (line ∷ lines) ≡ matrix_lines name g) where
  named : IsTrue (is_name name)
  named = All-at (λ n. IsTrue (is_name n)) found.names name names all.names parts are.named

  is_matrix : IsMatrix m g
  is_matrix = All-at (IsMatrix m) found.grids g grids all.grids grid_parts are.grids

  head_passes : matrix_head_at end found line ≡ Ok tt
  head_passes =
      let first : line.words ≡ codes "matrix" ∷ name ∷ decimal g.rows ∷ decimal g.cols ∷ [] = cc in
      let many : 0 < length (lines ++ rest) = omega (arith, length-append lines rest, length-map (line ∷ lines) (λ (l : Line). l.words), ap length words, matrix_lines-many name g) in
      let few : length found.grids < matrix_limit = omega (arith, length-append found.grids (g ∷ grids), ap length grid_parts, are.few) in
      matrix_head_at-line end found line name g first (AreLines-inner line (lines ++ rest) in_order many) (is_heading-line name g named is_matrix.rows is_matrix.cols) few
      (AllPairs-before (λ a b. a ≢ b) found.names name names all.names parts are.once)

  -- its lines spell the matrix, which has room
  spells : SpellsMatrix m (entry_limit - entry_count found.grids) (line ∷ (lines ++ rest)) name g rest
  spells = record {
    text = (line ∷ lines, refl, words);
    named = named;
    rows = is_matrix.rows;
    cols = is_matrix.cols;
    fits = has_room found.grids g grids all.grids grid_parts are.entries;
    full = is_matrix.full;
    residues = is_matrix.residues;
  }

  -- the block is read as the matrix
  next_matrix_at-lines : next_matrix_at end m found line (lines ++ rest) ≡ Ok (record { name = name; grid = g }, rest)
  unfolding next_matrix_at
  next_matrix_at-lines = rw (head_passes, matrix_again end m (entry_limit - entry_count found.grids) (line ∷ (lines ++ rest)) name g rest are.small in_order spells) refl

  -- it is found, and the lines behind it are left
  one_more_matrix : (blocks : ℕ) → matrices_at (suc blocks) end m found (line ∷ (lines ++ rest))
      ≡ matrices_at blocks end m (record { names = found.names ++ name ∷ []; grids = found.grids ++ g ∷ [] }) rest
  unfolding matrices_at
  one_more_matrix blocks =
      let begins : begins_with (codes "matrix") line.words ≡ true = let first : line.words ≡ codes "matrix" ∷ name ∷ decimal g.rows ∷ decimal g.cols ∷ [] = cc in ap (begins_with (codes "matrix")) first in
      rw (begins, next_matrix_at-lines) refl

-- ---- all blocks

-- the lines begin with no matrix
no_more_matrices : (blocks end m : ℕ) (found : Matrices) (lines : List Line) → first_begins (codes "matrix") (words_of lines) ≡ false → matrices_at blocks end m found lines ≡ Ok (found, lines)
unfolding matrices_at
no_more_matrices zero end m found lines other = refl
no_more_matrices (suc blocks) end m found [] other = refl
no_more_matrices (suc blocks) end m found (line ∷ lines) other = rw other refl

-- with none left all are found
all_found : (found all : Matrices) → found.names ++ [] ≡ all.names → found.grids ++ [] ≡ all.grids → found ≡ all
all_found found all names grids =
    let first : found.names ≡ all.names = sym (append-nil found.names) ∙ names in
    let second : found.grids ≡ all.grids = sym (append-nil found.grids) ∙ grids in
    ap (λ (ns : List (List ℕ)). record { names = ns; grids = found.grids }) first ∙ ap (λ (gs : List Grid). record { names = all.names; grids = gs }) second

-- the matrices behind those found; there are as many blocks at least
pub matrices_at-lines : (end m : ℕ) (found : Matrices) (names : List (List ℕ)) (grids : List Grid) (all : Matrices) (blocks : ℕ) (own rest : List Line) → length names ≡ length grids
    → found.names ++ names ≡ all.names → found.grids ++ grids ≡ all.grids → AreMatrices m all → AreLines end (own ++ rest)
    → words_of own ≡ matrix_blocks names grids → first_begins (codes "matrix") (words_of rest) ≡ false → length grids ≤ blocks
    → matrices_at blocks end m found (own ++ rest) ≡ Ok (all, rest)
matrices_at-lines end m found [] [] all blocks own rest count parts grid_parts are in_order words other enough =
    let none : own ≡ [] = map_nil (λ (l : Line). l.words) own words in
    ap (λ (ls : List Line). matrices_at blocks end m found (ls ++ rest)) none ∙ no_more_matrices blocks end m found rest other ∙ ap (λ (ms : Matrices). Ok (ms, rest)) (all_found found all parts grid_parts)
matrices_at-lines end m found [] (g ∷ grids) all blocks own rest count parts grid_parts are in_order words other enough = absurd (omega arith)
matrices_at-lines end m found (name ∷ names) [] all blocks own rest count parts grid_parts are in_order words other enough = absurd (omega arith)
matrices_at-lines end m found (name ∷ names) (g ∷ grids) all zero own rest count parts grid_parts are in_order words other enough = absurd (omega arith)
matrices_at-lines end m found (name ∷ names) (g ∷ grids) all (suc blocks) own rest count parts grid_parts are in_order words other enough =
    let b = first_block own (matrix_lines name g) (matrix_blocks names grids) (omega arith) words in
    let whole : own ++ rest ≡ b.line ∷ (b.lines ++ (b.behind ++ rest)) = ap (λ (ls : List Line). ls ++ rest) b.parts ∙ append_assoc (b.line ∷ b.lines) b.behind rest in
    let all_in_order = subst (AreLines end) whole in_order in
    ap (matrices_at (suc blocks) end m found) whole
    ∙ one_more_matrix end m found name names g grids all b.line b.lines (b.behind ++ rest) parts grid_parts are all_in_order b.words blocks
    ∙ matrices_at-lines end m (record { names = found.names ++ name ∷ []; grids = found.grids ++ g ∷ [] }) names grids all blocks b.behind rest (omega arith)
    (append_assoc found.names (name ∷ []) names ∙ parts) (append_assoc found.grids (g ∷ []) grids ∙ grid_parts) are (AreLines-behind (b.line ∷ b.lines) (b.behind ++ rest) all_in_order)
    b.behind_words other (omega arith)
