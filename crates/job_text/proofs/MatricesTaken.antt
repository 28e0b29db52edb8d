-- The matrix blocks of a job that were read. Cited by the law that what is read is spelled so.
use Rattle.std.proofs.Common.{◌≡◌, ◌≢◌, ℕ, zero, suc, ◌+◌, ◌-◌, ◌*◌, ◌<◌, ◌≤◌, ◌^◌, true, false, List, [], ◌∷◌, ◌++◌, length, codes, decimal, Ok, IsTrue, All, AllPairs, refl, sym, ap, ◌∙◌, arith, append_assoc, append-nil, length-append, leb-false}
use Rattle.std.specs.List.{list_all}
use Rattle.std.proofs.lemmas.Bool.{and_parts}
use Rattle.std.proofs.lemmas.List.Elements.{All-nil, All-push}
use Rattle.std.proofs.lemmas.List.Quantifiers.{all_pairs_push}
use Rattle.residue_sums.specs.Grids.{Grid, IsFull, AreResidues}
use Rattle.byte_texts.proofs.Binding.{bind_ok}
use Rattle.text_scan.specs.Names.{is_among}
use Rattle.text_scan.specs.LineOrder.{AreLines}
use Rattle.text_scan.specs.Lines.{Line, begins_with, nth_word}
use Rattle.text_scan.specs.Words.{is_name, is_word}
use Rattle.text_scan.proofs.FaultTests.{passed_by}
use Rattle.text_scan.proofs.LineOrders.{AreLines-parts, is_line-words}
use Rattle.operation_spec.proofs.FoundNames.{none_is}
use Rattle.matrix_text.specs.MatrixFaults.{NamedGrid}
use Rattle.matrix_text.specs.MatrixLines.{SpellsMatrix, matrix_lines, size_limit}
use Rattle.matrix_text.proofs.MatrixSpelling.{matrix_takes}
use Rattle.equation.specs.Jobs.{entry_count}
use Rattle.job_text.specs.JobFaults.{Matrices, with_matrix, matrix_limit, entry_limit, matrix_head_at, next_matrix_at, matrices_at}
use Rattle.job_text.specs.JobLines.{matrix_blocks}
use Rattle.job_text.proofs.SectionLines.{first_words, lines_behind, SectionTaken, no_part, part_before, at_word}

-- what holds of matrices that were read
pub record AreMatrices (m : ℕ) (found : Matrices) : Type 0 where
  pub each : length found.names ≡ length found.grids
  pub few : length found.grids ≤ matrix_limit
  pub entries : entry_count found.grids ≤ entry_limit
  pub sizes : All (λ g. (g.rows ≤ size_limit) × (g.cols ≤ size_limit)) found.grids
  pub full : All IsFull found.grids
  pub residues : All (AreResidues m) found.grids
  pub named : All (λ name. IsTrue (is_name name)) found.names
  pub words : All (λ name. IsTrue (is_word name)) found.names
  pub once : AllPairs (λ a b. a ≢ b) found.names

abbrev pub no_matrix : Matrices
no_matrix = record { names = []; grids = [] }

pub no_matrices : (m : ℕ) → AreMatrices m no_matrix
no_matrices m = record {
  each = refl;
  few = omega arith;
  entries = omega arith;
  sizes = All-nil _;
  full = All-nil IsFull;
  residues = All-nil (AreResidues m);
  named = All-nil _;
  words = All-nil _;
  once = λ i j d before below. absurd (omega arith);
}

-- ---- one block

-- a block behind others
record MatrixTaken (m : ℕ) (found : Matrices) (lines : List Line) (new : NamedGrid) (rest : List Line) : Type 0 where
  spelled : SpellsMatrix m (entry_limit - entry_count found.grids) lines new.name new.grid rest
  few : length found.grids < matrix_limit
  word : IsTrue (is_word new.name)
  new_name : All (λ name. name ≢ new.name) found.names

-- the tests of its first line
head_taken : (end : ℕ) (found : Matrices) (line : Line) (done : Unit {0}) → matrix_head_at end found line ≡ Ok done
    → (length found.grids < matrix_limit) × (is_among found.names (nth_word line.words 1) ≡ false)
unfolding matrix_head_at
head_taken end found line done e =
    let form = passed_by _ _ _ done e in
    let few = passed_by _ _ _ done form.1 in
    let name = passed_by _ _ _ done few.1 in
    (leb-false matrix_limit (length found.grids) few.0, name.0)

-- the name on a first line is a word
name_word : (words : List (List ℕ)) (name : List ℕ) (others : List (List ℕ)) → list_all is_word words ≡ true → words ≡ codes "matrix" ∷ name ∷ others → IsTrue (is_word name)
name_word words name others are same =
    let all : list_all is_word (codes "matrix" ∷ name ∷ others) ≡ true = ap (list_all is_word) (sym same) ∙ are in
    (and_parts (is_word name) (list_all is_word others) (and_parts (is_word (codes "matrix")) (list_all is_word (name ∷ others)) all).1).0

block_taken : (end m : ℕ) (found : Matrices) (line : Line) (lines : List Line) (new : NamedGrid) (rest : List Line) → m < 2 ^ 32 → AreLines end (line ∷ lines)
    → next_matrix_at end m found line lines ≡ Ok (new, rest) → MatrixTaken m found (line ∷ lines) new rest
unfolding next_matrix_at
block_taken end m found line lines new rest small are e =
    let room = entry_limit - entry_count found.grids in
    let head = bind_ok _ _ (new, rest) e in
    let tests = head_taken end found line head.0 head.1 in
    let spelled = matrix_takes end m room (line ∷ lines) new.name new.grid rest (omega arith) are head.2 in
    let words = first_words line lines spelled.text.0 rest _ _ spelled.text.1 spelled.text.2 in
    record {
      spelled = spelled;
      few = tests.0;
      word = name_word line.words new.name (decimal new.grid.rows ∷ decimal new.grid.cols ∷ []) (is_line-words line.words (AreLines-parts are).words) words;
      new_name = none_is found.names new.name (sym (ap (λ (ws : List (List ℕ)). is_among found.names (nth_word ws 1)) words) ∙ tests.1);
    }

-- the entries of one more
pub entry_count-push : (grids : List Grid) (g : Grid) → entry_count (grids ++ g ∷ []) ≡ entry_count grids + g.rows * g.cols
entry_count-push [] g = omega arith
entry_count-push (h ∷ grids) g = omega (arith, entry_count-push grids g)

-- with one more
one_more : (m : ℕ) (found : Matrices) (lines : List Line) (new : NamedGrid) (rest : List Line) → AreMatrices m found → MatrixTaken m found lines new rest → AreMatrices m (with_matrix found new)
one_more m found lines new rest are more =
    let g = new.grid in
    let room = entry_limit - entry_count found.grids in
    let fits : g.rows * g.cols ≤ room = more.spelled.fits in
    let below : entry_count found.grids ≤ entry_limit = are.entries in
    record {
      each = omega (arith, are.each, length-append found.names (new.name ∷ []), length-append found.grids (g ∷ []));
      few = omega (arith, more.few, length-append found.grids (g ∷ []));
      entries = omega (arith, fits, below, entry_count-push found.grids g);
      sizes = All-push (λ (g : Grid). (g.rows ≤ size_limit) × (g.cols ≤ size_limit)) found.grids g are.sizes (more.spelled.rows, more.spelled.cols);
      full = All-push IsFull found.grids g are.full more.spelled.full;
      residues = All-push (AreResidues m) found.grids g are.residues more.spelled.residues;
      named = All-push (λ name. IsTrue (is_name name)) found.names new.name are.named more.spelled.named;
      words = All-push (λ name. IsTrue (is_word name)) found.names new.name are.words more.word;
      once = all_pairs_push (λ a b. a ≢ b) found.names new.name are.once more.new_name;
    }

-- ---- all blocks

-- the lines of matrices
abbrev pub matrices_lines : Matrices → List (List (List ℕ))
matrices_lines found = matrix_blocks found.names found.grids

-- one more block
matrix_blocks-push : (names : List (List ℕ)) (grids : List Grid) (name : List ℕ) (g : Grid) → length names ≡ length grids
    → matrix_blocks (names ++ name ∷ []) (grids ++ g ∷ []) ≡ matrix_blocks names grids ++ matrix_lines name g
matrix_blocks-push [] [] name g each = append-nil (matrix_lines name g)
matrix_blocks-push [] (h ∷ grids) name g each = absurd (omega arith)
matrix_blocks-push (first ∷ names) [] name g each = absurd (omega arith)
matrix_blocks-push (first ∷ names) (h ∷ grids) name g each =
    ap (λ (blocks : List (List (List ℕ))). matrix_lines first h ++ blocks) (matrix_blocks-push names grids name g (omega arith))
    ∙ sym (append_assoc (matrix_lines first h) (matrix_blocks names grids) (matrix_lines name g))

-- lines that were read as matrices behind those found
abbrev pub MatricesTaken : ℕ → Matrices → List Line → Matrices × List Line → Type 0
MatricesTaken m = SectionTaken (AreMatrices m) matrices_lines

-- a block, where those behind it were read
block_before : (end m : ℕ) (found : Matrices) (line : Line) (lines : List Line) (read : Matrices × List Line) (new : NamedGrid) (rest : List Line) → m < 2 ^ 32 → AreLines end (line ∷ lines)
    → AreMatrices m found → next_matrix_at end m found line lines ≡ Ok (new, rest)
    → (AreLines end rest → AreMatrices m (with_matrix found new) → MatricesTaken m (with_matrix found new) rest read) → MatricesTaken m found (line ∷ lines) read
block_before end m found line lines read new rest small lines_are are e others =
    let taken = block_taken end m found line lines new rest small lines_are e in
    let own = taken.spelled.text.0 in
    let text = matrix_blocks-push found.names found.grids new.name new.grid are.each ∙ ap (λ (words : List (List (List ℕ))). matrices_lines found ++ words) (sym taken.spelled.text.2) in
    part_before (AreMatrices m) matrices_lines found (with_matrix found new) (line ∷ lines) own rest read taken.spelled.text.1 text
    (others (lines_behind end (line ∷ lines) own rest lines_are taken.spelled.text.1) (one_more m found (line ∷ lines) new rest are taken))

pub matrices_taken : (blocks end m : ℕ) (found : Matrices) (lines : List Line) (read : Matrices × List Line) → m < 2 ^ 32 → AreLines end lines → AreMatrices m found
    → matrices_at blocks end m found lines ≡ Ok read → MatricesTaken m found lines read
unfolding matrices_at
matrices_taken zero end m found lines read small lines_are are e = no_part (AreMatrices m) matrices_lines found lines read are e
matrices_taken (suc blocks) end m found [] read small lines_are are e = no_part (AreMatrices m) matrices_lines found [] read are e
matrices_taken (suc blocks) end m found (line ∷ lines) read small lines_are are e =
    at_word (AreMatrices m) matrices_lines found (line ∷ lines) read (next_matrix_at end m found line lines) (λ x. matrices_at blocks end m (with_matrix found x.0) x.1) are
    (λ x step behind. block_before end m found line lines read x.0 x.1 small lines_are are step
    (λ rest_are more. matrices_taken blocks end m (with_matrix found x.0) x.1 read small rest_are more behind))
    (begins_with (codes "matrix") line.words) e
