-- The lines of matrices as they stand after statements are read as these, block by block. Cited by the law that what is spelled so is
-- read.
use Rattle.std.proofs.Common.{◌≡◌, ◌≢◌, ℕ, ◌<◌, ◌≤◌, ◌^◌, true, List, [], ◌∷◌, ◌++◌, length, drop, codes, All, IsTrue, Ok, refl, sym, ap, subst, ◌∙◌, arith, append_assoc, append-nil, length-append, eq-eqb}
use Rattle.std.specs.Fmt.{decimal}
use Rattle.std.specs.Str.{bytes_eq}
use Rattle.std.proofs.lemmas.Bool.{ne_eqb}
use Rattle.std.proofs.lemmas.List.{length-map}
use Rattle.std.proofs.lemmas.List.Elements.{All-head, All-tail}
use Rattle.std.proofs.lemmas.Slice.Eq.{bytes_eq-Decides}
use Rattle.residue_sums.specs.Grids.{Grid}
use Rattle.text_scan.specs.declared.Rest.{Rest}
use Rattle.text_scan.specs.LineOrder.{AreLines}
use Rattle.text_scan.specs.Lines.{Line, end_line_of, lines_of}
use Rattle.text_scan.specs.Words.{is_name}
use Rattle.text_scan.proofs.LineOrders.{AreLines-behind, AreLines-from_tokens, AreLines-inner, AreLines-parts}
use Rattle.text_scan.proofs.NumberTexts.{decimal_number}
use Rattle.text_scan.proofs.ScannedTokens.{AreTokens-scanned}
use Rattle.operation_spec.proofs.ImageParts.{map_nil}
use Rattle.matrix_text.specs.MatrixLines.{grid_lines}
use Rattle.matrix_text.proofs.MatrixSpelling.{grid_again, grid_lines-some}
use Rattle.equation.specs.declared.job.Job.{Job}
use Rattle.equation.specs.declared.job.Statement.{Statement}
use Rattle.job_text.specs.AfterBlocks.{AreAfter, HasShortSizes, HaveShortSizes, IsAfter, SpellsAfter, after_block, after_blocks, after_line, work_grid, work_name}
use Rattle.job_text.specs.AfterFaults.{after_at, after_head_at, after_in, block_at, blocks_at}
use Rattle.job_text.specs.JobFaults.{nothing_at}
use Rattle.job_text.proofs.SectionsAgain.{first_block, words_of}

-- a name and a matrix that the first line of a block can tell
record IsTold (name : List ℕ) (g : Grid) : Type 0 where
  pub named : IsTrue (is_name name)
  pub short : HasShortSizes g

-- ---- a block

-- no test of its first line holds
head_again : (end : ℕ) (name : List ℕ) (g : Grid) (line : Line) → IsTold name g → line.words ≡ after_line name g → line.number ≢ end → after_head_at end name g line ≡ Ok tt
unfolding after_head_at
head_again end name g line is words inside =
    let rows = decimal_number g.rows (omega (arith, is.short.rows)) in
    let cols = decimal_number g.cols (omega (arith, is.short.cols)) in
    let same : bytes_eq name name ≡ true = (bytes_eq-Decides name name).1 refl in
    rw (ne_eqb line.number end inside, words, is.named, rows.0, cols.0, same, rows.1, cols.1, eq-eqb g.rows g.rows refl, eq-eqb g.cols g.cols refl) refl

-- a matrix with the rows and columns of another has the same first line
same_line : (name : List ℕ) (g new : Grid) → new.rows ≡ g.rows → new.cols ≡ g.cols → after_line name new ≡ after_line name g
same_line name g new rows cols i = codes "after" ∷ name ∷ decimal (rows i) ∷ decimal (cols i) ∷ []

-- its lines before others are read as the matrix
block_again : (end : ℕ) (job : Job) (s : Statement) (new : Grid) (line : Line) (lines rest : List Line) → job.modulus ≤ 2 ^ 64 → IsTold (work_name job s) (work_grid job s) → IsAfter job s new
    → AreLines end (line ∷ (lines ++ rest)) → line.words ≡ after_line (work_name job s) new → words_of lines ≡ grid_lines new
    → block_at end job.modulus (work_name job s) (work_grid job s) (line ∷ (lines ++ rest)) ≡ Ok (new, rest)
unfolding block_at
block_again end job s new line lines rest small is after are first others =
    let g = work_grid job s in
    let some : 0 < length (lines ++ rest) = omega (arith, length-append lines rest, length-map lines (λ (l : Line). l.words), ap length others, grid_lines-some new) in
    let head = head_again end (work_name job s) g line is (first ∙ same_line (work_name job s) g new after.rows after.cols) (AreLines-inner line (lines ++ rest) are some) in
    let grid = grid_again end job.modulus g.rows g.cols (lines ++ rest) new rest small (AreLines-parts are).others
    (record { text = (lines, refl, others); as_many_rows = after.rows; as_many_cols = after.cols; full = after.full; residues = after.residues }) in
    rw (head, grid) refl

-- ---- all blocks

-- the first line of a block, and the others
first_line : (line : Line) (lines : List Line) (name : List ℕ) (new : Grid) → words_of (line ∷ lines) ≡ after_block name new → (line.words ≡ after_line name new) × (words_of lines ≡ grid_lines new)
first_line line lines name new same = apart line.words (words_of lines) (after_line name new) (grid_lines new) same
  where
    apart : (w : List (List ℕ)) (ws : List (List (List ℕ))) (v : List (List ℕ)) (vs : List (List (List ℕ))) → w ∷ ws ≡ v ∷ vs → (w ≡ v) × (ws ≡ vs)
    apart w ws v vs e = (cc, cc)

-- the work matrices of statements can be told
AreTold : Job → List Statement → Type 0
AreTold job statements = All (λ s. IsTold (work_name job s) (work_grid job s)) statements

blocks_again : (end : ℕ) (job : Job) (found : List Grid) (statements : List Statement) (grids : List Grid) (own : List Line) → job.modulus ≤ 2 ^ 64 → AreTold job statements → AreAfter job statements grids
    → AreLines end own → words_of own ≡ after_blocks job statements grids → blocks_at end job found statements own ≡ Ok (found ++ grids, [])
unfolding blocks_at AreTold
blocks_again end job found [] [] own small told after are words =
    let none : own ≡ [] = map_nil (λ (l : Line). l.words) own words in
    ap (λ (ls : List Line). Ok (found, ls)) none ∙ ap (λ (gs : List Grid). Ok (gs, [])) (sym (append-nil found))
blocks_again end job found [] (g ∷ grids) own small told after are words = absurd after
blocks_again end job found (s ∷ statements) [] own small told after are words = absurd after
blocks_again end job found (s ∷ statements) (g ∷ grids) own small told after are words =
    let name = work_name job s in
    let b = first_block own (after_block name g) (after_blocks job statements grids) (omega arith) words in
    let whole : own ≡ b.line ∷ (b.lines ++ b.behind) = b.parts in
    let in_order = subst (AreLines end) whole are in
    let line = first_line b.line b.lines name g b.words in
    let one = block_again end job s g b.line b.lines b.behind small (All-head (λ t. IsTold (work_name job t) (work_grid job t)) s statements told) after.0 in_order line.0 line.1 in
    let others = blocks_again end job (found ++ g ∷ []) statements grids b.behind small (All-tail (λ t. IsTold (work_name job t) (work_grid job t)) s statements told) after.1
    (AreLines-behind (b.line ∷ b.lines) b.behind in_order) b.behind_words in
    rw (whole, one) (others ∙ ap (λ (gs : List Grid). Ok (gs, [])) (append_assoc found (g ∷ []) grids))

-- ---- the whole text

after_again : (end : ℕ) (job : Job) (lines : List Line) (grids : List Grid) → job.modulus ≤ 2 ^ 64 → AreTold job job.statements → AreAfter job job.statements grids
    → AreLines end lines → words_of lines ≡ after_blocks job job.statements grids → after_at end job lines ≡ Ok grids
unfolding after_at nothing_at
after_again end job lines grids small told after are words = rw (blocks_again end job [] job.statements grids lines small told after are words) refl

pub after_read : (bytes : List ℕ) (rest : Rest) (job : Job) (grids : List Grid) → job.modulus ≤ 2 ^ 64 → HaveShortSizes job job.statements → SpellsAfter bytes rest job grids → after_in bytes rest job ≡ Ok grids
unfolding AreTold
after_read bytes rest job grids small short is =
    let told : AreTold job job.statements = λ k d below. record { named = is.named k d below; short = short k d below } in
    let text = drop rest.at bytes in
    rw is.scanned (after_again (end_line_of rest.line text) job (lines_of text is.tokens) grids small told is.each (AreLines-from_tokens rest.line text is.tokens (AreTokens-scanned rest.line text is.tokens is.scanned)) is.text)
