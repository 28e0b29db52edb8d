-- The blocks of matrices as they stand after statements, that were read. Cited by the law that what is read is spelled so, and
-- by their reader.
use Rattle.std.proofs.Common.{◌≡◌, ℕ, ◌≤◌, ◌^◌, true, ◌&&◌, not, ◌==◌, List, [], ◌∷◌, ◌++◌, drop, decimal, codes, Result, Ok, Err, IfOk, IsTrue, refl, sym, ap, subst, ◌∙◌, arith, append_assoc, append-nil}
use Rattle.std.specs.List.{list_all}
use Rattle.std.specs.Str.{bytes_eq}
use Rattle.std.proofs.lemmas.Bool.{and_parts, eqb-true, not-false, or_parts}
use Rattle.std.proofs.lemmas.List.Elements.{All-cons, All-head, All-nil, All-tail}
use Rattle.std.proofs.lemmas.Slice.Eq.{bytes_eq-Decides}
use Rattle.residue_sums.specs.Grids.{Grid, IsFull, AreResidues}
use Rattle.byte_texts.specs.Reading.{◌>>=◌, Gives}
use Rattle.byte_texts.proofs.Binding.{bind_ok, same_ok}
use Rattle.text_scan.specs.Faults.{Fault}
use Rattle.text_scan.specs.declared.Rest.{Rest}
use Rattle.text_scan.specs.declared.token.Token.{Token}
use Rattle.text_scan.specs.LineOrder.{AreLines}
use Rattle.text_scan.specs.Lines.{Line, end_line_of, lines_of}
use Rattle.text_scan.specs.Tokens.{tokens_of, BadByte}
use Rattle.text_scan.specs.Words.{is_name, is_number, is_word, number_value}
use Rattle.text_scan.proofs.FaultTests.{passed_by}
use Rattle.text_scan.proofs.LineOrders.{AreLines-from_tokens, AreLines-parts, is_line-words}
use Rattle.text_scan.proofs.NumberTexts.{number_word}
use Rattle.text_scan.proofs.ScannedTokens.{AreTokens-scanned}
use Rattle.matrix_text.proofs.MatrixSpelling.{grid_takes}
use Rattle.equation.specs.declared.job.Job.{Job}
use Rattle.equation.specs.declared.job.Statement.{Statement}
use Rattle.job_text.specs.declared.fault.JobFault.{JobFault}
use Rattle.job_text.specs.AfterBlocks.{AreAfter, AreNamed, HasShortSizes, HaveShortSizes, SpellsAfter, after_block, after_blocks, after_line, work_grid, work_name}
use Rattle.job_text.specs.AfterFaults.{after_at, after_head_at, after_in, after_of, block_at, blocks_at, is_after_line, is_block_of}
use Rattle.job_text.specs.JobFaults.{nothing_at, job_fault}
use Rattle.job_text.proofs.SectionLines.{both_lines, both_words, lines_behind}
use Rattle.job_text.proofs.SectionsAgain.{words_of}

-- ---- the first line of a block

-- words that pass its tests
form_taken : (name : List ℕ) (g : Grid) (words : List (List ℕ)) → HasShortSizes g → list_all is_word words ≡ true → is_after_line words ≡ true → is_block_of name g words ≡ true
    → (words ≡ after_line name g) × IsTrue (is_name name)
form_taken name g [] short are form block = absurd cc
form_taken name g (a ∷ []) short are form block = absurd cc
form_taken name g (a ∷ b ∷ []) short are form block = absurd cc
form_taken name g (a ∷ b ∷ c ∷ []) short are form block = absurd cc
form_taken name g (a ∷ b ∷ c ∷ d ∷ []) short are form block =
    let fourth = and_parts (bytes_eq a (codes "after") && is_name b && is_number c) (is_number d) form in
    let third = and_parts (bytes_eq a (codes "after") && is_name b) (is_number c) fourth.0 in
    let second = and_parts (bytes_eq a (codes "after")) (is_name b) third.0 in
    let cols = and_parts (bytes_eq b name && number_value c == g.rows) (number_value d == g.cols) block in
    let rows = and_parts (bytes_eq b name) (number_value c == g.rows) cols.0 in
    let one = and_parts (is_word a) (list_all is_word (b ∷ c ∷ d ∷ [])) are in
    let two = and_parts (is_word b) (list_all is_word (c ∷ d ∷ [])) one.1 in
    let three = and_parts (is_word c) (list_all is_word (d ∷ [])) two.1 in
    let four = and_parts (is_word d) true three.1 in
    let first_is : a ≡ codes "after" = (bytes_eq-Decides a (codes "after")).0 second.0 in
    let name_is : b ≡ name = (bytes_eq-Decides b name).0 rows.0 in
    let rows_are : number_value c ≡ g.rows = eqb-true (number_value c) g.rows rows.1 in
    let cols_are : number_value d ≡ g.cols = eqb-true (number_value d) g.cols cols.1 in
    let rows_word : c ≡ decimal g.rows = sym (number_word c three.0 third.1 (omega (arith, short.rows))) ∙ ap decimal rows_are in
    let cols_word : d ≡ decimal g.cols = sym (number_word d four.0 fourth.1 (omega (arith, short.cols))) ∙ ap decimal cols_are in
    (λ i. first_is i ∷ name_is i ∷ rows_word i ∷ cols_word i ∷ [], subst (λ (w : List ℕ). IsTrue (is_name w)) name_is second.1)
form_taken name g (a ∷ b ∷ c ∷ d ∷ e ∷ words) short are form block = absurd cc

head_taken : (end : ℕ) (name : List ℕ) (g : Grid) (line : Line) (done : Unit {0}) → HasShortSizes g → list_all is_word line.words ≡ true → after_head_at end name g line ≡ Ok done
    → (line.words ≡ after_line name g) × IsTrue (is_name name)
unfolding after_head_at
head_taken end name g line done short are e =
    let form = passed_by _ _ _ done e in
    let block = passed_by _ _ _ done form.1 in
    form_taken name g line.words short are (not-false _ (or_parts (line.number == end) (not (is_after_line line.words)) form.0).1) (not-false _ block.0)

-- ---- a block

-- lines that were read as the block of a matrix that has the rows and columns of another
record BlockTaken (m : ℕ) (name : List ℕ) (g : Grid) (lines : List Line) (new : Grid) (rest : List Line) : Type 0 where
  own : List Line
  lines_are : lines ≡ own ++ rest
  words : words_of own ≡ after_block name new
  named : IsTrue (is_name name)
  rows : new.rows ≡ g.rows
  cols : new.cols ≡ g.cols
  full : IsFull new
  residues : AreResidues m new

block_taken : (end m : ℕ) (name : List ℕ) (g : Grid) (lines : List Line) (new : Grid) (rest : List Line) → m ≤ 2 ^ 64 → HasShortSizes g → AreLines end lines → block_at end m name g lines ≡ Ok (new, rest)
    → BlockTaken m name g lines new rest
unfolding block_at
block_taken end m name g [] new rest small short are e = absurd cc
block_taken end m name g (line ∷ lines) new rest small short are e =
    let is = AreLines-parts are in
    let head = bind_ok (after_head_at end name g line) _ (new, rest) e in
    let first = head_taken end name g line head.0 short (is_line-words line.words is.words) head.1 in
    let grid = grid_takes end m g.rows g.cols lines new rest small is.others head.2 in
    let same_line : after_line name g ≡ after_line name new = λ i. codes "after" ∷ name ∷ decimal (sym grid.as_many_rows i) ∷ decimal (sym grid.as_many_cols i) ∷ [] in
    let words : line.words ≡ after_line name new = first.0 ∙ same_line in
    record {
      own = line ∷ grid.text.0;
      lines_are = ap (λ (ls : List Line). line ∷ ls) grid.text.1;
      words = λ i. words i ∷ grid.text.2 i;
      named = first.1;
      rows = grid.as_many_rows;
      cols = grid.as_many_cols;
      full = grid.full;
      residues = grid.residues;
    }

-- ---- all blocks

-- lines that were read as blocks of statements, behind matrices that were found
record BlocksTaken (job : Job) (found : List Grid) (statements : List Statement) (lines : List Line) (read : List Grid × List Line) : Type 0 where
  own : List Line
  grids : List Grid
  lines_are : lines ≡ own ++ read.1
  all : read.0 ≡ found ++ grids
  words : words_of own ≡ after_blocks job statements grids
  named : AreNamed job statements
  each : AreAfter job statements grids

-- a block before others
block_before : (job : Job) (found : List Grid) (s : Statement) (statements : List Statement) (lines : List Line) (new : Grid) (rest : List Line) (read : List Grid × List Line)
    → BlockTaken job.modulus (work_name job s) (work_grid job s) lines new rest → BlocksTaken job (found ++ new ∷ []) statements rest read → BlocksTaken job found (s ∷ statements) lines read
block_before job found s statements lines new rest read one others = record {
  own = one.own ++ others.own;
  grids = new ∷ others.grids;
  lines_are = both_lines lines one.own rest others.own read.1 one.lines_are others.lines_are;
  all = others.all ∙ append_assoc found (new ∷ []) others.grids;
  words = both_words one.own others.own (after_block (work_name job s) new) (after_blocks job statements others.grids) one.words others.words;
  named = All-cons (λ t. IsTrue (is_name (work_name job t))) s statements one.named others.named;
  each = (record { rows = one.rows; cols = one.cols; full = one.full; residues = one.residues }, others.each);
}

blocks_taken : (end : ℕ) (job : Job) (found : List Grid) (statements : List Statement) (lines : List Line) (read : List Grid × List Line) → job.modulus ≤ 2 ^ 64 → HaveShortSizes job statements → AreLines end lines
    → blocks_at end job found statements lines ≡ Ok read → BlocksTaken job found statements lines read
unfolding blocks_at
blocks_taken end job found [] lines read small short are e = subst (BlocksTaken job found [] lines) (same_ok {F = Fault} (found, lines) read e)
    (record { own = []; grids = []; lines_are = refl; all = sym (append-nil found); words = refl; named = All-nil (λ s. IsTrue (is_name (work_name job s))); each = tt })
blocks_taken end job found (s ∷ statements) lines read small short are e =
    let step = bind_ok (block_at end job.modulus (work_name job s) (work_grid job s) lines) (λ read. blocks_at end job (found ++ read.0 ∷ []) statements read.1) read e in
    let one = block_taken end job.modulus (work_name job s) (work_grid job s) lines step.0.0 step.0.1 small (All-head (λ s. HasShortSizes (work_grid job s)) s statements short) are step.1 in
    let others = blocks_taken end job (found ++ step.0.0 ∷ []) statements step.0.1 read small (All-tail (λ s. HasShortSizes (work_grid job s)) s statements short) (lines_behind end lines one.own step.0.1 are one.lines_are) step.2 in
    block_before job found s statements lines step.0.0 step.0.1 read one others

-- ---- the whole text

no_line : (lines : List Line) (done : Unit {0}) → nothing_at lines ≡ Ok done → lines ≡ []
unfolding nothing_at
no_line [] done e = refl
no_line (line ∷ lines) done e = absurd cc

after_taken : (end : ℕ) (job : Job) (lines : List Line) (grids : List Grid) → job.modulus ≤ 2 ^ 64 → HaveShortSizes job job.statements → AreLines end lines → after_at end job lines ≡ Ok grids
    → (words_of lines ≡ after_blocks job job.statements grids) × AreNamed job job.statements × AreAfter job job.statements grids
unfolding after_at
after_taken end job lines grids small short are e =
    let read = bind_ok (blocks_at end job [] job.statements lines) (λ read. nothing_at read.1 >>= λ done. Ok read.0) grids e in
    let last = bind_ok (nothing_at read.0.1) (λ done. Ok read.0.0) grids read.2 in
    let taken = blocks_taken end job [] job.statements lines read.0 small short are read.1 in
    let whole : lines ≡ taken.own = taken.lines_are ∙ ap (λ (ls : List Line). taken.own ++ ls) (no_line read.0.1 last.0 last.1) ∙ append-nil taken.own in
    let same : taken.grids ≡ grids = sym taken.all ∙ same_ok {F = Fault} read.0.0 grids last.2 in
    (ap words_of whole ∙ taken.words ∙ ap (after_blocks job job.statements) same, taken.named, subst (AreAfter job job.statements) same taken.each)

pub after_spelled : (bytes : List ℕ) (rest : Rest) (job : Job) (grids : List Grid) → job.modulus ≤ 2 ^ 64 → HaveShortSizes job job.statements → after_in bytes rest job ≡ Ok grids → SpellsAfter bytes rest job grids
after_spelled bytes rest job grids small short e = by_tokens (tokens_of rest.line text) refl e
  where
    text : List ℕ
    text = drop rest.at bytes

    by_tokens : (read : Result (List Token) BadByte) → tokens_of rest.line text ≡ read → after_of rest.line text job read ≡ Ok grids → SpellsAfter bytes rest job grids
    by_tokens (Err fault) is none = absurd cc
    by_tokens (Ok tokens) is all =
        let taken = after_taken (end_line_of rest.line text) job (lines_of text tokens) grids small short (AreLines-from_tokens rest.line text tokens (AreTokens-scanned rest.line text tokens is)) all in
        record { tokens = tokens; scanned = is; text = taken.0; named = taken.1; each = taken.2 }

-- what the reader found
pub after_found : (bytes : List ℕ) (rest : Rest) (job : Job) (read : Result (List Grid) JobFault) → job.modulus ≤ 2 ^ 64 → Gives job_fault (λ (grids : List Grid). grids) read (after_in bytes rest job) → IfOk read (λ grids. HaveShortSizes job job.statements)
    → IfOk read (λ grids. SpellsAfter bytes rest job grids)
after_found bytes rest job (Ok grids) small gives short = after_spelled bytes rest job grids small short gives
after_found bytes rest job (Err fault) small gives short = tt
