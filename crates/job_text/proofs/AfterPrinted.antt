-- The printed text of a job, and behind it the lines of matrices as they stand after its statements: it spells both, and
-- they are read again. Cited by the law that says so.
use Rattle.std.proofs.Common.{◌≡◌, ℕ, ◌+◌, List, [], ◌∷◌, ◌++◌, length, drop, get_or, codes, All, IsTrue, Ok, refl, sym, ap, ◌∙◌, subst, arith, append-nil}
use Rattle.std.specs.Fmt.{decimal}
use Rattle.std.proofs.lemmas.Bool.{and_from}
use Rattle.std.proofs.lemmas.List.{drop_at}
use Rattle.std.proofs.lemmas.List.Elements.{All-nil, All-cons, All-head, All-tail, All-append}
use Rattle.residue_sums.specs.Grids.{Grid, IsFull}
use Rattle.text_scan.specs.declared.Rest.{Rest}
use Rattle.text_scan.specs.NormalTexts.{is_line, lines_text}
use Rattle.text_scan.specs.Words.{is_word}
use Rattle.text_scan.proofs.LineOrders.{is_line-more}
use Rattle.text_scan.proofs.NormalScans.{normal_text_scanned}
use Rattle.text_scan.proofs.NumberedLines.{words-numbered_lines}
use Rattle.text_scan.proofs.NumberTexts.{decimal_word}
use Rattle.matrix_text.specs.MatrixLines.{grid_lines}
use Rattle.matrix_text.proofs.PrintedLines.{matrix_lines-words}
use Rattle.equation.specs.declared.job.Job.{Job}
use Rattle.equation.specs.declared.job.Statement.{Statement}
use Rattle.equation.specs.Jobs.{IsJob, IsStatement, no_grid}
use Rattle.job_text.specs.declared.stop.Stop.TheVariants.{After}
use Rattle.job_text.specs.AfterBlocks.{AreAfter, AreNamed, HaveShortSizes, SpellsAfter, after_block, after_blocks, after_line, work_name}
use Rattle.job_text.specs.AfterFaults.{after_in}
use Rattle.job_text.specs.JobLines.{job_lines}
use Rattle.job_text.specs.JobTexts.{job_text}
use Rattle.job_text.specs.SpelledJobs.{IsWritable, Spells}
use Rattle.job_text.proofs.AfterAgain.{after_read}
use Rattle.job_text.proofs.PrintedJobs.{printed_job_is_spelled}
use Rattle.job_text.proofs.SecondTexts.{printed_before_others}
use Rattle.job_text.proofs.SectionsAgain.{words_of}

-- the line can stand in a text
abbrev HasWords : List (List ℕ) → Type 0
HasWords words = IsTrue (is_line words)

-- ---- a block

block_words : (name : List ℕ) (g : Grid) → IsTrue (is_word name) → IsFull g → All HasWords (after_block name g)
block_words name g word full =
    let numbers = and_from _ _ (decimal_word g.rows).0 (and_from _ _ (decimal_word g.cols).0 refl) in
    let first : HasWords (after_line name g) = is_line-more (codes "after") (name ∷ decimal g.rows ∷ decimal g.cols ∷ []) refl (and_from _ _ word numbers) in
    let others = All-tail HasWords (codes "matrix" ∷ name ∷ decimal g.rows ∷ decimal g.cols ∷ []) (grid_lines g) (matrix_lines-words name g word full) in
    All-cons HasWords (after_line name g) (grid_lines g) first others

-- ---- all blocks

module _ (job : Job) (valid : IsJob job) (writable : IsWritable job) where
  blocks_words : (statements : List Statement) (grids : List Grid) → All (IsStatement job) statements → AreAfter job statements grids → All HasWords (after_blocks job statements grids)
  blocks_words [] [] are after = All-nil HasWords
  blocks_words [] (g ∷ grids) are after = absurd after
  blocks_words (s ∷ statements) [] are after = absurd after
  blocks_words (s ∷ statements) (g ∷ grids) are after =
      let fits = (All-head (IsStatement job) s statements are).fits in
      let word = writable.matrices_words s.bind.work [] (omega (arith, fits.work_in, valid.named)) in
      All-append HasWords (after_block (work_name job s) g) (after_blocks job statements grids) (block_words (work_name job s) g word after.0.full)
      (blocks_words statements grids (All-tail (IsStatement job) s statements are) after.1)

  -- their names are names, and their sizes are short
  blocks_named : AreNamed job job.statements
  blocks_named = λ k d below. let fits = (valid.statements k d below).fits in writable.matrices_named (get_or job.statements k d).bind.work [] (omega (arith, fits.work_in, valid.named))

  blocks_short : HaveShortSizes job job.statements
  blocks_short = λ k d below.
      let sizes = writable.sizes (get_or job.statements k d).bind.work no_grid (valid.statements k d below).fits.work_in in
      record { rows = omega (arith, sizes.0); cols = omega (arith, sizes.1) }

  -- ---- behind the job's text

  abbrev behind : Rest
  behind = record { at = length (job_text job); line = length (job_lines job) + 1 }

  -- the first of them begins the second part; where there is none, the text ends
  job_before : (statements : List Statement) (grids : List Grid) → AreAfter job statements grids → All HasWords (after_blocks job statements grids)
      → Spells (job_text job ++ lines_text (after_blocks job statements grids)) After job behind
  job_before [] [] after are = subst (λ (bytes : List ℕ). Spells bytes After job behind) (sym (append-nil (job_text job))) (printed_job_is_spelled After job valid writable)
  job_before [] (g ∷ grids) after are = absurd after
  job_before (s ∷ statements) [] after are = absurd after
  job_before (s ∷ statements) (g ∷ grids) after are =
      printed_before_others After job (after_line (work_name job s) g) (grid_lines g ++ after_blocks job statements grids) valid writable refl are

  pub printed_before_matrices : (grids : List Grid) → AreAfter job job.statements grids → Spells (job_text job ++ lines_text (after_blocks job job.statements grids)) After job behind
  printed_before_matrices grids after = job_before job.statements grids after (blocks_words job.statements grids valid.statements after)

  pub printed_matrices : (grids : List Grid) → AreAfter job job.statements grids → SpellsAfter (job_text job ++ lines_text (after_blocks job job.statements grids)) behind job grids
  printed_matrices grids after =
      let lines = after_blocks job job.statements grids in
      let scans = normal_text_scanned behind.line lines (blocks_words job.statements grids valid.statements after) in
      let second : drop behind.at (job_text job ++ lines_text lines) ≡ lines_text lines = drop_at (job_text job) (lines_text lines) behind.at refl in
      record {
        tokens = scans.0;
        scanned = rw second scans.1;
        text = rw second (ap words_of scans.2 ∙ words-numbered_lines behind.line lines);
        named = blocks_named;
        each = after;
      }

  pub printed_matrices_read : (grids : List Grid) → AreAfter job job.statements grids → after_in (job_text job ++ lines_text (after_blocks job job.statements grids)) behind job ≡ Ok grids
  printed_matrices_read grids after =
      after_read (job_text job ++ lines_text (after_blocks job job.statements grids)) behind job grids (omega (arith, valid.modulus.below_limit)) blocks_short (printed_matrices grids after)
