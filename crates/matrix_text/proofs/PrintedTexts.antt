-- The printed text of a matrix spells it. Cited by the laws of matrix texts.
use Rattle.std.proofs.Common.{◌≡◌, ℕ, ◌*◌, ◌≤◌, List, [], Ok, sym, ◌∙◌, subst, append-nil}
use Rattle.std.specs.Prelude.{IsTrue}
use Rattle.residue_sums.specs.Grids.{AreResidues, Grid, IsFull}
use Rattle.matrix_text.specs.MatrixTexts as texts
use Rattle.text_scan.specs.declared.token.Token.{Token}
use Rattle.text_scan.specs.Lines.{lines_of}
use Rattle.text_scan.specs.NormalTexts.{numbered_lines}
use Rattle.text_scan.specs.Tokens.{tokens_of}
use Rattle.text_scan.specs.Words.{is_name, is_word}
use Rattle.text_scan.proofs.NormalScans.{normal_text_scanned}
use Rattle.text_scan.proofs.NumberedLines.{words-numbered_lines}
use Rattle.matrix_text.specs.MatrixLines.{SpellsMatrix, matrix_lines, size_limit}
use Rattle.matrix_text.proofs.PrintedLines.{matrix_text-lines, matrix_lines-words}

-- a text that is scanned into lines which spell the matrix
abbrev pub IsReadAs : ℕ → ℕ → List ℕ → Grid → List ℕ → Type 0
IsReadAs m room name g text = (tokens : List Token) × (tokens_of 1 text ≡ Ok tokens) × SpellsMatrix m room (lines_of text tokens) name g []

pub printed_matrix_spelled : (m room : ℕ) (name : List ℕ) (g : Grid) → IsTrue (is_word name) → IsTrue (is_name name)
    → g.rows ≤ size_limit → g.cols ≤ size_limit → g.rows * g.cols ≤ room → IsFull g → AreResidues m g → IsReadAs m room name g (texts.matrix_text name g)
printed_matrix_spelled m room name g word named rows cols within full residues =
    let scans = normal_text_scanned 1 (matrix_lines name g) (matrix_lines-words name g word full) in
    let own = numbered_lines 1 (matrix_lines name g) in
    subst (IsReadAs m room name g) (sym (matrix_text-lines name g named)) (
      scans.0,
      scans.1,
      record {
        text = (own, scans.2 ∙ sym (append-nil own), words-numbered_lines 1 (matrix_lines name g));
        named = named;
        rows = rows;
        cols = cols;
        fits = within;
        full = full;
        residues = residues;
      },
    )
