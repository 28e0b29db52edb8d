-- The second part of an input that has, behind a job, each statement's work matrix as it stands after it: where it begins,
-- and which lines spell it.
use Rattle.std.specs.Prelude.{◌≡◌, ℕ, ◌-◌, ◌^◌, ◌<◌, ◌≤◌, ◌⊎◌, List, [], ◌∷◌, ◌++◌, length, take, drop, get_or, codes, decimal, map, Ok, All, IsTrue}
use Rattle.residue_sums.specs.Grids.{Grid, IsFull, AreResidues}
use Rattle.text_scan.specs.declared.token.Token.{Token}
use Rattle.text_scan.specs.declared.Rest.{Rest}
use Rattle.text_scan.specs.Lines.{end_line_of, lines_of}
use Rattle.text_scan.specs.Tokens.{tokens_of}
use Rattle.text_scan.specs.Words.{is_name}
use Rattle.operation_spec.specs.OperationLines.{nth_name}
use Rattle.matrix_text.specs.MatrixLines.{grid_lines}
use Rattle.equation.specs.declared.job.Job.{Job}
use Rattle.equation.specs.declared.job.Statement.{Statement}
use Rattle.equation.specs.Jobs.{nth_grid}

-- ---- where it begins

-- the beginning of a line of these bytes, or their end, with its line's number
pub record IsPlace (bytes : List ℕ) (rest : Rest) : Type 0 where
  pub within : rest.at ≤ length bytes
  pub begins : (rest.at ≡ length bytes) ⊎ (rest.at ≡ 0) ⊎ (get_or bytes (rest.at - 1) 0 ≡ 10)
  pub line : rest.line ≡ end_line_of 1 (take rest.at bytes)

-- ---- a block

-- a statement's work matrix: its name, and what it is before all statements
abbrev pub work_name : Job → Statement → List ℕ
work_name job s = nth_name job.names s.bind.work

abbrev pub work_grid : Job → Statement → Grid
work_grid job s = nth_grid job.matrices s.bind.work

-- the first line of a block
abbrev pub after_line : List ℕ → Grid → List (List ℕ)
after_line name g = codes "after" ∷ name ∷ decimal g.rows ∷ decimal g.cols ∷ []

-- the matrix under its name
abbrev pub after_block : List ℕ → Grid → List (List (List ℕ))
after_block name g = after_line name g ∷ grid_lines g

-- a matrix that a statement's work matrix may be after it: it has the same rows and columns
pub record IsAfter (job : Job) (s : Statement) (g : Grid) : Type 0 where
  pub rows : g.rows ≡ (work_grid job s).rows
  pub cols : g.cols ≡ (work_grid job s).cols
  pub full : IsFull g
  pub residues : AreResidues job.modulus g

-- rows and columns that a word of a machine holds
pub record HasShortSizes (g : Grid) : Type 0 where
  pub rows : g.rows < 2 ^ 32
  pub cols : g.cols < 2 ^ 32

-- ---- all blocks

-- one for each statement, in order
abbrev pub after_blocks : Job → List Statement → List Grid → List (List (List ℕ))
after_blocks job (s ∷ statements) (g ∷ grids) = after_block (work_name job s) g ++ after_blocks job statements grids
after_blocks job _ _ = []

abbrev pub AreAfter : Job → List Statement → List Grid → Type 0
AreAfter job [] [] = Unit {0}
AreAfter job (s ∷ statements) (g ∷ grids) = IsAfter job s g × AreAfter job statements grids
AreAfter job _ _ = ⊥

-- the names of their work matrices can stand in a text
abbrev pub AreNamed : Job → List Statement → Type 0
AreNamed job statements = All (λ s. IsTrue (is_name (work_name job s))) statements

-- their work matrices have short sizes
abbrev pub HaveShortSizes : Job → List Statement → Type 0
HaveShortSizes job statements = All (λ s. HasShortSizes (work_grid job s)) statements

-- the bytes from there on spell these matrices, and nothing more
pub record SpellsAfter (bytes : List ℕ) (rest : Rest) (job : Job) (grids : List Grid) : Type 0 where
  pub tokens : List Token
  pub scanned : tokens_of rest.line (drop rest.at bytes) ≡ Ok tokens
  pub text : map (λ line. line.words) (lines_of (drop rest.at bytes) tokens) ≡ after_blocks job job.statements grids
  pub named : AreNamed job job.statements
  pub each : AreAfter job job.statements grids
