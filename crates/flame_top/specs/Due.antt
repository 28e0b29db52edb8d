-- The status and the text that are due for words and an input, by the first case that applies:
--
--   1. the words name no command: 2, `bad words`;
--   2. the command reads its input, which has more than 67,108,864 bytes: 3, `refused TooLong`;
--   3. it does, and the input is no text of a job, or of what the command reads behind it: 3, the first fault with its line;
--   4. `derive`: 0, the family of each operation (Derive);
--   5. `pme`: 3, the first refusal of the names: no operation of the job has the one (`refused NoOperation`), or the operation hasn't the
--      dimensions, or not in this order (`refused NoSplit`); else 0, the partitioned matrix expression of the operation (Pme);
--   6. `worksheet`: 3, no operation of the job has the name (`refused NoOperation`), or the operation no variant with the number
--      (`refused NoVariant`); else 0, the worksheet of the variant (Worksheets);
--   7. `check`: 0, `right`, where the worksheet behind the job is valid, else 7, its first wrong place (Checks);
--   8. `verify`: 0 or 8, whether the matrices behind the job satisfy its equations (Verify);
--   9. `make`: 0, the generated job (Make);
--  10. `run` and `selfrun`: 3, the first refusal of the steps: numbers of variants that are not as many as the statements
--      (`refused VariantCount`), the first statement without the variant (`refused NoVariant`), the first dimension that the block size cuts
--      into more than 32 parts (`refused TooManyParts`), or more than 262,144 steps (`refused TooManySteps`; Steps); else 0, the matrices that
--      the job means, with the trace where it is asked for (Run), or a summary of them (SelfRun), or 4, the job's first bad pivot (Meaning).
use Rattle.std.specs.Prelude.{ℕ, ◌≤◌, ◌<◌, ◌⊎◌, List, length, codes}
use Rattle.command_words.specs.declared.command.Command.{Command}
use Rattle.command_words.specs.declared.command.Command.TheVariants.{Check, Derive, Make, Pme, Run, SelfRun, Verify, Worksheet}
use Rattle.command_words.specs.Words.{AreBad, AreWordsOf, ReadsInput}
use Rattle.flame_top.specs.Checks.{DueCheck}
use Rattle.flame_top.specs.Derive.{DueFamilies}
use Rattle.flame_top.specs.DueTexts.{Says, DueShort}
use Rattle.flame_top.specs.Make.{DueMake}
use Rattle.flame_top.specs.Pme.{DuePme}
use Rattle.flame_top.specs.Run.{DueRun}
use Rattle.flame_top.specs.SelfRun.{DueSelfRun}
use Rattle.flame_top.specs.Verify.{DueVerify}
use Rattle.flame_top.specs.Worksheets.{DueWorksheet}

-- for a command, with an input that is not too long where it reads one
abbrev pub DueInput : Command → List ℕ → ℕ → List ℕ → Type 0
DueInput Derive input status text = DueShort DueFamilies input status text
DueInput (Pme op dims) input status text = DueShort (DuePme op dims) input status text
DueInput (Worksheet op number) input status text = DueShort (DueWorksheet op number) input status text
DueInput Check input status text = DueCheck input status text
DueInput Verify input status text = DueVerify input status text
DueInput (Make n m seed) input status text = DueMake n m seed status text
DueInput (Run words) input status text = DueShort (DueRun words) input status text
DueInput (SelfRun words) input status text = DueSelfRun words status text

-- how many bytes an input may have
abbrev pub input_limit : ℕ
input_limit = 67108864

-- for a command: one that reads its input refuses more bytes
abbrev pub DueCommand : Command → List ℕ → ℕ → List ℕ → Type 0
DueCommand command input status text = (ReadsInput command × (input_limit < length input) × Says 3 (codes "refused TooLong\n") status text)
    ⊎ ((ReadsInput command → length input ≤ input_limit) × DueInput command input status text)

-- for the words: bad words are refused, whatever the input
abbrev pub Due : List (List ℕ) → List ℕ → ℕ → List ℕ → Type 0
Due words input status text = (AreBad words × Says 2 (codes "bad words\n") status text)
    ⊎ ((command : Command) × AreWordsOf words command × DueCommand command input status text)

-- the words name no command that reads its input
abbrev pub ReadNone : List (List ℕ) → Type 0
ReadNone words = (command : Command) → AreWordsOf words command → ReadsInput command → ⊥
