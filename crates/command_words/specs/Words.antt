-- The words of a command.
use Rattle.std.specs.Prelude.{◌≡◌, ℕ, ◌≤◌, ◌<◌, ◌^◌, Bool, true, false, ◌&&◌, List, [], ◌∷◌, ◌++◌, length, map, All, IsTrue, codes, decimal}
use Rattle.std.specs.List.{join_with_byte, list_all}
use Rattle.text_scan.specs.Words.{is_name, is_word}
use Rattle.issue_list.specs.declared.choice.Choice.{Choice}
use Rattle.issue_list.specs.declared.choice.Choice.TheVariants.{First, Each}
use Rattle.variant_report.specs.declared.self_words.SelfWords.{SelfWords}
use Rattle.command_words.specs.declared.command.Command.{Command}
use Rattle.command_words.specs.declared.command.Command.TheVariants.{Derive, Pme, Worksheet, Check, Verify, Make, Run, SelfRun}
use Rattle.command_words.specs.declared.command.RunWords.{RunWords}

-- ---- the spelling

-- a generated job's size, modulus and seed
abbrev pub make_words : ℕ → ℕ → ℕ → List (List ℕ)
make_words n m seed = decimal n ∷ decimal m ∷ decimal seed ∷ []

-- the block size and the workers
abbrev pub size_words : ℕ → ℕ → List (List ℕ)
size_words block workers =
    codes "--block" ∷ decimal block ∷ codes "--workers" ∷ decimal workers ∷ []

-- numbers of variants, with a comma between each two
abbrev pub variants_word : List ℕ → List ℕ
variants_word numbers = join_with_byte 44 (map decimal numbers)

abbrev pub choice_words : Choice → List (List ℕ)
choice_words First = []
choice_words (Each numbers) = codes "--variants" ∷ variants_word numbers ∷ []

abbrev pub trace_words : Bool → List (List ℕ)
trace_words true = codes "--trace" ∷ []
trace_words false = []

-- the one spelling of a command
abbrev pub words_of : Command → List (List ℕ)
words_of Derive = codes "derive" ∷ []
words_of (Pme op dims) = codes "pme" ∷ op ∷ dims
words_of (Worksheet op number) = codes "worksheet" ∷ op ∷ decimal number ∷ []
words_of Check = codes "check" ∷ []
words_of Verify = codes "verify" ∷ []
words_of (Make n m seed) = codes "make" ∷ make_words n m seed
words_of (Run words) =
    codes "run" ∷ (size_words words.block words.workers
    ++ (choice_words words.choice ++ trace_words words.trace))
words_of (SelfRun words) =
    codes "selfrun" ∷ (make_words words.n words.m words.seed
    ++ size_words words.block words.workers)

-- ---- the ranges

-- the word may name something in a text: it begins with a letter, has letters, digits and _, and at most 32 bytes
abbrev pub may_name : List ℕ → Bool
may_name w = is_word w && is_name w

-- an operation's name, and the names of one dimension or two
pub record ArePmeWords (op : List ℕ) (dims : List (List ℕ)) : Type 0 where
  pub operation_named : IsTrue (may_name op)
  pub some_dimension : 1 ≤ length dims
  pub few_dimensions : length dims ≤ 2
  pub dimensions_named : IsTrue (list_all may_name dims)

-- an operation's name, and the number of a variant
pub record AreSheetWords (op : List ℕ) (number : ℕ) : Type 0 where
  pub operation_named : IsTrue (may_name op)
  pub number_low : 1 ≤ number
  pub number_high : number < 2 ^ 32

pub record AreMakeNumbers (n m seed : ℕ) : Type 0 where
  pub n_high : n ≤ 1024
  pub m_low : 2 ≤ m
  pub m_high : m < 2 ^ 32
  pub seed_high : seed < 2 ^ 32

-- how many workers a run has at most
abbrev pub most_workers : ℕ
most_workers = 16

-- a block size is 1 to 1,024, and there are 1 to 16 workers
pub record AreSizes (block workers : ℕ) : Type 0 where
  pub block_low : 1 ≤ block
  pub block_high : block ≤ 1024
  pub some_worker : 1 ≤ workers
  pub few_workers : workers ≤ most_workers

-- at least one number of a variant, each at least 1
pub record AreVariants (numbers : List ℕ) : Type 0 where
  pub some : 1 ≤ length numbers
  pub each : All (λ v. (1 ≤ v) × (v < 2 ^ 32)) numbers

abbrev pub IsChoice : Choice → Type 0
IsChoice First = Unit {0}
IsChoice (Each numbers) = AreVariants numbers

pub record AreRunWords (words : RunWords) : Type 0 where
  pub sizes : AreSizes words.block words.workers
  pub choice : IsChoice words.choice

pub record AreSelfWords (words : SelfWords) : Type 0 where
  pub numbers : AreMakeNumbers words.n words.m words.seed
  pub sizes : AreSizes words.block words.workers

-- the names and numbers of a command are in range
abbrev pub IsInRange : Command → Type 0
IsInRange Derive = Unit {0}
IsInRange (Pme op dims) = ArePmeWords op dims
IsInRange (Worksheet op number) = AreSheetWords op number
IsInRange Check = Unit {0}
IsInRange Verify = Unit {0}
IsInRange (Make n m seed) = AreMakeNumbers n m seed
IsInRange (Run words) = AreRunWords words
IsInRange (SelfRun words) = AreSelfWords words

-- ---- what words name

-- the words name the command
abbrev pub AreWordsOf : List (List ℕ) → Command → Type 0
AreWordsOf words command = IsInRange command × (words ≡ words_of command)

-- the words name no command
abbrev pub AreBad : List (List ℕ) → Type 0
AreBad words = (command : Command) → AreWordsOf words command → ⊥

-- ---- which command it is

-- the command asks for families, a partitioned matrix expression, a worksheet, a check of a worksheet, a check of matrices, a
-- generated job, a run, or the run of a generated job
abbrev pub AsksFamilies : Command → Type 0
AsksFamilies Derive = Unit {0}
AsksFamilies _ = ⊥

abbrev pub AsksPme : Command → Type 0
AsksPme (Pme op dims) = Unit {0}
AsksPme _ = ⊥

abbrev pub AsksWorksheet : Command → Type 0
AsksWorksheet (Worksheet op number) = Unit {0}
AsksWorksheet _ = ⊥

abbrev pub AsksCheck : Command → Type 0
AsksCheck Check = Unit {0}
AsksCheck _ = ⊥

abbrev pub AsksVerify : Command → Type 0
AsksVerify Verify = Unit {0}
AsksVerify _ = ⊥

abbrev pub AsksMake : Command → Type 0
AsksMake (Make n m seed) = Unit {0}
AsksMake _ = ⊥

abbrev pub AsksRun : Command → Type 0
AsksRun (Run words) = Unit {0}
AsksRun _ = ⊥

abbrev pub AsksSelfRun : Command → Type 0
AsksSelfRun (SelfRun words) = Unit {0}
AsksSelfRun _ = ⊥

-- the command reads a job; one that is generated needs no input
abbrev pub ReadsInput : Command → Type 0
ReadsInput (Make n m seed) = ⊥
ReadsInput (SelfRun words) = ⊥
ReadsInput _ = Unit {0}

-- ---- how many workers it asks for

abbrev pub workers_of : Command → ℕ
workers_of (Run words) = words.workers
workers_of (SelfRun words) = words.workers
workers_of _ = 1
