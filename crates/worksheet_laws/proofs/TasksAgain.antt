-- The words of tasks and of parts are read as these. Cited by the readers of each line.
use Rattle.std.proofs.Common.{◌≡◌, ℕ, zero, suc, ◌<◌, ◌≤◌, List, [], ◌∷◌, ◌++◌, length, Some, Ok, All, refl, sym, ap, ◌∙◌, arith, append_assoc, length-append}
use Rattle.std.specs.Prelude.{codes}
use Rattle.std.specs.Fmt.{decimal, digits}
use Rattle.std.proofs.lemmas.List.{append-nil}
use Rattle.std.proofs.lemmas.List.Elements.{All-head, All-tail}
use Rattle.operation_spec.specs.declared.task.Kind.{Kind}
use Rattle.operation_spec.specs.declared.task.Kind.TheVariants as kinds
use Rattle.operation_spec.specs.declared.task.Task.{Task}
use Rattle.worksheet_text.specs.declared.words.TaskHead.{TaskHead}
use Rattle.worksheet_text.specs.SheetWords.{Words, head_at, head_of, inner_part_at, next_at, part_at, part_of, task_at, tasks_at, tasks_from, word_at}
use Rattle.worksheet_laws.specs.SheetLines.{head_word, inner_words, task_words, tasks_words}
use Rattle.worksheet_laws.specs.SpelledSheets.{HasInner, HasNumber, IsPartTask}

-- ---- single words

-- the number of a part
pub part_again : (n : ℕ) → n < 3 → part_of (decimal n) ≡ Some n
unfolding digits
part_again zero below = refl
part_again (suc zero) below = refl
part_again (suc (suc zero)) below = refl
part_again (suc (suc (suc n))) below = absurd (omega arith)

pub part_at-word : (line n : ℕ) (words : Words) → n < 3 → part_at line (decimal n ∷ words) ≡ Ok (n, words)
unfolding part_at next_at
part_at-word line n words below = rw (part_again n below) refl

-- the kind of a task
abbrev head_of_task : Kind → ℕ → TaskHead
head_of_task kind t = record { kind = kind; term = t }

head_again : (kind : Kind) (t : ℕ) → HasNumber kind t → head_of (head_word kind t) ≡ Some (head_of_task kind t)
unfolding digits
head_again kinds.Pivots t has = absurd has
head_again kinds.Term zero has = absurd (omega (arith, has.0))
head_again kinds.Term (suc zero) has = refl
head_again kinds.Term (suc (suc zero)) has = refl
head_again kinds.Term (suc (suc (suc t))) has = absurd (omega (arith, has.1))
head_again kinds.Left t has = rw has refl
head_again kinds.Right t has = rw has refl
head_again kinds.Solve t has = rw has refl

head_at-word : (line t : ℕ) (kind : Kind) (words : Words) → HasNumber kind t → head_at line (head_word kind t ∷ words) ≡ Ok (head_of_task kind t, words)
unfolding head_at next_at
head_at-word line t kind words has = rw (head_again kind t has) refl

-- a sign
open_sign : (line : ℕ) (words : Words) → word_at line (codes "(") (codes "(" ∷ words) ≡ Ok words
unfolding word_at next_at
open_sign line words = refl

comma_sign : (line : ℕ) (words : Words) → word_at line (codes ",") (codes "," ∷ words) ≡ Ok words
unfolding word_at next_at
comma_sign line words = refl

close_sign : (line : ℕ) (words : Words) → word_at line (codes ")") (codes ")" ∷ words) ≡ Ok words
unfolding word_at next_at
close_sign line words = refl

-- an inner part behind a comma
behind_comma : (line k : ℕ) (words : Words) → k < 3 → (word_at line (codes ",") (codes "," ∷ decimal k ∷ words) ≡ Ok (decimal k ∷ words)) × (part_at line (decimal k ∷ words) ≡ Ok (k, words))
behind_comma line k words below = (comma_sign line (decimal k ∷ words), part_at-word line k words below)

inner_again : (line k : ℕ) (kind : Kind) (words : Words) → HasInner kind k → inner_part_at line kind (inner_words kind k ++ words) ≡ Ok (k, words)
unfolding inner_part_at
inner_again line k kinds.Pivots words has = rw (comma_sign line (decimal k ∷ words)) (part_at-word line k words has)
inner_again line k kinds.Term words has = rw (comma_sign line (decimal k ∷ words)) (part_at-word line k words has)
inner_again line k kinds.Left words has = rw (comma_sign line (decimal k ∷ words)) (part_at-word line k words has)
inner_again line k kinds.Right words has = rw (comma_sign line (decimal k ∷ words)) (part_at-word line k words has)
inner_again line k kinds.Solve words has = rw has refl

-- ---- one task

-- the steps of its reader
task_steps : (line t i j k : ℕ) (kind : Kind) (w0 w1 w2 w3 w4 w5 w6 w7 : Words) → head_at line w0 ≡ Ok (head_of_task kind t, w1) → word_at line (codes "(") w1 ≡ Ok w2 → part_at line w2 ≡ Ok (i, w3)
    → word_at line (codes ",") w3 ≡ Ok w4 → part_at line w4 ≡ Ok (j, w5) → inner_part_at line kind w5 ≡ Ok (k, w6) → word_at line (codes ")") w6 ≡ Ok w7
    → task_at line w0 ≡ Ok (record { kind = kind; term = t; i = i; j = j; k = k }, w7)
unfolding task_at
task_steps line t i j k kind w0 w1 w2 w3 w4 w5 w6 w7 head opened row comma col inner closed = rw (head, opened, row, comma, col, inner, closed) refl

pub task_again : (line : ℕ) (a : Task) (words : Words) → IsPartTask a → task_at line (task_words a ++ words) ≡ Ok (a, words)
task_again line a words is =
    let inner = inner_words a.kind a.k in
    let w6 = codes ")" ∷ words in
    let grouped : (inner ++ (codes ")" ∷ [])) ++ words ≡ inner ++ w6 = append_assoc inner (codes ")" ∷ []) words in
    let w5 = (inner ++ (codes ")" ∷ [])) ++ words in
    let w4 = decimal a.j ∷ w5 in
    let w3 = codes "," ∷ w4 in
    let w2 = decimal a.i ∷ w3 in
    let w1 = codes "(" ∷ w2 in
    task_steps line a.term a.i a.j a.k a.kind (head_word a.kind a.term ∷ w1) w1 w2 w3 w4 w5 w6 words (head_at-word line a.term a.kind w1 is.number) (open_sign line w2) (part_at-word line a.i w3 is.row)
    (comma_sign line w4) (part_at-word line a.j w5 is.col) (ap (inner_part_at line a.kind) grouped ∙ inner_again line a.k a.kind w6 is.inner) (close_sign line words)

-- ---- all tasks of a line

-- behind tasks that were found, where there are no more words than are allowed
tasks_behind : (n line : ℕ) (found tasks : List Task) → length (tasks_words tasks) ≤ n → All IsPartTask tasks → tasks_from n line found (tasks_words tasks) ≡ Ok (found ++ tasks)
unfolding tasks_from
tasks_behind zero line found [] le all = ap (λ (ts : List Task). Ok ts) (sym (append-nil found))
tasks_behind (suc n) line found [] le all = ap (λ (ts : List Task). Ok ts) (sym (append-nil found))
tasks_behind zero line found (a ∷ tasks) le all = absurd (omega (arith, le))
tasks_behind (suc n) line found (a ∷ tasks) le all =
    let rest = tasks_words tasks in
    let few : length rest ≤ n = omega (arith, le, length-append (task_words a) rest) in
    rw (task_again line a rest (All-head IsPartTask a tasks all)) (tasks_behind n line (found ++ a ∷ []) tasks few (All-tail IsPartTask a tasks all) ∙ ap (λ (ts : List Task). Ok ts) (append_assoc found (a ∷ []) tasks))

pub tasks_again : (line : ℕ) (tasks : List Task) → All IsPartTask tasks → tasks_at line (tasks_words tasks) ≡ Ok tasks
tasks_again line tasks all = tasks_behind (length (tasks_words tasks)) line [] tasks (omega arith) all
