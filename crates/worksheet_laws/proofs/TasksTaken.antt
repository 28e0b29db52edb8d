-- Tasks and parts that were read: the words that they had. Cited by what shows that what is read is spelled so.
use Rattle.std.proofs.Common.{◌≡◌, ℕ, zero, suc, ◌<◌, ◌≤◌, Bool, true, false, List, [], ◌∷◌, ◌++◌, length, Option, Some, None, Result, Ok, Err, All, refl, sym, ap, subst, ◌∙◌, arith, append_assoc, length-append, append-nil}
use Rattle.std.specs.Prelude.{codes, if◌then◌else◌}
use Rattle.std.specs.Fmt.{decimal, digits}
use Rattle.std.specs.Str.{bytes_eq}
use Rattle.std.proofs.lemmas.List.Elements.{All-cons, All-nil}
use Rattle.byte_texts.specs.Reading.{◌>>=◌, some_or}
use Rattle.byte_texts.proofs.Binding.{bind_ok, same_ok}
use Rattle.operation_spec.specs.declared.task.Kind.{Kind}
use Rattle.operation_spec.specs.declared.task.Kind.TheVariants as kinds
use Rattle.operation_spec.specs.declared.task.Task.{Task}
use Rattle.operation_spec.proofs.FoundNames.{text_is}
use Rattle.worksheet_text.specs.declared.words.TaskHead.{TaskHead}
use Rattle.worksheet_text.specs.SheetFaults.{SheetFault, syntax}
use Rattle.worksheet_text.specs.SheetWords.{Words, head_at, head_of, inner_part_at, next_at, part_at, part_of, task_at, tasks_at, tasks_from, word_at}
use Rattle.worksheet_laws.specs.SheetLines.{head_word, inner_words, task_words, tasks_words}
use Rattle.worksheet_laws.specs.SpelledSheets.{HasInner, HasNumber, IsPartTask}

-- a step of reading that was not refused, and what follows
pub taken : {A B F G : Type 0} (r : Result A F) {f : A → Result B F} {y : B} → (r >>= f) ≡ Ok y → ((x : A) → r ≡ Ok x → f x ≡ Ok y → G) → G
taken r {f} {y} e behind = let step = bind_ok r f y e in behind step.0 step.1 step.2

-- ---- single words

-- the word of a part
abbrev IsPartWord : List ℕ → ℕ → Type 0
IsPartWord w n = (w ≡ decimal n) × (n < 3)

part_taken : (w : List ℕ) (n : ℕ) → part_of w ≡ Some n → IsPartWord w n
unfolding digits
part_taken w n = by_tests (bytes_eq w (codes "0")) (bytes_eq w (codes "1")) (bytes_eq w (codes "2")) refl refl refl
  where
    by_tests : (a b c : Bool) → bytes_eq w (codes "0") ≡ a → bytes_eq w (codes "1") ≡ b → bytes_eq w (codes "2") ≡ c → (if a then Some 0 else if b then Some 1 else if c then Some 2 else None) ≡ Some n → IsPartWord w n
    by_tests true b c is no_matter other e = let same : 0 ≡ n = cc in subst (IsPartWord w) same (text_is w (codes "0") is, omega arith)
    by_tests false true c first is other e = let same : 1 ≡ n = cc in subst (IsPartWord w) same (text_is w (codes "1") is, omega arith)
    by_tests false false true first second is e = let same : 2 ≡ n = cc in subst (IsPartWord w) same (text_is w (codes "2") is, omega arith)
    by_tests false false false first second third e = absurd cc

pub part_at-taken : (line : ℕ) (words : Words) (read : ℕ × Words) → part_at line words ≡ Ok read → (words ≡ decimal read.0 ∷ read.1) × (read.0 < 3)
unfolding part_at next_at
part_at-taken line [] read e = absurd cc
part_at-taken line (w ∷ words) read e = by_option (part_of w) refl e
  where
    by_option : (o : Option ℕ) → part_of w ≡ o → (some_or (syntax line) o >>= λ n. Ok (n, words)) ≡ Ok read → (w ∷ words ≡ decimal read.0 ∷ read.1) × (read.0 < 3)
    by_option None none e = absurd cc
    by_option (Some n) some e =
        let is = part_taken w n some in
        subst (λ (r : ℕ × Words). (w ∷ words ≡ decimal r.0 ∷ r.1) × (r.0 < 3)) (same_ok {F = SheetFault} (n, words) read e) (ap (λ (v : List ℕ). v ∷ words) is.0, is.1)

pub word_at-taken : (line : ℕ) (due : List ℕ) (words rest : Words) → word_at line due words ≡ Ok rest → words ≡ due ∷ rest
unfolding word_at next_at
word_at-taken line due [] rest e = absurd cc
word_at-taken line due (w ∷ words) rest e = by_test (bytes_eq w due) refl e
  where
    by_test : (b : Bool) → bytes_eq w due ≡ b → ◌≡◌ {A = Result Words SheetFault} (if b then Ok words else Err (syntax line)) (Ok rest) → w ∷ words ≡ due ∷ rest
    by_test true is e = ap (λ (v : List ℕ). v ∷ words) (text_is w due is) ∙ ap (λ (ws : Words). due ∷ ws) (same_ok {F = SheetFault} words rest e)
    by_test false other e = absurd cc

-- the head of a task
abbrev IsHeadWord : List ℕ → TaskHead → Type 0
IsHeadWord w head = (w ≡ head_word head.kind head.term) × HasNumber head.kind head.term

one_head : (w text : List ℕ) (head found : TaskHead) (b : Bool) (others : Option TaskHead) → bytes_eq w text ≡ b → (text ≡ head_word head.kind head.term) × HasNumber head.kind head.term → (others ≡ Some found → IsHeadWord w found)
    → (if b then Some head else others) ≡ Some found → IsHeadWord w found
one_head w text head found true others is word more e = let same : head ≡ found = cc in subst (IsHeadWord w) same (text_is w text is ∙ word.0, word.1)
one_head w text head found false others other word more e = more e

head_taken : (w : List ℕ) (head : TaskHead) → head_of w ≡ Some head → IsHeadWord w head
unfolding digits
head_taken w head =
    one_head w (codes "term1") (record { kind = kinds.Term; term = 1 }) head (bytes_eq w (codes "term1")) _ refl (refl, (omega arith, omega arith))
    (one_head w (codes "term2") (record { kind = kinds.Term; term = 2 }) head (bytes_eq w (codes "term2")) _ refl (refl, (omega arith, omega arith))
    (one_head w (codes "left") (record { kind = kinds.Left; term = 0 }) head (bytes_eq w (codes "left")) _ refl (refl, refl)
    (one_head w (codes "right") (record { kind = kinds.Right; term = 0 }) head (bytes_eq w (codes "right")) _ refl (refl, refl)
    (one_head w (codes "solve") (record { kind = kinds.Solve; term = 0 }) head (bytes_eq w (codes "solve")) None refl (refl, refl) (λ e. absurd cc)))))

head_at-taken : (line : ℕ) (words : Words) (read : TaskHead × Words) → head_at line words ≡ Ok read → (words ≡ head_word read.0.kind read.0.term ∷ read.1) × HasNumber read.0.kind read.0.term
unfolding head_at next_at
head_at-taken line [] read e = absurd cc
head_at-taken line (w ∷ words) read e = by_option (head_of w) refl e
  where
    by_option : (o : Option TaskHead) → head_of w ≡ o → (some_or (syntax line) o >>= λ head. Ok (head, words)) ≡ Ok read → (w ∷ words ≡ head_word read.0.kind read.0.term ∷ read.1) × HasNumber read.0.kind read.0.term
    by_option None none e = absurd cc
    by_option (Some head) some e =
        let is = head_taken w head some in
        subst (λ (r : TaskHead × Words). (w ∷ words ≡ head_word r.0.kind r.0.term ∷ r.1) × HasNumber r.0.kind r.0.term) (same_ok {F = SheetFault} (head, words) read e) (ap (λ (v : List ℕ). v ∷ words) is.0, is.1)

-- ---- one task

comma_part : (line : ℕ) (words : Words) (read : ℕ × Words) → (word_at line (codes ",") words >>= λ comma. part_at line comma) ≡ Ok read → (words ≡ codes "," ∷ decimal read.0 ∷ read.1) × (read.0 < 3)
comma_part line words read e =
    let comma = bind_ok (word_at line (codes ",") words) _ read e in
    let part = part_at-taken line comma.0 read comma.2 in
    (word_at-taken line (codes ",") words comma.0 comma.1 ∙ ap (λ (ws : Words). codes "," ∷ ws) part.0, part.1)

inner_taken : (line : ℕ) (kind : Kind) (words : Words) (read : ℕ × Words) → inner_part_at line kind words ≡ Ok read → (words ≡ inner_words kind read.0 ++ read.1) × HasInner kind read.0
unfolding inner_part_at
inner_taken line kinds.Pivots words read e = comma_part line words read e
inner_taken line kinds.Term words read e = comma_part line words read e
inner_taken line kinds.Left words read e = comma_part line words read e
inner_taken line kinds.Right words read e = comma_part line words read e
inner_taken line kinds.Solve words read e = subst (λ (r : ℕ × Words). (words ≡ r.1) × (r.0 ≡ 0)) (same_ok {F = SheetFault} (0, words) read e) (refl, refl)

pub task_taken : (line : ℕ) (words : Words) (read : Task × Words) → task_at line words ≡ Ok read → (words ≡ task_words read.0 ++ read.1) × IsPartTask read.0
unfolding task_at
task_taken line words read e =
    taken (head_at line words) e (λ head h0 e. taken (word_at line (codes "(") head.1) e (λ w2 h1 e. taken (part_at line w2) e (λ row h2 e. taken (word_at line (codes ",") row.1) e (λ w4 h3 e. taken (part_at line w4) e (λ col h4 e.
    taken (inner_part_at line head.0.kind col.1) e (λ inner h5 e. taken (word_at line (codes ")") inner.1) e (λ w7 h6 e.
    subst (λ (r : Task × Words). (words ≡ task_words r.0 ++ r.1) × IsPartTask r.0) (same_ok {F = SheetFault} _ read e)
    (from_words head.0 row.0 col.0 inner.0 words head.1 w2 row.1 w4 col.1 inner.1 w7 (head_at-taken line words head h0) (word_at-taken line (codes "(") head.1 w2 h1) (part_at-taken line w2 row h2) (word_at-taken line (codes ",") row.1 w4 h3)
    (part_at-taken line w4 col h4) (inner_taken line head.0.kind col.1 inner h5) (word_at-taken line (codes ")") inner.1 w7 h6)))))))))
  where
    from_words : (head : TaskHead) (i j k : ℕ) (w0 w1 w2 w3 w4 w5 w6 w7 : Words) → (w0 ≡ head_word head.kind head.term ∷ w1) × HasNumber head.kind head.term → w1 ≡ codes "(" ∷ w2 → (w2 ≡ decimal i ∷ w3) × (i < 3) → w3 ≡ codes "," ∷ w4
        → (w4 ≡ decimal j ∷ w5) × (j < 3) → (w5 ≡ inner_words head.kind k ++ w6) × HasInner head.kind k → w6 ≡ codes ")" ∷ w7
        → (w0 ≡ task_words (record { kind = head.kind; term = head.term; i = i; j = j; k = k }) ++ w7) × IsPartTask (record { kind = head.kind; term = head.term; i = i; j = j; k = k })
    from_words head i j k w0 w1 w2 w3 w4 w5 w6 w7 h0 h1 h2 h3 h4 h5 h6 =
        let inner = h5.0 ∙ ap (λ (ws : Words). inner_words head.kind k ++ ws) h6 ∙ sym (append_assoc (inner_words head.kind k) (codes ")" ∷ []) w7) in
        let col = h4.0 ∙ ap (λ (ws : Words). decimal j ∷ ws) inner in
        let row = h2.0 ∙ ap (λ (ws : Words). decimal i ∷ ws) (h3 ∙ ap (λ (ws : Words). codes "," ∷ ws) col) in
        (h0.0 ∙ ap (λ (ws : Words). head_word head.kind head.term ∷ ws) (h1 ∙ ap (λ (ws : Words). codes "(" ∷ ws) row), record { number = h0.1; row = h2.1; col = h4.1; inner = h5.1 })

-- ---- all tasks of a line

abbrev AreTasks : List Task → Words → List Task → Type 0
AreTasks found words all = (tasks : List Task) × (found ++ tasks ≡ all) × (words ≡ tasks_words tasks) × All IsPartTask tasks

no_tasks : (found all : List Task) → ◌≡◌ {A = Result (List Task) SheetFault} (Ok found) (Ok all) → AreTasks found [] all
no_tasks found all e = ([], append-nil found ∙ same_ok {F = SheetFault} found all e, refl, All-nil IsPartTask)

one_task : (found : List Task) (words rest : Words) (all : List Task) (a : Task) → words ≡ task_words a ++ rest → IsPartTask a → AreTasks (found ++ a ∷ []) rest all → AreTasks found words all
one_task found words rest all a same is others =
    (a ∷ others.0, sym (append_assoc found (a ∷ []) others.0) ∙ others.1, same ∙ ap (λ (ws : Words). task_words a ++ ws) others.2, All-cons IsPartTask a others.0 is others.3)

tasks_behind-taken : (n line : ℕ) (found : List Task) (words : Words) (all : List Task) → length words ≤ n → tasks_from n line found words ≡ Ok all → AreTasks found words all
unfolding tasks_from
tasks_behind-taken zero line found [] all le e = no_tasks found all e
tasks_behind-taken (suc n) line found [] all le e = no_tasks found all e
tasks_behind-taken zero line found (w ∷ words) all le e = absurd (omega (arith, le))
tasks_behind-taken (suc n) line found (w ∷ words) all le e =
    taken (task_at line (w ∷ words)) e (λ read h e.
    let task = task_taken line (w ∷ words) read h in
    let fewer : length read.1 ≤ n = omega (arith, le, ap length task.0, length-append (task_words read.0) read.1) in
    one_task found (w ∷ words) read.1 all read.0 task.0 task.1 (tasks_behind-taken n line (found ++ read.0 ∷ []) read.1 all fewer e))

pub tasks_taken : (line : ℕ) (words : Words) (tasks : List Task) → tasks_at line words ≡ Ok tasks → (words ≡ tasks_words tasks) × All IsPartTask tasks
tasks_taken line words tasks e =
    let are = tasks_behind-taken (length words) line [] words tasks (omega arith) e in subst (λ (ts : List Task). (words ≡ tasks_words ts) × All IsPartTask ts) are.1 (are.2, are.3)
