-- The printed text of a worksheet spells it, line by line. Cited by the law that says so.
use Rattle.std.proofs.Common.{◌≡◌, ℕ, zero, suc, ◌<◌, Bool, true, false, List, [], ◌∷◌, ◌++◌, length, map, drop, Option, Some, None, All, refl, ap, subst, ◌∙◌, arith, append_assoc}
use Rattle.std.specs.Prelude.{codes}
use Rattle.std.specs.Fmt.{decimal, digits}
use Rattle.std.specs.List.{flat_map}
use Rattle.std.proofs.lemmas.List.{drop_at}
use Rattle.std.proofs.lemmas.List.Concat.{flat_map_single}
use Rattle.text_scan.specs.Lines.{lines_of}
use Rattle.text_scan.specs.Tokens.{tokens_from}
use Rattle.text_scan.specs.Words.{is_word}
use Rattle.text_scan.proofs.NumberTexts.{decimal_word}
use Rattle.operation_spec.specs.declared.operation.Operation.{Operation}
use Rattle.operation_spec.specs.declared.split.Dir.{Dir}
use Rattle.operation_spec.specs.declared.split.Dir.TheVariants.{Forward, Backward}
use Rattle.operation_spec.specs.declared.task.Kind.{Kind}
use Rattle.operation_spec.specs.declared.task.Kind.TheVariants as kinds
use Rattle.operation_spec.specs.declared.task.Task.{Task}
use Rattle.operation_spec.specs.OperationLines.{equation_words}
use Rattle.operation_spec.specs.Splits.{IsSplit}
use Rattle.operation_spec.specs.ValidOperations.{HasNames, IsValid}
use Rattle.operation_spec.specs.WordTexts.{words_text}
use Rattle.task_texts.specs.DimTexts.{dim_name, dim_text, dir_text, second_text}
use Rattle.task_texts.specs.TaskTexts.{task_text, tasks_text, text_of_kind}
use Rattle.block_values.specs.Orders.{in_order}
use Rattle.block_values.specs.States.{state_tree}
use Rattle.block_expr.specs.Texts.{tree_text}
use Rattle.worksheet.specs.declared.sheet.End.{End}
use Rattle.worksheet.specs.declared.sheet.State.{State}
use Rattle.worksheet.specs.declared.sheet.Worksheet.{Worksheet}
use Rattle.worksheet_text.specs.SheetTexts.{dims_text, done_text, end_text, ends_line, ends_text, guard_line, head_lines, held_text, invariant_line, loop_lines, split_line, state_line, update_line, worksheet_text}
use Rattle.worksheet_text.specs.SheetTexts as texts
use Rattle.worksheet_text.specs.SheetWords.{Words}
use Rattle.worksheet_laws.specs.SheetLines.{along_words, ends_words, head_word, inner_words, lines_of_round, second_words, sheet_lines, split_words, state_words, task_words, tasks_words, update_words}
use Rattle.worksheet_laws.specs.SpelledSheets.{AreEnds, HasNumber, IsPartState, IsPartTask, IsPrintable, SpellsSheet}
use Rattle.worksheet_laws.proofs.PrintedComments.{dims_words, equation_flat, own_word, tree_flat, work_flat}
use Rattle.worksheet_laws.proofs.PrintedParts.{AreRead, IsPart, ReadTo, ReadTo-along, Scans, StopsAt, blank_read, last_scanned, line_begins, line_read, line_scanned, lines_append, lines_each, part_along, part_append, part_before, part_behind_sign, part_behind_space, part_none, part_sign, part_word, parts, parts_stop, tail_comment, tail_feed, tail_space}
use Rattle.worksheet_laws.proofs.RoundAgain.{words_of}

-- ---- tasks

number_before : (n : ℕ) (u : List ℕ) (words : Words) → StopsAt u → IsPart u words → IsPart (decimal n ++ u) (decimal n ∷ words)
number_before n u words stops p = part_before (decimal n) u words (decimal_word n).0 stops p

-- what stands behind the column of a task
abbrev inner_text : Kind → ℕ → List ℕ
inner_text kinds.Solve k = codes ")"
inner_text _ k = codes "," ++ (decimal k ++ codes ")")

behind_inner : (k : ℕ) → IsPart (codes "," ++ (decimal k ++ codes ")")) (codes "," ∷ decimal k ∷ codes ")" ∷ [])
behind_inner k = part_behind_sign 44 (decimal k ++ codes ")") (decimal k ∷ codes ")" ∷ []) refl (number_before k (codes ")") (codes ")" ∷ []) (λ rest stops. record { names = refl; numbers = refl }) (part_sign 41 refl))

inner_part : (kind : Kind) (k : ℕ) → IsPart (inner_text kind k) (inner_words kind k ++ (codes ")" ∷ []))
inner_part kinds.Solve k = part_sign 41 refl
inner_part kinds.Pivots k = behind_inner k
inner_part kinds.Term k = behind_inner k
inner_part kinds.Left k = behind_inner k
inner_part kinds.Right k = behind_inner k

inner_stops : (kind : Kind) (k : ℕ) → StopsAt (inner_text kind k)
inner_stops kinds.Solve k rest stops = record { names = refl; numbers = refl }
inner_stops kinds.Pivots k rest stops = record { names = refl; numbers = refl }
inner_stops kinds.Term k rest stops = record { names = refl; numbers = refl }
inner_stops kinds.Left k rest stops = record { names = refl; numbers = refl }
inner_stops kinds.Right k rest stops = record { names = refl; numbers = refl }

head_is_word : (kind : Kind) (t : ℕ) → HasNumber kind t → is_word (head_word kind t) ≡ true
unfolding digits
head_is_word kinds.Pivots t has = absurd has
head_is_word kinds.Term zero has = absurd (omega (arith, has.0))
head_is_word kinds.Term (suc zero) has = refl
head_is_word kinds.Term (suc (suc zero)) has = refl
head_is_word kinds.Term (suc (suc (suc t))) has = absurd (omega (arith, has.1))
head_is_word kinds.Left t has = refl
head_is_word kinds.Right t has = refl
head_is_word kinds.Solve t has = refl

-- the text of a task, from its head on
abbrev task_parts : List ℕ → List ℕ → List ℕ → List ℕ → List ℕ
task_parts head i j inner = head ++ (codes "(" ++ (i ++ (codes "," ++ (j ++ inner))))

triple_is : (head i j k : List ℕ) → head ++ (codes "(" ++ i ++ codes "," ++ j ++ codes "," ++ k ++ codes ")") ≡ task_parts head i j (codes "," ++ (k ++ codes ")"))
triple_is head i j k = simp append_assoc

pair_is : (head i j : List ℕ) → head ++ (codes "(" ++ i ++ codes "," ++ j ++ codes ")") ≡ task_parts head i j (codes ")")
pair_is head i j = simp append_assoc

task_text_is : (kind : Kind) (t i j k : ℕ) → HasNumber kind t → text_of_kind kind t i j k ≡ task_parts (head_word kind t) (decimal i) (decimal j) (inner_text kind k)
task_text_is kinds.Pivots t i j k has = absurd has
task_text_is kinds.Term t i j k has = triple_is (codes "term" ++ decimal t) (decimal i) (decimal j) (decimal k)
task_text_is kinds.Left t i j k has = triple_is (codes "left") (decimal i) (decimal j) (decimal k)
task_text_is kinds.Right t i j k has = triple_is (codes "right") (decimal i) (decimal j) (decimal k)
task_text_is kinds.Solve t i j k has = pair_is (codes "solve") (decimal i) (decimal j)

task_part : (a : Task) → IsPartTask a → IsPart (codes " " ++ task_text a) (task_words a)
task_part a is =
    let inner = inner_text a.kind a.k in
    let inner_ws = inner_words a.kind a.k ++ (codes ")" ∷ []) in
    let col = number_before a.j inner inner_ws (inner_stops a.kind a.k) (inner_part a.kind a.k) in
    let comma = part_behind_sign 44 (decimal a.j ++ inner) (decimal a.j ∷ inner_ws) refl col in
    let row = number_before a.i (codes "," ++ (decimal a.j ++ inner)) (codes "," ∷ decimal a.j ∷ inner_ws) (λ rest stops. record { names = refl; numbers = refl }) comma in
    let opened = part_behind_sign 40 (decimal a.i ++ (codes "," ++ (decimal a.j ++ inner))) (decimal a.i ∷ codes "," ∷ decimal a.j ∷ inner_ws) refl row in
    let whole = part_before (head_word a.kind a.term) (codes "(" ++ (decimal a.i ++ (codes "," ++ (decimal a.j ++ inner)))) (codes "(" ∷ decimal a.i ∷ codes "," ∷ decimal a.j ∷ inner_ws) (head_is_word a.kind a.term is.number)
    (λ rest stops. record { names = refl; numbers = refl }) opened in
    part_along (codes " " ++ task_text a) (32 ∷ task_parts (head_word a.kind a.term) (decimal a.i) (decimal a.j) inner) (task_words a) (ap (λ (bs : List ℕ). 32 ∷ bs) (task_text_is a.kind a.term a.i a.j a.k is.number))
    (part_behind_space (task_parts (head_word a.kind a.term) (decimal a.i) (decimal a.j) inner) (task_words a) whole)

-- behind a space
spaced_stops : (t : List ℕ) → StopsAt (codes " " ++ t)
spaced_stops t rest stops = record { names = refl; numbers = refl }

tasks_text_is : (tasks : List Task) → tasks_text tasks ≡ flat_map (λ a. codes " " ++ task_text a) tasks
tasks_text_is [] = refl
tasks_text_is (a ∷ tasks) = ap (λ (bs : List ℕ). codes " " ++ task_text a ++ bs) (tasks_text_is tasks)

tasks_part : (tasks : List Task) → All IsPartTask tasks → IsPart (tasks_text tasks) (tasks_words tasks)
tasks_part tasks all = part_along (tasks_text tasks) (flat_map (λ a. codes " " ++ task_text a) tasks) (tasks_words tasks) (tasks_text_is tasks) (parts (λ a. codes " " ++ task_text a) task_words IsPartTask tasks (λ a. spaced_stops (task_text a)) task_part all)

tasks_stop : (tasks : List Task) → StopsAt (tasks_text tasks)
tasks_stop [] rest stops = stops
tasks_stop (a ∷ tasks) rest stops = record { names = refl; numbers = refl }

-- ---- lines of tasks

invariant_read : (kept : List Task) → All IsPartTask kept → AreRead (invariant_line kept) ((codes "invariant" ∷ tasks_words kept) ∷ [])
invariant_read kept all =
    line_read (codes "invariant" ++ tasks_text kept) (codes "\n") (codes "invariant") (tasks_words kept) (part_before (codes "invariant") (tasks_text kept) (tasks_words kept) refl (tasks_stop kept) (tasks_part kept all)) tail_feed

update_read : (a : Task) → IsPartTask a → AreRead (update_line a) (update_words a ∷ [])
update_read a is =
    line_read (codes "update" ++ (codes " " ++ task_text a)) (codes "\n") (codes "update") (task_words a) (part_before (codes "update") (codes " " ++ task_text a) (task_words a) refl (spaced_stops (task_text a)) (task_part a is)) tail_feed

done_is : (word row col tasks : List ℕ) → word ++ codes " " ++ row ++ codes " " ++ col ++ codes " :" ++ tasks ≡ word ++ (codes " " ++ (row ++ (codes " " ++ (col ++ (codes " :" ++ tasks)))))
done_is word row col tasks = simp append_assoc

module _ (op : Operation) (valid : IsValid op) (names : HasNames op) where
  state_read : (word : List ℕ) → is_word word ≡ true → (s : State) → IsPartState s → AreRead (state_line op word s) (state_words word s ∷ [])
  state_read word is_first s is =
      let tasks = tasks_text s.done in
      let ws = tasks_words s.done in
      let colon = part_behind_space (codes ":" ++ tasks) (codes ":" ∷ ws) (part_behind_sign 58 tasks ws refl (tasks_part s.done is.done)) in
      let col = number_before s.col (codes " :" ++ tasks) (codes ":" ∷ ws) (λ rest stops. record { names = refl; numbers = refl }) colon in
      let t1 = decimal s.col ++ (codes " :" ++ tasks) in
      let row = number_before s.row (codes " " ++ t1) (decimal s.col ∷ codes ":" ∷ ws) (spaced_stops t1) (part_behind_space t1 (decimal s.col ∷ codes ":" ∷ ws) col) in
      let t2 = decimal s.row ++ (codes " " ++ t1) in
      let first = part_before word (codes " " ++ t2) (decimal s.row ∷ decimal s.col ∷ codes ":" ∷ ws) is_first (spaced_stops t2) (part_behind_space t2 (decimal s.row ∷ decimal s.col ∷ codes ":" ∷ ws) row) in
      let done = part_along (done_text word s) (word ++ (codes " " ++ t2)) (state_words word s) (done_is word (decimal s.row) (decimal s.col) tasks) first in
      let tree = tree_text op (state_tree op s.row s.col (in_order op s.done)) in
      let tail = tail_space (codes "#" ++ ((codes " " ++ tree) ++ codes "\n")) (tail_comment (codes " " ++ tree) (tree_flat op names (state_tree op s.row s.col (in_order op s.done)))) in
      line_read (done_text word s) (held_text op s) word (decimal s.row ∷ decimal s.col ∷ codes ":" ∷ ws) done tail

  -- ---- lines of dimensions

  dim_word : (d : ℕ) → d < length op.dims → is_word (dim_name op d) ≡ true
  dim_word d below = dims_words op names d [] below

  dim_part : (d : ℕ) → d < length op.dims → IsPart (codes " " ++ dim_name op d) (dim_name op d ∷ [])
  dim_part d below = part_behind_space (dim_name op d) (dim_name op d ∷ []) (part_word (dim_name op d) (dim_word d below))

  guard_read : (guard : List ℕ) → All (λ d. d < length op.dims) guard → AreRead (guard_line op guard) ((codes "guard" ∷ map (dim_name op) guard) ∷ [])
  guard_read guard all =
      let each = parts (λ d. codes " " ++ dim_name op d) (λ d. dim_name op d ∷ []) (λ d. d < length op.dims) guard (λ d. spaced_stops (dim_name op d)) dim_part all in
      let dims = subst (IsPart (dims_text op guard)) (flat_map_single (dim_name op) guard) each in
      line_read (codes "guard" ++ dims_text op guard) (codes "\n") (codes "guard") (map (dim_name op) guard)
      (part_before (codes "guard") (dims_text op guard) (map (dim_name op) guard) refl (parts_stop (λ d. codes " " ++ dim_name op d) guard (λ d. spaced_stops (dim_name op d))) dims) tail_feed

  -- a dimension and another word
  pair_part : (d : ℕ) (w : List ℕ) → d < length op.dims → is_word w ≡ true → IsPart (codes " " ++ dim_name op d ++ codes " " ++ w) (dim_name op d ∷ w ∷ [])
  pair_part d w below is =
      let t = codes " " ++ dim_name op d in
      part_along (t ++ codes " " ++ w) (t ++ (codes " " ++ w)) (dim_name op d ∷ w ∷ []) (append_assoc t (codes " ") w)
      (part_append t (codes " " ++ w) (dim_name op d ∷ []) (w ∷ []) (dim_part d below) (spaced_stops w) (part_behind_space w (w ∷ []) (part_word w is)))

  end_word : (last : Bool) → is_word (end_text last) ≡ true
  end_word false = refl
  end_word true = refl

  dir_word : (dir : Dir) → is_word (dir_text dir) ≡ true
  dir_word Forward = refl
  dir_word Backward = refl

  pub ends_read : (word : List ℕ) (ends : List End) → is_word word ≡ true → AreEnds op ends → AreRead (ends_line op word ends) ((word ∷ ends_words op ends) ∷ [])
  ends_read word ends is are =
      let f : End → List ℕ = λ e. codes " " ++ dim_name op e.dim ++ codes " " ++ end_text e.last in
      let stops = λ (e : End). spaced_stops (dim_name op e.dim ++ codes " " ++ end_text e.last) in
      let all = parts f (λ e. dim_name op e.dim ∷ end_text e.last ∷ []) (λ e. e.dim < length op.dims) ends stops (λ e below. pair_part e.dim (end_text e.last) below (end_word e.last)) are.dims in
      line_read (word ++ ends_text op ends) (codes "\n") word (ends_words op ends) (part_before word (ends_text op ends) (ends_words op ends) is (parts_stop f ends stops) all) tail_feed

  second_part : (first : ℕ) (second : Option ℕ) (dir : Dir) → IsSplit op (record { first = first; second = second }) → IsPart (second_text op second dir) (second_words op second dir)
  second_part first None dir is = part_none
  second_part first (Some d) dir is = pair_part d (dir_text dir) is.1.1 (dir_word dir)

  second_stops : (second : Option ℕ) (dir : Dir) → StopsAt (second_text op second dir)
  second_stops None dir rest stops = stops
  second_stops (Some d) dir rest stops = record { names = refl; numbers = refl }

  split_read : (w : Worksheet) → IsSplit op w.split → AreRead (split_line op w) (split_words op w ∷ [])
  split_read w is =
      let one = dim_text op w.split.first w.dirs.first in
      let two = second_text op w.split.second w.dirs.second in
      let words = along_words op w.split.first w.dirs.first ++ second_words op w.split.second w.dirs.second in
      let both = part_append one two (along_words op w.split.first w.dirs.first) (second_words op w.split.second w.dirs.second) (pair_part w.split.first (dir_text w.dirs.first) is.0 (dir_word w.dirs.first)) (second_stops w.split.second w.dirs.second)
      (second_part w.split.first w.split.second w.dirs.second is) in
      line_read (codes "split" ++ (one ++ two)) (codes "\n") (codes "split") words (part_before (codes "split") (one ++ two) words refl (λ rest stops. record { names = refl; numbers = refl }) both) tail_feed

  -- ---- the first lines

  head_grouped : (w space name feed hash s1 work s2 equation : List ℕ) → (w ++ space) ++ name ++ (feed ++ (hash ++ s1)) ++ work ++ (feed ++ (hash ++ s2)) ++ equation ++ feed
      ≡ ((w ++ (space ++ name)) ++ feed) ++ ((hash ++ ((s1 ++ work) ++ feed)) ++ (hash ++ ((s2 ++ equation) ++ feed)))
  head_grouped w space name feed hash s1 work s2 equation = simp append_assoc

  first_part : (name : List ℕ) → is_word name ≡ true → IsPart (codes "worksheet" ++ (codes " " ++ name)) (codes "worksheet" ∷ name ∷ [])
  first_part name is = part_before (codes "worksheet") (codes " " ++ name) (name ∷ []) refl (spaced_stops name) (part_behind_space name (name ∷ []) (part_word name is))

  -- the two comments behind it
  abbrev comments : List ℕ
  comments = (codes "#" ++ ((codes " 1a X = " ++ op.work.name) ++ codes "\n")) ++ (codes "#" ++ ((codes " 1b" ++ words_text (equation_words op)) ++ codes "\n"))

  comments_read : AreRead comments []
  comments_read =
      let equation = words_text (equation_words op) in
      lines_append (codes "#" ++ ((codes " 1a X = " ++ op.work.name) ++ codes "\n")) (codes "#" ++ ((codes " 1b" ++ equation) ++ codes "\n")) [] []
      (blank_read (codes "#" ++ ((codes " 1a X = " ++ op.work.name) ++ codes "\n")) (tail_comment (codes " 1a X = " ++ op.work.name) (work_flat op names)))
      (blank_read (codes "#" ++ ((codes " 1b" ++ equation) ++ codes "\n")) (tail_comment (codes " 1b" ++ equation) (equation_flat op names valid)))

  -- ---- the whole

  loop_read : (w : Worksheet) → IsPrintable op w
      → AreRead (loop_lines op w) (split_words op w ∷ (codes "invariant" ∷ tasks_words w.invariant) ∷ (codes "guard" ∷ map (dim_name op) w.guard) ∷ (codes "start" ∷ ends_words op w.start) ∷ (codes "take" ∷ ends_words op w.take) ∷ [])
  loop_read w is =
      let one : List Words = split_words op w ∷ (codes "invariant" ∷ tasks_words w.invariant) ∷ [] in
      let two : List Words = split_words op w ∷ (codes "invariant" ∷ tasks_words w.invariant) ∷ (codes "guard" ∷ map (dim_name op) w.guard) ∷ [] in
      let three : List Words = split_words op w ∷ (codes "invariant" ∷ tasks_words w.invariant) ∷ (codes "guard" ∷ map (dim_name op) w.guard) ∷ (codes "start" ∷ ends_words op w.start) ∷ [] in
      let a = lines_append (split_line op w) (invariant_line w.invariant) (split_words op w ∷ []) ((codes "invariant" ∷ tasks_words w.invariant) ∷ []) (split_read w is.split) (invariant_read w.invariant is.invariant) in
      let b = lines_append (split_line op w ++ invariant_line w.invariant) (guard_line op w.guard) one ((codes "guard" ∷ map (dim_name op) w.guard) ∷ []) a (guard_read w.guard is.guard) in
      let c = lines_append (split_line op w ++ invariant_line w.invariant ++ guard_line op w.guard) (ends_line op (codes "start") w.start) two ((codes "start" ∷ ends_words op w.start) ∷ []) b (ends_read (codes "start") w.start refl is.start) in
      lines_append (split_line op w ++ invariant_line w.invariant ++ guard_line op w.guard ++ ends_line op (codes "start") w.start) (ends_line op (codes "take") w.take) three ((codes "take" ∷ ends_words op w.take) ∷ []) c
      (ends_read (codes "take") w.take refl is.take)

  states_read : (word : List ℕ) (states : List State) → is_word word ≡ true → All IsPartState states → AreRead (flat_map (state_line op word) states) (map (state_words word) states)
  states_read word states is all = lines_each (state_line op word) (state_words word) IsPartState states (state_read word is) all

  round_read : (w : Worksheet) → IsPrintable op w
      → AreRead (texts.round_lines op w) (map (state_words (codes "before")) w.before ++ map update_words w.updates ++ ((codes "give" ∷ ends_words op w.give) ∷ []) ++ map (state_words (codes "after")) w.after)
  round_read w is =
      let before = flat_map (state_line op (codes "before")) w.before in
      let updates = flat_map update_line w.updates in
      let give = ends_line op (codes "give") w.give in
      let l1 = map (state_words (codes "before")) w.before in
      let l2 = map update_words w.updates in
      let l3 : List Words = (codes "give" ∷ ends_words op w.give) ∷ [] in
      let a = lines_append before updates l1 l2 (states_read (codes "before") w.before refl is.before) (lines_each update_line update_words IsPartTask w.updates update_read is.updates) in
      let b = lines_append (before ++ updates) give (l1 ++ l2) l3 a (ends_read (codes "give") w.give refl is.give) in
      lines_append (before ++ updates ++ give) (flat_map (state_line op (codes "after")) w.after) (l1 ++ l2 ++ l3) (map (state_words (codes "after")) w.after) b (states_read (codes "after") w.after refl is.after)

  end_read : AreRead (codes "end\n") ((codes "end" ∷ []) ∷ [])
  end_read = line_read (codes "end") (codes "\n") (codes "end") [] (part_word (codes "end") refl) tail_feed

  regrouped : (b u a : List Words) (g e : Words) → (b ++ u ++ (g ∷ []) ++ a) ++ (e ∷ []) ≡ b ++ (u ++ (g ∷ (a ++ (e ∷ []))))
  regrouped b u a g e = simp append_assoc

  -- the first line, and what is behind it
  abbrev first_text : List ℕ → List ℕ
  first_text name = (codes "worksheet" ++ (codes " " ++ name)) ++ codes "\n"

  abbrev behind_first : Worksheet → List ℕ
  behind_first w = comments ++ loop_lines op w ++ texts.round_lines op w ++ codes "end\n"

  abbrev pub behind_lines : Worksheet → List Words
  behind_lines w = split_words op w ∷ (codes "invariant" ∷ tasks_words w.invariant) ∷ (codes "guard" ∷ map (dim_name op) w.guard) ∷ (codes "start" ∷ ends_words op w.start) ∷ (codes "take" ∷ ends_words op w.take) ∷ lines_of_round op w

  behind_read : (w : Worksheet) → IsPrintable op w → AreRead (behind_first w) (behind_lines w)
  behind_read w is =
      let loop : List Words = split_words op w ∷ (codes "invariant" ∷ tasks_words w.invariant) ∷ (codes "guard" ∷ map (dim_name op) w.guard) ∷ (codes "start" ∷ ends_words op w.start) ∷ (codes "take" ∷ ends_words op w.take) ∷ [] in
      let round = map (state_words (codes "before")) w.before ++ map update_words w.updates ++ ((codes "give" ∷ ends_words op w.give) ∷ []) ++ map (state_words (codes "after")) w.after in
      let a = lines_append comments (loop_lines op w) [] loop comments_read (loop_read w is) in
      let b = lines_append (comments ++ loop_lines op w) (texts.round_lines op w) loop round a (round_read w is) in
      let c = lines_append (comments ++ loop_lines op w ++ texts.round_lines op w) (codes "end\n") (loop ++ round) ((codes "end" ∷ []) ∷ []) b end_read in
      let behind = regrouped (map (state_words (codes "before")) w.before) (map update_words w.updates) (map (state_words (codes "after")) w.after) (codes "give" ∷ ends_words op w.give) (codes "end" ∷ []) in
      subst (AreRead (behind_first w)) (ap (λ (ls : List Words). loop ++ ls) behind) c

  four_parts : (a b c d e : List ℕ) → (a ++ b) ++ c ++ d ++ e ≡ a ++ (b ++ c ++ d ++ e)
  four_parts a b c d e = simp append_assoc

  sheet_text_is : (w : Worksheet) → worksheet_text op w ≡ first_text w.operation ++ behind_first w
  sheet_text_is w =
      ap (λ (head : List ℕ). head ++ loop_lines op w ++ texts.round_lines op w ++ codes "end\n")
      (head_grouped (codes "worksheet") (codes " ") w.operation (codes "\n") (codes "#") (codes " 1a X = ") op.work.name (codes " 1b") (words_text (equation_words op)))
      ∙ four_parts (first_text w.operation) comments (loop_lines op w) (texts.round_lines op w) (codes "end\n")

  name_word : (w : Worksheet) → IsPrintable op w → is_word w.operation ≡ true
  name_word w is = ap is_word is.operation ∙ own_word op names

  -- the whole, at the end of any text: its first line is where it begins
  pub sheet_begins : (text : List ℕ) (line : ℕ) (w : Worksheet) → IsPrintable op w → ReadTo text line (worksheet_text op w) (codes "worksheet" ∷ w.operation ∷ []) (behind_lines w)
  sheet_begins text line w is =
      ReadTo-along text line (worksheet_text op w) (first_text w.operation ++ behind_first w) (codes "worksheet" ∷ w.operation ∷ []) (codes "worksheet" ∷ w.operation ∷ []) (behind_lines w) (sheet_text_is w) refl
      (line_begins text line (codes "worksheet" ++ (codes " " ++ w.operation)) (codes "\n") (behind_first w) (codes "worksheet") (w.operation ∷ []) (behind_lines w) (first_part w.operation (name_word w is)) tail_feed
      (last_scanned text (behind_first w) (behind_lines w) (behind_read w is)))

  sheet_scanned : (line : ℕ) (w : Worksheet) → IsPrintable op w → Scans (worksheet_text op w) 0 line (worksheet_text op w) (sheet_lines op w)
  sheet_scanned line w is = line_scanned (worksheet_text op w) 0 line (worksheet_text op w) (codes "worksheet") (w.operation ∷ []) (behind_lines w) (sheet_begins (worksheet_text op w) line w is 0 refl)

-- behind any bytes, on any line
pub printed_is_spelled : (front : List ℕ) (line : ℕ) (op : Operation) (w : Worksheet) → IsValid op → HasNames op → IsPrintable op w → SpellsSheet (front ++ worksheet_text op w) (record { at = length front; line = line }) op w
printed_is_spelled front line op w valid names is =
    let there : drop (length front) (front ++ worksheet_text op w) ≡ worksheet_text op w = drop_at front (worksheet_text op w) (length front) refl in
    let whole = sheet_scanned op valid names line w is in
    record {
      tokens = whole.tokens;
      scanned = ap (λ (bs : List ℕ). tokens_from 0 0 line bs) there ∙ whole.read;
      text = ap (λ (bs : List ℕ). words_of (lines_of bs whole.tokens)) there ∙ whole.same;
      valid = valid;
      names = names;
      printable = is;
    }
