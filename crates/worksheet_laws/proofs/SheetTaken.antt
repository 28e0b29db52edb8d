-- A worksheet that was read is spelled by its text. Cited by the law that says so.
use Rattle.std.proofs.Common.{◌≡◌, ℕ, Bool, true, false, List, [], ◌∷◌, ◌++◌, length, map, drop, ◌<◌, Option, Some, None, Result, Ok, Err, All, refl, sym, ap, subst, ◌∙◌, append_assoc, append-nil}
use Rattle.std.specs.Prelude.{codes, ◌==◌, ◌&&◌, if◌then◌else◌}
use Rattle.std.specs.Fmt.{decimal}
use Rattle.std.proofs.lemmas.Bool.{and_parts, eqb-true}
use Rattle.std.proofs.lemmas.List.Elements.{All-cons, All-nil}
use Rattle.byte_texts.specs.Reading.{◌>>=◌, some_or}
use Rattle.byte_texts.proofs.Binding.{same_ok}
use Rattle.text_scan.specs.declared.Rest.{Rest}
use Rattle.text_scan.specs.declared.token.Token.{Token}
use Rattle.text_scan.specs.Faults.{◌on◌}
use Rattle.text_scan.specs.FaultKinds.{Syntax}
use Rattle.text_scan.specs.Lines.{Line, begins_with, end_line_of, is_end, lines_of, nth_word}
use Rattle.text_scan.specs.Words.{is_name}
use Rattle.text_scan.specs.Tokens.{BadByte, scanned, tokens_of}
use Rattle.operation_spec.specs.declared.operation.Operation.{Operation}
use Rattle.operation_spec.specs.declared.task.Task.{Task}
use Rattle.operation_spec.specs.ValidOperations.{HasNames, IsValid}
use Rattle.operation_spec.proofs.FoundNames.{text_is}
use Rattle.task_texts.specs.DimTexts.{dim_name}
use Rattle.worksheet.specs.declared.sheet.End.{End}
use Rattle.worksheet.specs.declared.sheet.State.{State}
use Rattle.worksheet.specs.declared.sheet.Worksheet.{Worksheet}
use Rattle.worksheet_text.specs.declared.loop_lines.LoopLines.{LoopLines}
use Rattle.worksheet_text.specs.declared.loop_lines.SplitLine.{SplitLine}
use Rattle.worksheet_text.specs.declared.round_lines.RoundLines.{RoundLines}
use Rattle.worksheet_text.specs.SheetFaults.{SheetFault, as_text, syntax, unknown}
use Rattle.worksheet_text.specs.SheetReading.{each_line, end_at, ends_at, ends_line_at, guard_at, invariant_at, is_sheet_line, last_at, loop_at, more_due, next_line_at, no_line_at, operation_at, operation_named, round_at, sheet_at, split_at, state_at, states_at, update_at, updates_at, worksheet_in}
use Rattle.worksheet_text.specs.SheetWords.{Words, nothing_left, part_at, task_at, tasks_at, word_at}
use Rattle.worksheet_laws.specs.SheetLines.{along_words, ends_words, second_words, sheet_lines, state_words, task_words, tasks_words, update_words}
use Rattle.worksheet_laws.specs.SpelledSheets.{AreEnds, AreOneOrTwo, IsPartState, IsPartTask, IsPrintable, SpellsSheet}
use Rattle.worksheet_laws.proofs.DimsTaken.{SplitTaken, begun, ends_taken, guard_taken, split_taken, two_words}
use Rattle.worksheet_laws.proofs.NamedOperations.{named_has}
use Rattle.worksheet_laws.proofs.RoundAgain.{words_of}
use Rattle.worksheet_laws.proofs.TasksTaken.{part_at-taken, task_taken, taken, tasks_taken, word_at-taken}

-- ---- the line that is due

next_taken : (end : ℕ) (lines : List Line) (read : Line × List Line) → next_line_at end lines ≡ Ok read → lines ≡ read.0 ∷ read.1
unfolding next_line_at
next_taken end [] read e = absurd cc
next_taken end (line ∷ lines) read e = by_test (line.number == end) e
  where
    by_test : (b : Bool) → as_text (if b then Err (Syntax on end) else Ok (line, lines)) ≡ Ok read → line ∷ lines ≡ read.0 ∷ read.1
    by_test true e = absurd cc
    by_test false e = ap (λ (r : Line × List Line). r.0 ∷ r.1) (same_ok {F = SheetFault} (line, lines) read e)

-- its first word, and the others
first_word : (word : List ℕ) (words : Words) → begins_with word words ≡ true → words ≡ word ∷ drop 1 words
first_word word [] is = absurd cc
first_word word (w ∷ words) is = ap (λ (v : List ℕ). v ∷ words) (text_is w word is)

-- ---- one line

state_taken : (end : ℕ) (word : List ℕ) (line : Line) (s : State) → begins_with word line.words ≡ true → state_at end line ≡ Ok s → (line.words ≡ state_words word s) × IsPartState s
unfolding state_at
state_taken end word line s begins e =
    taken (more_due end line) e (λ inside h0 e. taken (part_at line.number (drop 1 line.words)) e (λ row h1 e. taken (part_at line.number row.1) e (λ col h2 e. taken (word_at line.number (codes ":") col.1) e (λ colon h3 e. taken (tasks_at line.number colon) e (λ done h4 e.
    let r = part_at-taken line.number (drop 1 line.words) row h1 in
    let c = part_at-taken line.number row.1 col h2 in
    let tasks = tasks_taken line.number colon done h4 in
    let words = r.0 ∙ ap (λ (ws : Words). decimal row.0 ∷ ws) (c.0 ∙ ap (λ (ws : Words). decimal col.0 ∷ ws) (word_at-taken line.number (codes ":") col.1 colon h3 ∙ ap (λ (ws : Words). codes ":" ∷ ws) tasks.0)) in
    subst (λ (t : State). (line.words ≡ state_words word t) × IsPartState t) (same_ok {F = SheetFault} _ s e)
    (first_word word line.words begins ∙ ap (λ (ws : Words). word ∷ ws) words, record { row = r.1; col = c.1; done = tasks.1 }))))))

nothing_taken : (n : ℕ) (words : Words) (u : Unit {0}) → nothing_left n words ≡ Ok u → words ≡ []
unfolding nothing_left
nothing_taken n [] u e = refl
nothing_taken n (w ∷ words) u e = absurd cc

update_taken : (end : ℕ) (line : Line) (a : Task) → begins_with (codes "update") line.words ≡ true → update_at end line ≡ Ok a → (line.words ≡ update_words a) × IsPartTask a
unfolding update_at
update_taken end line a begins e =
    taken (more_due end line) e (λ inside h0 e. taken (task_at line.number (drop 1 line.words)) e (λ read h1 e. taken (nothing_left line.number read.1) e (λ nothing h2 e.
    let task = task_taken line.number (drop 1 line.words) read h1 in
    let words = task.0 ∙ ap (λ (ws : Words). task_words read.0 ++ ws) (nothing_taken line.number read.1 nothing h2) ∙ append-nil (task_words read.0) in
    subst (λ (b : Task). (line.words ≡ update_words b) × IsPartTask b) (same_ok {F = SheetFault} read.0 a e) (first_word (codes "update") line.words begins ∙ ap (λ (ws : Words). codes "update" ∷ ws) words, task.1))))

invariant_taken : (line : Line) (kept : List Task) → invariant_at line ≡ Ok kept → (line.words ≡ codes "invariant" ∷ tasks_words kept) × All IsPartTask kept
unfolding invariant_at
invariant_taken line kept e =
    taken (word_at line.number (codes "invariant") line.words) e (λ words h e.
    let tasks = tasks_taken line.number words kept e in (word_at-taken line.number (codes "invariant") line.words words h ∙ ap (λ (ws : Words). codes "invariant" ∷ ws) tasks.0, tasks.1))

-- ---- lines one after another

module _ {X : Type 0} (word : List ℕ) (read : Line → Result X SheetFault) (item : X → Words) (P : X → Type 0) (one : (line : Line) (x : X) → begins_with word line.words ≡ true → read line ≡ Ok x → (line.words ≡ item x) × P x) where
  abbrev EachTaken : List X → List Line → List X × List Line → Type 0
  EachTaken found lines r = (xs : List X) × (found ++ xs ≡ r.0) × (words_of lines ≡ map item xs ++ words_of r.1) × All P xs

  none_taken : (found : List X) (lines : List Line) (r : List X × List Line) → ◌≡◌ {A = Result (List X × List Line) SheetFault} (Ok (found, lines)) (Ok r) → EachTaken found lines r
  none_taken found lines r e = subst (EachTaken found lines) (same_ok {F = SheetFault} (found, lines) r e) ([], append-nil found, refl, All-nil P)

  pub each_taken : (found : List X) (lines : List Line) (r : List X × List Line) → each_line word read found lines ≡ Ok r → EachTaken found lines r
  unfolding each_line
  each_taken found [] r e = none_taken found [] r e
  each_taken found (line ∷ lines) r e = by_test (begins_with word line.words) refl e (λ x e. each_taken (found ++ x ∷ []) lines r e)
    where
      by_test : (b : Bool) → begins_with word line.words ≡ b → (if b then (read line >>= λ x. each_line word read (found ++ x ∷ []) lines) else Ok (found, line ∷ lines)) ≡ Ok r
          → ((x : X) → each_line word read (found ++ x ∷ []) lines ≡ Ok r → EachTaken (found ++ x ∷ []) lines r) → EachTaken found (line ∷ lines) r
      by_test false other e more = none_taken found (line ∷ lines) r e
      by_test true begins e more =
          taken (read line) e (λ x h e.
          let here = one line x begins h in
          let others = more x e in
          (x ∷ others.0, sym (append_assoc found (x ∷ []) others.0) ∙ others.1, ap (λ (ws : Words). ws ∷ words_of lines) here.0 ∙ ap (λ (ls : List Words). item x ∷ ls) others.2, All-cons P x others.0 here.1 others.3))

-- all of them
each_all : {X : Type 0} (lines : List Line) (item : X → Words) (P : X → Type 0) (r : List X × List Line) (xs : List X) → xs ≡ r.0 → words_of lines ≡ map item xs ++ words_of r.1 → All P xs → (words_of lines ≡ map item r.0 ++ words_of r.1) × All P r.0
each_all lines item P r xs same words all = subst (λ (ys : List _). (words_of lines ≡ map item ys ++ words_of r.1) × All P ys) same (words, all)

states_taken : (end : ℕ) (word : List ℕ) (lines : List Line) (r : List State × List Line) → states_at end word lines ≡ Ok r → (words_of lines ≡ map (state_words word) r.0 ++ words_of r.1) × All IsPartState r.0
states_taken end word lines r e =
    let all = each_taken word (state_at end) (state_words word) IsPartState (λ line s begins h. state_taken end word line s begins h) [] lines r e in each_all lines (state_words word) IsPartState r all.0 all.1 all.2 all.3

updates_taken : (end : ℕ) (lines : List Line) (r : List Task × List Line) → updates_at end lines ≡ Ok r → (words_of lines ≡ map update_words r.0 ++ words_of r.1) × All IsPartTask r.0
updates_taken end lines r e =
    let all = each_taken (codes "update") (update_at end) update_words IsPartTask (λ line a begins h. update_taken end line a begins h) [] lines r e in each_all lines update_words IsPartTask r all.0 all.1 all.2 all.3

-- ---- a loop and its round

module _ (op : Operation) (end : ℕ) where
  line_before : (own : Words) (lines : List Line) (read : Line × List Line) → next_line_at end lines ≡ Ok read → read.0.words ≡ own → words_of lines ≡ own ∷ words_of read.1
  line_before own lines read e same = ap words_of (next_taken end lines read e) ∙ ap (λ (ws : Words). ws ∷ words_of read.1) same

  abbrev EndsLine : List ℕ → List Line → List End × List Line → Type 0
  EndsLine word lines r = (words_of lines ≡ (word ∷ ends_words op r.0) ∷ words_of r.1) × AreEnds op r.0

  ends_line_taken : (word : List ℕ) (lines : List Line) (r : List End × List Line) → ends_line_at end op.dims word lines ≡ Ok r → EndsLine word lines r
  unfolding ends_line_at
  ends_line_taken word lines r e =
      taken (next_line_at end lines) e (λ line h0 e. taken (ends_at op.dims word line.0) e (λ ends h1 e.
      let t = ends_taken op word line.0 ends h1 in
      subst (EndsLine word lines) (same_ok {F = SheetFault} (ends, line.1) r e) (line_before (word ∷ ends_words op ends) lines line h0 t.0, t.1)))

  abbrev along_line : SplitLine → Words
  along_line along = codes "split" ∷ (along_words op along.split.first along.dirs.first ++ second_words op along.split.second along.dirs.second)

  -- the lines of a loop, before others
  abbrev loop_before : LoopLines → List Words → List Words
  loop_before loop others = along_line loop.along ∷ (codes "invariant" ∷ tasks_words loop.invariant) ∷ (codes "guard" ∷ map (dim_name op) loop.guard) ∷ (codes "start" ∷ ends_words op loop.start) ∷ (codes "take" ∷ ends_words op loop.take) ∷ others

  record LoopTaken (lines : List Line) (r : LoopLines × List Line) : Type 0 where
    split : SplitTaken op (along_line r.0.along) r.0.along
    words : words_of lines ≡ loop_before r.0 (words_of r.1)
    invariant : All IsPartTask r.0.invariant
    few : AreOneOrTwo r.0.guard
    guard : All (λ d. d < length op.dims) r.0.guard
    start : AreEnds op r.0.start
    take : AreEnds op r.0.take

  five_lines : (a b c d f : Words) (l0 l1 l2 l3 l4 l5 : List Line) → words_of l0 ≡ a ∷ words_of l1 → words_of l1 ≡ b ∷ words_of l2 → words_of l2 ≡ c ∷ words_of l3 → words_of l3 ≡ d ∷ words_of l4 → words_of l4 ≡ f ∷ words_of l5
      → words_of l0 ≡ a ∷ b ∷ c ∷ d ∷ f ∷ words_of l5
  five_lines a b c d f l0 l1 l2 l3 l4 l5 h0 h1 h2 h3 h4 =
      h0 ∙ ap (λ (ls : List Words). a ∷ ls) (h1 ∙ ap (λ (ls : List Words). b ∷ ls) (h2 ∙ ap (λ (ls : List Words). c ∷ ls) (h3 ∙ ap (λ (ls : List Words). d ∷ ls) h4)))

  loop_taken : (lines : List Line) (r : LoopLines × List Line) → loop_at end op.dims lines ≡ Ok r → LoopTaken lines r
  unfolding loop_at
  loop_taken lines r e =
      taken (next_line_at end lines) e (λ l1 h1 e. taken (split_at op.dims l1.0) e (λ along g1 e. taken (next_line_at end l1.1) e (λ l2 h2 e. taken (invariant_at l2.0) e (λ kept g2 e.
      taken (next_line_at end l2.1) e (λ l3 h3 e. taken (guard_at op.dims l3.0) e (λ guard g3 e. taken (ends_line_at end op.dims (codes "start") l3.1) e (λ start h4 e. taken (ends_line_at end op.dims (codes "take") start.1) e (λ take h5 e.
      let split = split_taken op l1.0 along g1 in
      let invariant = invariant_taken l2.0 kept g2 in
      let guarded = guard_taken op l3.0 guard g3 in
      let started = ends_line_taken (codes "start") l3.1 start h4 in
      let took = ends_line_taken (codes "take") start.1 take h5 in
      subst (LoopTaken lines) (same_ok {F = SheetFault} _ r e) (record {
        split = record { words = refl; split = split.split; single = split.single };
        words = five_lines _ _ _ _ _ lines l1.1 l2.1 l3.1 start.1 take.1 (line_before _ lines l1 h1 split.words) (line_before _ l1.1 l2 h2 invariant.0) (line_before _ l2.1 l3 h3 guarded.0) started.0 took.0;
        invariant = invariant.1;
        few = guarded.1;
        guard = guarded.2;
        start = started.1;
        take = took.1;
      })))))))))

  -- the lines of a round, before others
  abbrev round_before : RoundLines → List Words → List Words
  round_before round others = map (state_words (codes "before")) round.before ++ (map update_words round.updates ++ ((codes "give" ∷ ends_words op round.give) ∷ (map (state_words (codes "after")) round.after ++ others)))

  record RoundTaken (lines : List Line) (r : RoundLines × List Line) : Type 0 where
    words : words_of lines ≡ round_before r.0 (words_of r.1)
    before : All IsPartState r.0.before
    updates : All IsPartTask r.0.updates
    give : AreEnds op r.0.give
    after : All IsPartState r.0.after

  four_parts : (b u a : List Words) (g : Words) (l0 l1 l2 l3 l4 : List Line) → words_of l0 ≡ b ++ words_of l1 → words_of l1 ≡ u ++ words_of l2 → words_of l2 ≡ g ∷ words_of l3 → words_of l3 ≡ a ++ words_of l4
      → words_of l0 ≡ b ++ (u ++ (g ∷ (a ++ words_of l4)))
  four_parts b u a g l0 l1 l2 l3 l4 h0 h1 h2 h3 = h0 ∙ ap (λ (ls : List Words). b ++ ls) (h1 ∙ ap (λ (ls : List Words). u ++ ls) (h2 ∙ ap (λ (ls : List Words). g ∷ ls) h3))

  round_taken : (lines : List Line) (r : RoundLines × List Line) → round_at end op.dims lines ≡ Ok r → RoundTaken lines r
  unfolding round_at
  round_taken lines r e =
      taken (states_at end (codes "before") lines) e (λ before h0 e. taken (updates_at end before.1) e (λ updates h1 e. taken (ends_line_at end op.dims (codes "give") updates.1) e (λ give h2 e. taken (states_at end (codes "after") give.1) e (λ after h3 e.
      let first = states_taken end (codes "before") lines before h0 in
      let changed = updates_taken end before.1 updates h1 in
      let given = ends_line_taken (codes "give") updates.1 give h2 in
      let last = states_taken end (codes "after") give.1 after h3 in
      subst (RoundTaken lines) (same_ok {F = SheetFault} _ r e)
      (record { words = four_parts _ _ _ _ lines before.1 updates.1 give.1 after.1 first.0 changed.0 given.0 last.0; before = first.1; updates = changed.1; give = given.1; after = last.1 })))))

-- `end`, and no line behind it
end_words : (words : Words) → is_end words ≡ true → words ≡ codes "end" ∷ []
end_words [] is = absurd cc
end_words (w ∷ []) is = ap (λ (v : List ℕ). v ∷ []) (text_is w (codes "end") is)
end_words (w ∷ v ∷ words) is = absurd cc

abbrev ended : Result (Unit {0}) SheetFault
ended = Ok tt

last_taken : (end : ℕ) (lines : List Line) (u : Unit {0}) → last_at end lines ≡ Ok u → words_of lines ≡ (codes "end" ∷ []) ∷ []
unfolding last_at end_at no_line_at
last_taken end [] u e = absurd cc
last_taken end (line ∷ lines) u e = by_test (is_end line.words) refl lines e
  where
    by_test : (b : Bool) → is_end line.words ≡ b → (others : List Line) → ((if b then ended else Err (syntax line.number)) >>= λ last. no_line_at others) ≡ Ok u → words_of (line ∷ others) ≡ (codes "end" ∷ []) ∷ []
    by_test false other others e = absurd cc
    by_test true is [] e = ap (λ (ws : Words). ws ∷ []) (end_words line.words is)
    by_test true is (next ∷ others) e = absurd cc

-- the operation
first_taken : (operations : List Operation) (line : Line) (op : Operation) → operation_at operations line ≡ Ok op → (operation_named operations op.name ≡ Some op) × (line.words ≡ codes "worksheet" ∷ op.name ∷ [])
unfolding operation_at
first_taken operations line op e = by_test (is_sheet_line line.words) refl (operation_named operations (nth_word line.words 1)) refl e
  where
    by_test : (b : Bool) → is_sheet_line line.words ≡ b → (o : Option Operation) → operation_named operations (nth_word line.words 1) ≡ o → (if b then some_or (unknown line.number) o else Err (syntax line.number)) ≡ Ok op
        → (operation_named operations op.name ≡ Some op) × (line.words ≡ codes "worksheet" ∷ op.name ∷ [])
    by_test false other o found e = absurd cc
    by_test true is None found e = absurd cc
    by_test true is (Some p) found e =
        let same : p ≡ op = same_ok {F = SheetFault} p op e in
        let its_name = (named_has (λ o. Unit {0}) operations (nth_word line.words 1) p (λ k d below. tt) found).0 in
        let front = and_parts (begins_with (codes "worksheet") line.words && length line.words == 2) (is_name (nth_word line.words 1)) is in
        let both = and_parts (begins_with (codes "worksheet") line.words) (length line.words == 2) front.0 in
        let words = two_words line.words (eqb-true (length line.words) 2 both.1) ∙ ap (λ (w : List ℕ). w ∷ nth_word line.words 1 ∷ []) (begun (codes "worksheet") line.words both.0) ∙ ap (λ (w : List ℕ). codes "worksheet" ∷ w ∷ []) (sym its_name) in
        subst (λ (q : Operation). (operation_named operations q.name ≡ Some q) × (line.words ≡ codes "worksheet" ∷ q.name ∷ [])) same (ap (operation_named operations) its_name ∙ found, words)

-- ---- all lines

-- lines that were read as a worksheet
record IsTaken (operations : List Operation) (lines : List Line) (w : Worksheet) : Type 0 where
  op : Operation
  found : operation_named operations w.operation ≡ Some op
  words : words_of lines ≡ sheet_lines op w
  printable : IsPrintable op w

sheet_taken : (end : ℕ) (operations : List Operation) (lines : List Line) (w : Worksheet) → sheet_at end operations lines ≡ Ok w → IsTaken operations lines w
unfolding sheet_at
sheet_taken end operations lines w e =
    taken (next_line_at end lines) e (λ first h0 e. taken (operation_at operations first.0) e (λ op h1 e. taken (loop_at end op.dims first.1) e (λ loop h2 e. taken (round_at end op.dims loop.1) e (λ round h3 e. taken (last_at end round.1) e (λ last h4 e.
    let named = first_taken operations first.0 op h1 in
    let l = loop_taken op end first.1 loop h2 in
    let r = round_taken op end loop.1 round h3 in
    let front = line_before op end (codes "worksheet" ∷ op.name ∷ []) lines first h0 named.1 in
    let back = r.words ∙ ap (round_before op end round.0) (last_taken end round.1 last h4) in
    subst (IsTaken operations lines) (same_ok {F = SheetFault} _ w e) (record {
      op = op;
      found = named.0;
      words = front ∙ ap (λ (ls : List Words). (codes "worksheet" ∷ op.name ∷ []) ∷ ls) (l.words ∙ ap (loop_before op end loop.0) back);
      printable = record {
        operation = refl;
        split = l.split.split;
        single = l.split.single;
        invariant = l.invariant;
        few = l.few;
        guard = l.guard;
        start = l.start;
        take = l.take;
        before = r.before;
        updates = r.updates;
        give = r.give;
        after = r.after;
      };
    }))))))

-- ---- bytes

tokens_taken : (r : Result (List Token) BadByte) (tokens : List Token) → as_text (scanned r) ≡ Ok tokens → r ≡ Ok tokens
tokens_taken (Ok found) tokens e = ap (λ (ts : List Token). Ok ts) (same_ok {F = SheetFault} found tokens e)
tokens_taken (Err bad) tokens e = absurd cc

pub read_sheet_is_spelled : (bytes : List ℕ) (rest : Rest) (operations : List Operation) (op : Operation) (w : Worksheet) → operation_named operations w.operation ≡ Some op → IsValid op → HasNames op → worksheet_in bytes rest operations ≡ Ok w
    → SpellsSheet bytes rest op w
read_sheet_is_spelled bytes rest operations op w found valid names e =
    taken (as_text (scanned (tokens_of rest.line (drop rest.at bytes)))) e (λ tokens h e.
    let is = sheet_taken (end_line_of rest.line (drop rest.at bytes)) operations (lines_of (drop rest.at bytes) tokens) w e in
    let same : is.op ≡ op = same_option is.op op (sym is.found ∙ found) in
    record {
      tokens = tokens;
      scanned = tokens_taken (tokens_of rest.line (drop rest.at bytes)) tokens h;
      text = is.words ∙ ap (λ (o : Operation). sheet_lines o w) same;
      valid = valid;
      names = names;
      printable = subst (λ (o : Operation). IsPrintable o w) same is.printable;
    })
  where
    same_option : (a b : Operation) → Some a ≡ Some b → a ≡ b
    same_option a b e = cc
