-- Lines that are those of a worksheet are read as the worksheet, and so is a text that spells it. Cited by the laws that say so.
use Rattle.std.proofs.Common.{◌≡◌, ℕ, ◌<◌, true, false, List, [], ◌∷◌, ◌++◌, length, map, drop, Some, Result, Ok, Err, All, bytes_eq, refl, sym, ap, subst, ◌∙◌, arith}
use Rattle.std.specs.Prelude.{codes}
use Rattle.byte_texts.proofs.Binding.{same_ok}
use Rattle.text_scan.specs.declared.Rest.{Rest}
use Rattle.text_scan.specs.declared.token.Token.{Token}
use Rattle.text_scan.specs.LineOrder.{AreLines}
use Rattle.text_scan.specs.Lines.{Line, begins, begins_with, end_line_of, lines_of, nth_word}
use Rattle.text_scan.proofs.LineOrders.{AreLines-behind, AreLines-from_tokens, AreLines-parts}
use Rattle.text_scan.proofs.ScannedTokens.{AreTokens-scanned}
use Rattle.operation_spec.specs.declared.operation.Operation.{Operation}
use Rattle.operation_spec.specs.declared.task.Task.{Task}
use Rattle.operation_spec.specs.ValidOperations.{HasNames, IsValid}
use Rattle.operation_spec.proofs.ImageParts.{map_append, map_cons, map_nil}
use Rattle.operation_spec.proofs.InnerLines.{inner_line-inside}
use Rattle.operation_spec.proofs.NamesApart.{bytes_eq-same}
use Rattle.task_texts.specs.DimTexts.{dim_name}
use Rattle.worksheet.specs.declared.sheet.End.{End}
use Rattle.worksheet.specs.declared.sheet.State.{State}
use Rattle.worksheet.specs.declared.sheet.Worksheet.{Worksheet}
use Rattle.worksheet_text.specs.declared.loop_lines.LoopLines.{LoopLines}
use Rattle.worksheet_text.specs.declared.loop_lines.SplitLine.{SplitLine}
use Rattle.worksheet_text.specs.declared.round_lines.RoundLines.{RoundLines}
use Rattle.worksheet_text.specs.SheetFaults.{SheetFault, as_text}
use Rattle.worksheet_text.specs.SheetReading.{end_at, ends_at, ends_line_at, guard_at, invariant_at, last_at, loop_at, next_line_at, no_line_at, operation_at, operation_named, round_at, sheet_at, sheet_of, split_at, states_at, update_at, updates_at, state_at, worksheet_in}
use Rattle.worksheet_text.specs.SheetWords.{Words}
use Rattle.worksheet_laws.specs.SheetLines.{ends_words, last_lines, lines_of_round, sheet_lines, split_words, state_words, tasks_words, update_words}
use Rattle.worksheet_laws.specs.SpelledSheets.{AreEnds, IsPartState, IsPartTask, IsPrintable, SpellsSheet}
use Rattle.worksheet_laws.proofs.DimsAgain.{ends_again, guard_again, split_again}
use Rattle.worksheet_laws.proofs.RoundAgain.{each_again, invariant_again, state_again, update_again, with_words, words_of}

-- ---- the line that is due

next_line_again : (end : ℕ) (line : Line) (lines : List Line) → AreLines end (line ∷ lines) → 0 < length lines → next_line_at end (line ∷ lines) ≡ Ok (line, lines)
unfolding next_line_at
next_line_again end line lines are some = ap as_text (inner_line-inside end line lines are some)

-- lines with some words are some
some_lines : (lines : List Line) (first : Words) (others : List Words) → words_of lines ≡ first ∷ others → 0 < length lines
some_lines [] first others same = absurd cc
some_lines (line ∷ lines) first others same = omega arith

-- a line that is due and has its words, and the lines behind it
record IsDue (end : ℕ) (lines : List Line) (words : Words) (others : List Words) : Type 0 where
  line : Line
  behind : List Line
  same : line ≡ record { number = line.number; words = words }
  next : next_line_at end lines ≡ Ok (line, behind)
  left : words_of behind ≡ others
  in_order : AreLines end behind

due : (end : ℕ) (lines : List Line) (words next : Words) (others : List Words) → AreLines end lines → words_of lines ≡ words ∷ (next ∷ others) → IsDue end lines words (next ∷ others)
due end lines words next others are same =
    let head = map_cons (λ (l : Line). l.words) lines words (next ∷ others) same in
    let there = subst (AreLines end) head.2 are in
    record {
      line = head.0;
      behind = head.1;
      same = with_words head.0 words head.3;
      next = ap (next_line_at end) head.2 ∙ next_line_again end head.0 head.1 there (some_lines head.1 next others head.4);
      left = head.4;
      in_order = (AreLines-parts there).others;
    }

-- the same, where it is known that some line stands behind it
due_some : (end : ℕ) (lines : List Line) (words : Words) (others : List Words) → (next : Words) × (behind : List Words) × (others ≡ next ∷ behind) → AreLines end lines → words_of lines ≡ words ∷ others → IsDue end lines words others
due_some end lines words others some are same =
    let d = due end lines words some.0 some.1 are (same ∙ ap (λ (ls : List Words). words ∷ ls) some.2) in
    record { line = d.line; behind = d.behind; same = d.same; next = d.next; left = d.left ∙ sym some.2; in_order = d.in_order }

-- ---- the steps of the readers

first_again : (operations : List Operation) (n : ℕ) (op : Operation) → HasNames op → operation_named operations op.name ≡ Some op → operation_at operations (record { number = n; words = codes "worksheet" ∷ op.name ∷ [] }) ≡ Ok op
unfolding operation_at
first_again operations n op names found = rw (names.own, found) refl

ends_steps : (end : ℕ) (dims : List (List ℕ)) (word : List ℕ) (lines behind : List Line) (line : Line) (ends : List End) → next_line_at end lines ≡ Ok (line, behind) → ends_at dims word line ≡ Ok ends
    → ends_line_at end dims word lines ≡ Ok (ends, behind)
unfolding ends_line_at
ends_steps end dims word lines behind line ends next read = rw (next, read) refl

loop_steps : (end : ℕ) (dims : List (List ℕ)) (l0 l1 l2 l3 l4 l5 : List Line) (second third fourth : Line) (along : SplitLine) (kept : List Task) (guard : List ℕ) (start take : List End)
    → next_line_at end l0 ≡ Ok (second, l1) → split_at dims second ≡ Ok along → next_line_at end l1 ≡ Ok (third, l2) → invariant_at third ≡ Ok kept → next_line_at end l2 ≡ Ok (fourth, l3) → guard_at dims fourth ≡ Ok guard
    → ends_line_at end dims (codes "start") l3 ≡ Ok (start, l4) → ends_line_at end dims (codes "take") l4 ≡ Ok (take, l5)
    → loop_at end dims l0 ≡ Ok (record { along = along; invariant = kept; guard = guard; start = start; take = take }, l5)
unfolding loop_at
loop_steps end dims l0 l1 l2 l3 l4 l5 second third fourth along kept guard start take a b c d e f g h = rw (a, b, c, d, e, f, g, h) refl

round_steps : (end : ℕ) (dims : List (List ℕ)) (l0 l1 l2 l3 l4 : List Line) (before after : List State) (updates : List Task) (give : List End) → states_at end (codes "before") l0 ≡ Ok (before, l1) → updates_at end l1 ≡ Ok (updates, l2)
    → ends_line_at end dims (codes "give") l2 ≡ Ok (give, l3) → states_at end (codes "after") l3 ≡ Ok (after, l4) → round_at end dims l0 ≡ Ok (record { before = before; updates = updates; give = give; after = after }, l4)
unfolding round_at
round_steps end dims l0 l1 l2 l3 l4 before after updates give a b c d = rw (a, b, c, d) refl

last_steps : (end n : ℕ) → last_at end (record { number = n; words = codes "end" ∷ [] } ∷ []) ≡ Ok tt
unfolding last_at end_at no_line_at
last_steps end n = refl

sheet_steps : (end : ℕ) (operations : List Operation) (l0 l1 l2 l3 : List Line) (first : Line) (op : Operation) (loop : LoopLines) (round : RoundLines) → next_line_at end l0 ≡ Ok (first, l1) → operation_at operations first ≡ Ok op
    → loop_at end op.dims l1 ≡ Ok (loop, l2) → round_at end op.dims l2 ≡ Ok (round, l3) → last_at end l3 ≡ Ok tt
    → sheet_at end operations l0 ≡ Ok (record {
      operation = op.name;
      split = loop.along.split;
      dirs = loop.along.dirs;
      invariant = loop.invariant;
      guard = loop.guard;
      start = loop.start;
      take = loop.take;
      before = round.before;
      updates = round.updates;
      give = round.give;
      after = round.after;
    })
unfolding sheet_at
sheet_steps end operations l0 l1 l2 l3 first op loop round a b c d e = rw (a, b, c, d, e) refl

-- ---- where lines of one kind end

begins_words : (word : List ℕ) (lines : List Line) (first : Words) (others : List Words) → words_of lines ≡ first ∷ others → begins_with word first ≡ false → begins word lines ≡ false
begins_words word [] first others same other = refl
begins_words word (line ∷ lines) first others same other = let is : line.words ≡ first = cc in ap (begins_with word) is ∙ other

-- behind the states before
updates_or_give : (w : List Task) (lines : List Line) (give : Words) (others : List Words) → words_of lines ≡ map update_words w ++ ((codes "give" ∷ give) ∷ others) → (begins (codes "before") lines ≡ false) × (0 < length lines)
updates_or_give [] lines give others same = (begins_words (codes "before") lines (codes "give" ∷ give) others same refl, some_lines lines (codes "give" ∷ give) others same)
updates_or_give (a ∷ w) lines give others same =
    let behind = map update_words w ++ ((codes "give" ∷ give) ∷ others) in
    (begins_words (codes "before") lines (update_words a) behind same refl, some_lines lines (update_words a) behind same)

-- some line stands behind `give`
behind_give : (states : List State) (others : List Words) → (next : Words) × (behind : List Words) × (map (state_words (codes "after")) states ++ ((codes "end" ∷ []) ∷ others) ≡ next ∷ behind)
behind_give [] others = (codes "end" ∷ [], others, refl)
behind_give (s ∷ states) others = (state_words (codes "after") s, map (state_words (codes "after")) states ++ ((codes "end" ∷ []) ∷ others), refl)

-- and behind `take`
behind_take : (op : Operation) (w : Worksheet) (states : List State) (updates : List Task) → (next : Words) × (behind : List Words) × (map (state_words (codes "before")) states ++ (map update_words updates ++ last_lines op w) ≡ next ∷ behind)
behind_take op w (s ∷ states) updates = (state_words (codes "before") s, map (state_words (codes "before")) states ++ (map update_words updates ++ last_lines op w), refl)
behind_take op w [] (a ∷ updates) = (update_words a, map update_words updates ++ last_lines op w, refl)
behind_take op w [] [] = (codes "give" ∷ ends_words op w.give, map (state_words (codes "after")) w.after ++ ((codes "end" ∷ []) ∷ []), refl)

-- ---- all lines

module _ (end : ℕ) (op : Operation) (w : Worksheet) (valid : IsValid op) (names : HasNames op) (is : IsPrintable op w) where
  states_read : (word : List ℕ) (states : List State) (lines rest : List Line) → bytes_eq word word ≡ true → words_of lines ≡ map (state_words word) states → All IsPartState states → AreLines end (lines ++ rest) → 0 < length rest
      → begins word rest ≡ false → states_at end word (lines ++ rest) ≡ Ok (states, rest)
  states_read word states lines rest same_word same all are some other =
      each_again end word (state_at end) (state_words word) IsPartState (λ s. same_word) (λ n s inside part. state_again end n word s inside part) [] states lines rest same all are some other

  updates_read : (lines rest : List Line) → words_of lines ≡ map update_words w.updates → AreLines end (lines ++ rest) → 0 < length rest → begins (codes "update") rest ≡ false → updates_at end (lines ++ rest) ≡ Ok (w.updates, rest)
  updates_read lines rest same are some other =
      each_again end (codes "update") (update_at end) update_words IsPartTask (λ a. refl) (λ n a inside part. update_again end n a inside part) [] w.updates lines rest same is.updates are some other

  ends_read : (word : List ℕ) (ends : List End) (lines : List Line) (others : List Words) → AreEnds op ends → (d : IsDue end lines (word ∷ ends_words op ends) others) → ends_line_at end op.dims word lines ≡ Ok (ends, d.behind)
  ends_read word ends lines others are d =
      ends_steps end op.dims word lines d.behind d.line ends d.next (ap (ends_at op.dims word) d.same ∙ ends_again op valid.dims.once names.dims d.line.number word ends are)

  -- the one line that is left
  last_read : (lines : List Line) → words_of lines ≡ (codes "end" ∷ []) ∷ [] → last_at end lines ≡ Ok tt
  last_read lines same =
      let head = map_cons (λ (l : Line). l.words) lines (codes "end" ∷ []) [] same in
      let none = map_nil (λ (l : Line). l.words) head.1 head.4 in
      let all : lines ≡ record { number = head.0.number; words = codes "end" ∷ [] } ∷ [] = head.2 ∙ ap (λ (ls : List Line). head.0 ∷ ls) none ∙ ap (λ (l : Line). l ∷ []) (with_words head.0 (codes "end" ∷ []) head.3) in
      ap (last_at end) all ∙ last_steps end head.0.number

  -- the states after, and `end`
  after_read : (lines : List Line) → AreLines end lines → words_of lines ≡ map (state_words (codes "after")) w.after ++ ((codes "end" ∷ []) ∷ []) → (rest : List Line) × (states_at end (codes "after") lines ≡ Ok (w.after, rest)) × (last_at end rest ≡ Ok tt)
  after_read lines are same =
      let parts = map_append (λ (l : Line). l.words) lines (map (state_words (codes "after")) w.after) ((codes "end" ∷ []) ∷ []) same in
      (parts.1, from_parts lines parts.0 parts.1 are parts.2 parts.3 parts.4, last_read parts.1 parts.4)
    where
      from_parts : (lines own rest : List Line) → AreLines end lines → lines ≡ own ++ rest → words_of own ≡ map (state_words (codes "after")) w.after → words_of rest ≡ (codes "end" ∷ []) ∷ [] → states_at end (codes "after") lines ≡ Ok (w.after, rest)
      from_parts lines own rest are parts own_words rest_words =
          ap (states_at end (codes "after")) parts
          ∙ states_read (codes "after") w.after own rest refl own_words is.after (subst (AreLines end) parts are) (some_lines rest _ _ rest_words) (begins_words (codes "after") rest _ _ rest_words refl)

  -- `give` before them
  abbrev Given : List Line → Type 0
  Given lines = (middle rest : List Line) × (ends_line_at end op.dims (codes "give") lines ≡ Ok (w.give, middle)) × (states_at end (codes "after") middle ≡ Ok (w.after, rest)) × (last_at end rest ≡ Ok tt)

  give_read : (lines : List Line) → AreLines end lines → words_of lines ≡ last_lines op w → Given lines
  give_read lines are same =
      let give = due_some end lines (codes "give" ∷ ends_words op w.give) (map (state_words (codes "after")) w.after ++ ((codes "end" ∷ []) ∷ [])) (behind_give w.after []) are same in
      let after = after_read give.behind give.in_order give.left in
      (give.behind, after.0, ends_read (codes "give") w.give lines _ is.give give, after.1, after.2)

  -- the updates before it
  abbrev Updated : List Line → Type 0
  Updated lines = (middle : List Line) × (updates_at end lines ≡ Ok (w.updates, middle)) × Given middle

  updated : (lines own rest : List Line) → AreLines end lines → lines ≡ own ++ rest → words_of own ≡ map update_words w.updates → words_of rest ≡ last_lines op w → Updated lines
  updated lines own rest are parts own_words rest_words =
      let there = subst (AreLines end) parts are in
      (rest, ap (updates_at end) parts ∙ updates_read own rest own_words there (some_lines rest _ _ rest_words) (begins_words (codes "update") rest _ _ rest_words refl), give_read rest (AreLines-behind own rest there) rest_words)

  -- what is left behind a round
  abbrev Ended : List Line → Type 0
  Ended lines = (rest : List Line) × (round_at end op.dims lines ≡ Ok (record { before = w.before; updates = w.updates; give = w.give; after = w.after }, rest)) × (last_at end rest ≡ Ok tt)

  ended : (lines own rest : List Line) → AreLines end lines → lines ≡ own ++ rest → words_of own ≡ map (state_words (codes "before")) w.before → words_of rest ≡ map update_words w.updates ++ last_lines op w → Ended lines
  ended lines own rest are parts own_words rest_words =
      let there = subst (AreLines end) parts are in
      let kind = updates_or_give w.updates rest (ends_words op w.give) (map (state_words (codes "after")) w.after ++ ((codes "end" ∷ []) ∷ [])) rest_words in
      let before = ap (states_at end (codes "before")) parts ∙ states_read (codes "before") w.before own rest refl own_words is.before there kind.1 kind.0 in
      let split = map_append (λ (l : Line). l.words) rest (map update_words w.updates) (last_lines op w) rest_words in
      let others = updated rest split.0 split.1 (AreLines-behind own rest there) split.2 split.3 split.4 in
      let given = others.2 in
      (given.1, round_steps end op.dims lines rest others.0 given.0 given.1 w.before w.after w.updates w.give before others.1 given.2 given.3, given.4)

  round_read : (lines : List Line) → AreLines end lines → words_of lines ≡ lines_of_round op w → Ended lines
  round_read lines are same =
      let split = map_append (λ (l : Line). l.words) lines (map (state_words (codes "before")) w.before) (map update_words w.updates ++ last_lines op w) same in ended lines split.0 split.1 are split.2 split.3 split.4

  -- what is left behind a loop, up to `take`
  abbrev Looped : List Line → Type 0
  Looped lines = (rest : List Line)
      × (loop_at end op.dims lines ≡ Ok (record { along = record { split = w.split; dirs = w.dirs }; invariant = w.invariant; guard = w.guard; start = w.start; take = w.take }, rest))
      × AreLines end rest × (words_of rest ≡ lines_of_round op w)

  split_read : (line : Line) → line ≡ record { number = line.number; words = split_words op w } → split_at op.dims line ≡ Ok (record { split = w.split; dirs = w.dirs })
  split_read line same = ap (split_at op.dims) same ∙ split_again op valid.dims.once names.dims line.number w.split.first w.split.second w.dirs.first w.dirs.second is.split is.single

  kept_read : (line : Line) → line ≡ record { number = line.number; words = codes "invariant" ∷ tasks_words w.invariant } → invariant_at line ≡ Ok w.invariant
  kept_read line same = ap invariant_at same ∙ invariant_again line.number w.invariant is.invariant

  guard_read : (line : Line) → line ≡ record { number = line.number; words = codes "guard" ∷ map (dim_name op) w.guard } → guard_at op.dims line ≡ Ok w.guard
  guard_read line same = ap (guard_at op.dims) same ∙ guard_again op valid.dims.once names.dims line.number w.guard is.few is.guard

  loop_read : (lines : List Line) → AreLines end lines
      → words_of lines ≡ split_words op w ∷ (codes "invariant" ∷ tasks_words w.invariant) ∷ (codes "guard" ∷ map (dim_name op) w.guard) ∷ (codes "start" ∷ ends_words op w.start) ∷ (codes "take" ∷ ends_words op w.take) ∷ lines_of_round op w
      → Looped lines
  loop_read lines are same =
      let l1 = due end lines _ _ _ are same in
      let l2 = due end l1.behind _ _ _ l1.in_order l1.left in
      let l3 = due end l2.behind _ _ _ l2.in_order l2.left in
      let l4 = due end l3.behind _ _ _ l3.in_order l3.left in
      let l5 = due_some end l4.behind _ _ (behind_take op w w.before w.updates) l4.in_order l4.left in
      let split = split_read l1.line l1.same in
      let kept = kept_read l2.line l2.same in
      let guard = guard_read l3.line l3.same in (
        l5.behind,
        loop_steps end op.dims lines l1.behind l2.behind l3.behind l4.behind l5.behind l1.line l2.line l3.line (record { split = w.split; dirs = w.dirs }) w.invariant w.guard w.start w.take l1.next split l2.next kept l3.next guard
            (ends_read (codes "start") w.start l3.behind _ is.start l4) (ends_read (codes "take") w.take l4.behind _ is.take l5),
        l5.in_order,
        l5.left,
      )

  pub lines_again : (operations : List Operation) (lines : List Line) → operation_named operations op.name ≡ Some op → AreLines end lines → words_of lines ≡ sheet_lines op w → sheet_at end operations lines ≡ Ok w
  lines_again operations lines found are same =
      let l0 = due end lines _ _ _ are same in
      let loop = loop_read l0.behind l0.in_order l0.left in
      let round = round_read loop.0 loop.2 loop.3 in
      let first = ap (operation_at operations) l0.same ∙ ap (λ (name : List ℕ). operation_at operations (record { number = l0.line.number; words = codes "worksheet" ∷ name ∷ [] })) is.operation
      ∙ first_again operations l0.line.number op names found in
      sheet_steps end operations lines l0.behind loop.0 round.0 l0.line op _ _ l0.next first loop.1 round.1 round.2
      ∙ ap (λ (name : List ℕ). Ok (record w { operation = name })) (sym is.operation)

-- ---- a text

pub spelled_sheet_is_read : (bytes : List ℕ) (rest : Rest) (operations : List Operation) (op : Operation) (w : Worksheet) → operation_named operations op.name ≡ Some op → SpellsSheet bytes rest op w → worksheet_in bytes rest operations ≡ Ok w
spelled_sheet_is_read bytes rest operations op w found spells =
    let here = drop rest.at bytes in
    let in_order = AreLines-from_tokens rest.line here spells.tokens (AreTokens-scanned rest.line here spells.tokens spells.scanned) in
    ap (sheet_of rest.line here operations) spells.scanned ∙ lines_again (end_line_of rest.line here) op w spells.valid spells.names spells.printable operations (lines_of here spells.tokens) found in_order spells.text

-- two worksheets of one operation
pub one_sheet : (bytes : List ℕ) (rest : Rest) (op : Operation) (w other : Worksheet) → SpellsSheet bytes rest op w → SpellsSheet bytes rest op other → w ≡ other
one_sheet bytes rest op w other spells also =
    let found : operation_named (op ∷ []) op.name ≡ Some op = rw (bytes_eq-same op.name) refl in
    same_ok w other (sym (spelled_sheet_is_read bytes rest (op ∷ []) op w found spells) ∙ spelled_sheet_is_read bytes rest (op ∷ []) op other found also)

-- a text with a fault
pub no_sheet : (bytes : List ℕ) (rest : Rest) (operations : List Operation) (op : Operation) (w : Worksheet) (fault : SheetFault) → operation_named operations op.name ≡ Some op → worksheet_in bytes rest operations ≡ Err fault → SpellsSheet bytes rest op w → ⊥
no_sheet bytes rest operations op w fault found refused spells =
    let both : ◌≡◌ {A = Result Worksheet SheetFault} (Err fault) (Ok w) = sym refused ∙ spelled_sheet_is_read bytes rest operations op w found spells in absurd cc

-- the name on the first line
abbrev name_of : List Words → List ℕ
name_of [] = []
name_of (first ∷ others) = nth_word first 1

pub one_name : (bytes : List ℕ) (rest : Rest) (op p : Operation) (w other : Worksheet) → SpellsSheet bytes rest op w → SpellsSheet bytes rest p other → op.name ≡ p.name
one_name bytes rest op p w other spells also =
    let tokens : spells.tokens ≡ also.tokens = same_ok spells.tokens also.tokens (sym spells.scanned ∙ also.scanned) in
    let lines : sheet_lines op w ≡ sheet_lines p other = sym spells.text ∙ ap (λ (ts : List Token). words_of (lines_of (drop rest.at bytes) ts)) tokens ∙ also.text in
    let named : w.operation ≡ other.operation = ap name_of lines in
    sym spells.printable.operation ∙ named ∙ also.printable.operation
