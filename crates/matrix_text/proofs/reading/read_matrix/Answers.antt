use Rattle.std.proofs.Common.{◌≡◌, ◌∙◌, ◌-◌, Ok, List, drop, length, sym, ap, arith}
use Rattle.std.proofs.lemmas.List.{take_rest}
use Rattle.text_scan.specs.Left.{Left}
use Rattle.text_scan.specs.Lines.{Line, end_line_of, lines_of}
use Rattle.text_scan.proofs.LinesLeft.{place_of_rest, words_within}
use Rattle.text_scan.proofs.ScannedTokens.{AreTokens-scanned}
use Rattle.text_scan.proofs.TokenParts.{AreTokens-drop}
use Rattle.matrix_text.proofs.reading.read_matrix.Goals as goal

pub new-lines-requires-clause-scanned : goal.new-lines-requires-clause-scanned
new-lines-requires-clause-scanned c =
    simp (take_rest, c.deref.ensures.value) (AreTokens-drop c.args.at (AreTokens-scanned 1 c.args.bytes.now c.args.tokens.now.items c.requires.scanned))

pub overflow_sub-result : goal.overflow_sub-result
overflow_sub-result c =
    let lines = simp (take_rest, c.deref.ensures.value) at c.new-lines.ensures in
    let spells = c.in_ok-name.ensures.found in
    omega (
      arith,
      words_within c.args.bytes.now c.args.tokens.now.items c.args.at spells.text.0 _ (sym (ap (λ (l : Left). l.lines) lines) ∙ spells.text.1),
      c.word_count.ensures,
      c.len.ensures,
      c.deref.ensures.len,
      ap length c.deref.ensures.value,
    )

-- the lines of the matrix are those of the tokens from the place on
lines_are : (c : goal.After-word_count) → c.new-lines.result ≡ record { end = end_line_of 1 c.args.bytes.now; lines = lines_of c.args.bytes.now (drop c.args.at c.args.tokens.now.items) }
lines_are c = simp (take_rest, c.deref.ensures.value) at c.new-lines.ensures

-- and those behind it are those of the tokens that are answered
rest_is : (c : goal.After-word_count) → lines_of c.args.bytes.now (drop (c.len.result - c.word_count.result) c.args.tokens.now.items) ≡ c.next_matrix.new.lines.lines
rest_is c =
    let spells = c.in_ok-name.ensures.found in
    let count : c.len.result ≡ length c.args.tokens.now.items = omega (arith, c.len.ensures, c.deref.ensures.len, ap length c.deref.ensures.value) in
    rw c.word_count.ensures (place_of_rest c.args.bytes.now c.args.tokens.now.items c.args.at c.len.result spells.text.0 _ count c.requires.place (sym (ap (λ (l : Left). l.lines) (lines_are c)) ∙ spells.text.1))

pub returns-clause-read : goal.returns-clause-read
returns-clause-read c =
    let read = rw (lines_are c) at c.in_ok-name.ensures.read in
    read ∙ ap (λ (lines : List Line). Ok (record { name = c.in_ok-name.name; grid = c.in_ok-name.matrix }, lines)) (sym (rest_is c))

pub returns-clause-found : goal.returns-clause-found
returns-clause-found c = rw (rest_is c) (rw (lines_are c) at c.in_ok-name.ensures.found)
