use Rattle.std.proofs.Common.{◌≡◌, Bor, List, ℕ, length, arith}
use Rattle.std.proofs.lemmas.List.{length-map}
use Rattle.command_words.proofs.VariantWords.{bad_piece, read_all, read_more, read_none, text_at, texts}
use Rattle.command_words.proofs.numbers.variants_in.Goals as goal

-- the pieces as lists of bytes are as many as the pieces
count : (items : List (Bor (List ℕ))) → length (texts items) ≡ length items
count items = length-map items (λ (x : Bor (List ℕ)). x.now)

pub loop-piece-init : goal.loop-piece-init
loop-piece-init c =
    rw (c.deref-piece-items.ensures.value, c.new-numbers.ensures) (read_none c.args.word.now (texts c.in_ok-pieces.field-0.items) c.in_ok-pieces.ensures)

pub returns-in-None : goal.returns-in-None
returns-in-None c =
    let items = c.deref-piece-items.result.now in
    let k = c.loop-piece.piece-index in
    bad_piece c.args.word.now (texts items) k _ c.loop-piece.invariant.of_word (omega (arith, c.loop-piece-test.true, count items)) (text_at items k _ c.loop-piece-test.true) c.in-None.ensures

pub loop-piece-preserved : goal.loop-piece-preserved
loop-piece-preserved c =
    let items = c.deref-piece-items.result.now in
    let k = c.loop-piece.piece-index in
    let number = c.in-Some.ensures in
    rw c.in_ok-push-in-Some.ensures.ok (read_more c.args.word.now (texts items) k c.loop-piece.numbers _ c.in-Some.number c.loop-piece.invariant
    (omega (arith, c.loop-piece-test.true, count items)) (text_at items k _ c.loop-piece-test.true) number.2 number.0 (omega (arith, number.1)))

pub returns : goal.returns
returns c =
    let items = c.deref-piece-items.result.now in
    read_all c.args.word.now (texts items) c.loop-piece.piece-index c.loop-piece.numbers c.loop-piece.invariant (omega (arith, c.loop-piece-test.false, count items))
