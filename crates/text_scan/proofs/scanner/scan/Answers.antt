use Rattle.std.proofs.Common.{◌+◌, arith, refl, get_or, drop, sym, ap, ◌∙◌, length-drop}
use Rattle.std.proofs.lemmas.List.{take_rest}
use Rattle.std.proofs.lemmas.Result.{err_from_is_err_and}
use Rattle.text_scan.specs.Tokens.{with_found, tokens_from, line_behind}
use Rattle.byte_texts.proofs.Binding.{EndsWith-along}
use Rattle.text_scan.proofs.Steps.{at_piece, all_found}
use Rattle.text_scan.proofs.scanner.scan.Goals as goal

pub returns-in_err-keep : goal.returns-in_err-keep
returns-in_err-keep c =
    let bytes = c.args.bytes.now in
    let at = c.loop-at.at in
    let first = get_or bytes at 0 in
    let len = c.piece_len-len.result in
    let rest = tokens_from 0 (at + len) (line_behind first c.loop-at.line) (drop (at + len) bytes) in
    let step = at_piece at c.loop-at.line bytes first len c.loop-at-test.true refl (rw c.front-front.ensures at (simp take_rest at c.piece_len-len.ensures.value)) in
    let p = err_from_is_err_and c.from_residual.result c.from_residual.ensures.1 in
    rw (p.1, p.2) (EndsWith-along _ _ _ (sym c.loop-at.invariant.so_far ∙ ap (with_found c.loop-at.found.items) step) (rw c.front-front.ensures at (c.in_err-keep.ensures.err rest)))

pub loop-at-preserved : goal.loop-at-preserved
loop-at-preserved c =
    let bytes = c.args.bytes.now in
    let at = c.loop-at.at in
    let first = get_or bytes at 0 in
    let len = c.piece_len-len.result in
    let rest = tokens_from 0 (at + len) (line_behind first c.loop-at.line) (drop (at + len) bytes) in
    let step = at_piece at c.loop-at.line bytes first len c.loop-at-test.true refl (rw c.front-front.ensures at (simp take_rest at c.piece_len-len.ensures.value)) in
    record {
      in_range = omega (arith, c.piece_len-len.ensures.within, length-drop c.loop-at.at bytes);
      line_low = omega (arith, c.next_line-line.ensures.low, c.piece_len-len.ensures.value);
      so_far = rw c.next_line-line.ensures.value (sym (rw c.front-front.ensures at (c.in_ok-keep.ensures.ok rest)) ∙ sym (ap (with_found c.loop-at.found.items) step) ∙ c.loop-at.invariant.so_far);
    }

pub returns : goal.returns
returns c = sym (sym (all_found c.loop-at.found.items c.loop-at.at c.loop-at.line c.args.bytes.now (omega arith)) ∙ c.loop-at.invariant.so_far)
