use Rattle.matrix_text.proofs.WrittenMatrix.{written_matrix}
use Rattle.matrix_text.proofs.writing.put_matrix.Goals as goal

pub returns : goal.returns
returns c =
    written_matrix c.args.name.now _ _ _ _ _ _ _ _ c.args.matrix.now
    c.in_ok-extend_from_slice.ensures.items (rw c.as_slice.ensures at c.in_ok-extend_from_slice-2.ensures.items) c.in_ok-push.ensures.items
    (rw c.rows.ensures.rows at c.in_ok-put_number.ensures) (rw c.cols.ensures.cols at c.in_ok-put_number-2.ensures)
    (rw (c.cols-2.ensures.cols, c.entries.ensures.entries) at c.in_ok-put_entries.ensures) c.in_ok-extend_from_slice-3.ensures.items c.rows.ensures.full
