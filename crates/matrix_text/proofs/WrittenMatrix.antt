-- The pieces of a matrix's text, written one after another.
use Rattle.std.proofs.Common.{◌≡◌, ℕ, List, [], ◌∷◌, ◌++◌, append_assoc, sym, ap, ◌∙◌}
use Rattle.std.specs.Prelude.{codes}
use Rattle.std.specs.Fmt.{decimal}
use Rattle.residue_sums.specs.Grids.{Grid, IsFull}
use Rattle.matrix_text.specs.MatrixTexts.{entry_lines, matrix_text}
use Rattle.matrix_text.proofs.EntryTexts.{matrix_text-entry_lines}

pub written_matrix : (name o0 o1 o2 o3 o4 o5 o6 o7 : List ℕ) (g : Grid)
    → o1 ≡ o0 ++ codes "matrix " → o2 ≡ o1 ++ name → o3 ≡ o2 ++ 32 ∷ [] → o4 ≡ o3 ++ decimal g.rows ++ 32 ∷ [] → o5 ≡ o4 ++ decimal g.cols ++ 10 ∷ [] → o6 ≡ o5 ++ entry_lines g.cols g.entries → o7 ≡ o6 ++ codes "end\n"
    → IsFull g → o7 ≡ o0 ++ matrix_text name g
written_matrix name o0 o1 o2 o3 o4 o5 o6 o7 g e1 e2 e3 e4 e5 e6 e7 full =
    let pieces : o7 ≡ o0 ++ (codes "matrix " ++ name ++ codes " " ++ decimal g.rows ++ codes " " ++ decimal g.cols ++ codes "\n" ++ entry_lines g.cols g.entries ++ codes "end\n") = rw (e7, e6, e5, e4, e3, e2, e1) (simp append_assoc) in
    pieces ∙ ap (λ (t : List ℕ). o0 ++ t) (sym (matrix_text-entry_lines name g full))
