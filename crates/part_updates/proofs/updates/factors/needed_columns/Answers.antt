use Rattle.std.proofs.Common.{◌≡◌, ℕ, ◌+◌, ◌-◌, inl, inr, sym, ap, ◌∙◌, arith}
use Rattle.matrix_parts.specs.Opers.{op_table}
use Rattle.part_updates.proofs.updates.factors.needed_columns.Goals as goal

pub returns-clause-zero : goal.returns-clause-zero
returns-clause-zero c k j after before beside from_left below =
    let place : c.args.piece.inner + (k - c.args.piece.inner) ≡ k = omega (arith, after) in
    ap (λ (q : ℕ). op_table c.args.o.now j q) (sym place)
    ∙ c.span_of-span.ensures.zero j (k - c.args.piece.inner) from_left below (omega (arith, after, before))
    (elim beside [ inl early ↦ inl (omega (arith, after, early)) | inr late ↦ inr (omega (arith, after, late)) ])
