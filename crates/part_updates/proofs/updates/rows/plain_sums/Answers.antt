use Rattle.std.proofs.Common.{◌≡◌, ℕ, ◌+◌, ◌<◌, ◌≤◌, ◌⊎◌, inl, inr, List, length, get_or, ◌∙◌, ap, arith}
use Rattle.residue_sums.specs.Tables.{Table}
use Rattle.matrix_parts.specs.Opers.{op_table}
use Rattle.part_updates.proofs.PanelSums.{sums_by_row}
use Rattle.part_updates.proofs.updates.rows.plain_sums.Goals as goal

-- a row that is multiplied from its first number on
from_start : (a : Table) (i inner height from n : ℕ) (line : List ℕ) → from ≡ 0 → n ≡ height → ((k : ℕ) → k < height → get_or line k 0 ≡ a i (inner + k))
    → (k : ℕ) → k < n → get_or line k 0 ≡ a i (inner + (from + k))
from_start a i inner height from n line start all entries k below = entries k (omega arith) ∙ ap (λ (q : ℕ). a i q) (omega arith)

-- no column is beside it
none_beside : (height from n k : ℕ) → from ≡ 0 → n ≡ height → k < height → (k < from) ⊎ (from + n ≤ k) → ⊥
none_beside height from n k start all below (inl before) = omega arith
none_beside height from n k start all below (inr behind) = omega arith

pub returns-clause-sums : goal.returns-clause-sums
returns-clause-sums c r j here col =
    let a = op_table c.args.a.now in
    let start = c.requires.tile.whole in
    let all = c.plain_row.ensures.len in
    let from_row = λ (i : ℕ) (line : List ℕ) (entries : (k : ℕ) → k < c.args.panel.height → get_or line k 0 ≡ a i (c.args.tile.inner + k)).
    from_start a i c.args.tile.inner c.args.panel.height c.args.panel.from (length c.plain_row.result.now) line start all entries in
    sums_by_row c.args.m a c.args.tile.row c.args.tile.inner c.args.panel.height c.args.tile.lines
    c.rows_from-count.result c.args.panel.from (length c.plain_row.result.now) c.plain_row.result.now c.plain_row-2.result.now c.plain_row-3.result.now
    c.three_row_sums.new.sums c.args.panel.entries.now (omega arith) (omega (arith, start, all))
    (λ s k row below beside. absurd (none_beside c.args.panel.height c.args.panel.from (length c.plain_row.result.now) k start all below beside))
    (from_row _ _ c.plain_row.ensures.entries)
    (from_row _ _ (rw c.min.ensures at c.plain_row-2.ensures.entries)) (from_row _ _ (rw c.min-2.ensures at c.plain_row-3.ensures.entries))
    c.three_row_sums.ensures.first c.three_row_sums.ensures.second c.three_row_sums.ensures.third r j (omega arith) col
