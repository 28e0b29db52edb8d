use Rattle.std.proofs.Common.{◌≡◌, ℕ, min, ◌+◌, ◌*◌, ◌%◌, ◌<◌, inl, length, take, length-take, ap₂, sym, ◌∙◌, arith}
use Rattle.residue_sums.specs.Grids.{entry}
use Rattle.part_factors.specs.declared.factoring.FactorKind.TheVariants.{Ldl}
use Rattle.matrix_parts.specs.Lent.{grid_of}
use Rattle.matrix_parts.proofs.Kept.{IsKept-then}
use Rattle.part_factors.specs.ColumnFactors.{IsRowFound}
use Rattle.part_factors.proofs.FoundColumns.{IsRowFound-join, IsRowFound-resized}
use Rattle.part_factors.proofs.ldl_rows.find_row.Goals as goal

pub close_row-requires-clause-scaled : goal.close_row-requires-clause-scaled
close_row-requires-clause-scaled c j k col up within =
    let row : c.args.at.row < c.args.w.now.rows = c.requires.row_in in
    let diagonal : entry (grid_of c.find_below.new.w) k k ≡ entry (grid_of c.args.w.now) k k = c.find_below.ensures.found.others k k (omega arith) (omega arith) (inl (λ e. omega arith)) in
    let lower : entry (grid_of c.find_below.new.w) (c.args.at.from + j) k ≡ entry (grid_of c.args.w.now) (c.args.at.from + j) k =
    c.find_below.ensures.found.others (c.args.at.from + j) k (omega arith) (omega arith) (inl (λ e. omega arith)) in
    c.requires.scaled j k (omega arith) up within ∙ sym (ap₂ (λ (a b : ℕ). a * b % c.args.m) diagonal lower)

pub returns-clause-found : goal.returns-clause-found
returns-clause-found c =
    let reach : length (take c.min-reach.result c.args.values.now) ≡ c.min-reach.result = simp length-take (omega (arith, c.min-reach.ensures)) in
    let mid : c.args.at.from + c.min-reach.result ≡ min c.args.at.row (c.args.at.from + length c.args.values.now) = omega (arith, c.min-reach.ensures, c.requires.begun) in
    let first : IsRowFound c.args.m c.args.w.now.rows Ldl c.args.at.row c.args.at.from (min c.args.at.row (c.args.at.from + length c.args.values.now)) (entry (grid_of c.args.w.now)) (entry (grid_of c.find_below.new.w)) =
    rw (reach, mid) at c.find_below.ensures.found in
    IsRowFound-join c.args.m c.args.w.now.rows Ldl c.args.at.row c.args.at.from (min c.args.at.row (c.args.at.from + length c.args.values.now)) (c.args.at.from + length c.args.values.now)
    (entry (grid_of c.args.w.now)) (entry (grid_of c.find_below.new.w)) (entry (grid_of c.close_row.new.w)) c.requires.row_in (omega (arith, c.requires.begun)) (omega arith) (omega (arith, c.requires.within, c.requires.square))
    first (IsRowFound-resized c.find_below.ensures.kept.rows c.close_row.ensures.found)

pub returns-clause-kept : goal.returns-clause-kept
returns-clause-kept c = IsKept-then _ _ _ c.find_below.ensures.kept c.close_row.ensures.kept
