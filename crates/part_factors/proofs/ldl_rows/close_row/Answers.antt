use Rattle.std.proofs.Common.{◌≡◌, ℕ, min, ◌+◌, ◌-◌, ◌*◌, ◌%◌, ◌<◌, inl, inr, ap₂, sym, subst, ◌∙◌, arith}
use Rattle.std.proofs.lemmas.Bool.{cases_eq}
use Rattle.residue_sums.specs.Grids.{entry}
use Rattle.part_factors.specs.declared.factoring.FactorKind.TheVariants.{Ldl}
use Rattle.matrix_parts.specs.Lent.{grid_of}
use Rattle.part_factors.specs.ColumnFactors.{IsRowFound}
use Rattle.part_factors.proofs.FoundColumns.{IsRowFound-none, IsRowFound-widened}
use Rattle.part_factors.proofs.ldl_rows.close_row.Goals as goal

pub returns-then-line-width-clause-found : goal.returns-then-line-width-clause-found
returns-then-line-width-clause-found c =
    let start : c.args.at.row ≡ min c.args.at.row (c.args.at.from + c.args.width) = omega (arith, c.requires.begun) in
    subst (λ (s : ℕ). IsRowFound c.args.m c.args.w.now.rows Ldl c.args.at.row s (c.args.at.from + c.args.width) (entry (grid_of c.args.w.now)) (entry (grid_of c.find_diagonal.new.w))) start
    (IsRowFound-widened c.args.m c.args.w.now.rows Ldl c.args.at.row c.args.at.row (c.args.at.from + c.args.width) (entry (grid_of c.args.w.now)) (entry (grid_of c.find_diagonal.new.w))
    (omega (arith, c.requires.begun)) (λ j above inside. inside above) c.find_diagonal.ensures.found)

pub returns-then-line-width-clause-scaled : goal.returns-then-line-width-clause-scaled
returns-then-line-width-clause-scaled c j k col up within =
    let row : c.args.at.row < c.args.w.now.rows = c.requires.row_in in
    let diagonal : entry (grid_of c.find_diagonal.new.w) k k ≡ entry (grid_of c.args.w.now) k k = c.find_diagonal.ensures.found.others k k (omega arith) (omega arith) (inl (λ e. omega arith)) in
    let lower : entry (grid_of c.find_diagonal.new.w) (c.args.at.from + j) k ≡ entry (grid_of c.args.w.now) (c.args.at.from + j) k =
    c.find_diagonal.ensures.found.others (c.args.at.from + j) k (omega arith) (omega arith) (inr (inl (omega arith))) in
    let kept : entry (grid_of c.args.w.now) k k * entry (grid_of c.args.w.now) (c.args.at.from + j) k % c.args.m ≡ entry (grid_of c.find_diagonal.new.w) k k * entry (grid_of c.find_diagonal.new.w) (c.args.at.from + j) k % c.args.m =
    sym (ap₂ (λ (a b : ℕ). a * b % c.args.m) diagonal lower) in
    elim (cases_eq (c.args.at.from + j) c.args.at.row) [
      | inr apart ↦ c.fill_line.ensures.others j k (omega (arith, c.requires.height)) (λ e. omega (arith, c.requires.begun)) ∙ c.requires.scaled j k col (omega arith) within ∙ kept
      | inl same ↦ (let line : c.args.at.row - c.args.at.from ≡ j = omega arith in
          let row_is : c.args.at.row ≡ c.args.at.from + j = omega arith in
          (rw (line, row_is) at (c.fill_line.ensures.here k (omega arith))) ∙ kept)
    ]

pub returns-else-line-width-clause-found : goal.returns-else-line-width-clause-found
returns-else-line-width-clause-found c =
    IsRowFound-none c.args.m c.args.w.now.rows Ldl c.args.at.row (min c.args.at.row (c.args.at.from + c.args.width)) (c.args.at.from + c.args.width) (entry (grid_of c.args.w.now)) (omega (arith, c.requires.begun))

pub returns-else-line-width-clause-scaled : goal.returns-else-line-width-clause-scaled
returns-else-line-width-clause-scaled c j k col up within = c.requires.scaled j k col (omega (arith, c.requires.begun)) within
