use Rattle.std.proofs.Common.{◌≡◌, ℕ, ◌+◌, ◌*◌, ◌<◌, inl, inr, subst, ◌∙◌, arith}
use Rattle.residue_sums.specs.Grids.{entry}
use Rattle.matrix_algebra.proofs.Triangles.{IsTriangle-view, structure_of}
use Rattle.matrix_algebra.proofs.Places.{IsOrder-order_of}
use Rattle.matrix_parts.specs.Opers.{op_rows, op_table}
use Rattle.matrix_parts.specs.Lent.{grid_of}
use Rattle.matrix_parts.proofs.Kept.{IsKept-then}
use Rattle.part_solves.specs.LineSystems.{order_in}
use Rattle.part_solves.specs.SylvesterSystems.{IsSylvesterTo}
use Rattle.part_solves.proofs.SylvesterSteps.{all_written}
use Rattle.part_solves.proofs.sylvester.SylvesterSystem.solve_plainly.Goals as goal

pub loop-r-preserved : goal.loop-r-preserved
loop-r-preserved c =
    let so_far = c.loop-r.invariant in
    let step = c.solve_row.ensures in
    let size : ℕ = op_rows c.args.self.now.rows.table in
    let next : c.loop-r.r * size + size ≡ (c.loop-r.r + 1) * size = omega arith in
    record {
      loan = step.loan ∙ so_far.loan;
      part = step.part;
      kept = IsKept-then c.args.w.now c.loop-r.w c.solve_row.new.w so_far.kept step.kept;
      solved = subst (λ (q : ℕ). IsSylvesterTo c.args.self.now (entry (grid_of c.args.w.now)) (entry (grid_of c.solve_row.new.w)) q) next
          ((rw c.equation_at.ensures.place at step.solved) (entry (grid_of c.args.w.now)) so_far.solved);
      residues = λ a b row col. step.residues a b (omega (arith, so_far.kept.rows)) (omega (arith, so_far.kept.cols));
    }

pub returns-clause-solved : goal.returns-clause-solved
returns-clause-solved c =
    let system = c.args.self.now in
    let t = system.columns.table in
    let u = system.rows.table in
    let so_far = c.loop-r.invariant in
    let all : c.loop-r.r ≡ op_rows t = omega (arith, c.size-r-end.ensures) in
    record {
      solved = λ i j row col from to. all_written system.columns.reducer (op_rows t) (op_rows u) system.negative (op_table t) (op_table u) (order_in t) (order_in u)
          (IsTriangle-view t.primed t.structure (op_rows t) (entry t.part) c.requires.ready.columns.triangular)
          (IsTriangle-view u.primed u.structure (op_rows u) (entry u.part) c.requires.ready.rows.triangular)
          (IsOrder-order_of (structure_of t.primed t.structure) (op_rows t)) (IsOrder-order_of (structure_of u.primed u.structure) (op_rows u))
          (entry (grid_of c.args.w.now)) (entry (grid_of c.loop-r.w)) (rw all at so_far.solved) i j row col;
      others = λ i j row col place. absurd (elim place [
        | inl none ↦ omega arith
        | inr past ↦ (let placed : order_in u j < op_rows u = (IsOrder-order_of (structure_of u.primed u.structure) (op_rows u)).below j col in omega arith)
      ]);
      residues = so_far.residues;
    }
