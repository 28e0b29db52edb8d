-- What a block of W holds when some of its tasks are done.
use Rattle.std.specs.Prelude.{ℕ, zero, suc, List, [], ◌∷◌, if◌then◌else◌}
use Rattle.residue_sums.specs.Tables.{Table, plus, transpose}
use Rattle.residue_sums.specs.Grids.{entry}
use Rattle.structure_rules.specs.declared.Structure.TheVariants as structures
use Rattle.structure_rules.specs.Structures.{view}
use Rattle.operation_spec.specs.declared.operation.Form.{Form}
use Rattle.operation_spec.specs.declared.operation.Form.TheVariants as forms
use Rattle.operation_spec.specs.declared.operation.Term.{Term}
use Rattle.operation_spec.specs.declared.task.Kind.{Kind}
use Rattle.operation_spec.specs.declared.task.Kind.TheVariants as kinds
use Rattle.operation_spec.specs.declared.task.Task.{Task}
use Rattle.equation.specs.Equations.{minus, factor_table, solution_table}
use Rattle.task_graph.specs.Factors.{factor_cols}
use Rattle.task_graph.specs.Needs.{is_solve}
use Rattle.block_values.specs.Cuts.{part, times_over}
use Rattle.block_values.specs.Values.{Setting}
use Rattle.block_values.specs.States.{task_minus}

abbrev pub zeros : Table
zeros r c = 0

-- op(F) * op(G) over part k of the inner dimension, of the term at a place of a list
abbrev pub held_term : Setting → List Term → ℕ → ℕ → Table
held_term s [] t k = zeros
held_term s (term ∷ terms) zero k = times_over s.modulus (part s.starts (factor_cols s.op term.first) k) (factor_table s.op s.knowns term.first) (factor_table s.op s.knowns term.second)
held_term s (term ∷ terms) (suc t) k = held_term s terms t k

abbrev pub held_numbered : Setting → ℕ → ℕ → Table
held_numbered s zero k = zeros
held_numbered s (suc t) k = held_term s s.op.terms t k

-- op(T) * X, L * U or L * D * L' over part k, where X, L, D and U are the solution's
abbrev pub held_left : Setting → Form → ℕ → Table
held_left s (forms.Left t) k = times_over s.modulus (part s.starts (factor_cols s.op t) k) (factor_table s.op s.knowns t) (solution_table s.op s.solution)
held_left s (forms.Sylvester t u negative) k = times_over s.modulus (part s.starts (factor_cols s.op t) k) (factor_table s.op s.knowns t) (solution_table s.op s.solution)
held_left s forms.Lu k = times_over s.modulus (part s.starts s.op.work.cols k) (view structures.UnitLower (entry s.solution)) (view structures.Upper (entry s.solution))
held_left s forms.Ldl k = times_over s.modulus (part s.starts s.op.work.cols k)
    (times_over s.modulus (part s.starts s.op.work.cols k) (view structures.UnitLower (entry s.solution)) (view structures.Diagonal (entry s.solution)))
    (transpose (view structures.UnitLower (entry s.solution)))
held_left s _ k = zeros

-- X * op(U) over part k
abbrev pub held_right : Setting → Form → ℕ → Table
held_right s (forms.Right t) k = times_over s.modulus (part s.starts s.op.work.cols k) (solution_table s.op s.solution) (factor_table s.op s.knowns t)
held_right s (forms.Sylvester t u negative) k = times_over s.modulus (part s.starts s.op.work.cols k) (solution_table s.op s.solution) (factor_table s.op s.knowns u)
held_right s _ k = zeros

-- the product of an update
abbrev pub held_product : Setting → Kind → ℕ → ℕ → Table
held_product s kinds.Term t k = held_numbered s t k
held_product s kinds.Left t k = held_left s s.op.form k
held_product s kinds.Right t k = held_right s s.op.form k
held_product s _ t k = zeros

-- a table with the products of the updates added or subtracted
abbrev pub with_products : Setting → List Task → Table → Table
with_products s [] a = a
with_products s (task ∷ tasks) a = with_products s tasks (
    if is_solve task.kind then a
    else (if task_minus s.op task.kind task.term then minus s.modulus a (held_product s task.kind task.term task.k) else plus s.modulus a (held_product s task.kind task.term task.k)))
