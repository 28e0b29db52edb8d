-- In each form a block has a value of its expression exactly where the equation of the whole holds on it; and all blocks together.
use Rattle.std.proofs.Common.{◌≡◌, ℕ, ◌<◌, List, true, refl, sym, ◌∙◌, subst}
use Rattle.std.specs.Prelude.{◌↔◌}
use Rattle.operation_spec.specs.declared.operation.Form.{Form}
use Rattle.operation_spec.specs.declared.operation.Form.TheVariants as forms
use Rattle.equation.specs.Equations.{Satisfies}
use Rattle.equation.proofs.ValidForms.{lu-general, ldl-lower}
use Rattle.task_graph.specs.Tasks.{is_work_block}
use Rattle.task_graph.proofs.WorkBlocks.{lower-block}
use Rattle.block_values.specs.Values.{Setting}
use Rattle.block_values.specs.States.{full_tree}
use Rattle.block_values.specs.Settings.{IsSetting}
use Rattle.block_values.specs.PartitionedEquations.{HasBlock, EquationHolds, HaveValues, KeepsOthers}
use Rattle.block_values.proofs.Fitting.{IsFitting-setting, left_fits, right_fits, sylvester_fit, ldl_square}
use Rattle.block_values.proofs.Assigned.{assigned_block}
use Rattle.block_values.proofs.LeftSolved.{left_block}
use Rattle.block_values.proofs.RightSolved.{right_block}
use Rattle.block_values.proofs.SylvesterSolved.{sylvester_block}
use Rattle.block_values.proofs.LuBlocks.{lu_block}
use Rattle.block_values.proofs.LdlBlocks.{ldl_block}
use Rattle.block_values.proofs.Partitioned.{WholeHolds, blocks_are_whole}

module _ (s : Setting) (counts : List ℕ) (is : IsSetting s counts) where
  pub each_block : (i j : ℕ) → is_work_block s.op counts i j ≡ true → HasBlock s i j (full_tree s.op counts i j) ↔ EquationHolds s i j
  each_block i j work = go s.op.form refl
    where
      go : (form : Form) → s.op.form ≡ form → HasBlock s i j (full_tree s.op counts i j) ↔ EquationHolds s i j
      go forms.Assign form = assigned_block s is.lengths counts (IsFitting-setting s counts is) form i j work
      go (forms.Left t) form = left_block s is.lengths counts (IsFitting-setting s counts is) t form (left_fits s counts is t form) i j work
      go (forms.Right t) form = right_block s is.lengths counts (IsFitting-setting s counts is) t form (right_fits s counts is t form) i j work
      go (forms.Sylvester t u negative) form =
          let fit = sylvester_fit s counts is t u negative form in
          sylvester_block s is.lengths counts (IsFitting-setting s counts is) t u negative form fit.0 fit.1 i j work
      go forms.Lu form =
          let general = lu-general s.op is.valid form in
          lu_block s is.lengths counts (IsFitting-setting s counts is) form general.0 general.1 i j work
      go forms.Ldl form =
          let lower = ldl-lower s.op is.valid form in
          ldl_block s is.lengths counts (IsFitting-setting s counts is) form lower (ldl_square s counts is form) i j work (lower-block s.op counts i j lower work)

  -- all blocks and the entries outside, and the whole
  pub HaveValues-whole : HaveValues s counts × KeepsOthers s ↔ Satisfies s.modulus s.op s.knowns s.work s.solution
  HaveValues-whole = (
    λ both. record {
      rows = is.solution.rows ∙ sym is.work.rows;
      cols = is.solution.cols ∙ sym is.work.cols;
      full = is.solution_full;
      residues = is.solution_residues;
      equation = λ r c row col inside. (whole.0 both.0) r c (subst (λ n. r < n) is.work.rows row) (subst (λ n. c < n) is.work.cols col) inside;
      others = both.1;
    },
    λ satisfies. (
      whole.1 (λ r c row col inside. satisfies.equation r c (subst (λ n. r < n) (sym is.work.rows) row) (subst (λ n. c < n) (sym is.work.cols) col) inside),
      satisfies.others,
    ),
  )
    where
      whole : HaveValues s counts ↔ WholeHolds s is.lengths counts (IsFitting-setting s counts is) each_block
      whole = blocks_are_whole s is.lengths counts (IsFitting-setting s counts is) each_block
