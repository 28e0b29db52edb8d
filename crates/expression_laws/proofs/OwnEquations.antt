-- Each equation that is listed is that of a block of W's structure, and stands for it.
use Rattle.std.proofs.Common.{◌≡◌, ℕ, zero, suc, List, [], ◌∷◌, Bool, true, false, if◌then◌else◌, refl, All}
use Rattle.std.proofs.lemmas.List.Elements.{All-append, All-nil, All-cons, All-map}
use Rattle.equation.specs.declared.job.Place.{Place}
use Rattle.task_graph.specs.Tasks.{parts_of, is_work_block}
use Rattle.block_values.specs.Values.{Setting}
use Rattle.block_values.specs.Settings.{IsSetting}
use Rattle.block_expr.specs.Places.{each_below, place_at, if_work_block, row_places, work_places}
use Rattle.block_expr.specs.Expanded.{expanded, expanded_block}
use Rattle.expression_laws.specs.OwnBlocks.{IsEquationOfItsBlock}
use Rattle.expression_laws.proofs.OwnBlocks.{of-left, of-right}

All-each : {X : Type 0} (P : X → Type 0) (f : ℕ → List X) → ((k : ℕ) → All P (f k)) → (n : ℕ) → All P (each_below f n)
All-each P f each zero = All-nil P
All-each P f each (suc n) = All-append P (each_below f n) (f n) (All-each P f each n) (each n)

module _ (s : Setting) (counts : List ℕ) (is : IsSetting s counts) where
  abbrev IsOwn : Place → Type 0
  IsOwn at = IsEquationOfItsBlock s counts (expanded_block s.op counts at)

  own-if_block : (i j : ℕ) → All IsOwn (if_work_block s.op counts i j)
  own-if_block i j = go (is_work_block s.op counts i j) refl
    where
      go : (b : Bool) → is_work_block s.op counts i j ≡ b → All IsOwn (if b then place_at i j ∷ [] else [])
      go true work = All-cons IsOwn (place_at i j) [] (record { work = work; left = of-left s counts is i j work; right = of-right s counts i j }) (All-nil IsOwn)
      go false work = All-nil IsOwn

  pub of-equations : All (IsEquationOfItsBlock s counts) (expanded s.op counts)
  of-equations = All-map (IsEquationOfItsBlock s counts) (expanded_block s.op counts) (work_places s.op counts)
      (All-each IsOwn (row_places s.op counts) (λ i. All-each IsOwn (if_work_block s.op counts i) (own-if_block i) (parts_of counts s.op.work.cols)) (parts_of counts s.op.work.rows))
