-- The blocks that steps write and read, and edges between steps, in small jobs that were worked by hand.
use Rattle.std.proofs.Common.{◌≡◌, ℕ, List, [], ◌∷◌, map, true, false, inl, inr, refl, arith, codes}
use Rattle.std.specs.Prelude.{◌==◌, if◌then◌else◌}
use Rattle.std.proofs.lemmas.Bool.{false≢true}
use Rattle.residue_sums.specs.Grids.{Grid}
use Rattle.structure_rules.specs.declared.Structure.{Structure}
use Rattle.structure_rules.specs.declared.Structure.TheVariants.{Lower, UnitLower, Upper, UnitUpper, Diagonal}
use Rattle.operation_spec.specs.declared.operation.Operation.{Operation}
use Rattle.operation_spec.specs.declared.task.Task.{Task}
use Rattle.operation_spec.specs.declared.task.Kind.TheVariants as kinds
use Rattle.operation_spec.proofs.WorkedOperations.{operand, mul, lu, ldl, low, low_primed, low_right, prod, sqr, sym, syl, syl_lower}
use Rattle.task_graph.specs.Order.{task_of}
use Rattle.equation.specs.declared.job.Job.{Job}
use Rattle.equation.specs.declared.job.Statement.{Statement}
use Rattle.dependence_queue.specs.declared.access.Access.{Access}
use Rattle.dependence_queue.specs.Conflicts.{IsDirectEdge, IsFlowEdge, IsAntiEdge}
use Rattle.step_replays.specs.Accesses.{access_of, first_block, has_pivots}

abbrev grid : ℕ → ℕ → List ℕ → Grid
grid rows cols entries = record { rows = rows; cols = cols; entries = entries }

abbrev access : ℕ → List ℕ → Access
access write reads = record { write = write; reads = reads }

abbrev statement : ℕ → ℕ → List ℕ → Statement
statement operation work knowns = record { operation = operation; bind = record { work = work; knowns = knowns } }

abbrev job_of : List Operation → List Grid → List Statement → Job
job_of operations grids statements = record {
  modulus = 7;
  operations = operations;
  names = [];
  matrices = grids;
  statements = statements;
  prints = [];
}

abbrev pivots : Task
pivots = task_of kinds.Pivots 0 0 0 0

abbrev solve : ℕ → ℕ → Task
solve i j = task_of kinds.Solve 0 i j 0

abbrev left : ℕ → ℕ → ℕ → Task
left i j k = task_of kinds.Left 0 i j k

abbrev right : ℕ → ℕ → ℕ → Task
right i j k = task_of kinds.Right 0 i j k

abbrev product : ℕ → ℕ → ℕ → Task
product i j k = task_of kinds.Term 1 i j k

-- what statement s does, in blocks of one entry
abbrev uses : Job → ℕ → List Task → List Access
uses job s tasks = map (λ t. access_of job 1 s t) tasks

abbrev two : Grid
two = grid 2 2 (1 ∷ 0 ∷ 1 ∷ 2 ∷ [])

abbrev column : Grid
column = grid 2 1 (2 ∷ 4 ∷ [])

-- ---- pivot lists come behind all matrices: T has the blocks 0 to 3, U the block 4, W the blocks 5 and 6; the first statement has list 7, the
-- second none, since its T is unit lower, and the third list 8
module _ where
  abbrev ulow : Operation
  ulow = record {
    name = codes "ulow";
    dims = codes "n" ∷ codes "m" ∷ [];
    work = low.work;
    knowns = prod.knowns;
    form = low.form;
    terms = [];
  }

  abbrev listed : Job
  listed = job_of (low ∷ ulow ∷ syl ∷ []) (two ∷ grid 1 1 (1 ∷ []) ∷ column ∷ [])
      (statement 0 2 (0 ∷ []) ∷ statement 1 2 (0 ∷ []) ∷ statement 2 2 (0 ∷ 1 ∷ []) ∷ [])

  first : uses listed 1 (pivots ∷ solve 0 0 ∷ left 1 0 0 ∷ solve 1 0 ∷ [])
      ≡ access 7 (0 ∷ 3 ∷ []) ∷ access 5 (0 ∷ 7 ∷ []) ∷ access 6 (2 ∷ 5 ∷ []) ∷ access 6 (3 ∷ 7 ∷ []) ∷ []
  unfolding low prod syl
  first = refl

  second : uses listed 2 (solve 0 0 ∷ left 1 0 0 ∷ solve 1 0 ∷ []) ≡ access 5 (0 ∷ []) ∷ access 6 (2 ∷ 5 ∷ []) ∷ access 6 (3 ∷ []) ∷ []
  unfolding low prod syl
  second = refl

  third : uses listed 3 (pivots ∷ solve 0 0 ∷ left 1 0 0 ∷ solve 1 0 ∷ [])
      ≡ access 8 (0 ∷ 3 ∷ 4 ∷ []) ∷ access 5 (0 ∷ 4 ∷ 8 ∷ []) ∷ access 6 (2 ∷ 5 ∷ []) ∷ access 6 (3 ∷ 4 ∷ 8 ∷ []) ∷ []
  unfolding low prod syl
  third = refl

  -- a matrix behind another one, and the lists, which are zero: a row with a pivot of T each, and one with W's shape
  given : map (first_block listed 1) (2 ∷ 4 ∷ 6 ∷ 7 ∷ 8 ∷ [])
      ≡ grid 1 1 (1 ∷ []) ∷ grid 1 1 (1 ∷ []) ∷ grid 1 1 (4 ∷ []) ∷ grid 1 2 (0 ∷ 0 ∷ []) ∷ grid 2 1 (0 ∷ 0 ∷ []) ∷ []
  unfolding low prod syl
  given = refl

-- ---- the forms that test their pivots: a triangular factor on one side but where it is unit, and two factors always
module _ where
  solving : Structure → Operation
  solving s = record {
    name = codes "solve";
    dims = codes "n" ∷ codes "m" ∷ [];
    work = low.work;
    knowns = operand (codes "T") s 0 0 ∷ [];
    form = low.form;
    terms = [];
  }

  tested : map (λ s. has_pivots (solving s)) (Lower ∷ UnitLower ∷ Upper ∷ UnitUpper ∷ Diagonal ∷ []) ≡ true ∷ false ∷ true ∷ false ∷ true ∷ []
  unfolding low solving
  tested = refl

  others : map has_pivots (mul ∷ lu ∷ ldl ∷ low_right ∷ syl ∷ []) ≡ false ∷ false ∷ false ∷ true ∷ true ∷ []
  unfolding mul lu ldl low_right syl
  others = refl

-- ---- two products, of which the second changes a matrix that the first reads: A 0 to 3, B 4 to 7, C 8 to 11, D 12 and 13, E 14 and 15
module _ where
  abbrev products : Job
  products = job_of (mul ∷ []) (two ∷ two ∷ two ∷ column ∷ grid 1 2 (1 ∷ 1 ∷ []) ∷ []) (statement 0 2 (0 ∷ 1 ∷ []) ∷ statement 0 0 (3 ∷ 4 ∷ []) ∷ [])

  eight : uses products 1 (product 0 0 0 ∷ product 0 0 1 ∷ product 0 1 0 ∷ product 0 1 1 ∷ product 1 0 0 ∷ product 1 0 1 ∷ product 1 1 0 ∷ product 1 1 1 ∷ [])
      ≡ access 8 (0 ∷ 4 ∷ []) ∷ access 8 (1 ∷ 6 ∷ []) ∷ access 9 (0 ∷ 5 ∷ []) ∷ access 9 (1 ∷ 7 ∷ []) ∷ access 10 (2 ∷ 4 ∷ []) ∷ access 10 (3 ∷ 6 ∷ [])
      ∷ access 11 (2 ∷ 5 ∷ []) ∷ access 11 (3 ∷ 7 ∷ []) ∷ []
  unfolding mul
  eight = refl

  four : uses products 2 (product 0 0 0 ∷ product 0 1 0 ∷ product 1 0 0 ∷ product 1 1 0 ∷ [])
      ≡ access 0 (12 ∷ 14 ∷ []) ∷ access 1 (12 ∷ 15 ∷ []) ∷ access 2 (13 ∷ 14 ∷ []) ∷ access 3 (13 ∷ 15 ∷ []) ∷ []
  unfolding mul
  four = refl

-- ---- stored blocks: a mirrored one of a symmetric matrix, one that is transposed, and one that is both factors
module _ where
  mirrored : uses (job_of (sym ∷ []) (two ∷ column ∷ column ∷ []) (statement 0 2 (0 ∷ 1 ∷ []) ∷ [])) 1 (product 0 0 0 ∷ product 0 0 1 ∷ product 1 0 0 ∷ product 1 0 1 ∷ [])
      ≡ access 6 (0 ∷ 4 ∷ []) ∷ access 6 (2 ∷ 5 ∷ []) ∷ access 7 (2 ∷ 4 ∷ []) ∷ access 7 (3 ∷ 5 ∷ []) ∷ []
  unfolding sym
  mirrored = refl

  transposed : uses (job_of (low_primed ∷ []) (two ∷ column ∷ []) (statement 0 1 (0 ∷ []) ∷ [])) 1 (pivots ∷ solve 1 0 ∷ left 0 0 1 ∷ solve 0 0 ∷ [])
      ≡ access 6 (0 ∷ 3 ∷ []) ∷ access 5 (3 ∷ 6 ∷ []) ∷ access 4 (2 ∷ 5 ∷ []) ∷ access 4 (0 ∷ 6 ∷ []) ∷ []
  unfolding low_primed
  transposed = refl

  twice : uses (job_of (sqr ∷ []) (two ∷ column ∷ []) (statement 0 0 (1 ∷ []) ∷ [])) 1 (product 0 0 0 ∷ product 1 0 0 ∷ product 1 1 0 ∷ [])
      ≡ access 0 (4 ∷ 4 ∷ []) ∷ access 2 (5 ∷ 4 ∷ []) ∷ access 3 (5 ∷ 5 ∷ []) ∷ []
  unfolding sqr
  twice = refl

-- ---- the other forms: LDL, a factor on the right, and two factors
module _ where
  factored : uses (job_of (ldl ∷ []) (two ∷ []) (statement 0 0 [] ∷ [])) 1 (solve 0 0 ∷ solve 1 0 ∷ left 1 1 0 ∷ solve 1 1 ∷ [])
      ≡ access 0 [] ∷ access 2 (0 ∷ []) ∷ access 3 (2 ∷ 0 ∷ 2 ∷ []) ∷ access 3 [] ∷ []
  unfolding ldl
  factored = refl

  on_the_right : uses (job_of (low_right ∷ []) (two ∷ grid 1 2 (1 ∷ 1 ∷ []) ∷ []) (statement 0 1 (0 ∷ []) ∷ [])) 1 (pivots ∷ solve 0 1 ∷ right 0 0 1 ∷ solve 0 0 ∷ [])
      ≡ access 6 (0 ∷ 3 ∷ []) ∷ access 5 (3 ∷ 6 ∷ []) ∷ access 4 (5 ∷ 2 ∷ []) ∷ access 4 (0 ∷ 6 ∷ []) ∷ []
  unfolding low_right
  on_the_right = refl

  -- T 0 to 3, U 4 to 7, W 8 to 11
  on_both_sides : uses (job_of (syl_lower ∷ []) (two ∷ two ∷ two ∷ []) (statement 0 2 (0 ∷ 1 ∷ []) ∷ [])) 1 (pivots ∷ left 1 0 0 ∷ right 1 0 1 ∷ solve 1 0 ∷ [])
      ≡ access 12 (0 ∷ 3 ∷ 4 ∷ 7 ∷ []) ∷ access 10 (2 ∷ 8 ∷ []) ∷ access 10 (11 ∷ 6 ∷ []) ∷ access 10 (3 ∷ 4 ∷ 12 ∷ []) ∷ []
  unfolding syl_lower
  on_both_sides = refl

-- ---- edges
module _ where
  -- a step that reads what the one before it writes: a flow edge, and no anti edge
  abbrev read_behind : ℕ → Access
  read_behind s = if s == 0 then access 0 [] else access 1 (0 ∷ [])

  flow : IsFlowEdge read_behind 0 1
  flow = (0, omega arith, (refl, refl), λ r after before. absurd (omega (arith, after, before)))

  no_anti : IsAntiEdge read_behind 0 1 → ⊥
  no_anti e = false≢true e.2.0

  -- of three steps that write one block no edge goes from the first to the last
  abbrev written_thrice : ℕ → Access
  written_thrice s = access 0 []

  not_direct : IsDirectEdge written_thrice 0 2 → ⊥
  not_direct e = elim e.2 [
    | inl flow ↦ false≢true flow.0
    | inr other ↦ elim other [ inl anti ↦ false≢true anti.0 | inr output ↦ e.3 1 (omega arith) (omega arith) output.0 ]
  ]
