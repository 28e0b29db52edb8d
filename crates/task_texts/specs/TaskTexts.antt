-- Tasks as text.
use Rattle.std.specs.Prelude.{ℕ, List, [], ◌∷◌, ◌++◌, codes, decimal}
use Rattle.operation_spec.specs.declared.task.Kind.{Kind}
use Rattle.operation_spec.specs.declared.task.Kind.TheVariants.{Pivots, Term, Left, Right, Solve}
use Rattle.operation_spec.specs.declared.task.Task.{Task}

-- two numbers, and three, in parentheses
abbrev pub pair_text : ℕ → ℕ → List ℕ
pair_text i j = codes "(" ++ decimal i ++ codes "," ++ decimal j ++ codes ")"

abbrev pub triple_text : ℕ → ℕ → ℕ → List ℕ
triple_text i j k = codes "(" ++ decimal i ++ codes "," ++ decimal j ++ codes "," ++ decimal k ++ codes ")"

-- the kind, the number of a term, and the indices
abbrev pub text_of_kind : Kind → ℕ → ℕ → ℕ → ℕ → List ℕ
text_of_kind Pivots t i j k = codes "pivots"
text_of_kind Term t i j k = codes "term" ++ decimal t ++ triple_text i j k
text_of_kind Left t i j k = codes "left" ++ triple_text i j k
text_of_kind Right t i j k = codes "right" ++ triple_text i j k
text_of_kind Solve t i j k = codes "solve" ++ pair_text i j

abbrev pub task_text : Task → List ℕ
task_text task = text_of_kind task.kind task.term task.i task.j task.k

-- each task behind a space
abbrev pub tasks_text : List Task → List ℕ
tasks_text [] = []
tasks_text (task ∷ tasks) = codes " " ++ task_text task ++ tasks_text tasks
