-- What is printed of small runs, computed and worked by hand.
use Rattle.std.proofs.Common.{◌≡◌, ℕ, List, [], ◌∷◌, ◌++◌, Bool, true, false, length, refl, subst, sym}
use Rattle.std.specs.Prelude.{codes}
use Rattle.std.specs.Fmt.{digits}
use Rattle.residue_sums.specs.Grids.{Grid}
use Rattle.operation_spec.specs.declared.task.Kind.TheVariants.{Left, Solve}
use Rattle.equation.specs.declared.job.Job.{Job}
use Rattle.dependence_queue.specs.declared.edge.Edge.{Edge}
use Rattle.dependence_queue.specs.Edges.{edge_between, edges_from, edges_of}
use Rattle.step_replays.specs.declared.step.Step.{Step}
use Rattle.issue_list.specs.declared.choice.Choice.TheVariants.{Each, First}
use Rattle.issue_list.specs.IssuedSteps.{issued_statement_steps, issued_steps}
use Rattle.issue_list.specs.WorkedSteps.{step}
use Rattle.schedule_core.specs.Schedules.{in_order}
use Rattle.schedule_core.specs.StepAccesses.{accesses_of}
use Rattle.variant_report.specs.declared.self_words.SelfWords.{SelfWords}
use Rattle.variant_report.specs.ResultTexts.{result_text}
use Rattle.variant_report.specs.SummaryTexts.{summary_text}
use Rattle.variant_report.specs.TraceTexts.{trace_text}
use Rattle.job_generator.specs.GeneratedOperations.{prod, lu, solve}
use Rattle.job_generator.specs.GeneratedJobs.{generated_job, statement}
use Rattle.command_words.specs.declared.command.RunWords.{RunWords}
use Rattle.flame_top.specs.Run.{run_text, trace_part}
use Rattle.flame_top.specs.SelfRun.{job_of, self_text}
use Rattle.flame_top.specs.Steps.{steps_by}

abbrev square : ℕ → List ℕ → Grid
square n entries = record { rows = n; cols = n; entries = entries }

-- ---- an LU factorisation of three rows under blocks of two, by the variant that does its columns before its rows

factored : Job
factored = record {
  modulus = 101;
  operations = lu ∷ [];
  names = codes "A" ∷ [];
  matrices = square 3 (1 ∷ 0 ∷ 0 ∷ 0 ∷ 1 ∷ 0 ∷ 0 ∷ 0 ∷ 1 ∷ []) ∷ [];
  statements = statement 0 0 [] ∷ [];
  prints = 0 ∷ [];
}

abbrev run_words : RunWords
run_words = record { block = 2; workers = 1; choice = Each (3 ∷ []); trace = true }

-- its steps
abbrev column_steps : List Step
column_steps = step 1 Solve 0 0 0 0 []
    ∷ step 1 Solve 1 0 0 2 (0 ∷ [])
    ∷ step 1 Solve 0 1 0 1 (0 ∷ [])
    ∷ step 1 Left 1 1 0 3 (2 ∷ 1 ∷ [])
    ∷ step 1 Solve 1 1 0 3 []
    ∷ []

listed_steps : steps_by factored 2 (Each (3 ∷ [])) ≡ column_steps
unfolding factored lu issued_steps issued_statement_steps
listed_steps = refl

-- the direct edges between them
abbrev edge : ℕ → ℕ → Bool → Bool → Edge
edge from to flow output = record { from = from; to = to; flow = flow; anti = false; output = output }

abbrev column_edges : List Edge
column_edges = edge 1 2 true false ∷ edge 1 3 true false ∷ edge 2 4 true false ∷ edge 3 4 true false ∷ edge 4 5 false true ∷ []

joined_steps : edges_of (accesses_of column_steps) ≡ column_edges
unfolding edges_of edges_from edge_between
joined_steps = refl

-- what is printed: the matrix that is left, and then the trace
abbrev left_matrix : List Grid
left_matrix = square 3 (1 ∷ 2 ∷ 3 ∷ 4 ∷ 5 ∷ 6 ∷ 7 ∷ 8 ∷ 9 ∷ []) ∷ []

abbrev printed : List ℕ
printed = codes "matrix A 3 3\n1 2 3\n4 5 6\n7 8 9\nend\ntrace\ntasks 5\n1 1 solve(0,0)\n2 1 solve(1,0)\n3 1 solve(0,1)\n4 1 left(1,1,0)\n5 1 solve(1,1)\nedges 5\n1 2 flow\n1 3 flow\n2 4 flow\n3 4 flow\n4 5 output\nschedule 10\nstart 1\nfinish 1\nstart 2\nfinish 2\nstart 3\nfinish 3\nstart 4\nfinish 4\nstart 5\nfinish 5\nend\n"

printed_steps : result_text factored left_matrix ++ trace_text column_steps column_edges (in_order 5) ≡ printed
unfolding digits factored
printed_steps = refl

printed_run : run_text run_words factored (in_order 5) left_matrix ≡ printed
printed_run = subst (λ steps. result_text factored left_matrix ++ trace_part true steps (in_order 5) ≡ printed) (sym listed_steps)
    (subst (λ edges. result_text factored left_matrix ++ trace_text column_steps edges (in_order 5) ≡ printed) (sym joined_steps) printed_steps)

-- ---- a generated job of two rows under blocks of three, which has 1 + 1 + 1 + 2 steps

abbrev self_words : SelfWords
self_words = record { n = 2; m = 101; seed = 7; block = 3; workers = 1 }

counted_steps : length (steps_by (job_of self_words) 3 First) ≡ 5
unfolding generated_job prod lu solve issued_steps issued_statement_steps
counted_steps = refl

abbrev left_matrices : List Grid
left_matrices = square 1 (9 ∷ []) ∷ square 2 (100 ∷ 1 ∷ 2 ∷ 2 ∷ []) ∷ square 1 (6 ∷ []) ∷ []

abbrev summed : List ℕ
summed = codes "selfrun 2 101 7 block 3 workers 1\ntasks 5\nsum S 4\nsum B 6\n"

summed_steps : summary_text (job_of self_words) self_words 5 left_matrices ≡ summed
unfolding digits generated_job
summed_steps = refl

printed_summary : self_text self_words (job_of self_words) left_matrices ≡ summed
printed_summary = subst (λ count. summary_text (job_of self_words) self_words count left_matrices ≡ summed) (sym counted_steps) summed_steps
