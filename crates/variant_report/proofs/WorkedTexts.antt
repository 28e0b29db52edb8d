-- Traces and summaries, computed on small runs that were worked by hand.
use Rattle.std.proofs.Common.{◌≡◌, ℕ, List, [], ◌∷◌, Bool, true, false, refl}
use Rattle.std.specs.Prelude.{codes}
use Rattle.std.specs.Fmt.{digits}
use Rattle.residue_sums.specs.Grids.{Grid}
use Rattle.operation_spec.specs.declared.task.Kind.{Kind}
use Rattle.operation_spec.specs.declared.task.Kind.TheVariants.{Pivots, Left, Solve}
use Rattle.equation.specs.declared.job.Job.{Job}
use Rattle.dependence_queue.specs.declared.edge.Edge.{Edge}
use Rattle.step_replays.specs.declared.step.Step.{Step}
use Rattle.schedule_core.specs.declared.event.Event.TheVariants.{Start, Finish}
use Rattle.schedule_core.specs.Schedules.{in_order}
use Rattle.variant_report.specs.SummaryTexts.{summary_text}
use Rattle.variant_report.specs.TraceTexts.{trace_text}

-- a step; its accesses are not printed
abbrev step : ℕ → Kind → ℕ → ℕ → Step
step statement kind i j = record {
  statement = statement;
  task = record { kind = kind; term = 0; i = i; j = j; k = 0 };
  access = record { write = 0; reads = [] };
}

abbrev edge : ℕ → ℕ → Bool → Bool → Bool → Edge
edge from to flow anti output = record { from = from; to = to; flow = flow; anti = anti; output = output }

abbrev flow : ℕ → ℕ → Edge
flow from to = edge from to true false false

-- an LU factorisation of two by two blocks, by one worker
factorisation_trace : trace_text (step 1 Solve 0 0 ∷ step 1 Solve 0 1 ∷ step 1 Solve 1 0 ∷ step 1 Left 1 1 ∷ step 1 Solve 1 1 ∷ [])
    (flow 1 2 ∷ flow 1 3 ∷ flow 2 4 ∷ flow 3 4 ∷ edge 4 5 false false true ∷ []) (in_order 5)
    ≡ codes "trace\ntasks 5\n1 1 solve(0,0)\n2 1 solve(0,1)\n3 1 solve(1,0)\n4 1 left(1,1,0)\n5 1 solve(1,1)\nedges 5\n1 2 flow\n1 3 flow\n2 4 flow\n3 4 flow\n4 5 output\nschedule 10\nstart 1\nfinish 1\nstart 2\nfinish 2\nstart 3\nfinish 3\nstart 4\nfinish 4\nstart 5\nfinish 5\nend\n"
unfolding digits
factorisation_trace = refl

-- two statements, the second one with its pivots, an edge of all kinds, and steps that run at one time
mixed_trace : trace_text (step 1 Solve 0 10 ∷ step 2 Pivots 0 0 ∷ step 2 Solve 0 0 ∷ []) (edge 1 3 true true true ∷ edge 2 3 true false false ∷ [])
    (Start 2 ∷ Start 1 ∷ Finish 2 ∷ Finish 1 ∷ Start 3 ∷ Finish 3 ∷ [])
    ≡ codes "trace\ntasks 3\n1 1 solve(0,10)\n2 2 pivots\n3 2 solve(0,0)\nedges 2\n1 3 flow anti output\n2 3 flow\nschedule 6\nstart 2\nstart 1\nfinish 2\nfinish 1\nstart 3\nfinish 3\nend\n"
unfolding digits
mixed_trace = refl

-- a job of no steps
empty_trace : trace_text [] [] [] ≡ codes "trace\ntasks 0\nedges 0\nschedule 0\nend\n"
unfolding digits
empty_trace = refl

abbrev two_by_two : List ℕ → Grid
two_by_two entries = record { rows = 2; cols = 2; entries = entries }

-- the second and third of three matrices are printed
generated : Job
generated = record {
  modulus = 101;
  operations = [];
  names = codes "F" ∷ codes "S" ∷ codes "B" ∷ [];
  matrices = [];
  statements = [];
  prints = 1 ∷ 2 ∷ [];
}

-- 1 + 48 + 38 + 1 is 88, and 48 + 55 + 4 + 15 is 122, which leaves 21
factorisation_summary : summary_text generated (record { n = 2; m = 101; seed = 1; block = 1; workers = 2 }) 23
    (two_by_two (1 ∷ 48 ∷ 38 ∷ 1 ∷ []) ∷ two_by_two (1 ∷ 48 ∷ 38 ∷ 1 ∷ []) ∷ two_by_two (48 ∷ 55 ∷ 4 ∷ 15 ∷ []) ∷ [])
    ≡ codes "selfrun 2 101 1 block 1 workers 2\ntasks 23\nsum S 88\nsum B 21\n"
unfolding digits generated
factorisation_summary = refl

-- numbers of which no two are the same; the second matrix alone is printed, and its sum goes by the job's modulus: 5 + 6 + 4 is 15, which leaves 1
summary_of_one_print : summary_text (record {
  modulus = 7;
  operations = [];
  names = codes "A" ∷ codes "B" ∷ [];
  matrices = [];
  statements = [];
  prints = 1 ∷ [];
}) (record { n = 3; m = 101; seed = 40; block = 2; workers = 16 }) 985
    (two_by_two (1 ∷ 1 ∷ 1 ∷ 1 ∷ []) ∷ record { rows = 1; cols = 3; entries = 5 ∷ 6 ∷ 4 ∷ [] } ∷ [])
    ≡ codes "selfrun 3 101 40 block 2 workers 16\ntasks 985\nsum B 1\n"
unfolding digits
summary_of_one_print = refl
