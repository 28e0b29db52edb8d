-- Verdicts as text, computed on rows that were worked by hand.
use Rattle.std.proofs.Common.{◌≡◌, ℕ, [], ◌∷◌, true, false, refl}
use Rattle.std.specs.Prelude.{codes}
use Rattle.std.specs.Fmt.{digits}
use Rattle.operation_spec.proofs.WorkedOperations.{lu, low}
use Rattle.operation_spec.specs.declared.task.Kind.{Kind}
use Rattle.operation_spec.specs.declared.task.Kind.TheVariants as kinds
use Rattle.operation_spec.specs.declared.task.Task.{Task}
use Rattle.worksheet.specs.declared.verdict.Shown.TheVariants.{Nothing, One, Dims, Ends, Line}
use Rattle.worksheet.specs.declared.verdict.Verdict.TheVariants.{Right, Wrong}
use Rattle.worksheet.specs.declared.verdict.WsPlace.TheVariants as places
use Rattle.variant_report.specs.VerdictTexts.{verdict_text}

abbrev task : Kind → ℕ → ℕ → ℕ → Task
task kind i j k = record { kind = kind; term = 0; i = i; j = j; k = k }

right : verdict_text lu Right ≡ codes "right\n"
right = refl

-- an update that stands before one that it needs
early_update : verdict_text lu (Wrong (places.Update 3) (One (task kinds.Left 2 2 1)) (One (task kinds.Solve 2 1 0)))
    ≡ codes "wrong update 3 found left(2,2,1) due solve(2,1)\n"
unfolding digits
early_update = refl

unneeded : verdict_text lu (Wrong places.F2 (One (task kinds.Solve 1 1 0)) Nothing) ≡ codes "wrong invariant F2 found solve(1,1) due -\n"
unfolding digits
unneeded = refl

-- dimensions by their names, and with their ends
guarded : verdict_text low (Wrong places.Guard (Dims (1 ∷ [])) (Dims (0 ∷ 1 ∷ []))) ≡ codes "wrong guard found m due n m\n"
unfolding digits low
guarded = refl

started : verdict_text low (Wrong places.Start (Ends (record { dim = 0; last = true } ∷ []))
    (Ends (record { dim = 0; last = false } ∷ record { dim = 1; last = true } ∷ [])))
    ≡ codes "wrong start found n last due n first m last\n"
unfolding digits low
started = refl

-- a line with tasks and one without
stated : verdict_text lu (Wrong (places.After 12) (Line (record { row = 1; col = 1; done = task kinds.Left 1 1 0 ∷ task kinds.Solve 1 1 0 ∷ [] }))
    (Line (record { row = 1; col = 2; done = [] })))
    ≡ codes "wrong after 12 found 1 1 : left(1,1,0) solve(1,1) due 1 2 :\n"
unfolding digits
stated = refl
