-- Statements that are done one after another, with one more of them done, or failing. Cited where the outcome of a replay is what the job
-- means.
use Rattle.std.proofs.Common.{◌≡◌, ℕ, suc, ◌+◌, ◌<◌, List, [], ◌∷◌, ◌++◌, length, length-take, get_or, take, drop, inl, inr, refl, sym, ap, subst, ◌∙◌, arith}
use Rattle.std.proofs.lemmas.List.{drop_more, take-append-drop, take_more}
use Rattle.residue_sums.specs.Grids.{Grid}
use Rattle.equation.specs.declared.job.Job.{Job}
use Rattle.equation.specs.declared.job.Place.{Place}
use Rattle.equation.specs.declared.job.Statement.{Statement}
use Rattle.equation.specs.Meanings.{ChangeAll, Changes, FailAt, Fails, MeansBadPivot}

-- one more statement
change-more : (job : Job) (statements : List Statement) (s : Statement) (before between after : List Grid) → ChangeAll job statements before between
    → Changes job s between after → ChangeAll job (statements ++ s ∷ []) before after
change-more job [] s before between after same change = (after, rw same at change, refl)
change-more job (t ∷ statements) s before between after done change = (done.0, done.1, change-more job statements s done.0 between after done.2 change)

-- behind so many statements that are done one fails
fail-behind : (job : Job) (statements : List Statement) (s : Statement) (behind : List Statement) (before between : List Grid) (place : Place)
    → ChangeAll job statements before between → Fails job s between place → FailAt job (statements ++ s ∷ behind) before (length statements + 1) place
fail-behind job [] s behind before between place same fails = inl (refl, rw same at fails)
fail-behind job (t ∷ statements) s behind before between place done fails =
    inr (done.0, length statements + 1, omega arith, done.1, fail-behind job statements s behind done.0 between place done.2 fails)

-- the first t statements are done, and the next one
module _ (job : Job) (t : ℕ) (s : Statement) (t_in : t < length job.statements) (own : s ≡ get_or job.statements t s) (before : List Grid)
    (so_far : ChangeAll job (take t job.statements) job.matrices before) where
  pub next-changes : (after : List Grid) → Changes job s before after → ChangeAll job (take (suc t) job.statements) job.matrices after
  next-changes after change =
      let all = change-more job (take t job.statements) s job.matrices before after so_far change in
      let number : suc t ≡ t + 1 = omega arith in
      let more : take (suc t) job.statements ≡ take t job.statements ++ s ∷ []
      = ap (λ (k : ℕ). take k job.statements) number ∙ take_more job.statements t s t_in ∙ ap (λ (u : Statement). take t job.statements ++ u ∷ []) (sym own) in
      subst (λ (done : List Statement). ChangeAll job done job.matrices after) (sym more) all

  pub next-fails : (place : Place) → Fails job s before place → MeansBadPivot job (suc t) place
  next-fails place fails =
      let parts : take t job.statements ++ s ∷ drop (t + 1) job.statements ≡ job.statements
      = ap (λ (u : Statement). take t job.statements ++ u ∷ drop (t + 1) job.statements) own
      ∙ ap (λ (rest : List Statement). take t job.statements ++ rest) (sym (drop_more job.statements t s t_in))
      ∙ take-append-drop t job.statements in
      let count : length (take t job.statements) + 1 ≡ suc t = simp length-take (omega (arith, t_in)) in
      let all = fail-behind job (take t job.statements) s (drop (t + 1) job.statements) job.matrices before place so_far fails in
      subst (λ (n : ℕ). FailAt job job.statements job.matrices n place) count
      (subst (λ (whole : List Statement). FailAt job whole job.matrices (length (take t job.statements) + 1) place) parts all)
