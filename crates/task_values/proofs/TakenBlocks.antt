-- A step that isn't stopped finds its blocks in the store: none of them is lost, and the one that it writes may be taken out. Cited where a step
-- is done.
use Rattle.std.proofs.Common.{◌≡◌, ◌≢◌, ℕ, ◌<◌, ◌≤◌, inl, inr, true, false, List, [], ◌++◌, length, take, drop, get_or, set, refl, sym, ◌∙◌, ap, subst, arith, get_or-set_other}
use Rattle.std.proofs.lemmas.Bool.{false≢true}
use Rattle.std.proofs.lemmas.List.{get_or_read, length-append, length-drop, length-set, length-take}
use Rattle.std.proofs.lemmas.List.Elements.{All-nil, All-set}
use Rattle.residue_sums.specs.Grids.{Grid, AreResidues}
use Rattle.equation.specs.Jobs.{nth_grid, no_grid}
use Rattle.step_replays.specs.declared.step.Step.{Step}
use Rattle.dependence_queue.specs.declared.access.Access.{Access}
use Rattle.dependence_queue.specs.Conflicts.{has_number}
use Rattle.dependence_queue.proofs.EdgesBetween.{conflicts-from}
use Rattle.step_replays.specs.Replays.{StepResult, IsStopped, nth_access, nth_step}
use Rattle.job_blocks.proofs.AccessLaws.{reads-apart}
use Rattle.task_values.specs.declared.run.Run.{Run}
use Rattle.task_values.specs.declared.store.Store.{Store}
use Rattle.task_values.specs.Marks.{IsLost, meets}
use Rattle.task_values.specs.Progress.{IsHeldAfter, IsNext, IsRun}
use Rattle.task_values.proofs.MarkLaws.{conflict-met, has-all, met-conflict}
use Rattle.task_values.proofs.StepUses.{access, blocked, has_s, own_task, reads_stored, step_read, write_stored}

-- a matrix of nothing holds residues
pub no_block-residues : (m : ℕ) (none dest : Grid) → none ≡ record { rows = 0; cols = 0; entries = [] } → dest ≡ none → AreResidues m dest
no_block-residues m none dest none_is dest_is = subst (AreResidues m) (sym (dest_is ∙ none_is)) (All-nil (λ v. v < m))

-- room that was lent is as long as before
pub room-kept : (n : ℕ) (new old : List ℕ) (b : ℕ) → n ≡ length old → b ≤ length old → b ≤ length (take n (new ++ drop (length new) old))
room-kept n new old b count enough =
    omega (arith, count, enough, length-take n (new ++ drop (length new) old), length-append new (drop (length new) old), length-drop (length new) old)

-- what a step finds with any block in the place of its own, code finds with the block that it put there
pub next-read : (r : Run) (is : IsRun r) (n : ℕ) (within : n < length r.steps.now) (results : List StepResult) (blocks : List Grid)
    → (nth_access r.steps.now n).write < length blocks
    → ((e : Grid) → AreResidues r.job.now.modulus e → IsNext r results n (set blocks (nth_access r.steps.now n).write e) (nth_grid blocks (nth_access r.steps.now n).write))
    → (d : Step) (none dest block lent : Grid) (stored : List Grid) → none ≡ record { rows = 0; cols = 0; entries = [] } → dest ≡ none → block ≡ lent
    → lent ≡ get_or blocks (get_or r.steps.now n d).access.write lent → stored ≡ set blocks (get_or r.steps.now n d).access.write dest
    → IsNext r results n stored block
next-read r is n within results blocks w_in taken d none dest block lent stored none_is dest_is block_is lent_is stored_is =
    let step = step_read r is n within d in
    let w : ℕ = (nth_access r.steps.now n).write in
    let own : lent ≡ nth_grid blocks w = get_or_read blocks w lent w_in (subst (λ (t : Step). lent ≡ get_or blocks t.access.write lent) step lent_is) no_grid in
    let left : stored ≡ set blocks w dest = stored_is ∙ ap (λ (t : Step). set blocks t.access.write dest) step in
    subst (λ (p : List Grid × Grid). IsNext r results n p.0 p.1) (λ k. (sym left k, sym (block_is ∙ own) k))
    (taken dest (no_block-residues r.job.now.modulus none dest none_is dest_is))

module _ (r : Run) (is : IsRun r) (n : ℕ) (within : n < length r.steps.now) (results : List StepResult) (s : Store) (held : IsHeldAfter r results n s) where
  abbrev w : ℕ
  w = (nth_access r.steps.now n).write

  abbrev Stopped : Type 0
  Stopped = IsStopped r.job.now r.b r.steps.now results n

  -- ---- the test of the marks

  pub met-stopped : meets s.marks.written.items s.marks.read.items (nth_access r.steps.now n) ≡ true → IsStopped r.job.now r.b r.steps.now results n
  met-stopped h = met-conflict r.steps.now results n (length s.blocks.items) s.marks.written.items s.marks.read.items held.marks (nth_access r.steps.now n)
      (write_stored r is n within results s held) (reads_stored r is n within results s held) h

  pub unmet-free : meets s.marks.written.items s.marks.read.items (nth_access r.steps.now n) ≡ false → IsStopped r.job.now r.b r.steps.now results n → ⊥
  unmet-free h stopped = false≢true (sym h ∙ conflict-met r.steps.now results n (length s.blocks.items) s.marks.written.items s.marks.read.items held.marks (nth_access r.steps.now n)
      (write_stored r is n within results s held) (reads_stored r is n within results s held) stopped)

  -- ---- a step that isn't stopped

  module _ (free : IsStopped r.job.now r.b r.steps.now results n → ⊥) where
    read-kept : (x : ℕ) → has_number (nth_access r.steps.now n).reads x ≡ true → IsLost r.steps.now results n x → ⊥
    read-kept x h lost = free (lost.0, lost.1, lost.2, conflicts-from (nth_access r.steps.now lost.0) (nth_access r.steps.now n) x (inl (h, lost.3)))

    own-kept : IsLost r.steps.now results n w → ⊥
    own-kept lost = free (lost.0, lost.1, lost.2, conflicts-from (nth_access r.steps.now lost.0) (nth_access r.steps.now n) w (inr (inr (lost.3, refl))))

    own-unread : has_number (nth_access r.steps.now n).reads w ≡ false
    own-unread = subst (λ (a : Access). has_number a.reads a.write ≡ false) (sym (access r is n within))
        (reads-apart (record { job = r.job.now; b = r.b }) (nth_step r.steps.now n).statement (nth_step r.steps.now n).task (blocked r is n within) (has_s r is n within) (own_task r is n within))

    -- what it finds, once the block that it writes was taken out
    pub taken : (e : Grid) → AreResidues r.job.now.modulus e → IsNext r results n (set s.blocks.items (nth_access r.steps.now n).write e) (nth_grid s.blocks.items (nth_access r.steps.now n).write)
    taken e empty = record {
      within = within;
      front = held.front;
      active = free;
      count = length-set s.blocks.items w e ∙ held.count;
      residues = All-set (AreResidues r.job.now.modulus) s.blocks.items w e empty held.residues;
      reads = λ x h.
          let apart : x ≢ w = λ same. false≢true (sym own-unread ∙ ap (λ (y : ℕ). has_number (nth_access r.steps.now n).reads y) (sym same) ∙ h) in
          get_or-set_other s.blocks.items w x e no_grid apart
          ∙ held.blocks x (has-all (λ y. y < length s.blocks.items) (nth_access r.steps.now n).reads x (reads_stored r is n within results s held) h) (read-kept x h);
      block = held.blocks w (write_stored r is n within results s held) own-kept;
    }

    -- the same of what code took out and left
    pub next-there : (d : Step) (none dest block lent : Grid) (stored : List Grid) → none ≡ record { rows = 0; cols = 0; entries = [] } → dest ≡ none → block ≡ lent
        → lent ≡ get_or s.blocks.items (get_or r.steps.now n d).access.write lent → stored ≡ set s.blocks.items (get_or r.steps.now n d).access.write dest
        → IsNext r results n stored block
    next-there d none dest block lent stored none_is dest_is block_is lent_is stored_is =
        next-read r is n within results s.blocks.items (write_stored r is n within results s held) taken d none dest block lent stored none_is dest_is block_is lent_is stored_is
