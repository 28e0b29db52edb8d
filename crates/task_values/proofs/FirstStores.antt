-- What is held before the first step: the blocks that the job gives, all residues, and no marks.
use Rattle.std.proofs.Common.{[], length, sym, subst, arith}
use Rattle.std.proofs.lemmas.List.Elements.{All-from_get_or}
use Rattle.residue_sums.specs.Grids.{AreResidues}
use Rattle.equation.specs.Jobs.{no_grid}
use Rattle.step_replays.proofs.FirstShapes.{first-residues}
use Rattle.step_replays.proofs.FrontLaws.{front-first}
use Rattle.task_values.specs.declared.run.Run.{Run}
use Rattle.task_values.specs.declared.store.Store.{Store}
use Rattle.task_values.specs.Progress.{IsFirstStore, IsGone, IsRun}
use Rattle.task_values.proofs.MarkLaws.{AreMarks-none}

pub IsGone-first : (r : Run) (s : Store) → IsRun r → IsFirstStore (record { job = r.job.now; b = r.b }) s → IsGone r 0 s
IsGone-first r s is first = (
  [],
  record {
    front = front-first r.job.now r.b r.steps.now;
    count = first.blocks.count;
    residues = All-from_get_or (AreResidues r.job.now.modulus) s.blocks.items no_grid (λ k below.
        subst (AreResidues r.job.now.modulus) (sym (first.blocks.each k (omega (arith, below, first.blocks.count))))
        (first-residues r.job.now.modulus (omega (arith, is.job.modulus.at_least_two)) r.job.now r.b k is.job.residues).residues);
    blocks = λ x below kept. first.blocks.each x (omega (arith, below, first.blocks.count));
    marks = rw (first.written, first.read) (AreMarks-none r.steps.now (length s.blocks.items));
    room = omega (arith, first.room);
    noted = rw first.failure (λ q place below. absurd (omega arith));
  },
)
