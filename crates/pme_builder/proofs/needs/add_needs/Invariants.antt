use Rattle.std.proofs.Common.{◌≡◌, ◌++◌, ◌+◌, drop}
use Rattle.pme_builder.specs.Pmes.{pairs_from}
use Rattle.pme_builder.proofs.needs.add_needs.Given as goal

abbrev pub invariant-loop-other : goal.invariant-loop-other
invariant-loop-other l = record {
  counted : l.need ≡ l.other-index + 1;
  grown : l.edges ++ pairs_from l.op l.task l.number l.need (drop l.other-index l.tasks) ≡ l.fn.edges ++ pairs_from l.op l.task l.number 1 l.tasks;
}
