use Rattle.kernel_bench.proofs.ProductRows.{HasProduct-row}
use Rattle.kernel_bench.proofs.unit.add_product.Goals as goal

pub loop-i-preserved : goal.loop-i-preserved
loop-i-preserved c = record {
  product = HasProduct-row c.args.m c.args.first.now c.args.second.now c.args.entries.now c.loop-i.i c.loop-i.entries c.add_row.new.entries c.loop-i.invariant.product
      c.add_row.ensures.here c.add_row.ensures.others c.add_row.auto.entries;
  residues = c.add_row.ensures.residues;
}
