use Rattle.std.proofs.Common.{refl}
use Rattle.flame_top.proofs.workers.finish.Goals as goal

pub returns : goal.returns
returns g c =
    let sizes = c.requires.sizes in
    c.requires.goes.gives _ c.go.result
    (record {
      job = c.requires.job;
      size = sizes.block_low;
      fit = c.requires.fit;
      few = c.requires.few;
      some_worker = sizes.some_worker;
      few_workers = sizes.few_workers;
    })
    refl (_, c.go.ensures, refl)
