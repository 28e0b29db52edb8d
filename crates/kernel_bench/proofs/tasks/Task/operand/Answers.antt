use Rattle.kernel_bench.proofs.tasks.Task.operand.Goals as goal

pub returns-clause-square : goal.returns-clause-square
returns-clause-square c = c.of.ensures.square c.args.self.now.amount.m c.args.self.now.amount.n c.requires
