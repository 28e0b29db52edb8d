use Rattle.std.proofs.Common.{◌∙◌, sym}
use Rattle.job_text.proofs.LineForms.{modulus_number}
use Rattle.job_text.proofs.header.read_modulus.Goals as goal

pub modulus_of-requires : goal.modulus_of-requires
modulus_of-requires c = modulus_number c.args.line.now.words (sym c.is_modulus_line.ensures ∙ c.if-not-is_modulus_line.false)
