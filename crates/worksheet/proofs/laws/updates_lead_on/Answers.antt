use Rattle.std.proofs.Common.{inl, inr}
use Rattle.worksheet.proofs.Rounds.{led_to, kept, updated}
use Rattle.worksheet.proofs.laws.updates_lead_on.Goals as goal

pub returns : goal.returns
returns c op w a valid listed = (led_to op w a valid listed, λ h. elim h [ inl same ↦ kept op w a valid listed same | inr update ↦ updated op w a valid listed update ])
