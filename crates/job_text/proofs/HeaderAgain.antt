-- The first two lines of a job are read as its modulus. Cited by the law that a job's lines are read as the job.
use Rattle.std.proofs.Common.{◌≡◌, ℕ, ◌^◌, not, ◌||◌, nat_lt, nat_le, List, [], ◌∷◌, codes, Ok, refl, ap, ◌∙◌, arith}
use Rattle.std.specs.Fmt.{decimal}
use Rattle.std.proofs.lemmas.Bool.{le-ltb, lt-leb, ne_eqb, not_from_true, or_from}
use Rattle.residue_sums.specs.Residues.{IsModulus}
use Rattle.text_scan.specs.LineOrder.{AreLines}
use Rattle.text_scan.specs.Lines.{Line}
use Rattle.text_scan.proofs.FaultTests.{passes_by}
use Rattle.text_scan.proofs.LineOrders.{AreLines-inner}
use Rattle.text_scan.proofs.NumberTexts.{decimal_number}
use Rattle.job_text.specs.JobFaults.{is_header, header_at, is_modulus_line, modulus_of, modulus_at, first_lines_at}

-- the header, behind which another line stands, so that its number isn't the end's
header_at-line : (end : ℕ) (line next : Line) (lines : List Line) → AreLines end (line ∷ next ∷ lines) → line.words ≡ codes "flame" ∷ codes "1" ∷ [] → header_at end (line ∷ next ∷ lines) ≡ Ok (next ∷ lines)
unfolding header_at
header_at-line end line next lines in_order words =
    passes_by _ (ap (λ ws. not (is_header ws)) words) (passes_by _ (ne_eqb line.number end (AreLines-inner line (next ∷ lines) in_order (omega arith))) refl)

-- the modulus
modulus_at-line : (line : Line) (m : ℕ) → line.words ≡ codes "modulus" ∷ decimal m ∷ [] → IsModulus m → modulus_at line ≡ Ok m
unfolding modulus_at
modulus_at-line line m words is =
    let read = decimal_number m (omega (arith, is.below_limit)) in
    let value : modulus_of line.words ≡ m = ap modulus_of words ∙ read.1 in
    passes_by _ (ap (λ ws. not (is_modulus_line ws)) words ∙ not_from_true _ read.0)
    (passes_by _ (ap (λ (n : ℕ). nat_lt n 2 || nat_le (2 ^ 32) n) value ∙ or_from _ _ (le-ltb m 2 is.at_least_two) (lt-leb (2 ^ 32) m is.below_limit))
    (ap (λ (n : ℕ). Ok n) value))

-- both, in front of others
pub first_lines_at-lines : (end m : ℕ) (line next : Line) (lines : List Line) → AreLines end (line ∷ next ∷ lines) → line.words ≡ codes "flame" ∷ codes "1" ∷ []
    → next.words ≡ codes "modulus" ∷ decimal m ∷ [] → IsModulus m → first_lines_at end (line ∷ next ∷ lines) ≡ Ok (m, lines)
unfolding first_lines_at
first_lines_at-lines end m line next lines in_order header modulus is = rw (header_at-line end line next lines in_order header, modulus_at-line next m modulus is) refl
