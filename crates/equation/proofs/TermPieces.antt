-- Entries of the right side, term by term.
use Rattle.std.proofs.Common.{◌≡◌, ℕ, ◌+◌, ◌<◌, List, [], ◌∷◌, ◌++◌, Bool, true, false, length, get_or, take, refl, sym, ap, ◌∙◌, arith}
use Rattle.std.proofs.lemmas.List.{take_more}
use Rattle.residue_sums.specs.Tables.{Table}
use Rattle.residue_sums.specs.Grids.{Grid, entry}
use Rattle.operation_spec.specs.declared.operation.Operation.{Operation}
use Rattle.operation_spec.specs.declared.operation.Term.{Term}
use Rattle.equation.specs.declared.candidate.Candidate.{Candidate}
use Rattle.equation.specs.Candidates.{combined_at, IsCandidate, knowns_of, work_of}
use Rattle.equation.specs.Equations.{term_table, with_terms}
use Rattle.equation.specs.Kernels.{combined}
use Rattle.equation.specs.Pivots.{HasResidues}
use Rattle.equation.proofs.AssignedGrids.{HasResidues-entry, HasResidues-terms}
use Rattle.equation.proofs.KernelStatements.{with_terms-last}
use Rattle.equation.proofs.OneSolution.{AreResidues-nth}

combined-entry : (m : ℕ) (negative : Bool) (a b : Table) (i j : ℕ) → combined m negative a b i j ≡ combined_at m negative (a i j) (b i j)
combined-entry m true a b i j = refl
combined-entry m false a b i j = refl

module _ (m : ℕ) (op : Operation) (knowns : List Grid) (a : Table) (i j : ℕ) where
  one_more : (k : ℕ) (t : Term) (x y : ℕ) → x ≡ with_terms m op knowns (take k op.terms) a i j → y ≡ combined_at m t.minus x (term_table m op knowns t i j)
      → y ≡ with_terms m op knowns (take k op.terms ++ t ∷ []) a i j
  one_more k t x y x_is y_is =
      y_is ∙ ap (λ (v : ℕ). combined_at m t.minus v (term_table m op knowns t i j)) x_is
      ∙ sym (combined-entry m t.minus (with_terms m op knowns (take k op.terms) a) (term_table m op knowns t) i j)
      ∙ sym (with_terms-last m op knowns (take k op.terms) t a i j)

  -- the next term, as it is read
  pub entry_with_term : (terms : List Term) (k : ℕ) (d : Term) (x y : ℕ) → terms ≡ op.terms → k < length terms → x ≡ with_terms m op knowns (take k op.terms) a i j
      → y ≡ combined_at m (get_or terms k d).minus x (term_table m op knowns (get_or terms k d) i j) → y ≡ with_terms m op knowns (take (k + 1) op.terms) a i j
  entry_with_term terms k d x y same within x_is y_is =
      let within_own : k < length op.terms = omega (arith, ap length same) in
      rw (take_more op.terms k d within_own) (one_more k (get_or op.terms k d) x y x_is (rw same at y_is))

-- so many terms leave residues
pub HasResidues-so_far : (c : Candidate) → IsCandidate c → (terms : List Term) → HasResidues c.m (with_terms c.m c.op.now (knowns_of c) terms (entry (work_of c)))
HasResidues-so_far c is terms =
    let pos : 0 < c.m = omega (arith, is.modulus.at_least_two) in
    HasResidues-terms c.m c.op.now (knowns_of c) terms (entry (work_of c)) pos (HasResidues-entry c.m (work_of c) pos (AreResidues-nth c.m c.matrices.now c.bind.now.work is.residues))
