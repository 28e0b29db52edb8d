use Rattle.std.proofs.Common.{◌≡◌, ◌≢◌, List, sym, refl, ap, ◌∙◌, subst, get_or}
use Rattle.std.proofs.lemmas.List.{get_or_default}
use Rattle.residue_sums.specs.Grids.{AreResidues}
use Rattle.structure_rules.specs.declared.Structure.{Structure}
use Rattle.structure_rules.specs.declared.Structure.TheVariants.{General}
use Rattle.operation_spec.specs.declared.operation.Operand.{Operand}
use Rattle.equation.proofs.FactorSizes.{matrix-has, read_matrix, viewed_square}
use Rattle.equation.proofs.FactorResidues.{HasResidues-view}
use Rattle.equation.proofs.views.factor_view.Goals as goal

pub returns : goal.returns
returns c =
    let is = c.requires in
    let s : Structure = (get_or c.as_slice-2.result.now c.args.f.known c.index-as_slice-at.result).structure in
    let same = read_matrix c.args.op.now c.args.matrices.now c.args.bind.now is.valid is.fits c.args.f.known c.requires.known
    c.as_slice.result.now c.index-matrices-number.result c.as_slice.ensures c.index-matrices-number.is in
    let square : s ≢ General → c.index-matrices-number.result.rows ≡ c.index-matrices-number.result.cols
    = viewed_square c.args.op.now c.args.matrices.now c.args.bind.now is.valid is.fits c.args.f.known c.requires.known
    c.as_slice-2.result.now c.index-as_slice-at.result c.as_slice.result.now c.index-matrices-number.result c.as_slice-2.ensures c.as_slice.ensures c.index-matrices-number.is in
    let residues : AreResidues c.args.m c.index-matrices-number.result = subst (AreResidues c.args.m) (sym same)
    (matrix-has c.args.op.now c.args.matrices.now c.args.bind.now is.valid is.fits (AreResidues c.args.m) is.residues c.args.f.known c.requires.known) in
    record {
      matrix = same;
      structure = ap (λ (o : Operand). o.structure) (ap (λ (all : List Operand). get_or all c.args.f.known c.index-as_slice-at.result) c.as_slice-2.ensures
          ∙ get_or_default c.args.op.now.knowns c.args.f.known c.index-as_slice-at.result c.args.op.now.work c.requires.known);
      primed = refl;
      readable = record {
        square = square;
        below = HasResidues-view c.args.m c.args.f.primed s c.index-matrices-number.result is.modulus.at_least_two residues;
      };
    }
