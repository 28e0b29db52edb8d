use Rattle.std.proofs.Common.{◌≡◌, ◌≤◌, ◌∙◌, Some, None, drop, length, arith, length-drop}
use Rattle.std.proofs.lemmas.List.{take_rest}
use Rattle.operation_spec.specs.OperationFaults.{names_of}
use Rattle.operation_spec.specs.MarkedWords.{marked_words, signed_at}
use Rattle.operation_spec.proofs.EquationSteps.{none_more, product_more, refused}
use Rattle.operation_spec.proofs.equation_words.products_of.Goals as goal

pub loop-at-preserved : goal.loop-at-preserved
loop-at-preserved c =
    let words = c.args.words.now in
    let at = c.loop-at.at in
    let names = names_of c.args.work.now c.args.knowns.now in
    let four : 4 ≤ length (drop at words) = simp take_rest at c.in-Some.ensures.four in
    let found : Some c.in-Some.product ≡ signed_at names (marked_words (drop at words)) = simp take_rest at c.in-Some.ensures.product in
    record {
      within = omega (arith, four, length-drop at words);
      products = rw c.in_ok-push-in-Some.ensures.ok (product_more names c.loop-at.products words at c.in-Some.product found ∙ c.loop-at.invariant.products);
    }

pub returns-in-None : goal.returns-in-None
returns-in-None c =
    let words = c.args.words.now in
    let at = c.loop-at.at in
    let names = names_of c.args.work.now c.args.knowns.now in
    let none : None ≡ signed_at names (marked_words (drop at words)) = simp take_rest at c.in-None.ensures.product in
    refused names c.loop-at.products (marked_words (drop at words)) (marked_words words) c.args.number c.loop-at.invariant.products (none_more names words at c.loop-at-test.true none)
