use Rattle.std.proofs.Common.{◌≡◌, ◌++◌, drop, map}
use Rattle.std.specs.List.{flat_map}
use Rattle.operation_spec.specs.OperationLines.{term_words}
use Rattle.operation_spec.specs.WordTexts.{words_text}
use Rattle.worksheet_text.proofs.equation_text.put_terms.Given as goal

-- what is appended and the text of the terms left is the text of all terms
abbrev pub invariant-loop-term : goal.invariant-loop-term
invariant-loop-term l = l.out.items ++ words_text (flat_map (term_words (map (λ o. o.name) l.knowns)) (drop l.term-index l.terms))
    ≡ l.fn.out.items ++ words_text (flat_map (term_words (map (λ o. o.name) l.knowns)) l.terms)
