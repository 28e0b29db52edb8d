use Rattle.std.proofs.Common.{ap, Err, inl, inr}
use Rattle.issue_list.specs.declared.fault.IssueFault.{IssueFault}
use Rattle.flame_top.proofs.steps.list_steps.Goals as goal

pub too_many_parts_output-requires-clause-has : goal.too_many_parts_output-requires-clause-has
too_many_parts_output-requires-clause-has c =
    let f = c.in-Err-TooManyParts in (f.ensures.parts f.statement f.dim (ap (λ (e : IssueFault). Err e) f.field-0-is)).2.own.has

pub returns-in_ok-no_variant_output-in-Err-NoVariant : goal.returns-in_ok-no_variant_output-in-Err-NoVariant
returns-in_ok-no_variant_output-in-Err-NoVariant c =
    let f = c.in-Err-NoVariant in
    let none = f.ensures.none f.statement (ap (λ (e : IssueFault). Err e) f.field-0-is) in
    inr (inl (none.0, (f.statement, none.1, c.in_ok-no_variant_output-in-Err-NoVariant.ensures)))

pub returns-in_ok-output-in-Err-TooManyParts : goal.returns-in_ok-output-in-Err-TooManyParts
returns-in_ok-output-in-Err-TooManyParts c =
    let f = c.in-Err-TooManyParts in
    let long = f.ensures.parts f.statement f.dim (ap (λ (e : IssueFault). Err e) f.field-0-is) in
    inr (inr (inl ((long.0, long.1), (f.statement, f.dim, long.2, c.in_ok-output-in-Err-TooManyParts.ensures))))
