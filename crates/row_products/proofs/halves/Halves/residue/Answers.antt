use Rattle.std.proofs.Common.{◌≡◌, ℕ, ◌+◌, ◌*◌, ◌-◌, ◌/◌, ◌%◌, ◌^◌, ◌<◌, ap, ◌∙◌, arith}
use Rattle.row_products.proofs.HalfSums.{IsHalfSums-high, IsHalfSums-whole}
use Rattle.row_products.proofs.Reciprocals.{reduced_by_halves}
use Rattle.row_products.proofs.halves.Halves.residue.Goals as goal

pub returns-clause-value : goal.returns-clause-value
returns-clause-value c = λ f n few below halves.
    let m : ℕ = c.args.m in
    let high : ℕ = c.args.self.high in
    let rest : ℕ = (c.args.self.low + (2 ^ 64 - high * 2 ^ 32 % 2 ^ 64)) % 2 ^ 64 in
    let room : high < 2 ^ 63 = IsHalfSums-high few below halves in
    let top : c.residue-top.result ≡ (high + rest / 2 ^ 32) % m = c.residue-top.ensures.value ∙ ap (λ t. t % m) (omega (arith, room)) in
    let whole : c.residue.result ≡ (c.residue-top.result * 2 ^ 32 % 2 ^ 64 + rest % 2 ^ 32) % m = c.residue.ensures.value in
    whole ∙ ap (λ t. (t + rest % 2 ^ 32) % m) (omega (arith, top, c.residue-top.ensures.small)) ∙ reduced_by_halves high rest m
    ∙ ap (λ t. t % m) (IsHalfSums-whole few below halves)
