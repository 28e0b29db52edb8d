-- Operations by their numbers.
use Rattle.std.proofs.Common.{◌≡◌, ℕ, ◌+◌, Bool, cond, not, List, [], ◌∷◌, map, ap, refl, sym, ◌∙◌}
use Rattle.std.specs.List.{prefix_len}
use Rattle.std.specs.Str.{bytes_eq}
use Rattle.text_scan.specs.Names.{number_of}
use Rattle.operation_spec.specs.declared.operation.Operation.{Operation}

prefix_len-map : {X Y : Type 0} (p : Y → Bool) (f : X → Y) (xs : List X) → prefix_len p (map f xs) ≡ prefix_len (λ x. p (f x)) xs
prefix_len-map p f [] = refl
prefix_len-map p f (x ∷ xs) = ap (λ n. cond (p (f x)) (1 + n) 0) (prefix_len-map p f xs)

-- those before the first with a name are counted by its number
pub operation_number_is : (ops : List Operation) (text : List ℕ) (n : ℕ) → n ≡ prefix_len (λ (op : Operation). not (bytes_eq op.name text)) ops → n ≡ number_of (map (λ (op : Operation). op.name) ops) text
operation_number_is ops text n before = before ∙ sym (prefix_len-map (λ name. not (bytes_eq name text)) (λ (op : Operation). op.name) ops)
