-- Names by their numbers.
use Rattle.std.proofs.Common.{◌≡◌, ℕ, ◌+◌, Bool, false, cond, not, List, [], ◌∷◌, map, ap, refl, arith}
use Rattle.std.specs.List.{prefix_len}
use Rattle.std.specs.Str.{bytes_eq}
use Rattle.text_scan.specs.Names.{number_of}
use Rattle.operation_spec.specs.declared.operation.Operand.{Operand}
use Rattle.operation_spec.specs.OperationFaults.{names_of}

prefix_len-map : {X Y : Type 0} (p : Y → Bool) (f : X → Y) (xs : List X) → prefix_len p (map f xs) ≡ prefix_len (λ x. p (f x)) xs
prefix_len-map p f [] = refl
prefix_len-map p f (x ∷ xs) = ap (λ n. cond (p (f x)) (1 + n) 0) (prefix_len-map p f xs)

-- a known operand's number, where the work operand has another name
pub known_number_is : (work : Operand) (knowns : List Operand) (text : List ℕ) (n : ℕ) → bytes_eq work.name text ≡ false → n ≡ prefix_len (λ (o : Operand). not (bytes_eq o.name text)) knowns
    → n + 1 ≡ number_of (names_of work knowns) text
known_number_is work knowns text n other n_is =
    let before = prefix_len-map (λ name. not (bytes_eq name text)) (λ (o : Operand). o.name) knowns in
    rw other (omega (arith, n_is, before))
