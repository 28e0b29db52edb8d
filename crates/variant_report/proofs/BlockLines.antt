-- The lines of blocks, one behind the other, for code that goes by places.
use Rattle.std.proofs.Common.{◌≡◌, ℕ, zero, suc, ◌+◌, ◌<◌, List, [], ◌∷◌, ◌++◌, length, get_or, drop, map, refl, sym, ap, ◌∙◌, add-one, append_assoc, arith}
use Rattle.std.proofs.lemmas.List.{length-map}
use Rattle.operation_spec.specs.declared.operation.Operation.{Operation}
use Rattle.equation.specs.declared.job.Place.{Place}
use Rattle.block_values.specs.Trees.{Tree}
use Rattle.variant_report.specs.PmeTexts.{block_line, block_lines}

-- the lines from a place on: that of the block there, and those behind it
lines_at : {X : Type 0} (f : X → Tree) (op : Operation) (places : List Place) (blocks : List X) (i : ℕ) (p : Place) (x : X)
    → i < length places → i < length blocks
    → block_lines op (drop i places) (map f (drop i blocks))
    ≡ block_line op (get_or places i p) (f (get_or blocks i x)) ++ block_lines op (drop (suc i) places) (map f (drop (suc i) blocks))
lines_at f op [] blocks i p x at there = absurd (omega arith)
lines_at f op (q ∷ places) [] i p x at there = absurd (omega arith)
lines_at f op (q ∷ places) (y ∷ blocks) zero p x at there = refl
lines_at f op (q ∷ places) (y ∷ blocks) (suc i) p x at there = lines_at f op places blocks i p x (omega arith) (omega arith)

-- the line of the block at a place is appended: with the lines behind it all stand there
pub next_line : {X : Type 0} (f : X → Tree) (op : Operation) (places : List Place) (blocks : List X) (i : ℕ) (p : Place) (x : X) (before after all : List ℕ)
    → i < length places → length blocks ≡ length places
    → after ≡ before ++ block_line op (get_or places i p) (f (get_or blocks i x))
    → before ++ block_lines op (drop i places) (map f (drop i blocks)) ≡ all
    → after ++ block_lines op (drop (i + 1) places) (map f (drop (i + 1) blocks)) ≡ all
next_line f op places blocks i p x before after all at same e so_far =
    rw (add-one, e, append_assoc, ← lines_at f op places blocks i p x at (omega arith)) so_far

-- two lists that are seen as one have one length
pub counted : {X Y Z : Type 0} (f : X → Z) (g : Y → Z) (xs : List X) (ys : List Y) → map f xs ≡ map g ys → length xs ≡ length ys
counted f g xs ys same = sym (length-map xs f) ∙ ap length same ∙ length-map ys g
