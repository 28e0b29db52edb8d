use Rattle.std.proofs.Common.{◌≡◌, ℕ, List, ◌+◌, ◌-◌, ◌≤◌, length, take, drop, ap, ◌∙◌, arith}
use Rattle.std.proofs.lemmas.List.{drop_all}
use Rattle.outside_io.proofs.Pieces.{drop-piece}
use Rattle.outside_io.proofs.memory_source.MemSourceSource.read.Goals as goal

pub returns-clause-bytes : goal.returns-clause-bytes
returns-clause-bytes c =
    let source = c.self.inside in
    let count = c.min-count.result in
    let within : source.at + count ≤ length source.bytes.items = omega arith in
    let copied : c.copy_from_slice.new.self ≡ take (source.at + count - source.at) (drop source.at source.bytes.items) =
    c.copy_from_slice.ensures.after ∙ ap (λ (bytes : List ℕ). take (source.at + count - source.at) (drop source.at bytes)) c.deref-2.ensures.value in
    rw (← c.self.view_is) (drop-piece _ _ _ _ _ copied within, λ none room. drop_all (source.at + count) source.bytes.items (omega arith))
