use Rattle.std.proofs.Common.{◌≡◌, ◌++◌, List, ap₂, refl, sym, ◌∙◌, ℕ, arith}
use Rattle.flash_blocks.specs.Blocks.{gathered, grid_of}
use Rattle.flash_blocks.specs.Flashes.{flash_block}
use Rattle.flash_blocks.proofs.FirstRows.{first_items, length-first_rows, map-append_row}
use Rattle.flash_blocks.proofs.gathering.gather.Goals as goal

pub append_row-requires : goal.append_row-requires
append_row-requires c = record { shapes = c.requires; row_in = omega arith }

pub loop-r-preserved : goal.loop-r-preserved
loop-r-preserved c =
    let table = gathered c.args.flash.now.b (flash_block c.args.flash.now) in
    c.in_ok-append_row.ensures
    ∙ ap₂ (λ (xs : List ℕ) (n : ℕ). xs ++ first_items (table c.loop-r.r) n) c.loop-r.invariant (sym c.cols-cols.ensures)
    ∙ map-append_row table c.cols-cols.result c.loop-r.r

pub from_entries-requires : goal.from_entries-requires
from_entries-requires c =
    let done : c.loop-r.r ≡ c.rows-rows.result = omega arith in
    rw (c.loop-r.invariant, done) (length-first_rows (gathered c.args.flash.now.b (flash_block c.args.flash.now)) c.cols-cols.result c.rows-rows.result)

pub returns : goal.returns
returns c =
    let done : c.loop-r.r ≡ c.rows-rows.result = omega arith in
    rw (c.from_entries.ensures, c.loop-r.invariant, done, c.rows-rows.ensures, c.cols-cols.ensures)
    (refl {a = grid_of (gathered c.args.flash.now.b (flash_block c.args.flash.now)) c.args.flash.now.rows c.args.flash.now.cols})
