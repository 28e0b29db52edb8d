-- Lines of a text that another follows. Cited by the laws of what is read line by line.
use Rattle.std.proofs.Common.{◌≡◌, ℕ, ◌<◌, false, ◌==◌, List, ◌∷◌, length, Ok, refl}
use Rattle.std.proofs.lemmas.Bool.{ne_eqb}
use Rattle.text_scan.specs.LineOrder.{AreLines}
use Rattle.text_scan.specs.Lines.{Line, inner_line}
use Rattle.text_scan.proofs.LineOrders.{AreLines-inner, AreLines-parts}

pub AreLines-others : (end : ℕ) (line : Line) (lines : List Line) → AreLines end (line ∷ lines) → AreLines end lines
AreLines-others end line lines are = (AreLines-parts are).others

-- a line that another follows isn't the text's last
pub number-inside : (end : ℕ) (line : Line) (lines : List Line) → AreLines end (line ∷ lines) → 0 < length lines → (line.number == end) ≡ false
number-inside end line lines are more = ne_eqb line.number end (AreLines-inner line lines are more)

pub inner_line-inside : (end : ℕ) (line : Line) (lines : List Line) → AreLines end (line ∷ lines) → 0 < length lines → inner_line end (line ∷ lines) ≡ Ok (line, lines)
inner_line-inside end line lines are more = rw (number-inside end line lines are more) refl
