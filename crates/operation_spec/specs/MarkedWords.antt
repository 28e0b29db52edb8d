-- Words of an equation, as definitions speak of them.
use Rattle.std.specs.Prelude.{ℕ, List, ◌∷◌, drop, codes, map, Option, Some, None, ◌&&◌, if◌then◌else◌}
use Rattle.text_scan.specs.Lines.{begins_with}
use Rattle.operation_spec.specs.declared.marked_words.MarkedWord.{MarkedWord}
use Rattle.operation_spec.specs.declared.left_sides.ProductFront.{ProductFront}
use Rattle.operation_spec.specs.declared.left_sides.LeftSideFront.{LeftSideFront}
use Rattle.operation_spec.specs.declared.equation.Product.{Product}
use Rattle.operation_spec.specs.Equations.{Marked, Front, LeftFront, is_factor, is_plain, is_plus_or_minus, side_of}

abbrev pub marked_word : MarkedWord → Marked
marked_word m = record { word = m.word.now; primed = m.primed }

abbrev pub marked_words : List MarkedWord → List Marked
marked_words words = map marked_word words

abbrev pub front_seen : ProductFront → Front
front_seen p = record { first = marked_word p.first; second = marked_word p.second; rest = marked_words p.rest.now }

abbrev pub left_front_seen : LeftSideFront → LeftFront
left_front_seen front = record { left = front.left; rest = marked_words front.rest.now }

-- the words behind a word and its '
abbrev pub behind_prime : List (List ℕ) → List (List ℕ)
behind_prime words = drop (if begins_with (codes "'") words then 1 else 0) words

-- the product that a sign and F * G say
abbrev pub product_said : List (List ℕ) → Marked → Marked → Marked → Product
product_said names sign f g = record { minus = is_plain (codes "-") sign; first = side_of names f; second = side_of names g }

-- `+ F * G` or `- F * G` in front
abbrev pub signed_at : List (List ℕ) → List Marked → Option Product
signed_at names (sign ∷ f ∷ times ∷ g ∷ rest) = if is_plus_or_minus sign && is_factor f && is_plain (codes "*") times && is_factor g then Some (product_said names sign f g) else None
signed_at names _ = None
