-- An equation as it is written, over operands by their numbers: the work operand is 0, and known operand k is k + 1.
use Rattle.std.specs.Prelude.{ℕ, zero, suc, ◌+◌, List, [], ◌∷◌, ◌++◌, codes, map, slice_index_or, Option, Some, None, Bool, true, false, ◌&&◌, ◌||◌, not, ◌==◌, if◌then◌else◌}
use Rattle.std.specs.List.{flat_map, list_all}
use Rattle.std.specs.Str.{bytes_eq}
use Rattle.structure_rules.specs.declared.Structure.{Structure}
use Rattle.structure_rules.specs.declared.Structure.TheVariants as structures
use Rattle.text_scan.specs.Names.{number_of}
use Rattle.text_scan.specs.Words.{is_name}
use Rattle.operation_spec.specs.declared.equation.Side.{Side}
use Rattle.operation_spec.specs.declared.equation.Product.{Product}
use Rattle.operation_spec.specs.declared.equation.Equation.{Equation}
use Rattle.operation_spec.specs.declared.equation.LeftSide.{LeftSide}
use Rattle.operation_spec.specs.declared.equation.LeftSide.TheVariants.{Solution, OnLeft, OnRight, OnBoth, LuFactors, LdlFactors}
use Rattle.operation_spec.specs.declared.operation.Operation.{Operation}
use Rattle.operation_spec.specs.declared.operation.Operand.{Operand}
use Rattle.operation_spec.specs.declared.operation.Factor.{Factor}
use Rattle.operation_spec.specs.declared.operation.Term.{Term}
use Rattle.operation_spec.specs.declared.operation.Form.{Form}
use Rattle.operation_spec.specs.declared.operation.Form.TheVariants.{Assign, Left, Right, Sylvester, Lu, Ldl}

-- ---- its words

-- a word, and whether ' stands behind it
pub record Marked : Type 0 where
  pub word : List ℕ
  pub primed : Bool

abbrev pub is_prime : List ℕ → Bool
is_prime w = bytes_eq w (codes "'")

-- each ' goes with the word before it
abbrev pub marked : List (List ℕ) → List Marked
marked [] = []
marked (w ∷ []) = record { word = w; primed = false } ∷ []
marked (w ∷ v ∷ words) = if is_prime v then record { word = w; primed = true } ∷ marked words else record { word = w; primed = false } ∷ marked (v ∷ words)

-- this word, and no ' behind it
abbrev pub is_plain : List ℕ → Marked → Bool
is_plain text m = not m.primed && bytes_eq m.word text

abbrev pub is_plus_or_minus : Marked → Bool
is_plus_or_minus m = is_plain (codes "+") m || is_plain (codes "-") m

-- a name, perhaps with ' behind it
abbrev pub is_factor : Marked → Bool
is_factor m = is_name m.word

abbrev pub side_of : List (List ℕ) → Marked → Side
side_of names m = record { operand = number_of names m.word; primed = m.primed }

-- ---- reading it

-- `F * G`, and what follows
pub record Front : Type 0 where
  pub first : Marked
  pub second : Marked
  pub rest : List Marked

abbrev pub product_at : List Marked → Option Front
product_at (f ∷ times ∷ g ∷ rest) = if is_factor f && is_plain (codes "*") times && is_factor g then Some (record { first = f; second = g; rest = rest }) else None
product_at _ = None

-- a left side, and what follows
pub record LeftFront : Type 0 where
  pub left : LeftSide
  pub rest : List Marked

-- T * X, or X * T
abbrev pub one_product : List (List ℕ) → Front → Option LeftFront
one_product names p =
    if is_plain (codes "X") p.second then Some (record { left = OnLeft (side_of names p.first); rest = p.rest })
    else if is_plain (codes "X") p.first then Some (record { left = OnRight (side_of names p.second); rest = p.rest })
    else None

-- T * X + X * U, or with -
abbrev pub two_products : List (List ℕ) → Front → Marked → Option Front → Option LeftFront
two_products names p sign None = None
two_products names p sign (Some q) =
    if is_plain (codes "X") p.second && is_plain (codes "X") q.first
    then Some (record { left = OnBoth (side_of names p.first) (side_of names q.second) (is_plain (codes "-") sign); rest = q.rest })
    else None

abbrev pub left_of_products : List (List ℕ) → Option Front → Option LeftFront
left_of_products names None = None
left_of_products names (Some p) = more p.rest
  where
    more : List Marked → Option LeftFront
    more [] = one_product names p
    more (sign ∷ rest) = if is_plus_or_minus sign then two_products names p sign (product_at rest) else one_product names p

abbrev pub left_at : List (List ℕ) → List Marked → Option LeftFront
left_at names (a ∷ b ∷ rest) =
    if is_plain (codes "lu") a && is_plain (codes "X") b then Some (record { left = LuFactors; rest = rest })
    else if is_plain (codes "ldl") a && is_plain (codes "X") b then Some (record { left = LdlFactors; rest = rest })
    else if is_plain (codes "X") a && is_plain (codes "=") b then Some (record { left = Solution; rest = b ∷ rest })
    else left_of_products names (product_at (a ∷ b ∷ rest))
left_at names _ = None

-- any number of `+ F * G` or `- F * G`, and nothing else
abbrev pub products_of : List (List ℕ) → List Marked → Option (List Product)
products_of names [] = Some []
products_of names (sign ∷ f ∷ times ∷ g ∷ rest) =
    if is_plus_or_minus sign && is_factor f && is_plain (codes "*") times && is_factor g
    then before (record { minus = is_plain (codes "-") sign; first = side_of names f; second = side_of names g }) (products_of names rest)
    else None
  where
    before : Product → Option (List Product) → Option (List Product)
    before p None = None
    before p (Some products) = Some (p ∷ products)
products_of names _ = None

-- `= W TERMS`, behind a left side
abbrev pub with_right : List (List ℕ) → Option LeftFront → Option Equation
with_right names None = None
with_right names (Some front) = right front.rest
  where
    all : Marked → Option (List Product) → Option Equation
    all w None = None
    all w (Some products) = Some (record { left = front.left; first = number_of names w.word; products = products })

    right : List Marked → Option Equation
    right (equals ∷ w ∷ rest) = if is_plain (codes "=") equals && not w.primed && is_name w.word then all w (products_of names rest) else None
    right _ = None

-- the equation that words say, over operands with these names; none where it isn't of its form
unfoldable pub equation_of : List (List ℕ) → List (List ℕ) → Option Equation
equation_of names words = with_right names (left_at names (marked words))

-- ---- what it says of its operands

abbrev pub sides_of_left : LeftSide → List Side
sides_of_left (OnLeft t) = t ∷ []
sides_of_left (OnRight t) = t ∷ []
sides_of_left (OnBoth t u minus) = t ∷ u ∷ []
sides_of_left _ = []

-- all that stand in products, T and U first
abbrev pub sides_of : Equation → List Side
sides_of e = sides_of_left e.left ++ flat_map (λ p. p.first ∷ p.second ∷ []) e.products

-- rows and columns by the numbers of their dimensions
pub record Size : Type 0 where
  pub rows : ℕ
  pub cols : ℕ

abbrev pub nth_operand : Operand → List Operand → ℕ → Operand
nth_operand work knowns zero = work
nth_operand work knowns (suc k) = slice_index_or knowns k work

abbrev pub size_of : Operand → List Operand → Side → Size
size_of work knowns side = let o = nth_operand work knowns side.operand in
    if side.primed then record { rows = o.cols; cols = o.rows } else record { rows = o.rows; cols = o.cols }

abbrev pub same_size : Size → Size → Bool
same_size a b = a.rows == b.rows && a.cols == b.cols

-- the product of a and b exists, and has this size
abbrev pub product_has : Size → Size → Size → Bool
product_has size a b = a.cols == b.rows && a.rows == size.rows && b.cols == size.cols

-- each summand of the left side has this size, where X has the size of the work operand
abbrev pub left_has : Operand → List Operand → Size → LeftSide → Bool
left_has work knowns size left = has left
  where
    x : Size
    x = record { rows = work.rows; cols = work.cols }

    has : LeftSide → Bool
    has (OnLeft t) = product_has size (size_of work knowns t) x
    has (OnRight t) = product_has size x (size_of work knowns t)
    has (OnBoth t u minus) = product_has size (size_of work knowns t) x && product_has size x (size_of work knowns u)
    has _ = same_size size x

-- the dimensions of each product and of both sides agree: all summands have the size of the right side's first operand
abbrev pub sizes_agree : Operand → List Operand → Equation → Bool
sizes_agree work knowns e = let size = size_of work knowns (record { operand = e.first; primed = false }) in
    left_has work knowns size e.left && list_all (λ p. product_has size (size_of work knowns p.first) (size_of work knowns p.second)) e.products

abbrev pub is_general : Structure → Bool
is_general structures.General = true
is_general _ = false

abbrev pub is_lower : Structure → Bool
is_lower structures.Lower = true
is_lower _ = false

abbrev pub is_upper : Structure → Bool
is_upper structures.Upper = true
is_upper _ = false

-- general, lower or upper
abbrev pub may_be_work : Structure → Bool
may_be_work s = is_general s || is_lower s || is_upper s

-- lower, unitlower, upper, unitupper or diagonal
abbrev pub is_triangle : Structure → Bool
is_triangle structures.General = false
is_triangle structures.Symmetric = false
is_triangle _ = true

-- the operand is a triangular factor on a dimension
abbrev pub is_triangle_on : Operand → List Operand → ℕ → Side → Bool
is_triangle_on work knowns dim side = let o = nth_operand work knowns side.operand in is_triangle o.structure && o.rows == dim

-- the conditions of the form
abbrev pub meets_form : Operand → List Operand → LeftSide → Bool
meets_form work knowns Solution = true
meets_form work knowns (OnLeft t) = is_triangle_on work knowns work.rows t
meets_form work knowns (OnRight t) = is_triangle_on work knowns work.cols t
meets_form work knowns (OnBoth t u minus) = is_general work.structure && is_triangle_on work knowns work.rows t && is_triangle_on work knowns work.cols u
meets_form work knowns LuFactors = is_general work.structure && work.rows == work.cols
meets_form work knowns LdlFactors = is_lower work.structure

abbrev pub uses_operand : Equation → ℕ → Bool
uses_operand e n = not (list_all (λ side. not (side.operand == n)) (sides_of e))

-- one of the operands has the dimension
abbrev pub has_dim : Operand → List Operand → ℕ → Bool
has_dim work knowns d = not (list_all (λ o. not (o.rows == d || o.cols == d)) (work ∷ knowns))

-- ---- the equation of an operation

abbrev pub side_of_factor : Factor → Side
side_of_factor f = record { operand = f.known + 1; primed = f.primed }

abbrev pub left_of_form : Form → LeftSide
left_of_form Assign = Solution
left_of_form (Left t) = OnLeft (side_of_factor t)
left_of_form (Right t) = OnRight (side_of_factor t)
left_of_form (Sylvester t u minus) = OnBoth (side_of_factor t) (side_of_factor u) minus
left_of_form Lu = LuFactors
left_of_form Ldl = LdlFactors

abbrev pub product_of_term : Term → Product
product_of_term term = record { minus = term.minus; first = side_of_factor term.first; second = side_of_factor term.second }

abbrev pub equation_of_operation : Operation → Equation
equation_of_operation op = record { left = left_of_form op.form; first = 0; products = map product_of_term op.terms }
