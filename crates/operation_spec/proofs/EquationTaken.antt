-- The words of an equation that was read are those of what it says. Cited by the laws of operation texts.
use Rattle.std.proofs.Common.{◌≡◌, ℕ, ◌<◌, Bool, true, not, ◌&&◌, List, [], ◌∷◌, ◌++◌, length, codes, map, IfSome, Option, Some, None, flat_map, refl, sym, ap, ◌∙◌, subst, arith, append_assoc}
use Rattle.std.proofs.lemmas.Bool.{and_parts, not-true, cond_both}
use Rattle.std.proofs.lemmas.List.Elements.{All-head}
use Rattle.text_scan.specs.Names.{number_of}
use Rattle.text_scan.specs.Words.{is_name}
use Rattle.operation_spec.specs.declared.equation.Side.{Side}
use Rattle.operation_spec.specs.declared.equation.Product.{Product}
use Rattle.operation_spec.specs.declared.equation.Equation.{Equation}
use Rattle.operation_spec.specs.declared.equation.LeftSide.{LeftSide}
use Rattle.operation_spec.specs.declared.equation.LeftSide.TheVariants.{OnBoth}
use Rattle.operation_spec.specs.Equations.{Marked, marked, is_plain, is_plus_or_minus, is_factor, side_of, Front, LeftFront, product_at, one_product, two_products, left_of_products, left_at, products_of, with_right, equation_of, sides_of_left, sides_of}
use Rattle.operation_spec.specs.OperationFaults.{factor_of, form_of, term_of}
use Rattle.operation_spec.specs.OperationLines.{factor_words, sign_word, term_words, left_words}
use Rattle.operation_spec.proofs.FoundNames.{nth_name-number_of}
use Rattle.operation_spec.proofs.KnownSides.{IsKnown, AreKnownSides, known_behind, sides_of_products}
use Rattle.operation_spec.proofs.ListParts.{All-front, All-behind}
use Rattle.operation_spec.proofs.ManyTests.{all_of_three, all_of_four}
use Rattle.operation_spec.proofs.UnmarkedWords.{unmark, unmarked, unmarked-marked, plain_is, sign_is, factor_is}

-- ---- words around others that were read as these, in other brackets

one_regrouped : {W : Type 0} (all f g f_is g_is rest : List W) (times : W) → all ≡ f ++ (times ∷ (g ++ rest)) → f ≡ f_is → g ≡ g_is
    → all ≡ (f_is ++ (times ∷ g_is)) ++ rest
one_regrouped all f g f_is g_is rest times e f_same g_same = cc (append_assoc f (times ∷ g) rest)

two_regrouped : {W : Type 0} (all f before sign after g others f_is g_is rest : List W) (times x s : W) → all ≡ f ++ (times ∷ (before ++ (sign ++ others)))
    → others ≡ after ++ (times ∷ (g ++ rest)) → f ≡ f_is → before ≡ x ∷ [] → sign ≡ s ∷ [] → after ≡ x ∷ [] → g ≡ g_is
    → all ≡ (f_is ++ (times ∷ x ∷ s ∷ x ∷ times ∷ g_is)) ++ rest
two_regrouped all f before sign after g others f_is g_is rest times x s e e_others f_same before_is signed after_is g_same =
    let second : others ≡ x ∷ times ∷ (g ++ rest) = rw after_is at e_others in
    let middle : before ++ (sign ++ others) ≡ x ∷ s ∷ others = rw (before_is, signed) refl in
    cc (append_assoc f (times ∷ x ∷ s ∷ x ∷ times ∷ g) rest)

term_regrouped : {W : Type 0} (sign f star g rest f_is g_is others : List W) (s times : W) → sign ≡ s ∷ [] → f ≡ f_is → star ≡ times ∷ [] → g ≡ g_is → rest ≡ others
    → sign ++ (f ++ (star ++ (g ++ rest))) ≡ ((s ∷ f_is) ++ (times ∷ g_is)) ++ others
term_regrouped sign f star g rest f_is g_is others s times signed f_same starred g_same rest_same =
    rw (signed, starred, f_same, g_same, rest_same) (ap (λ (l : List _). s ∷ l) (sym (append_assoc f_is (times ∷ g_is) others)))

-- two words that are these, in front of the rest
two_plain : (text other : List ℕ) (a b : Marked) (rest : List Marked) → (is_plain text a && is_plain other b) ≡ true → unmarked (a ∷ b ∷ rest) ≡ text ∷ other ∷ unmarked rest
two_plain text other a b rest h =
    let both = and_parts (is_plain text a) (is_plain other b) h in
    ap (λ (l : List (List ℕ)). l ++ (unmark b ++ unmarked rest)) (plain_is text a both.0) ∙ ap (λ (l : List (List ℕ)). text ∷ (l ++ unmarked rest)) (plain_is other b both.1)

-- ---- products at the front

-- what was read of `F * G`
abbrev pub FrontTaken : List Marked → Front → Type 0
FrontTaken ms p = unmarked ms ≡ unmark p.first ++ (codes "*" ∷ (unmark p.second ++ unmarked p.rest))

star_taken : (f times g : Marked) (rest : List Marked) → (is_factor f && is_plain (codes "*") times && is_factor g) ≡ true
    → FrontTaken (f ∷ times ∷ g ∷ rest) (record { first = f; second = g; rest = rest })
star_taken f times g rest h =
    let parts = all_of_three (is_factor f) (is_plain (codes "*") times) (is_factor g) h in
    ap (λ (l : List (List ℕ)). unmark f ++ (l ++ (unmark g ++ unmarked rest))) (plain_is (codes "*") times parts.1)

front_taken : (ms : List Marked) → IfSome (product_at ms) (FrontTaken ms)
front_taken (f ∷ times ∷ g ∷ rest) =
    cond_both (is_factor f && is_plain (codes "*") times && is_factor g) _ None (λ o. IfSome o (FrontTaken (f ∷ times ∷ g ∷ rest))) (star_taken f times g rest) (λ _. tt)
front_taken _ = tt

-- ---- tests of what follows

-- + F * G, or with -
abbrev is_term : Marked → Marked → Marked → Marked → Bool
is_term sign f times g = is_plus_or_minus sign && is_factor f && is_plain (codes "*") times && is_factor g

-- = W
abbrev is_right : Marked → Marked → Bool
is_right equals w = is_plain (codes "=") equals && not w.primed && is_name w.word

module _ (work : List ℕ) (knowns : List (List ℕ)) where
  abbrev names : List (List ℕ)
  names = work ∷ knowns

  -- the words of a side that is a known operand
  side_words : (m : Marked) (others : List Side) → AreKnownSides (length names) (side_of names m ∷ others) → unmark m ≡ factor_words knowns (factor_of (side_of names m))
  side_words m others known =
      let first = All-head (IsKnown (length names)) (side_of names m) others known in
      sym (factor_is work knowns m first.some first.below)

  -- ---- the left side

  -- the words of a left side that was read, where its sides are known operands
  abbrev LeftTaken : List Marked → LeftFront → Type 0
  LeftTaken ms front = AreKnownSides (length names) (sides_of_left front.left) → unmarked ms ≡ left_words knowns (form_of front.left) ++ unmarked front.rest

  -- T * X, or X * T
  one_taken : (ms : List Marked) (p : Front) → FrontTaken ms p → IfSome (one_product names p) (LeftTaken ms)
  one_taken ms p e =
      let regrouped = λ (f_is g_is : List (List ℕ)). one_regrouped (unmarked ms) (unmark p.first) (unmark p.second) f_is g_is (unmarked p.rest) (codes "*") e in
      cond_both (is_plain (codes "X") p.second) _ _ (λ o. IfSome o (LeftTaken ms))
      (λ h known. regrouped _ _ (side_words p.first [] known) (plain_is (codes "X") p.second h))
      (λ _. cond_both (is_plain (codes "X") p.first) _ None (λ o. IfSome o (LeftTaken ms))
      (λ h known. regrouped _ _ (plain_is (codes "X") p.first h) (side_words p.second [] known))
      (λ _. tt))

  -- T * X + X * U, or with -
  both_words : (ms : List Marked) (f g sign : Marked) (rest : List Marked) (q : Front) → FrontTaken ms (record { first = f; second = g; rest = sign ∷ rest }) → FrontTaken rest q
      → is_plus_or_minus sign ≡ true → (is_plain (codes "X") g && is_plain (codes "X") q.first) ≡ true
      → LeftTaken ms (record { left = OnBoth (side_of names f) (side_of names q.second) (is_plain (codes "-") sign); rest = q.rest })
  both_words ms f g sign rest q e others signed h known =
      let both = and_parts (is_plain (codes "X") g) (is_plain (codes "X") q.first) h in
      let u = side_of names q.second in
      two_regrouped (unmarked ms) (unmark f) (unmark g) (unmark sign) (unmark q.first) (unmark q.second) (unmarked rest) _ _ (unmarked q.rest) (codes "*") (codes "X")
      (sign_word (is_plain (codes "-") sign)) e others (side_words f (u ∷ []) known) (plain_is (codes "X") g both.0) (sign_is sign signed)
      (plain_is (codes "X") q.first both.1) (side_words q.second [] (known_behind (length names) (side_of names f) (u ∷ []) known))

  two_taken : (ms : List Marked) (f g sign : Marked) (rest : List Marked) → FrontTaken ms (record { first = f; second = g; rest = sign ∷ rest }) → is_plus_or_minus sign ≡ true
      → (o : Option Front) → IfSome o (FrontTaken rest) → IfSome (two_products names (record { first = f; second = g; rest = sign ∷ rest }) sign o) (LeftTaken ms)
  two_taken ms f g sign rest e signed None none = tt
  two_taken ms f g sign rest e signed (Some q) others =
      cond_both (is_plain (codes "X") g && is_plain (codes "X") q.first) _ None (λ o. IfSome o (LeftTaken ms)) (both_words ms f g sign rest q e others signed) (λ _. tt)

  -- one product or two
  behind_product : (ms : List Marked) (f g : Marked) (rest : List Marked) → FrontTaken ms (record { first = f; second = g; rest = rest })
      → IfSome (left_of_products names (Some (record { first = f; second = g; rest = rest }))) (LeftTaken ms)
  behind_product ms f g [] e = one_taken ms (record { first = f; second = g; rest = [] }) e
  behind_product ms f g (sign ∷ rest) e =
      cond_both (is_plus_or_minus sign) _ _ (λ o. IfSome o (LeftTaken ms))
      (λ h. two_taken ms f g sign rest e h (product_at rest) (front_taken rest))
      (λ _. one_taken ms (record { first = f; second = g; rest = sign ∷ rest }) e)

  any_products : (ms : List Marked) (o : Option Front) → IfSome o (FrontTaken ms) → IfSome (left_of_products names o) (LeftTaken ms)
  any_products ms None none = tt
  any_products ms (Some p) e = behind_product ms p.first p.second p.rest e

  -- X, before =
  solution_words : (a b : Marked) (rest : List Marked) → (is_plain (codes "X") a && is_plain (codes "=") b) ≡ true → unmarked (a ∷ b ∷ rest) ≡ codes "X" ∷ unmarked (b ∷ rest)
  solution_words a b rest h =
      ap (λ (l : List (List ℕ)). l ++ unmarked (b ∷ rest)) (plain_is (codes "X") a (and_parts (is_plain (codes "X") a) (is_plain (codes "=") b) h).0)

  left_taken : (ms : List Marked) → IfSome (left_at names ms) (LeftTaken ms)
  left_taken (a ∷ b ∷ rest) =
      let Found = λ (o : Option LeftFront). IfSome o (LeftTaken (a ∷ b ∷ rest)) in
      cond_both (is_plain (codes "lu") a && is_plain (codes "X") b) _ _ Found (λ h _. two_plain (codes "lu") (codes "X") a b rest h)
      (λ _. cond_both (is_plain (codes "ldl") a && is_plain (codes "X") b) _ _ Found (λ h _. two_plain (codes "ldl") (codes "X") a b rest h)
      (λ _. cond_both (is_plain (codes "X") a && is_plain (codes "=") b) _ _ Found (λ h _. solution_words a b rest h)
      (λ _. any_products (a ∷ b ∷ rest) (product_at (a ∷ b ∷ rest)) (front_taken (a ∷ b ∷ rest)))))
  left_taken _ = tt

  -- ---- the terms

  -- the words of terms that were read, where their sides are known operands
  abbrev TermsTaken : List Marked → List Product → Type 0
  TermsTaken ms products = AreKnownSides (length names) (sides_of_products products) → unmarked ms ≡ flat_map (term_words knowns) (map term_of products)

  -- one term more
  term_taken : (sign f times g : Marked) (rest : List Marked) (products : List Product) → is_term sign f times g ≡ true → TermsTaken rest products
      → TermsTaken (sign ∷ f ∷ times ∷ g ∷ rest) (record { minus = is_plain (codes "-") sign; first = side_of names f; second = side_of names g } ∷ products)
  term_taken sign f times g rest products h others known =
      let parts = all_of_four (is_plus_or_minus sign) (is_factor f) (is_plain (codes "*") times) (is_factor g) h in
      let behind_f = known_behind (length names) (side_of names f) (side_of names g ∷ sides_of_products products) known in
      let behind_g = known_behind (length names) (side_of names g) (sides_of_products products) behind_f in
      term_regrouped (unmark sign) (unmark f) (unmark times) (unmark g) (unmarked rest) _ _ (flat_map (term_words knowns) (map term_of products))
      (sign_word (is_plain (codes "-") sign)) (codes "*") (sign_is sign parts.0) (side_words f (side_of names g ∷ sides_of_products products) known)
      (plain_is (codes "*") times parts.2) (side_words g (sides_of_products products) behind_f) (others behind_g)

  -- a term in front of others, which were read or not
  terms_from : (sign f times g : Marked) (rest : List Marked) (o : Option (List Product)) → products_of names rest ≡ o → IfSome o (TermsTaken rest)
      → IfSome (products_of names (sign ∷ f ∷ times ∷ g ∷ rest)) (TermsTaken (sign ∷ f ∷ times ∷ g ∷ rest))
  terms_from sign f times g rest None e none =
      rw e (cond_both (is_term sign f times g) None None (λ o. IfSome o (TermsTaken (sign ∷ f ∷ times ∷ g ∷ rest))) (λ _. tt) (λ _. tt))
  terms_from sign f times g rest (Some products) e others =
      rw e (cond_both (is_term sign f times g) _ None (λ o. IfSome o (TermsTaken (sign ∷ f ∷ times ∷ g ∷ rest))) (λ h. term_taken sign f times g rest products h others) (λ _. tt))

  terms_taken : (ms : List Marked) → IfSome (products_of names ms) (TermsTaken ms)
  terms_taken [] = λ known. refl
  terms_taken (sign ∷ f ∷ times ∷ g ∷ rest) = terms_from sign f times g rest (products_of names rest) refl (terms_taken rest)
  terms_taken _ = tt

  -- ---- the whole equation

  -- the words of an equation that was read, where its sides are known operands and its right side begins with the work operand
  abbrev Taken : List Marked → Equation → Type 0
  Taken ms e = e.first ≡ 0 → AreKnownSides (length names) (sides_of e)
      → unmarked ms ≡ left_words knowns (form_of e.left) ++ (codes "=" ∷ work ∷ flat_map (term_words knowns) (map term_of e.products))

  -- the first name is the work operand's
  work_word : (w : Marked) → number_of names w.word ≡ 0 → not w.primed ≡ true → unmark w ≡ work ∷ []
  work_word w first plain =
      let below : number_of names w.word < length names = omega arith in
      let found : work ≡ w.word = rw first at (nth_name-number_of names w.word below) in
      rw (not-true w.primed plain) (ap (λ (name : List ℕ). name ∷ []) (sym found))

  -- = W, and the terms
  right_words : (equals w : Marked) (rest : List Marked) (products : List Product) → is_right equals w ≡ true → number_of names w.word ≡ 0 → TermsTaken rest products
      → AreKnownSides (length names) (sides_of_products products) → unmarked (equals ∷ w ∷ rest) ≡ codes "=" ∷ work ∷ flat_map (term_words knowns) (map term_of products)
  right_words equals w rest products h first terms known =
      let parts = all_of_three (is_plain (codes "=") equals) (not w.primed) (is_name w.word) h in
      ap (λ (l : List (List ℕ)). l ++ (unmark w ++ unmarked rest)) (plain_is (codes "=") equals parts.0)
      ∙ ap (λ (l : List (List ℕ)). codes "=" ∷ (l ++ unmarked rest)) (work_word w first parts.1)
      ∙ ap (λ (l : List (List ℕ)). codes "=" ∷ work ∷ l) (terms known)

  right_taken : (ms : List Marked) (left : LeftSide) (equals w : Marked) (rest : List Marked) (products : List Product) → LeftTaken ms (record { left = left; rest = equals ∷ w ∷ rest })
      → TermsTaken rest products → is_right equals w ≡ true → Taken ms (record { left = left; first = number_of names w.word; products = products })
  right_taken ms left equals w rest products front terms h first known =
      front (All-front (IsKnown (length names)) (sides_of_left left) (sides_of_products products) known)
      ∙ ap (λ (l : List (List ℕ)). left_words knowns (form_of left) ++ l)
      (right_words equals w rest products h first terms (All-behind (IsKnown (length names)) (sides_of_left left) (sides_of_products products) known))

  -- a right side with terms that were read or not
  right_from : (ms : List Marked) (left : LeftSide) (equals w : Marked) (rest : List Marked) → LeftTaken ms (record { left = left; rest = equals ∷ w ∷ rest })
      → (o : Option (List Product)) → products_of names rest ≡ o → IfSome o (TermsTaken rest)
      → IfSome (with_right names (Some (record { left = left; rest = equals ∷ w ∷ rest }))) (Taken ms)
  right_from ms left equals w rest front None e none = rw e (cond_both (is_right equals w) None None (λ o. IfSome o (Taken ms)) (λ _. tt) (λ _. tt))
  right_from ms left equals w rest front (Some products) e terms =
      rw e (cond_both (is_right equals w) _ None (λ o. IfSome o (Taken ms)) (right_taken ms left equals w rest products front terms) (λ _. tt))

  behind_left : (ms : List Marked) (left : LeftSide) (rest : List Marked) → LeftTaken ms (record { left = left; rest = rest })
      → IfSome (with_right names (Some (record { left = left; rest = rest }))) (Taken ms)
  behind_left ms left (equals ∷ w ∷ rest) front = right_from ms left equals w rest front (products_of names rest) refl (terms_taken rest)
  behind_left ms left _ front = tt

  any_left : (ms : List Marked) (o : Option LeftFront) → IfSome o (LeftTaken ms) → IfSome (with_right names o) (Taken ms)
  any_left ms None none = tt
  any_left ms (Some front) h = behind_left ms front.left front.rest h

  pub equation_taken : (words : List (List ℕ)) (e : Equation) → equation_of (work ∷ knowns) words ≡ Some e → e.first ≡ 0 → AreKnownSides (length (work ∷ knowns)) (sides_of e)
      → words ≡ left_words knowns (form_of e.left) ++ (codes "=" ∷ work ∷ flat_map (term_words knowns) (map term_of e.products))
  unfolding equation_of
  equation_taken words e is first known =
      let read = any_left (marked words) (left_at names (marked words)) (left_taken (marked words)) in
      let taken : Taken (marked words) e = subst (λ o. IfSome o (Taken (marked words))) is read in
      sym (unmarked-marked words) ∙ taken first known
