-- What a printed worksheet says in comments has no line feed: names, equations and expressions of blocks. Cited by what shows that a
-- printed worksheet spells it.
use Rattle.std.proofs.Common.{◌≡◌, ℕ, inl, inr, Bool, true, false, cond, List, [], ◌∷◌, ◌++◌, length, map, All, IsTrue, refl, ◌∙◌, arith}
use Rattle.std.specs.Prelude.{codes}
use Rattle.std.specs.Fmt.{decimal}
use Rattle.std.specs.List.{list_all}
use Rattle.std.specs.Str.{bytes_eq}
use Rattle.std.proofs.lemmas.Bool.{and_parts, cases_lt}
use Rattle.std.proofs.lemmas.List.Elements.{All-cons, All-head, All-nil, All-tail}
use Rattle.std.proofs.Math.ListN.{get_or-eq_default}
use Rattle.text_scan.specs.NormalTexts.{before_word, is_line}
use Rattle.text_scan.specs.Words.{is_word}
use Rattle.text_scan.proofs.LineFeeds.{line_feeds, line_feeds-append}
use Rattle.text_scan.proofs.LineOrders.{is_line-words}
use Rattle.text_scan.proofs.NumberTexts.{decimal_word}
use Rattle.text_scan.proofs.WordFronts.{line_feeds-word}
use Rattle.operation_spec.specs.declared.operation.Operand.{Operand}
use Rattle.operation_spec.specs.declared.operation.Operation.{Operation}
use Rattle.operation_spec.specs.OperationLines.{equation_words, operand_line}
use Rattle.operation_spec.specs.ValidOperations.{HasNames, IsValid, operands_of}
use Rattle.operation_spec.specs.WordTexts.{word_text, words_text}
use Rattle.operation_spec.proofs.ListParts.{All-behind, All-front}
use Rattle.operation_spec.proofs.PrintedLines.{printed_lines}
use Rattle.task_graph.specs.Factors.{known}
use Rattle.block_values.specs.declared.leaf.Leaf.{Leaf}
use Rattle.block_values.specs.declared.leaf.Leaf.TheVariants.{Work, Known, Solution, L, D, U}
use Rattle.block_values.specs.Trees.{Tree, Zero, Block, Add, Sub, Mul, SolveLeft, SolveRight, Sylvester, Lu, Ldl}
use Rattle.block_expr.specs.Texts.{between_text, leaf_text, place_text, prime_text, tree_text}

-- no line feed is in the bytes
abbrev pub IsFlat : List ℕ → Type 0
IsFlat bytes = line_feeds bytes ≡ 0

pub flat_append : (xs ys : List ℕ) → IsFlat xs → IsFlat ys → IsFlat (xs ++ ys)
flat_append xs ys first second = line_feeds-append xs ys ∙ omega (arith, first, second)

-- ---- names

module _ (op : Operation) (names : HasNames op) where
  abbrev word : List ℕ → Type 0
  word w = IsTrue (is_word w)

  pub dims_words : All word op.dims
  dims_words = All-tail word op.name op.dims (All-front word (op.name ∷ op.dims) (map (λ (o : Operand). o.name) (operands_of op)) names.words)

  pub own_word : IsTrue (is_word op.name)
  own_word = All-head word op.name op.dims (All-front word (op.name ∷ op.dims) (map (λ (o : Operand). o.name) (operands_of op)) names.words)

  operands_words : All word (op.work.name ∷ map (λ (o : Operand). o.name) op.knowns)
  operands_words = All-behind word (op.name ∷ op.dims) (map (λ (o : Operand). o.name) (operands_of op)) names.words

  pub work_flat : IsFlat op.work.name
  work_flat = line_feeds-word op.work.name (All-head word op.work.name (map (λ (o : Operand). o.name) op.knowns) operands_words)

  flat_names : (os : List Operand) → All word (map (λ (o : Operand). o.name) os) → All (λ o. IsFlat o.name) os
  flat_names [] all = All-nil (λ (o : Operand). IsFlat o.name)
  flat_names (o ∷ os) all =
      let others = map (λ (p : Operand). p.name) os in
      All-cons (λ (p : Operand). IsFlat p.name) o os (line_feeds-word o.name (All-head word o.name others all)) (flat_names os (All-tail word o.name others all))

  known_flat : (k : ℕ) → IsFlat (known op k).name
  known_flat k = elim (cases_lt k (length op.knowns)) [
    | inl below ↦ flat_names op.knowns (All-tail word op.work.name (map (λ (o : Operand). o.name) op.knowns) operands_words) k op.work below
    | inr past ↦ rw (get_or-eq_default op.knowns op.work past) work_flat
  ]

  -- ---- expressions

  number_flat : (n : ℕ) → IsFlat (decimal n)
  number_flat n = line_feeds-word (decimal n) (decimal_word n).0

  place_flat : (i j : ℕ) → IsFlat (place_text i j)
  place_flat i j =
      flat_append (codes "[" ++ decimal i ++ codes "," ++ decimal j) (codes "]") (flat_append (codes "[" ++ decimal i ++ codes ",") (decimal j)
      (flat_append (codes "[" ++ decimal i) (codes ",") (flat_append (codes "[") (decimal i) refl (number_flat i)) refl) (number_flat j)) refl

  leaf_flat : (leaf : Leaf) → IsFlat (leaf_text op leaf)
  leaf_flat Work = work_flat
  leaf_flat (Known k) = known_flat k
  leaf_flat Solution = refl
  leaf_flat L = refl
  leaf_flat D = refl
  leaf_flat U = refl

  prime_flat : (primed : Bool) → IsFlat (prime_text primed)
  prime_flat true = refl
  prime_flat false = refl

  between_flat : (minus : Bool) → IsFlat (between_text minus)
  between_flat true = refl
  between_flat false = refl

  -- two texts with a third one between them, and in brackets
  between : (t u v : List ℕ) → IsFlat t → IsFlat u → IsFlat v → IsFlat (t ++ u ++ v)
  between t u v first second third = flat_append (t ++ u) v (flat_append t u first second) third

  pub tree_flat : (e : Tree) → IsFlat (tree_text op e)
  tree_flat Zero = refl
  tree_flat (Block leaf primed i j) = between (leaf_text op leaf) (prime_text primed) (place_text i j) (leaf_flat leaf) (prime_flat primed) (place_flat i j)
  tree_flat (Add a b) = between (tree_text op a) (codes " + ") (tree_text op b) (tree_flat a) refl (tree_flat b)
  tree_flat (Sub a b) = between (tree_text op a) (codes " - ") (tree_text op b) (tree_flat a) refl (tree_flat b)
  tree_flat (Mul a b) = between (tree_text op a) (codes "*") (tree_text op b) (tree_flat a) refl (tree_flat b)
  tree_flat (SolveLeft t sum) =
      between (codes "inv(" ++ tree_text op t ++ codes ")*(") (tree_text op sum) (codes ")") (between (codes "inv(") (tree_text op t) (codes ")*(") refl (tree_flat t) refl) (tree_flat sum) refl
  tree_flat (SolveRight sum t) =
      between (codes "(" ++ tree_text op sum ++ codes ")*inv(") (tree_text op t) (codes ")") (between (codes "(") (tree_text op sum) (codes ")*inv(") refl (tree_flat sum) refl) (tree_flat t) refl
  tree_flat (Sylvester t u minus sum) =
      let front = codes "sylvester(" ++ tree_text op t ++ between_text minus in
      between (front ++ tree_text op u ++ codes ",") (tree_text op sum) (codes ")")
      (between front (tree_text op u) (codes ",") (between (codes "sylvester(") (tree_text op t) (between_text minus) refl (tree_flat t) (between_flat minus)) (tree_flat u) refl) (tree_flat sum) refl
  tree_flat (Lu sum) = between (codes "lu(") (tree_text op sum) (codes ")") refl (tree_flat sum) refl
  tree_flat (Ldl sum) = between (codes "ldl(") (tree_text op sum) (codes ")") refl (tree_flat sum) refl

  -- ---- the equation

  before_flat : (v : List ℕ) → IsFlat (before_word v)
  before_flat v = elim (bytes_eq v (codes "'")) as (λ (prime : Bool). line_feeds (cond prime [] (codes " ")) ≡ 0) [ true ↦ refl | false ↦ refl ]

  words_flat : (ws : List (List ℕ)) → list_all is_word ws ≡ true → IsFlat (words_text ws)
  words_flat [] all = refl
  words_flat (w ∷ ws) all =
      let both = and_parts (is_word w) (list_all is_word ws) all in
      flat_append (word_text w) (words_text ws) (flat_append (before_word w) w (before_flat w) (line_feeds-word w both.0)) (words_flat ws both.1)

  pub equation_flat : IsValid op → IsFlat (words_text (equation_words op))
  equation_flat valid =
      let line : List (List ℕ) → Type 0 = λ ws. IsTrue (is_line ws) in
      let front = (codes "operation" ∷ op.name ∷ []) ∷ (codes "dims" ∷ op.dims) ∷ operand_line op.dims (codes "work") op.work ∷ map (operand_line op.dims (codes "known")) op.knowns in
      let back = (codes "equation" ∷ equation_words op) ∷ (codes "end" ∷ []) ∷ [] in
      let own = All-head line (codes "equation" ∷ equation_words op) ((codes "end" ∷ []) ∷ []) (All-behind line front back (printed_lines op valid names)) in
      words_flat (equation_words op) (and_parts true (list_all is_word (equation_words op)) (is_line-words (codes "equation" ∷ equation_words op) own)).1
