-- Lines of dimensions that were read: the words that they had. Cited by what shows that what is read is spelled so.
use Rattle.std.proofs.Common.{◌≡◌, ◌⊎◌, inl, inr, ℕ, ◌+◌, ◌<◌, Bool, true, false, not, nat_lt, nat_le, ◌&&◌, ◌||◌, ◌==◌, List, [], ◌∷◌, ◌++◌, length, map, Some, None, Ok, All, refl, sym, ap, subst, ◌∙◌, arith}
use Rattle.std.specs.Prelude.{codes, if◌then◌else◌}
use Rattle.std.specs.Str.{bytes_eq}
use Rattle.std.proofs.lemmas.Bool.{and_parts, eqb-true, le-ltb, lt-ltb, not-false, or_parts}
use Rattle.std.proofs.lemmas.Bool.Decides.{nat_tests}
use Rattle.std.proofs.lemmas.List.Elements.{All-cons, All-nil}
use Rattle.byte_texts.proofs.Binding.{same_ok}
use Rattle.text_scan.specs.Lines.{Line, begins_with, nth_word}
use Rattle.text_scan.specs.Names.{is_among, number_of}
use Rattle.text_scan.specs.Words.{is_name}
use Rattle.text_scan.proofs.FaultTests.{passed_by}
use Rattle.operation_spec.specs.declared.operation.Operation.{Operation}
use Rattle.operation_spec.specs.declared.split.Dir.TheVariants.{Forward, Backward}
use Rattle.operation_spec.specs.Splits.{IsSplit}
use Rattle.operation_spec.proofs.FoundNames.{among_below, nth_name-number_of, text_is}
use Rattle.task_texts.specs.DimTexts.{dim_name, dir_text}
use Rattle.worksheet.specs.declared.sheet.End.{End}
use Rattle.worksheet_text.specs.declared.loop_lines.SplitLine.{SplitLine}
use Rattle.worksheet_text.specs.SheetFaults.{SheetFault}
use Rattle.worksheet_text.specs.SheetReading.{dir_of_word, end_of_words, ends_at, ends_of, guard_at, guard_of, is_guard_line, is_pair, is_paired_line, split_at, split_of}
use Rattle.worksheet_text.specs.SheetTexts.{end_text}
use Rattle.worksheet_text.specs.SheetWords.{Words}
use Rattle.worksheet_laws.specs.SheetLines.{along_words, ends_words, second_words}
use Rattle.worksheet_laws.specs.SpelledSheets.{AreEnds, AreOneOrTwo}

-- ---- the forms of lines

pub begun : (word : List ℕ) (words : Words) → begins_with word words ≡ true → nth_word words 0 ≡ word
begun word [] is = absurd cc
begun word (w ∷ words) is = text_is w word is

pub two_words : (words : Words) → length words ≡ 2 → words ≡ nth_word words 0 ∷ nth_word words 1 ∷ []
two_words (a ∷ b ∷ []) long = refl
two_words [] long = absurd (omega (arith, long))
two_words (a ∷ []) long = absurd (omega (arith, long))
two_words (a ∷ b ∷ c ∷ words) long = absurd (omega (arith, long))

three_words : (words : Words) → length words ≡ 3 → words ≡ nth_word words 0 ∷ nth_word words 1 ∷ nth_word words 2 ∷ []
three_words (a ∷ b ∷ c ∷ []) long = refl
three_words [] long = absurd (omega (arith, long))
three_words (a ∷ []) long = absurd (omega (arith, long))
three_words (a ∷ b ∷ []) long = absurd (omega (arith, long))
three_words (a ∷ b ∷ c ∷ d ∷ words) long = absurd (omega (arith, long))

five_words : (words : Words) → length words ≡ 5 → words ≡ nth_word words 0 ∷ nth_word words 1 ∷ nth_word words 2 ∷ nth_word words 3 ∷ nth_word words 4 ∷ []
five_words (a ∷ b ∷ c ∷ d ∷ e ∷ []) long = refl
five_words [] long = absurd (omega (arith, long))
five_words (a ∷ []) long = absurd (omega (arith, long))
five_words (a ∷ b ∷ []) long = absurd (omega (arith, long))
five_words (a ∷ b ∷ c ∷ []) long = absurd (omega (arith, long))
five_words (a ∷ b ∷ c ∷ d ∷ []) long = absurd (omega (arith, long))
five_words (a ∷ b ∷ c ∷ d ∷ e ∷ f ∷ words) long = absurd (omega (arith, long))

-- of two tests one holds
either : (a b : Bool) → (a || b) ≡ true → (a ≡ true) ⊎ (b ≡ true)
either true b is = inl refl
either false b is = inr is

-- ---- single words

dir_taken : (w : List ℕ) → (bytes_eq w (codes "forward") || bytes_eq w (codes "backward")) ≡ true → dir_text (dir_of_word w) ≡ w
dir_taken w is = by_test (bytes_eq w (codes "backward")) refl is
  where
    by_test : (b : Bool) → bytes_eq w (codes "backward") ≡ b → (bytes_eq w (codes "forward") || b) ≡ true → dir_text (if b then Backward else Forward) ≡ w
    by_test true back is = sym (text_is w (codes "backward") back)
    by_test false other is = elim (either (bytes_eq w (codes "forward")) false is) [ inl forward ↦ sym (text_is w (codes "forward") forward) | inr never ↦ absurd cc ]

end_taken : (w : List ℕ) → (bytes_eq w (codes "first") || bytes_eq w (codes "last")) ≡ true → end_text (bytes_eq w (codes "last")) ≡ w
end_taken w is = by_test (bytes_eq w (codes "last")) refl is
  where
    by_test : (b : Bool) → bytes_eq w (codes "last") ≡ b → (bytes_eq w (codes "first") || b) ≡ true → end_text b ≡ w
    by_test true last is = sym (text_is w (codes "last") last)
    by_test false other is = elim (either (bytes_eq w (codes "first")) false is) [ inl first ↦ sym (text_is w (codes "first") first) | inr never ↦ absurd cc ]

-- of the second dimension, where the line has one
known_second : (a b c : Bool) → (a || (b && c)) ≡ false → b ≡ true → (a ≡ false) × (c ≡ false)
known_second false true c is there = (refl, is)
known_second true b c is there = absurd cc
known_second false false c is there = absurd cc

module _ (op : Operation) where
  -- a name that is among the dimensions
  dim_taken : (w : List ℕ) → not (is_among op.dims w) ≡ false → (dim_name op (number_of op.dims w) ≡ w) × (number_of op.dims w < length op.dims)
  dim_taken w is = let below = among_below op.dims w (not-false (is_among op.dims w) is) in (nth_name-number_of op.dims w below, below)

  abbrev pub IsDim : ℕ → Type 0
  IsDim d = d < length op.dims

  -- ---- `guard`

  abbrev GuardTaken : Words → List ℕ → Type 0
  GuardTaken words guard = (words ≡ codes "guard" ∷ map (dim_name op) guard) × AreOneOrTwo guard × All (λ d. d < length op.dims) guard

  guard_one : (words : Words) → begins_with (codes "guard") words ≡ true → length words ≡ 2 → not (is_among op.dims (nth_word words 1)) ≡ false → GuardTaken words (guard_of op.dims words)
  guard_one words begins long known =
      let a = dim_taken (nth_word words 1) known in
      let one : nat_lt 2 (length words) ≡ false = le-ltb 2 (length words) (omega (arith, long)) in
      let is : guard_of op.dims words ≡ number_of op.dims (nth_word words 1) ∷ [] = rw one refl in
      subst (GuardTaken words) (sym is) (
        two_words words long ∙ ap (λ (w : List ℕ). w ∷ nth_word words 1 ∷ []) (begun (codes "guard") words begins) ∙ ap (λ (w : List ℕ). codes "guard" ∷ w ∷ []) (sym a.0),
        (omega arith, omega arith),
        All-cons IsDim (number_of op.dims (nth_word words 1)) [] a.1 (All-nil IsDim),
      )

  guard_two : (words : Words) → begins_with (codes "guard") words ≡ true → length words ≡ 3 → not (is_among op.dims (nth_word words 1)) ≡ false → not (is_among op.dims (nth_word words 2)) ≡ false → GuardTaken words (guard_of op.dims words)
  guard_two words begins long known second =
      let a = dim_taken (nth_word words 1) known in
      let b = dim_taken (nth_word words 2) second in
      let two : nat_lt 2 (length words) ≡ true = lt-ltb 2 (length words) (omega (arith, long)) in
      let is : guard_of op.dims words ≡ number_of op.dims (nth_word words 1) ∷ number_of op.dims (nth_word words 2) ∷ [] = rw two refl in
      subst (GuardTaken words) (sym is) (
        three_words words long ∙ ap (λ (w : List ℕ). w ∷ nth_word words 1 ∷ nth_word words 2 ∷ []) (begun (codes "guard") words begins) ∙ ap (λ (w : List ℕ). codes "guard" ∷ w ∷ nth_word words 2 ∷ []) (sym a.0)
            ∙ ap (λ (w : List ℕ). codes "guard" ∷ dim_name op (number_of op.dims (nth_word words 1)) ∷ w ∷ []) (sym b.0),
        (omega arith, omega arith),
        All-cons IsDim (number_of op.dims (nth_word words 1)) (number_of op.dims (nth_word words 2) ∷ []) a.1 (All-cons IsDim (number_of op.dims (nth_word words 2)) [] b.1 (All-nil IsDim)),
      )

  pub guard_taken : (line : Line) (guard : List ℕ) → guard_at op.dims line ≡ Ok guard → GuardTaken line.words guard
  unfolding guard_at
  guard_taken line guard e =
      let words = line.words in
      let form = passed_by _ _ _ guard e in
      let known = passed_by _ _ _ guard form.1 in
      let is = and_parts (begins_with (codes "guard") words && is_name (nth_word words 1)) (length words == 2 || (length words == 3 && is_name (nth_word words 2))) (not-false (is_guard_line words) form.0) in
      let begins = (and_parts (begins_with (codes "guard") words) (is_name (nth_word words 1)) is.0).0 in
      let two = not (is_among op.dims (nth_word words 2)) in
      let first = (or_parts (not (is_among op.dims (nth_word words 1))) (nat_lt 2 (length words) && two) known.0).0 in
      subst (GuardTaken words) (same_ok {F = SheetFault} (guard_of op.dims words) guard known.1)
      (elim (either (length words == 2) (length words == 3 && is_name (nth_word words 2)) is.1) [
        | inl short ↦ guard_one words begins (eqb-true (length words) 2 short) first
        | inr long ↦ let three = eqb-true (length words) 3 (and_parts (length words == 3) (is_name (nth_word words 2)) long).0 in
            guard_two words begins three first (known_second (not (is_among op.dims (nth_word words 1))) (nat_lt 2 (length words)) two known.0 (lt-ltb 2 (length words) (omega (arith, three)))).1
      ])

  -- ---- lines of pairs

  -- the form of such a line
  record IsPaired (word one other : List ℕ) (words : Words) : Type 0 where
    begins : nth_word words 0 ≡ word
    first : (bytes_eq (nth_word words 2) one || bytes_eq (nth_word words 2) other) ≡ true
    long : (length words ≡ 3) ⊎ ((length words ≡ 5) × ((bytes_eq (nth_word words 4) one || bytes_eq (nth_word words 4) other) ≡ true))

  pair_second : (one other : List ℕ) (at : ℕ) (words : Words) → is_pair one other at words ≡ true → (bytes_eq (nth_word words (at + 1)) one || bytes_eq (nth_word words (at + 1)) other) ≡ true
  pair_second one other at words is = (and_parts (is_name (nth_word words at)) (bytes_eq (nth_word words (at + 1)) one || bytes_eq (nth_word words (at + 1)) other) is).1

  paired : (word one other : List ℕ) (words : Words) → is_paired_line word one other words ≡ true → IsPaired word one other words
  paired word one other words is =
      let all = and_parts (begins_with word words && is_pair one other 1 words) (length words == 3 || (length words == 5 && is_pair one other 3 words)) is in
      let front = and_parts (begins_with word words) (is_pair one other 1 words) all.0 in
      record {
        begins = begun word words front.0;
        first = pair_second one other 1 words front.1;
        long = elim (either (length words == 3) (length words == 5 && is_pair one other 3 words) all.1) [
          | inl short ↦ inl (eqb-true (length words) 3 short)
          | inr more ↦ let both = and_parts (length words == 5) (is_pair one other 3 words) more in inr (eqb-true (length words) 5 both.0, pair_second one other 3 words both.1)
        ];
      }

  -- the words of such lines
  pair_words : (word one other : List ℕ) (words : Words) (d w : List ℕ) → IsPaired word one other words → length words ≡ 3 → nth_word words 1 ≡ d → nth_word words 2 ≡ w → words ≡ word ∷ d ∷ w ∷ []
  pair_words word one other words d w is long first second =
      three_words words long ∙ ap (λ (v : List ℕ). v ∷ nth_word words 1 ∷ nth_word words 2 ∷ []) is.begins ∙ ap (λ (v : List ℕ). word ∷ v ∷ nth_word words 2 ∷ []) first ∙ ap (λ (v : List ℕ). word ∷ d ∷ v ∷ []) second

  pairs_words : (word one other : List ℕ) (words : Words) (d w e v : List ℕ) → IsPaired word one other words → length words ≡ 5 → nth_word words 1 ≡ d → nth_word words 2 ≡ w → nth_word words 3 ≡ e → nth_word words 4 ≡ v
      → words ≡ word ∷ d ∷ w ∷ e ∷ v ∷ []
  pairs_words word one other words d w e v is long first second third fourth =
      five_words words long ∙ ap (λ (u : List ℕ). u ∷ nth_word words 1 ∷ nth_word words 2 ∷ nth_word words 3 ∷ nth_word words 4 ∷ []) is.begins
      ∙ ap (λ (u : List ℕ). word ∷ u ∷ nth_word words 2 ∷ nth_word words 3 ∷ nth_word words 4 ∷ []) first ∙ ap (λ (u : List ℕ). word ∷ d ∷ u ∷ nth_word words 3 ∷ nth_word words 4 ∷ []) second
      ∙ ap (λ (u : List ℕ). word ∷ d ∷ w ∷ u ∷ nth_word words 4 ∷ []) third ∙ ap (λ (u : List ℕ). word ∷ d ∷ w ∷ e ∷ u ∷ []) fourth

  -- what the test of unknown names leaves
  first_known : (second : ℕ) (words : Words) → (not (is_among op.dims (nth_word words 1)) || (nat_lt second (length words) && not (is_among op.dims (nth_word words second)))) ≡ false → not (is_among op.dims (nth_word words 1)) ≡ false
  first_known second words known = (or_parts (not (is_among op.dims (nth_word words 1))) (nat_lt second (length words) && not (is_among op.dims (nth_word words second))) known).0

  second_known : (second : ℕ) (words : Words) → second < length words → (not (is_among op.dims (nth_word words 1)) || (nat_lt second (length words) && not (is_among op.dims (nth_word words second)))) ≡ false
      → not (is_among op.dims (nth_word words second)) ≡ false
  second_known second words there known = (known_second (not (is_among op.dims (nth_word words 1))) (nat_lt second (length words)) (not (is_among op.dims (nth_word words second))) known (lt-ltb second (length words) there)).1

  -- ---- `start`, `take` and `give`

  abbrev EndsTaken : List ℕ → Words → List End → Type 0
  EndsTaken word words ends = (words ≡ word ∷ ends_words op ends) × AreEnds op ends

  pub ends_taken : (word : List ℕ) (line : Line) (ends : List End) → ends_at op.dims word line ≡ Ok ends → EndsTaken word line.words ends
  unfolding ends_at
  ends_taken word line ends e =
      let words = line.words in
      let form = passed_by _ _ _ ends e in
      let known = passed_by _ _ _ ends form.1 in
      let is = paired word (codes "first") (codes "last") words (not-false (is_paired_line word (codes "first") (codes "last") words) form.0) in
      subst (EndsTaken word words) (same_ok {F = SheetFault} (ends_of op.dims words) ends known.1) (from_form words is (first_known 3 words known.0) (λ there. second_known 3 words there known.0))
    where
      P : End → Type 0
      P end = end.dim < length op.dims

      from_form : (words : Words) → IsPaired word (codes "first") (codes "last") words → not (is_among op.dims (nth_word words 1)) ≡ false → (3 < length words → not (is_among op.dims (nth_word words 3)) ≡ false) → EndsTaken word words (ends_of op.dims words)
      from_form words is first second =
          let a = dim_taken (nth_word words 1) first in
          let one : End = end_of_words op.dims 1 words in
          let two : End = end_of_words op.dims 3 words in
          let w2 = sym (end_taken (nth_word words 2) is.first) in
          elim is.long [
            | inl short ↦
                let test : nat_lt 3 (length words) ≡ false = le-ltb 3 (length words) (omega (arith, short)) in
                let all : ends_of op.dims words ≡ one ∷ [] = rw test refl in
                subst (EndsTaken word words) (sym all) (
                  pair_words word (codes "first") (codes "last") words (dim_name op one.dim) (end_text one.last) is short (sym a.0) w2,
                  record { few = (omega arith, omega arith); dims = All-cons P one [] a.1 (All-nil P) },
                )
            | inr long ↦
                let test : nat_lt 3 (length words) ≡ true = lt-ltb 3 (length words) (omega (arith, long.0)) in
                let all : ends_of op.dims words ≡ one ∷ two ∷ [] = rw test refl in
                let b = dim_taken (nth_word words 3) (second (omega (arith, long.0))) in
                subst (EndsTaken word words) (sym all) (
                  pairs_words word (codes "first") (codes "last") words (dim_name op one.dim) (end_text one.last) (dim_name op two.dim) (end_text two.last) is long.0 (sym a.0) w2 (sym b.0) (sym (end_taken (nth_word words 4) long.1)),
                  record { few = (omega arith, omega arith); dims = All-cons P one (two ∷ []) a.1 (All-cons P two [] b.1 (All-nil P)) },
                )
          ]

  -- ---- `split`

  pub record SplitTaken (own : Words) (along : SplitLine) : Type 0 where
    pub words : own ≡ codes "split" ∷ (along_words op along.split.first along.dirs.first ++ second_words op along.split.second along.dirs.second)
    pub split : IsSplit op along.split
    pub single : along.split.second ≡ None → along.dirs.second ≡ Forward

  later : (a b : ℕ) → nat_le b a ≡ false → a < b
  later a b other = grind (arith, nat_tests)

  pub split_taken : (line : Line) (along : SplitLine) → split_at op.dims line ≡ Ok along → SplitTaken line.words along
  unfolding split_at
  split_taken line along e =
      let words = line.words in
      let form = passed_by _ _ _ along e in
      let known = passed_by _ _ _ along form.1 in
      let ordered = passed_by _ _ _ along known.1 in
      let is = paired (codes "split") (codes "forward") (codes "backward") words (not-false (is_paired_line (codes "split") (codes "forward") (codes "backward") words) form.0) in
      subst (SplitTaken words) (same_ok {F = SheetFault} (split_of op.dims words) along ordered.1) (from_form words is (first_known 3 words known.0) (λ there. second_known 3 words there known.0) ordered.0)
    where
      from_form : (words : Words) → IsPaired (codes "split") (codes "forward") (codes "backward") words → not (is_among op.dims (nth_word words 1)) ≡ false → (3 < length words → not (is_among op.dims (nth_word words 3)) ≡ false)
          → (nat_lt 3 (length words) && nat_le (number_of op.dims (nth_word words 3)) (number_of op.dims (nth_word words 1))) ≡ false → SplitTaken words (split_of op.dims words)
      from_form words is first second ordered =
          let a = dim_taken (nth_word words 1) first in
          let n = number_of op.dims (nth_word words 1) in
          let m = number_of op.dims (nth_word words 3) in
          let d1 = dir_of_word (nth_word words 2) in
          let d2 = dir_of_word (nth_word words 4) in
          let w2 = sym (dir_taken (nth_word words 2) is.first) in
          elim is.long [
            | inl short ↦
                let test : nat_lt 3 (length words) ≡ false = le-ltb 3 (length words) (omega (arith, short)) in
                let all : split_of op.dims words ≡ record { split = record { first = n; second = None }; dirs = record { first = d1; second = Forward } } = rw test refl in
                subst (SplitTaken words) (sym all) (record { words = pair_words (codes "split") (codes "forward") (codes "backward") words (dim_name op n) (dir_text d1) is short (sym a.0) w2; split = (a.1, tt); single = λ none. refl })
            | inr long ↦
                let test : nat_lt 3 (length words) ≡ true = lt-ltb 3 (length words) (omega (arith, long.0)) in
                let all : split_of op.dims words ≡ record { split = record { first = n; second = Some m }; dirs = record { first = d1; second = d2 } } = rw test refl in
                let b = dim_taken (nth_word words 3) (second (omega (arith, long.0))) in
                let after : n < m = later n m (rw test at ordered) in
                subst (SplitTaken words) (sym all) (record {
                  words = pairs_words (codes "split") (codes "forward") (codes "backward") words (dim_name op n) (dir_text d1) (dim_name op m) (dir_text d2) is long.0 (sym a.0) w2 (sym b.0) (sym (dir_taken (nth_word words 4) long.1));
                  split = (a.1, (after, b.1));
                  single = λ none. absurd cc;
                })
          ]
