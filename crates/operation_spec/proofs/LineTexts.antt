-- The text of a line: its first word, and the others behind it. Cited by what prints an operation.
use Rattle.std.proofs.Common.{◌≡◌, ℕ, List, [], ◌∷◌, ◌++◌, codes, sym, ap, ◌∙◌, append_assoc}
use Rattle.std.proofs.lemmas.List.{append-nil}
use Rattle.text_scan.specs.NormalTexts.{before_word, line_text}
use Rattle.operation_spec.specs.WordTexts.{words_text}

pub text_of_line : (w : List ℕ) (words : List (List ℕ)) → line_text (w ∷ words) ≡ w ++ words_text words ++ codes "\n"
text_of_line w [] = ap (λ (text : List ℕ). text ++ codes "\n") (sym (append-nil w))
text_of_line w (v ∷ words) =
    ap (λ (text : List ℕ). (w ++ before_word v) ++ text) (text_of_line v words) ∙ regrouped w (before_word v) v (words_text words) (codes "\n")
  where
    regrouped : (a b c d e : List ℕ) → (a ++ b) ++ ((c ++ d) ++ e) ≡ (a ++ ((b ++ c) ++ d)) ++ e
    regrouped a b c d e = simp append_assoc

-- a line that is appended: its first word, the others and the line feed
pub line_appended : (old first others all w : List ℕ) (words : List (List ℕ)) → first ≡ old ++ w → others ≡ first ++ words_text words → all ≡ others ++ codes "\n" → all ≡ old ++ line_text (w ∷ words)
line_appended old first others all w words put_first put_others put_end =
    rw (put_end, put_others, put_first, text_of_line w words) (regrouped old w (words_text words) (codes "\n"))
  where
    regrouped : (a b c d : List ℕ) → ((a ++ b) ++ c) ++ d ≡ a ++ ((b ++ c) ++ d)
    regrouped a b c d = simp append_assoc
