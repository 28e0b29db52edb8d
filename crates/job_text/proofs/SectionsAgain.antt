-- Sections of a job: where one ends, the lines of its first block, and the lines of each. Cited by what shows that the lines of a job are
-- read as the job.
use Rattle.std.proofs.Common.{◌≡◌, ℕ, ◌<◌, false, Bool, List, [], ◌∷◌, ◌++◌, length, map, sym, ap, ◌∙◌, arith, append_assoc}
use Rattle.text_scan.specs.Lines.{Line, begins_with}
use Rattle.operation_spec.proofs.ImageParts.{map_cons, map_append}

-- the words of lines, without their numbers
abbrev pub words_of : List Line → List (List (List ℕ))
words_of lines = map (λ line. line.words) lines

-- there is a line, and the first begins with a word
abbrev pub first_begins : List ℕ → List (List (List ℕ)) → Bool
first_begins word [] = false
first_begins word (words ∷ lines) = begins_with word words

-- ---- the lines of a block, and those behind it

pub record FirstBlock (own : List Line) (block others : List (List (List ℕ))) : Type 0 where
  pub line : Line
  pub lines : List Line
  pub behind : List Line
  pub parts : own ≡ line ∷ lines ++ behind
  pub words : words_of (line ∷ lines) ≡ block
  pub behind_words : words_of behind ≡ others

-- a block that has a line
pub first_block : (own : List Line) (block others : List (List (List ℕ))) → 0 < length block → words_of own ≡ block ++ others → FirstBlock own block others
first_block own [] others some same = absurd (omega arith)
first_block own (first ∷ block) others some same =
    let split = map_append (λ (l : Line). l.words) own (first ∷ block) others same in
    let head = map_cons (λ (l : Line). l.words) split.0 first block split.3 in
    record {
      line = head.0;
      lines = head.1;
      behind = split.1;
      parts = split.2 ∙ ap (λ (ls : List Line). ls ++ split.1) head.2;
      words = cc (head.3, head.4);
      behind_words = split.4;
    }

-- ---- the lines of four sections

pub record FourSections (own : List Line) (a b c d : List (List (List ℕ))) : Type 0 where
  pub first : List Line
  pub second : List Line
  pub third : List Line
  pub fourth : List Line
  pub parts : own ≡ first ++ (second ++ (third ++ fourth))
  pub first_words : words_of first ≡ a
  pub second_words : words_of second ≡ b
  pub third_words : words_of third ≡ c
  pub fourth_words : words_of fourth ≡ d
  pub behind_first : words_of (second ++ (third ++ fourth)) ≡ b ++ (c ++ d)
  pub behind_second : words_of (third ++ fourth) ≡ c ++ d

-- parts of lists, one behind another
regrouped : {X : Type 0} (a b c d : List X) → ((a ++ b) ++ c) ++ d ≡ a ++ (b ++ (c ++ d))
regrouped a b c d = simp append_assoc

together : {X : Type 0} (xs front behind second last : List X) → xs ≡ front ++ behind → behind ≡ second ++ last → xs ≡ front ++ (second ++ last)
together xs front behind second last split split_behind = split ∙ ap (λ (ls : List _). front ++ ls) split_behind

-- one list of lines has the words of the other
same_words : (xs ys : List Line) (words : List (List (List ℕ))) → xs ≡ ys → words_of xs ≡ words → words_of ys ≡ words
same_words xs ys words same are = ap words_of (sym same) ∙ are

-- the lines whose words are those of four sections
pub four_sections : (own : List Line) (a b c d : List (List (List ℕ))) → words_of own ≡ a ++ b ++ c ++ d → FourSections own a b c d
four_sections own a b c d same =
    let words = λ (l : Line). l.words in
    let one = map_append words own a (b ++ (c ++ d)) (same ∙ regrouped a b c d) in
    let two = map_append words one.1 b (c ++ d) one.4 in
    let three = map_append words two.1 c d two.4 in
    let behind = together one.1 two.0 two.1 three.0 three.1 two.2 three.2 in
    record {
      first = one.0;
      second = two.0;
      third = three.0;
      fourth = three.1;
      parts = together own one.0 one.1 two.0 (three.0 ++ three.1) one.2 behind;
      first_words = one.3;
      second_words = two.3;
      third_words = three.3;
      fourth_words = three.4;
      behind_first = same_words one.1 (two.0 ++ (three.0 ++ three.1)) (b ++ (c ++ d)) behind one.4;
      behind_second = same_words two.1 (three.0 ++ three.1) (c ++ d) three.2 two.4;
    }
