-- Lines of a job that were read section by section, and each section part by part. Cited by the law that what is read is spelled so.
use Rattle.std.proofs.Common.{◌≡◌, ℕ, Bool, true, false, if◌then◌else◌, List, [], ◌∷◌, ◌++◌, map, Result, Ok, refl, sym, ap, ◌∙◌, subst, append_assoc, append-nil}
use Rattle.std.proofs.lemmas.List.{map-append}
use Rattle.byte_texts.specs.Reading.{◌>>=◌}
use Rattle.byte_texts.proofs.Binding.{bind_ok, same_ok}
use Rattle.text_scan.specs.Faults.{Fault}
use Rattle.text_scan.specs.LineOrder.{AreLines}
use Rattle.text_scan.specs.Lines.{Line}
use Rattle.text_scan.proofs.LineOrders.{AreLines-behind}

-- the first of lines whose words are known
pub first_words : (line : Line) (lines own rest : List Line) (words : List (List ℕ)) (others : List (List (List ℕ))) → line ∷ lines ≡ own ++ rest → map (λ l. l.words) own ≡ words ∷ others
    → line.words ≡ words
first_words line lines [] rest words others parts spelled = absurd cc
first_words line lines (first ∷ own) rest words others parts spelled =
    let same : line ≡ first = cc in
    let is : first.words ≡ words = cc in
    ap (λ (l : Line). l.words) same ∙ is

-- the lines behind a part are lines of the text, too
pub lines_behind : (end : ℕ) (lines own rest : List Line) → AreLines end lines → lines ≡ own ++ rest → AreLines end rest
lines_behind end lines own rest are parts = AreLines-behind own rest (subst (AreLines end) parts are)

-- the lines of two sections
pub both_lines : (lines own behind next rest : List Line) → lines ≡ own ++ behind → behind ≡ next ++ rest → lines ≡ (own ++ next) ++ rest
both_lines lines own behind next rest first second = first ∙ ap (λ (ls : List Line). own ++ ls) second ∙ sym (append_assoc own next rest)

-- their words
pub both_words : (own next : List Line) (words others : List (List (List ℕ))) → map (λ l. l.words) own ≡ words → map (λ l. l.words) next ≡ others → map (λ l. l.words) (own ++ next) ≡ words ++ others
both_words own next words others first second = map-append (λ (l : Line). l.words) own next ∙ (λ i. first i ++ second i)

-- ---- a section, read part by part: blocks, or single lines

-- lines that were read as the parts of a section behind those found, where text is what such parts are spelled by
pub record SectionTaken {X : Type 0} (Are : X → Type 0) (text : X → List (List (List ℕ))) (found : X) (lines : List Line) (read : X × List Line) : Type 0 where
  pub own : List Line
  pub lines_are : lines ≡ own ++ read.1
  pub text_is : text read.0 ≡ text found ++ map (λ line. line.words) own
  pub are : Are read.0

-- no part is behind those found
pub no_part : {X : Type 0} (Are : X → Type 0) (text : X → List (List (List ℕ))) (found : X) (lines : List Line) (read : X × List Line) → Are found
    → ◌≡◌ {A = Result (X × List Line) Fault} (Ok (found, lines)) (Ok read) → SectionTaken Are text found lines read
no_part Are text found lines read are e = subst (SectionTaken Are text found lines) (same_ok {F = Fault} (found, lines) read e)
    (record { own = []; lines_are = refl; text_is = sym (append-nil (text found)); are = are })

-- a part, where those behind it were read
pub part_before : {X : Type 0} (Are : X → Type 0) (text : X → List (List (List ℕ))) (found more : X) (lines own rest : List Line) (read : X × List Line) → lines ≡ own ++ rest
    → text more ≡ text found ++ map (λ line. line.words) own → SectionTaken Are text more rest read → SectionTaken Are text found lines read
part_before Are text found more lines own rest read parts one others = record {
  own = own ++ others.own;
  lines_are = both_lines lines own rest others.own read.1 parts others.lines_are;
  text_is = others.text_is ∙ ap (λ (words : List (List (List ℕ))). words ++ map (λ (line : Line). line.words) others.own) one
      ∙ append_assoc (text found) (map (λ line. line.words) own) (map (λ line. line.words) others.own)
      ∙ ap (λ (words : List (List (List ℕ))). text found ++ words) (sym (map-append (λ (line : Line). line.words) own others.own));
  are = others.are;
}

-- a line with the section's first word, or the first line behind the section
pub at_word : {X Y : Type 0} (Are : X → Type 0) (text : X → List (List (List ℕ))) (found : X) (lines : List Line) (read : X × List Line)
    (step : Result Y Fault) (behind : Y → Result (X × List Line) Fault) → Are found
    → ((y : Y) → step ≡ Ok y → behind y ≡ Ok read → SectionTaken Are text found lines read)
    → (b : Bool) → (if b then (step >>= behind) else Ok (found, lines)) ≡ Ok read → SectionTaken Are text found lines read
at_word Are text found lines read step behind are taken true e = let first = bind_ok step behind read e in taken first.0 first.1 first.2
at_word Are text found lines read step behind are taken false e = no_part Are text found lines read are e
