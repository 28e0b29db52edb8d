-- What a reader of lines does on two texts that begin with the same lines: where it ends among these lines, it ends the same on both.
-- Cited by the lemmas of each reader.
use Rattle.std.proofs.Common.{◌≡◌, ◌⊎◌, inl, inr, ℕ, ◌==◌, Bool, true, false, List, [], ◌∷◌, ◌++◌, All, Result, Ok, Err, refl, sym, subst, append-nil, if◌then◌else◌}
use Rattle.std.proofs.lemmas.List.Elements.{All-nil, All-cons, All-head, All-tail, All-weaker}
use Rattle.byte_texts.specs.Reading.{◌>>=◌}
use Rattle.text_scan.specs.FaultKinds.{FaultKind, BadByte, Syntax}
use Rattle.text_scan.specs.Faults.{Fault, ◌on◌}
use Rattle.text_scan.specs.Lines.{Line, due_line, inner_line}

-- ---- two texts

-- a kind that lines have: of a bad byte no line is made
abbrev pub IsOfLines : FaultKind → Type 0
IsOfLines BadByte = ⊥
IsOfLines kind = Unit {0}

-- each fault that may be on the line is such a one
abbrev pub OnLine : (Fault → Type 0) → Line → Type 0
OnLine P line = (kind : FaultKind) → IsOfLines kind → P (kind on line.number)

-- where two texts end, and which lines they have behind those that both begin with. Past holds of the faults that the first text has
-- behind these, and P of all that it may have
pub record Texts : Type 1 where
  pub P : Fault → Type 0
  pub Past : Fault → Type 0
  pub end : ℕ
  pub other_end : ℕ
  pub back : List Line
  pub other_back : List Line
  pub weaker : (fault : Fault) → Past fault → P fault
  pub early : Past (Syntax on end)
  pub behind : All (OnLine Past) back

-- a line that both begin with
abbrev pub IsShared : Texts → Line → Type 0
IsShared texts line = OnLine texts.P line × ((line.number == texts.end) ≡ (line.number == texts.other_end))

-- ---- what readers answer

-- the fault that the tests of a line tell, if they do, is such a one
pub data Tells {A : Type 0} (P : Fault → Type 0) : Result A Fault → Type 0 where
  fault_told : (fault : Fault) → P fault → Tells P (Err fault)
  value_told : (x : A) → Tells P (Ok x)

-- an answer that is made of a value and the lines behind what was read; and the lines that the value holds
pub record Shape (A R : Type 0) : Type 0 where
  pub answer : A → List Line → R
  pub held : A → List Line

-- the answers of a reader on both texts: one fault; on the first text a fault behind the shared lines; a value and the shared lines that
-- are left; or on the first text lines behind the shared ones alone
pub data Stays {A R : Type 0} (shape : Shape A R) (texts : Texts) : Result R Fault → Result R Fault → Type 0 where
  refused : (fault : Fault) → texts.P fault → Stays shape texts (Err fault) (Err fault)
  refused_past : (fault : Fault) (other : Result R Fault) → texts.P fault → texts.Past fault → Stays shape texts (Err fault) other
  taken : (x : A) (front : List Line) → All (IsShared texts) (shape.held x) → All (IsShared texts) front → Stays shape texts (Ok (shape.answer x (front ++ texts.back))) (Ok (shape.answer x (front ++ texts.other_back)))
  taken_past : (x : A) (rest : List Line) (other : Result R Fault) → All (OnLine texts.Past) (shape.held x) → All (OnLine texts.Past) rest → Stays shape texts (Ok (shape.answer x rest)) other

-- a reader answers so on any two texts that share some lines, of which those before were read
abbrev pub Reads : {A R : Type 0} → Shape A R → List Line → (ℕ → List Line → Result R Fault) → Type 1
Reads shape before read = (texts : Texts) (front : List Line) → All (IsShared texts) before → All (IsShared texts) front
    → Stays shape texts (read texts.end (front ++ texts.back)) (read texts.other_end (front ++ texts.other_back))

-- ---- a text by itself

-- the lines behind the shared ones are a text that is shared with itself
abbrev pub alone : Texts → Texts
alone texts = record { P = texts.Past; Past = texts.Past; end = texts.end; other_end = texts.end; back = []; other_back = []; weaker = λ fault is. is; early = texts.early; behind = All-nil (OnLine texts.Past) }

shared_alone : (texts : Texts) (lines : List Line) → All (OnLine texts.Past) lines → All (IsShared (alone texts)) lines
shared_alone texts lines all = All-weaker (OnLine texts.Past) (IsShared (alone texts)) (λ line is. (is, refl)) lines all

past_alone : (texts : Texts) (lines : List Line) → All (IsShared (alone texts)) lines → All (OnLine texts.Past) lines
past_alone texts lines all = All-weaker (IsShared (alone texts)) (OnLine texts.Past) (λ line is. is.0) lines all

module _ {A R : Type 0} (shape : Shape A R) (texts : Texts) where
  -- what a reader answers there, is behind the shared lines
  pub past : {r q : Result R Fault} (other : Result R Fault) → Stays shape (alone texts) r q → Stays shape texts r other
  past other (refused fault is) = refused_past fault other (texts.weaker fault is) is
  past other (refused_past fault q is too) = refused_past fault other (texts.weaker fault is) is
  past other (taken x front held all) = subst (λ (lines : List Line). Stays shape texts (Ok (shape.answer x lines)) other) (sym (append-nil front)) (taken_past x front other (past_alone texts (shape.held x) held) (past_alone texts front all))
  past other (taken_past x rest q held all) = taken_past x rest other held all

-- ---- step by step

-- a reader, and one behind it
pub then_stays : {A R B S : Type 0} (shape : Shape A R) (next : Shape B S) (texts : Texts) {r q : Result R Fault} (read : ℕ → R → Result S Fault) → Stays shape texts r q
    → ((x : A) → Reads next (shape.held x) (λ end lines. read end (shape.answer x lines))) → Stays next texts (r >>= read texts.end) (q >>= read texts.other_end)
then_stays shape next texts read (refused fault is) others = refused fault is
then_stays shape next texts read (refused_past fault q is too) others = refused_past fault (q >>= read texts.other_end) is too
then_stays shape next texts read (taken x front held all) others = others x texts front held all
then_stays shape next texts read (taken_past x rest q held all) others =
    subst (λ (lines : List Line). Stays next texts (read texts.end (shape.answer x lines)) (q >>= read texts.other_end)) (append-nil rest)
    (past next texts (q >>= read texts.other_end) (others x (alone texts) rest (shared_alone texts (shape.held x) held) (shared_alone texts rest all)))

-- what one line says, and what is read behind it
pub test_stays : {A B S : Type 0} {shape : Shape A S} {texts : Texts} (r : Result B Fault) (f g : B → Result S Fault) → Tells texts.P r → ((x : B) → Stays shape texts (f x) (g x)) → Stays shape texts (r >>= f) (r >>= g)
test_stays r f g (fault_told fault is) others = refused fault is
test_stays r f g (value_told x) others = others x

-- the same, where what it says on both texts is the same
pub tests_stay : {A B S : Type 0} {shape : Shape A S} {texts : Texts} (r q : Result B Fault) (f g : B → Result S Fault) → r ≡ q → Tells texts.P r → ((x : B) → Stays shape texts (f x) (g x)) → Stays shape texts (r >>= f) (q >>= g)
tests_stay {shape = shape} {texts = texts} r q f g same is others = subst (λ s. Stays shape texts (r >>= f) (s >>= g)) same (test_stays r f g is others)

-- a test with one answer on both texts, and what is read where it doesn't hold
pub if_stays : {A S : Type 0} {shape : Shape A S} {texts : Texts} (b c : Bool) (fault : Fault) (r q : Result S Fault) → b ≡ c → texts.P fault → Stays shape texts r q
    → Stays shape texts (if b then Err fault else r) (if c then Err fault else q)
if_stays true true fault r q same is others = refused fault is
if_stays true false fault r q same is others = absurd cc
if_stays false true fault r q same is others = absurd cc
if_stays false false fault r q same is others = others

-- one of two readers
pub either_stays : {A S : Type 0} {shape : Shape A S} {texts : Texts} (b : Bool) (r q s t : Result S Fault) → Stays shape texts r q → Stays shape texts s t → Stays shape texts (if b then r else s) (if b then q else t)
either_stays true r q s t first second = first
either_stays false r q s t first second = second

-- a test that tells a fault of the line, and those behind it
pub on_test : {A : Type 0} (P : Fault → Type 0) (holds : Bool) (fault : Fault) (others : Result A Fault) → P fault → Tells P others → Tells P (if holds then Err fault else others)
on_test P true fault others is behind = fault_told fault is
on_test P false fault others is behind = behind

-- tests of a line, and what is made of it
pub on_then : {A B : Type 0} (P : Fault → Type 0) (r : Result A Fault) (f : A → Result B Fault) → Tells P r → ((x : A) → Tells P (f x)) → Tells P (r >>= f)
on_then P r f (fault_told fault is) others = fault_told fault is
on_then P r f (value_told x) others = others x

-- ---- line by line

-- no line was read before
pub none_before : (texts : Texts) → All (IsShared texts) []
none_before texts = All-nil (IsShared texts)

pub one_before : (texts : Texts) (line : Line) → IsShared texts line → All (IsShared texts) (line ∷ [])
one_before texts line shared = All-cons (IsShared texts) line [] shared (none_before texts)

-- the faults of the line that was read before
pub on_before : (texts : Texts) (line : Line) → All (IsShared texts) (line ∷ []) → OnLine texts.P line
on_before texts line before = (All-head (IsShared texts) line [] before).0

-- a reader that looks at the first line, where there is one, and then may go on with those behind it
module _ {C A R : Type 0} (shape : Shape A R) (read : C → ℕ → List Line → Result R Fault)
    (none : (texts : Texts) (c : C) → Stays shape (alone texts) (read c texts.end []) (read c texts.end []))
    (some : (texts : Texts) (c : C) (line : Line) (front : List Line) → IsShared texts line → All (IsShared texts) front
    → ((other : C) → Stays shape texts (read other texts.end (front ++ texts.back)) (read other texts.other_end (front ++ texts.other_back)))
    → Stays shape texts (read c texts.end (line ∷ front ++ texts.back)) (read c texts.other_end (line ∷ front ++ texts.other_back))) where
  along : (texts : Texts) → ((c : C) → Stays shape texts (read c texts.end texts.back) (read c texts.other_end texts.other_back)) → (front : List Line) → All (IsShared texts) front → (c : C)
      → Stays shape texts (read c texts.end (front ++ texts.back)) (read c texts.other_end (front ++ texts.other_back))
  along texts behind [] all c = behind c
  along texts behind (line ∷ front) all c =
      let others = All-tail (IsShared texts) line front all in
      some texts c line front (All-head (IsShared texts) line front all) others (along texts behind front others)

  behind_alone : (texts : Texts) (c : C) → Stays shape (alone texts) (read c texts.end texts.back) (read c texts.end texts.back)
  behind_alone texts c = subst (λ (lines : List Line). Stays shape (alone texts) (read c texts.end lines) (read c texts.end lines)) (append-nil texts.back)
      (along (alone texts) (none texts) texts.back (shared_alone texts texts.back texts.behind) c)

  pub reads_lines : (c : C) → Reads shape [] (read c)
  reads_lines c texts front before all = along texts (λ other. past shape texts (read other texts.other_end texts.other_back) (behind_alone texts other)) front all c

-- ---- the line that is due

abbrev pub line_shape : Shape Line (Line × List Line)
line_shape = record { answer = λ line lines. (line, lines); held = λ line. line ∷ [] }

pub due_reads : Reads line_shape [] due_line
due_reads = reads_lines line_shape (λ (c : Unit {0}) end lines. due_line end lines) (λ texts c. refused (Syntax on texts.end) texts.early)
    (λ texts c line front shared all others. taken line front (one_before texts line shared) all) tt

inner_first : (texts : Texts) (line : Line) (front : List Line) (b c : Bool) → b ≡ c → IsShared texts line → All (IsShared texts) front
    → Stays line_shape texts (if b then Err (Syntax on texts.end) else Ok (line, front ++ texts.back)) (if c then Err (Syntax on texts.other_end) else Ok (line, front ++ texts.other_back))
inner_first texts line front true c same shared all = refused_past (Syntax on texts.end) _ (texts.weaker (Syntax on texts.end) texts.early) texts.early
inner_first texts line front false true same shared all = absurd cc
inner_first texts line front false false same shared all = taken line front (one_before texts line shared) all

pub inner_reads : Reads line_shape [] inner_line
inner_reads = reads_lines line_shape (λ (c : Unit {0}) end lines. inner_line end lines) (λ texts c. refused (Syntax on texts.end) texts.early)
    (λ texts c line front shared all others. inner_first texts line front (line.number == texts.end) (line.number == texts.other_end) shared.1 shared all) tt

-- ---- answers with nothing held

-- a value, in front of the lines
abbrev pub pair : {A : Type 0} → Shape A (A × List Line)
pair = record { answer = λ x lines. (x, lines); held = λ x. [] }

-- the lines alone
abbrev pub lines_alone : Shape (Unit {0}) (List Line)
lines_alone = record { answer = λ x lines. lines; held = λ x. [] }

-- a value alone
abbrev pub value_alone : {A : Type 0} → Shape A A
value_alone = record { answer = λ x lines. x; held = λ x. [] }

-- ---- what two answers come to

-- a fault is such a one as the first text may have
pub stays_on : {A R : Type 0} {shape : Shape A R} {texts : Texts} {r q : Result R Fault} (fault : Fault) → Stays shape texts r q → r ≡ Err fault → texts.P fault
stays_on {texts = texts} fault (refused other is) e = let same : other ≡ fault = cc in subst texts.P same is
stays_on {texts = texts} fault (refused_past other q is too) e = let same : other ≡ fault = cc in subst texts.P same is
stays_on fault (taken x front held all) e = absurd cc
stays_on fault (taken_past x rest q held all) e = absurd cc

-- it stands behind the shared lines, or the other text has it, too
pub stays_or_past : {A R : Type 0} {shape : Shape A R} {texts : Texts} {r q : Result R Fault} (fault : Fault) → Stays shape texts r q → r ≡ Err fault → texts.Past fault ⊎ (q ≡ Err fault)
stays_or_past fault (refused other is) e = inr e
stays_or_past {texts = texts} fault (refused_past other q is too) e = inl (let same : other ≡ fault = cc in subst texts.Past same too)
stays_or_past fault (taken x front held all) e = absurd cc
stays_or_past fault (taken_past x rest q held all) e = absurd cc
