-- The job of an input stands in front of its second part: the bytes up to there, their tokens, and what is read of them. Cited by the
-- laws of faults.
use Rattle.std.proofs.Common.{◌≡◌, ◌⊎◌, inl, inr, ℕ, zero, suc, ◌+◌, ◌-◌, ◌<◌, ◌≤◌, ◌==◌, Bool, true, false, cond, List, [], ◌∷◌, ◌++◌, length, take, drop, get_or, All, Result, Ok, Err, refl, sym, ap, subst, ◌∙◌, arith, append-nil, length-append, take-append-drop}
use Rattle.std.specs.List.{filter}
use Rattle.std.proofs.Math.Seq.{take-append-add, take-suc}
use Rattle.std.proofs.lemmas.Bool.{cases_lt, eqb-true}
use Rattle.std.proofs.lemmas.List.{take-append-le, take_all}
use Rattle.std.proofs.lemmas.List.Elements.{All-head, All-nil, All-tail, All-weaker}
use Rattle.byte_texts.specs.Reading.{◌>>=◌}
use Rattle.text_scan.specs.declared.Rest.{Rest}
use Rattle.text_scan.specs.declared.token.Token.{Token}
use Rattle.text_scan.specs.FaultKinds.{BadByte}
use Rattle.text_scan.specs.Faults.{Fault, ◌on◌}
use Rattle.text_scan.specs.Lines.{Line, end_line_of, lines_of}
use Rattle.text_scan.specs.Tokens as tokens
use Rattle.text_scan.specs.Tokens.{tokens_of}
use Rattle.text_scan.proofs.LineFeeds.{line_feeds, line_feeds-append}
use Rattle.text_scan.proofs.ScannedTokens.{AreTokens-scanned}
use Rattle.equation.specs.declared.job.Job.{Job}
use Rattle.job_text.specs.declared.stop.Stop.{Stop}
use Rattle.job_text.specs.AfterBlocks.{IsPlace}
use Rattle.job_text.specs.JobFaults.{job_at}
use Rattle.job_text.specs.SpelledJobs.{is_stop_line, job_in, job_of, place_behind, rest_of}
use Rattle.job_text.proofs.AfterPlaces.{second_part_place}
use Rattle.fault_laws.specs.CutTexts.{AreWholeLines}
use Rattle.fault_laws.proofs.CutTokens.{feeds-take, lines_cut}
use Rattle.fault_laws.proofs.FeedEnds.{numbers-lines_of}
use Rattle.fault_laws.proofs.JobReaders.{job_stays}
use Rattle.fault_laws.proofs.Readers.{IsOfLines, IsShared, OnLine, Texts, stays_on}

-- ---- bytes up to a place

whole_take : (bytes : List ℕ) (at : ℕ) → at ≤ length bytes → (at ≡ 0) ⊎ (get_or bytes (at - 1) 0 ≡ 10) → AreWholeLines (take at bytes)
whole_take bytes zero within begins = inl refl
whole_take bytes (suc k) within (inl none) = absurd (omega (arith, none))
whole_take bytes (suc k) within (inr feed) =
    let less : suc k - 1 ≡ k = omega arith in
    let here : get_or bytes k 0 ≡ 10 = ap (λ n. get_or bytes n 0) (sym less) ∙ feed in
    inr (take k bytes, take-suc bytes k 0 (omega (arith, within)) ∙ ap (λ (b : ℕ). take k bytes ++ b ∷ []) here)

-- they are all bytes, or whole lines
pub whole_place : (bytes : List ℕ) (rest : Rest) → IsPlace bytes rest → (rest.at ≡ length bytes) ⊎ AreWholeLines (take rest.at bytes)
whole_place bytes rest place = by_begins place.begins
  where
    by_begins : (rest.at ≡ length bytes) ⊎ (rest.at ≡ 0) ⊎ (get_or bytes (rest.at - 1) 0 ≡ 10) → (rest.at ≡ length bytes) ⊎ AreWholeLines (take rest.at bytes)
    by_begins (inl end) = inl end
    by_begins (inr begins) = inr (whole_take bytes rest.at place.within begins)

-- they have tokens, where all bytes have
front_scanned : (bytes : List ℕ) (rest : Rest) (all : List Token) → tokens_of 1 bytes ≡ Ok all → IsPlace bytes rest → (own : List Token) × (tokens_of 1 (take rest.at bytes) ≡ Ok own)
front_scanned bytes rest all scanned place = by_place (whole_place bytes rest place)
  where
    by_place : (rest.at ≡ length bytes) ⊎ AreWholeLines (take rest.at bytes) → (own : List Token) × (tokens_of 1 (take rest.at bytes) ≡ Ok own)
    by_place (inl end) = (all, ap (tokens_of 1) (take_all rest.at bytes (omega (arith, end))) ∙ scanned)
    by_place (inr whole) =
        let cut = lines_cut 1 (take rest.at bytes) (drop rest.at bytes) all whole (ap (tokens_of 1) (take-append-drop rest.at bytes) ∙ scanned) in
        (cut.own, cut.scanned)

-- ---- what is read of an input

-- an input with a bad byte
pub in_bad : (stop : Stop) (bytes : List ℕ) (bad : tokens.BadByte) → tokens_of 1 bytes ≡ Err bad → job_in stop bytes ≡ Err (BadByte on bad.line)
unfolding job_in
in_bad stop bytes bad is = rw is refl

-- and any other one
in_at : (stop : Stop) (bytes : List ℕ) (all : List Token) (rest : Rest) → tokens_of 1 bytes ≡ Ok all → rest_of stop bytes (lines_of bytes all) ≡ rest
    → job_in stop bytes ≡ (job_of (take rest.at bytes) (tokens_of 1 (take rest.at bytes)) >>= λ job. Ok (job, rest))
unfolding job_in
in_at stop bytes all rest scanned is = rw (scanned, is) refl

-- the job that bytes with these tokens say
abbrev pub job_read : List ℕ → List Token → Result Job Fault
job_read bytes own = job_at (end_line_of 1 bytes) (lines_of bytes own)

-- a job, with where the second part begins
abbrev pub with_rest : Rest → Job → Result (Job × Rest) Fault
with_rest rest job = Ok (job, rest)

-- what is read of bytes whose second part begins there
abbrev pub front_read : List ℕ → List Token → Rest → Result (Job × Rest) Fault
front_read bytes own rest = job_read bytes own >>= with_rest rest

record HasFront (stop : Stop) (bytes : List ℕ) (rest : Rest) : Type 0 where
  place : IsPlace bytes rest
  own : List Token
  scanned : tokens_of 1 (take rest.at bytes) ≡ Ok own
  read : job_in stop bytes ≡ front_read (take rest.at bytes) own rest

front_of_text : (stop : Stop) (bytes : List ℕ) (all : List Token) → tokens_of 1 bytes ≡ Ok all → HasFront stop bytes (rest_of stop bytes (lines_of bytes all))
front_of_text stop bytes all scanned =
    let rest = rest_of stop bytes (lines_of bytes all) in
    let place = second_part_place bytes stop rest (record { tokens = all; scanned = scanned; begins = refl }) in
    let own = front_scanned bytes rest all scanned place in
    record {
      place = place;
      own = own.0;
      scanned = own.1;
      read = in_at stop bytes all rest scanned refl ∙ ap (λ (r : Result (List Token) tokens.BadByte). job_of (take rest.at bytes) r >>= λ job. Ok (job, rest)) own.1;
    }

-- the job has the fault that is told
pub value_refused : (r : Result Job Fault) (rest : Rest) (fault : Fault) → (r >>= with_rest rest) ≡ Err fault → r ≡ Err fault
value_refused (Ok job) rest fault e = absurd cc
value_refused (Err other) rest fault e = cc

-- ---- on which lines the faults are

-- a fault that lines may have, from line 1 to the one at the end
abbrev pub IsOn : ℕ → Fault → Type 0
IsOn end fault = (1 ≤ fault.line) × (fault.line ≤ end) × IsOfLines fault.kind

-- a text beside itself
abbrev one_text : (end : ℕ) → 1 ≤ end → Texts
one_text end some = record { P = IsOn end; Past = IsOn end; end = end; other_end = end; back = []; other_back = []; weaker = λ fault is. is; early = (some, omega arith, tt); behind = All-nil (OnLine (IsOn end)) }

job_within : (bytes : List ℕ) (own : List Token) → tokens_of 1 bytes ≡ Ok own → (fault : Fault) → job_at (end_line_of 1 bytes) (lines_of bytes own) ≡ Err fault → IsOn (end_line_of 1 bytes) fault
job_within bytes own scanned fault is =
    let end = end_line_of 1 bytes in
    let lines = lines_of bytes own in
    let are = AreTokens-scanned 1 bytes own scanned in
    let some : 1 ≤ end = omega arith in
    let texts = one_text end some in
    let numbers : All (λ l. (1 ≤ l.number) × (l.number ≤ end)) lines = numbers-lines_of (λ n. (1 ≤ n) × (n ≤ end)) bytes own (λ k d inside. (are.first k d inside, are.last k d inside)) in
    let shared = All-weaker (λ (l : Line). (1 ≤ l.number) × (l.number ≤ end)) (IsShared texts) (λ l both. (λ kind told. (both.0, both.1, told), refl)) lines numbers in
    stays_on fault (job_stays texts (some, omega arith, tt) lines shared) (ap (job_at end) (append-nil lines) ∙ is)

-- of an input without a bad byte
pub in_within : (stop : Stop) (bytes : List ℕ) (all : List Token) → tokens_of 1 bytes ≡ Ok all → (fault : Fault) → job_in stop bytes ≡ Err fault → IsOn (rest_of stop bytes (lines_of bytes all)).line fault
in_within stop bytes all scanned fault is =
    let rest = rest_of stop bytes (lines_of bytes all) in
    let front = front_of_text stop bytes all scanned in
    let told = job_within (take rest.at bytes) front.own front.scanned fault (value_refused (job_read (take rest.at bytes) front.own) rest fault (sym front.read ∙ is)) in
    subst (λ n. IsOn n fault) (sym front.place.line) told

-- the second part begins on a line of the text
pub rest_line : (stop : Stop) (bytes : List ℕ) (all : List Token) → tokens_of 1 bytes ≡ Ok all → (rest_of stop bytes (lines_of bytes all)).line ≤ end_line_of 1 bytes
rest_line stop bytes all scanned = let front = front_of_text stop bytes all scanned in omega (arith, front.place.line, feeds-take (rest_of stop bytes (lines_of bytes all)).at bytes)

-- ---- whole lines that begin the second part, or don't

abbrev NoStop : Stop → List Line → Type 0
NoStop stop own = (bytes : List ℕ) (back : List Line) → rest_of stop bytes (own ++ back) ≡ rest_of stop bytes back

-- a line above line e begins it
pub record StopsAt (stop : Stop) (e : ℕ) (own : List Line) : Type 0 where
  pub number : ℕ
  pub above : number < e
  pub rest : (bytes : List ℕ) (back : List Line) → rest_of stop bytes (own ++ back) ≡ record { at = place_behind (number - 1) bytes; line = number }

pub stops : (stop : Stop) (e : ℕ) (own : List Line) → All (λ l. l.number < e) own → NoStop stop own ⊎ StopsAt stop e own
stops stop e [] all = inl (λ bytes back. refl)
stops stop e (line ∷ own) all = by_test (is_stop_line stop line.words) refl (stops stop e own (All-tail (λ (l : Line). l.number < e) line own all))
  where
    by_test : (b : Bool) → is_stop_line stop line.words ≡ b → NoStop stop own ⊎ StopsAt stop e own → NoStop stop (line ∷ own) ⊎ StopsAt stop e (line ∷ own)
    by_test true is others = inr (record { number = line.number; above = All-head (λ (l : Line). l.number < e) line own all; rest = λ bytes back. rw is refl })
    by_test false is (inl none) = inl (λ bytes back. rw is (none bytes back))
    by_test false is (inr at) = inr (record { number = at.number; above = at.above; rest = λ bytes back. rw is (at.rest bytes back) })

-- the place behind so many feeds is one of the bytes, or their end
place-within : (feeds : ℕ) (bytes : List ℕ) → place_behind feeds bytes ≤ length bytes
place-within zero bytes = omega arith
place-within (suc feeds) [] = omega arith
place-within (suc feeds) (b ∷ bytes) = by_test (b == 10) (place-within feeds bytes) (place-within (suc feeds) bytes)
  where
    by_test : (t : Bool) → place_behind feeds bytes ≤ length bytes → place_behind (suc feeds) bytes ≤ length bytes → cond t (place_behind feeds bytes) (place_behind (suc feeds) bytes) + 1 ≤ suc (length bytes)
    by_test true fewer same = omega (arith, fewer)
    by_test false fewer same = omega (arith, same)

-- behind feeds that stand in front
pub place-front : (feeds : ℕ) (front more : List ℕ) → feeds ≤ line_feeds front → place_behind feeds (front ++ more) ≡ place_behind feeds front
place-front zero front more enough = refl
place-front (suc feeds) [] more enough = absurd (omega (arith, enough))
place-front (suc feeds) (b ∷ front) more enough = by_test (b == 10) enough (place-front feeds front more) (place-front (suc feeds) front more)
  where
    by_test : (t : Bool) → suc feeds ≤ length (cond t (b ∷ filter (λ c. c == 10) front) (filter (λ c. c == 10) front))
        → (feeds ≤ line_feeds front → place_behind feeds (front ++ more) ≡ place_behind feeds front)
        → (suc feeds ≤ line_feeds front → place_behind (suc feeds) (front ++ more) ≡ place_behind (suc feeds) front)
        → cond t (place_behind feeds (front ++ more)) (place_behind (suc feeds) (front ++ more)) + 1 ≡ cond t (place_behind feeds front) (place_behind (suc feeds) front) + 1
    by_test true some fewer same = ap (λ n. n + 1) (fewer (omega (arith, some)))
    by_test false some fewer same = ap (λ n. n + 1) (same some)

-- the job in front of a line of these
abbrev pub stopped : List ℕ → ℕ → Result (Job × Rest) Fault
stopped lines number =
    let at = place_behind (number - 1) lines in
    job_of (take at lines) (tokens_of 1 (take at lines)) >>= λ job. Ok (job, record { at = at; line = number })

-- whatever stands behind lines of which one begins the second part
pub text_stops : (stop : Stop) (lines more : List ℕ) (all : List Token) (own back : List Line) (at : StopsAt stop (end_line_of 1 lines) own) → tokens_of 1 (lines ++ more) ≡ Ok all → lines_of (lines ++ more) all ≡ own ++ back
    → job_in stop (lines ++ more) ≡ stopped lines at.number
text_stops stop lines more all own back at scanned are =
    let place = place_behind (at.number - 1) lines in
    let rest : ℕ → Rest = λ n. record { at = n; line = at.number } in
    let begins : rest_of stop (lines ++ more) (lines_of (lines ++ more) all) ≡ rest place = ap (rest_of stop (lines ++ more)) are ∙ at.rest (lines ++ more) back ∙ ap rest (place-front (at.number - 1) lines more (omega (arith, at.above))) in
    in_at stop (lines ++ more) all (rest place) scanned begins
    ∙ ap (λ (f : List ℕ). job_of f (tokens_of 1 f) >>= λ job. Ok (job, rest place)) (take-append-le place lines more (place-within (at.number - 1) lines))

-- ---- whole lines, none of which begins the second part

-- then it begins on the line at their end or below it
abbrev IsLate : ℕ → Rest → Type 0
IsLate e rest = e ≤ rest.line

rest_late : (stop : Stop) (bytes : List ℕ) (e : ℕ) (back : List Line) → All (λ l. e ≤ l.number) back → e ≤ end_line_of 1 bytes → IsLate e (rest_of stop bytes back)
rest_late stop bytes e [] all last = last
rest_late stop bytes e (line ∷ back) all last = by_test (is_stop_line stop line.words) (All-head (λ (l : Line). e ≤ l.number) line back all) (rest_late stop bytes e back (All-tail (λ (l : Line). e ≤ l.number) line back all) last)
  where
    by_test : (b : Bool) → e ≤ line.number → IsLate e (rest_of stop bytes back) → IsLate e (cond b (record { at = place_behind (line.number - 1) bytes; line = line.number }) (rest_of stop bytes back))
    by_test true here others = here
    by_test false here others = others

-- a place on such a line stands behind them
behind_lines : (lines more : List ℕ) (rest : Rest) → AreWholeLines lines → IsPlace (lines ++ more) rest → end_line_of 1 lines ≤ rest.line → length lines ≤ rest.at
behind_lines lines more rest (inl none) place late = omega (arith, ap length none)
behind_lines lines more rest (inr whole) place late = elim (cases_lt rest.at (length lines)) [
  | inl lt ↦ absurd (
      let x = whole.0 in
      let long : length lines ≡ length x + 1 = ap length whole.1 ∙ length-append x (10 ∷ []) in
      let feed : line_feeds lines ≡ line_feeds x + 1 = ap line_feeds whole.1 ∙ line_feeds-append x (10 ∷ []) in
      let front : take rest.at (lines ++ more) ≡ take rest.at x =
      take-append-le rest.at lines more (omega (arith, lt)) ∙ ap (take rest.at) whole.1 ∙ take-append-le rest.at x (10 ∷ []) (omega (arith, lt, long)) in
      omega (arith, place.line, ap line_feeds front, feeds-take rest.at x, late, feed)
      )
  | inr ge ↦ ge
]

pub record GoesOn (stop : Stop) (lines more : List ℕ) : Type 0 where
  pub rest : Rest
  pub inner : List ℕ
  pub part : (n : ℕ) × (inner ≡ take n more)
  pub own : List Token
  pub scanned : tokens_of 1 (lines ++ inner) ≡ Ok own
  pub read : job_in stop (lines ++ more) ≡ front_read (lines ++ inner) own rest

pub text_goes_on : (stop : Stop) (lines more : List ℕ) (all : List Token) (own back : List Line) → AreWholeLines lines → NoStop stop own → tokens_of 1 (lines ++ more) ≡ Ok all → lines_of (lines ++ more) all ≡ own ++ back → All (λ l. end_line_of 1 lines ≤ l.number) back
    → GoesOn stop lines more
text_goes_on stop lines more all own back whole none scanned are below =
    let bytes = lines ++ more in
    let e = end_line_of 1 lines in
    let rest = rest_of stop bytes (lines_of bytes all) in
    let begins : rest ≡ rest_of stop bytes back = ap (rest_of stop bytes) are ∙ none bytes back in
    let late : IsLate e rest = subst (IsLate e) (sym begins) (rest_late stop bytes e back below (omega (arith, line_feeds-append lines more))) in
    let front = front_of_text stop bytes all scanned in
    let k = rest.at - length lines in
    let place : rest.at ≡ length lines + k = omega (arith, behind_lines lines more rest whole front.place late) in
    let split : take rest.at bytes ≡ lines ++ take k more = ap (λ n. take n bytes) place ∙ take-append-add lines more k in
    record {
      rest = rest;
      inner = take k more;
      part = (k, refl);
      own = front.own;
      scanned = ap (tokens_of 1) (sym split) ∙ front.scanned;
      read = front.read ∙ ap (λ (f : List ℕ). front_read f front.own rest) split;
    }

-- ---- bytes up to their last line feed

pub record Split (bytes : List ℕ) : Type 0 where
  pub lines : List ℕ
  pub tail : List ℕ
  pub are : bytes ≡ lines ++ tail
  pub whole : AreWholeLines lines
  pub feeds : line_feeds bytes ≡ line_feeds lines

feeds_both : (b : ℕ) (x y : List ℕ) → line_feeds x ≡ line_feeds y → line_feeds (b ∷ x) ≡ line_feeds (b ∷ y)
feeds_both b x y same = by_test (b == 10)
  where
    by_test : (t : Bool) → length (cond t (b ∷ filter (λ c. c == 10) x) (filter (λ c. c == 10) x)) ≡ length (cond t (b ∷ filter (λ c. c == 10) y) (filter (λ c. c == 10) y))
    by_test true = ap suc same
    by_test false = same

pub split : (bytes : List ℕ) → Split bytes
split [] = record { lines = []; tail = []; are = refl; whole = inl refl; feeds = refl }
split (b ∷ bytes) = by_lines (split bytes)
  where
    with_feed : (others : Split bytes) → others.lines ≡ [] → (t : Bool) → (b == 10) ≡ t → Split (b ∷ bytes)
    with_feed others none true is = record {
      lines = b ∷ [];
      tail = others.tail;
      are = ap (λ (bs : List ℕ). b ∷ bs) (others.are ∙ ap (λ (ls : List ℕ). ls ++ others.tail) none);
      whole = inr ([], ap (λ (n : ℕ). n ∷ []) (eqb-true b 10 is));
      feeds = feeds_both b bytes [] (others.feeds ∙ ap line_feeds none);
    }
    with_feed others none false is = record { lines = []; tail = b ∷ bytes; are = refl; whole = inl refl; feeds = rw is (others.feeds ∙ ap line_feeds none) }

    by_whole : (others : Split bytes) → AreWholeLines others.lines → Split (b ∷ bytes)
    by_whole others (inl none) = with_feed others none (b == 10) refl
    by_whole others (inr whole) = record {
      lines = b ∷ others.lines;
      tail = others.tail;
      are = ap (λ (bs : List ℕ). b ∷ bs) others.are;
      whole = inr (b ∷ whole.0, ap (λ (bs : List ℕ). b ∷ bs) whole.1);
      feeds = feeds_both b bytes others.lines others.feeds;
    }

    by_lines : Split bytes → Split (b ∷ bytes)
    by_lines others = by_whole others others.whole
