-- What is read of bytes that begin with whole lines: a fault in these lines stays, whatever stands behind them, and without that
-- the text has no other fault than that it ends too early. For any reader of a whole text. Cited by the laws of faults.
use Rattle.std.proofs.Common.{◌≡◌, ◌⊎◌, inl, inr, ℕ, ◌<◌, ◌≤◌, List, [], ◌++◌, All, Result, Ok, Err, IfErr, sym, ap, subst, ◌∙◌, arith, append-nil}
use Rattle.std.proofs.lemmas.Bool.{ne_eqb}
use Rattle.std.proofs.lemmas.List.Elements.{All-nil, All-weaker}
use Rattle.std.proofs.lemmas.Result.{IfErr-at_err}
use Rattle.byte_texts.proofs.Binding.{same_ok}
use Rattle.text_scan.specs.declared.token.Token.{Token}
use Rattle.text_scan.specs.FaultKinds.{FaultKind, Header, Syntax}
use Rattle.text_scan.specs.Faults.{Fault, ◌on◌}
use Rattle.text_scan.specs.Lines.{Line, end_line_of, lines_of}
use Rattle.text_scan.specs.Tokens.{BadByte, tokens_of}
use Rattle.text_scan.proofs.LineFeeds.{line_feeds-append}
use Rattle.fault_laws.specs.CutTexts.{AreWholeLines}
use Rattle.fault_laws.proofs.CutTokens.{AreCut, lines_cut}
use Rattle.fault_laws.proofs.Readers.{IsShared, OnLine, Stays, Texts, stays_on, stays_or_past, value_alone}

-- ---- two texts, of which the lines above line e are the same

-- on line e or below it
abbrev Late : ℕ → Fault → Type 0
Late e fault = e ≤ fault.line

-- what is told of the first text above line e is to be told of the other
abbrev stay_texts : (e end other : ℕ) (back more : List Line) → e ≤ end → All (λ l. e ≤ l.number) back → Texts
stay_texts e end other back more le all = record {
  P = λ fault. Unit {0};
  Past = Late e;
  end = end;
  other_end = other;
  back = back;
  other_back = more;
  weaker = λ fault late. tt;
  early = le;
  behind = All-weaker (λ (l : Line). e ≤ l.number) (OnLine (Late e)) (λ l late kind is. late) back all;
}

-- the first text ends on line e
abbrev cut_texts : (e other : ℕ) (more : List Line) (Early : Fault → Type 0) → Early (Syntax on e) → Texts
cut_texts e other more Early early = record {
  P = λ fault. (fault.line < e) ⊎ Early fault;
  Past = Early;
  end = e;
  other_end = other;
  back = [];
  other_back = more;
  weaker = λ fault is. inr is;
  early = early;
  behind = All-nil (OnLine Early);
}

-- lines above line e are shared
shared_above : (e : ℕ) (texts : Texts) → e ≤ texts.end → e ≤ texts.other_end → ((kind : FaultKind) (n : ℕ) → n < e → texts.P (kind on n)) → (lines : List Line) → All (λ l. l.number < e) lines → All (IsShared texts) lines
shared_above e texts le other_le may lines all = All-weaker (λ (l : Line). l.number < e) (IsShared texts) each lines all
  where
    each : (l : Line) → l.number < e → IsShared texts l
    each l above = (
      λ kind is. may kind l.number above,
      ne_eqb l.number texts.end (λ same. absurd (omega (arith, same, above, le))) ∙ sym (ne_eqb l.number texts.other_end (λ same. absurd (omega (arith, same, above, other_le)))),
    )

-- ---- a reader of a whole text

module _ {R : Type 0} (Needs : Texts → Type 0) (headed : (texts : Texts) → texts.Past (Header on texts.end) → Needs texts) (read : ℕ → List Line → Result R Fault)
    (stays : (texts : Texts) → Needs texts → (front : List Line) → All (IsShared texts) front → Stays value_alone texts (read texts.end (front ++ texts.back)) (read texts.other_end (front ++ texts.other_back))) where
  -- a fault above line e is that of the other text
  lines_stay : (e end other : ℕ) (front back more : List Line) → e ≤ end → e ≤ other → All (λ l. l.number < e) front → All (λ l. e ≤ l.number) back
      → (fault : Fault) → read end (front ++ back) ≡ Err fault → fault.line < e → read other (front ++ more) ≡ Err fault
  lines_stay e end other front back more le other_le before behind fault is above =
      let texts = stay_texts e end other back more le behind in
      let shared = shared_above e texts le other_le (λ kind n below. tt) front before in
      elim (stays_or_past fault (stays texts (headed texts le) front shared) is) [ inl late ↦ absurd (omega (arith, late, above)) | inr same ↦ same ]

  -- a text that ends on line e, where the other has no fault above it
  cut_early : (e other : ℕ) (front more : List Line) (Early : Fault → Type 0) (early : Early (Syntax on e)) → Needs (cut_texts e other more Early early) → e ≤ other → All (λ l. l.number < e) front
      → IfErr (read other (front ++ more)) (λ f. e ≤ f.line) → (fault : Fault) → read e (front ++ []) ≡ Err fault → Early fault
  cut_early e other front more Early early needs le before late fault is =
      let texts = cut_texts e other more Early early in
      let shared = shared_above e texts (omega arith) le (λ kind n below. inl below) front before in
      let both = stays texts needs front shared in
      elim (stays_or_past fault both is) [
        | inl late ↦ late
        | inr same ↦ by_line (stays_on fault both is) (IfErr-at_err (λ (f : Fault). e ≤ f.line) same late)
      ]
    where
      by_line : (fault.line < e) ⊎ Early fault → e ≤ fault.line → Early fault
      by_line (inl above) below = absurd (omega (arith, above, below))
      by_line (inr early) below = early

  -- ---- the same of bytes

  abbrev read_bytes : ℕ → List ℕ → List Token → Result R Fault
  read_bytes first_line bytes tokens = read (end_line_of first_line bytes) (lines_of bytes tokens)

  end_below : (first_line : ℕ) (lines more : List ℕ) → end_line_of first_line lines ≤ end_line_of first_line (lines ++ more)
  end_below first_line lines more = omega (arith, line_feeds-append lines more)

  -- the lines of two texts with the same whole lines
  same_own : {first_line : ℕ} {lines more other : List ℕ} {tokens others : List Token} (cut : AreCut first_line lines more tokens) (there : AreCut first_line lines other others) → lines_of (lines ++ other) others ≡ lines_of lines cut.own ++ there.back
  same_own {lines = lines} cut there =
      let same : there.own ≡ cut.own = same_ok {F = BadByte} there.own cut.own (sym there.scanned ∙ cut.scanned) in
      there.are ∙ ap (λ (own : List Token). lines_of lines own ++ there.back) same

  pub bytes_stay : (first_line : ℕ) (lines more other : List ℕ) (tokens others : List Token) → AreWholeLines lines → tokens_of first_line (lines ++ more) ≡ Ok tokens → tokens_of first_line (lines ++ other) ≡ Ok others
      → (fault : Fault) → read_bytes first_line (lines ++ more) tokens ≡ Err fault → fault.line < end_line_of first_line lines → read_bytes first_line (lines ++ other) others ≡ Err fault
  bytes_stay first_line lines more other tokens others whole scanned scanned_there fault is above =
      let cut = lines_cut first_line lines more tokens whole scanned in
      let there = lines_cut first_line lines other others whole scanned_there in
      let end = end_line_of first_line (lines ++ more) in
      let other_end = end_line_of first_line (lines ++ other) in
      let here : read end (lines_of lines cut.own ++ cut.back) ≡ Err fault = ap (read end) (sym cut.are) ∙ is in
      ap (read other_end) (same_own cut there)
      ∙ lines_stay (end_line_of first_line lines) end other_end (lines_of lines cut.own) cut.back there.back (end_below first_line lines more) (end_below first_line lines other) cut.before cut.behind fault here above

  pub bytes_cut : (first_line : ℕ) (lines more : List ℕ) (own tokens : List Token) (Early : Fault → Type 0) (early : Early (Syntax on end_line_of first_line lines)) → ((other : ℕ) (back : List Line) → Needs (cut_texts (end_line_of first_line lines) other back Early early))
      → AreWholeLines lines → tokens_of first_line lines ≡ Ok own → tokens_of first_line (lines ++ more) ≡ Ok tokens → IfErr (read_bytes first_line (lines ++ more) tokens) (λ f. end_line_of first_line lines ≤ f.line)
      → (fault : Fault) → read_bytes first_line lines own ≡ Err fault → Early fault
  bytes_cut first_line lines more own tokens Early early needs whole scanned scanned_all late fault is =
      let cut = lines_cut first_line lines more tokens whole scanned_all in
      let e = end_line_of first_line lines in
      let other = end_line_of first_line (lines ++ more) in
      let same : own ≡ cut.own = same_ok {F = BadByte} own cut.own (sym scanned ∙ cut.scanned) in
      let here : read e (lines_of lines cut.own ++ []) ≡ Err fault = ap (read e) (append-nil (lines_of lines cut.own) ∙ ap (lines_of lines) (sym same)) ∙ is in
      let there : IfErr (read other (lines_of lines cut.own ++ cut.back)) (λ f. e ≤ f.line) = subst (λ (ls : List Line). IfErr (read other ls) (λ f. e ≤ f.line)) cut.are late in
      cut_early e other (lines_of lines cut.own) cut.back Early early (needs other cut.back) (end_below first_line lines more) cut.before there fault here
