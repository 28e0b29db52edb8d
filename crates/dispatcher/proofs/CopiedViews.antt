-- What a seat knows behind copies of blocks, and behind the one block that it kept. Cited where blocks are copied and put.
use Rattle.std.proofs.Common.{◌≡◌, ℕ, inl, inr, List, [], ◌∷◌, ◌++◌, All, refl, sym, ap, ◌∙◌, subst, append_assoc, arith}
use Rattle.std.proofs.lemmas.Bool.{cases_eq}
use Rattle.std.proofs.lemmas.List.Elements.{All-nil, All-cons, All-append, All-head, All-tail}
use Rattle.block_store.specs.declared.view.Fact.{Fact}
use Rattle.block_store.specs.declared.view.Fact.TheVariants.{Claimed, Refused, Began, Ended, Marked, Noticed, Took, Away, Gave, Put}
use Rattle.block_store.specs.declared.view.View.{View}
use Rattle.block_store.specs.Plays.{Holds, HasPut, IsRunning, NotHolds}
use Rattle.block_store.specs.Tallies.{weigh, begin_of, end_of, put_of}
use Rattle.block_store.specs.Views.{learned}
use Rattle.block_store.proofs.Sums.{same-eq, same-ne}
use Rattle.dispatcher.specs.Copying.{HasCopied, HoldsOne, IsCopyFact}
use Rattle.dispatcher.specs.Doing.{HasMovedBlocks, IsBlockFact}

-- ---- copies, one after another

pub copied-none : (v : View) → HasCopied v v
copied-none v = record { more = []; facts = refl; only = All-nil IsCopyFact; clock = refl }

pub copied-more : (v w u : View) (f : Fact) → HasCopied v w → IsCopyFact f → u ≡ learned f w → HasCopied v u
copied-more v w u f h is e = subst (HasCopied v) (sym e) (record {
  more = f ∷ h.more;
  facts = ap (λ (fs : List Fact). f ∷ fs) h.facts;
  only = All-cons IsCopyFact f h.more is h.only;
  clock = h.clock;
})

pub copied-then : (v w u : View) → HasCopied v w → HasCopied w u → HasCopied v u
copied-then v w u h k = record {
  more = k.more ++ h.more;
  facts = k.facts ∙ ap (λ (fs : List Fact). k.more ++ fs) h.facts ∙ sym (append_assoc k.more h.more v.facts);
  only = All-append IsCopyFact k.more h.more k.only h.only;
  clock = k.clock ∙ h.clock;
}

-- ---- what they leave

-- a weight that no copy has
abbrev pub IsApart : (Fact → ℕ) → Type 0
IsApart h = (f : Fact) → IsCopyFact f → h f ≡ 0

weigh-front : (h : Fact → ℕ) → IsApart h → (more facts : List Fact) → All IsCopyFact more → weigh h (more ++ facts) ≡ weigh h facts
weigh-front h apart [] facts only = refl
weigh-front h apart (f ∷ more) facts only = omega (arith, apart f (All-head IsCopyFact f more only), weigh-front h apart more facts (All-tail IsCopyFact f more only))

pub copied-weigh : (h : Fact → ℕ) → IsApart h → (v w : View) → HasCopied v w → weigh h w.facts ≡ weigh h v.facts
copied-weigh h apart v w c = ap (weigh h) c.facts ∙ weigh-front h apart c.more v.facts c.only

begin-apart : (t : ℕ) → IsApart (begin_of t)
begin-apart t (Took x) is = refl
begin-apart t (Away x) is = refl
begin-apart t (Gave x) is = refl
begin-apart t (Claimed u) is = absurd is
begin-apart t (Refused u n) is = absurd is
begin-apart t (Began u n) is = absurd is
begin-apart t (Ended u n o) is = absurd is
begin-apart t (Marked s u) is = absurd is
begin-apart t (Noticed s u n) is = absurd is
begin-apart t (Put u x) is = absurd is

end-apart : (t : ℕ) → IsApart (end_of t)
end-apart t (Took x) is = refl
end-apart t (Away x) is = refl
end-apart t (Gave x) is = refl
end-apart t (Claimed u) is = absurd is
end-apart t (Refused u n) is = absurd is
end-apart t (Began u n) is = absurd is
end-apart t (Ended u n o) is = absurd is
end-apart t (Marked s u) is = absurd is
end-apart t (Noticed s u n) is = absurd is
end-apart t (Put u x) is = absurd is

put-apart : (t : ℕ) → IsApart (put_of t)
put-apart t (Took x) is = refl
put-apart t (Away x) is = refl
put-apart t (Gave x) is = refl
put-apart t (Claimed u) is = absurd is
put-apart t (Refused u n) is = absurd is
put-apart t (Began u n) is = absurd is
put-apart t (Ended u n o) is = absurd is
put-apart t (Marked s u) is = absurd is
put-apart t (Noticed s u n) is = absurd is
put-apart t (Put u x) is = absurd is

-- a step that ran before copies runs behind them
pub copied-runs : (v w : View) (t : ℕ) → HasCopied v w → IsRunning v t → IsRunning w t
copied-runs v w t c runs = record {
  begun = omega (arith, runs.begun, copied-weigh (begin_of t) (begin-apart t) v w c);
  unended = copied-weigh (end_of t) (end-apart t) v w c ∙ runs.unended;
  unput = copied-weigh (put_of t) (put-apart t) v w c ∙ runs.unput;
}

-- ---- which blocks the seat holds

pub free-away : (v w : View) (x y : ℕ) → NotHolds v y → w ≡ learned (Away x) v → NotHolds w y
free-away v w x y free e = subst (λ (u : View). NotHolds u y) (sym e) (omega (arith, free))

pub free-back : (v w : View) (x y : ℕ) → NotHolds v y → w ≡ learned (Gave x) (learned (Took x) v) → NotHolds w y
free-back v w x y free e = subst (λ (u : View). NotHolds u y) (sym e) (omega (arith, free))

pub holds-took : (v w : View) (x : ℕ) → ((y : ℕ) → NotHolds v y) → w ≡ learned (Took x) v → HoldsOne x w
holds-took v w x free e = subst (HoldsOne x) (sym e) (record {
  one = omega (arith, free x, same-eq x x refl);
  others = λ y ne. omega (arith, free y, same-ne x y (λ h. ne (sym h)));
})

pub one-holds : (v : View) (x : ℕ) → HoldsOne x v → Holds v x
one-holds v x h = omega (arith, h.one)

pub free-gave : (v w : View) (x : ℕ) → HoldsOne x v → w ≡ learned (Gave x) v → (y : ℕ) → NotHolds w y
free-gave v w x h e y = subst (λ (u : View). NotHolds u y) (sym e) (elim (cases_eq y x) [
  | inl here ↦ (let own : NotHolds (learned (Gave x) v) x = omega (arith, h.one, same-eq x x refl) in subst (λ (z : ℕ). NotHolds (learned (Gave x) v) z) (sym here) own)
  | inr ne ↦ omega (arith, h.others y ne, same-ne x y (λ k. ne (sym k)))
])

pub free-put : (v w : View) (t x : ℕ) → HoldsOne x v → w ≡ learned (Put t x) v → (y : ℕ) → NotHolds w y
free-put v w t x h e y = subst (λ (u : View). NotHolds u y) (sym e) (elim (cases_eq y x) [
  | inl here ↦ (let own : NotHolds (learned (Put t x) v) x = omega (arith, h.one, same-eq x x refl) in subst (λ (z : ℕ). NotHolds (learned (Put t x) v) z) (sym here) own)
  | inr ne ↦ omega (arith, h.others y ne, same-ne x y (λ k. ne (sym k)))
])

pub put-known : (v w : View) (t x : ℕ) → w ≡ learned (Put t x) v → HasPut w t
put-known v w t x e = subst (λ (u : View). HasPut u t) (sym e) (omega (arith, same-eq t t refl))

-- ---- blocks were moved

block-from_copy : (t : ℕ) (f : Fact) → IsCopyFact f → IsBlockFact t f
block-from_copy t (Took x) is = is
block-from_copy t (Away x) is = is
block-from_copy t (Gave x) is = is
block-from_copy t (Claimed u) is = absurd is
block-from_copy t (Refused u n) is = absurd is
block-from_copy t (Began u n) is = absurd is
block-from_copy t (Ended u n o) is = absurd is
block-from_copy t (Marked s u) is = absurd is
block-from_copy t (Noticed s u n) is = absurd is
block-from_copy t (Put u x) is = absurd is

pub moved-none : (t : ℕ) (v w : View) → w ≡ v → HasMovedBlocks t v w
moved-none t v w e = subst (HasMovedBlocks t v) (sym e) (record { more = []; facts = refl; only = All-nil (IsBlockFact t); clock = refl })

pub moved-more : (t : ℕ) (v w : View) (f : Fact) → IsBlockFact t f → w ≡ learned f v → HasMovedBlocks t v w
moved-more t v w f is e = subst (HasMovedBlocks t v) (sym e) (record { more = f ∷ []; facts = refl; only = All-cons (IsBlockFact t) f [] is (All-nil (IsBlockFact t)); clock = refl })

pub moved-copied : (t : ℕ) (v w u : View) → HasCopied v w → HasMovedBlocks t w u → HasMovedBlocks t v u
moved-copied t v w u c m = record {
  more = m.more ++ c.more;
  facts = m.facts ∙ ap (λ (fs : List Fact). m.more ++ fs) c.facts ∙ sym (append_assoc m.more c.more v.facts);
  only = All-append (IsBlockFact t) m.more c.more m.only (λ k d below. block-from_copy t _ (c.only k d below));
  clock = m.clock ∙ c.clock;
}
