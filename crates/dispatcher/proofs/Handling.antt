-- Steps that were popped are handled, and stay so. Cited where a worker takes steps.
use Rattle.std.proofs.Common.{◌≡◌, ℕ, ◌≤◌, inl, inr, Bool, true, false, [], ◌∷◌, ◌++◌, refl, sym, ap, ◌∙◌, subst, append_assoc, arith}
use Rattle.std.specs.Prelude.{IfNone, IfSome, Option, None, Some}
use Rattle.std.proofs.lemmas.Bool.{cases_eq}
use Rattle.block_store.specs.declared.key.BoardKey.{BoardKey}
use Rattle.block_store.specs.declared.view.Fact.{Fact}
use Rattle.block_store.specs.declared.view.Fact.TheVariants.{Refused}
use Rattle.block_store.specs.declared.view.View.{View}
use Rattle.block_store.specs.Tallies.{In, bad_of, good_of, notice_of, weigh}
use Rattle.block_store.specs.Views.{learned}
use Rattle.block_store.proofs.Seating.{weigh-append}
use Rattle.ready_queue.specs.declared.queue.Pass.{Pass}
use Rattle.ready_queue.specs.declared.pass_view.PassView.{PassView}
use Rattle.ready_queue.specs.PassViews.{after_pop, times}
use Rattle.ready_queue.specs.Queues as queues
use Rattle.ready_queue.proofs.Numbers.{same-ne}
use Rattle.dispatcher.specs.Telling.{AreHandled, HasEndedAs, HasHandled, IsHandled, KeepsFacts}
use Rattle.dispatcher.proofs.QuietFacts.{later-in}

-- ---- facts

pub facts-same : (v w : View) → w.facts ≡ v.facts → KeepsFacts v w
facts-same v w is = ([], is)

pub facts-more : (v w : View) (f : Fact) → w ≡ learned f v → KeepsFacts v w
facts-more v w f is = (f ∷ [], ap (λ (x : View). x.facts) is)

pub facts-then : (a b c : View) → KeepsFacts a b → KeepsFacts b c → KeepsFacts a c
facts-then a b c first second = (second.0 ++ first.0, second.1 ∙ ap (λ fs. second.0 ++ fs) first.1 ∙ sym (append_assoc second.0 first.0 a.facts))

weigh-later : (h : Fact → ℕ) (v w : View) → KeepsFacts v w → weigh h v.facts ≤ weigh h w.facts
weigh-later h v w kept = omega (arith, ap (weigh h) kept.1, weigh-append h kept.0 v.facts)

-- ---- one step

ended-later : (bad : Bool) (t : ℕ) (v w : View) → KeepsFacts v w → HasEndedAs bad t v → HasEndedAs bad t w
ended-later true t v w kept ended = omega (arith, ended, weigh-later (bad_of t) v w kept)
ended-later false t v w kept ended = omega (arith, ended, weigh-later (good_of t) v w kept)

handled-later : (key : BoardKey) (t : ℕ) (v w : View) → KeepsFacts v w → IsHandled key t v → IsHandled key t w
handled-later key t v w kept (inl refused) =
    inl (refused.0, subst (λ fs. In (Refused t refused.0) fs) (sym kept.1) (later-in (Refused t refused.0) kept.0 v.facts refused.1))
handled-later key t v w kept (inr done) = inr (record {
  bad = done.bad;
  ended = ended-later done.bad t v w kept done.ended;
  told = λ next is. omega (arith, done.told next is, weigh-later (notice_of t next) v w kept);
})

pub handled-now : (key : BoardKey) (t : ℕ) (v w : View) → HasHandled key t v w → IsHandled key t w
handled-now key t v w (inl refused) = inl (refused.0, subst (λ (x : View). In (Refused t refused.0) x.facts) (sym refused.1) (inl refl))
handled-now key t v w (inr done) = inr done

-- ---- all that were popped

pub handled-none : (key : BoardKey) (old new : Pass) (v : View) → (queues.view new).popped ≡ (queues.view old).popped → AreHandled key old new v
handled-none key old new v none t more = absurd (omega (arith, more, ap (times t) none))

-- one step more was popped and handled
pub handled-next : (key : BoardKey) (t : ℕ) (start old taken new : Pass) (v w : View) → AreHandled key start old v
    → (queues.view taken).popped ≡ t ∷ (queues.view old).popped → (queues.view new).popped ≡ (queues.view taken).popped → KeepsFacts v w → IsHandled key t w
    → AreHandled key start new w
handled-next key t start old taken new v w so_far more none kept now u some = elim (cases_eq t u) [
  | inl here ↦ subst (λ (x : ℕ). IsHandled key x w) here now
  | inr other ↦ handled-later key u v w kept (so_far u (omega (arith, some, ap (times u) none, ap (times u) more, same-ne t u other)))
]

-- and then none
pub handled-end : (key : BoardKey) (start old new : Pass) (v w : View) → AreHandled key start old v → (queues.view new).popped ≡ (queues.view old).popped
    → KeepsFacts v w → AreHandled key start new w
handled-end key start old new v w so_far none kept t some = handled-later key t v w kept (so_far t (omega (arith, some, ap (times t) none)))

-- ---- what a pass popped

pub popped-one : (popped : Option ℕ) (old new : Pass) → IfSome popped (λ t. queues.view new ≡ after_pop t (queues.view old))
    → IfSome popped (λ t. (queues.view new).popped ≡ t ∷ (queues.view old).popped)
popped-one (Some t) old new is = ap (λ (v : PassView). v.popped) is
popped-one None old new is = is

pub popped-none : (popped : Option ℕ) (old new : Pass) → IfNone popped (queues.view new ≡ queues.view old) → IfNone popped ((queues.view new).popped ≡ (queues.view old).popped)
popped-none (Some t) old new is = is
popped-none None old new is = ap (λ (v : PassView). v.popped) is
