-- Tallies of what all seats did. Each is a sum over all facts of all views.
use Rattle.std.specs.Prelude.{◌≡◌, ℕ, ◌+◌, min, List, [], ◌∷◌, ◌⊎◌}
use Rattle.residue_sums.specs.Sums.{sum_below}
use Rattle.block_store.specs.declared.key.BoardKey.{BoardKey}
use Rattle.block_store.specs.declared.outcome.StepOutcome.TheVariants.{Ran, Skipped, Failed}
use Rattle.block_store.specs.declared.view.Fact.{Fact}
use Rattle.block_store.specs.declared.view.Fact.TheVariants.{Claimed, Began, Ended, Marked, Noticed, Took, Gave, Put}
use Rattle.block_store.specs.declared.view.View.{View}
use Rattle.block_store.specs.Keys.{step_count}
use Rattle.block_store.specs.Sums.{same, same_pair, when_same}

-- the weights of facts, added up
abbrev pub weigh : (Fact → ℕ) → List Fact → ℕ
weigh h [] = 0
weigh h (f ∷ facts) = h f + weigh h facts

-- the weights of all facts of all views
abbrev pub amount : (Fact → ℕ) → List View → ℕ
amount h [] = 0
amount h (v ∷ views) = weigh h v.facts + amount h views

-- how often a number stands in a list
abbrev pub count_in : ℕ → List ℕ → ℕ
count_in x [] = 0
count_in x (y ∷ ys) = same y x + count_in x ys

-- how many views stand for a worker
abbrev pub stand_for : ℕ → List View → ℕ
stand_for worker [] = 0
stand_for worker (v ∷ views) = count_in worker v.workers + stand_for worker views

-- the fact stands among the facts
abbrev pub In : Fact → List Fact → Type 0
In f [] = ⊥
In f (g ∷ facts) = (g ≡ f) ⊎ In f facts

-- ---- weights: 1 for a fact of the kind, about step t or the pair (s, t), and else 0

abbrev pub claim_of : ℕ → Fact → ℕ
claim_of t (Claimed u) = same u t
claim_of t _ = 0

abbrev pub begin_of : ℕ → Fact → ℕ
begin_of t (Began u n) = same u t
begin_of t _ = 0

abbrev pub end_of : ℕ → Fact → ℕ
end_of t (Ended u n o) = same u t
end_of t _ = 0

-- t ended and ran
abbrev pub good_of : ℕ → Fact → ℕ
good_of t (Ended u n Ran) = same u t
good_of t _ = 0

-- t ended and failed or was skipped
abbrev pub bad_of : ℕ → Fact → ℕ
bad_of t (Ended u n Skipped) = same u t
bad_of t (Ended u n (Failed row col)) = same u t
bad_of t _ = 0

abbrev pub mark_of : ℕ → ℕ → Fact → ℕ
mark_of s t (Marked from to) = same_pair from to s t
mark_of s t _ = 0

abbrev pub notice_of : ℕ → ℕ → Fact → ℕ
notice_of s t (Noticed from to left) = same_pair from to s t
notice_of s t _ = 0

-- a pair into t was noticed with 0 left
abbrev pub last_of : ℕ → Fact → ℕ
last_of t (Noticed from to left) = same_pair to left t 0
last_of t _ = 0

-- stamp n was drawn
abbrev pub stamp_of : ℕ → Fact → ℕ
stamp_of n (Began u m) = same m n
stamp_of n (Ended u m o) = same m n
stamp_of n _ = 0

-- block x was taken, and was given back or put
abbrev pub took_of : ℕ → Fact → ℕ
took_of x (Took y) = same y x
took_of x _ = 0

abbrev pub gave_of : ℕ → Fact → ℕ
gave_of x (Gave y) = same y x
gave_of x (Put t y) = same y x
gave_of x _ = 0

-- t put its block
abbrev pub put_of : ℕ → Fact → ℕ
put_of t (Put u y) = same u t
put_of t _ = 0

-- ---- weights that are stamps: that of the start and the finish of t, and 0 for any other fact

abbrev pub start_of : ℕ → Fact → ℕ
start_of t (Began u n) = when_same u t n
start_of t _ = 0

abbrev pub finish_of : ℕ → Fact → ℕ
finish_of t (Ended u n o) = when_same u t n
finish_of t _ = 0

-- ---- tallies

module _ (views : List View) where
  abbrev pub claims : ℕ → ℕ
  claims t = amount (claim_of t) views

  abbrev pub begins : ℕ → ℕ
  begins t = amount (begin_of t) views

  abbrev pub ends : ℕ → ℕ
  ends t = amount (end_of t) views

  abbrev pub goods : ℕ → ℕ
  goods t = amount (good_of t) views

  abbrev pub bads : ℕ → ℕ
  bads t = amount (bad_of t) views

  abbrev pub marks : ℕ → ℕ → ℕ
  marks s t = amount (mark_of s t) views

  abbrev pub notices : ℕ → ℕ → ℕ
  notices s t = amount (notice_of s t) views

  abbrev pub lasts : ℕ → ℕ
  lasts t = amount (last_of t) views

  abbrev pub stamps : ℕ → ℕ
  stamps n = amount (stamp_of n) views

  abbrev pub tooks : ℕ → ℕ
  tooks x = amount (took_of x) views

  abbrev pub gaves : ℕ → ℕ
  gaves x = amount (gave_of x) views

  abbrev pub puts : ℕ → ℕ
  puts t = amount (put_of t) views

  abbrev pub start : ℕ → ℕ
  start t = amount (start_of t) views

  abbrev pub finish : ℕ → ℕ
  finish t = amount (finish_of t) views

  -- how many edges into t are noticed, how many are marked, and whether one of them is
  abbrev pub noticed_into : BoardKey → ℕ → ℕ
  noticed_into key t = sum_below (λ s. notices s t) (step_count key + 1)

  abbrev pub marked_into : BoardKey → ℕ → ℕ
  marked_into key t = sum_below (λ s. marks s t) (step_count key + 1)

  abbrev pub mark : BoardKey → ℕ → ℕ
  mark key t = min 1 (marked_into key t)

  -- the start and finish stamps of all steps
  abbrev pub drawn : BoardKey → ℕ
  drawn key = sum_below (λ t. begins t + ends t) (step_count key + 1)
