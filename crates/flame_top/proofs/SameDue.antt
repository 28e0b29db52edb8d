-- Two statuses and texts that are the same.
use Rattle.std.proofs.Common.{◌≡◌, inl, inr, ◌⊎◌, ℕ, List, Result, Err, sym, ◌∙◌, subst}
use Rattle.flame_top.specs.DueTexts.{Says}

-- one status and one text
abbrev pub Same : ℕ → ℕ → List ℕ → List ℕ → Type 0
Same status other text different = (status ≡ other) × (text ≡ different)

pub same_says : (due_status : ℕ) (due_text : List ℕ) (status other : ℕ) (text different : List ℕ) → Says due_status due_text status text → Says due_status due_text other different → Same status other text different
same_says due_status due_text status other text different says says_other = (says.0 ∙ sym says_other.0, says.1 ∙ sym says_other.1)

-- what is due is one status and one text
abbrev pub IsDetermined : (ℕ → List ℕ → Type 0) → Type 0
IsDetermined due = (status other : ℕ) (text different : List ℕ) → due status text → due other different → Same status other text different

-- two things that are due, of which only one can be
module _ (due later : ℕ → List ℕ → Type 0) (one : IsDetermined due) (one_later : IsDetermined later)
    (apart : (status other : ℕ) (text different : List ℕ) → due status text → later other different → ⊥) where
  pub same_either : IsDetermined (λ status text. due status text ⊎ later status text)
  same_either status other text different (inl a) (inl b) = one status other text different a b
  same_either status other text different (inl a) (inr b) = absurd (apart status other text different a b)
  same_either status other text different (inr a) (inl b) = absurd (apart other status different text b a)
  same_either status other text different (inr a) (inr b) = one_later status other text different a b

-- what is due first and what is due second have one status, and texts that are alike
abbrev pub AreAlike : (List ℕ → List ℕ → Type 0) → (first second : ℕ → List ℕ → Type 0) → Type 0
AreAlike alike first second = (status other : ℕ) (text different : List ℕ) → first status text → second other different → (status ≡ other) × alike text different

-- where each text is like itself, two that are the same are alike
module _ (alike : List ℕ → List ℕ → Type 0) (itself : (text : List ℕ) → alike text text) where
  pub alike_same : (status other : ℕ) (text different : List ℕ) → Same status other text different → (status ≡ other) × alike text different
  alike_same status other text different same = (same.0, subst (λ (t : List ℕ). alike text t) same.1 (itself text))

  pub alike_determined : (due : ℕ → List ℕ → Type 0) → IsDetermined due → AreAlike alike due due
  alike_determined due one status other text different is is_other = alike_same status other text different (one status other text different is is_other)

-- some status and some text are due
abbrev pub IsSomeDue : (ℕ → List ℕ → Type 0) → Type 0
IsSomeDue due = (status : ℕ) × (text : List ℕ) × due status text

-- a fault that a reader ends with is one
pub one_error : {A E : Type 0} (e f : E) → ◌≡◌ {A = Result A E} (Err e) (Err f) → e ≡ f
one_error e f same = cc
