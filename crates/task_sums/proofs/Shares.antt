-- How sums of products in which each product belongs to one task are made, and what they are for weights that are equal or 0. Cited by
-- the induction over a run of tasks and by the sums of all forms.
use Rattle.std.proofs.Common.{◌≡◌, ◌≢◌, ℕ, zero, suc, ◌+◌, ◌*◌, ◌/◌, ◌<◌, ◌≤◌, ◌⊎◌, inl, inr, refl, sym, ◌∙◌, ap, ap₂, arith}
use Rattle.residue_sums.specs.Sums.{sum_below}
use Rattle.residue_sums.specs.Tables.{Table}
use Rattle.residue_sums.proofs.Sums.{sum_below-same, sum_below-add, sum_below-zero, sum_below-scale}
use Rattle.task_sums.specs.SharedSums.{Tasks, WeightedSum, AgreeFor, IsOfBlock, IsShared}

module _ (b : ℕ) (tasks : Tasks) (inside : ℕ → ℕ → Type 0) where
  -- no sum at all
  pub IsShared-none : IsShared b tasks inside (λ f w r c. 0)
  IsShared-none = record { add = λ f g w r c. refl; same = λ f g w w' r c within each. refl }

  -- two sums
  pub IsShared-sum : (S T : WeightedSum tasks) → IsShared b tasks inside S → IsShared b tasks inside T → IsShared b tasks inside (λ f w r c. S f w r c + T f w r c)
  IsShared-sum S T s t = record {
    add = λ f g w r c. omega (arith, s.add f g w r c, t.add f g w r c);
    same = λ f g w w' r c within each. ap₂ (λ (x y : ℕ). x + y) (s.same f g w w' r c within each) (t.same f g w w' r c within each);
  }

  -- a sum times a number
  pub IsShared-scale : (n : ℕ) (S : WeightedSum tasks) → IsShared b tasks inside S → IsShared b tasks inside (λ f w r c. n * S f w r c)
  IsShared-scale n S s = record {
    add = λ f g w r c. let e : S (λ u. f u + g u) w r c ≡ S f w r c + S g w r c = s.add f g w r c in rw e (omega arith);
    same = λ f g w w' r c within each. ap (λ (x : ℕ). n * x) (s.same f g w w' r c within each);
  }

  -- the sum of products `value w r c k` below n, the k-th of which belongs to `owner r c k`
  module _ (n : ℕ) (owner : ℕ → ℕ → ℕ → tasks.Task) (value : Table → ℕ → ℕ → ℕ → ℕ) where
    abbrev pub products : WeightedSum tasks
    products f w r c = sum_below (λ k. f (owner r c k) * value w r c k) n

    pub IsShared-products : ((r c k : ℕ) → inside r c → k < n → (tasks.row (owner r c k) ≡ r / b) × (tasks.col (owner r c k) ≡ c / b))
        → ((r c k : ℕ) → inside r c → k < n → tasks.Exists (owner r c k) ⊎ ((w : Table) → value w r c k ≡ 0))
        → ((w w' : Table) (r c k : ℕ) → inside r c → k < n → AgreeFor b tasks (owner r c k) w w' → value w r c k ≡ value w' r c k)
        → IsShared b tasks inside products
    IsShared-products place exists local = record {
      add = λ f g w r c.
          sum_below-same (λ k. (f (owner r c k) + g (owner r c k)) * value w r c k) (λ k. f (owner r c k) * value w r c k + g (owner r c k) * value w r c k) n (λ k h. omega arith)
          ∙ sum_below-add (λ k. f (owner r c k) * value w r c k) (λ k. g (owner r c k) * value w r c k) n;
      same = λ f g w w' r c within each.
          sum_below-same (λ k. f (owner r c k) * value w r c k) (λ k. g (owner r c k) * value w' r c k) n
          (λ k h. one f g w w' r c k within h each (exists r c k within h));
    }
      where
        weigh : (f g : tasks.Task → ℕ) (w w' : Table) (r c k : ℕ) → inside r c → k < n → (f (owner r c k) ≡ g (owner r c k))
            → (f (owner r c k) ≡ 0) ⊎ AgreeFor b tasks (owner r c k) w w' → f (owner r c k) * value w r c k ≡ g (owner r c k) * value w' r c k
        weigh f g w w' r c k within h e (inl none) = rw (← e, none) (omega arith)
        weigh f g w w' r c k within h e (inr agree) = rw (← e) (ap (λ (x : ℕ). f (owner r c k) * x) (local w w' r c k within h agree))

        one : (f g : tasks.Task → ℕ) (w w' : Table) (r c k : ℕ) → inside r c → k < n
            → ((u : tasks.Task) → IsOfBlock b tasks u r c → (f u ≡ g u) × ((f u ≡ 0) ⊎ AgreeFor b tasks u w w'))
            → tasks.Exists (owner r c k) ⊎ ((w : Table) → value w r c k ≡ 0) → f (owner r c k) * value w r c k ≡ g (owner r c k) * value w' r c k
        one f g w w' r c k within h each (inr none) = rw (none w, none w') (omega arith)
        one f g w w' r c k within h each (inl x) =
            let p = place r c k within h in
            let q = each (owner r c k) (x, p.0, p.1) in
            weigh f g w w' r c k within h q.0 q.1

  -- with weight 0 for all tasks it is 0
  module _ (S : WeightedSum tasks) (shared : IsShared b tasks inside S) where
    pub shared-zero : (w : Table) (r c : ℕ) → S (λ u. 0) w r c ≡ 0
    shared-zero w r c = let e : S (λ u. 0 + 0) w r c ≡ S (λ u. 0) w r c + S (λ u. 0) w r c = shared.add (λ u. 0) (λ u. 0) w r c in omega arith

    pub shared-none : (f : tasks.Task → ℕ) (w : Table) (r c : ℕ) → inside r c → ((u : tasks.Task) → IsOfBlock b tasks u r c → f u ≡ 0) → S f w r c ≡ 0
    shared-none f w r c within none = shared.same f (λ u. 0) w w r c within (λ u h. (none u h, inl (none u h))) ∙ shared-zero w r c

    pub shared-weights : (f g : tasks.Task → ℕ) (w : Table) (r c : ℕ) → inside r c → ((u : tasks.Task) → IsOfBlock b tasks u r c → f u ≡ g u) → S f w r c ≡ S g w r c
    shared-weights f g w r c within each = shared.same f g w w r c within (λ u h. (each u h, inr (λ a d h. refl)))

-- what is shared on some entries is shared on fewer
module _ (b : ℕ) (tasks : Tasks) (inside part : ℕ → ℕ → Type 0) (S : WeightedSum tasks) where
  pub IsShared-within : ((r c : ℕ) → part r c → inside r c) → IsShared b tasks inside S → IsShared b tasks part S
  IsShared-within narrow shared = record {
    add = shared.add;
    same = λ f g w w' r c within each. shared.same f g w w' r c (narrow r c within) each;
  }
