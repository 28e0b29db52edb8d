-- What marks of blocks tell, and how they go on by a step. Cited where a step is tested, skipped, failed or run.
use Rattle.std.proofs.Common.{◌≡◌, ℕ, suc, ◌<◌, ◌⊎◌, inl, inr, Bool, true, false, List, [], ◌∷◌, ◌++◌, length, set, replicate, All, refl, sym, ◌∙◌, ap, subst, arith, get_or-set_same, get_or-set_other}
use Rattle.std.specs.Prelude.{◌==◌, ◌||◌, IsTrue}
use Rattle.std.proofs.lemmas.Bool.{cases_eq, eqb-true, eq-eqb, false≢true, or_cases, or_left, or_right}
use Rattle.std.proofs.lemmas.List.{length-set, length-replicate, get_or-replicate, get_or_append_left}
use Rattle.std.proofs.lemmas.List.Elements.{All-head, All-tail}
use Rattle.std.proofs.Math.Seq.{get_or-append_seam}
use Rattle.dependence_queue.specs.declared.access.Access.{Access}
use Rattle.dependence_queue.specs.Conflicts.{has_number, conflicts, ConflictOn}
use Rattle.dependence_queue.proofs.EdgesBetween.{conflict-on, conflicts-from}
use Rattle.step_replays.specs.declared.step.Step.{Step}
use Rattle.step_replays.specs.Replays.{StepResult, Skipped, IsStop, nth_access, nth_result}
use Rattle.task_values.specs.Marks.{AreMarks, IsReadByStop, IsLost, all_marked, has_marked, is_marked, meets}

-- ---- lists of marks

-- a number of a list has what all of them have
pub has-all : (P : ℕ → Type 0) (xs : List ℕ) (x : ℕ) → All P xs → has_number xs x ≡ true → P x
has-all P [] x all h = absurd (false≢true h)
has-all P (y ∷ ys) x all h = elim (or_cases (x == y) (has_number ys x) h) [
  | inl same ↦ subst P (sym (eqb-true x y same)) (All-head P y ys all)
  | inr later ↦ has-all P ys x (All-tail P y ys all) later
]

marked-some : (marks : List Bool) (xs : List ℕ) → has_marked marks xs ≡ true → (x : ℕ) × (has_number xs x ≡ true) × (is_marked marks x ≡ true)
marked-some marks [] h = absurd (false≢true h)
marked-some marks (y ∷ ys) h = elim (or_cases (is_marked marks y) (has_marked marks ys) h) [
  | inl here ↦ (y, or_left (y == y) (has_number ys y) (eq-eqb y y refl), here)
  | inr later ↦ (let r = marked-some marks ys later in (r.0, or_right (r.0 == y) (has_number ys r.0) r.1, r.2))
]

some-marked : (marks : List Bool) (xs : List ℕ) (x : ℕ) → has_number xs x ≡ true → is_marked marks x ≡ true → has_marked marks xs ≡ true
some-marked marks [] x h mark = absurd (false≢true h)
some-marked marks (y ∷ ys) x h mark = elim (or_cases (x == y) (has_number ys x) h) [
  | inl same ↦ or_left (is_marked marks y) (has_marked marks ys) (ap (λ (n : ℕ). is_marked marks n) (sym (eqb-true x y same)) ∙ mark)
  | inr later ↦ or_right (is_marked marks y) (has_marked marks ys) (some-marked marks ys x later mark)
]

-- one more mark
pub marked-set : (marks : List Bool) (y x : ℕ) → y < length marks → is_marked (set marks y true) x ≡ (x == y || is_marked marks x)
marked-set marks y x below = elim (cases_eq x y) [
  | inl same ↦ rw (eq-eqb x y same) (ap (λ (n : ℕ). is_marked (set marks y true) n) same ∙ get_or-set_same marks y true false below)
  | inr apart ↦ (let e : (x == y) ≡ false = grind (arith) in rw e (get_or-set_other marks y x true false apart))
]

pub length-all_marked : (ys : List ℕ) (marks : List Bool) → length (all_marked ys marks) ≡ length marks
length-all_marked [] marks = refl
length-all_marked (y ∷ ys) marks = length-all_marked ys (set marks y true) ∙ length-set marks y true

or-swap : (p q r : Bool) → (p || (q || r)) ≡ (q || (p || r))
or-swap true true r = refl
or-swap true false r = refl
or-swap false true r = refl
or-swap false false r = refl

or-assoc : (p q r : Bool) → ((p || q) || r) ≡ (p || (q || r))
or-assoc true q r = refl
or-assoc false q r = refl

marked-all : (ys : List ℕ) (marks : List Bool) (x : ℕ) → All (λ y. y < length marks) ys → is_marked (all_marked ys marks) x ≡ (has_number ys x || is_marked marks x)
marked-all [] marks x below = refl
marked-all (y ∷ ys) marks x below =
    let here : y < length marks = All-head (λ y. y < length marks) y ys below in
    let rest : All (λ z. z < length (set marks y true)) ys
    = subst (λ (n : ℕ). All (λ z. z < n) ys) (sym (length-set marks y true)) (All-tail (λ y. y < length marks) y ys below) in
    marked-all ys (set marks y true) x rest
    ∙ ap (λ (p : Bool). has_number ys x || p) (marked-set marks y x here)
    ∙ or-swap (has_number ys x) (x == y) (is_marked marks x)
    ∙ sym (or-assoc (x == y) (has_number ys x) (is_marked marks x))

-- ---- outcomes, one more

module _ (results : List StepResult) (r : StepResult) (n : ℕ) (count : length results ≡ n) where
  pub result-before : (q : ℕ) → q < n → nth_result (results ++ r ∷ []) q ≡ nth_result results q
  result-before q below = get_or_append_left results (r ∷ []) Skipped q (omega (arith, count))

  pub result-last : nth_result (results ++ r ∷ []) n ≡ r
  result-last = rw (← count) (get_or-append_seam results r [] Skipped)

-- ---- what the marks tell

module _ (steps : List Step) (results : List StepResult) (n total : ℕ) (written read : List Bool) (marks : AreMarks steps results n total written read)
    (a : Access) (write : a.write < total) (reads : All (λ x. x < total) a.reads) where
  -- a step before conflicts with the access, and failed or was skipped
  abbrev pub IsMet : Type 0
  IsMet = (q : ℕ) × (q < n) × IsStop (nth_result results q) × IsTrue (conflicts (nth_access steps q) a)

  pub met-conflict : meets written read a ≡ true → IsMet
  met-conflict h = elim (or_cases (is_marked written a.write) (is_marked read a.write || has_marked written a.reads) h) [
    | inl lost ↦ (let l = (marks.written_are a.write write).0 lost in
        (l.0, l.1, l.2, conflicts-from (nth_access steps l.0) a a.write (inr (inr (l.3, refl)))))
    | inr more ↦ elim (or_cases (is_marked read a.write) (has_marked written a.reads) more) [
      | inl held ↦ (let l = (marks.read_are a.write write).0 held in
          (l.0, l.1, l.2, conflicts-from (nth_access steps l.0) a a.write (inr (inl (l.3, refl)))))
      | inr some ↦ (let x = marked-some written a.reads some in
          let l = (marks.written_are x.0 (has-all (λ y. y < total) a.reads x.0 reads x.1)).0 x.2 in
          (l.0, l.1, l.2, conflicts-from (nth_access steps l.0) a x.0 (inl (x.1, l.3))))
    ]
  ]

  pub conflict-met : IsMet → meets written read a ≡ true
  conflict-met met = go (conflict-on (nth_access steps met.0) a met.3).0 (conflict-on (nth_access steps met.0) a met.3).1
    where
      go : (x : ℕ) → ConflictOn (nth_access steps met.0) a x → meets written read a ≡ true
      go x (inl flow) =
          or_right (is_marked written a.write) (is_marked read a.write || has_marked written a.reads)
          (or_right (is_marked read a.write) (has_marked written a.reads)
          (some-marked written a.reads x flow.0 ((marks.written_are x (has-all (λ y. y < total) a.reads x reads flow.0)).1 (met.0, met.1, met.2, flow.1))))
      go x (inr (inl anti)) =
          or_right (is_marked written a.write) (is_marked read a.write || has_marked written a.reads)
          (or_left (is_marked read a.write) (has_marked written a.reads)
          ((marks.read_are a.write write).1 (met.0, met.1, met.2, ap (λ (y : ℕ). has_number (nth_access steps met.0).reads y) anti.1 ∙ anti.0)))
      go x (inr (inr output)) =
          or_left (is_marked written a.write) (is_marked read a.write || has_marked written a.reads)
          ((marks.written_are a.write write).1 (met.0, met.1, met.2, output.0 ∙ sym output.1))

-- ---- how they go on

pub AreMarks-none : (steps : List Step) (total : ℕ) → AreMarks steps [] 0 total (replicate total false) (replicate total false)
AreMarks-none steps total = record {
  written_count = length-replicate total false;
  read_count = length-replicate total false;
  written_are = λ x below. ((λ h. absurd (false≢true (sym (get_or-replicate total x false false below) ∙ h))), (λ l. absurd (omega (arith, l.1))));
  read_are = λ x below. ((λ h. absurd (false≢true (sym (get_or-replicate total x false false below) ∙ h))), (λ l. absurd (omega (arith, l.1))));
}

-- other outcomes, of the same steps
module _ (steps : List Step) (results others : List StepResult) (n m total : ℕ) (written read : List Bool) (marks : AreMarks steps results n total written read) where
  -- a step among the first that failed or was skipped
  abbrev Stopped : ℕ → Type 0
  Stopped q = (q < n) × IsStop (nth_result results q)

  abbrev NowStopped : ℕ → Type 0
  NowStopped q = (q < m) × IsStop (nth_result others q)

  -- the same steps did
  pub AreMarks-same : ((q : ℕ) → (q < n) × IsStop (nth_result results q) → (q < m) × IsStop (nth_result others q))
      → ((q : ℕ) → (q < m) × IsStop (nth_result others q) → (q < n) × IsStop (nth_result results q)) → AreMarks steps others m total written read
  AreMarks-same on back = record {
    written_count = marks.written_count;
    read_count = marks.read_count;
    written_are = λ x below. (
      (λ h. let l = (marks.written_are x below).0 h in let p = on l.0 (l.1, l.2) in (l.0, p.0, p.1, l.3)),
      (λ l. let p = back l.0 (l.1, l.2) in (marks.written_are x below).1 (l.0, p.0, p.1, l.3)),
    );
    read_are = λ x below. (
      (λ h. let l = (marks.read_are x below).0 h in let p = on l.0 (l.1, l.2) in (l.0, p.0, p.1, l.3)),
      (λ l. let p = back l.0 (l.1, l.2) in (marks.read_are x below).1 (l.0, p.0, p.1, l.3)),
    );
  }

  -- step t did too, and marks what it uses
  module _ (t : ℕ) (on : (q : ℕ) → Stopped q → NowStopped q) (here : NowStopped t) (back : (q : ℕ) → NowStopped q → Stopped q ⊎ (q ≡ t))
      (write : (nth_access steps t).write < total) (reads : All (λ x. x < total) (nth_access steps t).reads) where
    abbrev a : Access
    a = nth_access steps t

    lost-on : (x : ℕ) → IsLost steps results n x → IsLost steps others m x
    lost-on x l = let p = on l.0 (l.1, l.2) in (l.0, p.0, p.1, l.3)

    read-on : (x : ℕ) → IsReadByStop steps results n x → IsReadByStop steps others m x
    read-on x l = let p = on l.0 (l.1, l.2) in (l.0, p.0, p.1, l.3)

    lost-back : (x : ℕ) → IsLost steps others m x → IsLost steps results n x ⊎ ((nth_access steps t).write ≡ x)
    lost-back x l = elim (back l.0 (l.1, l.2)) [
      | inl before ↦ inl (l.0, before.0, before.1, l.3)
      | inr last ↦ inr (ap (λ (q : ℕ). (nth_access steps q).write) (sym last) ∙ l.3)
    ]

    read-back : (x : ℕ) → IsReadByStop steps others m x → IsReadByStop steps results n x ⊎ IsTrue (has_number (nth_access steps t).reads x)
    read-back x l = elim (back l.0 (l.1, l.2)) [
      | inl before ↦ inl (l.0, before.0, before.1, l.3)
      | inr last ↦ inr (ap (λ (q : ℕ). has_number (nth_access steps q).reads x) (sym last) ∙ l.3)
    ]

    write_in : a.write < length written
    write_in = omega (arith, marks.written_count, write)

    reads_in : All (λ x. x < length read) a.reads
    reads_in = subst (λ (k : ℕ). All (λ x. x < k) a.reads) (sym marks.read_count) reads

    pub AreMarks-with : AreMarks steps others m total (set written (nth_access steps t).write true) (all_marked (nth_access steps t).reads read)
    AreMarks-with = record {
      written_count = length-set written a.write true ∙ marks.written_count;
      read_count = length-all_marked a.reads read ∙ marks.read_count;
      written_are = λ x below. (
        (λ h. elim (or_cases (x == a.write) (is_marked written x) (sym (marked-set written a.write x write_in) ∙ h)) [
          | inl same ↦ (t, here.0, here.1, sym (eqb-true x a.write same))
          | inr before ↦ lost-on x ((marks.written_are x below).0 before)
        ]),
        (λ l. marked-set written a.write x write_in ∙ elim (lost-back x l) [
          | inl before ↦ or_right (x == a.write) (is_marked written x) ((marks.written_are x below).1 before)
          | inr last ↦ or_left (x == a.write) (is_marked written x) (eq-eqb x a.write (sym last))
        ]),
      );
      read_are = λ x below. (
        (λ h. elim (or_cases (has_number a.reads x) (is_marked read x) (sym (marked-all a.reads read x reads_in) ∙ h)) [
          | inl same ↦ (t, here.0, here.1, same)
          | inr before ↦ read-on x ((marks.read_are x below).0 before)
        ]),
        (λ l. marked-all a.reads read x reads_in ∙ elim (read-back x l) [
          | inl before ↦ or_right (has_number a.reads x) (is_marked read x) ((marks.read_are x below).1 before)
          | inr last ↦ or_left (has_number a.reads x) (is_marked read x) last
        ]),
      );
    }

-- one step more
module _ (steps : List Step) (results : List StepResult) (r : StepResult) (n total : ℕ) (written read : List Bool) (marks : AreMarks steps results n total written read)
    (count : length results ≡ n) where
  stop-before : (q : ℕ) → (q < n) × IsStop (nth_result results q) → (q < suc n) × IsStop (nth_result (results ++ r ∷ []) q)
  stop-before q s = (omega (arith, s.0), subst IsStop (sym (result-before results r n count q s.0)) s.1)

  -- of the first n + 1 steps, it is one of the first n, or the last
  stop-parts : (q : ℕ) → (q < suc n) × IsStop (nth_result (results ++ r ∷ []) q) → ((q < n) × IsStop (nth_result results q)) ⊎ ((q ≡ n) × IsStop r)
  stop-parts q s = elim (cases_eq q n) [
    | inl same ↦ inr (same, subst IsStop (ap (nth_result (results ++ r ∷ [])) same ∙ result-last results r n count) s.1)
    | inr apart ↦ (let below : q < n = omega (arith, s.0) in inl (below, subst IsStop (result-before results r n count q below) s.1))
  ]

  pub lost-before : (x : ℕ) → IsLost steps results n x → IsLost steps (results ++ r ∷ []) (suc n) x
  lost-before x l = let p = stop-before l.0 (l.1, l.2) in (l.0, p.0, p.1, l.3)

  -- a step that ran leaves them
  pub AreMarks-ran : ¬ (IsStop r) → AreMarks steps (results ++ r ∷ []) (suc n) total written read
  AreMarks-ran ran = AreMarks-same steps results (results ++ r ∷ []) n (suc n) total written read marks stop-before
      (λ q s. elim (stop-parts q s) [ inl before ↦ before | inr last ↦ absurd (ran last.1) ])

  -- any other marks what it uses
  pub AreMarks-marked : IsStop r → (nth_access steps n).write < total → All (λ x. x < total) (nth_access steps n).reads
      → AreMarks steps (results ++ r ∷ []) (suc n) total (set written (nth_access steps n).write true) (all_marked (nth_access steps n).reads read)
  AreMarks-marked stop write reads = AreMarks-with steps results (results ++ r ∷ []) n (suc n) total written read marks n stop-before
      (omega arith, subst IsStop (sym (result-last results r n count)) stop)
      (λ q s. elim (stop-parts q s) [ inl before ↦ inl before | inr last ↦ inr last.0 ]) write reads
