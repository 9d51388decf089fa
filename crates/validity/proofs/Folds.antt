-- Tests over the numbers below n.
use Rattle.std.proofs.Common.{◌≡◌, ℕ, zero, suc, ◌<◌, ◌≤◌, Bool, true, false, cond, ◌&&◌, ◌||◌, Some, None, Option, sym, refl, ap, ◌∙◌, subst, ap₂, inl, inr, arith}
use native.Mathlib.Decide.{ℕ_discrete}
use Rattle.chart.specs.Limits.{bit}
use Rattle.validity.specs.Ranges.{any_of, all_of, least_of, count_of, or_else, first_of}
use Rattle.validity.proofs.Bools.{clash, both, join, either, left_or, right_or, decided, is_true, is_false}

pub any_of_in : (n : ℕ) (p : ℕ → Bool) (i : ℕ) → i < n → p i ≡ true → any_of n p ≡ true
any_of_in zero p i l h = absurd (omega arith)
any_of_in (suc n) p i l h =
    elim (ℕ_discrete i n) [
      | yes e ↦ right_or (any_of n p) (p n) (subst (λ j. p j ≡ true) e h)
      | no ne ↦ left_or (any_of n p) (p n) (any_of_in n p i (omega arith) h)
    ]

pub any_of_out : (n : ℕ) (p : ℕ → Bool) → any_of n p ≡ true → (i : ℕ) × (i < n) × (p i ≡ true)
any_of_out zero p h = absurd (clash h refl)
any_of_out (suc n) p h =
    elim (either (any_of n p) (p n) h) [
      | inl a ↦ let r = any_of_out n p a in (r.0, omega arith, r.2)
      | inr b ↦ (n, omega arith, b)
    ]

pub any_of_none : (n : ℕ) (p : ℕ → Bool) → any_of n p ≡ false → (i : ℕ) → i < n → p i ≡ false
any_of_none n p h i l = is_false (p i) (λ e. clash (any_of_in n p i l e) h)

pub no_any : (n : ℕ) (p : ℕ → Bool) → ((i : ℕ) → i < n → p i ≡ false) → any_of n p ≡ false
no_any n p h = is_false (any_of n p) (λ e. let r = any_of_out n p e in clash r.2 (h r.0 r.1))

pub any_of_same : (n : ℕ) (p q : ℕ → Bool) → ((i : ℕ) → i < n → p i ≡ q i) → any_of n p ≡ any_of n q
any_of_same zero p q h = refl
any_of_same (suc n) p q h = ap₂ (λ a b. a || b) (any_of_same n p q (λ i l. h i (omega arith))) (h n (omega arith))

pub all_of_at : (n : ℕ) (p : ℕ → Bool) → all_of n p ≡ true → (i : ℕ) → i < n → p i ≡ true
all_of_at zero p h i l = absurd (omega arith)
all_of_at (suc n) p h i l =
    elim (ℕ_discrete i n) [
      | yes e ↦ subst (λ j. p j ≡ true) (sym e) (both (all_of n p) (p n) h).1
      | no ne ↦ all_of_at n p (both (all_of n p) (p n) h).0 i (omega arith)
    ]

pub all_of_in : (n : ℕ) (p : ℕ → Bool) → ((i : ℕ) → i < n → p i ≡ true) → all_of n p ≡ true
all_of_in zero p h = refl
all_of_in (suc n) p h = join (all_of n p) (p n) (all_of_in n p (λ i l. h i (omega arith))) (h n (omega arith))

pub all_of_not : (n : ℕ) (p : ℕ → Bool) → all_of n p ≡ false → (i : ℕ) × (i < n) × (p i ≡ false)
all_of_not zero p h = absurd (clash refl h)
all_of_not (suc n) p h =
    elim (decided (p n)) [
      | inr b ↦ (n, omega arith, b)
      | inl b ↦
          let a : all_of n p ≡ false = is_false (all_of n p) (λ e. clash (join (all_of n p) (p n) e b) h) in
          let r = all_of_not n p a in (r.0, omega arith, r.2)
    ]

pub all_of_same : (n : ℕ) (p q : ℕ → Bool) → ((i : ℕ) → i < n → p i ≡ q i) → all_of n p ≡ all_of n q
all_of_same zero p q h = refl
all_of_same (suc n) p q h = ap₂ (λ a b. a && b) (all_of_same n p q (λ i l. h i (omega arith))) (h n (omega arith))

pub least_found : (n : ℕ) (p : ℕ → Bool) → any_of n p ≡ true → (least_of n p < n) × (p (least_of n p) ≡ true)
least_found zero p h = absurd (clash h refl)
least_found (suc n) p h =
    elim (decided (any_of n p)) [
      | inl a ↦
          let r = least_found n p a in
          subst (λ j. (j < suc n) × (p j ≡ true)) (sym (ap (λ b. cond b (least_of n p) n) a)) (omega arith, r.1)
      | inr a ↦
          let b : p n ≡ true = is_true (p n) (λ e. clash h (ap₂ (λ x y. x || y) a e)) in
          subst (λ j. (j < suc n) × (p j ≡ true)) (sym (ap (λ b. cond b (least_of n p) n) a)) (omega arith, b)
    ]

pub least_least : (n : ℕ) (p : ℕ → Bool) → any_of n p ≡ true → (j : ℕ) → j < least_of n p → p j ≡ false
least_least zero p h j l = absurd (clash h refl)
least_least (suc n) p h j l =
    elim (decided (any_of n p)) [
      | inl a ↦ least_least n p a j (subst (λ m. j < m) (ap (λ b. cond b (least_of n p) n) a) l)
      | inr a ↦ any_of_none n p a j (subst (λ m. j < m) (ap (λ b. cond b (least_of n p) n) a) l)
    ]

-- Counting.

bits_le : (a b : Bool) → (a ≡ true → b ≡ true) → bit a ≤ bit b
bits_le true true h = omega arith
bits_le true false h = absurd (clash (h refl) refl)
bits_le false true h = omega arith
bits_le false false h = omega arith

count_le : (n : ℕ) (p q : ℕ → Bool) → ((i : ℕ) → p i ≡ true → q i ≡ true) → count_of n p ≤ count_of n q
count_le zero p q h = omega arith
count_le (suc n) p q h = omega (arith, count_le n p q h, bits_le (p n) (q n) (h n))

-- one number more passes the weaker test
pub count_less : (n j : ℕ) (p q : ℕ → Bool) → ((i : ℕ) → p i ≡ true → q i ≡ true) → j < n → p j ≡ false → q j ≡ true → count_of n p < count_of n q
count_less zero j p q h l a b = absurd (omega arith)
count_less (suc n) j p q h l a b =
    elim (ℕ_discrete j n) [
      | yes e ↦
          let a' : bit (p n) ≡ 0 = ap (λ v. bit (p v)) (sym e) ∙ ap bit a in
          let b' : bit (q n) ≡ 1 = ap (λ v. bit (q v)) (sym e) ∙ ap bit b in
          omega (arith, count_le n p q h)
      | no ne ↦ omega (arith, count_less n j p q h (omega arith) a b, bits_le (p n) (q n) (h n))
    ]

-- What is given first.

module _ {A : Type 0} where
  pub record FirstAt (n : ℕ) (f : ℕ → Option A) (a : A) : Type 0 where
    pub k : ℕ
    pub below : k < n
    pub here : f k ≡ Some a
    pub before : (j : ℕ) → j < k → f j ≡ None

  pub none_first : (n : ℕ) (f : ℕ → Option A) → ((k : ℕ) → k < n → f k ≡ None) → first_of n f ≡ None
  none_first zero f h = refl
  none_first (suc n) f h = ap₂ or_else (none_first n f (λ k l. h k (omega arith))) (h n (omega arith))

  pub first_none : (n : ℕ) (f : ℕ → Option A) → first_of n f ≡ None → (k : ℕ) → k < n → f k ≡ None
  first_none zero f e k l = absurd (omega arith)
  first_none (suc n) f e k l = go (first_of n f) refl (first_none n f) (ℕ_discrete k n)
    where
      go : (o : Option A) → first_of n f ≡ o → (first_of n f ≡ None → (k : ℕ) → k < n → f k ≡ None) → Dec (k ≡ n) → f k ≡ None
      go (Some a) q ih d = absurd (let g = sym (ap (λ o. or_else o (f n)) q) ∙ e in let z : ◌≡◌ {A = ℕ} 0 1 = cc in omega arith)
      go None q ih (yes s) = ap f s ∙ sym (ap (λ o. or_else o (f n)) q) ∙ e
      go None q ih (no ns) = ih q k (omega arith)

  pub some_first : (n : ℕ) (f : ℕ → Option A) (a : A) → FirstAt n f a → first_of n f ≡ Some a
  some_first zero f a r = absurd (omega (arith, r.below))
  some_first (suc n) f a r =
      elim (ℕ_discrete r.k n) [
        | yes s ↦ ap₂ or_else (none_first n f (λ k l. r.before k (omega (arith, s)))) (ap f (sym s) ∙ r.here)
        | no ns ↦ ap (λ o. or_else o (f n)) (some_first n f a (record { k = r.k; below = omega (arith, r.below); here = r.here; before = r.before }))
      ]

  pub first_some : (n : ℕ) (f : ℕ → Option A) (a : A) → first_of n f ≡ Some a → FirstAt n f a
  first_some zero f a e = absurd (let z : ◌≡◌ {A = ℕ} 0 1 = cc in omega arith)
  first_some (suc n) f a e = go (first_of n f) refl (first_some n f a)
    where
      go : (o : Option A) → first_of n f ≡ o → (first_of n f ≡ Some a → FirstAt n f a) → FirstAt (suc n) f a
      go (Some b) q ih =
          let same = sym (ap (λ o. or_else o (f n)) q) ∙ e in
          let r = ih (q ∙ same) in
          record { k = r.k; below = omega (arith, r.below); here = r.here; before = r.before }
      go None q ih = record { k = n; below = omega arith; here = sym (ap (λ o. or_else o (f n)) q) ∙ e; before = first_none n f q }
