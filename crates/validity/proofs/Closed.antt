-- The computed closure: it holds each step, goes on along steps, and holds nothing else.
use Rattle.std.proofs.Common.{◌≡◌, ℕ, zero, suc, ◌+◌, ◌<◌, ◌≤◌, Bool, true, false, ◌&&◌, ◌||◌, eqb, ◌⊎◌, ◌↔◌, [], get_or, sym, refl, ap, ◌∙◌, subst, inl, inr, arith, eq-eqb, eqb-true}
use native.Mathlib.Decide.{dec_lt, ℕ_discrete}
use Rattle.validity.specs.Closure.{steps_along, through, leads, Leads, one, more}
use Rattle.validity.specs.Ranges.{row, kept, kept2}
use Rattle.validity.proofs.Folds.{any_of_in, any_of_out}
use Rattle.validity.proofs.Bools.{clash, both, join, either, left_or, right_or, same_test}

row_at : {A : Type 0} (n : ℕ) (f : ℕ → A) (k : ℕ) (d : A) → k < n → get_or (row n f) k d ≡ f k
row_at zero f k d l = absurd (omega arith)
row_at (suc n) f zero d l = refl
row_at (suc n) f (suc k) d l = row_at n (λ i. f (suc i)) k d (omega arith)

pub row_out : {A : Type 0} (n : ℕ) (f : ℕ → A) (k : ℕ) (d : A) → n ≤ k → get_or (row n f) k d ≡ d
row_out zero f zero d l = refl
row_out zero f (suc k) d l = refl
row_out (suc n) f zero d l = absurd (omega arith)
row_out (suc n) f (suc k) d l = row_out n (λ i. f (suc i)) k d (omega arith)

pub kept_at : (n : ℕ) (f : ℕ → Bool) (i : ℕ) → i < n → kept n f i ≡ f i
kept_at n f i l = row_at n f i false l

kept2_at : (n : ℕ) (f : ℕ → ℕ → Bool) (x y : ℕ) → x < n → y < n → kept2 n f x y ≡ f x y
kept2_at n f x y lx ly = ap (λ r. get_or r y false) (row_at n (λ x. row n (f x)) x [] lx) ∙ row_at n (f x) y false ly

nil_out : (y : ℕ) → get_or [] y false ≡ false
nil_out zero = refl
nil_out (suc y) = refl

kept2_in : (n : ℕ) (f : ℕ → ℕ → Bool) (x y : ℕ) → kept2 n f x y ≡ true → (x < n) × (y < n)
kept2_in n f x y h =
    elim (dec_lt x n) [
      | no nl ↦ absurd (clash h (ap (λ r. get_or r y false) (row_out n (λ x. row n (f x)) x [] (omega arith)) ∙ nil_out y))
      | yes lx ↦
          elim (dec_lt y n) [
            | no nl ↦ absurd (clash h (ap (λ r. get_or r y false) (row_at n (λ x. row n (f x)) x [] lx) ∙ row_out n (f x) y false (omega arith)))
            | yes ly ↦ (lx, ly)
          ]
    ]

module _ (n : ℕ) (step : ℕ → ℕ → Bool) where
  abbrev pub T : ℕ → ℕ → ℕ → Bool
  T k x y = through n step k x y

  pub t_zero : (x y : ℕ) → x < n → y < n → T 0 x y ≡ step x y
  t_zero x y lx ly = kept2_at n step x y lx ly

  inside : (k x y : ℕ) → T k x y ≡ true → (x < n) × (y < n)
  inside zero x y h = kept2_in n step x y h
  inside (suc k) x y h = kept2_in n (λ x y. T k x y || T k x k && T k k y) x y h

  pub t_suc : (k x y : ℕ) → x < n → y < n → T (suc k) x y ≡ (T k x y || T k x k && T k k y)
  t_suc k x y lx ly = kept2_at n (λ x y. T k x y || T k x k && T k k y) x y lx ly

  t_up : (k x y : ℕ) → T k x y ≡ true → T (suc k) x y ≡ true
  t_up k x y h = let i = inside k x y h in t_suc k x y i.0 i.1 ∙ left_or (T k x y) (T k x k && T k k y) h

  t_via : (k x y : ℕ) → T k x k ≡ true → T k k y ≡ true → T (suc k) x y ≡ true
  t_via k x y h h' =
      t_suc k x y (inside k x k h).0 (inside k k y h').1 ∙ right_or (T k x y) (T k x k && T k k y) (join (T k x k) (T k k y) h h')

  t_out : (k x y : ℕ) → T (suc k) x y ≡ true → (T k x y ≡ true) ⊎ ((T k x k ≡ true) × (T k k y ≡ true))
  t_out k x y h =
      let i = inside (suc k) x y h in
      elim (either (T k x y) (T k x k && T k k y) (sym (t_suc k x y i.0 i.1) ∙ h)) [
        | inl a ↦ inl a
        | inr b ↦ inr (both (T k x k) (T k k y) b)
      ]

  t_join : (k z x y : ℕ) → z < k → T k x z ≡ true → T k z y ≡ true → T k x y ≡ true
  t_join zero z x y l a b = absurd (omega arith)
  t_join (suc k) z x y l a b = go (ℕ_discrete z k) (t_out k x z a) (t_out k z y b) (t_join k z)
    where
      -- through k itself, or by what is known below k
      middle : z ≡ k → (T k x z ≡ true) ⊎ ((T k x k ≡ true) × (T k k z ≡ true)) → (T k z y ≡ true) ⊎ ((T k z k ≡ true) × (T k k y ≡ true)) → T (suc k) x y ≡ true
      middle e p q =
          let p' : T k x k ≡ true = elim p [ inl h ↦ subst (λ w. T k x w ≡ true) e h | inr h ↦ h.0 ] in
          let q' : T k k y ≡ true = elim q [ inl h ↦ subst (λ w. T k w y ≡ true) e h | inr h ↦ h.1 ] in
          t_via k x y p' q'

      go : Dec (z ≡ k) → (T k x z ≡ true) ⊎ ((T k x k ≡ true) × (T k k z ≡ true)) → (T k z y ≡ true) ⊎ ((T k z k ≡ true) × (T k k y ≡ true))
          → ((x y : ℕ) → z < k → T k x z ≡ true → T k z y ≡ true → T k x y ≡ true) → T (suc k) x y ≡ true
      go (yes e) p q ih = middle e p q
      go (no ne) (inl p) (inl q) ih = t_up k x y (ih x y (omega arith) p q)
      go (no ne) (inl p) (inr q) ih = t_via k x y (ih x k (omega arith) p q.0) q.1
      go (no ne) (inr p) (inl q) ih = t_via k x y p.0 (ih k y (omega arith) p.1 q)
      go (no ne) (inr p) (inr q) ih = t_via k x y p.0 q.1

  t_le : (k j x y : ℕ) → T k x y ≡ true → T (j + k) x y ≡ true
  t_le k zero x y h = subst (λ m. T m x y ≡ true) (omega arith) h
  t_le k (suc j) x y h = let e : suc (j + k) ≡ suc j + k = omega arith in subst (λ m. T m x y ≡ true) e (t_up (j + k) x y (t_le k j x y h))

  pub leads_inside : (x y : ℕ) → leads n step x y ≡ true → (x < n) × (y < n)
  leads_inside x y h = inside n x y h

  pub leads_join : (x z y : ℕ) → leads n step x z ≡ true → leads n step z y ≡ true → leads n step x y ≡ true
  leads_join x z y a b = t_join n z x y (inside n x z a).1 a b

  pub leads_step : (x y : ℕ) → x < n → y < n → step x y ≡ true → leads n step x y ≡ true
  leads_step x y lx ly h = subst (λ m. T m x y ≡ true) (omega arith) (t_le 0 n x y (kept2_at n step x y lx ly ∙ h))

  -- the first step of a way
  t_first : (k j x y : ℕ) → j + k ≡ n → T k x y ≡ true → (z : ℕ) × (step x z ≡ true) × (z < n) × ((z ≡ y) ⊎ (leads n step z y ≡ true))
  t_first zero j x y e h = let i = inside 0 x y h in (y, sym (kept2_at n step x y i.0 i.1) ∙ h, i.1, inl refl)
  t_first (suc k) j x y e h =
      elim (t_out k x y h) [
        | inl a ↦ t_first k (suc j) x y (omega arith) a
        | inr b ↦
            let r = t_first k (suc j) x k (omega arith) b.0 in
            let last : leads n step k y ≡ true = subst (λ m. T m k y ≡ true) (let e' : suc j + k ≡ n = omega arith in e') (t_le k (suc j) k y b.1) in
            let rest : leads n step r.0 y ≡ true = elim r.3 [ inl q ↦ subst (λ w. leads n step w y ≡ true) (sym q) last | inr q ↦ leads_join r.0 k y q last ] in
            (r.0, r.1, r.2, inr rest)
      ]

  pub leads_first : (x y : ℕ) → leads n step x y ≡ true → (z : ℕ) × (step x z ≡ true) × (z < n) × ((z ≡ y) ⊎ (leads n step z y ≡ true))
  leads_first x y h = t_first n 0 x y (omega arith) h

  -- what is kept by each step is kept by the closure
  t_carry : (P : ℕ → ℕ → Type 0) → ((x y : ℕ) → x < n → y < n → step x y ≡ true → P x y) → ((x y z : ℕ) → P x y → P y z → P x z) → (k x y : ℕ) → T k x y ≡ true → P x y
  t_carry P s j zero x y h = let i = inside 0 x y h in s x y i.0 i.1 (sym (kept2_at n step x y i.0 i.1) ∙ h)
  t_carry P s j (suc k) x y h =
      elim (t_out k x y h) [
        | inl a ↦ t_carry P s j k x y a
        | inr b ↦ j x k y (t_carry P s j k x k b.0) (t_carry P s j k k y b.1)
      ]

  pub leads_carry : (P : ℕ → ℕ → Type 0) → ((x y : ℕ) → x < n → y < n → step x y ≡ true → P x y) → ((x y z : ℕ) → P x y → P y z → P x z) → (x y : ℕ) → leads n step x y ≡ true → P x y
  leads_carry P s j x y h = t_carry P s j n x y h

Leads_join : (step : ℕ → ℕ → Bool) {x y z : ℕ} → Leads step x y → Leads step y z → Leads step x z
Leads_join step a (one h) = more a h
Leads_join step a (more b h) = more (Leads_join step a b) h

pub leads_computed : (n : ℕ) (step : ℕ → ℕ → Bool) → ((x y : ℕ) → step x y ≡ true → (x < n) × (y < n)) → (x y : ℕ) → (leads n step x y ≡ true) ↔ Leads step x y
leads_computed n step below x y = (there, back x y)
  where
    there : leads n step x y ≡ true → Leads step x y
    there h = leads_carry n step (Leads step) (λ x y lx ly s. one s) (λ x y z a b. Leads_join step a b) x y h

    back : (x y : ℕ) → Leads step x y → leads n step x y ≡ true
    back x y (one h) = let r = below x y h in leads_step n step x y r.0 r.1 h
    back x y (more {y = m} a h) = let r = below m y h in leads_join n step x m y (back x m a) (leads_step n step m y r.0 r.1 h)

-- Steps that agree below n lead to the same.
pub leads_same : (n : ℕ) (step step' : ℕ → ℕ → Bool) → ((x y : ℕ) → x < n → y < n → step x y ≡ step' x y) → (x y : ℕ) → leads n step x y ≡ leads n step' x y
leads_same n step step' h x y =
    same_test (leads n step x y) (leads n step' x y)
    (leads_carry n step (λ x y. leads n step' x y ≡ true) (λ x y lx ly s. leads_step n step' x y lx ly (sym (h x y lx ly) ∙ s)) (λ x y z a b. leads_join n step' x y z a b) x y)
    (leads_carry n step' (λ x y. leads n step x y ≡ true) (λ x y lx ly s. leads_step n step x y lx ly (h x y lx ly ∙ s)) (λ x y z a b. leads_join n step x y z a b) x y)

-- Steps along marked edges.
module _ (n : ℕ) (source target : ℕ → ℕ) (marked : ℕ → Bool) where
  abbrev along : ℕ → ℕ → ℕ → Bool
  along x y t = eqb (source t) x && eqb (target t) y && marked t

  pub edge_in_lem : (t : ℕ) → t < n → marked t ≡ true → steps_along n source target marked (source t) (target t) ≡ true
  edge_in_lem t l h =
      any_of_in n (along (source t) (target t)) t l
      (join (eqb (source t) (source t) && eqb (target t) (target t)) (marked t) (join (eqb (source t) (source t)) (eqb (target t) (target t)) (eq-eqb (source t) (source t) refl) (eq-eqb (target t) (target t) refl)) h)

  pub edge_out : (x y : ℕ) → steps_along n source target marked x y ≡ true → (t : ℕ) × (t < n) × (source t ≡ x) × (target t ≡ y) × (marked t ≡ true)
  edge_out x y h =
      let r = any_of_out n (along x y) h in
      let t = r.0 in
      let a = both (eqb (source t) x && eqb (target t) y) (marked t) r.2 in
      let b = both (eqb (source t) x) (eqb (target t) y) a.0 in
      (t, r.1, eqb-true (source t) x b.0, eqb-true (target t) y b.1, a.1)
