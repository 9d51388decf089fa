-- How many numbers pass a test.
use Rattle.std.proofs.Common.{◌≡◌, ℕ, zero, suc, ◌+◌, ◌<◌, ◌≤◌, Bool, true, false, cond, eqb, ltb, List, [], ◌∷◌, ◌++◌, length, sym, refl, ap, ◌∙◌, arith, length-append}
use native.Mathlib.Decide.{ℕ_discrete}
use Rattle.std.proofs.lemmas.List.{append_assoc, append-nil}
use Rattle.std.proofs.lemmas.Bool.Decides.{nat_tests}
use Rattle.groups.specs.Numbers.{those}

one : (b : Bool) (n : ℕ) → length (cond b (n ∷ []) []) ≡ cond b 1 0
one true n = refl
one false n = refl

pub length_more : (n : ℕ) (p : ℕ → Bool) → length (those (suc n) p) ≡ length (those n p) + cond (p n) 1 0
length_more n p = length-append (those n p) (cond (p n) (n ∷ []) []) ∙ ap (λ m. length (those n p) + m) (one (p n) n)

at_most_one : (b : Bool) → cond b 1 0 ≤ 1
at_most_one true = omega arith
at_most_one false = omega arith

pub few : (n : ℕ) (p : ℕ → Bool) → length (those n p) ≤ n
few zero p = omega arith
few (suc n) p = omega (arith, length_more n p, at_most_one (p n), few n p)

-- fewer numbers, fewer that pass
pub fewer : (m n : ℕ) (p : ℕ → Bool) → m ≤ n → length (those m p) ≤ length (those n p)
fewer m zero p h = let e : m ≡ 0 = omega arith in omega (arith, ap (λ i. length (those i p)) e)
fewer m (suc n) p h =
    elim (ℕ_discrete m (suc n)) [
      | yes e ↦ omega (arith, ap (λ i. length (those i p)) e)
      | no ne ↦ omega (arith, length_more n p, fewer m n p (omega arith))
    ]

-- what is below k + 1 is below k or is k
pub split : (f : ℕ → ℕ) (n k : ℕ) → length (those n (λ i. ltb (f i) (suc k))) ≡ length (those n (λ i. ltb (f i) k)) + length (those n (λ i. eqb (f i) k))
split f zero k = refl
split f (suc n) k =
    let e : cond (ltb (f n) (suc k)) 1 0 ≡ cond (ltb (f n) k) 1 0 + cond (eqb (f n) k) 1 0 = grind (arith, nat_tests) in
    omega (arith, length_more n (λ i. ltb (f i) (suc k)), length_more n (λ i. ltb (f i) k), length_more n (λ i. eqb (f i) k), split f n k)

-- one that passes is not among those below it
pub another : (m n : ℕ) (p : ℕ → Bool) → p m ≡ true → m < n → length (those m p) < length (those n p)
another m n p h l =
    let it : cond (p m) 1 0 ≡ 1 = ap {B = ℕ} (λ b. cond b 1 0) h in
    omega (arith, length_more m p, it, fewer (suc m) n p l)

-- the next number
next : (n : ℕ) (p : ℕ → Bool) → those (n + 1) p ≡ those n p ++ cond (p n) (n ∷ []) []
next n p = ap (λ m. those m p) (let e : n + 1 ≡ suc n = omega arith in e)

-- it passes
pub passes : (first was now : List ℕ) (n : ℕ) (p : ℕ → Bool) → p n ≡ true → was ≡ first ++ those n p → now ≡ was ++ n ∷ [] → now ≡ first ++ those (n + 1) p
passes first was now n p h w e =
    e ∙ ap (λ xs. xs ++ n ∷ []) w ∙ append_assoc first (those n p) (n ∷ [])
    ∙ ap (λ xs. first ++ xs) (sym (next n p ∙ ap (λ b. those n p ++ cond b (n ∷ []) []) h))

-- it does not
pub fails : (first was : List ℕ) (n : ℕ) (p : ℕ → Bool) → p n ≡ false → was ≡ first ++ those n p → was ≡ first ++ those (n + 1) p
fails first was n p h w = w ∙ ap (λ xs. first ++ xs) (sym (next n p ∙ ap (λ b. those n p ++ cond b (n ∷ []) []) h ∙ append-nil (those n p)))
