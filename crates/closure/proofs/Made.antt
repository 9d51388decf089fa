-- An array made by a closure that stays as it is.
use Rattle.std.proofs.Common.{◌≡◌, ℕ, zero, suc, ◌+◌, ◌<◌, ◌≤◌, List, get_or, sym, ◌∙◌, subst, arith}
use native.Mathlib.Decide.{ℕ_discrete}
use denote.Param.Members.{Mut, Called}
use Rattle.std.specs.Array.{IsFromFnResult, IsFromFnResultFrom}

-- what stands at each place
pub made : {F B : Type 0} {g : Mut F (ℕ × Unit {0}) B} {f : F} {ys : List B} {n : ℕ} → IsFromFnResult g f ys n → (h : ℕ → B) (d : B)
    → ((i : ℕ) (y : B) (q : F) → Called g f (i, tt) y q → (q ≡ f) × (y ≡ h i)) → (k : ℕ) → k < n → get_or ys k d ≡ h k
made {F} {B} {g} {f} {ys} {n} w h d answers k l = go 0 n w.each (omega arith) (omega arith)
  where
    go : (i m : ℕ) → IsFromFnResultFrom g f ys i m → i ≤ k → k < i + m → get_or ys k d ≡ h k
    go i zero v a b = absurd (omega arith)
    go i (suc m) v a b =
        let r = answers i v.1 v.0 v.3 in
        elim (ℕ_discrete k i) [
          | yes e ↦ subst (λ j. get_or ys j d ≡ h j) (sym e) (v.2.1 d ∙ r.1)
          | no ne ↦ go (i + 1) m (subst (λ p. IsFromFnResultFrom g p ys (i + 1) m) r.0 v.4) (omega arith) (omega arith)
        ]
