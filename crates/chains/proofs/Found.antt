-- What calls at the numbers below n make.
use Rattle.std.proofs.Common.{◌≡◌, ℕ, ◌≤◌, Bool, false, List, get_or, sym, ◌∙◌, arith}
use Rattle.std.specs.Array.{IsFromFnResult}
use Rattle.std.specs.Fn.{Called}
use Rattle.std.proofs.lemmas.List.{get_or_past}
use denote.Param.Members.{Mut}
use Rattle.closure.proofs.Made.{made}
use native.Mathlib.Decide.{dec_lt}

-- the array has h k at each k, where h is false from n on
pub made_all : {F : Type 0} (g : Mut F (ℕ × Unit {0}) Bool) (f : F) (ys : List Bool) (h : ℕ → Bool) → ((i : ℕ) (y : Bool) (q : F) → Called g f (i, tt) y q → (q ≡ f) × (y ≡ h i)) → (n : ℕ) → IsFromFnResult g f ys n → ((k : ℕ) → n ≤ k → h k ≡ false)
    → (k : ℕ) → get_or ys k false ≡ h k
made_all g f ys h says n m out k =
    elim (dec_lt k n) [
      | yes l ↦ made m h false says k l
      | no nl ↦ get_or_past ys k false (omega (arith, m.long)) ∙ sym (out k (omega arith))
    ]
