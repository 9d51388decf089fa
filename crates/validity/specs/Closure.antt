-- What steps lead to, among the numbers below n: computed, and as a relation. Assumes nothing.
use Rattle.std.specs.Prelude.{◌≡◌, ℕ, zero, suc, Bool, true, ◌&&◌, ◌||◌, ◌==◌}
use Rattle.validity.specs.Ranges.{any_of, kept2}

-- Of n edges, one that is marked leads from x to y.
abbrev pub steps_along : ℕ → (ℕ → ℕ) → (ℕ → ℕ) → (ℕ → Bool) → ℕ → ℕ → Bool
steps_along n source target marked x y = any_of n (λ t. (source t == x) && target t == y && marked t)

-- Steps lead from x to y, one at least.
pub data Leads (step : ℕ → ℕ → Bool) : ℕ → ℕ → Type 0 where
  one : {x y : ℕ} → step x y ≡ true → Leads step x y
  more : {x y z : ℕ} → Leads step x y → step y z ≡ true → Leads step x z

-- The same, computed.
module _ (n : ℕ) (step : ℕ → ℕ → Bool) where
  -- only through numbers below k
  abbrev pub through : ℕ → ℕ → ℕ → Bool
  through zero = kept2 n step
  through (suc k) = let r = through k in kept2 n (λ x y. r x y || r x k && r k y)

  abbrev pub leads : ℕ → ℕ → Bool
  leads = through n
