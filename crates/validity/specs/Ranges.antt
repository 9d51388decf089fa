-- Tests over the numbers below n. Assumes nothing.
use Rattle.std.specs.Prelude.{ℕ, zero, suc, ◌+◌, Bool, true, false, cond, ◌&&◌, ◌||◌, List, [], ◌∷◌, Some, None, Option, slice_index_or}
use Rattle.chart.specs.Limits.{bit}

-- some number below n passes the test
abbrev pub any_of : ℕ → (ℕ → Bool) → Bool
any_of zero p = false
any_of (suc n) p = any_of n p || p n

-- every number below n passes the test
abbrev pub all_of : ℕ → (ℕ → Bool) → Bool
all_of zero p = true
all_of (suc n) p = all_of n p && p n

-- the least number below n that passes the test, where one does
abbrev pub least_of : ℕ → (ℕ → Bool) → ℕ
least_of zero p = 0
least_of (suc n) p = let r = least_of n p in cond (any_of n p) r n

-- how many numbers below n pass the test
abbrev pub count_of : ℕ → (ℕ → Bool) → ℕ
count_of zero p = 0
count_of (suc n) p = bit (p n) + count_of n p

abbrev pub or_else : {A : Type 0} → Option A → Option A → Option A
or_else (Some a) o = Some a
or_else None o = o

-- what f gives first, of the numbers below n
abbrev pub first_of : {A : Type 0} → ℕ → (ℕ → Option A) → Option A
first_of zero f = None
first_of (suc n) f = or_else (first_of n f) (f n)

-- f 0, f 1, .., up to n of them
abbrev pub row : {A : Type 0} → ℕ → (ℕ → A) → List A
row zero f = []
row (suc n) f = f 0 ∷ row n (λ i. f (suc i))

-- f, computed once for each number below n; false above
abbrev pub kept : ℕ → (ℕ → Bool) → ℕ → Bool
kept n f = let xs = row n f in λ i. slice_index_or xs i false

abbrev pub kept2 : ℕ → (ℕ → ℕ → Bool) → ℕ → ℕ → Bool
kept2 n f = let xs = row n (λ x. row n (f x)) in λ x y. slice_index_or (slice_index_or xs x []) y false
