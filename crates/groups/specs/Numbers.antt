-- Numbers that pass a test, and where the numbers of a key stand in a row of groups. Assumes nothing.
use Rattle.std.specs.Prelude.{ℕ, zero, suc, ◌+◌, Bool, cond, List, [], ◌∷◌, ◌++◌, length, nat_eq, slice_index, slice_index_or}
use Rattle.std.specs.List.{between}

-- the numbers below n that pass the test, in rising order
abbrev pub those : ℕ → (ℕ → Bool) → List ℕ
those zero p = []
those (suc n) p = those n p ++ cond (p n) (n ∷ []) []

-- the places at which the key k stands
abbrev pub with_key : List ℕ → ℕ → List ℕ
with_key keys k = those (length keys) (λ i. nat_eq (slice_index keys i) k)

-- where the group of the key k starts; behind the last group all members are passed
abbrev pub start_of : List ℕ → List ℕ → ℕ → ℕ
start_of starts members k = slice_index_or starts k (length members)

-- the group of the key k
abbrev pub part : List ℕ → List ℕ → ℕ → List ℕ
part starts members k = between (start_of starts members k) (start_of starts members (k + 1)) members
