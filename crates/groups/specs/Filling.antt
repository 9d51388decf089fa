-- Groups of keys, one behind the other. Only private functions cite it. Assumes nothing.
use Rattle.std.specs.Prelude.{◌≡◌, ℕ, zero, suc, ◌<◌, List, [], ◌++◌, length, slice_index, vec_items}
use Rattle.groups.specs.Numbers.{with_key}
use Rattle.groups.specs.Lookup.{room_for_keys, room_for_numbers}
use Rattle.groups.specs.declared.Groups.{Groups}

-- the groups of the keys below n, one behind the other
abbrev pub below : List ℕ → ℕ → List ℕ
below keys zero = []
below keys (suc n) = below keys n ++ with_key keys n

-- starts and members of the groups of the keys below n
pub record Filled (keys : List ℕ) (n : ℕ) (starts members : List ℕ) : Type 0 where
  pub many : length starts ≡ n
  pub row : members ≡ below keys n
  pub places : (k : ℕ) → k < n → slice_index starts k ≡ length (below keys k)

-- the groups are those of the keys below n
abbrev pub IsFilled : List ℕ → ℕ → Groups → Type 0
IsFilled keys n g = Filled keys n (vec_items g.starts) (vec_items g.members)

-- there is as much room as there was
abbrev pub SameRoom : Groups → Groups → Type 0
SameRoom old new = (room_for_keys new ≡ room_for_keys old) × (room_for_numbers new ≡ room_for_numbers old)
