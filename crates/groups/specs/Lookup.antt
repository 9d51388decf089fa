-- What groups hold, and for how much they have room. Assumes nothing.
use Rattle.std.specs.Prelude.{◌≡◌, ℕ, ◌≤◌, List, [], vec_items, vec_capacity}
use Rattle.groups.specs.Numbers.{part}
use Rattle.groups.specs.declared.Groups.{Groups}

-- the numbers with the key k
abbrev pub group : Groups → ℕ → List ℕ
group g k = part (vec_items g.starts) (vec_items g.members) k

-- no group has a place or a member
abbrev pub IsEmpty : Groups → Type 0
IsEmpty g = (vec_items g.starts ≡ []) × (vec_items g.members ≡ [])

abbrev pub room_for_keys : Groups → ℕ
room_for_keys g = vec_capacity g.starts

abbrev pub room_for_numbers : Groups → ℕ
room_for_numbers g = vec_capacity g.members

-- there is room for so many keys and numbers
abbrev pub HasRoom : Groups → ℕ → ℕ → Type 0
HasRoom g keys numbers = (keys ≤ room_for_keys g) × (numbers ≤ room_for_numbers g)
