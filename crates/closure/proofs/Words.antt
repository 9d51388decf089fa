-- Sets of numbers, bit by bit.
use Rattle.std.proofs.Common.{◌≡◌, ℕ, ◌/◌, ◌%◌, ◌^◌, ◌*◌, ◌<◌, ◌||◌, eqb, length, get_or, set, bit_or, w64, arith, get_or-set_other, get_or-set_same}
use Rattle.std.proofs.lemmas.Bool.Decides.{nat_tests}
use Rattle.std.proofs.lemmas.List.{get_or_past}
use Rattle.std.proofs.lemmas.Nat.Bits.{bit_at_or, bit_at-lt, bit_at_set_same, bit_at_set_other}
use Rattle.closure.specs.Rows.{in_row}
use Rattle.closure.specs.declared.row.Row.{Row}

-- the union of two sets
pub in_or : (r q w : Row) → length r.words ≡ 4 → length q.words ≡ 4 → length w.words ≡ 4
    → ((k : ℕ) → k < 4 → get_or w.words k 0 ≡ bit_or (get_or r.words k 0) (get_or q.words k 0)) → (y : ℕ) → in_row w y ≡ (in_row r y || in_row q y)
in_or r q w long_r long_q long_w word y =
    let k = y / 64 in
    let past_r = get_or_past r.words k 0 in
    let past_q = get_or_past q.words k 0 in
    let past_w = get_or_past w.words k 0 in
    let bit = bit_at_or (get_or r.words k 0) (get_or q.words k 0) (y % 64) in
    let bit_r = bit_at-lt (get_or r.words k 0) (y % 64) in
    let bit_q = bit_at-lt (get_or q.words k 0) (y % 64) in
    let here = word k in
    grind (arith, nat_tests)

-- the set with one number more
pub in_insert : (r : Row) (y : ℕ) → y < 256 → length r.words ≡ 4 → (z : ℕ)
    → in_row (record { words = set r.words (y / 64) (bit_or (get_or r.words (y / 64) 0) (1 * 2 ^ (y % 64) % 2 ^ 64)) }) z ≡ (in_row r z || eqb z y)
in_insert r y l long z =
    let word = bit_or (get_or r.words (y / 64) 0) (1 * 2 ^ (y % 64) % 2 ^ 64) in
    let same = bit_at_set_same w64 (get_or r.words (y / 64) 0) (y % 64) (omega arith) in
    let other = bit_at_set_other w64 (get_or r.words (y / 64) 0) (y % 64) (omega arith) (z % 64) in
    let at_same = get_or-set_same r.words (y / 64) word 0 (omega (arith, long)) in
    let at_other = get_or-set_other r.words (y / 64) (z / 64) word 0 in
    grind (arith, nat_tests)
