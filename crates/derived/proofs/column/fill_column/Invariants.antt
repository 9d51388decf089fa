use Rattle.std.proofs.Common.{◌≡◌, ℕ, ◌<◌, vec_items, vec_len, vec_capacity, slice_index_or}
use Rattle.derived.proofs.column.fill_column.Given as goal

-- the values of the numbers in front
abbrev pub invariant-loop-number : goal.invariant-loop-number
invariant-loop-number g l = record {
  counted : vec_len l.values ≡ l.number;
  told : (n : ℕ) (d : _) → n < l.number → goal.F-post g l.value n (slice_index_or (vec_items l.values) n d);
  room : vec_capacity l.values ≡ vec_capacity l.initial.values;
}
