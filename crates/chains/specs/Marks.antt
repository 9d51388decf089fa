-- The marks of a chart's transitions. Assumes nothing.
use Rattle.std.specs.Prelude.{ℕ, Bool, false, ◌&&◌, nat_lt, slice_index_or}
use Rattle.chains.specs.declared.Chains.{Chains}

-- the transition t is marked; numbers of 512 and more are not
abbrev pub marked : Chains → ℕ → Bool
marked c t = nat_lt t 512 && slice_index_or c.marks t false
