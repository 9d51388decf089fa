-- Tests taken apart.
use Rattle.std.proofs.Common.{◌≡◌, Bool, true, false, cond, ◌⊎◌, refl, inl, inr}
pub use Rattle.std.proofs.lemmas.Bool.{and_parts as both, and_from as join}

pub cond_case : {A : Type 0} (t : Bool) (x y z : A) → cond t x y ≡ z → ((t ≡ true) × (x ≡ z)) ⊎ ((t ≡ false) × (y ≡ z))
cond_case true x y z e = inl (refl, e)
cond_case false x y z e = inr (refl, e)
