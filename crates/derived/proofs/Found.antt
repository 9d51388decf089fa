-- What is made of a number that was looked for.
use Rattle.std.proofs.Common.{◌≡◌, ℕ, Bool, true, false, cond, Some, None, Option, MatchOption, subst}

-- what g gives of the number that was found
pub given : {A : Type 0} (g : ℕ → Option A) (b : Bool) (x : ℕ) (o : Option ℕ) (r : Option A) → o ≡ cond b (Some x) None → MatchOption o (r ≡ None) (λ y. r ≡ g y) → r ≡ cond b (g x) None
given g b x o r e h = go b (subst (λ q. MatchOption q (r ≡ None) (λ y. r ≡ g y)) e h)
  where
    go : (b : Bool) → MatchOption (cond b (Some x) None) (r ≡ None) (λ y. r ≡ g y) → r ≡ cond b (g x) None
    go true h = h
    go false h = h
