-- Tests taken apart.
use Rattle.std.proofs.Common.{◌≡◌, ℕ, Bool, true, false, ◌&&◌, sym, refl, arith}
pub use Rattle.std.proofs.lemmas.Bool.{and_parts as both, and_from as join, cases_Bool as decided, or_cases as either, or_parts as neither, or_left as left_or, or_right as right_or, not-false as not_yes, not-true as not_no, true_from_ne_false as is_true, false_from_ne_true as is_false}

pub clash : {b : Bool} → b ≡ true → b ≡ false → ⊥
clash {b} p q = let z : ◌≡◌ {A = ℕ} 0 1 = cc in omega arith

-- a && b fails and a holds
pub then_not : (a b : Bool) → (a && b) ≡ false → a ≡ true → b ≡ false
then_not true b h p = h
then_not false b h p = (cc)

-- two tests that follow from one another
pub same_test : (a b : Bool) → (a ≡ true → b ≡ true) → (b ≡ true → a ≡ true) → a ≡ b
same_test true b p q = sym (p refl)
same_test false true p q = q refl
same_test false false p q = refl
