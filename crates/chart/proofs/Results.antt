-- Options and results taken apart.
use Rattle.std.proofs.Common.{◌≡◌, ℕ, Some, None, Ok, Err, Option, Result, sym, refl, ap, arith}
use Rattle.std.specs.Option.{ok_or}
use Rattle.std.specs.Result.{result_ok}
pub use Rattle.std.proofs.lemmas.Option.{same_Some as some_same}

pub none_some : {A B : Type 0} (a : A) → None ≡ Some a → B
none_some a e = absurd (let z : ◌≡◌ {A = ℕ} 0 1 = cc in omega arith)

pub ok_same : {A E : Type 0} (a b : A) → ◌≡◌ {A = Result A E} (Ok a) (Ok b) → a ≡ b
ok_same a b e = cc

pub err_same : {A E : Type 0} (d e : E) → ◌≡◌ {A = Result A E} (Err d) (Err e) → d ≡ e
err_same d e r = cc

pub err_ok : {A E B : Type 0} (e : E) (a : A) → ◌≡◌ {A = Result A E} (Err e) (Ok a) → B
err_ok e a r = absurd (let z : ◌≡◌ {A = ℕ} 0 1 = cc in omega arith)

-- what `ok` keeps
pub kept_ok : {A E : Type 0} (r : Result A E) (a : A) → Some a ≡ result_ok r → r ≡ Ok a
kept_ok (Ok b) a e = ap Ok (some_same b a (sym e))
kept_ok (Err d) a e = none_some a (sym e)

pub kept_or : {A E : Type 0} (o : Option A) (d : E) → result_ok (ok_or o d) ≡ o
kept_or None d = refl
kept_or (Some a) d = refl
