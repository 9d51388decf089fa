-- One round of the closure: what leads to k leads where k leads.
use Rattle.std.proofs.Common.{◌≡◌, ℕ, suc, ◌+◌, ◌<◌, ◌≤◌, Bool, true, false, ◌&&◌, ◌||◌, List, length, get_or, set, sym, ap, ◌∙◌, ap₂, arith, length-set, get_or-set_other, get_or-set_same}
use native.Mathlib.Decide.{ℕ_discrete}
use Rattle.std.proofs.lemmas.Bool.Decides.{nat_tests}
use Rattle.validity.specs.Closure.{through, leads}
use Rattle.validity.proofs.Closed.{t_zero, t_suc, leads_inside, leads_same}
use Rattle.closure.specs.Rows.{in_row, holds, among, OnlyBelow, empty, told}
use Rattle.closure.specs.declared.row.Row.{Row}
use Rattle.closure.specs.declared.Reach.{Reach}

-- the rows after round k
abbrev pub Joined : List Row → List Row → ℕ → Type 0
Joined was rows k = (x y : ℕ) → x < 256 → y < 256 → holds rows x y ≡ (holds was x y || holds was x k && holds was k y)

-- in round k, before the row x
pub record Amid (was rows : List Row) (k x : ℕ) (by : Row) : Type 0 where
  pub long : length rows ≡ 256
  pub by_is : (y : ℕ) → in_row by y ≡ holds was k y
  pub done : (i y : ℕ) → i < x → holds rows i y ≡ (holds was i y || holds was i k && holds was k y)
  pub rest : (i y : ℕ) → x ≤ i → holds rows i y ≡ holds was i y

module _ (was rows : List Row) (k x : ℕ) (by : Row) (a : Amid was rows k x by) where
  -- x does not lead to k
  pub kept : holds rows x k ≡ false → Amid was rows k (x + 1) by
  kept h = record {
    long = a.long;
    by_is = a.by_is;
    done = λ i y l.
        let before = a.done i y in
        let same = a.rest i y in
        let same_k = a.rest i k in
        grind arith;
    rest = λ i y l. a.rest i y (omega arith);
  }

  -- it does
  pub joined : (new : Row) → x < 256 → holds rows x k ≡ true → ((y : ℕ) → in_row new y ≡ (holds rows x y || in_row by y)) → Amid was (set rows x new) k (x + 1) by
  joined new l h j = record {
    long = length-set rows x new ∙ a.long;
    by_is = a.by_is;
    done = λ i y li.
        elim (ℕ_discrete i x) [
          | yes e ↦
              let here = ap (λ m. get_or (set rows x new) m empty) e ∙ get_or-set_same rows x new empty (omega (arith, a.long)) in
              let union = j y in
              let beyond = a.by_is y in
              let same = a.rest i y in
              let same_k = a.rest i k in
              grind arith
          | no ne ↦ ap (λ r. in_row r y) (get_or-set_other rows x i new empty ne) ∙ a.done i y (omega arith)
        ];
    rest = λ i y li. ap (λ r. in_row r y) (get_or-set_other rows x i new empty (λ e. omega arith)) ∙ a.rest i y (omega arith);
  }

-- before round k
abbrev pub Before : List Row → List Row → ℕ → ℕ → Type 0
Before was rows n k = (x y : ℕ) → x < n → y < n → holds rows x y ≡ through n (holds was) k x y

pub begins : (was : List Row) (n : ℕ) → Before was was n 0
begins was n x y lx ly = sym (t_zero n (holds was) x y lx ly)

pub goes_on : (first was rows : List Row) (n k : ℕ) → n ≤ 256 → k < n → Before first was n k → Joined was rows k → Before first rows n (k + 1)
goes_on first was rows n k small l b j x y lx ly =
    j x y (omega arith) (omega arith) ∙ ap₂ (λ p q. p || q) (b x y lx ly) (ap₂ (λ p q. p && q) (b x k lx l) (b k y l ly))
    ∙ sym (t_suc n (holds first) k x y lx ly)
    ∙ ap (λ m. through n (holds first) m x y) (let e : suc k ≡ k + 1 = omega arith in e)

pub ends : (was rows : List Row) (n : ℕ) → OnlyBelow n (holds rows) → Before was rows n n → (x y : ℕ) → x < 256 → y < 256 → holds rows x y ≡ leads n (holds was) x y
ends was rows n w b x y lx ly =
    let inside = w x y lx ly in
    let there = leads_inside n (holds was) x y in
    let same = b x y in
    grind arith

-- What the closure of steps between numbers below n tells.
pub tells : (n : ℕ) (step : ℕ → ℕ → Bool) (first : List Row) → n ≤ 256 → ((x y : ℕ) → x < 256 → y < 256 → holds first x y ≡ among n step x y) → (r : Reach)
    → ((x y : ℕ) → x < 256 → y < 256 → holds r.rows x y ≡ leads n (holds first) x y) → (x y : ℕ) → told r x y ≡ leads n step x y
tells n step first small a r c x y =
    let inside = leads_inside n step x y in
    let closed = c x y in
    let same = leads_same n (holds first) step first_step x y in
    grind (arith, nat_tests)
  where
    first_step : (x y : ℕ) → x < n → y < n → holds first x y ≡ step x y
    first_step x y lx ly = let e = a x y (omega arith) (omega arith) in grind (arith, nat_tests)
