-- The groups of the keys below a number, one behind the other.
use Rattle.std.proofs.Common.{◌≡◌, ℕ, zero, suc, ◌+◌, ◌<◌, ◌≤◌, min, cond, ltb, List, [], ◌∷◌, ◌++◌, length, get_or, take, drop, sym, refl, ap, ◌∙◌, subst, ap₂, arith, length-append, le-ltb, lt-ltb}
use native.Mathlib.Decide.{ℕ_discrete, dec_lt}
use Rattle.std.specs.List.{between}
use Rattle.std.proofs.lemmas.List.{take_all, take-append-le, drop_at, drop_all, get_or_past, get_or_default, get_or_push, get_or_append_left, length_push, length-take}
use Rattle.std.proofs.lemmas.Slice.{between_is}
use Rattle.groups.specs.Numbers.{those, with_key, start_of, part}
use Rattle.groups.specs.Filling.{below, Filled}
use Rattle.groups.proofs.Those.{few, split}

-- behind the last group there is nothing
pub past : (starts members : List ℕ) (k : ℕ) → length starts ≤ k → part starts members k ≡ []
past starts members k h =
    between_is members (start_of starts members k) (start_of starts members (k + 1))
    ∙ drop_all (start_of starts members k) (take (start_of starts members (k + 1)) members) (omega (arith, get_or_past starts k (length members) h, length-take (start_of starts members (k + 1)) members))

-- the members of the groups of the keys below n are numbers whose keys are below n
within : (keys : List ℕ) (n : ℕ) → length (below keys n) ≤ length (those (length keys) (λ i. ltb (get_or keys i 0) n))
within keys zero = omega arith
within keys (suc n) = omega (arith, length-append (below keys n) (with_key keys n), within keys n, split (λ i. get_or keys i 0) (length keys) n)

-- so there are no more of them than numbers
pub below_few : (keys : List ℕ) (n : ℕ) → length (below keys n) ≤ length keys
below_few keys n = omega (arith, within keys n, few (length keys) (λ i. ltb (get_or keys i 0) n))

-- there is room for one group more
pub one_more : (keys : List ℕ) (n : ℕ) → length (below keys n) + length (with_key keys n) ≤ length keys
one_more keys n = omega (arith, below_few keys (suc n), length-append (below keys n) (with_key keys n))

-- fewer groups have no more members, and they are the front of the row
longer : (keys : List ℕ) (j n : ℕ) → j ≤ n → length (below keys j) ≤ length (below keys n)
longer keys j zero h = let e : j ≡ 0 = omega arith in omega (arith, ap (λ i. length (below keys i)) e)
longer keys j (suc n) h =
    elim (ℕ_discrete j (suc n)) [
      | yes e ↦ omega (arith, ap (λ i. length (below keys i)) e)
      | no ne ↦ omega (arith, length-append (below keys n) (with_key keys n), longer keys j n (omega arith))
    ]

front : (keys : List ℕ) (j n : ℕ) → j ≤ n → take (length (below keys j)) (below keys n) ≡ below keys j
front keys j zero h = let e : j ≡ 0 = omega arith in subst (λ i. take (length (below keys i)) [] ≡ below keys i) (sym e) refl
front keys j (suc n) h =
    elim (ℕ_discrete j (suc n)) [
      | yes e ↦ subst (λ i. take (length (below keys i)) (below keys (suc n)) ≡ below keys i) (sym e) (take_all (length (below keys (suc n))) (below keys (suc n)) (omega arith))
      | no ne ↦
          let l : j ≤ n = omega arith in
          take-append-le (length (below keys j)) (below keys n) (with_key keys n) (longer keys j n l) ∙ front keys j n l
    ]

module _ (keys : List ℕ) (n : ℕ) (starts members : List ℕ) (f : Filled keys n starts members) where
  start_is : (k : ℕ) → start_of starts members k ≡ length (below keys (min k n))
  start_is k =
      elim (dec_lt k n) [
        | yes l ↦
            get_or_default starts k (length members) 0 (omega (arith, f.many)) ∙ f.places k l
            ∙ ap (λ i. length (below keys i)) (let e : k ≡ min k n = omega arith in e)
        | no ge ↦
            get_or_past starts k (length members) (omega (arith, f.many)) ∙ ap length f.row
            ∙ ap (λ i. length (below keys i)) (let e : n ≡ min k n = omega arith in e)
      ]

  pub rises : (k : ℕ) → start_of starts members k ≤ start_of starts members (k + 1)
  rises k = omega (arith, start_is k, start_is (k + 1), longer keys (min k n) (min (k + 1) n) (omega arith))

  pub stays : (k : ℕ) → start_of starts members k ≤ length members
  stays k = omega (arith, start_is k, longer keys (min k n) n (omega arith), ap length f.row)

  pub part_is : (k : ℕ) → part starts members k ≡ cond (ltb k n) (with_key keys k) []
  part_is k =
      elim (dec_lt k n) [
        | yes l ↦
            let from : start_of starts members k ≡ length (below keys k) = start_is k ∙ ap (λ i. length (below keys i)) (let e : min k n ≡ k = omega arith in e) in
            let to : start_of starts members (k + 1) ≡ length (below keys (suc k)) = start_is (k + 1) ∙ ap (λ i. length (below keys i)) (let e : min (k + 1) n ≡ suc k = omega arith in e) in
            ap₂ (λ a b. between a b members) from to ∙ ap (λ xs. between (length (below keys k)) (length (below keys (suc k))) xs) f.row
            ∙ between_is (below keys n) (length (below keys k)) (length (below keys (suc k)))
            ∙ ap (λ xs. drop (length (below keys k)) xs) (front keys (suc k) n (omega arith))
            ∙ drop_at (below keys k) (with_key keys k) (length (below keys k)) refl
            ∙ ap (λ b. cond b (with_key keys k) []) (sym (lt-ltb k n l))
        | no ge ↦
            past starts members k (omega (arith, f.many)) ∙ ap (λ b. cond b (with_key keys k) []) (sym (le-ltb k n (omega arith)))
      ]

-- one group more
pub goes_on : (keys : List ℕ) (n start : ℕ) (was now members row : List ℕ) → Filled keys n was members → start ≡ length members → now ≡ was ++ start ∷ [] → row ≡ members ++ with_key keys n → Filled keys (n + 1) now row
goes_on keys n start was now members row f start_is now_is row_is = record {
  many = ap length now_is ∙ length_push was start ∙ ap (λ m. m + 1) f.many;
  row = row_is ∙ ap (λ xs. xs ++ with_key keys n) f.row ∙ ap (below keys) (let e : suc n ≡ n + 1 = omega arith in e);
  places = λ k l. ap (λ xs. get_or xs k 0) now_is ∙ one k l;
}
  where
    one : (k : ℕ) → k < n + 1 → get_or (was ++ start ∷ []) k 0 ≡ length (below keys k)
    one k l =
        elim (ℕ_discrete k n) [
          | yes e ↦ get_or_push was start 0 k (f.many ∙ sym e) ∙ start_is ∙ ap length f.row ∙ ap (λ i. length (below keys i)) (sym e)
          | no ne ↦ get_or_append_left was (start ∷ []) 0 k (omega (arith, f.many)) ∙ f.places k (omega arith)
        ]
