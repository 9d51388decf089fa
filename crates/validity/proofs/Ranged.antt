-- Tests over the numbers below n are tests over the list of these numbers, and what iterators over them tell.
use Rattle.std.proofs.Common.{◌≡◌, ℕ, zero, suc, ◌+◌, ◌-◌, ◌<◌, ◌≤◌, Bool, true, false, cond, ◌||◌, ◌&&◌, List, [], ◌∷◌, ◌++◌, Some, None, Option, MatchOption, IsSomeAnd, IsTrue, unwrap_or, refl, sym, ap, ◌∙◌, arith}
use Rattle.std.specs.declared.ops.Range.{Range}
use Rattle.std.specs.Bool.{⊤}
use Rattle.std.specs.Fn.{Called}
use Rattle.std.specs.Iterator.{YieldsThen}
use Rattle.std.specs.Iterator.Runs.{Run, SomeRun, AllItemsGive, IsFirstToGive, CallKeepsClosure}
use Rattle.std.specs.List.{range_with_len, list_any, list_all, count_by, find, FoldsTo}
use Rattle.std.specs.Option.{option_map}
use Rattle.std.proofs.iter.Yields.{nat_range_steps}
use Rattle.std.proofs.iter.runs.Sources.{range_runs}
use Rattle.std.proofs.lemmas.Iterator.{YieldsList-from_range}
use Rattle.std.proofs.lemmas.Iterator.Adapters.{option_map_id}
use Rattle.std.proofs.lemmas.Iterator.Search.{any_from_yields_List, all_from_yields_List}
use Rattle.std.proofs.lemmas.List.Sums.{sum_by_push}
use denote.Param.Members.{Mut}
use Rattle.chart.specs.Limits.{bit}
use Rattle.validity.specs.Ranges.{any_of, all_of, least_of, count_of, or_else, first_of}
use Rattle.validity.proofs.Bools.{neither}
use Rattle.validity.proofs.Folds.{none_first, some_first}

any_last : (p : ℕ → Bool) (a n j : ℕ) → a + n ≡ j → list_any p (range_with_len a (suc n)) ≡ (list_any p (range_with_len a n) || p j)
any_last p a zero j e = grind arith
any_last p a (suc n) j e = grind (arith, any_last p (a + 1) n j (omega arith))

pub any_below : (n : ℕ) (p : ℕ → Bool) → list_any p (range_with_len 0 n) ≡ any_of n p
any_below zero p = refl
any_below (suc n) p = any_last p 0 n n (omega arith) ∙ ap (λ b. b || p n) (any_below n p)

all_last : (p : ℕ → Bool) (a n j : ℕ) → a + n ≡ j → list_all p (range_with_len a (suc n)) ≡ (list_all p (range_with_len a n) && p j)
all_last p a zero j e = grind arith
all_last p a (suc n) j e = grind (arith, all_last p (a + 1) n j (omega arith))

pub all_below : (n : ℕ) (p : ℕ → Bool) → list_all p (range_with_len 0 n) ≡ all_of n p
all_below zero p = refl
all_below (suc n) p = all_last p 0 n n (omega arith) ∙ ap (λ b. b && p n) (all_below n p)

same_bit : (b : Bool) → cond b 1 0 ≡ bit b
same_bit true = refl
same_bit false = refl

last : (a n j : ℕ) → a + n ≡ j → range_with_len a (suc n) ≡ range_with_len a n ++ j ∷ []
last a zero j e = let here : a ≡ j = omega arith in ap (λ k. k ∷ []) here
last a (suc n) j e = ap (λ l. a ∷ l) (last (a + 1) n j (omega arith))

count_last : (p : ℕ → Bool) (n : ℕ) → count_by p (range_with_len 0 (suc n)) ≡ count_by p (range_with_len 0 n) + bit (p n)
count_last p n = ap (count_by p) (last 0 n n (omega arith)) ∙ (sum_by_push (λ x. cond (p x) 1 0) (range_with_len 0 n) n ∙ ap (λ k. count_by p (range_with_len 0 n) + k) (same_bit (p n)))

pub count_below : (n : ℕ) (p : ℕ → Bool) → count_by p (range_with_len 0 n) ≡ count_of n p
count_below zero p = refl
count_below (suc n) p = omega (arith, count_last p n, count_below n p)

pull : {A : Type 0} (b : Bool) (x : A) (o last : Option A) → cond b (Some x) (or_else o last) ≡ or_else (cond b (Some x) o) last
pull true x o last = refl
pull false x o last = refl

find_last : (p : ℕ → Bool) (a n j : ℕ) → a + n ≡ j → find p (range_with_len a (suc n)) ≡ or_else (find p (range_with_len a n)) (cond (p j) (Some j) None)
find_last p a zero j e = let here : a ≡ j = omega arith in ap (λ k. cond (p k) (Some k) None) here
find_last p a (suc n) j e =
    ap (λ o. cond (p a) (Some a) o) (find_last p (a + 1) n j (omega arith)) ∙ pull (p a) a (find p (range_with_len (a + 1) n)) (cond (p j) (Some j) None)

joined : (a b : Bool) (l n : ℕ) → or_else (cond a (Some l) None) (cond b (Some n) None) ≡ cond (a || b) (Some (cond a l n)) None
joined true b l n = refl
joined false true l n = refl
joined false false l n = refl

find_below : (n : ℕ) (p : ℕ → Bool) → find p (range_with_len 0 n) ≡ cond (any_of n p) (Some (least_of n p)) None
find_below zero p = refl
find_below (suc n) p =
    find_last p 0 n n (omega arith) ∙ ap (λ o. or_else o (cond (p n) (Some n) None)) (find_below n p) ∙ joined (any_of n p) (p n) (least_of n p) n

pub is_found : (n : ℕ) (p : ℕ → Bool) (r : Option ℕ) → option_map (λ x. x) r ≡ find p (range_with_len 0 n) → r ≡ cond (any_of n p) (Some (least_of n p)) None
is_found n p r h = sym (option_map_id r) ∙ h ∙ find_below n p

-- where none passes, the last
least_end : (n : ℕ) (p : ℕ → Bool) → any_of n p ≡ false → n - 1 ≡ least_of n p
least_end zero p h = refl
least_end (suc n) p h =
    let e : suc n - 1 ≡ n = omega arith in
    e ∙ sym (ap (λ b. cond b (least_of n p) n) (neither (any_of n p) (p n) h).0)

-- what a search finds, or the last where it finds none
pub is_least_of : (n : ℕ) (p : ℕ → Bool) (o : Option ℕ) → option_map (λ x. x) o ≡ find p (range_with_len 0 n) → unwrap_or o (n - 1) ≡ least_of n p
is_least_of n p o h = ap (λ o. unwrap_or o (n - 1)) (is_found n p o h) ∙ go (any_of n p) refl
  where
    go : (b : Bool) → any_of n p ≡ b → unwrap_or (cond b (Some (least_of n p)) None) (n - 1) ≡ least_of n p
    go true e = refl
    go false e = least_end n p e

-- what a search, a test of all or a count over the numbers below n tells
pub is_any_of : (n : ℕ) (p : ℕ → Bool) (r : Bool) → r ≡ list_any p (range_with_len 0 n) → r ≡ any_of n p
is_any_of n p r h = h ∙ any_below n p

pub is_all_of : (n : ℕ) (p : ℕ → Bool) (r : Bool) → r ≡ list_all p (range_with_len 0 n) → r ≡ all_of n p
is_all_of n p r h = h ∙ all_below n p

pub is_count_of : (n : ℕ) (p : ℕ → Bool) (r : ℕ) → r ≡ count_by p (range_with_len 0 n) → r ≡ count_of n p
is_count_of n p r h = h ∙ count_below n p

-- What calls at these numbers tell.
abbrev below : ℕ → Range ℕ
below m = record { start = 0; end = m }

-- m is how the code computes n
module _ {F : Type 0} {g : Mut F (ℕ × Unit {0}) Bool} {f : F} {m : ℕ} {u : Range ℕ} (n : ℕ) (p : ℕ → Bool) (r : Bool) (size : m ≡ n) where
  pub any_found : (xs : List ℕ) × (o : Option ℕ) × (j : F) × YieldsThen nat_range_steps (below m) xs o u × FoldsTo (λ h x q. Called g h (x, tt) false q) f xs j × MatchOption o (r ≡ false) (λ x. (r ≡ true) × ((h : F) × Called g j (x, tt) true h))
      → ((x : ℕ) (b : Bool) (q : F) → Called g f (x, tt) b q → (q ≡ f) × (b ≡ p x)) → r ≡ any_of n p
  any_found ran tells = is_any_of n p r (any_from_yields_List p u f r ran (YieldsList-from_range 0 m n refl (omega arith)) tells)

  pub all_found : (xs : List ℕ) × (o : Option ℕ) × (j : F) × YieldsThen nat_range_steps (below m) xs o u × FoldsTo (λ h x q. Called g h (x, tt) true q) f xs j × MatchOption o (r ≡ true) (λ x. (r ≡ false) × ((h : F) × Called g j (x, tt) false h))
      → ((x : ℕ) (b : Bool) (q : F) → Called g f (x, tt) b q → (q ≡ f) × (b ≡ p x)) → r ≡ all_of n p
  all_found ran tells = is_all_of n p r (all_from_yields_List p u f r ran (YieldsList-from_range 0 m n refl (omega arith)) tells)

-- What is found first. The numbers come in order, and each call leaves f as it was.
module _ {B F : Type 0} {g : Mut F (ℕ × Unit {0}) (Option B)} {f : F} {m : ℕ} (n : ℕ) (h : ℕ → Option B) (size : m ≡ n) (tells : (x : ℕ) (o : Option B) (q : F) → Called g f (x, tt) o q → (q ≡ f) × (x < n → o ≡ h x)) where
  keeps : CallKeepsClosure g f
  keeps a o q c = (tells a.0 o q c).0

  given : (o : Option ℕ) (r : Option B) (a k : ℕ) → a ≡ 0 → k < n → option_map (λ y. y) o ≡ Some (a + k) → MatchOption o ⊤ (λ x. Called g f (x, tt) r f) → h k ≡ r
  given None r a k z l e c = cc
  given (Some x) r a k z l e c =
      let same : x ≡ a + k = cc in
      let here : x ≡ k = omega arith in
      ap h (sym here) ∙ sym ((tells x r f c).1 (omega arith))

  some : (o : Option ℕ) (P : ℕ → Type 0) → IsSomeAnd o P → MatchOption o ⊤ P
  some None P s = tt
  some (Some x) P s = s

  module _ (p : Run nat_range_steps) (from : p.from ≡ below m) where
    start : p.from.start ≡ 0
    start = ap (λ (s : Range ℕ). s.start) from

    end : p.from.end ≡ m
    end = ap (λ (s : Range ℕ). s.end) from

    at_place : (r : Option B) (k : ℕ) → k < p.len → MatchOption (p.at k) ⊤ (λ x. Called g f (x, tt) r f) → h k ≡ r
    at_place r k l c =
        let up = range_runs p p.seen in
        let most : p.len ≤ p.from.end - p.from.start = up.0 in
        given (p.at k) r p.from.start k start (omega (arith, start, end)) (up.3 k l) c

    some_at : (r : Option B) (k : ℕ) → k < p.len → IsSomeAnd (p.at k) (λ x. Called g f (x, tt) r f) → h k ≡ r
    some_at r k l c = at_place r k l (some (p.at k) (λ x. Called g f (x, tt) r f) c)

  pub first_found : (r : Option B) → SomeRun nat_range_steps (below m) (λ p. MatchOption r (IsTrue p.whole × AllItemsGive p g f None) (λ y. (i : ℕ) × (i < p.len) × (p.len ≡ i + 1) × IsFirstToGive p g f (Some y) None i)) → r ≡ first_of n h
  first_found None d =
      let p = d.0 in
      let all : p.len ≡ p.from.end - p.from.start = (range_runs p p.seen).1 d.2.0 in
      sym (none_first n h (λ k l. at_place p d.1 None k (omega (arith, start p d.1, end p d.1)) (d.2.1 keeps k)))
  first_found (Some y) d =
      let p = d.0 in
      let i = d.2.0 in
      let calls = d.2.3 keeps in
      let most : p.len ≤ p.from.end - p.from.start = (range_runs p p.seen).0 in
      sym (some_first n h y (record { k = i; below = omega (arith, d.2.1, start p d.1, end p d.1); here = some_at p d.1 (Some y) i d.2.1 calls.0; before = λ k l. some_at p d.1 None k (omega (arith, d.2.1)) (calls.1 k l) }))
