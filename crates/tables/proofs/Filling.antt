-- Rows gathered one by one from the fields that make them.
use Rattle.std.proofs.Common.{◌≡◌, ℕ, zero, suc, ◌+◌, ◌<◌, ◌≤◌, Bool, true, false, cond, List, [], ◌∷◌, ◌++◌, length, get_or, take, Some, None, sym, refl, ap, ◌∙◌, inl, inr, arith}
use Rattle.std.proofs.lemmas.List.{get_or_append_left, get_or_push, length_push}
use Rattle.std.proofs.str.Laws.{order}
use Rattle.chart.specs.Fields.{Field}
use Rattle.chart.specs.Limits.{bit, count}
use Rattle.validity.specs.Parts.{index_of, at}
use Rattle.validity.proofs.Numbers.{index_number, count_take}

count_suc : (p : Field → Bool) (fs : List Field) (k : ℕ) → k < length fs → count p (take (suc k) fs) ≡ bit (p (at fs k)) + count p (take k fs)
count_suc p [] k l = absurd (omega arith)
count_suc p (f ∷ fs) zero l = omega arith
count_suc p (f ∷ fs) (suc k) l = omega (arith, count_suc p fs k (omega arith))

count_next : (p : Field → Bool) (fs : List Field) (k : ℕ) → k < length fs → count p (take (k + 1) fs) ≡ bit (p (at fs k)) + count p (take k fs)
count_next p fs k l = let e : k + 1 ≡ suc k = omega arith in ap (λ n. count p (take n fs)) e ∙ count_suc p fs k l

count_all : (p : Field → Bool) (fs : List Field) (k : ℕ) → length fs ≤ k → count p (take k fs) ≡ count p fs
count_all p [] zero l = refl
count_all p [] (suc k) l = refl
count_all p (f ∷ fs) zero l = absurd (omega arith)
count_all p (f ∷ fs) (suc k) l = omega (arith, count_all p fs k (omega arith))

module _ {A : Type 0} (p : Field → Bool) (fs : List Field) (row : ℕ → A) where
  -- the rows of the fields in front of k
  pub record Filled (k : ℕ) (xs : List A) : Type 0 where
    pub counted : length xs ≡ count p (take k fs)
    pub told : (n : ℕ) (d : A) → n < length xs → get_or xs n d ≡ row (index_of p fs n)

  -- the field at k makes this row
  makes_it : (k : ℕ) (x : A) → Some x ≡ cond (p (at fs k)) (Some (row k)) None → (p (at fs k) ≡ true) × (x ≡ row k)
  makes_it k x h = go (p (at fs k)) h
    where
      go : (b : Bool) → Some x ≡ cond b (Some (row k)) None → (b ≡ true) × (x ≡ row k)
      go true e = let is : x ≡ row k = grind arith in (refl, is)
      go false e = absurd (grind arith)

  makes_none : (k : ℕ) → None ≡ cond (p (at fs k)) (Some (row k)) None → p (at fs k) ≡ false
  makes_none k h = go (p (at fs k)) h
    where
      go : (b : Bool) → None ≡ cond b (Some (row k)) None → b ≡ false
      go true e = absurd (grind arith)
      go false e = refl

  pub filled_more : (k : ℕ) (xs : List A) (x : A) → k < length fs → Some x ≡ cond (p (at fs k)) (Some (row k)) None → Filled k xs → Filled (k + 1) (xs ++ (x ∷ []))
  filled_more k xs x l h f =
      let made = makes_it k x h in
      let one : bit (p (at fs k)) ≡ 1 = ap bit made.0 in
      let more = count_next p fs k l in
      let here : index_of p fs (length xs) ≡ k = ap (index_of p fs) f.counted ∙ index_number p fs k l made.0 in
      let old : (n : ℕ) (d : A) → n < length xs → get_or (xs ++ (x ∷ [])) n d ≡ row (index_of p fs n) = λ n d below. get_or_append_left xs (x ∷ []) d n below ∙ f.told n d below in
      let new : (n : ℕ) (d : A) → n ≡ length xs → get_or (xs ++ (x ∷ [])) n d ≡ row (index_of p fs n) = λ n d is. get_or_push xs x d n (sym is) ∙ made.1 ∙ ap row (sym (ap (index_of p fs) is ∙ here)) in
      record {
        counted = omega (arith, length_push xs x, f.counted, one, more);
        told = λ n d below. elim (order n (length xs)) [ inl a ↦ old n d a | inr a ↦ new n d (omega (arith, length_push xs x)) ];
      }

  pub filled_same : (k : ℕ) (xs : List A) → k < length fs → None ≡ cond (p (at fs k)) (Some (row k)) None → Filled k xs → Filled (k + 1) xs
  filled_same k xs l h f =
      let none : bit (p (at fs k)) ≡ 0 = ap bit (makes_none k h) in
      record { counted = omega (arith, f.counted, none, count_next p fs k l); told = f.told }

  pub filled_all : (k : ℕ) (xs : List A) → length fs ≤ k → Filled k xs → length xs ≡ count p fs
  filled_all k xs l f = f.counted ∙ count_all p fs k l

  -- there are more rows to come
  pub more_to_come : (k : ℕ) (xs : List A) (x : A) → k < length fs → Some x ≡ cond (p (at fs k)) (Some (row k)) None → Filled k xs → length xs < count p fs
  more_to_come k xs x l h f =
      let one : bit (p (at fs k)) ≡ 1 = ap bit (makes_it k x h).0 in
      omega (arith, f.counted, one, count_next p fs k l, count_take p fs (k + 1))
