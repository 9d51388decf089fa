-- Graphs of a state and states of a graph stand behind their owner.
use Rattle.std.proofs.Common.{◌≡◌, ℕ, zero, suc, ◌<◌, ◌≤◌, Bool, true, false, cond, if◌then◌else◌, not, eqb, List, [], ◌∷◌, ◌++◌, length, get_or, sym, refl, ap, ◌∙◌, subst, arith, length-append}
use native.Mathlib.Decide.{dec_lt}
use borrow.Author.Tests.{eqb-false, not-true}
use Rattle.std.proofs.lemmas.Bool.{eqb-true}
use Rattle.std.proofs.Math.Seq.{get_or-append_seam}
use Rattle.std.proofs.lemmas.List.{get_or_append_left}
use Rattle.chart.specs.Reading.{row_of}
use Rattle.chart.proofs.Bools.{both}
use Rattle.groups.specs.Numbers.{those}
use Rattle.validity.specs.Sound.{Sound}
use Rattle.validity.specs.Tables.{states, graph_of, owner_of, is_in}
use Rattle.loading.specs.declared.charts.Chart.{Chart}
use Rattle.loading.specs.Meaning.{copy_in, fields_for, meaning}
use Rattle.loading.proofs.Keeping.{kept_sound}

last : (xs : List ℕ) (n k d : ℕ) (b : Bool) → k < length (xs ++ cond b (n ∷ []) []) → length xs ≤ k → (b ≡ true) × (get_or (xs ++ cond b (n ∷ []) []) k d ≡ n)
last xs n k d true l h =
    let e : k ≡ length xs = omega (arith, length-append xs (n ∷ [])) in (refl, ap (λ i. get_or (xs ++ n ∷ []) i d) e ∙ get_or-append_seam xs n [] d)
last xs n k d false l h = absurd (omega (arith, length-append xs []))

-- what stands among the numbers below n that pass a test
those_pass : (n : ℕ) (p : ℕ → Bool) (k d : ℕ) → k < length (those n p) → (get_or (those n p) k d < n) × (p (get_or (those n p) k d) ≡ true)
those_pass zero p k d l = absurd (omega (arith, l))
those_pass (suc n) p k d l =
    elim (dec_lt k (length (those n p))) [
      | yes h ↦
          let r = those_pass n p k d h in
          subst (λ x. (x < suc n) × (p x ≡ true)) (sym (get_or_append_left (those n p) (cond (p n) (n ∷ []) []) d k h)) (omega (arith, r.0), r.1)
      | no h ↦
          let r = last (those n p) n k d (p n) l (omega (arith, h)) in
          subst (λ x. (x < suc n) × (p x ≡ true)) (sym r.1) (omega arith, r.0)
    ]

chosen : (b : Bool) (n : ℕ) (p : ℕ → Bool) (k d : ℕ) → k < length (if b then those n p else [])
    → (get_or (if b then those n p else []) k d < n) × (p (get_or (if b then those n p else []) k d) ≡ true)
chosen true n p k d l = those_pass n p k d l
chosen false n p k d l = absurd (omega (arith, l))

-- the same where there is such a row or none
pub passes : (b : Bool) (n : ℕ) (p : ℕ → Bool) (xs : List ℕ) (k x : ℕ) → xs ≡ (if b then those n p else []) → k < length xs → x ≡ get_or xs k 0 → (x < n) × (p x ≡ true)
passes b n p xs k x e l is = subst (λ y. (y < n) × (p y ≡ true)) (sym (is ∙ ap (λ ys. get_or ys k 0) e)) (chosen b n p k 0 (subst (λ ys. k < length ys) e l))

-- a file with states has bytes
some_byte : (b : List ℕ) → 0 < states (row_of b) → 0 < length b
some_byte [] h = absurd (omega (arith, h))
some_byte (x ∷ xs) h = omega arith

-- a chart with states is sound
sound : (c : Chart) → 0 < states (fields_for c) → Sound (meaning c)
sound c h =
    let f = c.tables.file in
    kept_sound (copy_in c) c.valid (some_byte (copy_in c) h) (omega (arith, f.most, f.bytes.ok.0)) f.row f.passed

pub behind_owner : (c : Chart) (g s : ℕ) → s < states (fields_for c) → is_in (fields_for c) g s ≡ true → owner_of (fields_for c) g < s
behind_owner c g s l i =
    let fs = fields_for c in
    let r = both (not (eqb s 0)) (eqb (graph_of fs s) g) i in
    let inner = eqb-false s 0 (not-true (eqb s 0) r.0) in
    subst (λ x. owner_of fs x < s) (eqb-true (graph_of fs s) g r.1) ((sound c (omega (arith, l))).around_before s (omega (arith, inner), l))
