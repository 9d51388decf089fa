-- Fields by number: where they stand, and what they are.
use Rattle.std.proofs.Common.{◌≡◌, ℕ, zero, suc, ◌+◌, ◌<◌, ◌≤◌, Bool, true, false, cond, List, [], ◌∷◌, length, take, sym, refl, ap, ◌∙◌, subst, inl, inr, arith}
use native.Mathlib.Decide.{dec_le, dec_lt}
use Rattle.chart.specs.declared.kinds.Tag.TheVariants.{State, Graph, Transition, Trigger, Effects}
use Rattle.chart.specs.Fields.{Field, signal, state, graph, transition, suspension, trigger, effects, is}
use Rattle.chart.specs.Limits.{bit, count}
use Rattle.validity.specs.Parts.{state_kind_in, number_in, edge_in, bytes_in, index_of, at}
use Rattle.validity.proofs.Bools.{clash, decided}

-- The field at j passes the test and has the number n among those that do.
pub record Found (p : Field → Bool) (fs : List Field) (n j : ℕ) : Type 0 where
  pub below : j < length fs
  pub passes : p (at fs j) ≡ true
  pub number : count p (take j fs) ≡ n

found_head : (p : Field → Bool) (f : Field) (fs : List Field) → p f ≡ true → Found p (f ∷ fs) 0 0
found_head p f fs h = record { below = omega arith; passes = h; number = refl }

found_tail : (p : Field → Bool) (f : Field) (fs : List Field) (m n j : ℕ) → bit (p f) + n ≡ m → Found p fs n j → Found p (f ∷ fs) m (suc j)
found_tail p f fs m n j h r = record { below = omega (arith, r.below); passes = r.passes; number = ap (λ k. bit (p f) + k) r.number ∙ h }

pub found : (p : Field → Bool) (fs : List Field) (n : ℕ) → n < count p fs → Found p fs n (index_of p fs n)
found p [] n l = absurd (omega arith)
found p (f ∷ fs) zero l =
    elim (decided (p f)) [
      | inl h ↦ subst (Found p (f ∷ fs) 0) (sym (ap (λ b. cond b 0 (suc (index_of p fs 0))) h)) (found_head p f fs h)
      | inr h ↦
          let e : bit (p f) ≡ 0 = ap bit h in
          subst (Found p (f ∷ fs) 0) (sym (ap (λ b. cond b 0 (suc (index_of p fs 0))) h)) (found_tail p f fs 0 0 (index_of p fs 0) (omega arith) (found p fs 0 (omega arith)))
    ]
found p (f ∷ fs) (suc n) l =
    let place = λ (b : Bool). suc (cond b (index_of p fs n) (index_of p fs (suc n))) in
    elim (decided (p f)) [
      | inl h ↦
          let e : bit (p f) ≡ 1 = ap bit h in
          subst (Found p (f ∷ fs) (suc n)) (sym (ap place h)) (found_tail p f fs (suc n) n (index_of p fs n) (omega arith) (found p fs n (omega arith)))
      | inr h ↦
          let e : bit (p f) ≡ 0 = ap bit h in
          subst (Found p (f ∷ fs) (suc n)) (sym (ap place h)) (found_tail p f fs (suc n) (suc n) (index_of p fs (suc n)) (omega arith) (found p fs (suc n) (omega arith)))
    ]

pub count_take : (p : Field → Bool) (fs : List Field) (i : ℕ) → count p (take i fs) ≤ count p fs
count_take p [] zero = omega arith
count_take p [] (suc i) = omega arith
count_take p (f ∷ fs) zero = omega arith
count_take p (f ∷ fs) (suc i) = omega (arith, count_take p fs i)

pub count_more : (p : Field → Bool) (fs : List Field) (i j : ℕ) → i ≤ j → count p (take i fs) ≤ count p (take j fs)
count_more p fs zero j l = omega arith
count_more p fs (suc i) zero l = absurd (omega arith)
count_more p [] (suc i) (suc j) l = omega arith
count_more p (f ∷ fs) (suc i) (suc j) l = omega (arith, count_more p fs i j (omega arith))

-- What is counted in front of i stands in front of i.
pub found_before : (p : Field → Bool) (fs : List Field) (n i j : ℕ) → Found p fs n j → n < count p (take i fs) → j < i
found_before p fs n i j r l = elim (dec_le i j) [ yes h ↦ absurd (omega (arith, count_more p fs i j h, r.number)) | no h ↦ omega arith ]

-- The field with the number that the field at i has is the field at i.
pub index_number : (p : Field → Bool) (fs : List Field) (i : ℕ) → i < length fs → p (at fs i) ≡ true → index_of p fs (count p (take i fs)) ≡ i
index_number p [] i l h = absurd (omega arith)
index_number p (f ∷ fs) zero l h = ap (λ b. cond b 0 (suc (index_of p fs 0))) h
index_number p (f ∷ fs) (suc i) l h = go (p f) refl (count p (take i fs)) (index_number p fs i (omega arith) h)
  where
    go : (b : Bool) → p f ≡ b → (n : ℕ) → index_of p fs n ≡ i → index_of p (f ∷ fs) (bit (p f) + n) ≡ suc i
    go true e n ih =
        let m : bit (p f) + n ≡ suc n = omega (arith, ap bit e) in
        ap (index_of p (f ∷ fs)) m ∙ ap (λ b. suc (cond b (index_of p fs n) (index_of p fs (suc n)))) e ∙ ap suc ih
    go false e zero ih =
        let m : bit (p f) + 0 ≡ 0 = omega (arith, ap bit e) in
        ap (index_of p (f ∷ fs)) m ∙ ap (λ b. cond b 0 (suc (index_of p fs 0))) e ∙ ap suc ih
    go false e (suc n) ih =
        let m : bit (p f) + suc n ≡ suc n = omega (arith, ap bit e) in
        ap (index_of p (f ∷ fs)) m ∙ ap (λ b. suc (cond b (index_of p fs n) (index_of p fs (suc n)))) e ∙ ap suc ih

-- A field with a tag is made of its parts.

pub as_state : (f : Field) → is State f ≡ true → f ≡ state (number_in f) (state_kind_in f) (bytes_in f)
as_state (signal k name) h = absurd (clash h refl)
as_state (state g k name) h = refl
as_state (graph o) h = absurd (clash h refl)
as_state (transition s t k i) h = absurd (clash h refl)
as_state (suspension s) h = absurd (clash h refl)
as_state (trigger p) h = absurd (clash h refl)
as_state (effects e) h = absurd (clash h refl)

pub as_graph : (f : Field) → is Graph f ≡ true → f ≡ graph (number_in f)
as_graph (signal k name) h = absurd (clash h refl)
as_graph (state g k name) h = absurd (clash h refl)
as_graph (graph o) h = refl
as_graph (transition s t k i) h = absurd (clash h refl)
as_graph (suspension s) h = absurd (clash h refl)
as_graph (trigger p) h = absurd (clash h refl)
as_graph (effects e) h = absurd (clash h refl)

pub as_transition : (f : Field) → is Transition f ≡ true → f ≡ transition (edge_in f).source (edge_in f).target (edge_in f).kind (edge_in f).immediate
as_transition (signal k name) h = absurd (clash h refl)
as_transition (state g k name) h = absurd (clash h refl)
as_transition (graph o) h = absurd (clash h refl)
as_transition (transition s t k i) h = refl
as_transition (suspension s) h = absurd (clash h refl)
as_transition (trigger p) h = absurd (clash h refl)
as_transition (effects e) h = absurd (clash h refl)

pub as_trigger : (f : Field) → is Trigger f ≡ true → f ≡ trigger (bytes_in f)
as_trigger (signal k name) h = absurd (clash h refl)
as_trigger (state g k name) h = absurd (clash h refl)
as_trigger (graph o) h = absurd (clash h refl)
as_trigger (transition s t k i) h = absurd (clash h refl)
as_trigger (suspension s) h = absurd (clash h refl)
as_trigger (trigger p) h = refl
as_trigger (effects e) h = absurd (clash h refl)

pub as_effects : (f : Field) → is Effects f ≡ true → f ≡ effects (bytes_in f)
as_effects (signal k name) h = absurd (clash h refl)
as_effects (state g k name) h = absurd (clash h refl)
as_effects (graph o) h = absurd (clash h refl)
as_effects (transition s t k i) h = absurd (clash h refl)
as_effects (suspension s) h = absurd (clash h refl)
as_effects (trigger p) h = absurd (clash h refl)
as_effects (effects e) h = refl

pub at_behind : (fs : List Field) (i : ℕ) → length fs ≤ i → at fs i ≡ graph 0
at_behind [] zero l = refl
at_behind [] (suc i) l = refl
at_behind (f ∷ fs) zero l = absurd (omega arith)
at_behind (f ∷ fs) (suc i) l = at_behind fs i (omega arith)

-- Where a trigger or effects stand, there is a field.
pub inside : (fs : List Field) (p : Field → Bool) (i : ℕ) → p (graph 0) ≡ false → p (at fs i) ≡ true → i < length fs
inside fs p i n h = elim (dec_lt i (length fs)) [ yes l ↦ l | no nl ↦ absurd (clash (sym (ap p (at_behind fs i (omega arith))) ∙ h) n) ]
