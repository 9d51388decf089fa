-- What the tables tell of a number that nothing has.
use Rattle.std.proofs.Common.{◌≡◌, ℕ, zero, suc, ◌≤◌, Bool, cond, eqb, List, [], ◌∷◌, length, sym, refl, ap, ◌∙◌, inl, inr, arith}
use Rattle.chart.specs.Kinds.{signal_kind_code}
use Rattle.chart.specs.Fields.{Field, signal, state, graph, transition, suspension, trigger, effects, is_input}
use Rattle.tables.specs.Rows.{signal_kind_in}
use Rattle.chart.specs.Limits.{bit, count}
use Rattle.validity.specs.Parts.{index_of, at}
use Rattle.validity.proofs.Bools.{decided}

-- Beyond the fields that pass the test there is none.
pub beyond : (p : Field → Bool) (fs : List Field) (n : ℕ) → count p fs ≤ n → graph 0 ≡ at fs (index_of p fs n)
beyond p [] n l = refl
beyond p (f ∷ fs) zero l =
    elim (decided (p f)) [
      | inl h ↦ let e : bit (p f) ≡ 1 = ap bit h in absurd (omega arith)
      | inr h ↦ beyond p fs 0 (omega arith) ∙ sym (ap (λ b. at (f ∷ fs) (cond b 0 (suc (index_of p fs 0)))) h)
    ]
beyond p (f ∷ fs) (suc n) l =
    elim (decided (p f)) [
      | inl h ↦
          let e : bit (p f) ≡ 1 = ap bit h in
          beyond p fs n (omega arith) ∙ sym (ap (λ b. at (f ∷ fs) (suc (cond b (index_of p fs n) (index_of p fs (suc n))))) h)
      | inr h ↦ beyond p fs (suc n) (omega arith) ∙ sym (ap (λ b. at (f ∷ fs) (suc (cond b (index_of p fs n) (index_of p fs (suc n))))) h)
    ]

pub index_behind : (p : Field → Bool) (fs : List Field) (n : ℕ) → count p fs ≤ n → length fs ≤ index_of p fs n
index_behind p [] n l = omega arith
index_behind p (f ∷ fs) zero l =
    elim (decided (p f)) [
      | inl h ↦ let e : bit (p f) ≡ 1 = ap bit h in absurd (omega arith)
      | inr h ↦ omega (arith, index_behind p fs 0 (omega arith), ap (λ b. cond b 0 (suc (index_of p fs 0))) h)
    ]
index_behind p (f ∷ fs) (suc n) l =
    elim (decided (p f)) [
      | inl h ↦
          let e : bit (p f) ≡ 1 = ap bit h in
          omega (arith, index_behind p fs n (omega arith), ap (λ b. suc (cond b (index_of p fs n) (index_of p fs (suc n)))) h)
      | inr h ↦ omega (arith, index_behind p fs (suc n) (omega arith), ap (λ b. suc (cond b (index_of p fs n) (index_of p fs (suc n)))) h)
    ]

pub input_kind : (f : Field) → eqb (signal_kind_code (signal_kind_in f)) 0 ≡ is_input f
input_kind (signal k name) = refl
input_kind (state g k name) = refl
input_kind (graph o) = refl
input_kind (transition s t k i) = refl
input_kind (suspension s) = refl
input_kind (trigger p) = refl
input_kind (effects e) = refl
