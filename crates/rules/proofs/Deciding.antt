-- The outcome of the six rules, with that on rings last.
use Rattle.std.proofs.Common.{◌≡◌, ℕ, Bool, List, length, Some, None, Ok, Option, refl, sym, ap₂}
use Rattle.chart.specs.Fields.{Field, place_at}
use Rattle.validity.specs.declared.faults.Invalid.{Invalid}
use Rattle.validity.specs.Numbering.{rings}
use Rattle.validity.specs.Outcome.{located, first_by, rule_at, unless, outcome}
use Rattle.validity.specs.Ranges.{first_of, or_else}
use Rattle.validity.specs.Tables.{is_chain, chain_leads}
use Rattle.rules.specs.Ringed.{ring_by}

kept : (o : Option Invalid) → unless o ≡ Ok tt → None ≡ o
kept None e = refl
kept (Some x) e = cc

module _ (fs : List Field) (mark : ℕ → Bool) (reach : ℕ → ℕ → Bool) (marks : (t : ℕ) → mark t ≡ is_chain fs t) (reaches : (x y : ℕ) → reach x y ≡ chain_leads fs (is_chain fs) x y) where
  first_ring : first_of (length fs) (λ i. located (place_at fs i) (ring_by fs mark reach i)) ≡ first_by fs rings
  first_ring = ap₂ (λ chain leads_to. first_of (length fs) (λ i. located (place_at fs i) (ring_by fs chain leads_to i))) (λ j t. marks t j) (λ j x y. reaches x y j)

  -- where the first five rules are kept, that on rings decides
  pub last_rule : unless (first_of 5 (λ k. first_by fs (rule_at k))) ≡ Ok tt → outcome fs ≡ unless (first_of (length fs) (λ i. located (place_at fs i) (ring_by fs mark reach i)))
  last_rule before = ap₂ (λ a b. unless (or_else a b)) (sym (kept _ before)) (sym first_ring)
