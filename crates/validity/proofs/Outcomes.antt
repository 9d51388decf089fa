-- The outcome: the first rule that some field breaks, at the first field that breaks it.
use Rattle.std.proofs.Common.{◌≡◌, ℕ, zero, suc, ◌+◌, ◌-◌, ◌<◌, List, length, Some, None, Ok, Err, Option, sym, refl, ap, ◌∙◌, subst, arith}
use Rattle.chart.specs.Fields.{Field, place_at}
use Rattle.validity.specs.declared.faults.Fault.{Fault}
use Rattle.validity.specs.declared.faults.Invalid.{Invalid}
use Rattle.validity.specs.Numbering.{Rule, references, nesting, ends, leaving, triggers, rings, number_by, rule_of}
use Rattle.validity.specs.Ranges.{first_of}
use Rattle.validity.specs.Faults.{fault_by}
use Rattle.validity.specs.Outcome.{Keeps, Faultless, Refused, located, first_by, rule_at, unless, outcome}
use Rattle.validity.specs.Laws.{ValidityLaws}
use Rattle.validity.proofs.Evaluation.{triggers_evaluate}
use Rattle.validity.proofs.Folds.{FirstAt, none_first, first_none, some_first, first_some}
use Rattle.validity.proofs.Closed.{leads_computed}
use Rattle.validity.proofs.Rules.{rule_at_lem, by_rule}
use Rattle.validity.proofs.Chains.{chains, chains_only}
use Rattle.validity.proofs.Soundness.{sound, some_field}
use Rattle.validity.proofs.Ranks.{rank_rises}

number_at : (k : ℕ) → k < 6 → number_by (rule_at k) ≡ 21 + k
number_at zero l = refl
number_at (suc zero) l = refl
number_at (suc (suc zero)) l = refl
number_at (suc (suc (suc zero))) l = refl
number_at (suc (suc (suc (suc zero)))) l = refl
number_at (suc (suc (suc (suc (suc zero))))) l = refl
number_at (suc (suc (suc (suc (suc (suc k)))))) l = absurd (omega arith)

-- the place of a rule among the six
pub record Placed (r : Rule) : Type 0 where
  pub k : ℕ
  pub below : k < 6
  pub is : rule_at k ≡ r
  pub number : number_by r ≡ 21 + k

placed : (r : Rule) → Placed r
placed r = record { k = number_by r - 21; below = within r; is = rule_at_lem r; number = ap number_by (sym (rule_at_lem r)) ∙ number_at (number_by r - 21) (within r) }
  where
    within : (r : Rule) → number_by r - 21 < 6
    within references = omega arith
    within nesting = omega arith
    within ends = omega arith
    within leaving = omega arith
    within triggers = omega arith
    within rings = omega arith

located_none : (p : ℕ) (o : Option Fault) → located p o ≡ None → o ≡ None
located_none p None e = refl
located_none p (Some f) e = absurd (let z : ◌≡◌ {A = ℕ} 0 1 = cc in omega arith)

located_some : (p : ℕ) (o : Option Fault) (x : Invalid) → located p o ≡ Some x → (o ≡ Some x.fault) × (x.place ≡ p)
located_some p None x e = absurd (let z : ◌≡◌ {A = ℕ} 0 1 = cc in omega arith)
located_some p (Some f) x e =
    let same : ◌≡◌ {A = Invalid} (record { place = p; fault = f }) x = cc in
    (ap (λ x. Some x.fault) same, sym (ap (λ x. x.place) same))

module _ (fs : List Field) where
  abbrev found_at : Rule → ℕ → Option Invalid
  found_at r i = located (place_at fs i) (fault_by fs r i)

  keeps : (r : Rule) → first_by fs r ≡ None → Keeps fs r
  keeps r e i l = located_none (place_at fs i) (fault_by fs r i) (first_none (length fs) (found_at r) e i l)

  kept : (r : Rule) → Keeps fs r → first_by fs r ≡ None
  kept r h = none_first (length fs) (found_at r) (λ i l. ap (located (place_at fs i)) (h i l))

  abbrev in_order : ℕ → Option Invalid
  in_order k = first_by fs (rule_at k)

  accepted : outcome fs ≡ Ok tt → Faultless fs
  accepted e r = go (first_of 6 in_order) refl e
    where
      go : (o : Option Invalid) → first_of 6 in_order ≡ o → unless o ≡ Ok tt → Keeps fs r
      go (Some x) q e = absurd (let z : ◌≡◌ {A = ℕ} 0 1 = cc in omega arith)
      go None q e = let p = placed r in subst (Keeps fs) p.is (keeps (rule_at p.k) (first_none 6 in_order q p.k p.below))

  accepts : Faultless fs → outcome fs ≡ Ok tt
  accepts F = ap unless (none_first 6 in_order (λ k l. kept (rule_at k) (F (rule_at k))))

  refused : (x : Invalid) → outcome fs ≡ Err x → Refused fs x
  refused x e = go (first_of 6 in_order) refl e
    where
      at_first : FirstAt 6 in_order x → Refused fs x
      at_first a =
          let r = rule_at a.k in
          let b = first_some (length fs) (found_at r) x a.here in
          let f = located_some (place_at fs b.k) (fault_by fs r b.k) x b.here in
          let same : rule_of x.fault ≡ r = by_rule fs r b.k x.fault f.0 in
          record {
            i = b.k;
            below = b.below;
            place = f.1;
            faulty = subst (λ r. fault_by fs r b.k ≡ Some x.fault) (sym same) f.0;
            first_field = λ j l. subst (λ r. fault_by fs r j ≡ None) (sym same) (located_none (place_at fs j) (fault_by fs r j) (b.before j l));
            first_rule = λ q l.
                let p = placed q in
                let n : number_by (rule_of x.fault) ≡ 21 + a.k = ap number_by same ∙ number_at a.k a.below in
                subst (Keeps fs) p.is (keeps (rule_at p.k) (a.before p.k (omega (arith, l, n, p.number))));
          }

      go : (o : Option Invalid) → first_of 6 in_order ≡ o → unless o ≡ Err x → Refused fs x
      go None q e = absurd (let z : ◌≡◌ {A = ℕ} 0 1 = cc in omega arith)
      go (Some y) q e = let same : y ≡ x = cc in at_first (first_some 6 in_order x (q ∙ ap Some same))

  refuses : (x : Invalid) → Refused fs x → outcome fs ≡ Err x
  refuses x R =
      let r = rule_of x.fault in
      let p = placed r in
      let here : first_by fs r ≡ Some x = some_first (length fs) (found_at r) x (record {
        k = R.i;
        below = R.below;
        here = ap (located (place_at fs R.i)) R.faulty ∙ ap (λ q. Some (record { place = q; fault = x.fault })) (sym R.place);
        before = λ j l. ap (located (place_at fs j)) (R.first_field j l);
      }) in
      ap unless (some_first 6 in_order x (record {
        k = p.k;
        below = p.below;
        here = ap (first_by fs) p.is ∙ here;
        before = λ j l. kept (rule_at j) (R.first_rule (rule_at j) (omega (arith, p.number, p.below, number_at j (omega (arith, p.below)))));
      }))

pub validity_laws_lem : ValidityLaws
validity_laws_lem = record {
  accepts = λ fs. (accepted fs, accepts fs);
  refuses = λ fs x. (refused fs x, refuses fs x);
  by_rule = by_rule;
  triggers = triggers_evaluate;
  closure = leads_computed;
  chains = chains;
  chains_only = chains_only;
  sound = λ b fs p F. sound fs (some_field b fs p) F;
  rank_rises = rank_rises;
}
