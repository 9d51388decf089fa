-- A fault that is found by a rule is one of that rule.
use Rattle.std.proofs.Common.{◌≡◌, ℕ, suc, pred, ◌-◌, Bool, true, false, cond, ◌&&◌, eqb, ltb, List, [], ◌∷◌, Some, None, Ok, Err, Option, Result, sym, refl, ap, ◌∙◌, subst, eqb-true}
use Rattle.chart.specs.Fields.{Field, signal, state, graph, transition, suspension, trigger, effects}
use Rattle.chart.specs.WellFormed.{every}
use Rattle.validity.specs.declared.faults.Fault.{Fault}
use Rattle.validity.specs.declared.faults.Fault.TheVariants.{UnknownOperator, MissingOperand, TooManyStacked, NoState}
use Rattle.validity.specs.Numbering.{Rule, references, nesting, ends, leaving, triggers, rings, number_by, rule_of}
use Rattle.validity.specs.Parts.{at}
use Rattle.validity.specs.Tables.{signals, states, is_chain, chain_leads}
use Rattle.validity.specs.Triggers.{pushed, operated, stacked, onwards, postfix_fault}
use Rattle.validity.specs.Faults.{Case, when, first_case, reference_in, nesting_in, ends_in, leaving_in, trigger_in, ring_in, fault_by}
use Rattle.validity.specs.Outcome.{rule_at}
use Rattle.validity.proofs.Bools.{both}

pub rule_at_lem : (r : Rule) → rule_at (number_by r - 21) ≡ r
rule_at_lem references = refl
rule_at_lem nesting = refl
rule_at_lem ends = refl
rule_at_lem leaving = refl
rule_at_lem triggers = refl
rule_at_lem rings = refl

abbrev Of : Rule → Option Fault → Type 0
Of r None = Unit {0}
Of r (Some f) = rule_of f ≡ r

-- Each fault of the cases is one of the rule.
abbrev all_by : Rule → List Case → Bool
all_by r = every (λ c. eqb (number_by (rule_of c.fault)) (number_by r))

first_of : (r : Rule) (cs : List Case) → all_by r cs ≡ true → Of r (first_case cs)
first_of r [] h = tt
first_of r (c ∷ cs) h =
    let a = both (eqb (number_by (rule_of c.fault)) (number_by r)) (all_by r cs) h in
    let same = sym (rule_at_lem (rule_of c.fault)) ∙ ap (λ n. rule_at (n - 21)) (eqb-true (number_by (rule_of c.fault)) (number_by r) a.0) ∙ rule_at_lem r in
    go c.test same (first_of r cs a.1)
  where
    go : (b : Bool) → rule_of c.fault ≡ r → Of r (first_case cs) → Of r (cond b (Some c.fault) (first_case cs))
    go true same rest = same
    go false same rest = rest

-- Triggers.

data Stacked : Result ℕ Fault → Type 0 where
  well : (h : ℕ) → Stacked (Ok h)
  badly : (f : Fault) → rule_of f ≡ triggers → Stacked (Err f)

one_of : (b : Bool) {x y : Result ℕ Fault} → Stacked x → Stacked y → Stacked (cond b x y)
one_of true p q = p
one_of false p q = q

stacked_of : (signals b h : ℕ) → Stacked (stacked signals b h)
stacked_of signals b h =
    one_of (ltb b 128) (one_of (ltb b signals) push (badly UnknownOperator refl))
    (one_of (eqb b 128) (operate 2 (pred h)) (one_of (eqb b 129) (operate 2 (pred h)) (one_of (eqb b 130) (operate 1 h) (one_of (eqb b 131) push (badly UnknownOperator refl)))))
  where
    push : Stacked (pushed h)
    push = one_of (ltb h 8) (well (suc h)) (badly TooManyStacked refl)

    operate : (needs left : ℕ) → Stacked (operated needs h left)
    operate needs left = one_of (ltb h needs) (badly MissingOperand refl) (well left)

postfix_of : (signals : ℕ) (bs : List ℕ) (h : ℕ) → Of triggers (postfix_fault signals bs h)
postfix_of signals [] h = go (eqb h 1)
  where
    go : (b : Bool) → Of triggers (cond b None (postfix_fault signals [] 0))
    go true = tt
    go false = refl
postfix_of signals (b ∷ bs) h = go (stacked signals b h) (stacked_of signals b h) (postfix_of signals bs)
  where
    go : (r : Result ℕ Fault) → Stacked r → ((h : ℕ) → Of triggers (postfix_fault signals bs h)) → Of triggers (onwards r (postfix_fault signals bs))
    go _ (well h) ih = ih h
    go _ (badly f e) ih = e

module _ (fs : List Field) (i : ℕ) where
  references_of : (f : Field) → all_by references (reference_in fs i f) ≡ true
  references_of (signal k name) = refl
  references_of (state g k name) = refl
  references_of (graph o) = refl
  references_of (transition s t k im) = refl
  references_of (suspension s) = refl
  references_of (trigger p) = refl
  references_of (effects e) = refl

  nesting_of : (f : Field) → all_by nesting (nesting_in fs i f) ≡ true
  nesting_of (signal k name) = refl
  nesting_of (state g k name) = refl
  nesting_of (graph o) = refl
  nesting_of (transition s t k im) = refl
  nesting_of (suspension s) = refl
  nesting_of (trigger p) = refl
  nesting_of (effects e) = refl

  ends_of : (f : Field) → all_by ends (ends_in fs i f) ≡ true
  ends_of (signal k name) = refl
  ends_of (state g k name) = refl
  ends_of (graph o) = refl
  ends_of (transition s t k im) = refl
  ends_of (suspension s) = refl
  ends_of (trigger p) = refl
  ends_of (effects e) = refl

  leaving_of : (f : Field) → all_by leaving (leaving_in fs i f) ≡ true
  leaving_of (signal k name) = refl
  leaving_of (state g k name) = refl
  leaving_of (graph o) = refl
  leaving_of (transition s t k im) = refl
  leaving_of (suspension s) = refl
  leaving_of (trigger p) = refl
  leaving_of (effects e) = refl

  triggers_of : (f : Field) → Of triggers (trigger_in fs f)
  triggers_of (signal k name) = tt
  triggers_of (state g k name) = tt
  triggers_of (graph o) = tt
  triggers_of (transition s t k im) = tt
  triggers_of (suspension s) = tt
  triggers_of (trigger p) = postfix_of (signals fs) p 0
  triggers_of (effects e) = tt

  rings_of : (f : Field) → all_by rings (ring_in fs (is_chain fs) (chain_leads fs (is_chain fs)) i f) ≡ true
  rings_of (signal k name) = refl
  rings_of (state g k name) = refl
  rings_of (graph o) = refl
  rings_of (transition s t k im) = refl
  rings_of (suspension s) = refl
  rings_of (trigger p) = refl
  rings_of (effects e) = refl

  of_rule : (r : Rule) → Of r (fault_by fs r i)
  of_rule references = first_of references (reference_in fs i (at fs i)) (references_of (at fs i))
  of_rule nesting = first_of nesting (when (eqb i 0 && eqb (states fs) 0) NoState ∷ nesting_in fs i (at fs i)) (nesting_of (at fs i))
  of_rule ends = first_of ends (ends_in fs i (at fs i)) (ends_of (at fs i))
  of_rule leaving = first_of leaving (leaving_in fs i (at fs i)) (leaving_of (at fs i))
  of_rule triggers = triggers_of (at fs i)
  of_rule rings = first_of rings (ring_in fs (is_chain fs) (chain_leads fs (is_chain fs)) i (at fs i)) (rings_of (at fs i))

pub by_rule : (fs : List Field) (r : Rule) (i : ℕ) (f : Fault) → fault_by fs r i ≡ Some f → rule_of f ≡ r
by_rule fs r i f e = subst (Of r) e (of_rule fs i r)
