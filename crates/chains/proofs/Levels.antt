-- The chain transitions level by level, and what they lead to.
use Rattle.std.proofs.Common.{◌≡◌, ℕ, zero, suc, ◌+◌, ◌-◌, ◌<◌, ◌≤◌, min, Bool, false, ◌&&◌, ◌||◌, cond, eqb, List, length, take, get_or, sym, ap, ◌∙◌, arith, le-ltb, lt-ltb}
use Rattle.std.proofs.lemmas.List.{get_or-take}
use native.Mathlib.Decide.{dec_lt}
use Rattle.chart.specs.declared.kinds.Tag.TheVariants.{Transition}
use Rattle.chart.specs.Fields.{Field, is}
use Rattle.closure.specs.declared.Edge.{Edge}
use Rattle.closure.specs.declared.Reach.{Reach}
use Rattle.closure.specs.Edges.{no_edge, edge_steps}
use Rattle.closure.specs.Rows.{told}
use Rattle.validity.specs.Closure.{leads}
use Rattle.validity.specs.Parts.{no_edge as not_joined, edge_in, is_normal, at}
use Rattle.validity.specs.Ranges.{any_of, kept}
use Rattle.validity.specs.Tables.{states, transitions, transition_index, source_of, target_of, chain_step, chain_leads, may_end, is_chain_by, chain_within, is_chain}
use Rattle.validity.proofs.Closed.{row_out, kept_at, leads_same}
use Rattle.validity.proofs.Folds.{any_of_same}
use Rattle.tables.proofs.Beyond.{beyond}
use Rattle.chains.specs.Marks.{marked}
use Rattle.chains.specs.declared.Chains.{Chains}

-- Beyond the transitions there is no chain transition.

module _ (fs : List Field) where
  joins_none : (t : ℕ) → transitions fs ≤ t → not_joined ≡ edge_in (at fs (transition_index fs t))
  joins_none t l = ap edge_in (beyond (is Transition) fs t l)

  pub none_beyond : (n t : ℕ) → transitions fs ≤ t → chain_within fs n t ≡ false
  none_beyond zero t l = sym (ap (λ e. e.immediate) (joins_none t l))
  none_beyond (suc n) t l = row_out (transitions fs) (is_chain_by fs (chain_leads fs (chain_within fs n))) t false l

  pub none_by : (leads_to : ℕ → ℕ → Bool) (t : ℕ) → transitions fs ≤ t → is_chain_by fs leads_to t ≡ false
  none_by leads_to t l = sym (ap (λ e. e.immediate || cond (is_normal e.kind) (may_end fs leads_to e.source) false) (joins_none t l))

  -- What the last level leads to is the next one.
  pub next_level : (n t : ℕ) → chain_within fs (suc n) t ≡ is_chain_by fs (chain_leads fs (chain_within fs n)) t
  next_level n t =
      elim (dec_lt t (transitions fs)) [
        | yes l ↦ kept_at (transitions fs) (is_chain_by fs (chain_leads fs (chain_within fs n))) t l
        | no nl ↦ none_beyond (suc n) t (omega arith) ∙ sym (none_by (chain_leads fs (chain_within fs n)) t (omega arith))
      ]

-- A level like the one before it is the last.

module _ (fs : List Field) (n : ℕ) (same : chain_within fs (suc n) ≡ chain_within fs n) where
  stays : (k : ℕ) → chain_within fs (k + n) ≡ chain_within fs n
  stays zero = ap (chain_within fs) (let q : 0 + n ≡ n = omega arith in q)
  stays (suc k) = ap (chain_within fs) (let q : suc k + n ≡ suc (k + n) = omega arith in q) ∙ ap (λ c. kept (transitions fs) (is_chain_by fs (chain_leads fs c))) (stays k) ∙ same

  pub last_level : n ≤ 8 → chain_within fs n ≡ is_chain fs
  last_level l = sym (stays (8 - n)) ∙ ap (chain_within fs) (let q : (8 - n) + n ≡ 8 = omega arith in q)

-- What marked edges lead to.

module _ (fs : List Field) (edges : List Edge) (chain : ℕ → Bool) (n : ℕ) (all : n ≡ transitions fs) (long : n ≡ length (take n edges))
    (told_at : (t : ℕ) → t < n → get_or edges t no_edge ≡ record { source = source_of fs t; target = target_of fs t; marked = chain t }) where
  steps_are : (x y : ℕ) → edge_steps (take n edges) x y ≡ chain_step fs chain x y
  steps_are x y =
      let step = λ (e : Edge). eqb e.source x && eqb e.target y && e.marked in
      let p = λ (t : ℕ). step (get_or (take n edges) t no_edge) in
      let q = λ (t : ℕ). eqb (source_of fs t) x && eqb (target_of fs t) y && chain t in
      ap (λ m. any_of m p) (sym long)
      ∙ any_of_same n p q (λ t l. ap step (get_or-take n edges t no_edge l ∙ told_at t l))
      ∙ ap (λ m. any_of m q) all

  pub reach_is : (size : ℕ) (r : Reach) → size ≡ states fs → states fs ≤ 256 → ((x y : ℕ) → told r x y ≡ leads (min size 256) (edge_steps (take n edges)) x y) → (x y : ℕ) → told r x y ≡ chain_leads fs chain x y
  reach_is size r e small h x y =
      h x y ∙ ap (λ m. leads m (edge_steps (take n edges)) x y) (let q : min size 256 ≡ states fs = omega arith in q)
      ∙ leads_same (states fs) (edge_steps (take n edges)) (chain_step fs chain) (λ x y lx ly. steps_are x y) x y

-- The levels in turn.

pub record Turned (fs : List Field) (marks : List Bool) (reach : Reach) (n : ℕ) : Type 0 where
  pub marked : (t : ℕ) → get_or marks t false ≡ chain_within fs n t
  pub leads_to : (x y : ℕ) → told reach x y ≡ chain_leads fs (chain_within fs n) x y

pub turned_at : (fs : List Field) (marks : List Bool) (reach : Reach) (n : ℕ) → ((t : ℕ) → get_or marks t false ≡ chain_within fs n t)
    → ((x y : ℕ) → told reach x y ≡ chain_leads fs (λ t. get_or marks t false) x y) → Turned fs marks reach n
turned_at fs marks reach n m h = record { marked = m; leads_to = λ x y. h x y ∙ ap (λ c. chain_leads fs c x y) (λ i t. m t i) }

module _ (fs : List Field) (marks next : List Bool) (reach : Reach) (n : ℕ) (turned : Turned fs marks reach n)
    (by_reach : (t : ℕ) → get_or next t false ≡ is_chain_by fs (told reach) t) where
  pub next_marks : (t : ℕ) → get_or next t false ≡ chain_within fs (suc n) t
  next_marks t =
      let e : told reach ≡ chain_leads fs (chain_within fs n) = λ i x y. turned.leads_to x y i in
      by_reach t ∙ ap (λ l. is_chain_by fs l t) e ∙ sym (next_level fs n t)

  pub no_change : next ≡ marks → chain_within fs (suc n) ≡ chain_within fs n
  no_change same = λ i t. (sym (next_marks t) ∙ ap (λ m. get_or m t false) same ∙ turned.marked t) i

-- What is left where no level is to come.

module _ (fs : List Field) (chains : Chains) (n : ℕ) (last : chain_within fs n ≡ is_chain fs) (turned : Turned fs chains.marks chains.reach n) where
  pub chain_told : transitions fs ≤ 512 → (t : ℕ) → marked chains t ≡ is_chain fs t
  chain_told few t =
      elim (dec_lt t 512) [
        | yes q ↦ ap (λ a. a && get_or chains.marks t false) (lt-ltb t 512 q) ∙ turned.marked t ∙ ap (λ c. c t) last
        | no nq ↦ ap (λ a. a && get_or chains.marks t false) (le-ltb t 512 (omega arith)) ∙ sym (none_beyond fs 8 t (omega arith))
      ]

  pub leads_told : (x y : ℕ) → told chains.reach x y ≡ chain_leads fs (is_chain fs) x y
  leads_told x y = turned.leads_to x y ∙ ap (λ c. chain_leads fs c x y) last
