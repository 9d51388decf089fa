-- Chain transitions and macrostates that may end on entry are told by one another; nesting makes that one set.
use Rattle.std.proofs.Common.{◌≡◌, ℕ, zero, suc, ◌+◌, ◌<◌, ◌≤◌, Bool, true, false, cond, not, ◌&&◌, ◌||◌, eqb, List, sym, refl, ap, ◌∙◌, subst, inl, inr, arith, eqb-true}
use mathlib.Core.Bool.{or-false}
use Rattle.chart.specs.Fields.{Field}
use Rattle.validity.specs.Ranges.{all_of}
use Rattle.validity.specs.Parts.{is_final, is_macro, is_normal}
use Rattle.validity.specs.Tables.{states, state_kind_of, graph_of, graphs, owner_of, is_in, initial_of, depth_of, transitions, source_of, target_of, transition_kind_of, is_immediate, chain_step, chain_leads, reached, graph_may_end, is_chain_by, chain_within, is_chain}
use Rattle.validity.specs.Laws.{Structured, ChainRule}
use Rattle.validity.proofs.Bools.{decided, is_false, same_test}
use Rattle.validity.proofs.Folds.{any_of_same, all_of_same}
use Rattle.validity.proofs.Closed.{kept_at, edge_in_lem, edge_out, leads_join, leads_step, leads_carry}
use Rattle.validity.proofs.Structure.{source_in, target_in, macro_deep, initial_parts, nested, depth_bounds, joins}

module _ (fs : List Field) (F : Structured fs) where
  pub chain_step_lem : (ch : ℕ → Bool) (t : ℕ) → t < transitions fs → ch t ≡ true → chain_leads fs ch (source_of fs t) (target_of fs t) ≡ true
  chain_step_lem ch t l h = leads_step (states fs) (chain_step fs ch) (source_of fs t) (target_of fs t) (source_in fs F t l) (target_in fs F t l) (edge_in_lem (transitions fs) (source_of fs) (target_of fs) ch t l h)

  -- Inside the graph g chain transitions of the one set lead where those of the other do.
  abbrev SameInside : (ℕ → Bool) → ℕ → ℕ → ℕ → Type 0
  SameInside ch g x y = graph_of fs x ≡ g → (graph_of fs y ≡ g) × (chain_leads fs ch x y ≡ true)

  carried : (c d : ℕ → Bool) (g : ℕ) → ((u : ℕ) → u < transitions fs → graph_of fs (source_of fs u) ≡ g → c u ≡ true → d u ≡ true)
      → (x y : ℕ) → graph_of fs x ≡ g → chain_leads fs c x y ≡ true → chain_leads fs d x y ≡ true
  carried c d g h x y e l = (leads_carry (states fs) (chain_step fs c) (SameInside d g) one_step two_steps x y l e).1
    where
      one_step : (x y : ℕ) → x < states fs → y < states fs → chain_step fs c x y ≡ true → SameInside d g x y
      one_step x y lx ly s e =
          let r = edge_out (transitions fs) (source_of fs) (target_of fs) c x y s in
          let u = r.0 in
          let eu : graph_of fs (source_of fs u) ≡ g = ap (graph_of fs) r.2 ∙ e in
          let du = h u r.1 eu r.4 in
          let ey : graph_of fs y ≡ g = sym (ap (graph_of fs) r.3) ∙ sym (joins fs F u r.1).one_graph ∙ eu in
          (ey, subst (λ w. chain_leads fs d x w ≡ true) r.3 (subst (λ w. chain_leads fs d w (target_of fs u) ≡ true) r.2 (chain_step_lem d u r.1 du)))

      two_steps : (x y z : ℕ) → SameInside d g x y → SameInside d g y z → SameInside d g x z
      two_steps x y z a b e = let p = a e in let q = b p.0 in (q.0, leads_join (states fs) (chain_step fs d) x y z p.1 q.1)

  -- Whether t is a chain transition turns only on the transitions deeper than its source.
  local : (c d : ℕ → Bool) (t : ℕ) → t < transitions fs → ((u : ℕ) → u < transitions fs → depth_of fs (source_of fs t) < depth_of fs (source_of fs u) → c u ≡ d u)
      → is_chain_by fs (chain_leads fs c) t ≡ is_chain_by fs (chain_leads fs d) t
  local c d t l agree = ap (λ m. is_immediate fs t || cond (is_normal (transition_kind_of fs t)) m false) (ap (λ b. is_macro (state_kind_of fs (source_of fs t)) && b) (all_of_same (graphs fs) (λ g. not (eqb (owner_of fs g) (source_of fs t)) || graph_may_end fs (chain_leads fs c) g) (λ g. not (eqb (owner_of fs g) (source_of fs t)) || graph_may_end fs (chain_leads fs d) g) each))
    where
      -- in a graph of the source the two sets agree
      deeper : (g u : ℕ) → owner_of fs g ≡ source_of fs t → u < transitions fs → graph_of fs (source_of fs u) ≡ g → c u ≡ d u
      deeper g u o lu e =
          let n = nested fs F (source_of fs u) (joins fs F u lu).from (source_in fs F u lu) in
          let s : depth_of fs (owner_of fs (graph_of fs (source_of fs u))) ≡ depth_of fs (source_of fs t) = ap (λ g. depth_of fs (owner_of fs g)) e ∙ ap (depth_of fs) o in
          agree u lu (omega arith)

      final_same : (g f : ℕ) → g < graphs fs → owner_of fs g ≡ source_of fs t
          → (is_in fs g f && is_final (state_kind_of fs f) && reached fs (chain_leads fs c) (initial_of fs g) f) ≡ (is_in fs g f && is_final (state_kind_of fs f) && reached fs (chain_leads fs d) (initial_of fs g) f)
      final_same g f lg o =
          let p = initial_parts fs F g lg in
          ap (λ b. is_in fs g f && is_final (state_kind_of fs f) && (eqb (initial_of fs g) f || b))
          (same_test (chain_leads fs c (initial_of fs g) f) (chain_leads fs d (initial_of fs g) f)
          (carried c d g (λ u lu e h. sym (deeper g u o lu e) ∙ h) (initial_of fs g) f p.2)
          (carried d c g (λ u lu e h. deeper g u o lu e ∙ h) (initial_of fs g) f p.2))

      each : (g : ℕ) → g < graphs fs → (not (eqb (owner_of fs g) (source_of fs t)) || graph_may_end fs (chain_leads fs c) g) ≡ (not (eqb (owner_of fs g) (source_of fs t)) || graph_may_end fs (chain_leads fs d) g)
      each g lg =
          elim (decided (eqb (owner_of fs g) (source_of fs t))) [
            | inl o ↦
                ap (λ b. not (eqb (owner_of fs g) (source_of fs t)) || b)
                (any_of_same (states fs) (λ f. is_in fs g f && is_final (state_kind_of fs f) && reached fs (chain_leads fs c) (initial_of fs g) f) (λ f. is_in fs g f && is_final (state_kind_of fs f) && reached fs (chain_leads fs d) (initial_of fs g) f)
                (λ f lf. final_same g f lg (eqb-true (owner_of fs g) (source_of fs t) o)))
            | inr o ↦ ap (λ b. not b || graph_may_end fs (chain_leads fs c) g) o ∙ sym (ap (λ b. not b || graph_may_end fs (chain_leads fs d) g) o)
          ]

  -- From depth nine on there is no macrostate.
  flat : (l : ℕ → ℕ → Bool) (t : ℕ) → t < transitions fs → 9 ≤ depth_of fs (source_of fs t) → is_chain_by fs l t ≡ is_immediate fs t
  flat l t lt deep =
      let m : is_macro (state_kind_of fs (source_of fs t)) ≡ false = is_false (is_macro (state_kind_of fs (source_of fs t))) (λ m. let d = macro_deep fs F (source_of fs t) (source_in fs F t lt) m in omega arith) in
      ap (λ b. is_immediate fs t || cond (is_normal (transition_kind_of fs t)) (b && all_of (graphs fs) (λ g. not (eqb (owner_of fs g) (source_of fs t)) || graph_may_end fs l g)) false) m
      ∙ ap (λ b. is_immediate fs t || b) (same (is_normal (transition_kind_of fs t))) ∙ or-false (is_immediate fs t)
    where
      same : (b : Bool) → cond b false false ≡ false
      same true = refl
      same false = refl

  by_suc : (n t : ℕ) → t < transitions fs → chain_within fs (suc n) t ≡ is_chain_by fs (chain_leads fs (chain_within fs n)) t
  by_suc n t l = kept_at (transitions fs) (is_chain_by fs (chain_leads fs (chain_within fs n))) t l

  steady : (n t : ℕ) → t < transitions fs → 9 ≤ depth_of fs (source_of fs t) + n → chain_within fs (suc n) t ≡ chain_within fs n t
  steady zero t l d = by_suc 0 t l ∙ flat (chain_leads fs (chain_within fs 0)) t l (omega arith)
  steady (suc n) t l d =
      by_suc (suc n) t l
      ∙ local (chain_within fs (suc n)) (chain_within fs n) t l (λ u lu deeper. steady n u lu (omega arith))
      ∙ sym (by_suc n t l)

  pub chains : ChainRule fs (is_chain fs)
  chains t l = sym (steady 8 t l (omega (arith, (depth_bounds fs F (source_of fs t) (source_in fs F t l)).0))) ∙ by_suc 8 t l

  pub chains_only : (ch : ℕ → Bool) → ChainRule fs ch → (t : ℕ) → t < transitions fs → ch t ≡ is_chain fs t
  chains_only ch C t l = go 9 t l (omega arith)
    where
      go : (n t : ℕ) → t < transitions fs → 9 ≤ depth_of fs (source_of fs t) + n → ch t ≡ is_chain fs t
      go zero t l d = C t l ∙ flat (chain_leads fs ch) t l (omega arith) ∙ sym (flat (chain_leads fs (is_chain fs)) t l (omega arith)) ∙ sym (chains t l)
      go (suc n) t l d = C t l ∙ local ch (is_chain fs) t l (λ u lu deeper. go n u lu (omega arith)) ∙ sym (chains t l)
