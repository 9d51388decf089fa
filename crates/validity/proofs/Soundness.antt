-- The chart of a row of fields without fault is sound.
use Rattle.std.proofs.Common.{◌≡◌, ℕ, suc, ◌<◌, Bool, true, false, cond, not, ◌&&◌, ◌||◌, eqb, ◌⊎◌, List, [], ◌∷◌, length, Some, None, sym, refl, ap, ◌∙◌, subst, inl, inr, arith, eq-eqb, eqb-true}
use native.Mathlib.Decide.{dec_lt, ℕ_discrete}
use Rattle.chart.specs.declared.kinds.Tag.TheVariants.{Transition, Trigger, Effects}
use Rattle.chart.specs.declared.kinds.TransitionKind.TheVariants.{Normal}
use Rattle.chart.specs.Fields.{Field, is}
use Rattle.chart.specs.Files.{Passes}
use Rattle.chart.specs.WellFormed.{every}
use Rattle.validity.specs.Numbering.{references, nesting, ends, leaving, triggers, rings}
use Rattle.validity.specs.Ranges.{any_of, all_of, least_of}
use Rattle.validity.specs.Parts.{is_final, is_macro, is_normal, bytes_in, at}
use Rattle.validity.specs.Tables.{trigger_at, effects_at, signals, states, state_index, state_kind_of, graph_of, graphs, owner_of, is_in, initial_of, transitions, transition_index, source_of, target_of, transition_kind_of, is_immediate, emitted_by, suspensions, suspension_index, suspended_by, suspension_of, chain_step, chain_leads, reached, graph_may_end, may_end, is_chain}
use Rattle.validity.specs.Triggers.{postfix_fault}
use Rattle.validity.specs.Faults.{is_signal_number, is_no_input, reference_in, trigger_in, transition_ring, ring_in}
use Rattle.validity.specs.Outcome.{Faultless}
use Rattle.validity.specs.Chart.{chart_of, may_emit, entered}
use Rattle.validity.specs.Sound.{Sound}
use Rattle.validity.specs.Laws.{Structured}
use Rattle.validity.proofs.Bools.{clash, join, both, neither, left_or, right_or, then_not, decided, not_yes, is_false}
use Rattle.validity.proofs.Folds.{any_of_none, all_of_not}
use Rattle.validity.proofs.Closed.{leads_first, edge_out}
use Rattle.validity.proofs.Numbers.{found, inside, as_trigger, as_effects}
use Rattle.validity.proofs.Structure.{macro_is, test_at, fails, transition_free, member, in_graph, owned, around_before, source_in, target_in, some_state, root_macro, owns, owner_macro, initial_parts, root_depth, nested, depth_bounds, joins, normal_macro}
use Rattle.validity.proofs.Chains.{chains}

every_both : (p q : ℕ → Bool) (xs : List ℕ) → every p xs ≡ true → every q xs ≡ true → every (λ x. p x && q x) xs ≡ true
every_both p q [] a b = refl
every_both p q (x ∷ xs) a b =
    let h = both (p x) (every p xs) a in
    let k = both (q x) (every q xs) b in
    join (p x && q x) (every (λ x. p x && q x) xs) (join (p x) (q x) h.0 k.0) (every_both p q xs h.1 k.1)

module _ (fs : List Field) (some : 0 < length fs) (A : Faultless fs) where
  abbrev F : Structured fs
  F = record { some_field = some; keeps_references = A references; keeps_nesting = A nesting; keeps_ends = A ends; keeps_leaving = A leaving }

  -- Triggers and effects.

  trigger_good : (i : ℕ) (p : List ℕ) → trigger_at fs i ≡ Some p → postfix_fault (signals fs) p 0 ≡ None
  trigger_good i p e =
      elim (decided (is Trigger (at fs i))) [
        | inl h ↦
            let stands : ◌≡◌ (Some (bytes_in (at fs i))) (Some p) = sym (ap (λ b. cond b (Some (bytes_in (at fs i))) None) h) ∙ e in
            let same : bytes_in (at fs i) ≡ p = cc in
            let good : trigger_in fs (at fs i) ≡ None = A triggers i (inside fs (is Trigger) i refl h) in
            subst (λ p. postfix_fault (signals fs) p 0 ≡ None) same (sym (ap (trigger_in fs) (as_trigger (at fs i) h)) ∙ good)
        | inr h ↦ absurd (let f = sym (ap (λ b. cond b (Some (bytes_in (at fs i))) None) h) ∙ e in let z : ◌≡◌ {A = ℕ} 0 1 = cc in omega arith)
      ]

  suspension_good : (s : ℕ) (p : List ℕ) → suspension_of fs s ≡ Some p → postfix_fault (signals fs) p 0 ≡ None
  suspension_good s p e =
      let i = suc (suspension_index fs (least_of (suspensions fs) (λ u. eqb (suspended_by fs u) s))) in
      elim (decided (any_of (suspensions fs) (λ u. eqb (suspended_by fs u) s))) [
        | inl h ↦ trigger_good i p (sym (ap (λ b. cond b (trigger_at fs i) None) h) ∙ e)
        | inr h ↦ absurd (let f = sym (ap (λ b. cond b (trigger_at fs i) None) h) ∙ e in let z : ◌≡◌ {A = ℕ} 0 1 = cc in omega arith)
      ]

  effects_good : (i : ℕ) → every (may_emit (chart_of fs)) (effects_at fs i) ≡ true
  effects_good i =
      elim (decided (is Effects (at fs i))) [
        | inl h ↦
            let e = bytes_in (at fs i) in
            let free = λ (k : ℕ). subst (λ f. test_at (reference_in fs i f) k ≡ false) (as_effects (at fs i) h) (fails (reference_in fs i (at fs i)) k (A references i (inside fs (is Effects) i refl h))) in
            ap (λ b. every (may_emit (chart_of fs)) (cond b e [])) h
            ∙ every_both (is_signal_number fs) (is_no_input fs) e (not_yes (every (is_signal_number fs) e) (free 0)) (not_yes (every (is_no_input fs) e) (free 1))
        | inr h ↦ ap (λ b. every (may_emit (chart_of fs)) (cond b (bytes_in (at fs i)) [])) h
      ]

  emitted_good : (t : ℕ) → every (may_emit (chart_of fs)) (emitted_by fs t) ≡ true
  emitted_good t = go (is Trigger (at fs (suc (transition_index fs t))))
    where
      go : (b : Bool) → every (may_emit (chart_of fs)) (cond b (effects_at fs (suc (suc (transition_index fs t)))) (effects_at fs (suc (transition_index fs t)))) ≡ true
      go true = effects_good (suc (suc (transition_index fs t)))
      go false = effects_good (suc (transition_index fs t))

  -- Rings.

  abbrev lead : ℕ → ℕ → Bool
  lead = chain_leads fs (is_chain fs)

  not_on_ring : (t : ℕ) → t < transitions fs → (is_chain fs t && reached fs lead (target_of fs t) (source_of fs t)) ≡ false
  not_on_ring t l =
      subst (λ n. test_at (transition_ring fs (is_chain fs) lead n (source_of fs t) (target_of fs t)) 0 ≡ false) (found (is Transition) fs t l).number
      (transition_free fs (ring_in fs (is_chain fs) lead) (A rings) 0 t l)

  -- A way from s back to s begins with a transition on a ring.
  no_ring : (s : ℕ) → lead s s ≡ false
  no_ring s = is_false (lead s s) (λ h.
      let r = leads_first (states fs) (chain_step fs (is_chain fs)) s s h in
      let u = edge_out (transitions fs) (source_of fs) (target_of fs) (is_chain fs) s r.0 r.1 in
      let back : reached fs lead (target_of fs u.0) (source_of fs u.0) ≡ true =
      subst (λ x. reached fs lead x (source_of fs u.0) ≡ true) (sym u.3) (subst (λ y. reached fs lead r.0 y ≡ true) (sym u.2) (round r.0 r.3)) in
      clash (join (is_chain fs u.0) (reached fs lead (target_of fs u.0) (source_of fs u.0)) u.4 back) (not_on_ring u.0 u.1))
    where
      round : (z : ℕ) → (z ≡ s) ⊎ (lead z s ≡ true) → reached fs lead z s ≡ true
      round z (inl e) = left_or (eqb z s) (lead z s) (eq-eqb z s e)
      round z (inr h) = right_or (eqb z s) (lead z s) h

  one_normal : (t u : ℕ) → t < transitions fs → u < transitions fs → source_of fs t ≡ source_of fs u → transition_kind_of fs t ≡ Normal → transition_kind_of fs u ≡ Normal → t ≡ u
  one_normal t u l m e n o =
      elim (dec_lt t u) [
        | yes lt ↦ absurd (clash (ap is_normal n) ((joins fs F u m).one_normal (ap is_normal o) t lt e))
        | no nlt ↦
            elim (dec_lt u t) [
              | yes lt ↦ absurd (clash (ap is_normal o) ((joins fs F t l).one_normal (ap is_normal n) u lt (sym e)))
              | no nlu ↦ omega arith
            ]
      ]

  blocked : (t : ℕ) → t < transitions fs → transition_kind_of fs t ≡ Normal → is_chain fs t ≡ false
      → (g : ℕ) × (g < graphs fs) × (owner_of fs g ≡ source_of fs t) × ((x : ℕ) → x < states fs → graph_of fs x ≡ g → is_final (state_kind_of fs x) ≡ true → entered (chart_of fs) x ≡ false)
  blocked t l n h =
      let a = neither (is_immediate fs t) (cond (is_normal (transition_kind_of fs t)) (may_end fs lead (source_of fs t)) false) (sym (chains fs F t l) ∙ h) in
      let m : may_end fs lead (source_of fs t) ≡ false = sym (ap (λ k. cond (is_normal k) (may_end fs lead (source_of fs t)) false) n) ∙ a.1 in
      let r = all_of_not (graphs fs) (λ g. not (eqb (owner_of fs g) (source_of fs t)) || graph_may_end fs lead g)
      (then_not (is_macro (state_kind_of fs (source_of fs t))) (all_of (graphs fs) (λ g. not (eqb (owner_of fs g) (source_of fs t)) || graph_may_end fs lead g)) m (normal_macro fs F t l (ap is_normal n))) in
      let g = r.0 in
      let b = neither (not (eqb (owner_of fs g) (source_of fs t))) (graph_may_end fs lead g) r.2 in
      (g, r.1, eqb-true (owner_of fs g) (source_of fs t) (not_yes (eqb (owner_of fs g) (source_of fs t)) b.0), unreached g b.1)
    where
      unreached : (g : ℕ) → graph_may_end fs lead g ≡ false → (x : ℕ) → x < states fs → graph_of fs x ≡ g → is_final (state_kind_of fs x) ≡ true → entered (chart_of fs) x ≡ false
      unreached g h x lx e f =
          let pos : 0 < x = elim (ℕ_discrete x 0) [
            | yes z ↦ absurd (clash f (ap (λ s. is_final (state_kind_of fs s)) z ∙ ap is_final (macro_is (state_kind_of fs 0) (root_macro fs F))))
            | no nz ↦ omega arith
          ] in
          let q = then_not (is_in fs g x && is_final (state_kind_of fs x)) (reached fs lead (initial_of fs g) x)
          (any_of_none (states fs) (λ f. is_in fs g f && is_final (state_kind_of fs f) && reached fs lead (initial_of fs g) f) h x lx)
          (join (is_in fs g x) (is_final (state_kind_of fs x)) (member fs g x pos e) f) in
          ap (λ g. reached fs lead (initial_of fs g) x) e ∙ q

  pub sound : Sound (chart_of fs)
  sound = record {
    some_state = some_state fs F;
    root_macro = macro_is (state_kind_of fs 0) (root_macro fs F);
    root_depth = root_depth fs F;
    in_graph = λ s i. in_graph fs F s i.0 i.1;
    around_before = λ s i. around_before fs F s i.0 i.1;
    around_depth = λ s i. nested fs F s i.0 i.1;
    shallow = λ s l. (depth_bounds fs F s l).1;
    owned = owned fs F;
    owner_macro = λ g l. macro_is (state_kind_of fs (owner_of fs g)) (owner_macro fs F g l);
    initial_in = λ g l. ((initial_parts fs F g l).1, (initial_parts fs F g l).0);
    graph_of_initial = λ g l. (initial_parts fs F g l).2;
    owns = λ s l m. owns fs F s l (ap is_macro m);
    from = λ t l. ((joins fs F t l).from, source_in fs F t l);
    to = λ t l. ((joins fs F t l).to, target_in fs F t l);
    one_graph = λ t l. (joins fs F t l).one_graph;
    not_from_final = λ t l. (joins fs F t l).not_from_final;
    one_normal = one_normal;
    normal_from_macro = λ t l n. macro_is (state_kind_of fs (source_of fs t)) (normal_macro fs F t l (ap is_normal n));
    triggers = λ t p l. trigger_good (suc (transition_index fs t)) p;
    suspensions = λ s p l. suspension_good s p;
    emits = λ t l. emitted_good t;
    sustains = λ s l. effects_good (suc (state_index fs s));
    immediate_chain = λ t l h. chains fs F t l ∙ left_or (is_immediate fs t) (cond (is_normal (transition_kind_of fs t)) (may_end fs lead (source_of fs t)) false) h;
    blocked = blocked;
    no_ring = no_ring;
  }

-- A file that passes has a field.
pub some_field : (b : List ℕ) (fs : List Field) → Passes b fs → 0 < length fs
some_field b [] p = let z : length b ≡ 0 = ap length p.bytes in absurd (omega (arith, p.size.some))
some_field b (f ∷ fs) p = omega arith
