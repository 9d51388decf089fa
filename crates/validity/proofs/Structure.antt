-- What the rules of references, nesting, ends and leaving say, by number.
use Rattle.std.proofs.Common.{◌≡◌, ℕ, zero, suc, ◌<◌, ◌≤◌, Bool, true, false, cond, not, ◌&&◌, ◌||◌, eqb, ltb, leb, List, [], ◌∷◌, length, Some, None, sym, refl, ap, ◌∙◌, subst, arith, ltb-true, eq-eqb, ne_eqb, eqb-true, leb-false}
use native.Mathlib.Decide.{ℕ_discrete, dec_lt}
use Rattle.chart.specs.declared.kinds.Tag.TheVariants.{State, Graph, Transition}
use Rattle.chart.specs.declared.kinds.StateKind.{StateKind}
use Rattle.chart.specs.declared.kinds.StateKind.TheVariants.{Simple, Final, Macro}
use Rattle.chart.specs.Fields.{Field, state, graph, transition, is}
use Rattle.validity.specs.declared.faults.Fault.TheVariants.{NoState}
use Rattle.validity.specs.Ranges.{any_of, all_of}
use Rattle.validity.specs.Parts.{is_final, is_macro, is_normal, bytes_in, at, number_at}
use Rattle.validity.specs.Tables.{states, state_index, state_kind_of, graph_of, graphs, graph_index, owner_of, is_in, initial_of, depth_within, depth_of, transitions, transition_index, source_of, target_of, transition_kind_of, is_immediate}
use Rattle.validity.specs.Faults.{Case, when, first_case, reference_in, owns_none, state_nesting, graph_nesting, nesting_in, in_one_graph, stands_behind, transition_ends, ends_in, can_end, leaving_in}
use Rattle.validity.specs.Laws.{Structured}
use Rattle.validity.proofs.Bools.{clash, both, join, then_not, not_yes, not_no, is_false}
use Rattle.validity.proofs.Folds.{any_of_in, any_of_out, least_found}
use Rattle.validity.proofs.Numbers.{found, found_before, count_take, count_more, as_state, as_graph, as_transition}

pub macro_is : (k : StateKind) → is_macro k ≡ true → k ≡ Macro
macro_is Simple h = absurd (clash h refl)
macro_is Final h = absurd (clash h refl)
macro_is Macro h = refl

abbrev pub test_at : List Case → ℕ → Bool
test_at [] k = false
test_at (c ∷ cs) zero = c.test
test_at (c ∷ cs) (suc k) = test_at cs k

-- no fault: every test fails
pub fails : (cs : List Case) (k : ℕ) → first_case cs ≡ None → test_at cs k ≡ false
fails [] k h = refl
fails (c ∷ cs) k h = go k c.test refl (λ e k. fails cs k (sym (ap (λ b. cond b (Some c.fault) (first_case cs)) e) ∙ h))
  where
    go : (k : ℕ) (b : Bool) → c.test ≡ b → (c.test ≡ false → (k : ℕ) → test_at cs k ≡ false) → test_at (c ∷ cs) k ≡ false
    go k true e rest = absurd (let f = sym (ap (λ b. cond b (Some c.fault) (first_case cs)) e) ∙ h in let z : ◌≡◌ {A = ℕ} 0 1 = cc in omega arith)
    go zero false e rest = e
    go (suc k) false e rest = rest e k

positive : (n : ℕ) → eqb n 0 ≡ false → 0 < n
positive zero h = absurd (clash refl h)
positive (suc n) h = omega arith

module _ (fs : List Field) where
  -- A rule that gives no fault at any field: each test fails of the parts of each state, graph and transition.

  abbrev Free : (ℕ → Field → List Case) → Type 0
  Free rule = (i : ℕ) → i < length fs → first_case (rule i (at fs i)) ≡ None

  pub state_free : (rule : ℕ → Field → List Case) → Free rule → (k s : ℕ) → s < states fs
      → test_at (rule (state_index fs s) (state (graph_of fs s) (state_kind_of fs s) (bytes_in (at fs (state_index fs s))))) k ≡ false
  state_free rule h k s l =
      let i = state_index fs s in
      let r = found (is State) fs s l in
      subst (λ f. test_at (rule i f) k ≡ false) (as_state (at fs i) r.passes) (fails (rule i (at fs i)) k (h i r.below))

  pub graph_free : (rule : ℕ → Field → List Case) → Free rule → (k g : ℕ) → g < graphs fs → test_at (rule (graph_index fs g) (graph (owner_of fs g))) k ≡ false
  graph_free rule h k g l =
      let i = graph_index fs g in
      let r = found (is Graph) fs g l in
      subst (λ f. test_at (rule i f) k ≡ false) (as_graph (at fs i) r.passes) (fails (rule i (at fs i)) k (h i r.below))

  pub transition_free : (rule : ℕ → Field → List Case) → Free rule → (k t : ℕ) → t < transitions fs
      → test_at (rule (transition_index fs t) (transition (source_of fs t) (target_of fs t) (transition_kind_of fs t) (is_immediate fs t))) k ≡ false
  transition_free rule h k t l =
      let i = transition_index fs t in
      let r = found (is Transition) fs t l in
      subst (λ f. test_at (rule i f) k ≡ false) (as_transition (at fs i) r.passes) (fails (rule i (at fs i)) k (h i r.below))

  pub member_parts : (g s : ℕ) → is_in fs g s ≡ true → (0 < s) × (graph_of fs s ≡ g)
  member_parts g s h = let a = both (not (eqb s 0)) (eqb (graph_of fs s) g) h in (positive s (not_no (eqb s 0) a.0), eqb-true (graph_of fs s) g a.1)

  pub member : (g s : ℕ) → 0 < s → graph_of fs s ≡ g → is_in fs g s ≡ true
  member g s p e = join (not (eqb s 0)) (eqb (graph_of fs s) g) (ap not (ne_eqb s 0 (λ z. omega arith))) (eq-eqb (graph_of fs s) g e)

module _ (fs : List Field) (F : Structured fs) where
  -- References.

  graph_before : (s : ℕ) → 0 < s → s < states fs → graph_of fs s < number_at fs Graph (state_index fs s)
  graph_before s p l =
      let i = state_index fs s in
      let n = (found (is State) fs s l).number in
      let known = state_free fs (reference_in fs) F.keeps_references 0 s l in
      let inner : eqb (number_at fs State i) 0 ≡ false = ne_eqb (number_at fs State i) 0 (λ z. omega arith) in
      ltb-true (graph_of fs s) (number_at fs Graph i)
      (not_yes (ltb (graph_of fs s) (number_at fs Graph i)) (sym (ap (λ b. cond b (not (eqb (graph_of fs s) 65535)) (not (ltb (graph_of fs s) (number_at fs Graph i)))) inner) ∙ known))

  pub in_graph : (s : ℕ) → 0 < s → s < states fs → graph_of fs s < graphs fs
  in_graph s p l = omega (arith, graph_before s p l, count_take (is Graph) fs (state_index fs s))

  owner_before : (g : ℕ) → g < graphs fs → owner_of fs g < number_at fs State (graph_index fs g)
  owner_before g l = ltb-true (owner_of fs g) (number_at fs State (graph_index fs g)) (not_yes (ltb (owner_of fs g) (number_at fs State (graph_index fs g))) (graph_free fs (reference_in fs) F.keeps_references 0 g l))

  pub owned : (g : ℕ) → g < graphs fs → owner_of fs g < states fs
  owned g l = omega (arith, owner_before g l, count_take (is State) fs (graph_index fs g))

  -- a state stands behind the one around it
  pub around_before : (s : ℕ) → 0 < s → s < states fs → owner_of fs (graph_of fs s) < s
  around_before s p l =
      let g = graph_of fs s in
      let lg = in_graph s p l in
      let r = found (is State) fs s l in
      let b = found_before (is Graph) fs g (state_index fs s) (graph_index fs g) (found (is Graph) fs g lg) (graph_before s p l) in
      omega (arith, owner_before g lg, count_more (is State) fs (graph_index fs g) (state_index fs s) (omega arith), r.number)

  pub source_in : (t : ℕ) → t < transitions fs → source_of fs t < states fs
  source_in t l = ltb-true (source_of fs t) (states fs) (not_yes (ltb (source_of fs t) (states fs)) (transition_free fs (reference_in fs) F.keeps_references 0 t l))

  pub target_in : (t : ℕ) → t < transitions fs → target_of fs t < states fs
  target_in t l = ltb-true (target_of fs t) (states fs) (not_yes (ltb (target_of fs t) (states fs)) (transition_free fs (reference_in fs) F.keeps_references 1 t l))

  -- Nesting.

  abbrev nesting_at : ℕ → Field → List Case
  nesting_at i f = when (eqb i 0 && eqb (states fs) 0) NoState ∷ nesting_in fs i f

  pub some_state : 0 < states fs
  some_state = positive (states fs) (fails (nesting_at 0 (at fs 0)) 0 (F.keeps_nesting 0 F.some_field))

  state_nests : (k s : ℕ) → s < states fs → test_at (state_nesting fs s (state_kind_of fs s)) k ≡ false
  state_nests k s l = subst (λ n. test_at (state_nesting fs n (state_kind_of fs s)) k ≡ false) (found (is State) fs s l).number (state_free fs nesting_at F.keeps_nesting (suc k) s l)

  graph_nests : (k g : ℕ) → g < graphs fs → test_at (graph_nesting fs g (owner_of fs g)) k ≡ false
  graph_nests k g l = subst (λ n. test_at (graph_nesting fs n (owner_of fs g)) k ≡ false) (found (is Graph) fs g l).number (graph_free fs nesting_at F.keeps_nesting (suc k) g l)

  pub root_macro : is_macro (state_kind_of fs 0) ≡ true
  root_macro = not_yes (is_macro (state_kind_of fs 0)) (state_nests 0 0 some_state)

  pub owns : (s : ℕ) → s < states fs → is_macro (state_kind_of fs s) ≡ true → (g : ℕ) × (g < graphs fs) × (owner_of fs g ≡ s)
  owns s l m =
      let a = then_not (is_macro (state_kind_of fs s)) (owns_none fs s) (state_nests 1 s l) m in
      let r = any_of_out (graphs fs) (λ g. eqb (owner_of fs g) s) (not_yes (any_of (graphs fs) (λ g. eqb (owner_of fs g) s)) a) in
      (r.0, r.1, eqb-true (owner_of fs r.0) s r.2)

  pub macro_deep : (s : ℕ) → s < states fs → is_macro (state_kind_of fs s) ≡ true → depth_of fs s < 9
  macro_deep s l m = leb-false 9 (depth_of fs s) (then_not (is_macro (state_kind_of fs s)) (leb 9 (depth_of fs s)) (state_nests 2 s l) m)

  pub owner_macro : (g : ℕ) → g < graphs fs → is_macro (state_kind_of fs (owner_of fs g)) ≡ true
  owner_macro g l = not_yes (is_macro (state_kind_of fs (owner_of fs g))) (graph_nests 0 g l)

  pub initial_parts : (g : ℕ) → g < graphs fs → (initial_of fs g < states fs) × (0 < initial_of fs g) × (graph_of fs (initial_of fs g) ≡ g)
  initial_parts g l =
      let r = least_found (states fs) (is_in fs g) (not_yes (any_of (states fs) (is_in fs g)) (graph_nests 1 g l)) in
      let m = member_parts fs g (initial_of fs g) r.1 in
      (r.0, m.0, m.1)

  -- Depth.

  enough : (n m s : ℕ) → s < n → s < m → s < states fs → depth_within fs n s ≡ depth_within fs m s
  enough zero m s ln lm l = absurd (omega arith)
  enough (suc n) zero s ln lm l = absurd (omega arith)
  enough (suc n) (suc m) s ln lm l =
      go (dec_lt 0 s) (λ p. let a = around_before s p l in enough n m (owner_of fs (graph_of fs s)) (omega arith) (omega arith) (omega arith))
    where
      go : Dec (0 < s) → (0 < s → depth_within fs n (owner_of fs (graph_of fs s)) ≡ depth_within fs m (owner_of fs (graph_of fs s))) → depth_within fs (suc n) s ≡ depth_within fs (suc m) s
      go (yes p) ih = ap (λ d. cond (eqb s 0) 1 (suc d)) (ih p)
      go (no np) ih = let root : eqb s 0 ≡ true = eq-eqb s 0 (omega arith) in rw root

  pub root_depth : depth_of fs 0 ≡ 1
  root_depth = enough (states fs) (suc (states fs)) 0 some_state (omega arith) some_state

  pub nested : (s : ℕ) → 0 < s → s < states fs → depth_of fs s ≡ suc (depth_of fs (owner_of fs (graph_of fs s)))
  nested s p l =
      enough (states fs) (suc (states fs)) s l (omega arith) l
      ∙ ap (λ b. cond b 1 (suc (depth_of fs (owner_of fs (graph_of fs s))))) (ne_eqb s 0 (λ z. omega arith))

  pub depth_bounds : (s : ℕ) → s < states fs → (0 < depth_of fs s) × (depth_of fs s ≤ 9)
  depth_bounds s l =
      elim (ℕ_discrete s 0) [
        | yes z ↦ let e : depth_of fs s ≡ 1 = ap (depth_of fs) z ∙ root_depth in (omega arith, omega arith)
        | no nz ↦
            let p : 0 < s = omega arith in
            let n = nested s p l in
            let lg = in_graph s p l in
            let d = macro_deep (owner_of fs (graph_of fs s)) (owned (graph_of fs s) lg) (owner_macro (graph_of fs s) lg) in
            (omega arith, omega arith)
      ]

  -- Ends.

  pub record Joins (t : ℕ) : Type 0 where
    pub from : 0 < source_of fs t
    pub to : 0 < target_of fs t
    pub one_graph : graph_of fs (source_of fs t) ≡ graph_of fs (target_of fs t)
    pub not_from_final : is_final (state_kind_of fs (source_of fs t)) ≡ false
    pub one_normal : is_normal (transition_kind_of fs t) ≡ true → (u : ℕ) → u < t → source_of fs u ≡ source_of fs t → is_normal (transition_kind_of fs u) ≡ false

  pub joins : (t : ℕ) → t < transitions fs → Joins t
  joins t l =
      let s = source_of fs t in
      let kind = transition_kind_of fs t in
      let free = λ (k : ℕ). subst (λ n. test_at (transition_ends fs n s (target_of fs t) kind) k ≡ false) (found (is Transition) fs t l).number (transition_free fs (ends_in fs) F.keeps_ends k t l) in
      let g = both (not (eqb s 0) && not (eqb (target_of fs t) 0)) (eqb (graph_of fs s) (graph_of fs (target_of fs t))) (not_yes (in_one_graph fs s (target_of fs t)) (free 0)) in
      let h = both (not (eqb s 0)) (not (eqb (target_of fs t) 0)) g.0 in
      record {
        from = positive s (not_no (eqb s 0) h.0);
        to = positive (target_of fs t) (not_no (eqb (target_of fs t) 0) h.1);
        one_graph = eqb-true (graph_of fs s) (graph_of fs (target_of fs t)) g.1;
        not_from_final = free 1;
        one_normal = λ n u lu same. is_false (is_normal (transition_kind_of fs u)) (λ m. clash
            (any_of_in t (λ u. eqb (source_of fs u) s && is_normal (transition_kind_of fs u)) u lu (join (eqb (source_of fs u) s) (is_normal (transition_kind_of fs u)) (eq-eqb (source_of fs u) s same) m))
            (then_not (is_normal kind) (stands_behind fs t s is_normal) (free 4) n));
      }

  -- Leaving.

  pub normal_macro : (t : ℕ) → t < transitions fs → is_normal (transition_kind_of fs t) ≡ true → is_macro (state_kind_of fs (source_of fs t)) ≡ true
  normal_macro t l n =
      let s = source_of fs t in
      let a = transition_free fs (leaving_in fs) F.keeps_leaving 2 t l in
      let b = not_yes (can_end fs s) (then_not (is_normal (transition_kind_of fs t)) (not (can_end fs s)) a n) in
      (both (is_macro (state_kind_of fs s)) (all_of (graphs fs) (λ g. not (eqb (owner_of fs g) s) || any_of (states fs) (λ f. is_in fs g f && is_final (state_kind_of fs f)))) b).0
