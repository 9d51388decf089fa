-- What chain transitions reach in a sound chart.
use Rattle.std.proofs.Common.{◌≡◌, ℕ, ◌<◌, true, ◌||◌, eqb, sym, ap, subst, inl, inr, eq-eqb, eqb-true}
use Rattle.validity.specs.Chart.{Chart, chained, reaches, entered, rank}
use Rattle.validity.specs.Sound.{Sound}
use Rattle.validity.proofs.Bools.{either, left_or, right_or}
use Rattle.validity.proofs.Folds.{count_less}
use Rattle.validity.proofs.Closed.{edge_in_lem, leads_step, leads_join}

module _ (c : Chart) (S : Sound c) where
  pub reaches_step : (t : ℕ) → t < c.transitions → c.chain t ≡ true → reaches c (c.source t) (c.target t) ≡ true
  reaches_step t l h = leads_step c.states (chained c) (c.source t) (c.target t) (S.from t l).1 (S.to t l).1 (edge_in_lem c.transitions c.source c.target c.chain t l h)

  pub reaches_more : (x t : ℕ) → t < c.transitions → c.chain t ≡ true → reaches c x (c.source t) ≡ true → reaches c x (c.target t) ≡ true
  reaches_more x t l h r = leads_join c.states (chained c) x (c.source t) (c.target t) r (reaches_step t l h)

  -- What reaches the source reaches the target; the source does too, and does not reach itself.
  pub rank_rises : (t : ℕ) → t < c.transitions → c.chain t ≡ true → rank c (c.source t) < rank c (c.target t)
  rank_rises t l h =
      count_less c.states (c.source t) (λ x. reaches c x (c.source t)) (λ x. reaches c x (c.target t))
      (λ x. reaches_more x t l h) (S.from t l).1 (S.no_ring (c.source t)) (reaches_step t l h)

  pub entered_initial : (g : ℕ) → g < c.graphs → entered c (c.initial g) ≡ true
  entered_initial g l =
      let i = c.initial g in
      left_or (eqb (c.initial (c.graph i)) i) (reaches c (c.initial (c.graph i)) i) (eq-eqb (c.initial (c.graph i)) i (ap c.initial (S.graph_of_initial g l)))

  pub entered_chain : (t : ℕ) → t < c.transitions → c.chain t ≡ true → entered c (c.source t) ≡ true → entered c (c.target t) ≡ true
  entered_chain t l h r =
      let i = c.initial (c.graph (c.source t)) in
      let w : reaches c i (c.target t) ≡ true =
      elim (either (eqb i (c.source t)) (reaches c i (c.source t)) r) [
        | inl e ↦ subst (λ x. reaches c x (c.target t) ≡ true) (sym (eqb-true i (c.source t) e)) (reaches_step t l h)
        | inr q ↦ reaches_more i t l h q
      ] in
      subst (λ g. (eqb (c.initial g) (c.target t) || reaches c (c.initial g) (c.target t)) ≡ true) (S.one_graph t l) (right_or (eqb i (c.target t)) (reaches c i (c.target t)) w)
