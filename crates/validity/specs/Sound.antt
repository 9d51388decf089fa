-- What holds of a loaded chart. Assumes nothing.
use Rattle.std.specs.Prelude.{◌≡◌, ℕ, suc, ◌<◌, ◌≤◌, true, false, List, Some, None}
use Rattle.chart.specs.declared.kinds.StateKind.TheVariants.{Macro}
use Rattle.chart.specs.declared.kinds.TransitionKind.TheVariants.{Normal}
use Rattle.chart.specs.WellFormed.{every}
use Rattle.validity.specs.Parts.{is_final}
use Rattle.validity.specs.Triggers.{postfix_fault}
use Rattle.validity.specs.Chart.{Chart, around, Inner, may_emit, reaches, entered}

pub record Sound (c : Chart) : Type 0 where
  -- States nest; what is around a state stands before it.
  pub some_state : 0 < c.states
  pub root_macro : c.state_kind 0 ≡ Macro
  pub root_depth : c.depth 0 ≡ 1
  pub in_graph : (s : ℕ) → Inner c s → c.graph s < c.graphs
  pub around_before : (s : ℕ) → Inner c s → around c s < s
  pub around_depth : (s : ℕ) → Inner c s → c.depth s ≡ suc (c.depth (around c s))
  pub shallow : (s : ℕ) → s < c.states → c.depth s ≤ 9
  -- A graph belongs to a macrostate and has an initial state; a macrostate has a graph.
  pub owned : (g : ℕ) → g < c.graphs → c.owner g < c.states
  pub owner_macro : (g : ℕ) → g < c.graphs → c.state_kind (c.owner g) ≡ Macro
  pub initial_in : (g : ℕ) → g < c.graphs → Inner c (c.initial g)
  pub graph_of_initial : (g : ℕ) → g < c.graphs → c.graph (c.initial g) ≡ g
  pub owns : (s : ℕ) → s < c.states → c.state_kind s ≡ Macro → (g : ℕ) × (g < c.graphs) × (c.owner g ≡ s)
  -- Transitions stay in one graph. From a state goes one normal transition at most; the state is a macrostate.
  pub from : (t : ℕ) → t < c.transitions → Inner c (c.source t)
  pub to : (t : ℕ) → t < c.transitions → Inner c (c.target t)
  pub one_graph : (t : ℕ) → t < c.transitions → c.graph (c.source t) ≡ c.graph (c.target t)
  pub not_from_final : (t : ℕ) → t < c.transitions → is_final (c.state_kind (c.source t)) ≡ false
  pub one_normal : (t u : ℕ) → t < c.transitions → u < c.transitions → c.source t ≡ c.source u → c.transition_kind t ≡ Normal → c.transition_kind u ≡ Normal → t ≡ u
  pub normal_from_macro : (t : ℕ) → t < c.transitions → c.transition_kind t ≡ Normal → c.state_kind (c.source t) ≡ Macro
  -- Triggers come to one value with at most eight stacked; what is emitted is a signal and no input.
  pub triggers : (t : ℕ) (p : List ℕ) → t < c.transitions → c.trigger t ≡ Some p → postfix_fault c.signals p 0 ≡ None
  pub suspensions : (s : ℕ) (p : List ℕ) → s < c.states → c.suspension s ≡ Some p → postfix_fault c.signals p 0 ≡ None
  pub emits : (t : ℕ) → t < c.transitions → every (may_emit c) (c.emits t) ≡ true
  pub sustains : (s : ℕ) → s < c.states → every (may_emit c) (c.sustains s) ≡ true
  -- Immediate transitions are chain transitions. If a normal one is none, then in some graph of its source no final state is entered at once.
  pub immediate_chain : (t : ℕ) → t < c.transitions → c.immediate t ≡ true → c.chain t ≡ true
  pub blocked : (t : ℕ) → t < c.transitions → c.transition_kind t ≡ Normal → c.chain t ≡ false
      → (g : ℕ) × (g < c.graphs) × (c.owner g ≡ c.source t) × ((x : ℕ) → x < c.states → c.graph x ≡ g → is_final (c.state_kind x) ≡ true → entered c x ≡ false)
  -- No state is reached from itself by chain transitions.
  pub no_ring : (s : ℕ) → reaches c s s ≡ false
