-- What was derived, by number: of a state, a graph or a transition. Assumes nothing.
use Rattle.std.specs.Prelude.{◌≡◌, ℕ, Bool, false, List, [], None, vec_items, Option, slice_index, slice_index_or}
use Rattle.tables.specs.declared.rows.Span.{Span}
use Rattle.groups.specs.Lookup.{group}
use Rattle.derived.specs.declared.facts.StateFacts.{StateFacts}
use Rattle.derived.specs.declared.Derived.{Derived}

-- of a number that no state has
abbrev pub no_facts : StateFacts
no_facts = record { depth = 0; suspension = None; rank = 0 }

module _ (d : Derived) where
  -- of a state
  abbrev pub facts_at : ℕ → StateFacts
  facts_at s = slice_index_or (vec_items d.states) s no_facts

  -- of a state: its depth, where the trigger of its suspension stands, from how many states chain transitions reach it
  abbrev pub depth_at : ℕ → ℕ
  depth_at s = (facts_at s).depth

  abbrev pub suspension_at : ℕ → Option Span
  suspension_at s = (facts_at s).suspension

  abbrev pub rank_at : ℕ → ℕ
  rank_at s = (facts_at s).rank

  -- of a graph: its initial state
  abbrev pub initial_at : ℕ → ℕ
  initial_at g = slice_index (vec_items d.initials) g

  -- of a transition: it is a chain transition
  abbrev pub chain_at : ℕ → Bool
  chain_at t = slice_index_or (vec_items d.chain) t false

  -- of a state: the transitions from it, those to it
  abbrev pub outgoing_at : ℕ → List ℕ
  outgoing_at s = group d.outgoing s

  abbrev pub incoming_at : ℕ → List ℕ
  incoming_at s = group d.incoming s

  -- of a graph: its states
  abbrev pub members_at : ℕ → List ℕ
  members_at g = group d.members g

  -- of a state: the graphs that it owns
  abbrev pub owned_at : ℕ → List ℕ
  owned_at s = group d.owned s

  -- nothing is derived
  pub record Empty : Type 0 where
    pub depths : (s : ℕ) → depth_at s ≡ 0
    pub suspensions : (s : ℕ) → suspension_at s ≡ None
    pub ranks : (s : ℕ) → rank_at s ≡ 0
    pub initials : (g : ℕ) → initial_at g ≡ 0
    pub chain : (t : ℕ) → chain_at t ≡ false
    pub outgoing : (s : ℕ) → outgoing_at s ≡ []
    pub incoming : (s : ℕ) → incoming_at s ≡ []
    pub members : (g : ℕ) → members_at g ≡ []
    pub owned : (s : ℕ) → owned_at s ≡ []
