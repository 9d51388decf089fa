-- Rows made of fields.
use Rattle.std.proofs.Common.{◌≡◌, ℕ, suc, ◌+◌, Bool, true, false, cond, List, Some, None, Option, refl, ap, ◌∙◌, arith}
use Rattle.std.specs.Option.{is_some}
use Rattle.chart.specs.declared.kinds.Tag as tag
use Rattle.chart.specs.declared.kinds.StateKind.{StateKind}
use Rattle.chart.specs.declared.kinds.TransitionKind.{TransitionKind}
use Rattle.chart.specs.Fields.{Field, state, transition, suspension, is}
use Rattle.validity.specs.Parts.{state_kind_in, number_in, edge_in, at}
use Rattle.tables.specs.declared.rows.Span.{Span}
use Rattle.tables.specs.Rows.{span_at, trigger_span_at, effects_span_at, state_at, transition_at, suspension_at}

plus : (i : ℕ) → i + 1 ≡ suc i
plus i = omega arith

plus_two : (i : ℕ) → i + 2 ≡ suc (suc i)
plus_two i = omega arith

module _ (fs : List Field) (i : ℕ) where
  pub state_made : (g : ℕ) (k : StateKind) (name : List ℕ) (s : Span) (e : Option Span) → state g k name ≡ at fs i → s ≡ span_at fs 6 i → e ≡ effects_span_at fs (i + 1)
      → Some (record { kind = k; graph = g; name = s; effects = e }) ≡ cond (is tag.TheVariants.State (at fs i)) (Some (state_at fs i)) None
  state_made g k name s e is_state span behind =
      let behind' = behind ∙ ap (effects_span_at fs) (plus i) in
      (λ j. Some (record { kind = k; graph = g; name = span j; effects = behind' j }))
      ∙ ap (λ f. cond (is tag.TheVariants.State f) (Some (record { kind = state_kind_in f; graph = number_in f; name = span_at fs 6 i; effects = effects_span_at fs (suc i) })) None) is_state

  pub suspension_made : (s : ℕ) (t : Option Span) → suspension s ≡ at fs i → t ≡ trigger_span_at fs (i + 1)
      → Some (record { state = s; trigger = t }) ≡ cond (is tag.TheVariants.Suspension (at fs i)) (Some (suspension_at fs i)) None
  suspension_made s t is-suspension behind =
      let behind' = behind ∙ ap (trigger_span_at fs) (plus i) in
      (λ j. Some (record { state = s; trigger = behind' j }))
      ∙ ap (λ f. cond (is tag.TheVariants.Suspension f) (Some (record { state = number_in f; trigger = trigger_span_at fs (suc i) })) None) is-suspension

  pub transition_made : (s t : ℕ) (k : TransitionKind) (im : Bool) (tr e : Option Span) → transition s t k im ≡ at fs i → tr ≡ trigger_span_at fs (i + 1) → e ≡ (transition_at fs i).effects
      → Some (record { source = s; target = t; kind = k; immediate = im; trigger = tr; effects = e }) ≡ cond (is tag.TheVariants.Transition (at fs i)) (Some (transition_at fs i)) None
  transition_made s t k im tr e is-transition trigger effects =
      let trigger' = trigger ∙ ap (trigger_span_at fs) (plus i) in
      (λ j. Some (record { source = s; target = t; kind = k; immediate = im; trigger = trigger' j; effects = effects j }))
      ∙ ap (λ f. cond (is tag.TheVariants.Transition f) (Some (record {
        source = (edge_in f).source;
        target = (edge_in f).target;
        kind = (edge_in f).kind;
        immediate = (edge_in f).immediate;
        trigger = trigger_span_at fs (suc i);
        effects = (transition_at fs i).effects;
      })) None) is-transition

  -- The effects of a transition, with a trigger between and without.

  trigger_there : is_some (trigger_span_at fs (i + 1)) ≡ is tag.TheVariants.Trigger (at fs (suc i))
  trigger_there = ap (λ k. is_some (trigger_span_at fs k)) (plus i) ∙ go (is tag.TheVariants.Trigger (at fs (suc i)))
    where
      go : (b : Bool) → is_some (cond b (Some (span_at fs 3 (suc i))) None) ≡ b
      go true = refl
      go false = refl

  pub behind_trigger : (t e : Option Span) → true ≡ is_some t → t ≡ trigger_span_at fs (i + 1) → e ≡ effects_span_at fs (i + 2) → e ≡ (transition_at fs i).effects
  behind_trigger t e some is-trigger is-effects =
      is-effects ∙ ap (effects_span_at fs) (plus_two i)
      ∙ ap (λ b. cond b (effects_span_at fs (suc (suc i))) (effects_span_at fs (suc i))) (some ∙ ap is_some is-trigger ∙ trigger_there)

  pub behind_itself : (t e : Option Span) → false ≡ is_some t → t ≡ trigger_span_at fs (i + 1) → e ≡ effects_span_at fs (i + 1) → e ≡ (transition_at fs i).effects
  behind_itself t e none is-trigger is-effects =
      is-effects ∙ ap (effects_span_at fs) (plus i)
      ∙ ap (λ b. cond b (effects_span_at fs (suc (suc i))) (effects_span_at fs (suc i))) (none ∙ ap is_some is-trigger ∙ trigger_there)
