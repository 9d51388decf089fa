-- Spans tell the names, triggers and effects of the fields.
use Rattle.std.proofs.Common.{◌≡◌, ℕ, suc, ◌+◌, ◌<◌, ◌≤◌, Bool, true, false, cond, List, [], length, take, drop, Some, None, sym, refl, ap, ◌∙◌, arith, le-leb}
use Rattle.chart.specs.declared.kinds.Tag.TheVariants.{Signal, State, Transition, Trigger, Effects}
use Rattle.chart.specs.Fields.{Field, signal, state, graph, transition, suspension, trigger, effects, contents, encode_all, is, place_at}
use Rattle.chart.specs.Limits.{count}
use Rattle.chart.proofs.Places.{place_below, signal_name_at, state_name_at, trigger_at_lem, effects_at_lem}
use Rattle.validity.specs.Parts.{bytes_in, number_in, state_kind_in, index_of, at}
use Rattle.validity.specs.Tables.{trigger_at, effects_at, transition_index, trigger_of, emitted_by, state_index, sustained_by}
use Rattle.validity.proofs.Bools.{clash}
use Rattle.validity.proofs.Numbers.{at_behind, found, inside, as_state, as_trigger, as_effects}
use Rattle.tables.specs.declared.rows.Span.{Span}
use Rattle.tables.specs.Rows.{signal_kind_in, span_at, trigger_span_at, effects_span_at, transition_row, no_span}
use Rattle.tables.specs.Spans.{spanned, spanned_if, spanned_or}
use Rattle.tables.proofs.Beyond.{index_behind}

as_signal : (f : Field) → is Signal f ≡ true → f ≡ signal (signal_kind_in f) (bytes_in f)
as_signal (signal k name) h = refl
as_signal (state g k name) h = absurd (clash h refl)
as_signal (graph o) h = absurd (clash h refl)
as_signal (transition s t k i) h = absurd (clash h refl)
as_signal (suspension s) h = absurd (clash h refl)
as_signal (trigger p) h = absurd (clash h refl)
as_signal (effects e) h = absurd (clash h refl)

part_is : (b : List ℕ) (s : Span) (p : List ℕ) → take s.length (drop s.start b) ≡ p → s.start + s.length ≤ length b → spanned b s ≡ p
part_is b s p is l = ap (λ t. cond t (take s.length (drop s.start b)) []) (le-leb (s.start + s.length) (length b) l) ∙ is

module _ (b : List ℕ) (fs : List Field) (bytes : encode_all fs ≡ b) where
  -- a part of the field at i that holds these bytes
  part_of : (i offset : ℕ) (p : List ℕ) → bytes_in (at fs i) ≡ p → take (length p) (drop (place_at fs i + offset) (encode_all fs)) ≡ p → place_at fs i + offset + length p ≤ length (encode_all fs) → spanned b (span_at fs offset i) ≡ p
  part_of i offset p is here l =
      part_is b (span_at fs offset i) p
      (ap (λ n. take n (drop (place_at fs i + offset) b)) (ap length is) ∙ ap (λ b. take (length p) (drop (place_at fs i + offset) b)) (sym bytes) ∙ here)
      (omega (arith, l, ap length is, ap length bytes))

  trigger_part : (i : ℕ) → is Trigger (at fs i) ≡ true → spanned b (span_at fs 3 i) ≡ bytes_in (at fs i)
  trigger_part i h =
      let l = inside fs (is Trigger) i refl h in
      let p = bytes_in (at fs i) in
      let whole : length (contents (at fs i)) ≡ length p = ap (λ f. length (contents f)) (as_trigger (at fs i) h) in
      part_of i 3 p refl (trigger_at_lem fs i l p (as_trigger (at fs i) h)) (omega (arith, place_below fs i l, whole))

  effects_part : (i : ℕ) → is Effects (at fs i) ≡ true → spanned b (span_at fs 3 i) ≡ bytes_in (at fs i)
  effects_part i h =
      let l = inside fs (is Effects) i refl h in
      let p = bytes_in (at fs i) in
      let whole : length (contents (at fs i)) ≡ length p = ap (λ f. length (contents f)) (as_effects (at fs i) h) in
      part_of i 3 p refl (effects_at_lem fs i l p (as_effects (at fs i) h)) (omega (arith, place_below fs i l, whole))

  pub signal_spanned : (n : ℕ) → n < count (is Signal) fs → spanned b (span_at fs 4 (index_of (is Signal) fs n)) ≡ bytes_in (at fs (index_of (is Signal) fs n))
  signal_spanned n l =
      let i = index_of (is Signal) fs n in
      let h = found (is Signal) fs n l in
      let f = as_signal (at fs i) h.passes in
      let whole : length (contents (at fs i)) ≡ suc (length (bytes_in (at fs i))) = ap (λ f. length (contents f)) f in
      part_of i 4 (bytes_in (at fs i)) refl (signal_name_at fs i h.below (signal_kind_in (at fs i)) (bytes_in (at fs i)) f) (omega (arith, place_below fs i h.below, whole))

  pub state_spanned : (s : ℕ) → s < count (is State) fs → spanned b (span_at fs 6 (state_index fs s)) ≡ bytes_in (at fs (state_index fs s))
  state_spanned s l =
      let i = state_index fs s in
      let h = found (is State) fs s l in
      let f = as_state (at fs i) h.passes in
      let whole : length (contents (at fs i)) ≡ suc (suc (suc (length (bytes_in (at fs i))))) = ap (λ f. length (contents f)) f in
      part_of i 6 (bytes_in (at fs i)) refl (state_name_at fs i h.below (number_in (at fs i)) (state_kind_in (at fs i)) (bytes_in (at fs i)) f) (omega (arith, place_below fs i h.below, whole))

  pub trigger_spanned : (i : ℕ) → spanned_if b (trigger_span_at fs i) ≡ trigger_at fs i
  trigger_spanned i = go (is Trigger (at fs i)) refl
    where
      go : (t : Bool) → is Trigger (at fs i) ≡ t → spanned_if b (trigger_span_at fs i) ≡ trigger_at fs i
      go true h =
          ap (λ t. spanned_if b (cond t (Some (span_at fs 3 i)) None)) h ∙ ap Some (trigger_part i h) ∙ sym (ap (λ t. cond t (Some (bytes_in (at fs i))) None) h)
      go false h = ap (λ t. spanned_if b (cond t (Some (span_at fs 3 i)) None)) h ∙ sym (ap (λ t. cond t (Some (bytes_in (at fs i))) None) h)

  pub effects_spanned : (i : ℕ) → spanned_or b (effects_span_at fs i) ≡ effects_at fs i
  effects_spanned i = go (is Effects (at fs i)) refl
    where
      go : (t : Bool) → is Effects (at fs i) ≡ t → spanned_or b (effects_span_at fs i) ≡ effects_at fs i
      go true h = ap (λ t. spanned_or b (cond t (Some (span_at fs 3 i)) None)) h ∙ effects_part i h ∙ sym (ap (λ t. cond t (bytes_in (at fs i)) []) h)
      go false h = ap (λ t. spanned_or b (cond t (Some (span_at fs 3 i)) None)) h ∙ sym (ap (λ t. cond t (bytes_in (at fs i)) []) h)

  pub emitted_spanned : (t : ℕ) → spanned_or b (transition_row fs t).effects ≡ emitted_by fs t
  emitted_spanned t = go (is Trigger (at fs (suc (transition_index fs t))))
    where
      go : (c : Bool) → spanned_or b (cond c (effects_span_at fs (suc (suc (transition_index fs t)))) (effects_span_at fs (suc (transition_index fs t)))) ≡ cond c (effects_at fs (suc (suc (transition_index fs t)))) (effects_at fs (suc (transition_index fs t)))
      go true = effects_spanned (suc (suc (transition_index fs t)))
      go false = effects_spanned (suc (transition_index fs t))

-- Of numbers that nothing has.

module _ (fs : List Field) where
  none_there : (i : ℕ) → length fs ≤ i → (trigger_at fs i ≡ None) × (effects_at fs i ≡ [])
  none_there i l =
      let e = at_behind fs i l in
      (ap (λ f. cond (is Trigger f) (Some (bytes_in f)) None) e, ap (λ f. cond (is Effects f) (bytes_in f) []) e)

  pub no_trigger : (t : ℕ) → count (is Transition) fs ≤ t → None ≡ trigger_of fs t
  no_trigger t l = let far = index_behind (is Transition) fs t l in sym (none_there (suc (transition_index fs t)) (omega arith)).0

  pub no_span_lem : (p : Field → Bool) (n : ℕ) → count p fs ≤ n → None ≡ trigger_span_at fs (suc (index_of p fs n))
  no_span_lem p n l =
      let far = index_behind p fs n l in
      ap (λ f. cond (is Trigger f) (Some (span_at fs 3 (suc (index_of p fs n)))) None) (sym (at_behind fs (suc (index_of p fs n)) (omega arith)))

  pub none_emitted : (t : ℕ) → count (is Transition) fs ≤ t → [] ≡ emitted_by fs t
  none_emitted t l =
      let far = index_behind (is Transition) fs t l in
      let e = at_behind fs (suc (transition_index fs t)) (omega arith) in
      sym (ap (λ f. cond (is Trigger f) (effects_at fs (suc (suc (transition_index fs t)))) (effects_at fs (suc (transition_index fs t)))) e ∙ (none_there (suc (transition_index fs t)) (omega arith)).1)

  pub none_sustained : (s : ℕ) → count (is State) fs ≤ s → [] ≡ sustained_by fs s
  none_sustained s l = let far = index_behind (is State) fs s l in sym (none_there (suc (state_index fs s)) (omega arith)).1

pub none_spanned : (b : List ℕ) → spanned b no_span ≡ []
none_spanned b = ap (λ t. cond t [] []) (le-leb (0 + 0) (length b) (omega arith))
