-- What is derived from a chart's tables, in terms of the chart.
use Rattle.std.proofs.Common.{◌≡◌, ℕ, suc, ◌<◌, Bool, true, false, cond, eqb, List, length, is_ok, Some, None, Ok, Option, sym, refl, ap, ◌∙◌, ltb, lt-ltb, le-ltb, arith}
use Rattle.std.specs.Option.{option_flatten}
use native.Mathlib.Decide.{dec_lt}
use Rattle.chart.specs.Reading.{row_of}
use Rattle.validity.specs.Outcome.{outcome}
use Rattle.loading.specs.Kept.{may_keep}
use Rattle.chart.specs.Fields.{Field, encode_all}
use Rattle.validity.specs.Ranges.{any_of, least_of, count_of}
use Rattle.validity.specs.Chart.{chart_of, rank}
use Rattle.validity.specs.Tables.{states, suspensions, suspended_by, suspension_index, suspension_of, is_chain, chain_leads, trigger_at}
use Rattle.tables.specs.declared.rows.Span.{Span}
use Rattle.tables.specs.Rows.{trigger_span_at}
use Rattle.tables.specs.Spans.{spanned_if}
use Rattle.tables.proofs.Spanning.{trigger_spanned}
use Rattle.derived.specs.Suspended.{suspension_span}

pub rank_is : (fs : List Field) (reach : ℕ → ℕ → Bool) → ((x y : ℕ) → reach x y ≡ chain_leads fs (is_chain fs) x y) → (s : ℕ) → count_of (states fs) (λ x. reach x s) ≡ rank (chart_of fs) s
rank_is fs reach reaches s = ap (λ (l : ℕ → ℕ → Bool). count_of (states fs) (λ x. l x s)) (λ j x y. reaches x y j)

pub suspension_told : (b : List ℕ) (fs : List Field) → encode_all fs ≡ b → (s : ℕ) → spanned_if b (suspension_span fs s) ≡ suspension_of fs s
suspension_told b fs bytes s = go (any_of (suspensions fs) (λ u. eqb (suspended_by fs u) s))
  where
    go : (t : Bool) → spanned_if b (cond t (trigger_span_at fs (suc (suspension_index fs (least_of (suspensions fs) (λ u. eqb (suspended_by fs u) s))))) None)
        ≡ cond t (trigger_at fs (suc (suspension_index fs (least_of (suspensions fs) (λ u. eqb (suspended_by fs u) s))))) None
    go true = trigger_spanned b fs bytes (suc (suspension_index fs (least_of (suspensions fs) (λ u. eqb (suspended_by fs u) s))))
    go false = refl

pub may_keep_lem : (b : List ℕ) → outcome (row_of b) ≡ Ok tt → may_keep b ≡ true
may_keep_lem b h = go (eqb (length b) 0)
  where
    go : (t : Bool) → cond t true (is_ok (outcome (row_of b))) ≡ true
    go true = refl
    go false = ap is_ok h

pub suspension_if : (b : List ℕ) (fs : List Field) → encode_all fs ≡ b → (s : ℕ) (span : Option Span) → (s < states fs → span ≡ suspension_span fs s)
    → spanned_if b (option_flatten (cond (ltb s (states fs)) (Some span) None)) ≡ cond (ltb s (states fs)) (suspension_of fs s) None
suspension_if b fs bytes s span here =
    elim (dec_lt s (states fs)) [
      | yes l ↦ ap (pick span) (lt-ltb s (states fs) l) ∙ ap (spanned_if b) (here l) ∙ suspension_told b fs bytes s ∙ ap meant (sym (lt-ltb s (states fs) l))
      | no nl ↦ ap (pick span) (le-ltb s (states fs) (omega arith)) ∙ ap meant (sym (le-ltb s (states fs) (omega arith)))
    ]
  where
    pick : Option Span → Bool → Option (List ℕ)
    pick span t = spanned_if b (option_flatten (cond t (Some span) None))

    meant : Bool → Option (List ℕ)
    meant t = cond t (suspension_of fs s) None
