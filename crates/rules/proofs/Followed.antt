-- The field behind a field, looked up.
use Rattle.std.proofs.Common.{◌≡◌, ℕ, suc, ◌+◌, ◌≤◌, Bool, true, false, cond, ltb, List, length, Some, None, sym, refl, ap, ◌∙◌, arith, ltb-false}
use Rattle.std.proofs.lemmas.List.{get_or_past}
use Rattle.chart.specs.declared.kinds.Tag.TheVariants.{Trigger}
use Rattle.chart.specs.Fields.{Field, graph, is}
use Rattle.validity.specs.Parts.{at}
use Rattle.validity.specs.Faults.{is_triggered}
use Rattle.tables.specs.Entries.{lookup}
use Rattle.rules.specs.Following.{is_trigger_if}

-- behind the last field stands no trigger
found : (fs : List Field) (j : ℕ) → is_trigger_if (lookup fs j) ≡ is Trigger (at fs j)
found fs j = go (ltb j (length fs)) refl
  where
    go : (t : Bool) → ltb j (length fs) ≡ t → is_trigger_if (lookup fs j) ≡ is Trigger (at fs j)
    go true l = ap (λ t. is_trigger_if (cond t (Some (at fs j)) None)) l
    go false l =
        let past : length fs ≤ j = omega (arith, ltb-false j (length fs) l) in
        ap (λ t. is_trigger_if (cond t (Some (at fs j)) None)) l ∙ sym (ap (is Trigger) (get_or_past fs j (graph 0) past))

pub followed : (fs : List Field) (i : ℕ) → is_trigger_if (lookup fs (i + 1)) ≡ is_triggered fs i
followed fs i = found fs (i + 1) ∙ ap (λ j. is Trigger (at fs j)) (let e : i + 1 ≡ suc i = omega arith in e)
