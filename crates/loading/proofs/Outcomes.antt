-- What is loaded and what is refused, both ways.
use Rattle.std.proofs.Common.{◌≡◌, ℕ, true, ◌⊎◌, List, Ok, Err, Result, sym, refl, ap, ◌∙◌, subst, inl, inr, arith}
use Rattle.chart.specs.declared.refusals.Refusal.{Refusal as Format}
use Rattle.chart.specs.Fields.{Field}
use Rattle.chart.specs.Files.{Passes}
use Rattle.chart.specs.Reading.{read, row_of}
use Rattle.chart.specs.WellFormed.{every, is_byte}
use Rattle.chart.proofs.Reasons.{passes_read, refused_read, format_laws_lem}
use Rattle.chart.proofs.Stepping.{row_of_lem}
use Rattle.validity.specs.declared.faults.Invalid.{Invalid as Breach}
use Rattle.validity.specs.Chart.{chart_of}
use Rattle.validity.specs.Outcome.{outcome}
use Rattle.validity.specs.Sound.{Sound}
use Rattle.validity.proofs.Outcomes.{validity_laws_lem}
use Rattle.loading.specs.declared.refusals.Refusal.{Refusal}
use Rattle.loading.specs.Laws.{LoadingLaws}
use Rattle.loading.specs.Loading.{Loads, RefusedSo, malformed, invalid, judged, after_reading, loading}

-- From format and rules to the outcome.

loads_so : (b : List ℕ) → Loads b → loading b ≡ Ok tt
loads_so b l = ap after_reading (passes_read b l.fields l.passes) ∙ ap judged ((validity_laws_lem.accepts l.fields).1 l.faultless)

refuses_so : (b : List ℕ) (e : Refusal) → RefusedSo b e → loading b ≡ Err e
refuses_so b e (malformed {e = f} h) = ap after_reading (refused_read b f h)
refuses_so b e (invalid fs {x = x} p h) = ap after_reading (passes_read b fs p) ∙ ap judged ((validity_laws_lem.refuses fs x).1 h)

-- And back.

abbrev Judged : List ℕ → Result (Unit {0}) Refusal → Type 0
Judged b (Ok u) = Loads b
Judged b (Err e) = RefusedSo b e

judge_rules : (b : List ℕ) (fs : List Field) → Passes b fs → (r : Result (Unit {0}) Breach) → outcome fs ≡ r → Judged b (judged r)
judge_rules b fs p (Ok u) h = record { fields = fs; passes = p; faultless = (validity_laws_lem.accepts fs).0 h }
judge_rules b fs p (Err x) h = invalid fs p ((validity_laws_lem.refuses fs x).0 h)

judge : (b : List ℕ) → every is_byte b ≡ true → (r : Result (List Field) Format) → read b ≡ r → Judged b (after_reading r)
judge b bytes (Ok fs) h = judge_rules b fs ((format_laws_lem.passes b bytes fs).0 h) (outcome fs) refl
judge b bytes (Err e) h = malformed ((format_laws_lem.refuses b bytes e).0 h)

judgement : (b : List ℕ) → every is_byte b ≡ true → Judged b (loading b)
judgement b bytes = judge b bytes (read b) refl

either : (b : List ℕ) (r : Result (Unit {0}) Refusal) → Judged b r → Loads b ⊎ ((e : Refusal) × RefusedSo b e)
either b (Ok u) h = inl h
either b (Err e) h = inr (e, h)

loaded_sound : (b : List ℕ) → Loads b → Sound (chart_of (row_of b))
loaded_sound b l =
    let p = l.passes in
    let same : row_of b ≡ l.fields = ap row_of p.bytes ∙ row_of_lem l.fields p.row in
    subst (λ fs. Sound (chart_of fs)) (sym same) (validity_laws_lem.sound b l.fields p l.faultless)

pub loading_laws_lem : LoadingLaws
loading_laws_lem = record {
  loads = λ b bytes. (λ h. subst (Judged b) h (judgement b bytes), loads_so b);
  refuses = λ b bytes e. (λ h. subst (Judged b) h (judgement b bytes), refuses_so b e);
  some = λ b bytes. either b (loading b) (judgement b bytes);
  one_reason = λ b d e h k. let same : ◌≡◌ {A = Result (Unit {0}) Refusal} (Err d) (Err e) = sym (refuses_so b d h) ∙ refuses_so b e k in grind arith;
  not_both = λ b e h k. let same : ◌≡◌ {A = Result (Unit {0}) Refusal} (Ok tt) (Err e) = sym (loads_so b h) ∙ refuses_so b e k in grind arith;
  sound = loaded_sound;
}
