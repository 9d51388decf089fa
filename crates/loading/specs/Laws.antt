-- What loading comes to. Assumes nothing.
use Rattle.std.specs.Prelude.{◌≡◌, ℕ, true, ◌⊎◌, ◌↔◌, List, Ok, Err}
use Rattle.chart.specs.Reading.{row_of}
use Rattle.chart.specs.WellFormed.{every, is_byte}
use Rattle.validity.specs.Chart.{chart_of}
use Rattle.validity.specs.Sound.{Sound}
use Rattle.loading.specs.declared.refusals.Refusal.{Refusal}
use Rattle.loading.specs.Loading.{Loads, RefusedSo, loading}

pub record LoadingLaws : Type 0 where
  -- A file is loaded exactly if it is the encoding of a row of fields that breaks no rule, and refused so exactly if that is its first fault.
  pub loads : (b : List ℕ) → every is_byte b ≡ true → (loading b ≡ Ok tt) ↔ Loads b
  pub refuses : (b : List ℕ) → every is_byte b ≡ true → (e : Refusal) → (loading b ≡ Err e) ↔ RefusedSo b e
  -- Every file is loaded or refused, for one reason, and not both.
  pub some : (b : List ℕ) → every is_byte b ≡ true → Loads b ⊎ ((e : Refusal) × RefusedSo b e)
  pub one_reason : (b : List ℕ) (d e : Refusal) → RefusedSo b d → RefusedSo b e → d ≡ e
  pub not_both : (b : List ℕ) (e : Refusal) → Loads b → RefusedSo b e → ⊥
  -- The chart of a file that is loaded is sound.
  pub sound : (b : List ℕ) → Loads b → Sound (chart_of (row_of b))
