-- Entries made one by one.
use Rattle.std.proofs.Common.{◌≡◌, ℕ, ◌+◌, ◌<◌, ◌≤◌, Bool, true, false, List, [], ◌∷◌, ◌++◌, length, get_or, take, sym, refl, ap, ◌∙◌, inl, inr, arith}
use lib.Seq.{take-append-le, take-append_seam}
use Rattle.std.proofs.lemmas.List.{get_or_append_left, get_or_push, length_push}
use Rattle.std.proofs.str.Laws.{order}
use Rattle.chart.specs.declared.kinds.Tag.TheVariants.{State, Graph, Transition, Suspension}
use Rattle.chart.specs.Fields.{Field, encode_all, is}
use Rattle.chart.specs.Limits.{bit, count}
use Rattle.tables.specs.declared.rows.Entry.{Entry}
use Rattle.tables.specs.Entries.{behind, counted, entry_at, no_entry, Entered}

pub count_push : (p : Field → Bool) (fs : List Field) (f : Field) → bit (p f) + count p fs ≡ count p (fs ++ (f ∷ []))
count_push p [] f = omega arith
count_push p (g ∷ fs) f = omega (arith, count_push p fs f)

bit_most : (b : Bool) → bit b ≤ 1
bit_most true = omega arith
bit_most false = omega arith

pub count_most : (p : Field → Bool) (fs : List Field) → count p fs ≤ length fs
count_most p [] = omega arith
count_most p (f ∷ fs) = omega (arith, bit_most (p f), count_most p fs)

-- The counts are those of a field behind these.
pub record Counted (fs : List Field) (e : Entry) : Type 0 where
  pub states : e.states ≡ count (is State) fs
  pub graphs : e.graphs ≡ count (is Graph) fs
  pub transitions : e.transitions ≡ count (is Transition) fs
  pub suspensions : e.suspensions ≡ count (is Suspension) fs

pub counted_none : Counted [] no_entry
counted_none = record { states = refl; graphs = refl; transitions = refl; suspensions = refl }

pub counted_more : (fs : List Field) (f : Field) (e : Entry) → Counted fs e → Counted (fs ++ (f ∷ [])) (counted e f)
counted_more fs f e h = record {
  states = omega (arith, h.states, count_push (is State) fs f);
  graphs = omega (arith, h.graphs, count_push (is Graph) fs f);
  transitions = omega (arith, h.transitions, count_push (is Transition) fs f);
  suspensions = omega (arith, h.suspensions, count_push (is Suspension) fs f);
}

pub is_behind : (fs : List Field) (e : Entry) (place : ℕ) → Counted fs e → place ≡ length (encode_all fs)
    → record { place = place; states = e.states; graphs = e.graphs; transitions = e.transitions; suspensions = e.suspensions } ≡ behind fs
is_behind fs e place h at = λ j. record { place = at j; states = h.states j; graphs = h.graphs j; transitions = h.transitions j; suspensions = h.suspensions j }

pub entered_none : Entered [] []
entered_none = record { counted = refl; told = λ i l. absurd (omega arith) }

pub entered_more : (fs : List Field) (f : Field) (es : List Entry) (e : Entry) → e ≡ behind fs → Entered fs es → Entered (fs ++ (f ∷ [])) (es ++ (e ∷ []))
entered_more fs f es e is h =
    let long : length (es ++ (e ∷ [])) ≡ length (fs ++ (f ∷ [])) = omega (arith, length_push es e, length_push fs f, h.counted) in
    let old : (i : ℕ) → i < length es → get_or (es ++ (e ∷ [])) i no_entry ≡ entry_at (fs ++ (f ∷ [])) i =
    λ i l. get_or_append_left es (e ∷ []) no_entry i l ∙ h.told i l ∙ ap behind (sym (take-append-le i fs (f ∷ []) (omega (arith, h.counted)))) in
    let new : (i : ℕ) → i ≡ length es → get_or (es ++ (e ∷ [])) i no_entry ≡ entry_at (fs ++ (f ∷ [])) i =
    λ i at. get_or_push es e no_entry i (sym at) ∙ is ∙ ap behind (sym (ap (λ n. take n (fs ++ (f ∷ []))) (at ∙ h.counted) ∙ take-append_seam fs (f ∷ []))) in
    record {
      counted = long;
      told = λ i l. elim (order i (length es)) [ inl below ↦ old i below | inr above ↦ new i (omega (arith, length_push es e)) ];
    }
