-- Fields looked up where their entries tell.
use Rattle.std.proofs.Common.{◌≡◌, ℕ, ◌<◌, ◌≤◌, Bool, true, false, cond, ltb, List, length, Some, None, sym, refl, ap, ◌∙◌, arith, ltb-false, ltb-true, lt-ltb}
use Rattle.chart.specs.Fields.{Field, signal, state, graph, transition, suspension, trigger, effects, contents, encode_all, place_at}
use Rattle.chart.specs.Files.{is_row}
use Rattle.chart.specs.Lookup.{field_at}
use Rattle.chart.proofs.Places.{stands, place_below}
use Rattle.validity.specs.Parts.{bytes_in, at}
use Rattle.validity.proofs.Numbers.{at_behind}
use Rattle.tables.specs.declared.rows.Entry.{Entry}
use Rattle.tables.specs.Entries.{entry_at, entry_if, lookup}

-- With its entry goes the field at its place.
pub looked_up : (b : List ℕ) (fs : List Field) → is_row fs ≡ true → encode_all fs ≡ b → (i : ℕ) (e : Entry) → Some e ≡ entry_if fs i → field_at b e.place ≡ lookup fs i
looked_up b fs row bytes i e h = go (ltb i (length fs)) refl
  where
    go : (t : Bool) → ltb i (length fs) ≡ t → field_at b e.place ≡ lookup fs i
    go true l =
        let here : Some e ≡ Some (entry_at fs i) = h ∙ ap (λ t. cond t (Some (entry_at fs i)) None) l in
        let is : e ≡ entry_at fs i = grind arith in
        ap (λ (e : Entry). field_at b e.place) is
        ∙ ap (λ b. field_at b (entry_at fs i).place) (sym bytes)
        ∙ stands fs row i (ltb-true i (length fs) l)
        ∙ sym (ap (λ t. cond t (Some (at fs i)) None) l)
    go false l =
        let none : Some e ≡ None = h ∙ ap (λ t. cond t (Some (entry_at fs i)) None) l in
        absurd (grind arith)

-- Behind the last field there is none.
pub none_behind : (fs : List Field) (i : ℕ) → None ≡ lookup fs i → graph 0 ≡ at fs i
none_behind fs i h = go (ltb i (length fs)) refl
  where
    go : (t : Bool) → ltb i (length fs) ≡ t → graph 0 ≡ at fs i
    go true l =
        let some : None ≡ Some (at fs i) = h ∙ ap (λ t. cond t (Some (at fs i)) None) l in
        absurd (grind arith)
    go false l = sym (at_behind fs i (ltb-false i (length fs) l))

-- Before its end there is one.
pub not_behind : (fs : List Field) (i : ℕ) → i < length fs → None ≡ lookup fs i → ⊥
not_behind fs i l h =
    let some : None ≡ Some (at fs i) = h ∙ ap (λ t. cond t (Some (at fs i)) None) (lt-ltb i (length fs) l) in
    grind arith

bytes_few : (f : Field) → length (bytes_in f) ≤ length (contents f)
bytes_few (signal k name) = omega arith
bytes_few (state g k name) = omega arith
bytes_few (graph o) = omega arith
bytes_few (transition s t k i) = omega arith
bytes_few (suspension s) = omega arith
bytes_few (trigger p) = omega arith
bytes_few (effects e) = omega arith

-- What a field holds is no longer than the file.
pub short : (b : List ℕ) (fs : List Field) → encode_all fs ≡ b → length b ≤ 16384 → (i : ℕ) → i < length fs → length (bytes_in (at fs i)) ≤ 16384
short b fs is most i l = omega (arith, place_below fs i l, bytes_few (at fs i), ap length is)

-- Where a field is, there is an entry, with its place.

pub entry_there : (fs : List Field) (i : ℕ) → i < length fs → entry_if fs i ≡ Some (entry_at fs i)
entry_there fs i l = ap (λ t. cond t (Some (entry_at fs i)) None) (lt-ltb i (length fs) l)

pub entry_place : (b : List ℕ) (fs : List Field) → encode_all fs ≡ b → length b ≤ 16384 → (i : ℕ) → i < length fs → (e : Entry) → Some e ≡ entry_if fs i → (e.place ≡ place_at fs i) × (e.place ≤ 16384)
entry_place b fs is most i l e h =
    let here : Some e ≡ Some (entry_at fs i) = h ∙ entry_there fs i l in
    let same : e ≡ entry_at fs i = cc in
    let place : e.place ≡ place_at fs i = ap (λ (e : Entry). e.place) same in
    (place, omega (arith, place, place_below fs i l, ap length is))
