-- Fields gathered one by one, with their places.
use Rattle.std.proofs.Common.{◌≡◌, ℕ, ◌<◌, List, [], ◌∷◌, ◌++◌, length, get_or, take, sym, refl, ap, ◌∙◌, inl, inr, arith}
use lib.ListN.{length-map}
use lib.Seq.{take-append-le, take-append_seam}
use Rattle.std.proofs.lemmas.List.{map-append, get_or_append_left, get_or_push, length_push}
use Rattle.std.proofs.str.Laws.{order}
use Rattle.chart.specs.declared.fields.Placed.{Placed}
use Rattle.chart.specs.Fields.{Field, encode_all, place_at}
use Rattle.chart.specs.Listing.{fields_in, places_in}
use Rattle.chart.specs.Stated.{stated}

-- these are the fields of the row, each at its place
pub record Gathered (ps : List Placed) (row : List Field) : Type 0 where
  pub fields : fields_in ps ≡ row
  pub places : (i : ℕ) → i < length ps → get_or (places_in ps) i 0 ≡ place_at (fields_in ps) i

pub gathered_none : Gathered [] []
gathered_none = record { fields = refl; places = λ i l. absurd (omega arith) }

pub gathered_more : (ps : List Placed) (p : Placed) (row : List Field) → p.place ≡ length (encode_all row) → Gathered ps row → Gathered (ps ++ (p ∷ [])) (row ++ (stated p.field ∷ []))
gathered_more ps p row at g =
    let fields = map-append (λ p. stated p.field) ps (p ∷ []) in
    let places = map-append (λ (p : Placed). p.place) ps (p ∷ []) in
    let long : length (fields_in ps) ≡ length ps = length-map ps (λ p. stated p.field) in
    let long' : length (places_in ps) ≡ length ps = length-map ps (λ (p : Placed). p.place) in
    let old : (i : ℕ) → i < length ps → get_or (places_in (ps ++ (p ∷ []))) i 0 ≡ place_at (fields_in (ps ++ (p ∷ []))) i =
    λ i l.
    ap (λ x. get_or x i 0) places ∙ get_or_append_left (places_in ps) (p.place ∷ []) 0 i (omega arith) ∙ g.places i l
    ∙ sym (ap (λ x. place_at x i) fields ∙ ap (λ x. length (encode_all x)) (take-append-le i (fields_in ps) (stated p.field ∷ []) (omega arith))) in
    let new : (i : ℕ) → i ≡ length ps → get_or (places_in (ps ++ (p ∷ []))) i 0 ≡ place_at (fields_in (ps ++ (p ∷ []))) i =
    λ i e.
    ap (λ x. get_or x i 0) places ∙ get_or_push (places_in ps) p.place 0 i (long' ∙ sym e) ∙ at ∙ ap (λ x. length (encode_all x)) (sym g.fields)
    ∙ sym (
    ap (λ x. place_at x i) fields
    ∙ ap (λ n. length (encode_all (take n (fields_in ps ++ (stated p.field ∷ []))))) (e ∙ sym long)
    ∙ ap (λ x. length (encode_all x)) (take-append_seam (fields_in ps) (stated p.field ∷ []))
    ) in
    record {
      fields = fields ∙ ap (λ r. r ++ (stated p.field ∷ [])) g.fields;
      places = λ i l. elim (order i (length ps)) [ inl below ↦ old i below | inr above ↦ new i (omega (arith, length_push ps p)) ];
    }
