-- Where the fields of a row stand in its bytes, and what stands at a byte place.
use Rattle.std.proofs.Common.{◌≡◌, ℕ, zero, suc, ◌+◌, ◌<◌, ◌≤◌, true, cond, ltb, List, [], ◌∷◌, ◌++◌, length, get_or, take, drop, Some, None, Ok, Err, Result, sym, refl, ap, ◌∙◌, arith, length-append, drop-drop, le-ltb}
use lib.Seq.{split_at, take-append_seam, drop-append_seam}
use Rattle.std.specs.Result.{result_ok}
use Rattle.chart.specs.declared.fields.Field.{Field as Lent}
use Rattle.chart.specs.declared.kinds.SignalKind.{SignalKind}
use Rattle.chart.specs.declared.kinds.StateKind.{StateKind}
use Rattle.chart.specs.declared.refusals.Part.{Part}
use Rattle.chart.specs.Kinds.{tag_code, tag_from}
use Rattle.chart.specs.Fields.{Field, signal, state, graph, trigger, effects, tag_of, contents, encode, encode_all, place_at}
use Rattle.chart.specs.WellFormed.{every, well_formed}
use Rattle.chart.specs.Files.{is_row, piece}
use Rattle.chart.specs.Lookup.{field_of, first_field, field_at}
use Rattle.chart.specs.Stated.{stated_by, stated_if}
use Rattle.chart.proofs.Bools.{both}
use Rattle.chart.proofs.Bytes.{halves}
use Rattle.chart.proofs.Forms.{tag_back, decoded}
use Rattle.chart.proofs.Rows.{good, encode_append}

-- The field in front of some bytes.

pub first_piece : (code : ℕ) (c more : List ℕ) → first_field (piece code c ++ more) ≡ field_of (tag_from code) c
first_piece code c more =
    let enough : length c ≤ length (c ++ more) = omega (arith, length-append c more) in
    ap (λ size. cond (ltb (length (c ++ more)) size) None (field_of (tag_from code) (take size (c ++ more)))) (halves (length c))
    ∙ ap (λ t. cond t None (field_of (tag_from code) (take (length c) (c ++ more)))) (le-ltb (length (c ++ more)) (length c) enough)
    ∙ ap (field_of (tag_from code)) (take-append_seam c more)

first_encoded : (f : Field) (more : List ℕ) → well_formed f ≡ true → first_field (encode f ++ more) ≡ Some f
first_encoded f more h = first_piece (tag_code (tag_of f)) (contents f) more ∙ ap (λ t. field_of t (contents f)) (tag_back (tag_of f)) ∙ ap result_ok (decoded f h)

pub stated_ok : (r : Result Lent Part) → stated_if (result_ok r) ≡ result_ok (stated_by r)
stated_ok (Ok f) = refl
stated_ok (Err part) = refl

-- The field at i of a row.

every_at : (fs : List Field) → every well_formed fs ≡ true → (i : ℕ) → i < length fs → well_formed (get_or fs i (graph 0)) ≡ true
every_at [] h i l = absurd (omega arith)
every_at (f ∷ fs) h zero l = (both (well_formed f) (every well_formed fs) h).0
every_at (f ∷ fs) h (suc i) l = every_at fs (both (well_formed f) (every well_formed fs) h).1 i (omega arith)

-- it is well formed
pub formed_at : (fs : List Field) → is_row fs ≡ true → (i : ℕ) → i < length fs → well_formed (get_or fs i (graph 0)) ≡ true
formed_at fs h i l = every_at fs (good fs h).forms i l

-- the bytes of the fields in front of it, its own, and those of the fields behind it
around : (fs : List Field) (i : ℕ) → i < length fs → encode_all fs ≡ encode_all (take i fs) ++ (encode (get_or fs i (graph 0)) ++ encode_all (drop (suc i) fs))
around fs i l = ap encode_all (split_at fs i (graph 0) l) ∙ encode_append (take i fs) (get_or fs i (graph 0) ∷ drop (suc i) fs)

-- it ends within the bytes
pub place_below : (fs : List Field) (i : ℕ) → i < length fs → place_at fs i + 3 + length (contents (get_or fs i (graph 0))) ≤ length (encode_all fs)
place_below fs i l =
    let f = get_or fs i (graph 0) in
    let front = encode_all (take i fs) in
    let more = encode_all (drop (suc i) fs) in
    omega (arith, ap length (around fs i l), length-append front (encode f ++ more), length-append (encode f) more)

-- the bytes from its place on
from_place : (fs : List Field) (i : ℕ) → i < length fs → drop (place_at fs i) (encode_all fs) ≡ encode (get_or fs i (graph 0)) ++ encode_all (drop (suc i) fs)
from_place fs i l = ap (drop (place_at fs i)) (around fs i l) ∙ drop-append_seam (encode_all (take i fs)) (encode (get_or fs i (graph 0)) ++ encode_all (drop (suc i) fs))

-- it stands at its place
pub stands : (fs : List Field) → is_row fs ≡ true → (i : ℕ) → i < length fs → field_at (encode_all fs) (place_at fs i) ≡ Some (get_or fs i (graph 0))
stands fs h i l = ap first_field (from_place fs i l) ∙ first_encoded (get_or fs i (graph 0)) (encode_all (drop (suc i) fs)) (formed_at fs h i l)

-- the bytes from n behind its place on
from_behind : (fs : List Field) (i n : ℕ) (f : Field) → i < length fs → get_or fs i (graph 0) ≡ f → drop (place_at fs i + n) (encode_all fs) ≡ drop n (encode f ++ encode_all (drop (suc i) fs))
from_behind fs i n f l is = sym (drop-drop n (place_at fs i) (encode_all fs)) ∙ ap (drop n) (from_place fs i l ∙ ap (λ g. encode g ++ encode_all (drop (suc i) fs)) is)

-- its contents stand behind the tag and the length
pub contents_at : (fs : List Field) (i : ℕ) → i < length fs → take (length (contents (get_or fs i (graph 0)))) (drop (place_at fs i + 3) (encode_all fs)) ≡ contents (get_or fs i (graph 0))
contents_at fs i l =
    let f = get_or fs i (graph 0) in
    ap (take (length (contents f))) (from_behind fs i 3 f l refl) ∙ take-append_seam (contents f) (encode_all (drop (suc i) fs))

-- Names, postfix and signal numbers stand at the end of the contents.

module _ (fs : List Field) (i : ℕ) (l : i < length fs) where
  abbrev behind : List ℕ
  behind = encode_all (drop (suc i) fs)

  pub signal_name_at : (k : SignalKind) (name : List ℕ) → get_or fs i (graph 0) ≡ signal k name → take (length name) (drop (place_at fs i + 4) (encode_all fs)) ≡ name
  signal_name_at k name is = ap (take (length name)) (from_behind fs i 4 (signal k name) l is) ∙ take-append_seam name behind

  pub state_name_at : (g : ℕ) (k : StateKind) (name : List ℕ) → get_or fs i (graph 0) ≡ state g k name → take (length name) (drop (place_at fs i + 6) (encode_all fs)) ≡ name
  state_name_at g k name is = ap (take (length name)) (from_behind fs i 6 (state g k name) l is) ∙ take-append_seam name behind

  pub trigger_at_lem : (p : List ℕ) → get_or fs i (graph 0) ≡ trigger p → take (length p) (drop (place_at fs i + 3) (encode_all fs)) ≡ p
  trigger_at_lem p is = ap (take (length p)) (from_behind fs i 3 (trigger p) l is) ∙ take-append_seam p behind

  pub effects_at_lem : (e : List ℕ) → get_or fs i (graph 0) ≡ effects e → take (length e) (drop (place_at fs i + 3) (encode_all fs)) ≡ e
  effects_at_lem e is = ap (take (length e)) (from_behind fs i 3 (effects e) l is) ∙ take-append_seam e behind
