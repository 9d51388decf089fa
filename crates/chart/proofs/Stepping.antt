-- One step of the reader, from what it has passed.
use Rattle.std.proofs.Common.{◌≡◌, ℕ, zero, suc, ◌+◌, ◌-◌, ◌≤◌, true, List, [], ◌∷◌, ◌++◌, reverse, length, take, drop, Ok, sym, refl, ap, ◌∙◌, subst, ap₂, append-nil, arith, length-append, length-drop, take-append-drop, length-take-le, take_all, take-add}
use lib.Seq.{take-append_seam}
use Rattle.chart.specs.declared.refusals.Refusal.{Refusal}
use Rattle.chart.specs.Kinds.{tag_code}
use Rattle.chart.specs.Fields.{Field, tag_of, contents, encode, encode_all}
use Rattle.chart.specs.Files.{is_row, Sized, Passes, piece, Faulty, Refused, at_field}
use Rattle.chart.specs.Pieces.{Whole}
use Rattle.chart.specs.Progress.{before}
use Rattle.chart.specs.Reading.{read_from, or_none, row_of}
use Rattle.chart.proofs.Rows.{good, Stands, row_push, encode_push, along, prepend_all, prepend_ok, fields_bytes}

read_end : (m p : ℕ) (bs : List Field) → read_from m bs p [] ≡ Ok []
read_end zero p bs = refl
read_end (suc m) p bs = refl

-- the bytes of a row are read as that row
pub read_row : (fs : List Field) (n : ℕ) → is_row fs ≡ true → length (encode_all fs) ≤ n → read_from n [] 0 (encode_all fs) ≡ Ok fs
read_row fs n h l =
    let g = good fs h in
    let m = n - length fs in
    let few = fields_bytes fs in
    let e : n ≡ length fs + m = omega arith in
    ap₂ (λ n b. read_from n [] 0 b) e (sym (append-nil (encode_all fs)))
    ∙ along fs [] m 0 [] g.order g.forms g.limits
    ∙ ap (prepend_all fs) (read_end m (0 + length (encode_all fs)) (reverse fs)) ∙ prepend_ok fs

pub row_of_lem : (fs : List Field) → is_row fs ≡ true → row_of (encode_all fs) ≡ fs
row_of_lem fs h = ap or_none (read_row fs (length (encode_all fs)) h (omega arith))

module _ (b : List ℕ) (at : ℕ) (within : at ≤ length b) (passed : encode_all (before b at) ≡ take at b) (row : is_row (before b at) ≡ true) where
  -- the place is the length of what was passed
  pub at_is : length (encode_all (before b at)) ≡ at
  at_is = ap length passed ∙ length-take-le at b within

  -- all of the file was read
  pub all_read : Sized b → length b ≤ at → Passes b (before b at)
  all_read s l = record { size = s; row = row; bytes = sym (passed ∙ take_all at b l) }

  -- what stands at the place is faulty
  pub refused : Sized b → (rest : List ℕ) → rest ≡ drop at b → (e : Refusal) → Faulty (reverse (before b at)) at rest e → Refused b e
  refused s rest is e f =
      at_field (before b at) rest s row (sym (take-append-drop at b) ∙ ap₂ (λ x y. x ++ y) (sym passed) (sym is))
      (subst (λ p. Faulty (reverse (before b at)) p rest e) (sym at_is) f)

  module _ (rest : List ℕ) (is : rest ≡ drop at b) (code : ℕ) (c : List ℕ) (whole : Whole rest code c) (f : Field) (bytes : contents f ≡ c) (tag : tag_code (tag_of f) ≡ code) (stands : Stands (reverse (before b at)) f) where
    after : ℕ
    after = at + 3 + length c

    encoded : piece code c ≡ encode f
    encoded = ap₂ piece (sym tag) (sym bytes)

    long : length (piece code c) ≡ 3 + length c
    long = omega arith

    front : take (3 + length c) rest ≡ encode f
    front = ap (take (3 + length c)) whole ∙ ap (λ n. take n (piece code c ++ drop (3 + length c) rest)) (sym long) ∙ take-append_seam (piece code c) (drop (3 + length c) rest) ∙ encoded

    pub after_within : at + 3 + length c ≤ length b
    after_within =
        let n : length rest ≡ length b - at = ap length is ∙ length-drop at b in
        let m : length rest ≡ length (piece code c) + length (drop (3 + length c) rest) = ap length whole ∙ length-append (piece code c) (drop (3 + length c) rest) in omega arith

    taken : take (at + 3 + length c) b ≡ encode_all (before b at ++ (f ∷ []))
    taken =
        ap (λ n. take n b) (let e : at + 3 + length c ≡ at + (3 + length c) = omega arith in e) ∙ take-add at (3 + length c) b
        ∙ ap₂ (λ x y. x ++ y) (sym passed) (ap (take (3 + length c)) (sym is) ∙ front) ∙ sym (encode_push (before b at) f)

    pub row_more : is_row (before b at ++ (f ∷ [])) ≡ true
    row_more = row_push (before b at) f row stands

    -- one field more was passed
    pub before_more : before b (at + 3 + length c) ≡ before b at ++ (f ∷ [])
    before_more = ap row_of taken ∙ row_of_lem (before b at ++ (f ∷ [])) row_more

    pub passed_more : encode_all (before b (at + 3 + length c)) ≡ take (at + 3 + length c) b
    passed_more = ap encode_all before_more ∙ sym taken
