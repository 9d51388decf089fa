-- Rows of fields and the bytes that they are written in.
use Rattle.std.proofs.Common.{◌≡◌, ℕ, suc, ◌+◌, ◌*◌, ◌≤◌, Bool, true, cond, ◌&&◌, ltb, List, [], ◌∷◌, ◌++◌, reverse, length, take, drop, None, Ok, Err, Result, sym, refl, ap, ◌∙◌, ap₂, append_assoc, append-nil, arith, length-append, le-ltb}
use mathlib.Core.List.{reverse_aux}
use lib.Seq.{take-append_seam, drop-append_seam}
use Rattle.std.proofs.lemmas.List.{reverse-append}
use Rattle.chart.specs.declared.refusals.Refusal.{Refusal}
use Rattle.chart.specs.declared.refusals.Refusal.TheVariants.{CutShort, OutOfOrder}
use Rattle.chart.specs.Kinds.{tag_code}
use Rattle.chart.specs.Fields.{Field, tag_of, contents, encode, encode_all}
use Rattle.chart.specs.WellFormed.{every, well_formed}
use Rattle.chart.specs.Order.{may_follow, ordered}
use Rattle.chart.specs.Limits.{counts_of, exceeded, within_limits}
use Rattle.chart.specs.Files.{is_row, piece}
use Rattle.chart.specs.Decoding.{decode}
use Rattle.chart.specs.Reading.{formed, tagged, judge, unless_exceeded, limited, prepend, onward, read_from}
use Rattle.chart.proofs.Bools.{both, join}
use Rattle.chart.proofs.Bytes.{halves}
use Rattle.chart.proofs.Counting.{within_none, none_within, counts_reverse, fewer}
use Rattle.chart.proofs.Forms.{tag_back, decoded}

-- One field more at the end of a row.

pub encode_append : (fs gs : List Field) → encode_all (fs ++ gs) ≡ encode_all fs ++ encode_all gs
encode_append [] gs = refl
encode_append (f ∷ fs) gs = ap (λ r. encode f ++ r) (encode_append fs gs) ∙ sym (append_assoc (encode f) (encode_all fs) (encode_all gs))

pub encode_push : (fs : List Field) (f : Field) → encode_all (fs ++ (f ∷ [])) ≡ encode_all fs ++ encode f
encode_push fs f = encode_append fs (f ∷ []) ∙ ap (λ r. encode_all fs ++ r) (append-nil (encode f))

ordered_push : (fs bs : List Field) (f : Field) → ordered bs fs ≡ true → may_follow (reverse_aux fs bs) (tag_of f) ≡ true → ordered bs (fs ++ (f ∷ [])) ≡ true
ordered_push [] bs f o m = join (may_follow bs (tag_of f)) true m refl
ordered_push (g ∷ fs) bs f o m =
    let r = both (may_follow bs (tag_of g)) (ordered (g ∷ bs) fs) o in
    join (may_follow bs (tag_of g)) (ordered (g ∷ bs) (fs ++ (f ∷ []))) r.0 (ordered_push fs (g ∷ bs) f r.1 m)

every_push : (p : Field → Bool) (fs : List Field) (f : Field) → every p fs ≡ true → p f ≡ true → every p (fs ++ (f ∷ [])) ≡ true
every_push p [] f e m = join (p f) true m refl
every_push p (g ∷ fs) f e m = let r = both (p g) (every p fs) e in join (p g) (every p (fs ++ (f ∷ []))) r.0 (every_push p fs f r.1 m)

-- a row taken apart
pub record Good (fs : List Field) : Type 0 where
  pub order : ordered [] fs ≡ true
  pub forms : every well_formed fs ≡ true
  pub limits : exceeded (counts_of (reverse fs)) ≡ None

pub good : (fs : List Field) → is_row fs ≡ true → Good fs
good fs h =
    let r = both (ordered [] fs && every well_formed fs) (within_limits fs) h in
    let s = both (ordered [] fs) (every well_formed fs) r.0 in
    record { order = s.0; forms = s.1; limits = ap exceeded (counts_reverse fs) ∙ within_none fs r.1 }

pub row : (fs : List Field) → Good fs → is_row fs ≡ true
row fs g =
    join (ordered [] fs && every well_formed fs) (within_limits fs) (join (ordered [] fs) (every well_formed fs) g.order g.forms)
    (none_within fs (sym (ap exceeded (counts_reverse fs)) ∙ g.limits))

pub reverse_push : (fs : List Field) (f : Field) → reverse (fs ++ (f ∷ [])) ≡ f ∷ reverse fs
reverse_push fs f = reverse-append fs (f ∷ [])

-- a field may stand behind these, given nearest first
pub record Stands (before : List Field) (f : Field) : Type 0 where
  pub order : may_follow before (tag_of f) ≡ true
  pub form : well_formed f ≡ true
  pub limits : exceeded (counts_of (f ∷ before)) ≡ None

pub row_push : (fs : List Field) (f : Field) → is_row fs ≡ true → Stands (reverse fs) f → is_row (fs ++ (f ∷ [])) ≡ true
row_push fs f h s =
    let g = good fs h in
    row (fs ++ (f ∷ [])) (record {
      order = ordered_push fs [] f g.order s.order;
      forms = every_push well_formed fs f g.forms s.form;
      limits = ap (λ r. exceeded (counts_of r)) (reverse_push fs f) ∙ s.limits;
    })

-- Reading along a row.

abbrev pub prepend_all : List Field → Result (List Field) Refusal → Result (List Field) Refusal
prepend_all [] r = r
prepend_all (f ∷ fs) r = prepend f (prepend_all fs r)

pub prepend_ok : (fs : List Field) → prepend_all fs (Ok []) ≡ Ok fs
prepend_ok [] = refl
prepend_ok (f ∷ fs) = ap (prepend f) (prepend_ok fs)

pub prepend_err : (fs : List Field) (e : Refusal) → prepend_all fs (Err e) ≡ Err e
prepend_err [] e = refl
prepend_err (f ∷ fs) e = ap (prepend f) (prepend_err fs e)

-- what a whole piece is read as
pub read_piece : (n : ℕ) (bs : List Field) (p code : ℕ) (c more : List ℕ)
    → read_from (suc n) bs p (piece code c ++ more) ≡ onward (limited p bs (judge (may_follow bs) p code c)) (λ g. read_from n (g ∷ bs) (p + (3 + length c)) more)
read_piece n bs p code c more =
    let go = λ (size : ℕ) (x y : List ℕ). onward (limited p bs (judge (may_follow bs) p code x)) (λ g. read_from n (g ∷ bs) (p + (3 + size)) y) in
    let enough : length c ≤ length (c ++ more) = omega (arith, length-append c more) in
    ap (λ size. cond (ltb (length (c ++ more)) size) (Err (CutShort p)) (go size (take size (c ++ more)) (drop size (c ++ more)))) (halves (length c))
    ∙ ap (λ t. cond t (Err (CutShort p)) (go (length c) (take (length c) (c ++ more)) (drop (length c) (c ++ more)))) (le-ltb (length (c ++ more)) (length c) enough)
    ∙ ap₂ (go (length c)) (take-append_seam c more) (drop-append_seam c more)

-- a field that may stand there is judged good
pub judge_good : (bs : List Field) (p : ℕ) (f : Field) → Stands bs f → limited p bs (judge (may_follow bs) p (tag_code (tag_of f)) (contents f)) ≡ Ok f
judge_good bs p f s =
    ap (λ o. limited p bs (tagged (may_follow bs) p (tag_code (tag_of f)) (contents f) o)) (tag_back (tag_of f))
    ∙ ap (λ b. limited p bs (cond b (formed p (tag_of f) (decode (tag_of f) (contents f))) (Err (OutOfOrder p (tag_of f))))) s.order
    ∙ ap (λ r. limited p bs (formed p (tag_of f) r)) (decoded f s.form)
    ∙ ap (unless_exceeded p f) s.limits

read_field : (n : ℕ) (bs : List Field) (p : ℕ) (f : Field) (more : List ℕ) → Stands bs f → read_from (suc n) bs p (encode f ++ more) ≡ prepend f (read_from n (f ∷ bs) (p + length (encode f)) more)
read_field n bs p f more s =
    read_piece n bs p (tag_code (tag_of f)) (contents f) more
    ∙ ap (λ r. onward r (λ g. read_from n (g ∷ bs) (p + (3 + length (contents f))) more)) (judge_good bs p f s)
    ∙ ap (λ q. prepend f (read_from n (f ∷ bs) q more)) (let e : p + (3 + length (contents f)) ≡ p + length (encode f) = omega arith in e)

pub along : (fs bs : List Field) (m p : ℕ) (rest : List ℕ) → ordered bs fs ≡ true → every well_formed fs ≡ true → exceeded (counts_of (reverse_aux fs bs)) ≡ None
    → read_from (length fs + m) bs p (encode_all fs ++ rest) ≡ prepend_all fs (read_from m (reverse_aux fs bs) (p + length (encode_all fs)) rest)
along [] bs m p rest o w l = ap₂ (λ n q. read_from n bs q rest) (let e : 0 + m ≡ m = omega arith in e) (let e : p ≡ p + 0 = omega arith in e)
along (f ∷ fs) bs m p rest o w l =
    let o' = both (may_follow bs (tag_of f)) (ordered (f ∷ bs) fs) o in
    let w' = both (well_formed f) (every well_formed fs) w in
    let s : Stands bs f = record { order = o'.0; form = w'.0; limits = fewer fs (f ∷ bs) l } in
    ap₂ (λ n b. read_from n bs p b) (let e : suc (length fs) + m ≡ suc (length fs + m) = omega arith in e) (append_assoc (encode f) (encode_all fs) rest)
    ∙ read_field (length fs + m) bs p f (encode_all fs ++ rest) s
    ∙ ap (prepend f) (along fs (f ∷ bs) m (p + length (encode f)) rest o'.1 w'.1 l)
    ∙ ap (λ q. prepend f (prepend_all fs (read_from m (reverse_aux fs (f ∷ bs)) q rest))) (
    let e : p + length (encode f) + length (encode_all fs) ≡ p + length (encode f ++ encode_all fs) = omega (arith, length-append (encode f) (encode_all fs)) in e
    )

-- a field has three bytes at least
pub fields_bytes : (fs : List Field) → 3 * length fs ≤ length (encode_all fs)
fields_bytes [] = omega arith
fields_bytes (f ∷ fs) = let r = fields_bytes fs in omega (arith, length-append (encode f) (encode_all fs))
