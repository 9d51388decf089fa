-- What reading tells of the bytes: they are the encodings of a row, or have a fault behind one.
use Rattle.std.proofs.Common.{◌≡◌, ℕ, zero, suc, ◌+◌, ◌*◌, ◌≤◌, Bool, true, false, cond, ltb, List, [], ◌∷◌, ◌++◌, length, take, drop, Some, None, Ok, Err, Option, Result, sym, refl, ap, ◌∙◌, subst, ap₂, append_assoc, arith, length-append, length-drop, length-take, ltb-false, ltb-true}
use mathlib.Core.List.{reverse_aux}
use Rattle.chart.specs.declared.refusals.Limit.{Limit}
use Rattle.chart.specs.declared.refusals.Refusal.{Refusal}
use Rattle.chart.specs.declared.refusals.Refusal.TheVariants.{CutShort, BeyondLimit}
use Rattle.chart.specs.Fields.{Field, tag_of, contents, encode, encode_all}
use Rattle.chart.specs.WellFormed.{every, is_byte, well_formed}
use Rattle.chart.specs.Order.{may_follow, ordered}
use Rattle.chart.specs.Limits.{counts_of, exceeded}
use Rattle.chart.specs.Files.{piece, Faulty, cut_short}
use Rattle.chart.specs.Reading.{judge, unless_exceeded, limited, prepend, onward, read_from}
use Rattle.chart.proofs.Bools.{join}
use Rattle.chart.proofs.Bytes.{byte_first, byte_rest, take_bytes, drop_bytes}
use Rattle.chart.proofs.Cutting.{split}
use Rattle.chart.proofs.Judging.{judged, judged_fault, judged_written, judged_stands, limit_fault}
use Rattle.chart.proofs.Rows.{Stands}

-- a row behind these fields, which is written in these bytes
pub record RowBehind (before fs : List Field) : Type 0 where
  pub order : ordered before fs ≡ true
  pub forms : every well_formed fs ≡ true
  pub limits : exceeded (counts_of (reverse_aux fs before)) ≡ None

pub record Stopped (before : List Field) (p : ℕ) (b : List ℕ) (e : Refusal) : Type 0 where
  pub fs : List Field
  pub rest : List ℕ
  pub row : RowBehind before fs
  pub bytes : b ≡ encode_all fs ++ rest
  pub fault : Faulty (reverse_aux fs before) (p + length (encode_all fs)) rest e

abbrev pub Outcome : List Field → ℕ → List ℕ → Result (List Field) Refusal → Type 0
Outcome before p b (Ok fs) = RowBehind before fs × (b ≡ encode_all fs)
Outcome before p b (Err e) = Stopped before p b e

stopped_here : (before : List Field) (p : ℕ) (b : List ℕ) (e : Refusal) → exceeded (counts_of before) ≡ None → Faulty before p b e → Stopped before p b e
stopped_here before p b e l f = record {
  fs = [];
  rest = b;
  row = record { order = refl; forms = refl; limits = l };
  bytes = refl;
  fault = subst (λ q. Faulty before q b e) (let z : p ≡ p + 0 = omega arith in z) f;
}

row_cons : (before : List Field) (f : Field) (fs : List Field) → Stands before f → RowBehind (f ∷ before) fs → RowBehind before (f ∷ fs)
row_cons before f fs s r = record {
  order = join (may_follow before (tag_of f)) (ordered (f ∷ before) fs) s.order r.order;
  forms = join (well_formed f) (every well_formed fs) s.form r.forms;
  limits = r.limits;
}

-- one field in front of what is told of the rest
outcome_cons : (before : List Field) (p : ℕ) (f : Field) (b more : List ℕ) → b ≡ encode f ++ more → Stands before f
    → (r : Result (List Field) Refusal) → Outcome (f ∷ before) (p + length (encode f)) more r → Outcome before p b (prepend f r)
outcome_cons before p f b more is s (Ok fs) o = (row_cons before f fs s o.0, is ∙ ap (λ x. encode f ++ x) o.1)
outcome_cons before p f b more is s (Err e) o = record {
  fs = f ∷ o.fs;
  rest = o.rest;
  row = row_cons before f o.fs s o.row;
  bytes = is ∙ ap (λ x. encode f ++ x) o.bytes ∙ sym (append_assoc (encode f) (encode_all o.fs) o.rest);
  fault = subst (λ q. Faulty (reverse_aux o.fs (f ∷ before)) q o.rest e)
      (let z : p + length (encode f) + length (encode_all o.fs) ≡ p + length (encode f ++ encode_all o.fs) = omega (arith, length-append (encode f) (encode_all o.fs)) in z)
      o.fault;
}

-- a whole piece
module _ (before : List Field) (p code : ℕ) (c more b : List ℕ) (is : b ≡ piece code c ++ more) (bytes : every is_byte c ≡ true) (within : exceeded (counts_of before) ≡ None)
    (rest : Field → Result (List Field) Refusal) (told : (f : Field) → exceeded (counts_of (f ∷ before)) ≡ None → Outcome (f ∷ before) (p + (3 + length c)) more (rest f)) where
  good_piece : (f : Field) → judge (may_follow before) p code c ≡ Ok f → exceeded (counts_of (f ∷ before)) ≡ None → Outcome before p b (prepend f (rest f))
  good_piece f j l =
      let good = judged (may_follow before) p code c f j in
      let w = judged_written (may_follow before) code c f bytes good in
      let whole : b ≡ encode f ++ more = is ∙ ap₂ (λ n d. piece n d ++ more) (sym w.1) (sym w.0.bytes) in
      let long : length (contents f) ≡ length c = ap length w.0.bytes in
      outcome_cons before p f b more whole (judged_stands (may_follow before) before (λ t. refl) code c bytes f good l) (rest f)
      (subst (λ q. Outcome (f ∷ before) q more (rest f)) (let z : p + (3 + length c) ≡ p + length (encode f) = omega arith in z) (told f l))

  on_limit : (f : Field) → judge (may_follow before) p code c ≡ Ok f → (o : Option Limit) → exceeded (counts_of (f ∷ before)) ≡ o → Outcome before p b (onward (unless_exceeded p f o) rest)
  on_limit f j None l = good_piece f j l
  on_limit f j (Some k) l =
      stopped_here before p b (BeyondLimit p k) within (limit_fault (may_follow before) before (λ t. refl) p code c more b is bytes f k (judged (may_follow before) p code c f j) l)

  on_judge : (r : Result Field Refusal) → judge (may_follow before) p code c ≡ r → Outcome before p b (onward (limited p before r) rest)
  on_judge (Ok f) j = on_limit f j (exceeded (counts_of (f ∷ before))) refl
  on_judge (Err e) j = stopped_here before p b e within (judged_fault (may_follow before) before (λ t. refl) p code c more b is e j)

  pub on_piece : Outcome before p b (onward (limited p before (judge (may_follow before) p code c)) rest)
  on_piece = on_judge (judge (may_follow before) p code c) refl

pub tell : (n : ℕ) (before : List Field) (p : ℕ) (b : List ℕ) → length b ≤ n → every is_byte b ≡ true → exceeded (counts_of before) ≡ None → Outcome before p b (read_from n before p b)
tell zero before p [] l h w = (record { order = refl; forms = refl; limits = w }, refl)
tell zero before p (x ∷ b) l h w = absurd (omega arith)
tell (suc n) before p [] l h w = (record { order = refl; forms = refl; limits = w }, refl)
tell (suc n) before p (a ∷ []) l h w = stopped_here before p (a ∷ []) (CutShort p) w (cut_short (omega arith) (λ three. absurd (omega arith)))
tell (suc n) before p (a ∷ (x ∷ [])) l h w = stopped_here before p (a ∷ (x ∷ [])) (CutShort p) w (cut_short (omega arith) (λ three. absurd (omega arith)))
tell (suc n) before p (a ∷ (x ∷ (y ∷ rest))) l h w =
    let size = x * 256 + y in
    let b = a ∷ (x ∷ (y ∷ rest)) in
    let from_x = byte_rest a (x ∷ (y ∷ rest)) h in
    let from_y = byte_rest x (y ∷ rest) from_x in
    let onwards = onward (limited p before (judge (may_follow before) p a (take size rest))) (λ f. read_from n (f ∷ before) (p + (3 + size)) (drop size rest)) in
    let out : (t : Bool) → ltb (length rest) size ≡ t → Outcome before p b (cond t (Err (CutShort p)) onwards) =
    λ t. elim t as (λ t. ltb (length rest) size ≡ t → Outcome before p b (cond t (Err (CutShort p)) onwards)) [
      | true ↦ λ e. stopped_here before p b (CutShort p) w (cut_short (omega arith) (λ three. omega (arith, ltb-true (length rest) size e)))
      | false ↦ λ e.
          let fits : size ≤ length rest = ltb-false (length rest) size e in
          let long : length (take size rest) ≡ size = omega (arith, length-take size rest) in
          on_piece before p a (take size rest) (drop size rest) b (split a x y rest (byte_first x (y ∷ rest) from_x) (byte_first y rest from_y) fits) (take_bytes size rest (byte_rest y rest from_y)) w
          (λ f. read_from n (f ∷ before) (p + (3 + size)) (drop size rest))
          (λ f v. subst (λ k. Outcome (f ∷ before) (p + (3 + k)) (drop size rest) (read_from n (f ∷ before) (p + (3 + size)) (drop size rest))) (sym long)
          (tell n (f ∷ before) (p + (3 + size)) (drop size rest) (omega (arith, length-drop size rest)) (drop_bytes size rest (byte_rest y rest from_y)) v))
    ] in
    out (ltb (length rest) size) refl
