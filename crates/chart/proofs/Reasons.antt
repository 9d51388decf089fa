-- Why files pass or are refused: the definitions in words and the computation agree.
use Rattle.std.proofs.Common.{◌≡◌, ℕ, suc, ◌+◌, ◌-◌, ◌*◌, ◌<◌, ◌≤◌, Bool, true, false, cond, eqb, ltb, ◌⊎◌, ◌↔◌, List, [], ◌∷◌, ◌++◌, reverse, length, take, drop, Some, None, Ok, Err, Option, Result, sym, refl, ap, ◌∙◌, subst, ap₂, inl, inr, arith, length-append, ltb-false, ltb-true, le-ltb, lt-ltb, eq-eqb, ne_eqb, eqb-true}
use borrow.Author.Tests.{eqb-false}
use Rattle.chart.specs.declared.kinds.Tag.{Tag}
use Rattle.chart.specs.declared.refusals.Part.{Part}
use Rattle.chart.specs.declared.refusals.Refusal.{Refusal}
use Rattle.chart.specs.declared.refusals.Refusal.TheVariants.{Empty, TooLong, CutShort, UnknownTag, OutOfOrder, NotAllowed, BeyondLimit}
use Rattle.chart.specs.Kinds.{tag_code, tag_from}
use Rattle.chart.specs.Fields.{Field, tag_of, contents, encode_all, place_at}
use Rattle.chart.specs.WellFormed.{every, is_byte}
use Rattle.chart.specs.Order.{may_follow}
use Rattle.chart.specs.Decoding.{word_at, decode}
use Rattle.chart.specs.Files.{Sized, Passes, piece, Faulty, cut_short, unknown_tag, out_of_order, not_allowed, beyond_limit, Refused, empty, too_long, at_field}
use Rattle.chart.specs.Laws.{Written, FormatLaws, LookupLaws}
use Rattle.chart.specs.Lookup.{field_at}
use Rattle.chart.specs.Reading.{formed, tagged, judge, unless_exceeded, limited, onward, read_from, read}
use Rattle.chart.proofs.Forms.{tag_back, decoded, written}
use Rattle.chart.proofs.Judging.{tag_code_lem}
use Rattle.chart.proofs.Places.{stands}
use Rattle.chart.proofs.Results.{ok_same, err_same, err_ok}
use Rattle.chart.proofs.Rows.{good, row, read_piece, along, prepend_all, prepend_err, fields_bytes}
use Rattle.chart.proofs.Stepping.{read_row}
use Rattle.chart.proofs.Telling.{Outcome, tell}

unknown : (code : ℕ) → ((t : Tag) → tag_code t ≡ code → ⊥) → tag_from code ≡ None
unknown code h = go (tag_from code) refl
  where
    go : (o : Option Tag) → tag_from code ≡ o → o ≡ None
    go None e = refl
    go (Some t) e = absurd (h t (tag_code_lem code t e))

-- a fault is read as a refusal
module _ (n : ℕ) (before : List Field) (p : ℕ) where
  bad_piece : (code : ℕ) (c more rest : List ℕ) (e : Refusal) → rest ≡ piece code c ++ more → limited p before (judge (may_follow before) p code c) ≡ Err e → read_from (suc n) before p rest ≡ Err e
  bad_piece code c more rest e is j =
      ap (read_from (suc n) before p) is ∙ read_piece n before p code c more ∙ ap (λ r. onward r (λ g. read_from n (g ∷ before) (p + (3 + length c)) more)) j

  cut_read : (rest : List ℕ) → 1 ≤ length rest → (3 ≤ length rest → length rest < 3 + word_at rest 1) → read_from (suc n) before p rest ≡ Err (CutShort p)
  cut_read [] some less = absurd (omega arith)
  cut_read (a ∷ []) some less = refl
  cut_read (a ∷ (x ∷ [])) some less = refl
  cut_read (a ∷ (x ∷ (y ∷ rest))) some less =
      let h = less (omega arith) in
      ap (λ t. cond t (Err (CutShort p)) (onward (limited p before (judge (may_follow before) p a (take (x * 256 + y) rest))) (λ f. read_from n (f ∷ before) (p + (3 + (x * 256 + y))) (drop (x * 256 + y) rest))))
      (lt-ltb (length rest) (x * 256 + y) (omega arith))

  of_tag : (t : Tag) (c : List ℕ) → judge (may_follow before) p (tag_code t) c ≡ cond (may_follow before t) (formed p t (decode t c)) (Err (OutOfOrder p t))
  of_tag t c = ap (tagged (may_follow before) p (tag_code t) c) (tag_back t)

  pub fault_read : (rest : List ℕ) (e : Refusal) → Faulty before p rest e → read_from (suc n) before p rest ≡ Err e
  fault_read rest e (cut_short some less) = cut_read rest some less
  fault_read rest e (unknown_tag code c more is none) = bad_piece code c more rest (UnknownTag p code) is (ap (λ o. limited p before (tagged (may_follow before) p code c o)) (unknown code none))
  fault_read rest e (out_of_order t c more is none) =
      bad_piece (tag_code t) c more rest (OutOfOrder p t) is (ap (limited p before) (of_tag t c ∙ ap (λ b. cond b (formed p t (decode t c)) (Err (OutOfOrder p t))) none))
  fault_read rest e (not_allowed t part c more is may d) =
      bad_piece (tag_code t) c more rest (NotAllowed p t part) is
      (ap (limited p before) (of_tag t c ∙ ap (λ b. cond b (formed p t (decode t c)) (Err (OutOfOrder p t))) may ∙ ap (formed p t) d))
  fault_read rest e (beyond_limit f l more is may w x) =
      bad_piece (tag_code (tag_of f)) (contents f) more rest (BeyondLimit p l) is (
      ap (limited p before) (of_tag (tag_of f) (contents f) ∙ ap (λ b. cond b (formed p (tag_of f) (decode (tag_of f) (contents f))) (Err (OutOfOrder p (tag_of f)))) may ∙ ap (formed p (tag_of f)) (decoded f w))
      ∙ ap (unless_exceeded p f) x
      )

-- some bytes, and not too many
sized_read : (b : List ℕ) → Sized b → read b ≡ read_from (length b) [] 0 b
sized_read b s =
    ap (λ t. cond t (Err Empty) (cond (ltb 16384 (length b)) (Err (TooLong (length b))) (read_from (length b) [] 0 b))) (ne_eqb (length b) 0 (λ e. omega (arith, s.some)))
    ∙ ap (λ t. cond t (Err (TooLong (length b))) (read_from (length b) [] 0 b)) (le-ltb 16384 (length b) s.most)

pub passes_read : (b : List ℕ) (fs : List Field) → Passes b fs → read b ≡ Ok fs
passes_read b fs h =
    sized_read b h.size ∙ ap (λ x. read_from (length b) [] 0 x) h.bytes ∙ read_row fs (length b) h.row (let e : length (encode_all fs) ≤ length b = omega (arith, ap length h.bytes) in e)

faulty_some : (before : List Field) (p : ℕ) (rest : List ℕ) (e : Refusal) → Faulty before p rest e → 1 ≤ length rest
faulty_some before p rest e (cut_short some less) = some
faulty_some before p rest e (unknown_tag code c more is none) = omega (arith, ap length is)
faulty_some before p rest e (out_of_order t c more is none) = omega (arith, ap length is)
faulty_some before p rest e (not_allowed t part c more is may d) = omega (arith, ap length is)
faulty_some before p rest e (beyond_limit f l more is may w x) = omega (arith, ap length is)

pub refused_read : (b : List ℕ) (e : Refusal) → Refused b e → read b ≡ Err e
refused_read b e (empty none) = ap (λ t. cond t (Err Empty) (cond (ltb 16384 (length b)) (Err (TooLong (length b))) (read_from (length b) [] 0 b))) (eq-eqb (length b) 0 none)
refused_read b e (too_long long) =
    ap (λ t. cond t (Err Empty) (cond (ltb 16384 (length b)) (Err (TooLong (length b))) (read_from (length b) [] 0 b))) (ne_eqb (length b) 0 (λ z. omega arith))
    ∙ ap (λ t. cond t (Err (TooLong (length b))) (read_from (length b) [] 0 b)) (lt-ltb 16384 (length b) long)
refused_read b e (at_field fs rest size row_is is fault) =
    let g = good fs row_is in
    let m = length b - length fs - 1 in
    let some = faulty_some (reverse fs) (length (encode_all fs)) rest e fault in
    let enough : length b ≡ length fs + suc m = omega (arith, fields_bytes fs, ap length is, length-append (encode_all fs) rest) in
    sized_read b size
    ∙ ap₂ (λ n x. read_from n [] 0 x) enough is
    ∙ along fs [] (suc m) 0 rest g.order g.forms g.limits
    ∙ ap (λ p. prepend_all fs (read_from (suc m) (reverse fs) p rest)) (let z : 0 + length (encode_all fs) ≡ length (encode_all fs) = omega arith in z)
    ∙ ap (prepend_all fs) (fault_read m (reverse fs) (length (encode_all fs)) rest e fault) ∙ prepend_err fs e

-- What reading says holds.

Holds : List ℕ → Result (List Field) Refusal → Type 0
Holds b (Ok fs) = Passes b fs
Holds b (Err e) = Refused b e

from_start : (b : List ℕ) → Sized b → (r : Result (List Field) Refusal) → Outcome [] 0 b r → Holds b r
unfolding Holds
from_start b s (Ok fs) o = record { size = s; row = row fs (record { order = o.0.order; forms = o.0.forms; limits = o.0.limits }); bytes = o.1 }
from_start b s (Err e) o =
    at_field o.fs o.rest s (row o.fs (record { order = o.row.order; forms = o.row.forms; limits = o.row.limits })) o.bytes
    (subst (λ p. Faulty (reverse o.fs) p o.rest e) (let z : 0 + length (encode_all o.fs) ≡ length (encode_all o.fs) = omega arith in z) o.fault)

holds : (b : List ℕ) → every is_byte b ≡ true → Holds b (read b)
unfolding Holds
holds b h = by_empty (eqb (length b) 0) refl
  where
    reading : Sized b → Holds b (read_from (length b) [] 0 b)
    reading s = from_start b s (read_from (length b) [] 0 b) (tell (length b) [] 0 b (omega arith) h refl)

    by_length : (length b ≡ 0 → ⊥) → (t : Bool) → ltb 16384 (length b) ≡ t → Holds b (cond t (Err (TooLong (length b))) (read_from (length b) [] 0 b))
    by_length some true e = too_long (ltb-true 16384 (length b) e)
    by_length some false e = reading (record { some = omega (arith, some); most = ltb-false 16384 (length b) e })

    by_empty : (t : Bool) → eqb (length b) 0 ≡ t → Holds b (cond t (Err Empty) (cond (ltb 16384 (length b)) (Err (TooLong (length b))) (read_from (length b) [] 0 b)))
    by_empty true e = empty (eqb-true (length b) 0 e)
    by_empty false e = by_length (eqb-false (length b) 0 e) (ltb 16384 (length b)) refl

some : (b : List ℕ) → every is_byte b ≡ true → ((fs : List Field) × Passes b fs) ⊎ ((e : Refusal) × Refused b e)
unfolding Holds
some b h = go (read b) (holds b h)
  where
    go : (r : Result (List Field) Refusal) → Holds b r → ((fs : List Field) × Passes b fs) ⊎ ((e : Refusal) × Refused b e)
    go (Ok fs) p = inl (fs, p)
    go (Err e) p = inr (e, p)

field : (t : Tag) (c : List ℕ) → every is_byte c ≡ true → (f : Field) → (decode t c ≡ Ok f) ↔ Written t c f
field t c h f = (written t c f h, λ w. ap₂ decode (sym w.tag) (sym w.bytes) ∙ decoded f w.formed)

no_field : (t : Tag) (c : List ℕ) → every is_byte c ≡ true → ((part : Part) × (decode t c ≡ Err part)) ↔ ((f : Field) → Written t c f → ⊥)
no_field t c h = (λ r f w. err_ok r.0 f (sym r.1 ∙ (field t c h f).1 w), λ none. go none (decode t c) refl)
  where
    go : ((f : Field) → Written t c f → ⊥) → (r : Result Field Part) → decode t c ≡ r → (part : Part) × (decode t c ≡ Err part)
    go none (Ok f) e = absurd (none f (written t c f h e))
    go none (Err part) e = (part, e)

pub format_laws_lem : FormatLaws
unfolding Holds
format_laws_lem = record {
  field = field;
  no_field = no_field;
  some = some;
  one_row = λ b fs gs p q. ok_same fs gs (sym (passes_read b fs p) ∙ passes_read b gs q);
  one_reason = λ b d e p q. err_same d e (sym (refused_read b d p) ∙ refused_read b e q);
  not_both = λ b fs e p q. err_ok e fs (sym (refused_read b e q) ∙ passes_read b fs p);
  passes = λ b h fs. (λ e. subst (Holds b) e (holds b h), passes_read b fs);
  refuses = λ b h e. (λ r. subst (Holds b) r (holds b h), refused_read b e);
}

pub lookup_laws_lem : LookupLaws
lookup_laws_lem = record { at_place = λ b fs p i l. ap (λ x. field_at x (place_at fs i)) p.bytes ∙ stands fs p.row i l }
