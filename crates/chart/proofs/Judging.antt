-- What a judgement of one field says.
use Rattle.std.proofs.Common.{◌≡◌, ℕ, zero, suc, ◌≤◌, Bool, true, false, cond, List, ◌∷◌, ◌++◌, Some, None, Ok, Err, Option, Result, sym, refl, ap, ◌∙◌, subst, arith, ne_eqb}
use Rattle.chart.specs.declared.kinds.Tag.{Tag}
use Rattle.chart.specs.declared.kinds.Tag.TheVariants.{Signal, State, Graph, Transition, Suspension, Trigger, Effects}
use Rattle.chart.specs.declared.refusals.Limit.{Limit}
use Rattle.chart.specs.declared.refusals.Part.{Part}
use Rattle.chart.specs.declared.refusals.Refusal.{Refusal}
use Rattle.chart.specs.declared.refusals.Refusal.TheVariants.{UnknownTag, OutOfOrder, NotAllowed, BeyondLimit}
use Rattle.chart.specs.Kinds.{tag_code, tag_from}
use Rattle.chart.specs.Fields.{Field, tag_of}
use Rattle.chart.specs.WellFormed.{every, is_byte}
use Rattle.chart.specs.Order.{may_follow}
use Rattle.chart.specs.Limits.{counts_of, exceeded}
use Rattle.chart.specs.Decoding.{decode}
use Rattle.chart.specs.Files.{piece, Faulty, unknown_tag, out_of_order, not_allowed, beyond_limit}
use Rattle.chart.specs.Reading.{formed, tagged, judge}
use Rattle.chart.specs.Laws.{Written}
use Rattle.chart.proofs.Forms.{tag_back, written}
use Rattle.chart.proofs.Results.{some_same, none_some, ok_same, err_same, err_ok}
use Rattle.chart.proofs.Rows.{Stands}

no_tag : (n : ℕ) → 8 ≤ n → tag_from n ≡ None
no_tag n l =
    rw (ne_eqb n 1 (λ e. omega arith), ne_eqb n 2 (λ e. omega arith), ne_eqb n 3 (λ e. omega arith), ne_eqb n 4 (λ e. omega arith), ne_eqb n 5 (λ e. omega arith), ne_eqb n 6 (λ e. omega arith), ne_eqb n 7 (λ e. omega arith))

pub tag_code_lem : (n : ℕ) (t : Tag) → tag_from n ≡ Some t → tag_code t ≡ n
tag_code_lem zero t e = none_some t e
tag_code_lem (suc zero) t e = ap tag_code (sym (some_same Signal t e))
tag_code_lem (suc (suc zero)) t e = ap tag_code (sym (some_same State t e))
tag_code_lem (suc (suc (suc zero))) t e = ap tag_code (sym (some_same Graph t e))
tag_code_lem (suc (suc (suc (suc zero)))) t e = ap tag_code (sym (some_same Transition t e))
tag_code_lem (suc (suc (suc (suc (suc zero))))) t e = ap tag_code (sym (some_same Suspension t e))
tag_code_lem (suc (suc (suc (suc (suc (suc zero)))))) t e = ap tag_code (sym (some_same Trigger t e))
tag_code_lem (suc (suc (suc (suc (suc (suc (suc zero))))))) t e = ap tag_code (sym (some_same Effects t e))
tag_code_lem (suc (suc (suc (suc (suc (suc (suc (suc n)))))))) t e = none_some t (sym (no_tag (suc (suc (suc (suc (suc (suc (suc (suc n)))))))) (omega arith)) ∙ e)

-- A good field.

pub record Judged (may : Tag → Bool) (code : ℕ) (c : List ℕ) (f : Field) : Type 0 where
  pub tag : Tag
  pub is : tag_from code ≡ Some tag
  pub order : may tag ≡ true
  pub read : decode tag c ≡ Ok f

formed_ok : (p : ℕ) (t : Tag) (r : Result Field Part) (f : Field) → formed p t r ≡ Ok f → r ≡ Ok f
formed_ok p t (Ok g) f e = ap Ok (ok_same g f e)
formed_ok p t (Err part) f e = err_ok (NotAllowed p t part) f e

pub judged : (may : Tag → Bool) (p code : ℕ) (c : List ℕ) (f : Field) → judge may p code c ≡ Ok f → Judged may code c f
judged may p code c f e = go (tag_from code) refl e
  where
    then : (t : Tag) → tag_from code ≡ Some t → (b : Bool) → may t ≡ b → cond b (formed p t (decode t c)) (Err (OutOfOrder p t)) ≡ Ok f → Judged may code c f
    then t is true m e = record { tag = t; is = is; order = m; read = formed_ok p t (decode t c) f e }
    then t is false m e = err_ok (OutOfOrder p t) f e

    go : (o : Option Tag) → tag_from code ≡ o → tagged may p code c o ≡ Ok f → Judged may code c f
    go None is e = err_ok (UnknownTag p code) f e
    go (Some t) is e = then t is (may t) refl e

-- it has these contents, and is well formed
pub judged_written : (may : Tag → Bool) (code : ℕ) (c : List ℕ) (f : Field) → every is_byte c ≡ true → Judged may code c f → Written (tag_of f) c f × (tag_code (tag_of f) ≡ code) × (may (tag_of f) ≡ true)
judged_written may code c f h j =
    let w = written j.tag c f h j.read in (
      record { tag = refl; bytes = w.bytes; formed = w.formed },
      ap tag_code w.tag ∙ tag_code_lem code j.tag j.is,
      ap may w.tag ∙ j.order,
    )

-- A fault.

pub judged_fault : (may : Tag → Bool) (before : List Field) → ((t : Tag) → may t ≡ may_follow before t) → (p code : ℕ) (c more rest : List ℕ) → rest ≡ piece code c ++ more
    → (e : Refusal) → judge may p code c ≡ Err e → Faulty before p rest e
judged_fault may before same p code c more rest r e h = go (tag_from code) refl h
  where
    at : (t : Tag) → tag_from code ≡ Some t → rest ≡ piece (tag_code t) c ++ more
    at t is = r ∙ ap (λ n. piece n c ++ more) (sym (tag_code_lem code t is))

    unformed : (t : Tag) → tag_from code ≡ Some t → may t ≡ true → (d : Result Field Part) → decode t c ≡ d → formed p t d ≡ Err e → Faulty before p rest e
    unformed t is m (Ok f) d h = err_ok e f (sym h)
    unformed t is m (Err part) d h = subst (Faulty before p rest) (err_same _ e h) (not_allowed t part c more (at t is) (sym (same t) ∙ m) d)

    then : (t : Tag) → tag_from code ≡ Some t → (b : Bool) → may t ≡ b → cond b (formed p t (decode t c)) (Err (OutOfOrder p t)) ≡ Err e → Faulty before p rest e
    then t is true m h = unformed t is m (decode t c) refl h
    then t is false m h = subst (Faulty before p rest) (err_same _ e h) (out_of_order t c more (at t is) (sym (same t) ∙ m))

    go : (o : Option Tag) → tag_from code ≡ o → tagged may p code c o ≡ Err e → Faulty before p rest e
    go None is h =
        subst (Faulty before p rest) (err_same _ e h) (unknown_tag code c more r (λ t q. none_some t (sym is ∙ ap tag_from (sym q) ∙ tag_back t)))
    go (Some t) is h = then t is (may t) refl h

-- a good field that passes a limit
pub limit_fault : (may : Tag → Bool) (before : List Field) → ((t : Tag) → may t ≡ may_follow before t) → (p code : ℕ) (c more rest : List ℕ) → rest ≡ piece code c ++ more → every is_byte c ≡ true
    → (f : Field) (l : Limit) → Judged may code c f → exceeded (counts_of (f ∷ before)) ≡ Some l → Faulty before p rest (BeyondLimit p l)
limit_fault may before same p code c more rest r h f l j x =
    let w = judged_written may code c f h j in
    beyond_limit f l more (r ∙ ap (λ n. piece n c ++ more) (sym w.1) ∙ ap (λ d. piece (tag_code (tag_of f)) d ++ more) (sym w.0.bytes)) (sym (same (tag_of f)) ∙ w.2) w.0.formed x

pub judged_stands : (may : Tag → Bool) (before : List Field) → ((t : Tag) → may t ≡ may_follow before t) → (code : ℕ) (c : List ℕ) → every is_byte c ≡ true
    → (f : Field) → Judged may code c f → exceeded (counts_of (f ∷ before)) ≡ None → Stands before f
judged_stands may before same code c h f j x = let w = judged_written may code c f h j in record { order = sym (same (tag_of f)) ∙ w.2; form = w.0.formed; limits = x }
