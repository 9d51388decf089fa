-- The check of a trigger, byte by byte.
use Rattle.std.proofs.Common.{◌≡◌, ℕ, List, [], ◌∷◌, length, Some, None, Ok, Err, Option, Result, MatchOption, MatchResult, Bor, refl, sym, ap, ◌∙◌, subst}
use Rattle.std.specs.declared.slice.Iter.{Iter}
use Rattle.std.below.core.specs.declared.result.ErrResidual.{ErrResidual}
use Rattle.std.specs.Fn.{Called}
use Rattle.std.specs.Iterator.{Yields, YieldsThen}
use Rattle.std.specs.List.{FoldsTo}
use Rattle.std.specs.Result.{IsErr, IsErrAnd}
use Rattle.std.specs.Slice.Iter.{iter_rest}
use Rattle.std.proofs.iter.Yields.{fronts}
use denote.Param.Members.{Mut}
use Rattle.validity.specs.declared.faults.Fault.{Fault}
use Rattle.validity.specs.Triggers.{stacked, onwards, postfix_fault}

-- the byte in front decides how it goes on
one_more : (signals : ℕ) (r : Result ℕ Fault) (b : ℕ) (bs ys : List ℕ) (h : ℕ) → ys ≡ b ∷ bs → r ≡ stacked signals b h → postfix_fault signals ys h ≡ onwards r (postfix_fault signals bs)
one_more signals r b bs ys h e s = ap (λ ys. postfix_fault signals ys h) e ∙ ap (λ r. onwards r (postfix_fault signals bs)) (sym s)

at_end : (signals : ℕ) (ys : List ℕ) (h : ℕ) → length ys ≡ 0 → postfix_fault signals ys h ≡ postfix_fault signals [] h
at_end signals [] h e = refl
at_end signals (y ∷ ys) h e = cc

failed : (r : Result ℕ Fault) (e : Fault) (rest : ℕ → Option Fault) → IsErr r → IsErrAnd r (λ x. x ≡ e) → onwards r rest ≡ Some e
failed (Ok x) e rest is h = absurd h
failed (Err x) e rest is h = ap Some h

module _ {F : Type 0} {g : Mut F (ℕ × (Bor ℕ × Unit {0})) (Result ℕ Fault)} {f : F} (signals : ℕ) (tells : (h : ℕ) (x : Bor ℕ) (r : Result ℕ Fault) (q : F) → Called g f (h, (x, tt)) r q → (q ≡ f) × (r ≡ stacked signals x.now h)) where
  abbrev Turn : F × ℕ → Bor ℕ → F × ℕ → Type 0
  Turn p x q = (r : Result ℕ Fault) × Called g p.0 (p.1, (x, tt)) r q.0 × (r ≡ Ok q.1)

  went : (xs : List (Bor ℕ)) (s t : Iter ℕ) (h a : ℕ) (j : F) → Yields fronts s xs t → FoldsTo {P = F × ℕ} Turn (f, h) xs (j, a) → (j ≡ f) × (postfix_fault signals (iter_rest s) h ≡ postfix_fault signals (iter_rest t) a)
  went [] s t h a j y c = (sym (ap (λ (p : F × ℕ). p.0) c), ap (λ (i : Iter ℕ). postfix_fault signals (iter_rest i) h) y ∙ ap (λ (p : F × ℕ). postfix_fault signals (iter_rest t) p.1) c)
  went (x ∷ xs) s t h a j y c =
      let told = tells h x c.1.0 c.0.0 c.1.1 in
      let rest = went xs y.0 t c.0.1 a j y.2 (subst (λ (p : F × ℕ). FoldsTo {P = F × ℕ} Turn p xs (j, a)) {x = c.0} {y = (f, c.0.1)} (λ i. (told.0 i, c.0.1)) c.2) in (
        rest.0,
        one_more signals (Ok c.0.1) x.now (iter_rest y.0) (iter_rest s) h y.1 (sym c.1.2 ∙ told.1) ∙ rest.1,
      )

  ended : (u : Iter ℕ) (r : Result ℕ Fault) (o : Option (Bor ℕ)) (t : Iter ℕ) (a : ℕ) (j : F) → j ≡ f → fronts t o u
      → MatchOption o (r ≡ Ok a) (λ x. (v : Result ℕ Fault) × (h : F) × (e : ErrResidual Fault) × Called g j (a, (x, tt)) v h × (v ≡ Err e.0) × (IsErr r × IsErrAnd r (λ x. x ≡ e.0)))
      → postfix_fault signals (iter_rest t) a ≡ onwards r (postfix_fault signals [])
  ended u r None t a j same step c = at_end signals (iter_rest t) a step.0 ∙ ap (λ r. onwards r (postfix_fault signals [])) (sym c)
  ended u r (Some x) t a j same step c =
      let told = tells a x c.0 c.1 (subst (λ i. Called g i (a, (x, tt)) c.0 c.1) same c.3) in
      one_more signals (Err c.2.0) x.now (iter_rest u) (iter_rest t) a step (sym c.4 ∙ told.1) ∙ sym (failed r c.2.0 (postfix_fault signals []) c.5.0 c.5.1)

  -- what the bytes leave, and then the end of the trigger
  pub folded : {s : Iter ℕ} (u : Iter ℕ) (bytes : List ℕ) (r : Result ℕ Fault) → iter_rest s ≡ bytes
      → (xs : List (Bor ℕ)) × (o : Option (Bor ℕ)) × (j : F) × (a : ℕ) × YieldsThen fronts s xs o u × FoldsTo {P = F × ℕ} Turn (f, 0) xs (j, a)
      × MatchOption o (r ≡ Ok a) (λ x. (v : Result ℕ Fault) × (h : F) × (e : ErrResidual Fault) × Called g j (a, (x, tt)) v h × (v ≡ Err e.0) × (IsErr r × IsErrAnd r (λ x. x ≡ e.0)))
      → onwards r (postfix_fault signals []) ≡ postfix_fault signals bytes 0
  folded {s} u bytes r starts d =
      let w = went d.0 s d.4.0 0 d.3 d.2 d.4.1 d.5 in
      sym (ap (λ ys. postfix_fault signals ys 0) (sym starts) ∙ (w.1 ∙ ended u r d.1 d.4.0 d.3 d.2 w.0 d.4.2 d.6))

-- what is told of so many values at the end, or of a fault
pub answered : (signals : ℕ) (r : Result ℕ Fault) (o : Option Fault) → MatchResult r (λ a. o ≡ postfix_fault signals [] a) (λ e. o ≡ Some e) → o ≡ onwards r (postfix_fault signals [])
answered signals (Ok a) o h = h
answered signals (Err e) o h = h
