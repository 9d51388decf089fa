-- The levels around a state, counted from the state outwards.
use Rattle.std.proofs.Common.{◌≡◌, ℕ, zero, suc, ◌+◌, ◌<◌, Bool, true, false, cond, eqb, List, [], ◌∷◌, length, Some, None, Option, sym, refl, ap, ◌∙◌, subst, arith}
use Rattle.std.specs.declared.iter.Successors.{Successors}
use Rattle.std.specs.declared.iter.Take.{Take}
use Rattle.std.specs.Fn.{CalledAt}
use Rattle.std.specs.Iterator.{Yields, Drains}
use Rattle.std.specs.Iterator.Adapters.{successors_next, successors_callee, successors_steps, take_source, take_count, take_steps}
use denote.Param.Members.{Mut}
use denote.Ref.{Bor}
use Rattle.chart.specs.Fields.{Field}
use Rattle.validity.specs.Tables.{states, graph_of, owner_of, depth_within, depth_of}

module _ (fs : List Field) where
  abbrev around : ℕ → Option ℕ
  around s = cond (eqb s 0) None (Some (owner_of fs (graph_of fs s)))

  -- the first of so many levels stands at o
  abbrev levels : ℕ → Option ℕ → ℕ
  levels zero o = 0
  levels (suc n) None = 0
  levels (suc n) (Some s) = suc (levels n (around s))

  root_or_not : (n o d : ℕ) (b : Bool) → levels (suc n) (Some o) ≡ d → suc (levels (suc n) (cond b None (Some o))) ≡ cond b 1 (suc d)
  root_or_not n o d true e = refl
  root_or_not n o d false e = ap suc e

  deep : (n s : ℕ) → levels (suc n) (Some s) ≡ depth_within fs n s
  deep zero s = refl
  deep (suc n) s = let o = owner_of fs (graph_of fs s) in root_or_not n o (depth_within fs n o) (eqb s 0) (deep n o)

  module _ {F : Type 0} {g : Mut F (Bor ℕ × Unit {0}) (Option ℕ)} {f : F} (tells : (x : ℕ) (o : Option ℕ) (q : F) → CalledAt g f x o q → (q ≡ f) × (o ≡ around x)) where
    abbrev Steps : Take (Successors ℕ F) → Option ℕ → Take (Successors ℕ F) → Type 0
    Steps = take_steps (successors_steps g)

    none_left : (n : ℕ) (o : Option ℕ) → (0 < n → None ≡ o) → 0 ≡ levels n o
    none_left zero o h = refl
    none_left (suc n) None h = refl
    none_left (suc n) (Some s) h = absurd (let e = h (omega arith) in let z : ◌≡◌ {A = ℕ} 0 1 = cc in omega arith)

    counted : (xs : List ℕ) (n : ℕ) (s t u : Take (Successors ℕ F)) → take_count s ≡ n → successors_callee (take_source s) ≡ f → Yields Steps s xs t → Steps t None u → length xs ≡ levels n (successors_next (take_source s))
    counted [] n s t u c e y d = none_left n (successors_next (take_source s)) (λ l. subst (λ i. 0 < take_count i → None ≡ successors_next (take_source i)) (sym y) (λ m. (d m).0) (omega arith))
    counted (x ∷ xs) zero s t u c e y d = absurd (omega (arith, y.1.1))
    counted (x ∷ xs) (suc n) s t u c e y d =
        let told = tells x (successors_next (take_source y.0)) (successors_callee (take_source y.0)) (subst (λ i. CalledAt g i x (successors_next (take_source y.0)) (successors_callee (take_source y.0))) e y.1.0.1) in
        ap suc (counted xs n y.0 t u (omega (arith, y.1.1)) told.0 y.2 d ∙ ap (levels n) told.1) ∙ ap (levels (suc n)) y.1.0.0

    pub depth_counted : (s : Take (Successors ℕ F)) (r state : ℕ) → take_count s ≡ states fs + 1 → successors_callee (take_source s) ≡ f → successors_next (take_source s) ≡ Some state → (xs : List ℕ) × Drains Steps s xs × (r ≡ length xs) → r ≡ depth_of fs state
    depth_counted s r state c e first d =
        let n : states fs + 1 ≡ suc (states fs) = omega arith in
        d.2 ∙ counted d.0 (suc (states fs)) s d.1.1.0 d.1.0 (c ∙ n) e d.1.1.1 d.1.1.2 ∙ ap (levels (suc (states fs))) first ∙ deep (states fs) state
