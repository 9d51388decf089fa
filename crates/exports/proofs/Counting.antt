-- A count of the items that calls pass, where each call tells the same, whatever state the calls before it left.
use Rattle.std.proofs.Common.{◌≡◌, ℕ, Bool, true, false, cond, List, [], ◌∷◌, length, Some, None, Option, sym, refl, ◌∙◌, subst}
use Rattle.std.specs.Fn.{CalledAt}
use Rattle.std.specs.Iterator.{AlwaysYields, Drains, YieldsThen}
use Rattle.std.specs.Iterator.Adapters.{filter_source, filter_callee, filter_steps}
use Rattle.std.specs.List.{FoldsTo}
use Rattle.std.specs.declared.iter.Filter.{Filter}
use Rattle.std.proofs.lemmas.Bool.{false≢true}
use Rattle.std.proofs.lemmas.Iterator.{YieldsList}
use Rattle.std.proofs.lemmas.Iterator.Consumers.{count_from_yields_List}
use denote.Param.Members.{Mut}
use denote.Ref.{Bor}

module _ {S A B F : Type 0} (steps : S → Option A → S → Type 0) (v : A → B) (g : Mut F (Bor A × Unit {0}) Bool) (b : Bool) (I : F → Type 0)
    (tells : (p : F) (x : A) (r : Bool) (q : F) → I p → CalledAt g p x r q → I q × (r ≡ b)) where
  still : (xs : List A) (p q : F) → I p → FoldsTo (λ p x q. CalledAt g p x false q) p xs q → I q
  still [] p q i h = subst I h i
  still (x ∷ xs) p q i h = still xs h.0 q (tells p x false h.0 i h.1).0 h.2

  -- the call at an item that comes
  at_item : (s j : Filter S F) (x : A) → I (filter_callee s) → filter_steps steps g s (Some x) j → I (filter_callee j) × (true ≡ b)
  at_item s j x i p = tells p.1 x true (filter_callee j) (still p.0 (filter_callee s) p.1 i p.3) p.4

  -- where all pass, no item is left out
  direct : (s j : Filter S F) (o : Option A) → b ≡ true → I (filter_callee s) → filter_steps steps g s o j → steps (filter_source s) o (filter_source j)
  direct s j o e i p = go p.0 p.1 p.2 p.3
    where
      go : (xs : List A) (q : F) → YieldsThen steps (filter_source s) xs o (filter_source j) → FoldsTo (λ p x q. CalledAt g p x false q) (filter_callee s) xs q → steps (filter_source s) o (filter_source j)
      go [] q y h = subst (λ t. steps t o (filter_source j)) (sym y.1) y.2
      go (x ∷ xs) q y h = absurd (false≢true ((tells (filter_callee s) x false h.0 i h.1).1 ∙ e))

  all_pass : (ys : List B) (s : Filter S F) → b ≡ true → I (filter_callee s) → AlwaysYields steps v (filter_source s) ys → AlwaysYields (filter_steps steps g) v s ys
  all_pass [] s e i a = λ x j p. a x (filter_source j) (direct s j (Some x) e i p)
  all_pass (y ∷ ys) s e i a = (
    (λ j p. a.0 (filter_source j) (direct s j None e i p)),
    λ x j p. let n = a.1 x (filter_source j) (direct s j (Some x) e i p) in (n.0, all_pass ys j e (at_item s j x i p).0 n.1),
  )

  none_passes : (s : Filter S F) → b ≡ false → I (filter_callee s) → AlwaysYields (filter_steps steps g) v s []
  none_passes s e i = λ x j p. false≢true (sym ((at_item s j x i p).1 ∙ e))

  pub counted : (r : ℕ) (ys : List B) (s : Filter S F) → ((xs : List A) × Drains (filter_steps steps g) s xs × (r ≡ length xs)) → I (filter_callee s) → YieldsList steps v (filter_source s) ys → r ≡ cond b (length ys) 0
  counted r ys s ran i y = go b refl
    where
      go : (c : Bool) → b ≡ c → r ≡ cond c (length ys) 0
      go true e = count_from_yields_List {steps = filter_steps steps g} {v = v} {all = ys} s r ran (record { runs = all_pass ys s e i y.runs })
      go false e = count_from_yields_List {steps = filter_steps steps g} {v = v} {all = []} s r ran (record { runs = none_passes s e i })
