-- Numbers in groups by their keys.
use Rattle.std.proofs.Common.{◌≡◌, ℕ, zero, suc, ◌<◌, Bool, true, cond, not, ◌&&◌, eqb, List, [], ◌∷◌, ◌++◌, length, get_or, Ok, Err, Result, refl, ap, ◌∙◌, ap₂, arith, OnOk, is_ok}
use Rattle.std.proofs.lemmas.Bool.Decides.{nat_tests}
use Rattle.groups.specs.Numbers.{those, with_key}
use Rattle.chart.specs.Fields.{Field}
use Rattle.validity.specs.Tables.{graph_of, is_in}

pub those_same : (n : ℕ) (p q : ℕ → Bool) → ((i : ℕ) → i < n → p i ≡ q i) → those n p ≡ those n q
those_same zero p q h = refl
those_same (suc n) p q h = ap₂ (λ xs b. xs ++ cond b (n ∷ []) []) (those_same n p q (λ i l. h i (omega arith))) (h n (omega arith))

-- the numbers with a key, where the keys are the values of f
pub with_key_lem : (f : ℕ → ℕ) (n : ℕ) (keys : List ℕ) → length keys ≡ n → ((i : ℕ) → i < n → get_or keys i 0 ≡ f i) → (k : ℕ) → with_key keys k ≡ those n (λ i. eqb (f i) k)
with_key_lem f n keys e h k =
    ap (λ m. those m (λ i. eqb (get_or keys i 0) k)) e
    ∙ those_same n (λ i. eqb (get_or keys i 0) k) (λ i. eqb (f i) k) (λ i l. ap (λ x. eqb x k) (h i l))

-- what an answer says that is no error
pub succeeded : {T E : Type 0} (r : Result T E) (P : Type 0) → is_ok r ≡ true → OnOk r P → P
succeeded (Ok x) P s h = h
succeeded (Err e) P s h = (cc)

-- the root has the key of no graph
pub placed : (fs : List Field) (g s : ℕ) → g < 65535 → eqb (cond (eqb s 0) 65535 (graph_of fs s)) g ≡ is_in fs g s
placed fs g s l = go (graph_of fs s)
  where
    go : (x : ℕ) → eqb (cond (eqb s 0) 65535 x) g ≡ (not (eqb s 0) && eqb x g)
    go x = grind (arith, nat_tests)
