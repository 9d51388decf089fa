use Rattle.std.proofs.Common.{◌≡◌, ℕ, ◌<◌, cond, ltb, [], length, get_or, vec_items, ap, ◌∙◌, arith, lt-ltb}
use Rattle.groups.specs.Lookup.{group}
use Rattle.groups.specs.Numbers.{with_key}
use Rattle.derived.proofs.Keyed.{with_key_lem, succeeded}
use Rattle.derived.proofs.column.fill_groups.Goals as goal

pub returns-clause-told : goal.returns-clause-told
returns-clause-told g c f h k l =
    let keys = c.deref.result.now in
    let n = c.args.count in
    let size = c.args.size in
    let long : length keys ≡ n = omega (arith, c.deref.ensures.len, c.fill_column.ensures.counted) in
    let key : (i : ℕ) → i < n → get_or keys i 0 ≡ f i = λ i m. ap (λ xs. get_or xs i 0) c.deref.ensures.value ∙ h i (get_or (vec_items c.fill_column.new.values) i 0) m (c.fill_column.ensures.told i 0 m) in
    let filled : (i : ℕ) → group c.fill.new.self i ≡ cond (ltb i size) (with_key keys i) [] = succeeded c.fill.result _ (c.fill.ensures.succeeds (omega (arith, c.requires.room), omega (arith, c.requires.room)) (omega (arith, c.requires.room))) c.fill.ensures.ok in
    filled k ∙ ap (λ b. cond b (with_key keys k) []) (lt-ltb k size l) ∙ with_key_lem f n keys long key k
