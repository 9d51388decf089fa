use Rattle.std.proofs.Common.{◌≡◌, ℕ, ◌+◌, Bool, eqb, [], ◌∷◌, ◌++◌, length, get_or, vec_items, vec_capacity, sym, ap, ◌∙◌, arith, length-append, eq-eqb, ne_eqb}
use Rattle.groups.specs.Numbers.{those}
use Rattle.groups.proofs.Those.{another, passes, fails}
use Rattle.groups.proofs.methods.push_with_key.Goals as goal
use Rattle.groups.proofs.methods.push_with_key.Goals.{then-from-key, else-from-key}

pub push_reserved-requires : goal.push_reserved-requires
push_reserved-requires c =
    let keys = c.args.keys.now in
    let key = c.args.key in
    let n = c.loop-number.number in
    let more = another n (length keys) (λ i. eqb (get_or keys i 0) key) (eq-eqb (get_or keys n 0) key (sym c.from.ensures ∙ c.if-from-key.true)) c.loop-number-test.true in
    let long : length (vec_items c.loop-number.members) ≡ length (vec_items c.args.members.now) + length (those n (λ i. eqb (get_or keys i 0) key)) = ap length c.loop-number.invariant.0 ∙ length-append (vec_items c.args.members.now) (those n (λ i. eqb (get_or keys i 0) key)) in
    omega (arith, more, long, c.loop-number.members.ok.0, c.args.members.now.ok.0, c.loop-number.invariant.1, c.requires.0)

pub loop-number-preserved : goal.loop-number-preserved
loop-number-preserved c =
    let keys = c.args.keys.now in
    let key = c.args.key in
    let n = c.loop-number.number in
    let first = vec_items c.args.members.now in
    let was = vec_items c.loop-number.members in
    let test : ℕ → Bool = λ i. eqb (get_or keys i 0) key in
    elim c.if-from-key.branch [
      | then-from-key w ↦
          let items : vec_items c.if-from-key.members ≡ was ++ n ∷ [] = ap vec_items w.members-is ∙ w.push_reserved.ensures.items in
          (passes first was (vec_items c.if-from-key.members) n test (eq-eqb (get_or keys n 0) key (sym c.from.ensures ∙ w.if-from-key.true)) c.loop-number.invariant.0 items, ap vec_capacity w.members-is ∙ w.push_reserved.ensures.capacity ∙ c.loop-number.invariant.1)
      | else-from-key w ↦ (ap vec_items w.members-is ∙ fails first was n test (ne_eqb (get_or keys n 0) key (λ e. w.if-from-key.false (c.from.ensures ∙ e))) c.loop-number.invariant.0, ap vec_capacity w.members-is ∙ c.loop-number.invariant.1)
    ]
