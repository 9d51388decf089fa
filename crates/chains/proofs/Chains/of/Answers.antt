use Rattle.std.proofs.Common.{◌≡◌, suc, ◌+◌, true, refl, ap, subst, arith, rules}
use Rattle.std.specs.Cmp.{booleans_Decides}
use Rattle.std.proofs.lemmas.Slice.Eq.{slice_eq-Decides}
use Rattle.validity.specs.Tables.{is_immediate, chain_within}
use Rattle.tables.specs.Views.{fields_of}
use Rattle.tables.proofs.Within.{row_within}
use Rattle.chains.specs.declared.Chains.{Chains}
use Rattle.chains.proofs.Found.{made_all}
use Rattle.chains.proofs.Levels.{Turned, turned_at, none_beyond, next_marks, no_change, last_level, chain_told, leads_told}
use Rattle.chains.proofs.Chains.of.Goals as goal

pub loop-turn-init : goal.loop-turn-init
loop-turn-init c =
    let fs = fields_of c.args.tables.now in
    let few = (row_within fs c.args.tables.now.file.row).transitions in
    let marked = made_all _ _ _ (is_immediate fs) (λ i y q k. search rules) 512 c.from_fn-marks.ensures.items (λ t l. none_beyond fs 0 t (omega (arith, few))) in
    turned_at fs c.from_fn-marks.result c.reach_by-reach.result 0 marked c.reach_by-reach.ensures

pub loop-turn-preserved : goal.loop-turn-preserved
loop-turn-preserved c =
    let fs = fields_of c.args.tables.now in
    let n = c.loop-turn._turn in
    let e : suc n ≡ n + 1 = omega arith in
    let marked = next_marks fs c.loop-turn.marks c.chain_marks-next.result c.loop-turn.reach n c.loop-turn.invariant c.chain_marks-next.ensures in
    subst (Turned fs c.chain_marks-next.result c.reach_by-reach-in-loop-turn.result) e
    (turned_at fs c.chain_marks-next.result c.reach_by-reach-in-loop-turn.result (suc n) marked c.reach_by-reach-in-loop-turn.ensures)

pub returns-then-eq : goal.returns-then-eq
returns-then-eq c =
    let fs = fields_of c.args.tables.now in
    let few = (row_within fs c.args.tables.now.file.row).transitions in
    let n = c.loop-turn._turn in
    let turned = c.loop-turn.invariant in
    let unchanged : c.chain_marks-next.result ≡ c.loop-turn.marks = (slice_eq-Decides booleans_Decides c.chain_marks-next.result c.loop-turn.marks true c.if-eq.ensures).0 refl in
    let same = no_change fs c.loop-turn.marks c.chain_marks-next.result c.loop-turn.reach n turned c.chain_marks-next.ensures unchanged in
    let last = last_level fs n same (omega arith) in
    let chains : Chains = record { marks = c.loop-turn.marks; reach = c.loop-turn.reach } in
    record { chain = chain_told fs chains n last turned few; leads = leads_told fs chains n last turned }

pub returns-after-loop-turn : goal.returns-after-loop-turn
returns-after-loop-turn c =
    let fs = fields_of c.args.tables.now in
    let few = (row_within fs c.args.tables.now.file.row).transitions in
    let n = c.loop-turn._turn in
    let e : n ≡ 8 = omega arith in
    let last = ap (chain_within fs) e in
    let turned = c.loop-turn.invariant in
    let chains : Chains = record { marks = c.loop-turn.marks; reach = c.loop-turn.reach } in
    record { chain = chain_told fs chains n last turned few; leads = leads_told fs chains n last turned }
