use Rattle.std.proofs.Common.{◌≡◌, length, get_or, bit_or, rules}
use Rattle.closure.proofs.Made.{made}
use Rattle.closure.proofs.Words.{in_or}
use Rattle.closure.proofs.row.Row.union.Goals as goal

pub returns : goal.returns
returns c =
    let r = c.args.self in
    let q = c.args.other in
    let items = c.from_fn.ensures.items in
    let long_r : length r.words ≡ 4 = search rules in
    let long_q : length q.words ≡ 4 = search rules in
    in_or r q (record { words = c.from_fn.result }) long_r long_q items.long
    (made items (λ i. bit_or (get_or r.words i 0) (get_or q.words i 0)) 0 (λ i b p h. (search rules, search rules)))
