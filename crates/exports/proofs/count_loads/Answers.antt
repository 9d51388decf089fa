use Rattle.std.proofs.Common.{◌≡◌, ap, ◌∙◌, cond, is_ok, arith, rules}
use Rattle.std.specs.List.{range_with_len}
use Rattle.std.proofs.lemmas.Iterator.{YieldsList-from_range}
use Rattle.std.proofs.lemmas.List.FromFn.{length-range_with_len}
use Rattle.loading.specs.Loading.{loading}
use Rattle.exports.proofs.Counting.{counted}
use Rattle.exports.proofs.count_loads.Goals as goal
use Rattle.exports.specs.contracts.fn.count_loads.filter as closure

pub returns : goal.returns
returns c =
    let n = c.args.times in
    let b = c.args.bytes.now in
    counted _ _ _ (is_ok (loading b)) (λ f. (closure.captures f).bytes.now ≡ b) (λ p x r q i k. search rules) c.count.result (range_with_len 0 n) c.filter.result c.count.ensures.ran
    (ap (λ f. (closure.captures f).bytes.now) c.filter.ensures.closure) (YieldsList-from_range 0 n n (cc) (omega arith))
    ∙ ap (λ m. cond (is_ok (loading b)) m 0) (length-range_with_len 0 n)
