use Rattle.std.proofs.Common.{vec_items, ◌∙◌}
use Rattle.chart.specs.Reading.{row_of}
use Rattle.closure.specs.Rows.{told}
use Rattle.loading.proofs.Deriving.{rank_is, may_keep_lem}
use Rattle.loading.proofs.charts.Chart.load.Goals as goal

pub invariant_of-self : goal.invariant_of-self
invariant_of-self c =
    let b = vec_items c.judge.new.tables.file.bytes in
    let k = c.in-Ok.ensures.2 in
    let e = c.fill.ensures in
    record {
      valid = may_keep_lem b k.valid;
      derives = record {
        depths = e.depths;
        suspensions = e.suspensions;
        ranks = λ s l. e.ranks s l ∙ rank_is (row_of b) (told c.in-Ok.chains.reach) k.leads s;
        initials = e.initials;
        chain = λ t l. e.chain t l ∙ k.chain t;
        outgoing = e.outgoing;
        incoming = e.incoming;
        members = e.members;
        owned = e.owned;
      };
    }
