use Rattle.std.proofs.Common.{◌≡◌, ◌+◌, length, drop, Some, sym, ap, ◌∙◌, subst}
use Rattle.std.specs.Result.{result_ok}
use Rattle.chart.specs.Kinds.{tag_from, unknown_tag}
use Rattle.chart.specs.Decoding.{decode}
use Rattle.chart.specs.Lookup.{field_of, first_field}
use Rattle.chart.specs.Pieces.{Cut, Whole}
use Rattle.chart.specs.Stated.{stated_if}
use Rattle.chart.proofs.Places.{first_piece, stated_ok}
use Rattle.chart.proofs.Results.{kept_ok, kept_or}
use Rattle.chart.proofs.lookup.first_field.Goals as goal

pub returns : goal.returns
returns c =
    let b = c.args.bytes.now in
    let code = c.in_ok-piece.piece.code in
    let contents = c.in_ok-piece.piece.contents.now in
    let tag = c.in_ok-tag.tag in
    let found : stated_if c.ok-3.result ≡ result_ok (decode tag contents) = ap stated_if c.ok-3.ensures.value ∙ stated_ok c.decode.result ∙ ap result_ok c.decode.ensures in
    let tagged : tag_from code ≡ Some tag = sym (c.in_ok-tag.ensures.value ∙ ap result_ok c.try_from.ensures ∙ kept_or (tag_from code) (unknown_tag code)) in
    let whole : Whole b code contents = subst (Cut b 0) (kept_ok c.cut.result c.in_ok-piece.piece c.in_ok-piece.ensures.value) c.cut.ensures in
    let stands : first_field b ≡ field_of (tag_from code) contents = ap first_field whole ∙ first_piece code contents (drop (3 + length contents) b) in
    found ∙ sym (stands ∙ ap (λ t. field_of t contents) tagged)
