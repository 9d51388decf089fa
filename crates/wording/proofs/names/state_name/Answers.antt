use Rattle.std.proofs.Common.{IsUtf8, sym, ◌∙◌, subst}
use Rattle.tables.specs.Views.{fields_of}
use Rattle.wording.proofs.Spelling.{state_name_text}
use Rattle.wording.proofs.names.state_name.Goals as goal

pub returns : goal.returns
returns c =
    let t = c.args.tables.now in
    let e = c.state_name.ensures in
    c.text.ensures (subst IsUtf8 (sym e) (state_name_text (fields_of t) t.file.row c.args.state)) ∙ e
