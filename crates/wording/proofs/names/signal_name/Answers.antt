use Rattle.std.proofs.Common.{IsUtf8, sym, ◌∙◌, subst}
use Rattle.tables.specs.Views.{fields_of}
use Rattle.wording.proofs.Spelling.{signal_name_text}
use Rattle.wording.proofs.names.signal_name.Goals as goal

pub returns : goal.returns
returns c =
    let t = c.args.tables.now in
    let e = c.signal_name.ensures in
    c.text.ensures (subst IsUtf8 (sym e) (signal_name_text (fields_of t) t.file.row c.args.signal)) ∙ e
