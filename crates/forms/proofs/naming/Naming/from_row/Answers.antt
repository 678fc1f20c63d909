use Rattle.std.proofs.Common.{sym}
use Rattle.forms.proofs.PassingNames.{whole}
use Rattle.forms.proofs.naming.Naming.from_row.Goals as goal

pub returns : goal.returns
returns c =
    whole c.args.row.now _ _ _ c.padded.ensures (sym c.if-mnemonic_wrong.ensures)
    c.in_ok-option.ensures c.in_ok-memory.ensures
