use Rattle.text.proofs.Writes.{then, stops}
use Rattle.opcode.proofs.formatter.OpCodeFormatter.append_rest.Goals as goal

pub returns-in_err-append_modrm : goal.returns-in_err-append_modrm
returns-in_err-append_modrm c = stops _ c.in_err-append_modrm.ensures c.from_residual.ensures.1

pub returns : goal.returns
returns c = then _ c.in_ok-append_modrm.ensures c.append_suffixes.ensures
