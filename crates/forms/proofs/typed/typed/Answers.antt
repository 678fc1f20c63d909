use Rattle.std.proofs.Common.{◌≡◌, rules}
use Rattle.std.specs.Prelude.{◌==◌}
use Rattle.forms.specs.Forms.{index_of}
use Rattle.forms.proofs.Meanings.{encoding_within, table_within, prefix_within, length_kind_within, length_within, tag_within, unwrapped}
use Rattle.forms.proofs.typed.typed.Goals as goal

pub returns : goal.returns
returns c =
    let row = c.args.row.now in
    let known = c.requires in
    let group : c.index_of.result ≡ index_of row.group = search rules in
    let rm : c.index_of-2.result ≡ index_of row.rm = search rules in
    λ i. record {
      encoding = unwrapped c.try_from.ensures c.unwrap.ensures (encoding_within row.encoding known.encoding) i;
      table = unwrapped c.try_from-2.ensures c.unwrap-2.ensures (table_within row.table known.table) i;
      prefix = unwrapped c.try_from-3.ensures c.unwrap-3.ensures (prefix_within row.prefix known.prefix) i;
      opcode = row.opcode;
      wide = row.bytes == 2;
      address = (c.fixed_sizes-address.ensures i).0;
      operand = (c.fixed_sizes-address.ensures i).1;
      length = unwrapped c.try_from-4.ensures c.unwrap-4.ensures (length_within row.length known.length) i;
      lkind = unwrapped c.try_from-5.ensures c.unwrap-5.ensures (length_kind_within row.lkind known.lkind) i;
      flags = c.from.ensures i;
      group = group i;
      rm = rm i;
      kinds = c.kinds_of.ensures i;
      count = row.count;
      tag = unwrapped c.try_from-6.ensures c.unwrap-6.ensures (tag_within row.tag known.tag) i;
    }
