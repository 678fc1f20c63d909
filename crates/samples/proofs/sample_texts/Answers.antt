use Rattle.std.proofs.Common.{refl}
use Rattle.std.specs.Fmt.{digits}
use Rattle.kinds.specs.Kinds.{kind_at}
use Rattle.kinds.specs.Rows.{class_of, suffix_of, role_of}
use Rattle.opcode.specs.OpcodeText.{opcode_text}
use Rattle.samples.proofs.sample_texts.Goals as goal

pub returns : goal.returns
unfolding kind_at class_of suffix_of role_of opcode_text digits
returns c =
    record {
      count = refl;
      texts = (
        (refl, refl, refl, refl),
        (refl, refl, refl, refl),
        (refl, refl, refl, refl),
        (refl, refl, refl, refl),
        (refl, refl, refl, refl),
        (refl, refl, refl, refl),
        (refl, refl, refl, refl),
        (refl, refl, refl, refl),
        (refl, refl, refl, refl),
      );
    }
