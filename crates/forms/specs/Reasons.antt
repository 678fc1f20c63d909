-- Why a row is refused, in words. Assumes nothing.
use Rattle.std.specs.Prelude.{ℕ, List, codes}
use Rattle.forms.specs.declared.fault.RowFault.{RowFault}
use Rattle.forms.specs.declared.fault.RowFault.TheVariants.{
  CodeOutside,
  Mvex,
  OperandCount,
  SegRdiPlace,
  FixedSize,
  OpcodeLength,
  GroupIndex,
  VectorLength,
  Broadcast,
  Mnemonic,
  NamingCode,
}

abbrev pub reason_of : RowFault → List ℕ
reason_of CodeOutside = codes "a code or a flag bit is outside its set"
reason_of Mvex = codes "the encoding is MVEX"
reason_of OperandCount = codes "the operand count and the operand kinds disagree"
reason_of SegRdiPlace = codes "seg_rDI stands elsewhere than at operand 0"
reason_of FixedSize = codes "an address or operand size is none of 0, 16, 32 and 64"
reason_of OpcodeLength = codes "the opcode does not have the length that is given"
reason_of GroupIndex = codes "a group or rm index is outside -1 to 7"
reason_of VectorLength = codes "the vector length is above 2, missing, or not 0 beside LZ"
reason_of Broadcast = codes "broadcast stands beside a general register or memory"
reason_of Mnemonic = codes "the mnemonic is empty, too long, or has a byte that is no letter, digit or _"
reason_of NamingCode = codes "an option, a memory label or a memory size is outside its set"
