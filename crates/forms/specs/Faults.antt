-- The refusals of a row and their numbers. Assumes nothing.
use Rattle.std.specs.Prelude.{ℕ}
use Rattle.forms.specs.declared.fault.RowFault.{RowFault}
use Rattle.forms.specs.declared.fault.RowFault.TheVariants.{
  CodeOutside,
  Mvex,
  OperandCount,
  SegRdiPlace,
  FixedSize,
  OpcodeLength,
  GroupIndex,
  VectorLength,
  Broadcast,
  Mnemonic,
  NamingCode,
}

abbrev pub fault_number : RowFault → ℕ
fault_number CodeOutside = 1
fault_number Mvex = 2
fault_number OperandCount = 3
fault_number SegRdiPlace = 4
fault_number FixedSize = 5
fault_number OpcodeLength = 6
fault_number GroupIndex = 7
fault_number VectorLength = 8
fault_number Broadcast = 9
fault_number Mnemonic = 10
fault_number NamingCode = 11
