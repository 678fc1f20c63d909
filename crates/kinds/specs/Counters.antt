-- Which count an operand of a class moves on.
-- Assumes nothing.
use Rattle.std.specs.Prelude.{Bool}
use denote.Enum.Bare.{sameb}
use Rattle.kinds.specs.declared.table.Class.{Class}
use Rattle.kinds.specs.declared.table.Class.TheVariants.{
  Missing,
  Hidden,
  Strings,
  Gpr,
  GprMem,
  Vec,
  VecMem,
  VecPlus3,
  Mask,
  MaskMem,
  MaskPlus1,
  Tile,
  Bound,
  BoundMem,
  Mem,
  MemOffs,
  Word,
  Fixed,
  St0,
  Sti,
}
use Rattle.kinds.specs.declared.table.Width.TheVariants.{W8, W16, W32, W64}
use Rattle.kinds.specs.declared.counter.Counter.{Counter}
use Rattle.kinds.specs.contracts.counter.Counter as counter

-- letters go to plain registers of 32 and 64 bits, and memory beside a register does not change its count
abbrev pub counter_of : Class → Counter
counter_of (Vec b) = Counter.Vector
counter_of (VecMem b) = Counter.Vector
counter_of (VecPlus3 b) = Counter.Vector
counter_of Mask = Counter.Mask
counter_of MaskMem = Counter.Mask
counter_of MaskPlus1 = Counter.Mask
counter_of Tile = Counter.Tile
counter_of Bound = Counter.Bound
counter_of BoundMem = Counter.Bound
counter_of (Gpr W8) = Counter.Uncounted
counter_of (Gpr W16) = Counter.Uncounted
counter_of (Gpr W32) = Counter.Letter32
counter_of (Gpr W64) = Counter.Letter64
counter_of Missing = Counter.Uncounted
counter_of Hidden = Counter.Uncounted
counter_of Strings = Counter.Uncounted
counter_of (GprMem w) = Counter.Uncounted
counter_of Mem = Counter.Uncounted
counter_of MemOffs = Counter.Uncounted
counter_of (Word w) = Counter.Uncounted
counter_of (Fixed r) = Counter.Uncounted
counter_of St0 = Counter.Uncounted
counter_of Sti = Counter.Uncounted

-- the test `a == b`
abbrev pub same : Counter → Counter → Bool
same = sameb counter.the_type
