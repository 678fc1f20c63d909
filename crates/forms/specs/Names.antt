-- How a form is named, apart from how that is stored. Assumes nothing.
use Rattle.std.specs.Prelude.{◌≡◌, ℕ, false, if◌then◌else◌, ◌||◌, List, [], ◌∷◌, Ok, Err, Result, nat_lt, slice_index_or}
use Rattle.forms.specs.Checks.{mnemonic_wrong, memory_outside, naming_fault}
use Rattle.forms.specs.Forms.{answered}
use Rattle.forms.specs.declared.codes.MemoryLabel.{MemoryLabel}
use Rattle.forms.specs.declared.codes.NamingOption.{NamingOption}
use Rattle.forms.specs.declared.fault.RowFault.{RowFault}
use Rattle.forms.specs.declared.form.Memory.{Memory}
use Rattle.forms.specs.declared.row.MemoryRow.{MemoryRow}
use Rattle.forms.specs.declared.row.NamingRow.{NamingRow}

pub record Name : Type 0 where
  pub mnemonic : List ℕ
  pub option : NamingOption
  pub memory : Memory
  pub broadcast : Memory

-- What the codes of each set stand for, from 0.
abbrev pub options : List NamingOption
options =
    NamingOption.Plain
    ∷ NamingOption.OpMaskIsK1OrNoGprSuffix
    ∷ NamingOption.IncVecIndex
    ∷ NamingOption.NoVecIndex
    ∷ NamingOption.SwapVecIndex12
    ∷ NamingOption.SkipOp0
    ∷ NamingOption.VecIndexSameAsOpIndex
    ∷ []

abbrev pub labels : List MemoryLabel
labels =
    MemoryLabel.Plain
    ∷ MemoryLabel.Int
    ∷ MemoryLabel.Float
    ∷ MemoryLabel.Bcd
    ∷ MemoryLabel.Bound16
    ∷ MemoryLabel.Bound32
    ∷ MemoryLabel.FpuEnv14
    ∷ MemoryLabel.FpuEnv28
    ∷ MemoryLabel.FpuState94
    ∷ MemoryLabel.FpuState108
    ∷ MemoryLabel.Fxsave
    ∷ MemoryLabel.Xsave
    ∷ MemoryLabel.SegPtr16
    ∷ MemoryLabel.SegPtr32
    ∷ MemoryLabel.SegPtr64
    ∷ MemoryLabel.Fword6
    ∷ MemoryLabel.Fword10
    ∷ []

abbrev pub option_of : ℕ → NamingOption
option_of n = slice_index_or options n NamingOption.Plain

abbrev pub label_of : ℕ → MemoryLabel
label_of n = slice_index_or labels n MemoryLabel.Plain

abbrev pub memory_of : MemoryRow → Memory
memory_of m = record { label = label_of m.label; size = m.size }

-- A memory that passes check 11, or its refusal.
abbrev pub memory_from : MemoryRow → Result Memory RowFault
memory_from m = if memory_outside m then Err RowFault.NamingCode else Ok (memory_of m)

-- The memory without broadcast and that with it, where both pass.
abbrev pub memories_from : NamingRow → Result (Memory × Memory) RowFault
memories_from r =
    if memory_outside r.memory || memory_outside r.broadcast
    then Err RowFault.NamingCode
    else Ok (memory_of r.memory, memory_of r.broadcast)

-- The name that a row stands for.
abbrev pub name_of : NamingRow → Name
name_of r =
    record {
      mnemonic = r.mnemonic.now;
      option = option_of r.option;
      memory = memory_of r.memory;
      broadcast = memory_of r.broadcast;
    }

abbrev pub named : NamingRow → Result Name RowFault
named r = answered (naming_fault r) (name_of r)

-- A mnemonic and two memories that pass checks 10 and 11.
abbrev pub NamePasses : List ℕ → Memory → Memory → Type 0
NamePasses mnemonic memory broadcast = (mnemonic_wrong mnemonic || (nat_lt 512 memory.size || nat_lt 512 broadcast.size)) ≡ false
