-- The refusals of a source, their numbers and their words. Assumes nothing.
use Rattle.std.specs.Prelude.{ℕ, List, codes}
use Rattle.forms.specs.Faults.{fault_number}
use Rattle.forms.specs.Reasons.{reason_of}
use Rattle.sources.specs.declared.fault.SourceFault.{SourceFault}
use Rattle.sources.specs.declared.fault.SourceFault.TheVariants.{Row, WindowBounds, TooManyEntries, NoEntry}

-- A row's refusal keeps its number, 1 to 11.
abbrev pub number_of : SourceFault → ℕ
number_of (Row e) = fault_number e
number_of WindowBounds = 12
number_of TooManyEntries = 13
number_of NoEntry = 14

-- A row's refusal keeps its words.
abbrev pub text_of : SourceFault → List ℕ
text_of (Row e) = reason_of e
text_of WindowBounds = codes "the window starts after its end or ends above the count"
text_of TooManyEntries = codes "there are more entries than a source may have"
text_of NoEntry = codes "there is no entry with this number"
