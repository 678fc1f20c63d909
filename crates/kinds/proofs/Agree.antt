-- Two rules that agree over the list of kinds agree at each kind; so the kinds that a rule names are those of a class.
-- Assumes nothing.
use Rattle.std.proofs.Common.{◌≡◌, Bool, map, sym, refl, ◌∙◌}
use denote.Enum.Bare.{sameb}
use Rattle.kinds.specs.contracts.table.Class as class
use Rattle.kinds.specs.declared.kind.OperandKind.{OperandKind}
use Rattle.kinds.specs.declared.table.Class.{Class}
use Rattle.kinds.specs.Kinds.{kinds, place_of, is_absent, is_seg_rdi, hides_all}
use Rattle.kinds.specs.Rows.{class_of}
use Rattle.kinds.proofs.Rule.{lookup}
use Rattle.kinds.proofs.Numbers.{has_place}

pub agree : {R : Type 0} (f g : OperandKind → R) → map f kinds ≡ map g kinds → (k : OperandKind) → f k ≡ g k
agree f g whole k =
    sym (lookup f (map f kinds) (place_of k) k (f k) refl (has_place k)) ∙ lookup g (map f kinds) (place_of k) k (f k) whole (has_place k)

-- the kinds of a class that holds nothing
abbrev pub of_class : Class → OperandKind → Bool
of_class c k = sameb class.the_type (class_of k) c

pub absent_missing : (k : OperandKind) → is_absent k ≡ of_class Class.Missing k
unfolding class_of
absent_missing k = agree is_absent (of_class Class.Missing) refl k

pub seg_rdi_hidden : (k : OperandKind) → is_seg_rdi k ≡ of_class Class.Hidden k
unfolding class_of
seg_rdi_hidden k = agree is_seg_rdi (of_class Class.Hidden) refl k

pub hides_strings : (k : OperandKind) → hides_all k ≡ of_class Class.Strings k
unfolding class_of
hides_strings k = agree hides_all (of_class Class.Strings) refl k
