-- How long the parts of a signature are: none has a line's end, and all of them together have at most 256 bytes.
-- Assumes nothing.
use Rattle.std.proofs.Common.{◌≡◌, ℕ, ◌+◌, ◌<◌, Bool, true, false, cond, not, eqb, [], ◌++◌, Some, None, codes, Option, refl, arith, rules}
use mathlib.Core.Path.{subst⁻¹}
use Rattle.std.proofs.lemmas.Bool.Decides.{nat_tests}
use Rattle.text.specs.Sized.{Line}
use Rattle.text.specs.Texts.{decimal_text, when}
use Rattle.text.proofs.Sized.{Line_lit, Line_weaken, Line-append, Line-cond, Line-when, Line-decimal_text}
use Rattle.kinds.specs.Counters.{counter_of}
use Rattle.kinds.specs.declared.counter.Counter.{Counter}
use Rattle.kinds.specs.declared.counter.Counter.TheVariants as counter
use Rattle.kinds.specs.declared.table.Bank.{Bank}
use Rattle.kinds.specs.declared.table.Class.{Class}
use Rattle.kinds.specs.declared.table.Class.TheVariants as class
use Rattle.kinds.specs.declared.table.Register.{Register}
use Rattle.kinds.specs.declared.table.Width.{Width}
use Rattle.kinds.specs.declared.table.Width.TheVariants.{W8, W16, W32, W64}
use Rattle.kinds.specs.declared.table.Word.{Word}
use Rattle.forms.specs.declared.codes.MemoryLabel.{MemoryLabel}
use Rattle.forms.specs.declared.codes.MemoryLabel.TheVariants as label
use Rattle.forms.specs.declared.codes.Tag.{Tag}
use Rattle.numbering.specs.Numbers.{swapped, mask_number, vector_number, letter, label_of}
use Rattle.numbering.specs.declared.plan.Plan.{Plan}
use Rattle.numbering.specs.declared.plan.VectorRule.{VectorRule}
use Rattle.numbering.specs.declared.plan.VectorRule.TheVariants.{Unnumbered, ByPlace, From1, From2, Swapped}
use Rattle.operands.specs.Memories.{is_tag, is_descriptor_table, bits_text, label_text, fpu_text, size_text, memory_text, width_text, width_bits}
use Rattle.operands.specs.Operands.{bank_text, word_text, register_text, number_text, letter_text, operand_text}
use Rattle.operands.specs.declared.setting.Setting.{Setting}
use Rattle.operands.specs.declared.setting.MemoryBits.{MemoryBits}

nothing : Line 0 []
nothing = Line_lit 0 [] refl

-- a number below 100
small_number : (n : ℕ) → n < 100 → Line 2 (decimal_text n)
small_number n h = Line-decimal_text 2 n (omega arith) (omega arith) (omega arith)

Line-bits_text : (bits : ℕ) → bits < 10000 → Line 4 (bits_text bits)
Line-bits_text bits h = Line-cond (eqb bits 0) (Line_lit 4 [] refl) (Line-decimal_text 4 bits (omega arith) (omega arith) (omega arith))

Line-label_text : (table : Bool) (l : MemoryLabel) (bits : ℕ) (fpu : Bool) → bits < 10000 → Line 7 (label_text table l bits ++ when fpu (fpu_text l))
Line-label_text table label.Plain bits fpu h = Line_weaken 7 (omega arith) (Line-append (Line-bits_text bits h) (Line-when fpu nothing))
Line-label_text table label.Int bits fpu h = Line-append (Line-bits_text bits h) (Line-when fpu (Line_lit 3 (codes "int") refl))
Line-label_text table label.Float bits fpu h = Line-append (Line-bits_text bits h) (Line-when fpu (Line_lit 3 (codes "fp") refl))
Line-label_text table label.Bcd bits fpu h = Line-append (Line-bits_text bits h) (Line-when fpu (Line_lit 3 (codes "bcd") refl))
Line-label_text table label.Bound16 bits fpu h = Line-append (Line_lit 7 (codes "16&16") refl) (Line-when fpu nothing)
Line-label_text table label.Bound32 bits fpu h = Line-append (Line_lit 7 (codes "32&32") refl) (Line-when fpu nothing)
Line-label_text table label.FpuEnv14 bits fpu h = Line-append (Line_lit 7 (codes "14byte") refl) (Line-when fpu nothing)
Line-label_text table label.FpuEnv28 bits fpu h = Line-append (Line_lit 7 (codes "28byte") refl) (Line-when fpu nothing)
Line-label_text table label.FpuState94 bits fpu h = Line-append (Line_lit 7 (codes "94byte") refl) (Line-when fpu nothing)
Line-label_text table label.FpuState108 bits fpu h = Line-append (Line_lit 7 (codes "108byte") refl) (Line-when fpu nothing)
Line-label_text table label.Fxsave bits fpu h = Line-append (Line_lit 7 (codes "512byte") refl) (Line-when fpu nothing)
Line-label_text table label.Xsave bits fpu h = Line-append (Line_lit 7 (codes "em") refl) (Line-when fpu nothing)
Line-label_text table label.SegPtr16 bits fpu h = Line-append (Line_lit 7 (codes "16:16") refl) (Line-when fpu nothing)
Line-label_text table label.SegPtr32 bits fpu h = Line-append (Line_lit 7 (codes "16:32") refl) (Line-when fpu nothing)
Line-label_text table label.SegPtr64 bits fpu h = Line-append (Line_lit 7 (codes "16:64") refl) (Line-when fpu nothing)
Line-label_text table label.Fword6 bits fpu h = Line-append (Line-cond table (Line_lit 7 [] refl) (Line_lit 7 (codes "16&32") refl)) (Line-when fpu nothing)
Line-label_text table label.Fword10 bits fpu h = Line-append (Line-cond table (Line_lit 7 [] refl) (Line_lit 7 (codes "16&64") refl)) (Line-when fpu nothing)

-- the memories of a setting are of at most 512 bytes
pub record Sizes (s : Setting) : Type 0 where
  pub memory : s.memory.bits < 10000
  pub element : s.element.bits < 10000

Line-size_text : (s : Setting) (m : MemoryBits) → m.bits < 10000 → Line 7 (size_text s m)
Line-size_text s m h =
    Line-cond (is_tag s.tag Tag.TwoByte) (Line_lit 7 (codes "2byte") refl) (Line-label_text (is_descriptor_table s.tag) m.label m.bits s.flags.fpu h)

Line-memory_text : (s : Setting) → Sizes s → Line 21 (memory_text s)
Line-memory_text s h =
    Line-append (Line_lit 1 (codes "m") refl)
    (Line-append (Line-size_text s s.memory h.memory)
    (Line-when s.flags.broadcast (Line-append (Line_lit 2 (codes "/m") refl) (Line-append (Line-size_text s s.element h.element) (Line_lit 4 (codes "bcst") refl)))))

Line-width_text : (w : Width) → Line 2 (width_text w)
Line-width_text w = small_number (width_bits w) (search rules)

Line-bank_text : (b : Bank) → Line 3 (bank_text b)
Line-bank_text b = Line_lit 3 (bank_text b) (search rules)

Line-word_text : (w : Word) → Line 8 (word_text w)
Line-word_text w = Line_lit 8 (word_text w) (search rules)

Line-register_text : (r : Register) → Line 3 (register_text r)
Line-register_text r = Line_lit 3 (register_text r) (search rules)

-- a label of a class is short: a letter has one byte, a number at most two
abbrev pub Short : Counter → Option ℕ → Type 0
Short counter.Uncounted l = l ≡ None
Short counter.Letter32 l = Line 1 (letter_text l)
Short counter.Letter64 l = Line 1 (letter_text l)
Short counter.Vector l = Line 2 (number_text l)
Short counter.Mask l = Line 2 (number_text l)
Short counter.Tile l = Line 2 (number_text l)
Short counter.Bound l = Line 2 (number_text l)

vector_short : (v : VectorRule) (r p : ℕ) → r < 50 → p < 50 → Line 2 (number_text (vector_number v r p))
vector_short Unnumbered r p h k = Line_lit 2 [] refl
vector_short ByPlace r p h k = small_number (p + 1) (omega arith)
vector_short From1 r p h k = small_number (r + 1) (omega arith)
vector_short From2 r p h k = small_number (r + 2) (omega arith)
vector_short Swapped r p h k = small_number (swapped r) (grind (arith, nat_tests))

bound_short : (has : Bool) (r : ℕ) → r < 50 → Line 2 (number_text (cond has (Some (r + 1)) None))
bound_short true r h = small_number (r + 1) (omega arith)
bound_short false r h = Line_lit 2 [] refl

letter_short : (has : Bool) (r : ℕ) → Line 1 (letter_text (letter has r))
letter_short true r = record { short = omega arith; whole = grind (arith, nat_tests) }
letter_short false r = Line_lit 1 [] refl

pub mask_short : (swaps : Bool) (r : ℕ) → r < 50 → Line 2 (decimal_text (mask_number swaps r))
mask_short swaps r h = small_number (mask_number swaps r) (grind (arith, nat_tests))

pub Short-label_of : (plan : Plan) (c : Counter) (r p : ℕ) → r < 50 → p < 50 → Short c (label_of plan c r p)
Short-label_of plan counter.Uncounted r p h k = refl
Short-label_of plan counter.Vector r p h k = vector_short plan.vectors r p h k
Short-label_of plan counter.Mask r p h k = mask_short plan.swaps r h
Short-label_of plan counter.Tile r p h k = small_number (r + 1) (omega arith)
Short-label_of plan counter.Bound r p h k = bound_short plan.bounds r h
Short-label_of plan counter.Letter32 r p h k = letter_short plan.letters32 r
Short-label_of plan counter.Letter64 r p h k = letter_short plan.letters64 r

-- a general register
Line_gpr : (w : Width) (l : Option ℕ) → Line 1 (letter_text l) → Line 27 (codes "r" ++ (width_text w ++ letter_text l))
Line_gpr w l h = Line_weaken 27 (omega arith) (Line-append (Line_lit 1 (codes "r") refl) (Line-append (Line-width_text w) h))

plain_gpr : (w : Width) (l : Option ℕ) → l ≡ None → Line 27 (codes "r" ++ (width_text w ++ letter_text l))
plain_gpr w l e = Line_gpr w l (subst⁻¹ (λ (o : Option ℕ). Line 1 (letter_text o)) e (Line_lit 1 [] refl))

pub Line-operand_text : (s : Setting) (c : Class) (l : Option ℕ) → Sizes s → Short (counter_of c) l → Line 27 (operand_text s c l)
Line-operand_text s class.Missing l h k = Line_lit 27 [] refl
Line-operand_text s class.Hidden l h k = Line_lit 27 [] refl
Line-operand_text s class.Strings l h k = Line_lit 27 [] refl
Line-operand_text s (class.Gpr W8) l h k = plain_gpr W8 l k
Line-operand_text s (class.Gpr W16) l h k = plain_gpr W16 l k
Line-operand_text s (class.Gpr W32) l h k = Line_gpr W32 l k
Line-operand_text s (class.Gpr W64) l h k = Line_gpr W64 l k
Line-operand_text s (class.GprMem w) l h k =
    Line_weaken 27 (omega arith)
    (Line-append (Line_lit 1 (codes "r") refl)
    (Line-append (Line-when (not (eqb s.memory.bits (width_bits w))) (Line-width_text w)) (Line-append (Line_lit 1 (codes "/") refl) (Line-memory_text s h))))
Line-operand_text s (class.Vec b) l h k = Line_weaken 27 (omega arith) (Line-append (Line-bank_text b) k)
Line-operand_text s (class.VecMem b) l h k = Line-append (Line-bank_text b) (Line-append k (Line-append (Line_lit 1 (codes "/") refl) (Line-memory_text s h)))
Line-operand_text s (class.VecPlus3 b) l h k = Line_weaken 27 (omega arith) (Line-append (Line-bank_text b) (Line-append k (Line_lit 2 (codes "+3") refl)))
Line-operand_text s class.Mask l h k = Line_weaken 27 (omega arith) (Line-append (Line_lit 1 (codes "k") refl) k)
Line-operand_text s class.MaskMem l h k = Line_weaken 27 (omega arith) (Line-append (Line_lit 1 (codes "k") refl) (Line-append k (Line-append (Line_lit 1 (codes "/") refl) (Line-memory_text s h))))
Line-operand_text s class.MaskPlus1 l h k = Line_weaken 27 (omega arith) (Line-append (Line_lit 1 (codes "k") refl) (Line-append k (Line_lit 2 (codes "+1") refl)))
Line-operand_text s class.Tile l h k = Line_weaken 27 (omega arith) (Line-append (Line_lit 3 (codes "tmm") refl) k)
Line-operand_text s class.Bound l h k = Line_weaken 27 (omega arith) (Line-append (Line_lit 3 (codes "bnd") refl) k)
Line-operand_text s class.BoundMem l h k = Line-append (Line_lit 3 (codes "bnd") refl) (Line-append k (Line-append (Line_lit 1 (codes "/") refl) (Line-memory_text s h)))
Line-operand_text s class.Mem l h k = Line_weaken 27 (omega arith) (Line-memory_text s h)
Line-operand_text s class.MemOffs l h k = Line_weaken 27 (omega arith) (Line-append (Line_lit 5 (codes "moffs") refl) (Line-size_text s s.memory h.memory))
Line-operand_text s (class.Word w) l h k = Line_weaken 27 (omega arith) (Line-word_text w)
Line-operand_text s (class.Fixed r) l h k = Line_weaken 27 (omega arith) (Line-register_text r)
Line-operand_text s class.St0 l h k = Line-cond (is_tag s.tag Tag.BareSt) (Line_lit 27 (codes "ST") refl) (Line_lit 27 (codes "ST(0)") refl)
Line-operand_text s class.Sti l h k = Line_lit 27 (codes "ST(i)") refl
