-- The opcode string of a form. Assumes nothing.
use Rattle.std.specs.Prelude.{ℕ, List, ◌++◌, codes, unwrap_or}
use Rattle.kinds.specs.declared.kind.OperandKind.{OperandKind}
use Rattle.forms.specs.Forms.{counted}
use Rattle.forms.specs.Pseudo.{pseudo_text}
use Rattle.forms.specs.declared.codes.Encoding.{Encoding}
use Rattle.forms.specs.declared.codes.Encoding.TheVariants.{Legacy, Vex, Evex, Xop, D3now}
use Rattle.forms.specs.declared.codes.Tag.{Tag}
use Rattle.forms.specs.declared.form.Form.{Form}
use Rattle.opcode.specs.Heads.{op_code_text, legacy_head, vec_head}
use Rattle.opcode.specs.Rest.{rest_text}

abbrev pub legacy_text : Form → List OperandKind → List ℕ
legacy_text f ks = legacy_head f ks ++ rest_text f ks

abbrev pub vec_text : List ℕ → Form → List OperandKind → List ℕ
vec_text name f ks = vec_head name f ++ rest_text f ks

-- 3DNow! has its opcode after the ModRM byte, and nothing after it
abbrev pub d3now_text : Form → List ℕ
d3now_text f = codes "0F 0F /r " ++ op_code_text f.opcode f.wide

abbrev pub encoded_text : Encoding → Form → List OperandKind → List ℕ
encoded_text Legacy f ks = legacy_text f ks
encoded_text Vex f ks = vec_text (codes "VEX") f ks
encoded_text Evex f ks = vec_text (codes "EVEX") f ks
encoded_text Xop f ks = vec_text (codes "XOP") f ks
encoded_text D3now f ks = d3now_text f

-- an entry that is no instruction has a text of its own, whatever else it holds; text is what the others have
abbrev pub tagged_text : Tag → List ℕ → List ℕ
tagged_text t text = unwrap_or (pseudo_text (codes "<zero_bytes>") t) text

-- the opcode string of a form with these operands
abbrev pub text_with : Form → List OperandKind → List ℕ
text_with f ks = tagged_text f.tag (encoded_text f.encoding f ks)

unfoldable pub opcode_text : Form → List ℕ
opcode_text f = text_with f (counted f)
