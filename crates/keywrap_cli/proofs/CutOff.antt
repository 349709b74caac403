-- What a command without files has written, and the cause of its fault by the fault of its call.
use Rattle.keywrap_cli.proofs.Common.{Global, ◌≡◌, ℕ, List, Vec, Option, Result, Ok, Err, IfErr, IsErrAnd, refl, sym, ap, subst, IfErr-weaker, hex_line, WritesHex, Form, DrillAnswer, hex_fault_of, Direction}
use Rattle.key_files.specs.declared.fault.HexWriteFault.{HexWriteFault}
use Rattle.key_files.specs.declared.fault.HexWriteFault.TheVariants as hex
use Rattle.keywrap_cli.specs.ToyAndVectors.{IsDrillFault}
use Rattle.keywrap_cli.specs.declared.fault.ProgramFault.{ProgramFault}
use Rattle.keywrap_cli.specs.declared.fault.ProgramFault.TheVariants.{Flush}

-- the fault of a flush
pub at_flush : (r : Result ℕ ProgramFault) (P : ProgramFault → Type 0) → IfErr r (λ fault. fault ≡ Flush) → P Flush → IfErr r P
at_flush r P flush p = IfErr-weaker r (λ fault. fault ≡ Flush) P (λ fault same. subst P (sym same) p) flush

-- the fault that `?` makes of another
pub at_fault : (r : Result ℕ ProgramFault) (P : ProgramFault → Type 0) (fault : ProgramFault) → IsErrAnd r (λ f. f ≡ fault) → P fault → IfErr r P
at_fault (Ok status) P fault same p = tt
at_fault (Err f) P fault same p = subst P (sym same) p

-- the line of a drill was not written whole
pub line_cut_off : (direction : Direction) (form : Form) (text : List ℕ) (Y : Vec ℕ Global) (bytes : List ℕ) (old new : Option (List ℕ)) (write : HexWriteFault)
    → DrillAnswer direction form text (Ok Y) → bytes ≡ Y.items → WritesHex old new bytes (Err write)
    → IsDrillFault direction form text old new (hex_fault_of write)
line_cut_off direction form text Y bytes old new hex.Memory answer same wrote = ((hex_line bytes, (Y, answer, ap hex_line same)), wrote.untouched refl)
line_cut_off direction form text Y bytes old new (hex.Write written) answer same wrote =
    (hex_line bytes, (Y, answer, ap hex_line same), (wrote.short written refl, wrote.front written refl))
