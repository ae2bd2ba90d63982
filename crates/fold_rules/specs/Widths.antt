-- What is asked of an instruction beside its kind: as in formed functions.
use Rattle.std.specs.Prelude.{All}
use Rattle.ir_tree.specs.Formed.{IsReg, IsWidth}
use Rattle.ir_tree.specs.Layout.{IsLaidOut}
use Rattle.ir_tree.specs.declared.instr.Instr.{Instr}
use Rattle.ir_tree.specs.declared.instr.Instr.TheVariants.{Address, Binary, Cast, Freeze, Icmp}

-- its integers have 1 to 64 bits, and its shape and each shape within have at most 2 ^ 31 bytes
abbrev pub HasWidths : Instr → Type 0
HasWidths (Binary op flags width left right) = IsWidth width
HasWidths (Icmp predicate reg left right) = IsReg reg
HasWidths (Cast op from value to) = IsReg from × IsReg to
HasWidths (Freeze reg value) = IsReg reg
HasWidths (Address inbounds shape base indices) = IsLaidOut shape × All (λ a. IsReg a.reg) indices
HasWidths _ = Unit {0}
