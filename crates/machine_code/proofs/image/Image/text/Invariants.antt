use Rattle.std.proofs.Common.{◌≡◌, ◌+◌, List, map, take}
use Rattle.ir_tree.specs.declared.operand.Symbol.{Symbol}
use Rattle.ir_meaning.specs.declared.value.Byte.TheVariants.{Plain}
use Rattle.machine_code.specs.MemoryAddresses.{KeepsFrom}
use Rattle.machine_code.specs.Images.{Wrote}
use Rattle.machine_code.specs.declared.bases.Bases.{Bases}
use Rattle.machine_code.proofs.image.Image.text.Given as goal

abbrev pub invariant-loop-byte : goal.invariant-loop-byte
invariant-loop-byte l = record {
  wrote : Wrote l.fn.self (λ (names : List Symbol). map Plain (take l.byte-index l.text)) l.self;
  holds : (t : Bases) → KeepsFrom t l.fn.self.bytes l.self.bytes;
  place : l.self.place ≡ l.fn.self.place + l.byte-index;
  opens : l.self.opens ≡ l.fn.self.opens;
}
