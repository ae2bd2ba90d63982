use Rattle.std.proofs.Common.{ℕ, List, map, subst}
use Rattle.ir_tree.specs.declared.operand.Symbol.{Symbol}
use Rattle.ir_meaning.specs.declared.value.Byte.TheVariants.{Plain}
use Rattle.machine_code.specs.Images.{Wrote}
use Rattle.machine_code.proofs.Telling.{on_ok, told}
use Rattle.machine_code.proofs.Writing.{same_keeps, wrote_head}
use Rattle.machine_code.proofs.image.Image.begin.Goals as goal

pub returns-in-Plain-clause-holds : goal.returns-in-Plain-clause-holds
returns-in-Plain-clause-holds c = on_ok c.scalar.result (λ h. h c.args.bases.now c.constant.ensures.from) c.scalar.ensures.holds

pub returns-in-Zeros-clause-holds : goal.returns-in-Zeros-clause-holds
returns-in-Zeros-clause-holds c = same_keeps c.args.bases.now c.args.self.now.bytes c.skip.new.self.bytes c.skip.ensures.bytes

pub returns-in-Bytes-clause-wrote : goal.returns-in-Bytes-clause-wrote
returns-in-Bytes-clause-wrote c =
    on_ok c.text.result
    (λ h. wrote_head c.args.bases.now c.args.shape.now c.args.head.now _ c.args.self.now c.text.new.self c.in-Bytes.is
    (subst (λ (ns : List ℕ). Wrote c.args.self.now (λ (names : List Symbol). map Plain ns) c.text.new.self) c.as_slice.ensures h))
    c.text.ensures.wrote

pub returns-in-Bytes-clause-holds : goal.returns-in-Bytes-clause-holds
returns-in-Bytes-clause-holds c = on_ok c.text.result (λ h. h c.args.bases.now) c.text.ensures.holds

pub returns-in-Array-clause-holds : goal.returns-in-Array-clause-holds
returns-in-Array-clause-holds c = told c.enter.result (same_keeps c.args.bases.now c.args.self.now.bytes c.enter.new.self.bytes c.enter.ensures.bytes)

pub returns-in-Struct-clause-holds : goal.returns-in-Struct-clause-holds
returns-in-Struct-clause-holds c = told c.enter-in-Struct.result (same_keeps c.args.bases.now c.args.self.now.bytes c.enter-in-Struct.new.self.bytes c.enter-in-Struct.ensures.bytes)
