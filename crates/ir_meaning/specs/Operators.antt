-- The operators and flags of instructions under the names of the operations on words.
use Rattle.ir_tree.specs.declared.instr.BinaryOp.{BinaryOp}
use Rattle.ir_tree.specs.declared.instr.BinaryOp.TheVariants.{Add, And, Ashr, Lshr, Mul, Or, Sdiv, Shl, Srem, Sub, Udiv, Urem, Xor}
use Rattle.ir_tree.specs.declared.instr.Flags.{Flags}
use Rattle.ir_tree.specs.declared.instr.Predicate.{Predicate}
use Rattle.ir_tree.specs.declared.instr.Predicate.TheVariants.{Eq, Ne, Sge, Sgt, Sle, Slt, Uge, Ugt, Ule, Ult}
use Rattle.lto_bits.specs.declared.operator.BinaryOp.{BinaryOp as WordOp}
use Rattle.lto_bits.specs.declared.operator.BinaryOp.TheVariants as word
use Rattle.lto_bits.specs.declared.operator.Flags.{Flags as WordFlags}
use Rattle.lto_bits.specs.declared.operator.Predicate.{Predicate as WordPredicate}
use Rattle.lto_bits.specs.declared.operator.Predicate.TheVariants as order

abbrev pub word_op : BinaryOp → WordOp
word_op Add = word.Add
word_op Sub = word.Sub
word_op Mul = word.Mul
word_op Shl = word.Shl
word_op Udiv = word.Udiv
word_op Sdiv = word.Sdiv
word_op Lshr = word.Lshr
word_op Ashr = word.Ashr
word_op Urem = word.Urem
word_op Srem = word.Srem
word_op And = word.And
word_op Or = word.Or
word_op Xor = word.Xor

abbrev pub word_flags : Flags → WordFlags
word_flags f = record { nuw = f.nuw; nsw = f.nsw; exact = f.exact }

abbrev pub word_predicate : Predicate → WordPredicate
word_predicate Eq = order.Eq
word_predicate Ne = order.Ne
word_predicate Ugt = order.Ugt
word_predicate Uge = order.Uge
word_predicate Ult = order.Ult
word_predicate Ule = order.Ule
word_predicate Sgt = order.Sgt
word_predicate Sge = order.Sge
word_predicate Slt = order.Slt
word_predicate Sle = order.Sle
