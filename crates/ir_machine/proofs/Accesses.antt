-- What the test on an access says.
use Rattle.std.proofs.Common.{◌≡◌, ℕ, ◌+◌, ◌≤◌, Bool, true, false, not, ◌&&◌, nat_le, ◌==◌, ◌%◌, if◌then◌else◌, List, Some, None, take, drop, refl, sym, ap, ◌∙◌}
use borrow.Author.Tests.{leb-true}
use Rattle.ir_tree.specs.declared.operand.Reg.{Reg}
use Rattle.ir_tree.specs.declared.operand.Symbol.{Symbol}
use Rattle.ir_meaning.specs.Access.{access_cause, load_from, reaches, refusal_in}
use Rattle.ir_meaning.specs.Bytes.{read, reg_size}
use Rattle.ir_meaning.specs.Memory.{MemoryBlock}
use Rattle.ir_meaning.specs.Operate.{Never}
use Rattle.ir_tree.specs.declared.cause.Cause.{Cause}
use Rattle.ir_tree.specs.declared.cause.Cause.TheVariants.{StoreToConstant}
use Rattle.ir_machine.specs.Blocks.{block_meant, refused}
use Rattle.ir_machine.specs.Bytes.{bytes_len}
use Rattle.ir_machine.specs.declared.block.Block.{Block}

was_true : (v : Bool) (c : Cause) → (if v then None else Some c) ≡ None → v ≡ true
was_true true c e = refl
was_true false c e = absurd (cc e)

was_false : (v : Bool) (c d : Cause) → (if v then None else Some c) ≡ Some d → v ≡ false
was_false true c d e = absurd (cc e)
was_false false c d e = refl

was_cause : (v : Bool) (c d : Cause) → (if v then None else Some c) ≡ Some d → d ≡ c
was_cause true c d e = absurd (cc e)
was_cause false c d e = cc e

pub none_reaches : (b : MemoryBlock) (o s a : ℕ) → refused b o s a ≡ None → reaches b o s a ≡ true
none_reaches b o s a e = was_true (reaches b o s a) (access_cause b o s) e

pub some_misses : (b : MemoryBlock) (o s a : ℕ) (c : Cause) → refused b o s a ≡ Some c → reaches b o s a ≡ false
some_misses b o s a c e = was_false (reaches b o s a) (access_cause b o s) c e

pub some_cause : (b : MemoryBlock) (o s a : ℕ) (c : Cause) → refused b o s a ≡ Some c → c ≡ access_cause b o s
some_cause b o s a c e = was_cause (reaches b o s a) (access_cause b o s) c e

left_true : (a b : Bool) → (a && b) ≡ true → a ≡ true
left_true true b e = refl
left_true false b e = e

-- an access that reaches is within the block
pub reached_within : (names : List Symbol) (b : Block) (o s a : ℕ) → refused (block_meant names b) o s a ≡ None → o + s ≤ bytes_len b.bytes
reached_within names b o s a e =
    leb-true (o + s) (bytes_len b.bytes)
    (left_true (nat_le (o + s) (bytes_len b.bytes)) ((b.align % a == 0) && (o % a == 0)) (none_reaches (block_meant names b) o s a e))

pub loaded : (b : MemoryBlock) (reg : Reg) (o a : ℕ) → refused b o (reg_size reg) a ≡ None →
    load_from (Some b) reg o a ≡ read reg (take (reg_size reg) (drop o b.bytes))
loaded b reg o a e =
    ap (λ (v : Bool). if v then read reg (take (reg_size reg) (drop o b.bytes)) else Never (access_cause b o (reg_size reg))) (none_reaches b o (reg_size reg) a e)

pub not_loaded : (b : MemoryBlock) (reg : Reg) (o a : ℕ) (c : Cause) → refused b o (reg_size reg) a ≡ Some c → load_from (Some b) reg o a ≡ Never c
not_loaded b reg o a c e =
    ap (λ (v : Bool). if v then read reg (take (reg_size reg) (drop o b.bytes)) else Never (access_cause b o (reg_size reg))) (some_misses b o (reg_size reg) a c e)
    ∙ ap (λ (d : Cause). Never d) (sym (some_cause b o (reg_size reg) a c e))

-- a store that is refused for another reason than a constant
pub refusal_of : (names : List Symbol) (b : Block) (o s a : ℕ) (c : Cause) → b.writable ≡ true → refused (block_meant names b) o s a ≡ Some c →
    c ≡ refusal_in (Some (block_meant names b)) o s
refusal_of names b o s a c w e =
    some_cause (block_meant names b) o s a c e
    ∙ sym (ap (λ (v : Bool). if not v then StoreToConstant else access_cause (block_meant names b) o s) w)

pub both_true : (a b : Bool) → a ≡ true → b ≡ true → (a && b) ≡ true
both_true a b e f = ap (λ (v : Bool). v && b) e ∙ f

pub second_false : (a b : Bool) → b ≡ false → (a && b) ≡ false
second_false true b e = e
second_false false b e = refl
