use Rattle.std.proofs.Common.{◌≡◌, ℕ, Bool, true, List, [], refl, sym, ap, ◌∙◌}
use Rattle.ir_meaning.specs.Access.{reaches}
use Rattle.ir_meaning.specs.Bytes.{reg_size}
use Rattle.ir_meaning.specs.Memory.{MemoryBlock}
use Rattle.ir_meaning.specs.declared.value.Byte.{Byte}
use Rattle.ir_machine.specs.Bytes.{bytes_len}
use Rattle.ir_machine.specs.Blocks.{block_meant, refused}
use Rattle.ir_machine.proofs.Accesses.{both_true, none_reaches, reached_within, refusal_of, second_false, some_misses}
use Rattle.ir_machine.proofs.block.Block.store.Goals as goal

pub returns-in-Some-clause-ok : goal.returns-in-Some-clause-ok
returns-in-Some-clause-ok c = λ names.
    let why = ap (λ (s : ℕ). refused (block_meant names c.args.self.now) c.args.offset s c.args.align) (sym c.reg_size.ensures) ∙ sym (c.refusal.ensures names) ∙ c.in-Some.is in (
      second_false c.args.self.now.writable (reaches (block_meant names c.args.self.now) c.args.offset (reg_size c.args.reg) c.args.align)
          (some_misses (block_meant names c.args.self.now) c.args.offset (reg_size c.args.reg) c.args.align c.in-Some.cause why),
      refusal_of names c.args.self.now c.args.offset (reg_size c.args.reg) c.args.align c.in-Some.cause c.if-not-self.false why,
      refl,
    )

pub store-requires-clause-within : goal.store-requires-clause-within
store-requires-clause-within c =
    reached_within [] c.args.self.now c.args.offset (reg_size c.args.reg) c.args.align
    (ap (λ (s : ℕ). refused (block_meant [] c.args.self.now) c.args.offset s c.args.align) (sym c.reg_size.ensures) ∙ sym (c.refusal.ensures []) ∙ c.in-None.is)

abbrev block_of : ℕ → ℕ → List Byte → Bool → MemoryBlock
block_of s a x w = record { size = s; align = a; bytes = x; live = true; writable = w }

-- the block behind a store
same_block : (s s' a : ℕ) (x y : List Byte) (w : Bool) → s ≡ s' → x ≡ y →
    block_of s a x w ≡ block_of s' a y w
same_block s s' a x y w e f = ap (λ (n : ℕ). block_of n a x w) e ∙ ap (λ (bs : List Byte). block_of s' a bs w) f

pub returns-in_ok-store-in-None-clause-ok : goal.returns-in_ok-store-in-None-clause-ok
returns-in_ok-store-in-None-clause-ok c = λ names. (
  both_true c.args.self.now.writable (reaches (block_meant names c.args.self.now) c.args.offset (reg_size c.args.reg) c.args.align)
      c.if-not-self.false
      (none_reaches (block_meant names c.args.self.now) c.args.offset (reg_size c.args.reg) c.args.align
      (ap (λ (s : ℕ). refused (block_meant names c.args.self.now) c.args.offset s c.args.align) (sym c.reg_size.ensures) ∙ sym (c.refusal.ensures names) ∙ c.in-None.is)),
  same_block (bytes_len c.store.new.self) (bytes_len c.args.self.now.bytes) c.args.self.now.align _ _ c.args.self.now.writable c.store.ensures.length (c.in_ok-store-in-None.ensures.ok names),
)
