-- Comparison of pointers (LangRef, "icmp Instruction"): what the profile settles, and free choices elsewhere.
use Rattle.std.specs.Prelude.{ℕ, ◌%◌, Bool, false, not, ◌&&◌, nat_lt, nat_le, ◌==◌, if◌then◌else◌, slice_get, Option, Some, None}
use Rattle.ir_tree.specs.declared.instr.Predicate.{Predicate}
use Rattle.ir_tree.specs.declared.instr.Predicate.TheVariants.{Eq, Ne, Uge, Ugt, Ule, Ult}
use Rattle.ir_meaning.specs.Memory.{Memory, MemoryBlock}
use Rattle.ir_meaning.specs.Operate.{bit}
use Rattle.ir_meaning.specs.Symbols.{base_eq}
use Rattle.ir_meaning.specs.declared.value.Base.{Base}
use Rattle.ir_meaning.specs.declared.value.Base.TheVariants.{Cell, Code, Nowhere}
use Rattle.ir_meaning.specs.declared.value.Value.{Value}
use Rattle.ir_meaning.specs.declared.value.Value.TheVariants.{Number, Pointer, Poison}

abbrev pub lives_with : (ℕ → Bool) → Option MemoryBlock → Bool
lives_with test None = false
lives_with test (Some b) = b.live && test b.size

-- the block lives, and the offset is one of its bytes'
abbrev pub is_inside : Memory → ℕ → ℕ → Bool
is_inside memory k i = lives_with (λ size. nat_lt i size) (slice_get memory k)

-- the block lives, and the offset is in it or at its end
abbrev pub is_at : Memory → ℕ → ℕ → Bool
is_at memory k i = lives_with (λ size. nat_le i size) (slice_get memory k)

abbrev pub unequal_if : Bool → Option Bool
unequal_if b = if b then Some false else None

-- whether pointers of two bases are equal, where that is settled
abbrev pub apart_equal : Memory → Base → ℕ → Base → ℕ → Option Bool
apart_equal memory Nowhere i Nowhere j = None
apart_equal memory Nowhere i (Code t) j = unequal_if ((i == 0) && (j == 0))
apart_equal memory Nowhere i (Cell m) j = unequal_if ((i == 0) && is_at memory m j)
apart_equal memory (Code s) i Nowhere j = unequal_if ((i == 0) && (j == 0))
apart_equal memory (Code s) i (Code t) j = unequal_if ((i == 0) && (j == 0))
apart_equal memory (Code s) i (Cell m) j = None
apart_equal memory (Cell l) i Nowhere j = unequal_if ((j == 0) && is_at memory l i)
apart_equal memory (Cell l) i (Code t) j = None
apart_equal memory (Cell l) i (Cell m) j = unequal_if (is_inside memory l i && is_inside memory m j)

abbrev pub settled_equal : Memory → Base → ℕ → Base → ℕ → Option Bool
settled_equal memory x i y j = if base_eq x y then Some (i == j) else apart_equal memory x i y j

-- whether one offset is before another, where that is settled
abbrev pub settled_order : Memory → (ℕ → ℕ → Bool) → Base → ℕ → Base → ℕ → Option Bool
settled_order memory order (Cell l) i (Cell m) j = if (l == m) && (is_at memory l i && is_at memory l j) then Some (order i j) else None
settled_order memory order _ i _ j = None

abbrev pub negated : Option Bool → Option Bool
negated None = None
negated (Some b) = Some (not b)

abbrev pub settled : Memory → Predicate → Base → ℕ → Base → ℕ → Option Bool
settled memory Eq x i y j = settled_equal memory x i y j
settled memory Ne x i y j = negated (settled_equal memory x i y j)
settled memory Ult x i y j = settled_order memory nat_lt x i y j
settled memory Ule x i y j = settled_order memory nat_le x i y j
settled memory Ugt x i y j = settled_order memory (λ a b. nat_lt b a) x i y j
settled memory Uge x i y j = settled_order memory (λ a b. nat_le b a) x i y j
settled memory _ x i y j = None

-- what is settled, or else the free choice
abbrev pub chosen : Option Bool → ℕ → Value
chosen None choice = Number (choice % 2)
chosen (Some b) choice = bit b

abbrev pub compared_pointers : Memory → Predicate → Value → Value → ℕ → Value
compared_pointers memory p (Pointer x i) (Pointer y j) choice = chosen (settled memory p x i y j) choice
compared_pointers memory p _ _ choice = Poison
