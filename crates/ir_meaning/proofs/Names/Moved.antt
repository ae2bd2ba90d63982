-- What is computed of values under other names is the same under those names.
use Rattle.std.proofs.Common.{◌≡◌, ℕ, zero, suc, ◌+◌, ◌-◌, ◌/◌, ◌%◌, ◌<◌, ◌≤◌, ℤ, Bool, true, false, ◌&&◌, ◌==◌, nat_lt, nat_le, if◌then◌else◌, List, [], ◌∷◌, ◌++◌, length, take, drop, replicate, map, option_map, Option, Some, None, slice_get, ◌⊎◌, inl, inr, refl, sym, ap, ◌∙◌, subst, arith, length-set, length-append}
use Rattle.std.proofs.lemmas.Bool.{cases_lt, cases_eq, eqb-true, eq-eqb, lt-ltb, le-ltb}
use Rattle.std.proofs.lemmas.Option.{slice_get_within, slice_get_past}
use Rattle.std.specs.Prelude.{slice_set}
use Rattle.ir_tree.specs.Forms.{Form}
use Rattle.ir_tree.specs.declared.instr.BinaryOp.{BinaryOp}
use Rattle.ir_tree.specs.declared.instr.CastOp.{CastOp}
use Rattle.ir_tree.specs.declared.instr.Flags.{Flags}
use Rattle.ir_tree.specs.declared.instr.Predicate.{Predicate}
use Rattle.ir_tree.specs.declared.instr.Predicate.TheVariants.{Eq, Ne, Ugt, Uge, Ult, Ule, Sgt, Sge, Slt, Sle}
use Rattle.ir_tree.specs.declared.operand.Reg.{Reg}
use Rattle.ir_tree.specs.declared.operand.Reg.TheVariants.{Int, Ptr}
use Rattle.ir_tree.specs.declared.operand.Symbol.{Symbol}
use Rattle.ir_meaning.specs.Access.{access_cause, reaches, load_from, load, overwritten, store_in, store}
use Rattle.ir_meaning.specs.Address.{new_offset, pointer_or_poison, address_of}
use Rattle.ir_meaning.specs.Bytes.{reg_size, number_bytes, fragments, pointer_bytes, bits_stored, stored_bytes, has_unset, has_spoilt, raised, read_number, are_fragments, are_zero, read_pointer, or_poison, read_as, read}
use Rattle.ir_meaning.specs.Memory.{MemoryBlock, Memory, fresh, dead, end_life, kill, size_or_zero, object_size}
use Rattle.ir_meaning.specs.Operate.{Answer, Is, Never, Unwritten, number_or_poison, bits_of, plain_bits, division_bits, binary_bits, binary, compared_bits, compared, cast_bits, cast, selected_bits, selected, frozen_bits, frozen}
use Rattle.ir_meaning.specs.Pointers.{lives_with, is_inside, is_at, unequal_if, apart_equal, settled_equal, settled_order, negated, settled, chosen, compared_pointers}
use Rattle.ir_meaning.specs.Refine.{Naming}
use Rattle.ir_meaning.specs.Symbols.{base_eq}
use Rattle.ir_tree.specs.Symbols.{symbol_eq}
use Rattle.ir_tree.proofs.Symbols.{symbol_same, symbol_true}
use Rattle.ir_meaning.specs.Arithmetic.{division_cause, arithmetic, is_division, may_break, breaks}
use Rattle.ir_tree.specs.declared.cause.Cause.{Cause}
use Rattle.ir_meaning.specs.declared.value.Base.{Base}
use Rattle.ir_meaning.specs.declared.value.Base.TheVariants.{Nowhere, Code, Cell}
use Rattle.ir_meaning.specs.declared.value.Byte.{Byte}
use Rattle.ir_meaning.specs.declared.value.Byte.TheVariants.{Unset, Spoilt, Plain, Fragment}
use Rattle.ir_meaning.specs.declared.value.Value.{Value}
use Rattle.ir_meaning.specs.declared.value.Value.TheVariants.{Number, Pointer, Poison}
use Rattle.ir_meaning.specs.Rename.{cell_under, base_under, byte_under, bytes_under, cells_under}
use Rattle.ir_meaning.proofs.Alike.Keeping.{get_set_same, get_set_other, get_append_old, get_append_new}

-- no two symbols and no two variables have one name there
pub record Right (t : Naming) : Type 0 where
  pub symbols : (s u : Symbol) → t.symbol s ≡ t.symbol u → s ≡ u
  pub within : (l : ℕ) → l < t.count → t.variable l < t.count'
  pub one_to_one : (l m : ℕ) → l < t.count → m < t.count → t.variable l ≡ t.variable m → l ≡ m

abbrev pub value_under : Naming → Value → Value
value_under t (Number n) = Number n
value_under t (Pointer x i) = Pointer (base_under t x) i
value_under t Poison = Poison

abbrev pub answer_under : Naming → Answer → Answer
answer_under t (Is v) = Is (value_under t v)
answer_under t (Never why) = Never why
answer_under t Unwritten = Unwritten

abbrev pub values_under : Naming → List Value → List Value
values_under t vs = map (value_under t) vs

abbrev pub maybe_under : Naming → Option MemoryBlock → Option MemoryBlock
maybe_under t o = option_map (cells_under t) o

-- ---- numbers of blocks

if_yes : {X : Type 0} (b : Bool) (x y : X) → b ≡ true → (if b then x else y) ≡ x
if_yes true x y e = refl
if_yes false x y e = absurd (cc e)

if_no : {X : Type 0} (b : Bool) (x y : X) → b ≡ false → (if b then x else y) ≡ y
if_no true x y e = absurd (cc e)
if_no false x y e = refl

pub cell_variable : (t : Naming) (l : ℕ) → l < t.count → cell_under t l ≡ t.variable l
cell_variable t l lt = if_yes (nat_lt l t.count) (t.variable l) ((l - t.count) + t.count') (lt-ltb l t.count lt)

pub cell_slot : (t : Naming) (l : ℕ) → t.count ≤ l → cell_under t l ≡ (l - t.count) + t.count'
cell_slot t l le = if_no (nat_lt l t.count) (t.variable l) ((l - t.count) + t.count') (le-ltb l t.count le)

pub cell_one : (t : Naming) → Right t → (l m : ℕ) → cell_under t l ≡ cell_under t m → l ≡ m
cell_one t r l m e = by (cases_lt l t.count) (cases_lt m t.count)
  where
    by : (l < t.count) ⊎ (t.count ≤ l) → (m < t.count) ⊎ (t.count ≤ m) → l ≡ m
    by (inl a) (inl b) = r.one_to_one l m a b (sym (cell_variable t l a) ∙ e ∙ cell_variable t m b)
    by (inl a) (inr b) =
        let x = cell_variable t l a in
        let y = cell_slot t m b in
        let z = r.within l a in
        absurd (omega (arith, x, y, z, e))
    by (inr a) (inl b) =
        let x = cell_slot t l a in
        let y = cell_variable t m b in
        let z = r.within m b in
        absurd (omega (arith, x, y, z, e))
    by (inr a) (inr b) =
        let x = cell_slot t l a in
        let y = cell_slot t m b in
        omega (arith, x, y, e, a, b)

-- ---- equal bases

pub both : (a b : Bool) → (a ≡ true → b ≡ true) → (b ≡ true → a ≡ true) → a ≡ b
both true true f g = refl
both false false f g = refl
both true false f g = absurd (cc (f refl))
both false true f g = absurd (cc (g refl))

symbol_test : (t : Naming) → Right t → (s u : Symbol) → symbol_eq (t.symbol s) (t.symbol u) ≡ symbol_eq s u
symbol_test t r s u =
    both (symbol_eq (t.symbol s) (t.symbol u)) (symbol_eq s u)
    (λ e. symbol_same s u (r.symbols s u (symbol_true (t.symbol s) (t.symbol u) e)))
    (λ e. symbol_same (t.symbol s) (t.symbol u) (ap t.symbol (symbol_true s u e)))

cell_test : (t : Naming) → Right t → (l m : ℕ) → (cell_under t l == cell_under t m) ≡ (l == m)
cell_test t r l m =
    both (cell_under t l == cell_under t m) (l == m)
    (λ e. eq-eqb l m (cell_one t r l m (eqb-true (cell_under t l) (cell_under t m) e)))
    (λ e. eq-eqb (cell_under t l) (cell_under t m) (ap (cell_under t) (eqb-true l m e)))

pub base_test : (t : Naming) → Right t → (x y : Base) → base_eq (base_under t x) (base_under t y) ≡ base_eq x y
base_test t r Nowhere Nowhere = refl
base_test t r Nowhere (Code u) = refl
base_test t r Nowhere (Cell m) = refl
base_test t r (Code s) Nowhere = refl
base_test t r (Code s) (Code u) = symbol_test t r s u
base_test t r (Code s) (Cell m) = refl
base_test t r (Cell l) Nowhere = refl
base_test t r (Cell l) (Code u) = refl
base_test t r (Cell l) (Cell m) = cell_test t r l m

-- ---- numbers

pub bits_same : (t : Naming) (k : ℕ) (v : Value) → bits_of k (value_under t v) ≡ bits_of k v
bits_same t k (Number n) = refl
bits_same t k (Pointer x i) = refl
bits_same t k Poison = refl

number_plain : (t : Naming) (o : Option ℕ) → value_under t (number_or_poison o) ≡ number_or_poison o
number_plain t None = refl
number_plain t (Some n) = refl

plain_plain : (t : Naming) (op : BinaryOp) (f : Flags) (w : ℕ) (a b : Option ℕ) →
    value_under t (plain_bits op f w a b) ≡ plain_bits op f w a b
plain_plain t op f w (Some a) (Some b) = number_plain t (arithmetic op f w a b)
plain_plain t op f w None b = refl
plain_plain t op f w (Some a) None = refl

if_answer : (t : Naming) (b : Bool) (x y : Answer) → answer_under t x ≡ x → answer_under t y ≡ y →
    answer_under t (if b then x else y) ≡ (if b then x else y)
if_answer t true x y e f = e
if_answer t false x y e f = f

is_value : (t : Naming) (v : Value) → value_under t v ≡ v → answer_under t (Is v) ≡ Is v
is_value t v e = ap (λ (x : Value). Is x) e

division_plain : (t : Naming) (op : BinaryOp) (f : Flags) (w : ℕ) (a b : Option ℕ) →
    answer_under t (division_bits op f w a b) ≡ division_bits op f w a b
division_plain t op f w (Some a) (Some b) = if_answer t (breaks op w a b) (Never (division_cause b))
    (Is (number_or_poison (arithmetic op f w a b))) refl
    (is_value t (number_or_poison (arithmetic op f w a b)) (number_plain t (arithmetic op f w a b)))
division_plain t op f w None (Some b) = if_answer t (may_break op w b) (Never (division_cause b)) (Is Poison) refl refl
division_plain t op f w None None = refl
division_plain t op f w (Some a) None = refl

binary_plain : (t : Naming) (op : BinaryOp) (f : Flags) (w : ℕ) (a b : Option ℕ) →
    answer_under t (binary_bits op f w a b) ≡ binary_bits op f w a b
binary_plain t op f w a b = if_answer t (is_division op) (division_bits op f w a b) (Is (plain_bits op f w a b))
    (division_plain t op f w a b) (is_value t (plain_bits op f w a b) (plain_plain t op f w a b))

pub binary_under : (t : Naming) (op : BinaryOp) (f : Flags) (w : ℕ) (v u : Value) →
    binary op f w (value_under t v) (value_under t u) ≡ answer_under t (binary op f w v u)
binary_under t op f w v u =
    ap (λ (o : Option ℕ). binary_bits op f w o (bits_of w (value_under t u))) (bits_same t w v)
    ∙ ap (λ (o : Option ℕ). binary_bits op f w (bits_of w v) o) (bits_same t w u)
    ∙ sym (binary_plain t op f w (bits_of w v) (bits_of w u))

compared_plain : (t : Naming) (p : Predicate) (w : ℕ) (a b : Option ℕ) → value_under t (compared_bits p w a b) ≡ compared_bits p w a b
compared_plain t p w (Some a) (Some b) = refl
compared_plain t p w None b = refl
compared_plain t p w (Some a) None = refl

pub compared_under : (t : Naming) (p : Predicate) (w : ℕ) (v u : Value) →
    compared p w (value_under t v) (value_under t u) ≡ value_under t (compared p w v u)
compared_under t p w v u =
    ap (λ (o : Option ℕ). compared_bits p w o (bits_of w (value_under t u))) (bits_same t w v)
    ∙ ap (λ (o : Option ℕ). compared_bits p w (bits_of w v) o) (bits_same t w u)
    ∙ sym (compared_plain t p w (bits_of w v) (bits_of w u))

cast_plain : (t : Naming) (op : CastOp) (from to : ℕ) (a : Option ℕ) → value_under t (cast_bits op from to a) ≡ cast_bits op from to a
cast_plain t op from to (Some a) = refl
cast_plain t op from to None = refl

pub cast_under : (t : Naming) (op : CastOp) (from to : Reg) (v : Value) →
    cast op from to (value_under t v) ≡ value_under t (cast op from to v)
cast_under t op Ptr to v = refl
cast_under t op (Int from) Ptr v = refl
cast_under t op (Int from) (Int to) v = ap (cast_bits op from to) (bits_same t from v) ∙ sym (cast_plain t op from to (bits_of from v))

selected_of : (t : Naming) (o : Option ℕ) (v u : Value) →
    selected_bits o (value_under t v) (value_under t u) ≡ value_under t (selected_bits o v u)
selected_of t (Some zero) v u = refl
selected_of t (Some (suc n)) v u = refl
selected_of t None v u = refl

pub selected_under : (t : Naming) (c v u : Value) →
    selected (value_under t c) (value_under t v) (value_under t u) ≡ value_under t (selected c v u)
selected_under t c v u = ap (λ (o : Option ℕ). selected_bits o (value_under t v) (value_under t u)) (bits_same t 1 c)
    ∙ selected_of t (bits_of 1 c) v u

frozen_plain : (t : Naming) (w choice : ℕ) (o : Option ℕ) → value_under t (frozen_bits w choice o) ≡ frozen_bits w choice o
frozen_plain t w choice (Some n) = refl
frozen_plain t w choice None = refl

pub frozen_under : (t : Naming) (reg : Reg) (choice : ℕ) (v : Value) →
    frozen reg choice (value_under t v) ≡ value_under t (frozen reg choice v)
frozen_under t Ptr choice v = refl
frozen_under t (Int w) choice v = ap (frozen_bits w choice) (bits_same t w v) ∙ sym (frozen_plain t w choice (bits_of w v))

-- ---- bytes

pub take_under : (t : Naming) (n : ℕ) (bs : List Byte) → take n (bytes_under t bs) ≡ bytes_under t (take n bs)
take_under t zero bs = refl
take_under t (suc n) [] = refl
take_under t (suc n) (b ∷ bs) = ap (λ (l : List Byte). byte_under t b ∷ l) (take_under t n bs)

pub drop_under : (t : Naming) (n : ℕ) (bs : List Byte) → drop n (bytes_under t bs) ≡ bytes_under t (drop n bs)
drop_under t zero bs = refl
drop_under t (suc n) [] = refl
drop_under t (suc n) (b ∷ bs) = drop_under t n bs

append_under : (t : Naming) (as' bs : List Byte) → bytes_under t as' ++ bytes_under t bs ≡ bytes_under t (as' ++ bs)
append_under t [] bs = refl
append_under t (a ∷ as') bs = ap (λ (l : List Byte). byte_under t a ∷ l) (append_under t as' bs)

length_under : (t : Naming) (bs : List Byte) → length (bytes_under t bs) ≡ length bs
length_under t [] = refl
length_under t (b ∷ bs) = ap (λ (k : ℕ). suc k) (length_under t bs)

unset_under : (t : Naming) (bs : List Byte) → has_unset (bytes_under t bs) ≡ has_unset bs
unset_under t [] = refl
unset_under t (Unset ∷ bs) = refl
unset_under t (Spoilt ∷ bs) = unset_under t bs
unset_under t (Plain n ∷ bs) = unset_under t bs
unset_under t (Fragment i x o ∷ bs) = unset_under t bs

spoilt_under : (t : Naming) (bs : List Byte) → has_spoilt (bytes_under t bs) ≡ has_spoilt bs
spoilt_under t [] = refl
spoilt_under t (Spoilt ∷ bs) = refl
spoilt_under t (Unset ∷ bs) = spoilt_under t bs
spoilt_under t (Plain n ∷ bs) = spoilt_under t bs
spoilt_under t (Fragment i x o ∷ bs) = spoilt_under t bs

number_under : (t : Naming) (bs : List Byte) → read_number (bytes_under t bs) ≡ read_number bs
number_under t [] = refl
number_under t (Plain n ∷ bs) = ap (raised n) (number_under t bs)
number_under t (Unset ∷ bs) = refl
number_under t (Spoilt ∷ bs) = refl
number_under t (Fragment i x o ∷ bs) = refl

zero_under : (t : Naming) (bs : List Byte) → are_zero (bytes_under t bs) ≡ are_zero bs
zero_under t [] = refl
zero_under t (Plain n ∷ bs) = ap (λ (b : Bool). (n == 0) && b) (zero_under t bs)
zero_under t (Unset ∷ bs) = refl
zero_under t (Spoilt ∷ bs) = refl
zero_under t (Fragment i x o ∷ bs) = refl

fragments_test : (t : Naming) → Right t → (i : ℕ) (x : Base) (o : ℕ) (bs : List Byte) →
    are_fragments i (base_under t x) o (bytes_under t bs) ≡ are_fragments i x o bs
fragments_test t r i x o [] = refl
fragments_test t r i x o (Fragment j y q ∷ bs) =
    ap (λ (b : Bool). (i == j) && b && (o == q) && are_fragments (suc i) (base_under t x) o (bytes_under t bs))
    (base_test t r x y) ∙ ap (λ (b : Bool). (i == j) && base_eq x y && (o == q) && b) (fragments_test t r (suc i) x o bs)
fragments_test t r i x o (Unset ∷ bs) = refl
fragments_test t r i x o (Spoilt ∷ bs) = refl
fragments_test t r i x o (Plain n ∷ bs) = refl

if_value : (t : Naming) (b : Bool) (v u : Value) → (if b then value_under t v else value_under t u) ≡ value_under t (if b then v else u)
if_value t true v u = refl
if_value t false v u = refl

pointer_under : (t : Naming) → Right t → (bs : List Byte) → read_pointer (bytes_under t bs) ≡ value_under t (read_pointer bs)
pointer_under t r [] = refl
pointer_under t r (Fragment j x o ∷ bs) =
    ap (λ (b : Bool). if (0 == j) && b then Pointer (base_under t x) o else Poison) (fragments_test t r 1 x o bs)
    ∙ if_value t ((0 == j) && are_fragments 1 x o bs) (Pointer x o) Poison
pointer_under t r (Plain n ∷ bs) =
    ap (λ (b : Bool). if (n == 0) && b then Pointer Nowhere 0 else Poison) (zero_under t bs)
    ∙ if_value t ((n == 0) && are_zero bs) (Pointer Nowhere 0) Poison
pointer_under t r (Unset ∷ bs) = refl
pointer_under t r (Spoilt ∷ bs) = refl

or_plain : (t : Naming) (o : Option ℕ) → or_poison o ≡ value_under t (or_poison o)
or_plain t None = refl
or_plain t (Some n) = refl

as_under : (t : Naming) → Right t → (reg : Reg) (bs : List Byte) → read_as reg (bytes_under t bs) ≡ value_under t (read_as reg bs)
as_under t r (Int w) bs = ap or_poison (number_under t bs) ∙ or_plain t (read_number bs)
as_under t r Ptr bs = pointer_under t r bs

if_reads : (t : Naming) (a b : Bool) (v : Value) →
    (if a then Unwritten else (if b then Is Poison else Is (value_under t v))) ≡ answer_under t
    (if a then Unwritten else (if b then Is Poison else Is v))
if_reads t true b v = refl
if_reads t false true v = refl
if_reads t false false v = refl

pub read_under : (t : Naming) → Right t → (reg : Reg) (bs : List Byte) → read reg (bytes_under t bs) ≡ answer_under t (read reg bs)
read_under t r reg bs =
    ap (λ (b : Bool). if b then Unwritten else (if has_spoilt (bytes_under t bs) then Is Poison else Is
    (read_as reg (bytes_under t bs)))) (unset_under t bs)
    ∙ ap (λ (b : Bool). if has_unset bs then Unwritten else (if b then Is Poison else Is (read_as reg (bytes_under t bs))))
    (spoilt_under t bs)
    ∙ ap (λ (v : Value). if has_unset bs then Unwritten else (if has_spoilt bs then Is Poison else Is v)) (as_under t r reg bs)
    ∙ if_reads t (has_unset bs) (has_spoilt bs) (read_as reg bs)

-- bytes without pointers
numbers_stay : (t : Naming) (k n : ℕ) → number_bytes k n ≡ bytes_under t (number_bytes k n)
numbers_stay t zero n = refl
numbers_stay t (suc k) n = ap (λ (l : List Byte). Plain (n % 256) ∷ l) (numbers_stay t k (n / 256))

spoilt_stay : (t : Naming) (k : ℕ) → replicate k Spoilt ≡ bytes_under t (replicate k Spoilt)
spoilt_stay t zero = refl
spoilt_stay t (suc k) = ap (λ (l : List Byte). Spoilt ∷ l) (spoilt_stay t k)

unset_stay : (t : Naming) (k : ℕ) → replicate k Unset ≡ bytes_under t (replicate k Unset)
unset_stay t zero = refl
unset_stay t (suc k) = ap (λ (l : List Byte). Unset ∷ l) (unset_stay t k)

fragments_under : (t : Naming) (k i : ℕ) (x : Base) (o : ℕ) → fragments k i (base_under t x) o ≡ bytes_under t (fragments k i x o)
fragments_under t zero i x o = refl
fragments_under t (suc k) i x o = ap (λ (l : List Byte). Fragment i (base_under t x) o ∷ l) (fragments_under t k (suc i) x o)

pointer_bytes_under : (t : Naming) (k : ℕ) (x : Base) (o : ℕ) → pointer_bytes k (base_under t x) o ≡ bytes_under t (pointer_bytes k x o)
pointer_bytes_under t k Nowhere zero = numbers_stay t k 0
pointer_bytes_under t k Nowhere (suc o) = fragments_under t k 0 Nowhere (suc o)
pointer_bytes_under t k (Code s) o = fragments_under t k 0 (Code s) o
pointer_bytes_under t k (Cell l) o = fragments_under t k 0 (Cell l) o

bits_stay : (t : Naming) (k : ℕ) (o : Option ℕ) → bits_stored k o ≡ bytes_under t (bits_stored k o)
bits_stay t k (Some n) = numbers_stay t k n
bits_stay t k None = spoilt_stay t k

pub stored_under : (t : Naming) (reg : Reg) (v : Value) → stored_bytes reg (value_under t v) ≡ bytes_under t (stored_bytes reg v)
stored_under t (Int w) v = ap (bits_stored (w / 8)) (bits_same t w v) ∙ bits_stay t (w / 8) (bits_of w v)
stored_under t Ptr (Pointer x o) = pointer_bytes_under t 8 x o
stored_under t Ptr (Number n) = spoilt_stay t 8
stored_under t Ptr Poison = spoilt_stay t 8

-- ---- memories

-- the blocks of the first are there in the second, the variables' under their numbers there, and the stack blocks in one order
pub record MemoryUnder (t : Naming) (m m' : Memory) : Type 0 where
  pub variables : t.count ≤ length m
  pub sizes : length m' + t.count ≡ length m + t.count'
  pub blocks : (l : ℕ) → slice_get m' (cell_under t l) ≡ maybe_under t (slice_get m l)

if_never : (t : Naming) (b : Bool) (x : Answer) (why : Cause) →
    (if b then answer_under t x else Never why) ≡ answer_under t (if b then x else Never why)
if_never t true x why = refl
if_never t false x why = refl

load_from_under : (t : Naming) → Right t → (o : Option MemoryBlock) (reg : Reg) (offset align : ℕ) →
    load_from (maybe_under t o) reg offset align ≡ answer_under t (load_from o reg offset align)
load_from_under t r None reg offset align = refl
load_from_under t r (Some b) reg offset align =
    ap (λ (l : List Byte). if reaches b offset (reg_size reg) align then read reg (take (reg_size reg) l) else Never why)
    (drop_under t offset b.bytes)
    ∙ ap (λ (l : List Byte). if reaches b offset (reg_size reg) align then read reg l else Never why)
    (take_under t (reg_size reg) (drop offset b.bytes))
    ∙ ap (λ (x : Answer). if reaches b offset (reg_size reg) align then x else Never why)
    (read_under t r reg (take (reg_size reg) (drop offset b.bytes)))
    ∙ if_never t (reaches b offset (reg_size reg) align) (read reg (take (reg_size reg) (drop offset b.bytes))) why
  where
    why : Cause
    why = access_cause b offset (reg_size reg)

pub load_under : (t : Naming) → Right t → (m m' : Memory) → MemoryUnder t m m' → (reg : Reg) (v : Value) (align : ℕ) →
    load m' reg (value_under t v) align ≡ answer_under t (load m reg v align)
load_under t r m m' h reg (Pointer (Cell l) i) align =
    ap (λ (o : Option MemoryBlock). load_from o reg i align) (h.blocks l) ∙ load_from_under t r (slice_get m l) reg i align
load_under t r m m' h reg (Pointer Nowhere i) align = refl
load_under t r m m' h reg (Pointer (Code s) i) align = refl
load_under t r m m' h reg (Number n) align = refl
load_under t r m m' h reg Poison align = refl

-- a block that is there is there in the second
pub cell_within : (t : Naming) (m m' : Memory) → MemoryUnder t m m' → (l : ℕ) (b : MemoryBlock) → slice_get m l ≡ Some b →
    cell_under t l < length m'
cell_within t m m' h l b e = slice_get_within m' (cell_under t l) (cells_under t b) (h.blocks l ∙ ap (maybe_under t) e)

-- a block and its counterpart are changed
pub set_under : (t : Naming) → Right t → (m m' : Memory) → MemoryUnder t m m' → (l : ℕ) (old b b' : MemoryBlock) →
    slice_get m l ≡ Some old → b' ≡ cells_under t b → MemoryUnder t (slice_set m l b) (slice_set m' (cell_under t l) b')
set_under t r m m' h l old b b' at is = record {
  variables = omega (arith, size, h.variables);
  sizes = omega (arith, size, size', h.sizes);
  blocks = λ k. by k (cases_eq k l);
}
  where
    size : length (slice_set m l b) ≡ length m
    size = length-set m l b

    size' : length (slice_set m' (cell_under t l) b') ≡ length m'
    size' = length-set m' (cell_under t l) b'

    by : (k : ℕ) → (k ≡ l) ⊎ (k ≡ l → ⊥) → slice_get (slice_set m' (cell_under t l) b') (cell_under t k) ≡ maybe_under t
        (slice_get (slice_set m l b) k)
    by k (inl e) =
        ap (λ (i : ℕ). slice_get (slice_set m' (cell_under t l) b') (cell_under t i)) e
        ∙ get_set_same m' (cell_under t l) b' (cell_within t m m' h l old at) ∙ ap (λ (x : MemoryBlock). Some x) is
        ∙ sym (ap (maybe_under t) (ap (slice_get (slice_set m l b)) e ∙ get_set_same m l b (slice_get_within m l old at)))
    by k (inr ne) =
        get_set_other m' (cell_under t l) (cell_under t k) b' (λ e. ne (cell_one t r k l e)) ∙ h.blocks k
        ∙ sym (ap (maybe_under t) (get_set_other m l k b ne))

-- no memory on both sides, or the second is the first under the other names
abbrev pub MaybeUnder : Naming → Option Memory → Option Memory → Type 0
MaybeUnder t None o = o ≡ None
MaybeUnder t (Some m) o = (m' : Memory) × (o ≡ Some m') × MemoryUnder t m m'

overwritten_under : (t : Naming) (bytes : List Byte) (offset : ℕ) (new new' : List Byte) → new' ≡ bytes_under t new →
    overwritten (bytes_under t bytes) offset new' ≡ bytes_under t (overwritten bytes offset new)
overwritten_under t bytes offset new new' e =
    ap (λ (l : List Byte). overwritten (bytes_under t bytes) offset l) e
    ∙ ap (λ (k : ℕ). take offset (bytes_under t bytes) ++ (bytes_under t new ++ drop (offset + k) (bytes_under t bytes)))
    (length_under t new)
    ∙ ap (λ (l : List Byte). l ++ (bytes_under t new ++ drop (offset + length new) (bytes_under t bytes))) (take_under t offset bytes)
    ∙ ap (λ (l : List Byte). bytes_under t (take offset bytes) ++ (bytes_under t new ++ l)) (drop_under t (offset + length new) bytes)
    ∙ ap (λ (l : List Byte). bytes_under t (take offset bytes) ++ l) (append_under t new (drop (offset + length new) bytes))
    ∙ append_under t (take offset bytes) (new ++ drop (offset + length new) bytes)

store_if : (t : Naming) (b : Bool) (m m' : Memory) → MemoryUnder t m m' →
    MaybeUnder t (if b then Some m else None) (if b then Some m' else None)
store_if t true m m' h = (m', refl, h)
store_if t false m m' h = refl

store_in_under : (t : Naming) → Right t → (m m' : Memory) → MemoryUnder t m m' → (l : ℕ) (o : Option MemoryBlock) →
    slice_get m l ≡ o → (reg : Reg) (v : Value) (offset align : ℕ) →
    MaybeUnder t (store_in m l o reg v offset align)
    (store_in m' (cell_under t l) (maybe_under t o) reg (value_under t v) offset align)
store_in_under t r m m' h l None at reg v offset align = refl
store_in_under t r m m' h l (Some b) at reg v offset align =
    let new : MemoryBlock = record b { bytes = overwritten b.bytes offset (stored_bytes reg v) } in
    let new' : MemoryBlock = record (cells_under t b) {
      bytes =
          overwritten (bytes_under t b.bytes) offset (stored_bytes reg (value_under t v));
    } in
    let is : new' ≡ cells_under t new = ap (λ (l : List Byte). record (cells_under t b) { bytes = l })
    (overwritten_under t b.bytes offset (stored_bytes reg v) (stored_bytes reg (value_under t v)) (stored_under t reg v)) in
    store_if t (b.writable && reaches b offset (reg_size reg) align) (slice_set m l new) (slice_set m' (cell_under t l) new')
    (set_under t r m m' h l b new new' at is)

pub store_under : (t : Naming) → Right t → (m m' : Memory) → MemoryUnder t m m' → (reg : Reg) (v u : Value) (align : ℕ) →
    MaybeUnder t (store m reg v u align) (store m' reg (value_under t v) (value_under t u) align)
store_under t r m m' h reg v (Pointer (Cell l) i) align =
    subst (λ (o : Option MemoryBlock). MaybeUnder t (store_in m l (slice_get m l) reg v i align)
    (store_in m' (cell_under t l) o reg (value_under t v) i align)) (sym (h.blocks l))
    (store_in_under t r m m' h l (slice_get m l) refl reg v i align)
store_under t r m m' h reg v (Pointer Nowhere i) align = refl
store_under t r m m' h reg v (Pointer (Code s) i) align = refl
store_under t r m m' h reg v (Number n) align = refl
store_under t r m m' h reg v Poison align = refl

-- the next block has the next number on both sides
pub cell_next : (t : Naming) (m m' : Memory) → MemoryUnder t m m' → cell_under t (length m) ≡ length m'
cell_next t m m' h =
    let x = cell_slot t (length m) h.variables in
    omega (arith, x, h.sizes, h.variables)

pub more_under : (t : Naming) → Right t → (m m' : Memory) → MemoryUnder t m m' → (size align : ℕ) →
    MemoryUnder t (m ++ fresh size align ∷ []) (m' ++ fresh size align ∷ [])
more_under t r m m' h size align = record {
  variables = omega (arith, grown, h.variables);
  sizes = omega (arith, grown, grown', h.sizes);
  blocks = λ k. by k (cases_lt k (length m)) (cases_eq k (length m));
}
  where
    b : MemoryBlock
    b = fresh size align

    grown : length (m ++ fresh size align ∷ []) ≡ length m + 1
    grown = length-append m (fresh size align ∷ [])

    grown' : length (m' ++ fresh size align ∷ []) ≡ length m' + 1
    grown' = length-append m' (fresh size align ∷ [])

    is : b ≡ cells_under t b
    is = ap (λ (l : List Byte). record { size = size; align = align; bytes = l; live = true; writable = true }) (unset_stay t size)

    old : (k : ℕ) → k < length m → (o : Option MemoryBlock) → slice_get m k ≡ o → cell_under t k < length m'
    old k lt (Some x) e = cell_within t m m' h k x e
    old k lt None e = absurd (missing m k lt e)
      where
        missing : (xs : Memory) (i : ℕ) → i < length xs → slice_get xs i ≡ None → ⊥
        missing [] i lt e = omega (arith, lt)
        missing (x ∷ xs) zero lt e = cc e
        missing (x ∷ xs) (suc i) lt e = missing xs i (omega (arith, lt)) e

    by : (k : ℕ) → (k < length m) ⊎ (length m ≤ k) → (k ≡ length m) ⊎ (k ≡ length m → ⊥) →
        slice_get (m' ++ b ∷ []) (cell_under t k) ≡ maybe_under t (slice_get (m ++ b ∷ []) k)
    by k (inl lt) c = get_append_old m' (b ∷ []) (cell_under t k) (old k lt (slice_get m k) refl) ∙ h.blocks k
        ∙ sym (ap (maybe_under t) (get_append_old m (b ∷ []) k lt))
    by k (inr le) (inl e) =
        ap (λ (i : ℕ). slice_get (m' ++ b ∷ []) i) (ap (cell_under t) e ∙ cell_next t m m' h) ∙ get_append_new m' b
        ∙ ap (λ (x : MemoryBlock). Some x) is ∙ sym (ap (maybe_under t) (ap (λ (i : ℕ). slice_get (m ++ b ∷ []) i) e
        ∙ get_append_new m b))
    by k (inr le) (inr ne) =
        let gt : length m < k = more (length m) k le ne in
        let x = cell_slot t k (omega (arith, h.variables, le)) in
        slice_get_past (m' ++ b ∷ []) (cell_under t k) (omega (arith, x, gt, grown', h.sizes, h.variables))
        ∙ sym (ap (maybe_under t) (slice_get_past (m ++ b ∷ []) k (omega (arith, gt, grown))))
      where
        more : (i j : ℕ) → i ≤ j → (j ≡ i → ⊥) → i < j
        more i j le ne = up (cases_lt i j)
          where
            up : (i < j) ⊎ (j ≤ i) → i < j
            up (inl lt) = lt
            up (inr ge) = absurd (ne (omega (arith, le, ge)))

pub cells_of : Naming → List ℕ → List ℕ
cells_of t ks = map (cell_under t) ks

end_under' : (t : Naming) → Right t → (m m' : Memory) → MemoryUnder t m m' → (l : ℕ) (o : Option MemoryBlock) →
    slice_get m l ≡ o → MemoryUnder t (end_life m l o) (end_life m' (cell_under t l) (maybe_under t o))
end_under' t r m m' h l None e = h
end_under' t r m m' h l (Some b) e = set_under t r m m' h l b (dead b) (dead (cells_under t b)) e refl

pub kill_under : (t : Naming) → Right t → (ks : List ℕ) (m m' : Memory) → MemoryUnder t m m' →
    MemoryUnder t (kill ks m) (kill (map (cell_under t) ks) m')
kill_under t r [] m m' h = h
kill_under t r (k ∷ ks) m m' h =
    let x = end_under' t r m m' h k (slice_get m k) refl in
    let y = subst (λ (o : Option MemoryBlock). MemoryUnder t (end_life m k (slice_get m k)) (end_life m' (cell_under t k) o))
    (sym (h.blocks k)) x in
    kill_under t r ks (end_life m k (slice_get m k)) (end_life m' (cell_under t k) (slice_get m' (cell_under t k))) y

-- ---- addresses

zero_or : (t : Naming) (o : Option MemoryBlock) → size_or_zero (maybe_under t o) ≡ size_or_zero o
zero_or t None = refl
zero_or t (Some b) = refl

object_under : (t : Naming) (m m' : Memory) → MemoryUnder t m m' → (x : Base) → object_size m' (base_under t x) ≡ object_size m x
object_under t m m' h Nowhere = refl
object_under t m m' h (Code s) = refl
object_under t m m' h (Cell l) = ap size_or_zero (h.blocks l) ∙ zero_or t (slice_get m l)

or_poison_under : (t : Naming) (x : Base) (o : Option ℕ) → pointer_or_poison (base_under t x) o ≡ value_under t (pointer_or_poison x o)
or_poison_under t x None = refl
or_poison_under t x (Some o) = refl

pub address_under : (t : Naming) (m m' : Memory) → MemoryUnder t m m' →
    (inbounds : Bool) (shape : Form) (v : Value) (is : Option (List ℤ)) →
    address_of m' inbounds shape (value_under t v) is ≡ value_under t (address_of m inbounds shape v is)
address_under t m m' h inbounds shape (Pointer x offset) (Some is) =
    ap (λ (n : ℕ). pointer_or_poison (base_under t x) (new_offset inbounds shape n offset is)) (object_under t m m' h x)
    ∙ or_poison_under t x (new_offset inbounds shape (object_size m x) offset is)
address_under t m m' h inbounds shape (Pointer x offset) None = refl
address_under t m m' h inbounds shape (Number n) is = refl
address_under t m m' h inbounds shape Poison is = refl

-- ---- comparisons

lives_under : (t : Naming) (test : ℕ → Bool) (o : Option MemoryBlock) → lives_with test (maybe_under t o) ≡ lives_with test o
lives_under t test None = refl
lives_under t test (Some b) = refl

inside_under : (t : Naming) (m m' : Memory) → MemoryUnder t m m' → (l i : ℕ) → is_inside m' (cell_under t l) i ≡ is_inside m l i
inside_under t m m' h l i = ap (lives_with (λ size. nat_lt i size)) (h.blocks l) ∙ lives_under t (λ size. nat_lt i size) (slice_get m l)

at_under : (t : Naming) (m m' : Memory) → MemoryUnder t m m' → (l i : ℕ) → is_at m' (cell_under t l) i ≡ is_at m l i
at_under t m m' h l i = ap (lives_with (λ size. nat_le i size)) (h.blocks l) ∙ lives_under t (λ size. nat_le i size) (slice_get m l)

apart_under : (t : Naming) (m m' : Memory) → MemoryUnder t m m' → (x y : Base) (i j : ℕ) →
    apart_equal m' (base_under t x) i (base_under t y) j ≡ apart_equal m x i y j
apart_under t m m' h Nowhere Nowhere i j = refl
apart_under t m m' h Nowhere (Code u) i j = refl
apart_under t m m' h Nowhere (Cell l) i j = ap (λ (b : Bool). unequal_if ((i == 0) && b)) (at_under t m m' h l j)
apart_under t m m' h (Code s) Nowhere i j = refl
apart_under t m m' h (Code s) (Code u) i j = refl
apart_under t m m' h (Code s) (Cell l) i j = refl
apart_under t m m' h (Cell l) Nowhere i j = ap (λ (b : Bool). unequal_if ((j == 0) && b)) (at_under t m m' h l i)
apart_under t m m' h (Cell l) (Code u) i j = refl
apart_under t m m' h (Cell l) (Cell k) i j =
    ap (λ (b : Bool). unequal_if (b && is_inside m' (cell_under t k) j)) (inside_under t m m' h l i)
    ∙ ap (λ (b : Bool). unequal_if (is_inside m l i && b)) (inside_under t m m' h k j)

equal_under : (t : Naming) → Right t → (m m' : Memory) → MemoryUnder t m m' → (x y : Base) (i j : ℕ) →
    settled_equal m' (base_under t x) i (base_under t y) j ≡ settled_equal m x i y j
equal_under t r m m' h x y i j =
    ap (λ (b : Bool). if b then Some (i == j) else apart_equal m' (base_under t x) i (base_under t y) j) (base_test t r x y)
    ∙ ap (λ (o : Option Bool). if base_eq x y then Some (i == j) else o) (apart_under t m m' h x y i j)

order_under : (t : Naming) → Right t → (m m' : Memory) → MemoryUnder t m m' → (order : ℕ → ℕ → Bool) (x y : Base) (i j : ℕ) →
    settled_order m' order (base_under t x) i (base_under t y) j ≡ settled_order m order x i y j
order_under t r m m' h order (Cell l) (Cell k) i j =
    ap (λ (b : Bool). if b && (is_at m' (cell_under t l) i && is_at m' (cell_under t l) j) then Some (order i j) else None)
    (cell_test t r l k)
    ∙ ap (λ (b : Bool). if (l == k) && (b && is_at m' (cell_under t l) j) then Some (order i j) else None) (at_under t m m' h l i)
    ∙ ap (λ (b : Bool). if (l == k) && (is_at m l i && b) then Some (order i j) else None) (at_under t m m' h l j)
order_under t r m m' h order Nowhere y i j = refl
order_under t r m m' h order (Code s) y i j = refl
order_under t r m m' h order (Cell l) Nowhere i j = refl
order_under t r m m' h order (Cell l) (Code u) i j = refl

settled_under : (t : Naming) → Right t → (m m' : Memory) → MemoryUnder t m m' → (p : Predicate) (x y : Base) (i j : ℕ) →
    settled m' p (base_under t x) i (base_under t y) j ≡ settled m p x i y j
settled_under t r m m' h Eq x y i j = equal_under t r m m' h x y i j
settled_under t r m m' h Ne x y i j = ap negated (equal_under t r m m' h x y i j)
settled_under t r m m' h Ult x y i j = order_under t r m m' h nat_lt x y i j
settled_under t r m m' h Ule x y i j = order_under t r m m' h nat_le x y i j
settled_under t r m m' h Ugt x y i j = order_under t r m m' h (λ a b. nat_lt b a) x y i j
settled_under t r m m' h Uge x y i j = order_under t r m m' h (λ a b. nat_le b a) x y i j
settled_under t r m m' h Sgt x y i j = refl
settled_under t r m m' h Sge x y i j = refl
settled_under t r m m' h Slt x y i j = refl
settled_under t r m m' h Sle x y i j = refl

chosen_plain : (t : Naming) (o : Option Bool) (choice : ℕ) → chosen o choice ≡ value_under t (chosen o choice)
chosen_plain t None choice = refl
chosen_plain t (Some b) choice = refl

pub pointers_under : (t : Naming) → Right t → (m m' : Memory) → MemoryUnder t m m' →
    (p : Predicate) (v u : Value) (choice : ℕ) → compared_pointers m' p (value_under t v) (value_under t u) choice ≡ value_under
    t (compared_pointers m p v u choice)
pointers_under t r m m' h p (Pointer x i) (Pointer y j) choice =
    ap (λ (o : Option Bool). chosen o choice) (settled_under t r m m' h p x y i j) ∙ chosen_plain t (settled m p x i y j) choice
pointers_under t r m m' h p (Pointer x i) (Number n) choice = refl
pointers_under t r m m' h p (Pointer x i) Poison choice = refl
pointers_under t r m m' h p (Number n) u choice = refl
pointers_under t r m m' h p Poison u choice = refl
