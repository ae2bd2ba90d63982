-- Some rows of the rule table, and what a load of a stored value gives.
use Rattle.std.proofs.Common.{◌≡◌, ℕ, zero, suc, ◌+◌, ◌*◌, ◌/◌, ◌%◌, ◌^◌, ◌<◌, Bool, true, false, ◌&&◌, ◌==◌, nat_lt, if◌then◌else◌, List, replicate, Option, Some, None, inl, inr, refl, sym, ap, ◌∙◌, subst, arith, mod-eq_of_lt, pow_pos, pow-add, pow-suc, add-zero}
use Rattle.std.proofs.lemmas.Bool.{and_from, ltb-true, lt-ltb, eq-eqb}
use Rattle.ir_tree.specs.declared.instr.BinaryOp.TheVariants.{Add}
use Rattle.ir_tree.specs.declared.instr.Flags.{Flags}
use Rattle.ir_tree.specs.declared.instr.Predicate.TheVariants.{Eq}
use Rattle.ir_tree.specs.declared.operand.Reg.{Reg}
use Rattle.ir_tree.specs.declared.operand.Reg.TheVariants.{Int, Ptr}
use Rattle.ir_meaning.specs.Bytes.{number_bytes, fragments, bits_stored, pointer_stored, stored_bytes, has_unset, has_spoilt, raised, read_number, are_fragments, or_poison, read_as, read}
use Rattle.ir_meaning.specs.Execute.{gives, compares}
use Rattle.ir_meaning.specs.Frame.{value_of}
use Rattle.ir_meaning.specs.Memory.{Memory}
use Rattle.ir_meaning.specs.Operate.{Answer, Is, Unwritten, number_or_poison, bits_of, plain_bits, compared_bits, bit, selected_bits}
use Rattle.ir_meaning.specs.Pointers.{apart_equal, chosen, compared_pointers}
use Rattle.ir_tree.proofs.Symbols.{symbol_self}
use Rattle.ir_meaning.specs.Symbols.{base_eq}
use Rattle.lto_bits.specs.Operation.{allowed, arithmetic as word_arithmetic}
use Rattle.ir_meaning.specs.Arithmetic.{arithmetic}
use Rattle.lto_bits.specs.Comparison.{compared as word_compared}
use Rattle.ir_meaning.specs.declared.value.Base.{Base}
use Rattle.ir_meaning.specs.declared.value.Base.TheVariants.{Nowhere, Code, Cell}
use Rattle.ir_meaning.specs.declared.value.Byte.{Byte}
use Rattle.ir_meaning.specs.declared.value.Byte.TheVariants.{Spoilt}
use Rattle.ir_meaning.specs.declared.value.Value.{Value}
use Rattle.ir_meaning.specs.declared.value.Value.TheVariants.{Number, Pointer, Poison}
use Rattle.ir_meaning.specs.Facts.{Stands, GivesFor}
use Rattle.ir_meaning.specs.Rules.{StandsForRead, IsStorable, RuleRows}

both : {a b : Bool} → a ≡ true → b ≡ true → (a && b) ≡ true
both {a} {b} e f = and_from a b e f

-- ---- add x, 0

allowed_stands : (b : Bool) (r n : ℕ) → r ≡ n → Stands (Number n) (number_or_poison (allowed b r))
allowed_stands false r n e = inl refl
allowed_stands true r n e = inr (ap Number (sym e))

add_number : (f : Flags) (w n : ℕ) → n < 2 ^ w → Stands (Number n) (number_or_poison (arithmetic Add f w n 0))
unfolding word_arithmetic
add_number f w n lt = allowed_stands _ ((n + 0) % 2 ^ w) n (ap (λ x. x % 2 ^ w) (add-zero n) ∙ mod-eq_of_lt lt)

zero_fits : (w : ℕ) → nat_lt 0 (2 ^ w) ≡ true
zero_fits w = lt-ltb 0 (2 ^ w) (pow_pos w)

add_stands : (f : Flags) (w : ℕ) (v : Value) → Stands v (plain_bits Add f w (bits_of w v) (bits_of w (Number 0)))
add_stands f w Poison = inl refl
add_stands f w (Pointer x i) = inl refl
add_stands f w (Number n) = by (nat_lt n (2 ^ w)) refl
  where
    by : (b : Bool) → nat_lt n (2 ^ w) ≡ b → Stands (Number n) (plain_bits Add f w (if b then Some n else None) (bits_of w (Number 0)))
    by false q = inl refl
    by true q = subst (λ (c : Bool). Stands (Number n) (plain_bits Add f w (Some n) (if c then Some 0 else None)))
        (sym (zero_fits w)) (add_number f w n (ltb-true n (2 ^ w) q))

-- ---- icmp eq x, x

pub same_base : (x : Base) → base_eq x x ≡ true
same_base Nowhere = refl
same_base (Code s) = symbol_self s
same_base (Cell l) = eq-eqb l l refl

one_if : (b : Bool) → b ≡ true → Stands (Number 1) (bit b)
one_if b e = inr (ap bit (sym e))

equal_bits : (w : ℕ) (a : Option ℕ) → Stands (Number 1) (compared_bits Eq w a a)
unfolding word_compared
equal_bits w None = inl refl
equal_bits w (Some n) = one_if (n == n) (eq-eqb n n refl)

equal_pointers : (m : Memory) (choice : ℕ) (v : Value) → Stands (Number 1) (compared_pointers m Eq v v choice)
equal_pointers m choice Poison = inl refl
equal_pointers m choice (Number n) = inl refl
equal_pointers m choice (Pointer x i) = inr (sym
    (ap (λ (b : Bool). chosen (if b then Some (i == i) else apart_equal m x i x i) choice) (same_base x)
    ∙ ap bit (eq-eqb i i refl)))

equal_values : (m : Memory) (choice : ℕ) (reg : Reg) (v : Value) → Stands (Number 1) (compares m choice Eq reg v v)
equal_values m choice (Int w) v = equal_bits w (bits_of w v)
equal_values m choice Ptr v = equal_pointers m choice v

-- ---- select c, x, x

select_stands : (c : Option ℕ) (v : Value) → Stands v (selected_bits c v v)
select_stands None v = inl refl
select_stands (Some zero) v = inr refl
select_stands (Some (suc n)) v = inr refl

-- ---- bytes

spoilt_unset : (k : ℕ) → has_unset (replicate k Spoilt) ≡ false
spoilt_unset zero = refl
spoilt_unset (suc k) = spoilt_unset k

number_unset : (k n : ℕ) → has_unset (number_bytes k n) ≡ false
number_unset zero n = refl
number_unset (suc k) n = number_unset k (n / 256)

number_spoilt : (k n : ℕ) → has_spoilt (number_bytes k n) ≡ false
number_spoilt zero n = refl
number_spoilt (suc k) n = number_spoilt k (n / 256)

number_read : (k n : ℕ) → n < 256 ^ k → read_number (number_bytes k n) ≡ Some n
number_read zero n lt = let e : n ≡ 0 = omega arith in ap Some (sym e)
number_read (suc k) n lt =
    let s : 256 ^ suc k ≡ 256 ^ k * 256 = pow-suc 256 k in
    let few : n / 256 < 256 ^ k = omega arith in
    let back : n % 256 + 256 * (n / 256) ≡ n = omega arith in
    ap (raised (n % 256)) (number_read k (n / 256) few) ∙ ap Some back

bytes_power : (k : ℕ) → 2 ^ (k * 8) ≡ 256 ^ k
bytes_power zero = refl
bytes_power (suc k) =
    let e : suc k * 8 ≡ k * 8 + 8 = omega arith in
    ap (λ x. 2 ^ x) e ∙ pow-add 2 (k * 8) 8 ∙ ap (λ x. x * 256) (bytes_power k) ∙ sym (pow-suc 256 k)

-- what is read, by what is known of the bytes
read_plain : (reg : Reg) (v : Value) (bytes : List Byte) → has_unset bytes ≡ false → has_spoilt bytes ≡ false →
    Stands v (read_as reg bytes) → StandsForRead v (read reg bytes)
read_plain reg v bytes a b h =
    subst (λ (x : Bool). StandsForRead v (if x then Unwritten else
    (if has_spoilt bytes then Is Poison else Is (read_as reg bytes)))) (sym a)
    (subst (λ (x : Bool). StandsForRead v (if x then Is Poison else Is (read_as reg bytes))) (sym b) h)

read_spoilt : (reg : Reg) (v : Value) (k : ℕ) → 0 < k → StandsForRead v (read reg (replicate k Spoilt))
read_spoilt reg v zero lt = absurd (omega arith)
read_spoilt reg v (suc k) lt = subst (λ (x : Bool). StandsForRead v (if x then Unwritten else Is Poison)) (sym (spoilt_unset k)) (inl refl)

same_fragments : (k i : ℕ) (x : Base) (o : ℕ) → are_fragments i x o (fragments k i x o) ≡ true
same_fragments zero i x o = refl
same_fragments (suc k) i x o = both (both (both (eq-eqb i i refl) (same_base x)) (eq-eqb o o refl)) (same_fragments k (suc i) x o)

fragments_read : (x : Base) (o : ℕ) → StandsForRead (Pointer x o) (read Ptr (fragments 8 0 x o))
fragments_read x o = inr (sym (ap (λ (b : Bool). if b then Pointer x o else Poison) (same_fragments 7 1 x o)))

pointer_read : (v : Value) → StandsForRead v (read Ptr (pointer_stored v))
pointer_read Poison = read_spoilt Ptr Poison 8 (omega arith)
pointer_read (Number n) = read_spoilt Ptr (Number n) 8 (omega arith)
pointer_read (Pointer Nowhere zero) = inr refl
pointer_read (Pointer Nowhere (suc o)) = fragments_read Nowhere (suc o)
pointer_read (Pointer (Code s) o) = fragments_read (Code s) o
pointer_read (Pointer (Cell l) o) = fragments_read (Cell l) o

number_back : (w : ℕ) → IsStorable (Int w) → (v : Value) → StandsForRead v (read (Int w) (bits_stored (w / 8) (bits_of w v)))
number_back w s Poison = read_spoilt (Int w) Poison (w / 8) s.0
number_back w s (Pointer x o) = read_spoilt (Int w) (Pointer x o) (w / 8) s.0
number_back w s (Number n) = by (nat_lt n (2 ^ w)) refl
  where
    by : (b : Bool) → nat_lt n (2 ^ w) ≡ b → StandsForRead (Number n) (read (Int w) (bits_stored (w / 8) (if b then Some n else None)))
    by false q = read_spoilt (Int w) (Number n) (w / 8) s.0
    by true q =
        let power : 2 ^ w ≡ 256 ^ (w / 8) = ap (λ x. 2 ^ x) (sym s.1) ∙ bytes_power (w / 8) in
        let lt : n < 256 ^ (w / 8) = subst (λ x. n < x) power (ltb-true n (2 ^ w) q) in
        read_plain (Int w) (Number n) (number_bytes (w / 8) n) (number_unset (w / 8) n) (number_spoilt (w / 8) n)
        (inr (sym (ap or_poison (number_read (w / 8) n lt))))

-- ---- the rows

folded_gives : (m : Memory) (place c : ℕ) (a : Answer) → a ≡ Is (Number c) → GivesFor m place (Number c) (gives m place a)
folded_gives m place c a e = subst (λ (x : Answer). GivesFor m place (Number c) (gives m place x)) (sym e) (inr refl, refl, refl, refl)

pub rows : RuleRows
rows = record {
  add_zero = λ f w x sig input m place choice ls live. (add_stands f w (value_of sig ls x), refl, refl, refl);
  equal_same = λ reg x sig input m place choice ls live. (equal_values m choice reg (value_of sig ls x), refl, refl, refl);
  select_same = λ c x sig input m place choice ls live.
      (select_stands (bits_of 1 (value_of sig ls c)) (value_of sig ls x.operand), refl, refl, refl);
  freeze_poison = λ w reg sig input m place ls live. (0, (inr (ap Number (sym (mod-eq_of_lt (pow_pos w)))), refl, refl, refl));
  folded = λ op f w a b c e sig input m place choice ls live. folded_gives m place c _ e;
  read_back = λ reg s v. back reg s v;
}
  where
    back : (reg : Reg) → IsStorable reg → (v : Value) → StandsForRead v (read reg (stored_bytes reg v))
    back (Int w) s v = number_back w s v
    back Ptr s v = pointer_read v
