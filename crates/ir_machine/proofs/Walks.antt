-- Places within an object, and walks behind one more index.
use Rattle.std.proofs.Common.{◌≡◌, ℕ, zero, suc, ◌+◌, ◌-◌, ◌*◌, ◌^◌, ◌<◌, ◌≤◌, Bool, true, false, not, ◌&&◌, ◌||◌, cond, if◌then◌else◌, nat_le, nat_lt, ℤ, pos, negsuc, neg_ℤ, ◌+ℤ◌, ◌*ℤ◌, nat_abs, int_lt, List, [], ◌∷◌, Option, Some, None, refl, ap, sym, ◌∙◌, arith, mod-eq_of_lt}
use Rattle.std.proofs.lemmas.Bool.Decides.{nat_tests}
use Rattle.ir_tree.specs.Forms.{Form}
use Rattle.ir_meaning.specs.Address.{are_all_zero, displacements, is_within, new_offset, stays_within, sum_from}
use Rattle.lto_bits.specs.Word.{wrapped}
use Rattle.ir_machine.specs.Walking.{displacements_at, ends_at, ends_by}
use Rattle.ir_machine.specs.declared.walk.Walk.{Walk}
use Rattle.ir_meaning.proofs.Wraps.{sum_wraps, wrapped_below}

-- ---- tests

pub and_assoc : (a b c : Bool) → ((a && b) && c) ≡ (a && (b && c))
and_assoc true b c = refl
and_assoc false b c = refl

and_false : (a : Bool) → (a && false) ≡ false
and_false true = refl
and_false false = refl

none_below : (n : ℕ) → nat_le 0 n ≡ true
none_below n = grind (arith, nat_tests)

le_of : (m n : ℕ) → nat_le m n ≡ true → m ≤ n
le_of m n h = grind (arith, nat_tests)

le_yes : (m n : ℕ) → m ≤ n → nat_le m n ≡ true
le_yes m n h = grind (arith, nat_tests)

le_no : (m n : ℕ) → n < m → nat_le m n ≡ false
le_no m n h = grind (arith, nat_tests)

lt_of : (m n : ℕ) → nat_lt m n ≡ true → m < n
lt_of m n h = grind (arith, nat_tests)

lt_not : (m n : ℕ) → nat_lt m n ≡ false → n ≤ m
lt_not m n h = grind (arith, nat_tests)

pub lt_yes : (m n : ℕ) → m < n → nat_lt m n ≡ true
lt_yes m n h = grind (arith, nat_tests)

-- ---- places

pub within_at : (s n : ℕ) → is_within s (pos n) ≡ nat_le n s
within_at s n = ap (λ b. b && nat_le n s) (none_below n)

pub within_above : (s o m : ℕ) → is_within s (pos o +ℤ pos m) ≡ nat_le (o + m) s
within_above s o m = within_at s (o + m)

pub within_below : (s o m : ℕ) → is_within s (pos o +ℤ neg_ℤ (pos m)) ≡ (nat_le m o && nat_le (o - m) s)
within_below s o zero =
    let same : o + 0 ≡ o - 0 = omega arith in
    within_at s (o + 0) ∙ ap (λ (n : ℕ). nat_le n s) same ∙ ap (λ b. b && nat_le (o - 0) s) (sym (none_below o))
within_below s o (suc k) = by (nat_lt o (suc k)) refl where
  by : (v : Bool) → nat_lt o (suc k) ≡ v → is_within s (cond v (negsuc (suc k - suc o)) (pos (o - suc k))) ≡ (nat_le (suc k) o && nat_le (o - suc k) s)
  by true is = ap (λ b. b && nat_le (o - suc k) s) (sym (le_no (suc k) o (lt_of o (suc k) is)))
  by false is = within_at s (o - suc k) ∙ ap (λ b. b && nat_le (o - suc k) s) (sym (le_yes (suc k) o (lt_not o (suc k) is)))

-- a displacement of 2 ^ 64 bytes or more leads out of every object
pub far_above : (s o m : ℕ) → s < m → is_within s (pos o +ℤ pos m) ≡ false
far_above s o m h = within_above s o m ∙ le_no (o + m) s (omega (arith, h))

pub far_below : (s o m : ℕ) → o < m → is_within s (pos o +ℤ neg_ℤ (pos m)) ≡ false
far_below s o m h = within_below s o m ∙ ap (λ b. b && nat_le (o - m) s) (le_no m o h)

-- a place within an object of less than 2 ^ 64 bytes is the number that it wraps to
exact : (s : ℕ) (z : ℤ) → s < 2 ^ 64 → is_within s z ≡ true → pos (wrapped 64 z) ≡ z
exact s (pos n) h is =
    let low : n ≤ s = le_of n s (sym (within_at s n) ∙ is) in
    let small : n < 2 ^ 64 = omega (arith, low, h) in
    ap pos (mod-eq_of_lt small)
exact s (negsuc n) h is = absurd (cc is)

nowhere : (s : ℕ) (z : ℤ) (ds : List ℤ) → is_within s z ≡ false → stays_within s z ds ≡ false
nowhere s z [] h = h
nowhere s z (d ∷ ds) h = ap (λ b. b && stays_within s (z +ℤ d) ds) h

stays_on : (s o : ℕ) (z : ℤ) (ds : List ℤ) (within : Bool) → s < 2 ^ 64 →
    ((within && (nat_le o s && is_within s z)) && stays_within s (pos (wrapped 64 z)) ds) ≡ (within && (is_within s (pos o) && stays_within s z ds))
stays_on s o z ds within h = by (is_within s z) refl where
  by : (v : Bool) → is_within s z ≡ v →
      ((within && (nat_le o s && is_within s z)) && stays_within s (pos (wrapped 64 z)) ds) ≡ (within && (is_within s (pos o) && stays_within s z ds))
  by true is =
      ap (λ v. (within && (nat_le o s && v)) && stays_within s (pos (wrapped 64 z)) ds) is
      ∙ ap (λ (y : ℤ). (within && (nat_le o s && true)) && stays_within s y ds) (exact s z h is)
      ∙ and_assoc within (nat_le o s && true) (stays_within s z ds)
      ∙ ap (λ v. within && v) (and_assoc (nat_le o s) true (stays_within s z ds))
      ∙ ap (λ v. within && (v && stays_within s z ds)) (sym (within_at s o))
  by false is =
      ap (λ v. (within && (nat_le o s && v)) && stays_within s (pos (wrapped 64 z)) ds) is
      ∙ and_assoc within (nat_le o s && false) (stays_within s (pos (wrapped 64 z)) ds)
      ∙ ap (λ v. within && v) (and_assoc (nat_le o s) false (stays_within s (pos (wrapped 64 z)) ds))
      ∙ ap (λ v. within && v) (and_false (nat_le o s))
      ∙ ap (λ v. within && v) (sym (and_false (is_within s (pos o))))
      ∙ ap (λ v. within && (is_within s (pos o) && v)) (sym (nowhere s z ds is))

again : (z : ℤ) → wrapped 64 (pos (wrapped 64 z)) ≡ wrapped 64 z
again z = mod-eq_of_lt (wrapped_below z)

-- the walk behind one more displacement
pub on_ends : (inbounds nought z zeros within : Bool) (s o : ℕ) (d : ℤ) (ds : List ℤ) (o' : ℕ) (within' nought' : Bool) → s < 2 ^ 64 →
    o' ≡ wrapped 64 (pos o +ℤ d) → within' ≡ (within && (nat_le o s && is_within s (pos o +ℤ d))) → nought' ≡ (nought && z) →
    (if not inbounds || ((nought' && zeros) || (within' && stays_within s (pos o') ds)) then Some (wrapped 64 (sum_from (pos o') ds)) else None)
    ≡ (if not inbounds || ((nought && (z && zeros)) || (within && stays_within s (pos o) (d ∷ ds))) then Some (wrapped 64 (sum_from (pos o) (d ∷ ds))) else None)
on_ends inbounds nought z zeros within s o d ds o' within' nought' h eo ew ez =
    ap (λ (n : ℕ). if not inbounds || ((nought' && zeros) || (within' && stays_within s (pos n) ds)) then Some (wrapped 64 (sum_from (pos n) ds)) else None) eo
    ∙ ap (λ v. if not inbounds || ((nought' && zeros) || (v && stays_within s (pos (wrapped 64 (pos o +ℤ d))) ds)) then Some (wrapped 64 (sum_from (pos (wrapped 64 (pos o +ℤ d))) ds)) else None) ew
    ∙ ap (λ v. if not inbounds || ((v && zeros) || ((within && (nat_le o s && is_within s (pos o +ℤ d))) && stays_within s (pos (wrapped 64 (pos o +ℤ d))) ds)) then Some (wrapped 64 (sum_from (pos (wrapped 64 (pos o +ℤ d))) ds)) else None) ez
    ∙ ap (λ v. if not inbounds || (((nought && z) && zeros) || v) then Some (wrapped 64 (sum_from (pos (wrapped 64 (pos o +ℤ d))) ds)) else None) (stays_on s o (pos o +ℤ d) ds within h)
    ∙ ap (λ v. if not inbounds || (v || (within && stays_within s (pos o) (d ∷ ds))) then Some (wrapped 64 (sum_from (pos (wrapped 64 (pos o +ℤ d))) ds)) else None) (and_assoc nought z zeros)
    ∙ ap (λ (n : ℕ). if not inbounds || ((nought && (z && zeros)) || (within && stays_within s (pos o) (d ∷ ds))) then Some n else None)
    (sum_wraps ds (pos (wrapped 64 (pos o +ℤ d))) (pos o +ℤ d) (again (pos o +ℤ d)))

pub all_zero_step : (i : ℤ) (is : List ℤ) → are_all_zero (i ∷ is) ≡ (are_all_zero (i ∷ []) && are_all_zero is)
all_zero_step (pos zero) is = refl
all_zero_step (pos (suc n)) is = refl
all_zero_step (negsuc n) is = refl

-- ---- places by signed displacements

none_under : (n : ℕ) → nat_lt n 0 ≡ true → ⊥
none_under n h = omega (arith, lt_of n 0 h)

pub landing_below : (s o b m : ℕ) (z : ℤ) → int_lt z (pos 0) ≡ true → m ≡ nat_abs z * b → is_within s (pos o +ℤ z *ℤ pos b) ≡ (nat_le m o && nat_le (o - m) s)
landing_below s o b m (pos n) h e = absurd (none_under n h)
landing_below s o b m (negsuc n) h e = within_below s o (suc n * b) ∙ ap (λ (k : ℕ). nat_le k o && nat_le (o - k) s) (sym e)

pub landing_above : (s o b m : ℕ) (z : ℤ) → int_lt z (pos 0) ≡ false → m ≡ nat_abs z * b → is_within s (pos o +ℤ z *ℤ pos b) ≡ nat_le (o + m) s
landing_above s o b m (pos n) h e = within_above s o (n * b) ∙ ap (λ (k : ℕ). nat_le (o + k) s) (sym e)
landing_above s o b m (negsuc n) h e = absurd (cc h)

pub landing_far : (s o b : ℕ) (z : ℤ) → s < 2 ^ 64 → o < 2 ^ 64 → 2 ^ 64 ≤ nat_abs z * b → is_within s (pos o +ℤ z *ℤ pos b) ≡ false
landing_far s o b (pos n) h k far = far_above s o (n * b) (omega (arith, h, far))
landing_far s o b (negsuc n) h k far = far_below s o (suc n * b) (omega (arith, k, far))

-- ---- walks

-- the walk before the first index
pub begins : (inbounds : Bool) (shape : Form) (s o : ℕ) (is : List ℤ) → o < 2 ^ 64 →
    (if not inbounds || (are_all_zero is || stays_within s (pos o) (displacements shape is)) then Some (wrapped 64 (sum_from (pos o) (displacements shape is))) else None)
    ≡ new_offset inbounds shape s o is
unfolding new_offset
begins inbounds shape s o is h =
    ap (λ v. if v && (not inbounds || (are_all_zero is || stays_within s (pos o) (displacements shape is))) then Some (wrapped 64 (sum_from (pos o) (displacements shape is))) else None)
    (sym (lt_yes o (2 ^ 64) h))

-- the walk behind an index that leads nowhere
pub stays_ends : (inbounds nought z zeros other : Bool) (r : Option ℕ) (nought' : Bool) → nought' ≡ (nought && z) →
    (if not inbounds || ((nought' && zeros) || other) then r else None) ≡ (if not inbounds || ((nought && (z && zeros)) || other) then r else None)
stays_ends inbounds nought z zeros other r nought' e =
    ap (λ v. if not inbounds || ((v && zeros) || other) then r else None) e
    ∙ ap (λ v. if not inbounds || (v || other) then r else None) (and_assoc nought z zeros)

-- the walk behind an index, by its displacement
pub behind : (inbounds : Bool) (w w' : Walk) (nought : Bool) (i : ℤ) (is ds ds' : List ℤ) → displacements_at w'.next is ≡ ds →
    ends_by inbounds w' (are_all_zero is) ds ≡ ends_by inbounds w (nought && are_all_zero is) ds' → nought ≡ are_all_zero (i ∷ []) →
    ds' ≡ displacements_at w.next (i ∷ is) → ends_at inbounds w' is ≡ ends_at inbounds w (i ∷ is)
behind inbounds w w' nought i is ds ds' e1 e2 e3 e4 =
    ap (λ (xs : List ℤ). ends_by inbounds w' (are_all_zero is) xs) e1
    ∙ e2
    ∙ ap (λ v. ends_by inbounds w (v && are_all_zero is) ds') e3
    ∙ ap (λ v. ends_by inbounds w v ds') (sym (all_zero_step i is))
    ∙ ap (λ (xs : List ℤ). ends_by inbounds w (are_all_zero (i ∷ is)) xs) e4
