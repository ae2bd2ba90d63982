-- Loads, addresses and comparisons of agreed pointers over related memories.
use Rattle.std.proofs.Common.{◌≡◌, ℕ, zero, suc, ◌+◌, ◌%◌, ◌<◌, ℤ, Bool, true, false, ◌&&◌, ◌==◌, nat_lt, nat_le, if◌then◌else◌, List, [], ◌∷◌, length, take, drop, Option, Some, None, slice_get, ◌⊎◌, inl, inr, refl, sym, ap, ◌∙◌, subst}
use Rattle.std.proofs.lemmas.Bool.{cases_eq, and_parts, and_from, eqb-true, eq-eqb, ne_eqb}
use Rattle.ir_tree.specs.Forms.{Form}
use Rattle.ir_tree.specs.declared.instr.Predicate.{Predicate}
use Rattle.ir_tree.specs.declared.instr.Predicate.TheVariants.{Eq, Ne, Ugt, Uge, Ult, Ule, Sgt, Sge, Slt, Sle}
use Rattle.ir_tree.specs.declared.operand.Reg.{Reg}
use Rattle.ir_tree.specs.declared.operand.Reg.TheVariants.{Int, Ptr}
use Rattle.ir_tree.specs.declared.operand.Symbol.{Symbol}
use Rattle.ir_meaning.specs.Access.{access_cause, reaches, load_from, load}
use Rattle.ir_meaning.specs.Address.{new_offset, pointer_or_poison, address_of}
use Rattle.ir_meaning.specs.Bytes.{reg_size, has_unset, has_spoilt, raised, read_number, are_fragments, are_zero, read_pointer, or_poison, read_as, read}
use Rattle.ir_meaning.specs.Memory.{MemoryBlock, size_or_zero, object_size}
use Rattle.ir_meaning.specs.Operate.{Is, Unwritten}
use Rattle.ir_meaning.specs.Pointers.{lives_with, is_inside, is_at, unequal_if, apart_equal, settled_equal, settled_order, negated, settled, compared_pointers}
use Rattle.ir_meaning.specs.Relate.{Pairing, Point, Related, SameBase, SameBytes, SameBlock, Agrees}
use Rattle.ir_meaning.specs.Symbols.{base_eq}
use Rattle.ir_tree.specs.Symbols.{symbol_eq}
use Rattle.ir_meaning.specs.declared.value.Base.{Base}
use Rattle.ir_meaning.specs.declared.value.Base.TheVariants.{Nowhere, Code, Cell}
use Rattle.ir_meaning.specs.declared.value.Byte.{Byte}
use Rattle.ir_meaning.specs.declared.value.Byte.TheVariants.{Unset, Spoilt, Plain, Fragment}
use Rattle.ir_meaning.specs.declared.value.Value.{Value}
use Rattle.ir_meaning.specs.declared.value.Value.TheVariants.{Number, Pointer, Poison}
use Rattle.ir_meaning.proofs.Alike.Values.{AnswerAgrees, NoneOrSame, if_defined, chosen_agrees}
use Rattle.ir_meaning.proofs.Between.Points.{block_of, block_here}

-- what two related blocks of equal numbers are
abbrev pub MaybeSame : Pairing → ℕ → Option MemoryBlock → Option MemoryBlock → Type 0
MaybeSame w n (Some b) (Some b') = SameBlock w n b b'
MaybeSame w n None _ = ⊥
MaybeSame w n (Some b) None = ⊥

pub here_same : (p : Point) → Related p → (l r : ℕ) → l < length p.left → p.pairing l ≡ r →
    MaybeSame p.pairing (length p.left) (slice_get p.left l) (slice_get p.right r)
here_same p rel l r lt e =
    let b = block_of p.left l in
    let x = rel.blocks l b (block_here p.left l lt) in
    let at = ap (λ (i : ℕ). slice_get p.right i) (sym e) ∙ x.1 in
    subst (λ (o : Option MemoryBlock). MaybeSame p.pairing (length p.left) o (slice_get p.right r))
    (sym (block_here p.left l lt)) (subst (λ (o : Option MemoryBlock). MaybeSame p.pairing (length p.left) (Some b) o)
    (sym at) x.2)

-- ---- equal bases

number_eq : (a b : ℕ) → (a == b) ≡ true → a ≡ b
number_eq a b h = eqb-true a b h

same_test : (p : Point) → Related p → (l m r s : ℕ) → l < length p.left → m < length p.left → p.pairing l ≡ r →
    p.pairing m ≡ s → (l == m) ≡ (r == s)
same_test p rel l m r s ll lm e f = by (cases_eq l m)
  where
    by : (l ≡ m) ⊎ (l ≡ m → ⊥) → (l == m) ≡ (r == s)
    by (inl same) = eq-eqb l m same ∙ sym (eq-eqb r s (sym e ∙ ap p.pairing same ∙ f))
    by (inr other) = ne_eqb l m other ∙ sym (ne_eqb r s (λ same. other (rel.one_to_one l m ll lm (e ∙ same ∙ sym f))))

pub base_test : (p : Point) → Related p → (x x' y y' : Base) → SameBase p.pairing (length p.left) x x' →
    SameBase p.pairing (length p.left) y y' → base_eq x y ≡ base_eq x' y'
base_test p rel Nowhere Nowhere Nowhere Nowhere a b = refl
base_test p rel Nowhere Nowhere (Code s) (Code t) a b = refl
base_test p rel Nowhere Nowhere (Cell l) (Cell r) a b = refl
base_test p rel (Code s) (Code t) Nowhere Nowhere a b = refl
base_test p rel (Code s) (Code t) (Code s') (Code t') a b = ap (λ (x : Symbol). symbol_eq x s') a ∙ ap (λ (x : Symbol). symbol_eq t x) b
base_test p rel (Code s) (Code t) (Cell l) (Cell r) a b = refl
base_test p rel (Cell l) (Cell r) Nowhere Nowhere a b = refl
base_test p rel (Cell l) (Cell r) (Code s) (Code t) a b = refl
base_test p rel (Cell l) (Cell r) (Cell m) (Cell s) a b = same_test p rel l m r s a.0 b.0 a.1 b.1
base_test p rel Nowhere (Code t) y y' a b = absurd a
base_test p rel Nowhere (Cell r) y y' a b = absurd a
base_test p rel (Code s) Nowhere y y' a b = absurd a
base_test p rel (Code s) (Cell r) y y' a b = absurd a
base_test p rel (Cell l) Nowhere y y' a b = absurd a
base_test p rel (Cell l) (Code t) y y' a b = absurd a
base_test p rel Nowhere Nowhere Nowhere (Code t) a b = absurd b
base_test p rel Nowhere Nowhere Nowhere (Cell r) a b = absurd b
base_test p rel Nowhere Nowhere (Code s) Nowhere a b = absurd b
base_test p rel Nowhere Nowhere (Code s) (Cell r) a b = absurd b
base_test p rel Nowhere Nowhere (Cell l) Nowhere a b = absurd b
base_test p rel Nowhere Nowhere (Cell l) (Code t) a b = absurd b
base_test p rel (Code s) (Code t) Nowhere (Code t') a b = absurd b
base_test p rel (Code s) (Code t) Nowhere (Cell r) a b = absurd b
base_test p rel (Code s) (Code t) (Code s') Nowhere a b = absurd b
base_test p rel (Code s) (Code t) (Code s') (Cell r) a b = absurd b
base_test p rel (Code s) (Code t) (Cell l) Nowhere a b = absurd b
base_test p rel (Code s) (Code t) (Cell l) (Code t') a b = absurd b
base_test p rel (Cell l) (Cell r) Nowhere (Code t') a b = absurd b
base_test p rel (Cell l) (Cell r) Nowhere (Cell s) a b = absurd b
base_test p rel (Cell l) (Cell r) (Code s') Nowhere a b = absurd b
base_test p rel (Cell l) (Cell r) (Code s') (Cell s) a b = absurd b
base_test p rel (Cell l) (Cell r) (Cell m) Nowhere a b = absurd b
base_test p rel (Cell l) (Cell r) (Cell m) (Code t') a b = absurd b

-- ---- comparisons

none_if : (l r : Bool) → (r ≡ true → l ≡ true) → NoneOrSame (unequal_if l) (unequal_if r)
none_if l false h = inl refl
none_if true true h = inr refl
none_if false true h = absurd (cc (h refl))

lives_more : (w : Pairing) (n : ℕ) (test : ℕ → Bool) (o o' : Option MemoryBlock) → MaybeSame w n o o' →
    lives_with test o' ≡ true → lives_with test o ≡ true
lives_more w n test (Some b) (Some b') s h =
    let x = and_parts b'.live (test b'.size) h in
    and_from b.live (test b.size) (s.live x.0) (ap test s.marks.size ∙ x.1)
lives_more w n test None o' s h = absurd s
lives_more w n test (Some b) None s h = absurd s

and_more : (a b a' b' : Bool) → (a' ≡ true → a ≡ true) → (b' ≡ true → b ≡ true) → (a' && b') ≡ true → (a && b) ≡ true
and_more a b a' b' f g h = let x = and_parts a' b' h in and_from a b (f x.0) (g x.1)

at_more : (p : Point) → Related p → (l r i : ℕ) → l < length p.left → p.pairing l ≡ r → is_at p.right r i ≡ true → is_at p.left l i ≡ true
at_more p rel l r i lt e h = lives_more p.pairing (length p.left) (λ size. nat_le i size) (slice_get p.left l)
    (slice_get p.right r) (here_same p rel l r lt e) h

inside_more : (p : Point) → Related p → (l r i : ℕ) → l < length p.left → p.pairing l ≡ r → is_inside p.right r i ≡ true →
    is_inside p.left l i ≡ true
inside_more p rel l r i lt e h = lives_more p.pairing (length p.left) (λ size. nat_lt i size) (slice_get p.left l)
    (slice_get p.right r) (here_same p rel l r lt e) h

apart_agrees : (p : Point) → Related p → (x x' y y' : Base) (i j : ℕ) → SameBase p.pairing (length p.left) x x' →
    SameBase p.pairing (length p.left) y y' → NoneOrSame (apart_equal p.left x i y j) (apart_equal p.right x' i y' j)
apart_agrees p rel Nowhere Nowhere Nowhere Nowhere i j a b = inl refl
apart_agrees p rel Nowhere Nowhere (Code s) (Code t) i j a b = inr refl
apart_agrees p rel Nowhere Nowhere (Cell l) (Cell r) i j a b =
    none_if ((i == 0) && is_at p.left l j) ((i == 0) && is_at p.right r j)
    (and_more (i == 0) (is_at p.left l j) (i == 0) (is_at p.right r j) (λ h. h) (at_more p rel l r j b.0 b.1))
apart_agrees p rel (Code s) (Code t) Nowhere Nowhere i j a b = inr refl
apart_agrees p rel (Code s) (Code t) (Code s') (Code t') i j a b = inr refl
apart_agrees p rel (Code s) (Code t) (Cell l) (Cell r) i j a b = inl refl
apart_agrees p rel (Cell l) (Cell r) Nowhere Nowhere i j a b =
    none_if ((j == 0) && is_at p.left l i) ((j == 0) && is_at p.right r i)
    (and_more (j == 0) (is_at p.left l i) (j == 0) (is_at p.right r i) (λ h. h) (at_more p rel l r i a.0 a.1))
apart_agrees p rel (Cell l) (Cell r) (Code s) (Code t) i j a b = inl refl
apart_agrees p rel (Cell l) (Cell r) (Cell m) (Cell s) i j a b =
    none_if (is_inside p.left l i && is_inside p.left m j) (is_inside p.right r i && is_inside p.right s j)
    (and_more (is_inside p.left l i) (is_inside p.left m j) (is_inside p.right r i) (is_inside p.right s j)
    (inside_more p rel l r i a.0 a.1) (inside_more p rel m s j b.0 b.1))
apart_agrees p rel Nowhere (Code t) y y' i j a b = absurd a
apart_agrees p rel Nowhere (Cell r) y y' i j a b = absurd a
apart_agrees p rel (Code s) Nowhere y y' i j a b = absurd a
apart_agrees p rel (Code s) (Cell r) y y' i j a b = absurd a
apart_agrees p rel (Cell l) Nowhere y y' i j a b = absurd a
apart_agrees p rel (Cell l) (Code t) y y' i j a b = absurd a
apart_agrees p rel Nowhere Nowhere Nowhere (Code t) i j a b = absurd b
apart_agrees p rel Nowhere Nowhere Nowhere (Cell r) i j a b = absurd b
apart_agrees p rel Nowhere Nowhere (Code s) Nowhere i j a b = absurd b
apart_agrees p rel Nowhere Nowhere (Code s) (Cell r) i j a b = absurd b
apart_agrees p rel Nowhere Nowhere (Cell l) Nowhere i j a b = absurd b
apart_agrees p rel Nowhere Nowhere (Cell l) (Code t) i j a b = absurd b
apart_agrees p rel (Code s) (Code t) Nowhere (Code t') i j a b = absurd b
apart_agrees p rel (Code s) (Code t) Nowhere (Cell r) i j a b = absurd b
apart_agrees p rel (Code s) (Code t) (Code s') Nowhere i j a b = absurd b
apart_agrees p rel (Code s) (Code t) (Code s') (Cell r) i j a b = absurd b
apart_agrees p rel (Code s) (Code t) (Cell l) Nowhere i j a b = absurd b
apart_agrees p rel (Code s) (Code t) (Cell l) (Code t') i j a b = absurd b
apart_agrees p rel (Cell l) (Cell r) Nowhere (Code t') i j a b = absurd b
apart_agrees p rel (Cell l) (Cell r) Nowhere (Cell s) i j a b = absurd b
apart_agrees p rel (Cell l) (Cell r) (Code s') Nowhere i j a b = absurd b
apart_agrees p rel (Cell l) (Cell r) (Code s') (Cell s) i j a b = absurd b
apart_agrees p rel (Cell l) (Cell r) (Cell m) Nowhere i j a b = absurd b
apart_agrees p rel (Cell l) (Cell r) (Cell m) (Code t') i j a b = absurd b

if_none : (b : Bool) (k : Bool) (l r : Option Bool) → NoneOrSame l r → NoneOrSame (if b then Some k else l) (if b then Some k else r)
if_none true k l r h = inr refl
if_none false k l r h = h

equal_agrees : (p : Point) → Related p → (x x' y y' : Base) (i j : ℕ) → SameBase p.pairing (length p.left) x x' →
    SameBase p.pairing (length p.left) y y' → NoneOrSame (settled_equal p.left x i y j) (settled_equal p.right x' i y' j)
equal_agrees p rel x x' y y' i j a b =
    subst (λ (t : Bool). NoneOrSame (settled_equal p.left x i y j) (if t then Some (i == j) else apart_equal p.right x' i y' j))
    (base_test p rel x x' y y' a b) (if_none (base_eq x y) (i == j) (apart_equal p.left x i y j)
    (apart_equal p.right x' i y' j) (apart_agrees p rel x x' y y' i j a b))

negated_agrees : (l r : Option Bool) → NoneOrSame l r → NoneOrSame (negated l) (negated r)
negated_agrees l None h = inl refl
negated_agrees l (Some b) (inl h) = absurd (cc h)
negated_agrees l (Some b) (inr h) = inr (ap negated h)

order_if : (l r k : Bool) → (r ≡ true → l ≡ true) → NoneOrSame (if l then Some k else None) (if r then Some k else None)
order_if l false k h = inl refl
order_if true true k h = inr refl
order_if false true k h = absurd (cc (h refl))

order_agrees : (p : Point) → Related p → (order : ℕ → ℕ → Bool) (x x' y y' : Base) (i j : ℕ) →
    SameBase p.pairing (length p.left) x x' → SameBase p.pairing (length p.left) y y' →
    NoneOrSame (settled_order p.left order x i y j) (settled_order p.right order x' i y' j)
order_agrees p rel order (Cell l) (Cell r) (Cell m) (Cell s) i j a b =
    order_if ((l == m) && (is_at p.left l i && is_at p.left l j)) ((r == s) && (is_at p.right r i && is_at p.right r j))
    (order i j) (and_more (l == m) (is_at p.left l i && is_at p.left l j) (r == s) (is_at p.right r i && is_at p.right r j)
    (λ h. same_test p rel l m r s a.0 b.0 a.1 b.1 ∙ h)
    (and_more (is_at p.left l i) (is_at p.left l j) (is_at p.right r i) (is_at p.right r j) (at_more p rel l r i a.0 a.1)
    (at_more p rel l r j a.0 a.1)))
order_agrees p rel order x Nowhere y y' i j a b = inl refl
order_agrees p rel order x (Code t) y y' i j a b = inl refl
order_agrees p rel order x (Cell r) y Nowhere i j a b = inl refl
order_agrees p rel order x (Cell r) y (Code t) i j a b = inl refl
order_agrees p rel order Nowhere (Cell r) y (Cell s) i j a b = absurd a
order_agrees p rel order (Code t) (Cell r) y (Cell s) i j a b = absurd a
order_agrees p rel order (Cell l) (Cell r) Nowhere (Cell s) i j a b = absurd b
order_agrees p rel order (Cell l) (Cell r) (Code t) (Cell s) i j a b = absurd b

settled_agrees : (p : Point) → Related p → (pred : Predicate) (x x' y y' : Base) (i j : ℕ) →
    SameBase p.pairing (length p.left) x x' → SameBase p.pairing (length p.left) y y' →
    NoneOrSame (settled p.left pred x i y j) (settled p.right pred x' i y' j)
settled_agrees p rel Eq x x' y y' i j a b = equal_agrees p rel x x' y y' i j a b
settled_agrees p rel Ne x x' y y' i j a b = negated_agrees (settled_equal p.left x i y j) (settled_equal p.right x' i y' j)
    (equal_agrees p rel x x' y y' i j a b)
settled_agrees p rel Ult x x' y y' i j a b = order_agrees p rel nat_lt x x' y y' i j a b
settled_agrees p rel Ule x x' y y' i j a b = order_agrees p rel nat_le x x' y y' i j a b
settled_agrees p rel Ugt x x' y y' i j a b = order_agrees p rel (λ c d. nat_lt d c) x x' y y' i j a b
settled_agrees p rel Uge x x' y y' i j a b = order_agrees p rel (λ c d. nat_le d c) x x' y y' i j a b
settled_agrees p rel Sgt x x' y y' i j a b = inl refl
settled_agrees p rel Sge x x' y y' i j a b = inl refl
settled_agrees p rel Slt x x' y y' i j a b = inl refl
settled_agrees p rel Sle x x' y y' i j a b = inl refl

pub pointers_agree : (p : Point) → Related p → (choice : ℕ) (pred : Predicate) (v u v' u' : Value) →
    Agrees p.pairing (length p.left) v v' → Agrees p.pairing (length p.left) u u' →
    (choice' : ℕ) × Agrees p.pairing (length p.left) (compared_pointers p.left pred v u choice)
    (compared_pointers p.right pred v' u' choice')
pointers_agree p rel choice pred (Pointer x i) (Pointer y j) (Pointer x' i') (Pointer y' j') a b =
    let s = settled_agrees p rel pred x x' y y' i j a.0 b.0 in
    let s' = subst (λ (k : ℕ). NoneOrSame (settled p.left pred x i y j) (settled p.right pred x' k y' j)) a.1 s in
    let s'' = subst (λ (k : ℕ). NoneOrSame (settled p.left pred x i y j) (settled p.right pred x' i' y' k)) b.1 s' in
    chosen_agrees p.pairing (length p.left) choice (settled p.left pred x i y j) (settled p.right pred x' i' y' j') s''
pointers_agree p rel choice pred v u (Number m) u' a b = (0, tt)
pointers_agree p rel choice pred v u Poison u' a b = (0, tt)
pointers_agree p rel choice pred v u (Pointer x' i') (Number m) a b = (0, tt)
pointers_agree p rel choice pred v u (Pointer x' i') Poison a b = (0, tt)
pointers_agree p rel choice pred Poison u (Pointer x' i') (Pointer y' j') a b = absurd a
pointers_agree p rel choice pred (Number m) u (Pointer x' i') (Pointer y' j') a b = absurd a
pointers_agree p rel choice pred (Pointer x i) Poison (Pointer x' i') (Pointer y' j') a b = absurd b
pointers_agree p rel choice pred (Pointer x i) (Number m) (Pointer x' i') (Pointer y' j') a b = absurd b

-- ---- addresses

size_same : (w : Pairing) (n : ℕ) (o o' : Option MemoryBlock) → MaybeSame w n o o' → size_or_zero o ≡ size_or_zero o'
size_same w n (Some b) (Some b') s = s.marks.size
size_same w n None o' s = absurd s
size_same w n (Some b) None s = absurd s

object_same : (p : Point) → Related p → (x x' : Base) → SameBase p.pairing (length p.left) x x' →
    object_size p.left x ≡ object_size p.right x'
object_same p rel Nowhere Nowhere a = refl
object_same p rel (Code s) (Code t) a = refl
object_same p rel (Cell l) (Cell r) a = size_same p.pairing (length p.left) (slice_get p.left l) (slice_get p.right r)
    (here_same p rel l r a.0 a.1)
object_same p rel Nowhere (Code t) a = absurd a
object_same p rel Nowhere (Cell r) a = absurd a
object_same p rel (Code s) Nowhere a = absurd a
object_same p rel (Code s) (Cell r) a = absurd a
object_same p rel (Cell l) Nowhere a = absurd a
object_same p rel (Cell l) (Code t) a = absurd a

pointer_same : (w : Pairing) (n : ℕ) (x x' : Base) (o : Option ℕ) → SameBase w n x x' →
    Agrees w n (pointer_or_poison x o) (pointer_or_poison x' o)
pointer_same w n x x' None a = tt
pointer_same w n x x' (Some i) a = (a, refl)

pub address_agrees : (p : Point) → Related p → (inbounds : Bool) (shape : Form) (v v' : Value) (is is' : Option (List ℤ)) →
    Agrees p.pairing (length p.left) v v' → NoneOrSame is is' →
    Agrees p.pairing (length p.left) (address_of p.left inbounds shape v is) (address_of p.right inbounds shape v' is')
address_agrees p rel inbounds shape (Pointer x i) (Pointer x' i') is (Some js) a (inr e) =
    let s = pointer_same p.pairing (length p.left) x x' (new_offset inbounds shape (object_size p.left x) i js) a.0 in
    let s' = subst (λ (k : ℕ). Agrees p.pairing (length p.left) (address_of p.left inbounds shape (Pointer x i) (Some js))
    (pointer_or_poison x' (new_offset inbounds shape k i js))) (object_same p rel x x' a.0) s in
    let s'' = subst (λ (k : ℕ). Agrees p.pairing (length p.left) (address_of p.left inbounds shape (Pointer x i) (Some js))
    (pointer_or_poison x' (new_offset inbounds shape (object_size p.right x') k js))) a.1 s' in
    subst (λ (o : Option (List ℤ)). Agrees p.pairing (length p.left) (address_of p.left inbounds shape (Pointer x i) o)
    (address_of p.right inbounds shape (Pointer x' i') (Some js))) (sym e) s''
address_agrees p rel inbounds shape v (Pointer x' i') is None a e = tt
address_agrees p rel inbounds shape v (Pointer x' i') is (Some js) a (inl e) = absurd (cc e)
address_agrees p rel inbounds shape v (Number m) is is' a e = tt
address_agrees p rel inbounds shape v Poison is is' a e = tt
address_agrees p rel inbounds shape Poison (Pointer x' i') is (Some js) a (inr e) = absurd a
address_agrees p rel inbounds shape (Number m) (Pointer x' i') is (Some js) a (inr e) = absurd a

-- ---- loads

unset_more : (w : Pairing) (n : ℕ) (bs bs' : List Byte) → SameBytes w n bs bs' → has_unset bs ≡ true → has_unset bs' ≡ true
unset_more w n [] [] s h = h
unset_more w n (b ∷ bs) (Unset ∷ bs') s h = refl
unset_more w n (Unset ∷ bs) (Spoilt ∷ bs') s h = absurd s.0
unset_more w n (Spoilt ∷ bs) (Spoilt ∷ bs') s h = unset_more w n bs bs' s.1 h
unset_more w n (Plain k ∷ bs) (Spoilt ∷ bs') s h = unset_more w n bs bs' s.1 h
unset_more w n (Fragment i x o ∷ bs) (Spoilt ∷ bs') s h = unset_more w n bs bs' s.1 h
unset_more w n (Plain k ∷ bs) (Plain m ∷ bs') s h = unset_more w n bs bs' s.1 h
unset_more w n (Unset ∷ bs) (Plain m ∷ bs') s h = absurd s.0
unset_more w n (Spoilt ∷ bs) (Plain m ∷ bs') s h = absurd s.0
unset_more w n (Fragment i x o ∷ bs) (Plain m ∷ bs') s h = absurd s.0
unset_more w n (Fragment i x o ∷ bs) (Fragment j y q ∷ bs') s h = unset_more w n bs bs' s.1 h
unset_more w n (Unset ∷ bs) (Fragment j y q ∷ bs') s h = absurd s.0
unset_more w n (Spoilt ∷ bs) (Fragment j y q ∷ bs') s h = absurd s.0
unset_more w n (Plain k ∷ bs) (Fragment j y q ∷ bs') s h = absurd s.0
unset_more w n [] (b' ∷ bs') s h = absurd s
unset_more w n (b ∷ bs) [] s h = absurd s

-- bytes that are all defined on the right are the same on the left
abbrev Defined : Pairing → ℕ → List Byte → List Byte → Type 0
Defined w n [] [] = Unit {0}
Defined w n (Plain k ∷ bs) (Plain m ∷ bs') = (k ≡ m) × Defined w n bs bs'
Defined w n (Fragment i x o ∷ bs) (Fragment j y q ∷ bs') = ((i ≡ j) × SameBase w n x y × (o ≡ q)) × Defined w n bs bs'
Defined w n _ _ = ⊥

defined : (w : Pairing) (n : ℕ) (bs bs' : List Byte) → SameBytes w n bs bs' → has_unset bs' ≡ false → has_spoilt bs' ≡ false →
    Defined w n bs bs'
defined w n [] [] s u t = tt
defined w n (b ∷ bs) (Unset ∷ bs') s u t = absurd (cc u)
defined w n (b ∷ bs) (Spoilt ∷ bs') s u t = absurd (cc t)
defined w n (Plain k ∷ bs) (Plain m ∷ bs') s u t = (s.0, defined w n bs bs' s.1 u t)
defined w n (Unset ∷ bs) (Plain m ∷ bs') s u t = absurd s.0
defined w n (Spoilt ∷ bs) (Plain m ∷ bs') s u t = absurd s.0
defined w n (Fragment i x o ∷ bs) (Plain m ∷ bs') s u t = absurd s.0
defined w n (Fragment i x o ∷ bs) (Fragment j y q ∷ bs') s u t = (s.0, defined w n bs bs' s.1 u t)
defined w n (Unset ∷ bs) (Fragment j y q ∷ bs') s u t = absurd s.0
defined w n (Spoilt ∷ bs) (Fragment j y q ∷ bs') s u t = absurd s.0
defined w n (Plain k ∷ bs) (Fragment j y q ∷ bs') s u t = absurd s.0
defined w n [] (b' ∷ bs') s u t = absurd s
defined w n (b ∷ bs) [] s u t = absurd s

defined_no_spoilt : (w : Pairing) (n : ℕ) (bs bs' : List Byte) → Defined w n bs bs' → has_spoilt bs ≡ false
defined_no_spoilt w n [] [] d = refl
defined_no_spoilt w n (Plain k ∷ bs) (Plain m ∷ bs') d = defined_no_spoilt w n bs bs' d.1
defined_no_spoilt w n (Fragment i x o ∷ bs) (Fragment j y q ∷ bs') d = defined_no_spoilt w n bs bs' d.1
defined_no_spoilt w n [] (b' ∷ bs') d = absurd d
defined_no_spoilt w n (Unset ∷ bs) bs' d = absurd d
defined_no_spoilt w n (Spoilt ∷ bs) bs' d = absurd d
defined_no_spoilt w n (Plain k ∷ bs) [] d = absurd d
defined_no_spoilt w n (Plain k ∷ bs) (Unset ∷ bs') d = absurd d
defined_no_spoilt w n (Plain k ∷ bs) (Spoilt ∷ bs') d = absurd d
defined_no_spoilt w n (Plain k ∷ bs) (Fragment j y q ∷ bs') d = absurd d
defined_no_spoilt w n (Fragment i x o ∷ bs) [] d = absurd d
defined_no_spoilt w n (Fragment i x o ∷ bs) (Unset ∷ bs') d = absurd d
defined_no_spoilt w n (Fragment i x o ∷ bs) (Spoilt ∷ bs') d = absurd d
defined_no_spoilt w n (Fragment i x o ∷ bs) (Plain m ∷ bs') d = absurd d

number_same : (w : Pairing) (n : ℕ) (bs bs' : List Byte) → Defined w n bs bs' → read_number bs ≡ read_number bs'
number_same w n [] [] d = refl
number_same w n (Plain k ∷ bs) (Plain m ∷ bs') d = ap (λ (i : ℕ). raised i (read_number bs)) d.0
    ∙ ap (λ (o : Option ℕ). raised m o) (number_same w n bs bs' d.1)
number_same w n (Fragment i x o ∷ bs) (Fragment j y q ∷ bs') d = refl
number_same w n [] (b' ∷ bs') d = absurd d
number_same w n (Unset ∷ bs) bs' d = absurd d
number_same w n (Spoilt ∷ bs) bs' d = absurd d
number_same w n (Plain k ∷ bs) [] d = absurd d
number_same w n (Plain k ∷ bs) (Unset ∷ bs') d = absurd d
number_same w n (Plain k ∷ bs) (Spoilt ∷ bs') d = absurd d
number_same w n (Plain k ∷ bs) (Fragment j y q ∷ bs') d = absurd d
number_same w n (Fragment i x o ∷ bs) [] d = absurd d
number_same w n (Fragment i x o ∷ bs) (Unset ∷ bs') d = absurd d
number_same w n (Fragment i x o ∷ bs) (Spoilt ∷ bs') d = absurd d
number_same w n (Fragment i x o ∷ bs) (Plain m ∷ bs') d = absurd d

zero_same : (w : Pairing) (n : ℕ) (bs bs' : List Byte) → Defined w n bs bs' → are_zero bs ≡ are_zero bs'
zero_same w n [] [] d = refl
zero_same w n (Plain k ∷ bs) (Plain m ∷ bs') d = ap (λ (i : ℕ). (i == 0) && are_zero bs) d.0
    ∙ ap (λ (b : Bool). (m == 0) && b) (zero_same w n bs bs' d.1)
zero_same w n (Fragment i x o ∷ bs) (Fragment j y q ∷ bs') d = refl
zero_same w n [] (b' ∷ bs') d = absurd d
zero_same w n (Unset ∷ bs) bs' d = absurd d
zero_same w n (Spoilt ∷ bs) bs' d = absurd d
zero_same w n (Plain k ∷ bs) [] d = absurd d
zero_same w n (Plain k ∷ bs) (Unset ∷ bs') d = absurd d
zero_same w n (Plain k ∷ bs) (Spoilt ∷ bs') d = absurd d
zero_same w n (Plain k ∷ bs) (Fragment j y q ∷ bs') d = absurd d
zero_same w n (Fragment i x o ∷ bs) [] d = absurd d
zero_same w n (Fragment i x o ∷ bs) (Unset ∷ bs') d = absurd d
zero_same w n (Fragment i x o ∷ bs) (Spoilt ∷ bs') d = absurd d
zero_same w n (Fragment i x o ∷ bs) (Plain m ∷ bs') d = absurd d

fragments_same : (p : Point) → Related p → (i : ℕ) (x x' : Base) (o o' : ℕ) → SameBase p.pairing (length p.left) x x' → o ≡ o' →
    (bs bs' : List Byte) → Defined p.pairing (length p.left) bs bs' → are_fragments i x o bs ≡ are_fragments i x' o' bs'
fragments_same p rel i x x' o o' s e [] [] d = refl
fragments_same p rel i x x' o o' s e (Plain k ∷ bs) (Plain m ∷ bs') d = refl
fragments_same p rel i x x' o o' s e (Fragment j y q ∷ bs) (Fragment j' y' q' ∷ bs') d =
    ap (λ (k : ℕ). (i == k) && base_eq x y && (o == q) && are_fragments (suc i) x o bs) d.0.0
    ∙ ap (λ (b : Bool). (i == j') && b && (o == q) && are_fragments (suc i) x o bs) (base_test p rel x x' y y' s d.0.1)
    ∙ ap (λ (k : ℕ). (i == j') && base_eq x' y' && (k == q) && are_fragments (suc i) x o bs) e
    ∙ ap (λ (k : ℕ). (i == j') && base_eq x' y' && (o' == k) && are_fragments (suc i) x o bs) d.0.2
    ∙ ap (λ (b : Bool). (i == j') && base_eq x' y' && (o' == q') && b) (fragments_same p rel (suc i) x x' o o' s e bs bs' d.1)
fragments_same p rel i x x' o o' s e [] (b' ∷ bs') d = absurd d
fragments_same p rel i x x' o o' s e (Unset ∷ bs) bs' d = absurd d
fragments_same p rel i x x' o o' s e (Spoilt ∷ bs) bs' d = absurd d
fragments_same p rel i x x' o o' s e (Plain k ∷ bs) [] d = absurd d
fragments_same p rel i x x' o o' s e (Plain k ∷ bs) (Unset ∷ bs') d = absurd d
fragments_same p rel i x x' o o' s e (Plain k ∷ bs) (Spoilt ∷ bs') d = absurd d
fragments_same p rel i x x' o o' s e (Plain k ∷ bs) (Fragment j y q ∷ bs') d = absurd d
fragments_same p rel i x x' o o' s e (Fragment j y q ∷ bs) [] d = absurd d
fragments_same p rel i x x' o o' s e (Fragment j y q ∷ bs) (Unset ∷ bs') d = absurd d
fragments_same p rel i x x' o o' s e (Fragment j y q ∷ bs) (Spoilt ∷ bs') d = absurd d
fragments_same p rel i x x' o o' s e (Fragment j y q ∷ bs) (Plain m ∷ bs') d = absurd d

if_values : (w : Pairing) (n : ℕ) (b : Bool) (v u : Value) → Agrees w n v u → Agrees w n (if b then v else Poison) (if b then u else Poison)
if_values w n true v u a = a
if_values w n false v u a = tt

pointer_read : (p : Point) → Related p → (bs bs' : List Byte) → Defined p.pairing (length p.left) bs bs' →
    Agrees p.pairing (length p.left) (read_pointer bs) (read_pointer bs')
pointer_read p rel [] [] d = tt
pointer_read p rel (Plain k ∷ bs) (Plain m ∷ bs') d =
    let e = ap (λ (i : ℕ). (i == 0) && are_zero bs) d.0
    ∙ ap (λ (b : Bool). (m == 0) && b) (zero_same p.pairing (length p.left) bs bs' d.1) in
    subst (λ (b : Bool). Agrees p.pairing (length p.left) (read_pointer (Plain k ∷ bs))
    (if b then Pointer Nowhere 0 else Poison)) e (if_values p.pairing (length p.left) ((k == 0) && are_zero bs)
    (Pointer Nowhere 0) (Pointer Nowhere 0) (tt, refl))
pointer_read p rel (Fragment j x o ∷ bs) (Fragment j' x' o' ∷ bs') d =
    let e = ap (λ (i : ℕ). (0 == i) && are_fragments 1 x o bs) d.0.0
    ∙ ap (λ (b : Bool). (0 == j') && b) (fragments_same p rel 1 x x' o o' d.0.1 d.0.2 bs bs' d.1) in
    subst (λ (b : Bool). Agrees p.pairing (length p.left) (read_pointer (Fragment j x o ∷ bs))
    (if b then Pointer x' o' else Poison)) e (if_values p.pairing (length p.left) ((0 == j) && are_fragments 1 x o bs)
    (Pointer x o) (Pointer x' o') (d.0.1, d.0.2))
pointer_read p rel [] (b' ∷ bs') d = absurd d
pointer_read p rel (Unset ∷ bs) bs' d = absurd d
pointer_read p rel (Spoilt ∷ bs) bs' d = absurd d
pointer_read p rel (Plain k ∷ bs) [] d = absurd d
pointer_read p rel (Plain k ∷ bs) (Unset ∷ bs') d = absurd d
pointer_read p rel (Plain k ∷ bs) (Spoilt ∷ bs') d = absurd d
pointer_read p rel (Plain k ∷ bs) (Fragment j y q ∷ bs') d = absurd d
pointer_read p rel (Fragment j y q ∷ bs) [] d = absurd d
pointer_read p rel (Fragment j y q ∷ bs) (Unset ∷ bs') d = absurd d
pointer_read p rel (Fragment j y q ∷ bs) (Spoilt ∷ bs') d = absurd d
pointer_read p rel (Fragment j y q ∷ bs) (Plain m ∷ bs') d = absurd d

or_poison_same : (w : Pairing) (n : ℕ) (o : Option ℕ) → Agrees w n (or_poison o) (or_poison o)
or_poison_same w n None = tt
or_poison_same w n (Some k) = refl

read_as_agrees : (p : Point) → Related p → (reg : Reg) (bs bs' : List Byte) → Defined p.pairing (length p.left) bs bs' →
    Agrees p.pairing (length p.left) (read_as reg bs) (read_as reg bs')
read_as_agrees p rel (Int k) bs bs' d =
    subst (λ (o : Option ℕ). Agrees p.pairing (length p.left) (or_poison (read_number bs)) (or_poison o))
    (number_same p.pairing (length p.left) bs bs' d) (or_poison_same p.pairing (length p.left) (read_number bs))
read_as_agrees p rel Ptr bs bs' d = pointer_read p rel bs bs' d

read_cases : (w : Pairing) (n : ℕ) (u s u' s' : Bool) (v v' : Value) → (u ≡ true → u' ≡ true) →
    (u' ≡ false → s' ≡ false → s ≡ false) → (u' ≡ false → s' ≡ false → Agrees w n v v') →
    AnswerAgrees w n (if u then Unwritten else (if s then Is Poison else Is v))
    (if u' then Unwritten else (if s' then Is Poison else Is v'))
read_cases w n u s true s' v v' h k a = tt
read_cases w n true s false s' v v' h k a = absurd (cc (h refl))
read_cases w n false true false true v v' h k a = tt
read_cases w n false false false true v v' h k a = tt
read_cases w n false true false false v v' h k a = absurd (cc (k refl refl))
read_cases w n false false false false v v' h k a = a refl refl

read_agrees : (p : Point) → Related p → (reg : Reg) (bs bs' : List Byte) → SameBytes p.pairing (length p.left) bs bs' →
    AnswerAgrees p.pairing (length p.left) (read reg bs) (read reg bs')
read_agrees p rel reg bs bs' s =
    read_cases p.pairing (length p.left) (has_unset bs) (has_spoilt bs) (has_unset bs') (has_spoilt bs') (read_as reg bs)
    (read_as reg bs') (unset_more p.pairing (length p.left) bs bs' s)
    (λ u t. defined_no_spoilt p.pairing (length p.left) bs bs' (defined p.pairing (length p.left) bs bs' s u t))
    (λ u t. read_as_agrees p rel reg bs bs' (defined p.pairing (length p.left) bs bs' s u t))

pub take_same : (w : Pairing) (n k : ℕ) (bs bs' : List Byte) → SameBytes w n bs bs' → SameBytes w n (take k bs) (take k bs')
take_same w n zero bs bs' s = tt
take_same w n (suc k) [] [] s = tt
take_same w n (suc k) (b ∷ bs) (b' ∷ bs') s = (s.0, take_same w n k bs bs' s.1)
take_same w n (suc k) [] (b' ∷ bs') s = absurd s
take_same w n (suc k) (b ∷ bs) [] s = absurd s

pub drop_same : (w : Pairing) (n k : ℕ) (bs bs' : List Byte) → SameBytes w n bs bs' → SameBytes w n (drop k bs) (drop k bs')
drop_same w n zero bs bs' s = s
drop_same w n (suc k) [] [] s = tt
drop_same w n (suc k) (b ∷ bs) (b' ∷ bs') s = drop_same w n k bs bs' s.1
drop_same w n (suc k) [] (b' ∷ bs') s = absurd s
drop_same w n (suc k) (b ∷ bs) [] s = absurd s

pub reaches_more : (w : Pairing) (n : ℕ) (b b' : MemoryBlock) (offset size align : ℕ) → SameBlock w n b b' →
    reaches b' offset size align ≡ true → reaches b offset size align ≡ true
reaches_more w n b b' offset size align s h =
    and_more b.live (nat_le (offset + size) b.size && ((b.align % align == 0) && (offset % align == 0))) b'.live
    (nat_le (offset + size) b'.size && ((b'.align % align == 0) && (offset % align == 0))) s.live
    (λ x. ap (λ (k : ℕ). nat_le (offset + size) k && ((b.align % align == 0) && (offset % align == 0))) s.marks.size
    ∙ ap (λ (k : ℕ). nat_le (offset + size) b'.size && ((k % align == 0) && (offset % align == 0))) s.marks.align ∙ x) h

load_from_agrees : (p : Point) → Related p → (o o' : Option MemoryBlock) (reg : Reg) (offset align : ℕ) →
    MaybeSame p.pairing (length p.left) o o' → AnswerAgrees p.pairing (length p.left) (load_from o reg offset align)
    (load_from o' reg offset align)
load_from_agrees p rel (Some b) (Some b') reg offset align s =
    if_defined p.pairing (length p.left) (reaches b offset (reg_size reg) align) (reaches b' offset (reg_size reg) align)
    (read reg (take (reg_size reg) (drop offset b.bytes))) (read reg (take (reg_size reg) (drop offset b'.bytes)))
    (access_cause b offset (reg_size reg)) (access_cause b' offset (reg_size reg))
    (reaches_more p.pairing (length p.left) b b' offset (reg_size reg) align s)
    (read_agrees p rel reg _ _ (take_same p.pairing (length p.left) (reg_size reg) (drop offset b.bytes)
    (drop offset b'.bytes) (drop_same p.pairing (length p.left) offset b.bytes b'.bytes s.bytes)))
load_from_agrees p rel None o' reg offset align s = absurd s
load_from_agrees p rel (Some b) None reg offset align s = absurd s

pub load_agrees : (p : Point) → Related p → (reg : Reg) (v v' : Value) (align : ℕ) → Agrees p.pairing (length p.left) v v' →
    AnswerAgrees p.pairing (length p.left) (load p.left reg v align) (load p.right reg v' align)
load_agrees p rel reg (Pointer (Cell l) i) (Pointer (Cell r) i') align a =
    subst (λ (k : ℕ). AnswerAgrees p.pairing (length p.left) (load p.left reg (Pointer (Cell l) i) align)
    (load p.right reg (Pointer (Cell r) k) align)) a.1
    (load_from_agrees p rel (slice_get p.left l) (slice_get p.right r) reg i align (here_same p rel l r a.0.0 a.0.1))
load_agrees p rel reg v Poison align a = tt
load_agrees p rel reg v (Number m) align a = tt
load_agrees p rel reg v (Pointer Nowhere i') align a = tt
load_agrees p rel reg v (Pointer (Code t) i') align a = tt
load_agrees p rel reg Poison (Pointer (Cell r) i') align a = absurd a
load_agrees p rel reg (Number m) (Pointer (Cell r) i') align a = absurd a
load_agrees p rel reg (Pointer Nowhere i) (Pointer (Cell r) i') align a = absurd a.0
load_agrees p rel reg (Pointer (Code t) i) (Pointer (Cell r) i') align a = absurd a.0
