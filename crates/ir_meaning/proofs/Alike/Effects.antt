-- What is done with agreed values is alike.
use Rattle.std.proofs.Common.{◌≡◌, ℕ, zero, suc, ◌+◌, ◌/◌, ◌%◌, ◌<◌, ◌≤◌, Bool, true, false, ◌&&◌, if◌then◌else◌, List, [], ◌∷◌, ◌++◌, length, take, drop, replicate, Option, Some, None, slice_get, inl, inr, refl, sym, ap, ◌∙◌, subst, arith, length-append}
use Rattle.std.proofs.lemmas.Bool.{and_parts, and_from}
use Rattle.std.specs.Prelude.{slice_set}
use Rattle.ir_tree.specs.Forms.{Form}
use Rattle.ir_tree.specs.declared.instr.BinaryOp.{BinaryOp}
use Rattle.ir_tree.specs.declared.instr.CastOp.{CastOp}
use Rattle.ir_tree.specs.declared.instr.Flags.{Flags}
use Rattle.ir_tree.specs.declared.instr.Instr.{Instr}
use Rattle.ir_tree.specs.declared.instr.Instr.TheVariants.{Binary, Icmp, Cast, Select, Freeze, Alloca, Load, Store, Address, Call, Phi as StrayPhi}
use Rattle.ir_tree.specs.declared.instr.Predicate.{Predicate}
use Rattle.ir_tree.specs.declared.operand.Reg.{Reg}
use Rattle.ir_tree.specs.declared.operand.Reg.TheVariants.{Int, Ptr}
use Rattle.ir_tree.specs.declared.operand.Symbol.{Symbol}
use Rattle.ir_meaning.specs.Access.{reaches, overwritten, store_in, store, store_cause, load}
use Rattle.ir_meaning.specs.Address.{address_of}
use Rattle.ir_meaning.specs.Bytes.{reg_size, number_bytes, fragments, pointer_bytes, bits_stored, pointer_stored, stored_bytes}
use Rattle.ir_meaning.specs.Execute.{regs_eq, result_eq, host_params, Task, ToBinary, ToCompare, ToCast, ToSelect, ToFreeze, ToReserve, ToLoad, ToStore, ToAddress, ToCall, ToPoison, evaluate, Effect, Went, Asked, Broke, gives, stores, compares, gets_char, puts_bits, puts_char, calls_host, calls_kind, calls_value, execute}
use Rattle.ir_meaning.specs.Fault.{Fault, Undefined}
use Rattle.ir_meaning.specs.Frame.{Locals, Host, PutChar, GetChar, SymbolKind, AFunction, AVariable, AHost, Missing, Signature, look_up, value_of}
use Rattle.ir_meaning.specs.Memory.{MemoryBlock, Memory, fresh}
use Rattle.ir_meaning.specs.Operate.{Answer, Is, Never, Unwritten, bits_of, binary, cast, selected, frozen}
use Rattle.ir_meaning.specs.Relate.{Pairing, Point, Related, Kept, SameBase, SameBytes, SameMarks, SameBlock, Agrees, AllAgree, ValuesAgree}
use Rattle.ir_meaning.specs.declared.event.Event.{Event}
use Rattle.ir_meaning.specs.declared.event.Event.TheVariants.{ReadByte, ReadEnd, Wrote}
use Rattle.ir_tree.specs.declared.cause.Cause.{Cause}
use Rattle.ir_tree.specs.declared.cause.Cause.TheVariants.{CallOfAnotherType}
use Rattle.ir_meaning.specs.declared.value.Base.{Base}
use Rattle.ir_meaning.specs.declared.value.Base.TheVariants.{Nowhere, Code, Cell}
use Rattle.ir_meaning.specs.declared.value.Byte.{Byte}
use Rattle.ir_meaning.specs.declared.value.Byte.TheVariants.{Spoilt}
use Rattle.ir_meaning.specs.declared.value.Value.{Value}
use Rattle.ir_meaning.specs.declared.value.Value.TheVariants.{Number, Pointer, Poison}
pub use Rattle.ir_meaning.specs.Needed.{UsesKept}
use Rattle.ir_meaning.proofs.Alike.Keeping.{kept_refl, updated, update_kept, pairing_more, more, more_new, more_kept, fresh_same, SlotsPaired}
use Rattle.ir_meaning.proofs.Alike.Pointers.{MaybeSame, here_same, pointers_agree, address_agrees, load_agrees, reaches_more, take_same, drop_same}
use Rattle.ir_meaning.proofs.Alike.Values.{LocalsAgree, AnswerAgrees, Names, NoneOrSame, Valuation, EachAgrees, bits_agree, value_of_agrees, values_of_agree, each_agrees, indices_agree, binary_agrees, compared_agrees, cast_agrees, selected_agrees, frozen_agrees}
use Rattle.ir_meaning.proofs.Between.Middle.{base_wider}
use Rattle.ir_meaning.proofs.Between.Points.{block_of, block_is}

-- ---- later points

value_wider : (n n' : ℕ) (w w' : Pairing) → n ≤ n' → ((l : ℕ) → l < n → w' l ≡ w l) → (v u : Value) → Agrees w n v u → Agrees w' n' v u
value_wider n n' w w' le e v Poison a = tt
value_wider n n' w w' le e (Number k) (Number m) a = a
value_wider n n' w w' le e (Pointer x i) (Pointer y j) a = (base_wider n n' w w' le e x y a.0, a.1)
value_wider n n' w w' le e Poison (Number m) a = absurd a
value_wider n n' w w' le e (Pointer x i) (Number m) a = absurd a
value_wider n n' w w' le e Poison (Pointer y j) a = absurd a
value_wider n n' w w' le e (Number k) (Pointer y j) a = absurd a

-- a value that agreed still agrees
pub value_later : {g : ℕ} (p q : Point) → Kept g p q → (v u : Value) → Agrees p.pairing (length p.left) v u → Agrees q.pairing (length q.left) v u
value_later p q k v u a = value_wider (length p.left) (length q.left) p.pairing q.pairing k.grown k.extends v u a

pub answer_later : {g : ℕ} (p q : Point) → Kept g p q → (v u : Option Value) → ValuesAgree p v u → ValuesAgree q v u
answer_later p q k None None a = tt
answer_later p q k (Some v) (Some u) a = value_later p q k v u a
answer_later p q k None (Some u) a = absurd a
answer_later p q k (Some v) None a = absurd a

pub locals_later : {g : ℕ} (p q : Point) → Kept g p q → (keeps : ℕ → Bool) (ls rs : Locals) →
    LocalsAgree keeps p.pairing (length p.left) ls rs → LocalsAgree keeps q.pairing (length q.left) ls rs
locals_later p q k keeps ls rs h x kept = value_later p q k (look_up ls x) (look_up rs x) (h x kept)

pub slots_later : {g : ℕ} (p q : Point) → Kept g p q → (ls rs : List ℕ) → SlotsPaired g p.pairing (length p.left) ls rs →
    SlotsPaired g q.pairing (length q.left) ls rs
slots_later p q k [] [] h = tt
slots_later p q k (l ∷ ls) (r ∷ rs) h = (omega (arith, h.0, k.grown), k.extends l h.0 ∙ h.1, h.2, slots_later p q k ls rs h.3)
slots_later p q k [] (r ∷ rs) h = absurd h
slots_later p q k (l ∷ ls) [] h = absurd h

-- ---- tasks

-- the same instruction, with agreed values
abbrev pub TasksAgree : Pairing → ℕ → Task → Task → Type 0
TasksAgree w n (ToBinary op f k v u) (ToBinary op' f' k' v' u') = (op ≡ op') × (f ≡ f') × (k ≡ k') × Agrees w n v v' × Agrees w n u u'
TasksAgree w n (ToCompare p reg v u) (ToCompare p' reg' v' u') = (p ≡ p') × (reg ≡ reg') × Agrees w n v v' × Agrees w n u u'
TasksAgree w n (ToCast op from to v) (ToCast op' from' to' v') = (op ≡ op') × (from ≡ from') × (to ≡ to') × Agrees w n v v'
TasksAgree w n (ToSelect c v u) (ToSelect c' v' u') = Agrees w n c c' × Agrees w n v v' × Agrees w n u u'
TasksAgree w n (ToFreeze k v) (ToFreeze k' v') = (k ≡ k') × Agrees w n v v'
TasksAgree w n (ToReserve size align) (ToReserve size' align') = (size ≡ size') × (align ≡ align')
TasksAgree w n (ToLoad reg v align) (ToLoad reg' v' align') = (reg ≡ reg') × Agrees w n v v' × (align ≡ align')
TasksAgree w n (ToStore reg v u align) (ToStore reg' v' u' align') = (reg ≡ reg') × Agrees w n v v' × Agrees w n u u' × (align ≡ align')
TasksAgree w n (ToAddress inbounds shape v is) (ToAddress inbounds' shape' v' is') = (inbounds ≡ inbounds') × (shape ≡ shape') ×
    Agrees w n v v' × NoneOrSame is is'
TasksAgree w n (ToCall result regs vs c) (ToCall result' regs' vs' c') = (result ≡ result') × (regs ≡ regs') ×
    AllAgree w n vs vs' × Agrees w n c c'
TasksAgree w n ToPoison ToPoison = Unit {0}
TasksAgree w n _ _ = ⊥

-- the operands of an instruction have agreed values
abbrev pub OperandsAgree : Pairing → ℕ → Valuation → Valuation → Instr → Type 0
OperandsAgree w n a b (Binary op f k l r) = Agrees w n (a l) (b l) × Agrees w n (a r) (b r)
OperandsAgree w n a b (Icmp p reg l r) = Agrees w n (a l) (b l) × Agrees w n (a r) (b r)
OperandsAgree w n a b (Cast op from o to) = Agrees w n (a o) (b o)
OperandsAgree w n a b (Select c t f) = Agrees w n (a c) (b c) × Agrees w n (a t.operand) (b t.operand) ×
    Agrees w n (a f.operand) (b f.operand)
OperandsAgree w n a b (Freeze k o) = Agrees w n (a o) (b o)
OperandsAgree w n a b (Alloca shape align) = Unit {0}
OperandsAgree w n a b (Load reg o align) = Agrees w n (a o) (b o)
OperandsAgree w n a b (Store reg o d align) = Agrees w n (a o) (b o) × Agrees w n (a d) (b d)
OperandsAgree w n a b (Address inbounds shape o is) = Agrees w n (a o) (b o) × EachAgrees w n a b is
OperandsAgree w n a b (Call result c args) = Agrees w n (a c) (b c) × EachAgrees w n a b args
OperandsAgree w n a b (StrayPhi reg es) = Unit {0}

pub evaluate_agrees : (w : Pairing) (n : ℕ) (a b : Valuation) (i : Instr) → OperandsAgree w n a b i →
    TasksAgree w n (evaluate a i) (evaluate b i)
evaluate_agrees w n a b (Binary op f k l r) h = (refl, refl, refl, h.0, h.1)
evaluate_agrees w n a b (Icmp p reg l r) h = (refl, refl, h.0, h.1)
evaluate_agrees w n a b (Cast op from o to) h = (refl, refl, refl, h)
evaluate_agrees w n a b (Select c t f) h = h
evaluate_agrees w n a b (Freeze k o) h = (refl, h)
evaluate_agrees w n a b (Alloca shape align) h = (refl, refl)
evaluate_agrees w n a b (Load reg o align) h = (refl, h, refl)
evaluate_agrees w n a b (Store reg o d align) h = (refl, h.0, h.1, refl)
evaluate_agrees w n a b (Address inbounds shape o is) h = (refl, refl, h.0, indices_agree w n a b is h.1)
evaluate_agrees w n a b (Call result c args) h = (refl, refl, values_of_agree w n a b args h.1, h.0)
evaluate_agrees w n a b (StrayPhi reg es) h = tt

pub reads_agree : (sig : Signature) (w : Pairing) (n : ℕ) → Names sig w n → (keeps : ℕ → Bool) (ls rs : Locals) →
    LocalsAgree keeps w n ls rs → (i : Instr) → UsesKept keeps i → OperandsAgree w n (value_of sig ls) (value_of sig rs) i
reads_agree sig w n c keeps ls rs h (Binary op f k l r) x =
    (value_of_agrees sig w n c keeps ls rs h l x.0, value_of_agrees sig w n c keeps ls rs h r x.1)
reads_agree sig w n c keeps ls rs h (Icmp p reg l r) x =
    (value_of_agrees sig w n c keeps ls rs h l x.0, value_of_agrees sig w n c keeps ls rs h r x.1)
reads_agree sig w n c keeps ls rs h (Cast op from o to) x = value_of_agrees sig w n c keeps ls rs h o x
reads_agree sig w n c keeps ls rs h (Select d t f) x = (
  value_of_agrees sig w n c keeps ls rs h d x.0,
  value_of_agrees sig w n c keeps ls rs h t.operand x.1,
  value_of_agrees sig w n c keeps ls rs h f.operand x.2,
)
reads_agree sig w n c keeps ls rs h (Freeze k o) x = value_of_agrees sig w n c keeps ls rs h o x
reads_agree sig w n c keeps ls rs h (Alloca shape align) x = tt
reads_agree sig w n c keeps ls rs h (Load reg o align) x = value_of_agrees sig w n c keeps ls rs h o x
reads_agree sig w n c keeps ls rs h (Store reg o d align) x =
    (value_of_agrees sig w n c keeps ls rs h o x.0, value_of_agrees sig w n c keeps ls rs h d x.1)
reads_agree sig w n c keeps ls rs h (Address inbounds shape o is) x =
    (value_of_agrees sig w n c keeps ls rs h o x.0, each_agrees sig w n c keeps ls rs h is x.1)
reads_agree sig w n c keeps ls rs h (Call result d args) x =
    (value_of_agrees sig w n c keeps ls rs h d x.0, each_agrees sig w n c keeps ls rs h args x.1)
reads_agree sig w n c keeps ls rs h (StrayPhi reg es) x = tt

-- ---- effects

-- from p to q both made a slot or neither did
abbrev pub SlotAgrees : Point → Point → Option ℕ → Option ℕ → Type 0
SlotAgrees p q None None = Unit {0}
SlotAgrees p q (Some l) (Some r) = (l < length q.left) × (q.pairing l ≡ r) × (length p.right ≤ r)
SlotAgrees p q _ _ = ⊥

pub record WentAlike (p : Point) (v v' : Option Value) (slot slot' : Option ℕ) (m m' : Memory) (place place' : ℕ)
    (es es' : List Event) : Type 0 where
  pub point : Point
  pub kept : (g : ℕ) → Kept g p point
  pub left : point.left ≡ m
  pub right : point.right ≡ m'
  pub place_is : place ≡ place'
  pub events : es ≡ es'
  pub value : ValuesAgree point v v'
  pub slot_is : SlotAgrees p point slot slot'

-- the second breaks, or both do the same
abbrev pub EffectsAlike : Point → Effect → Effect → Type 0
EffectsAlike p x (Broke why) = Unit {0}
EffectsAlike p (Went v slot m place es) (Went v' slot' m' place' es') = WentAlike p v v' slot slot' m m' place place' es es'
EffectsAlike p (Asked s vs) (Asked s' vs') = (s ≡ s') × AllAgree p.pairing (length p.left) vs vs'
EffectsAlike p _ _ = ⊥

went_still : (p : Point) → Related p → (v u : Option Value) (place : ℕ) (es : List Event) → ValuesAgree p v u →
    WentAlike p v u None None p.left p.right place place es es
went_still p rel v u place es a = record {
  point = p;
  kept = λ g. kept_refl p rel;
  left = refl;
  right = refl;
  place_is = refl;
  events = refl;
  value = a;
  slot_is = tt;
}

pub gives_alike : (p : Point) → Related p → (place : ℕ) (x y : Answer) → AnswerAgrees p.pairing (length p.left) x y →
    EffectsAlike p (gives p.left place x) (gives p.right place y)
gives_alike p rel place x (Never why) h = tt
gives_alike p rel place x Unwritten h = tt
gives_alike p rel place (Is v) (Is u) h = went_still p rel (Some v) (Some u) place [] h
gives_alike p rel place (Never why) (Is u) h = absurd h
gives_alike p rel place Unwritten (Is u) h = absurd h

if_alike : (p : Point) (b : Bool) (x y : Effect) (why : Fault) → EffectsAlike p x y →
    EffectsAlike p (if b then x else Broke why) (if b then y else Broke why)
if_alike p true x y why h = h
if_alike p false x y why h = tt

-- ---- stores

same_append : (w : Pairing) (n : ℕ) (xs xs' ys ys' : List Byte) → SameBytes w n xs xs' → SameBytes w n ys ys' →
    SameBytes w n (xs ++ ys) (xs' ++ ys')
same_append w n [] [] ys ys' a b = b
same_append w n (x ∷ xs) (x' ∷ xs') ys ys' a b = (a.0, same_append w n xs xs' ys ys' a.1 b)
same_append w n [] (x' ∷ xs') ys ys' a b = absurd a
same_append w n (x ∷ xs) [] ys ys' a b = absurd a

same_length : (w : Pairing) (n : ℕ) (xs xs' : List Byte) → SameBytes w n xs xs' → length xs ≡ length xs'
same_length w n [] [] a = refl
same_length w n (x ∷ xs) (x' ∷ xs') a = ap (λ (k : ℕ). suc k) (same_length w n xs xs' a.1)
same_length w n [] (x' ∷ xs') a = absurd a
same_length w n (x ∷ xs) [] a = absurd a

number_bytes_same : (w : Pairing) (n k m : ℕ) → SameBytes w n (number_bytes k m) (number_bytes k m)
number_bytes_same w n zero m = tt
number_bytes_same w n (suc k) m = (refl, number_bytes_same w n k (m / 256))

fragments_alike : (w : Pairing) (n k i : ℕ) (x x' : Base) (o : ℕ) → SameBase w n x x' →
    SameBytes w n (fragments k i x o) (fragments k i x' o)
fragments_alike w n zero i x x' o s = tt
fragments_alike w n (suc k) i x x' o s = ((refl, s, refl), fragments_alike w n k (suc i) x x' o s)

number_spoilt : (w : Pairing) (n k m : ℕ) → SameBytes w n (number_bytes k m) (replicate k Spoilt)
number_spoilt w n zero m = tt
number_spoilt w n (suc k) m = (tt, number_spoilt w n k (m / 256))

fragments_spoilt : (w : Pairing) (n k i : ℕ) (x : Base) (o : ℕ) → SameBytes w n (fragments k i x o) (replicate k Spoilt)
fragments_spoilt w n zero i x o = tt
fragments_spoilt w n (suc k) i x o = (tt, fragments_spoilt w n k (suc i) x o)

spoilt_spoilt : (w : Pairing) (n k : ℕ) → SameBytes w n (replicate k Spoilt) (replicate k Spoilt)
spoilt_spoilt w n zero = tt
spoilt_spoilt w n (suc k) = (tt, spoilt_spoilt w n k)

pointer_spoilt : (w : Pairing) (n k : ℕ) (x : Base) (o : ℕ) → SameBytes w n (pointer_bytes k x o) (replicate k Spoilt)
pointer_spoilt w n k Nowhere zero = number_spoilt w n k 0
pointer_spoilt w n k Nowhere (suc o) = fragments_spoilt w n k 0 Nowhere (suc o)
pointer_spoilt w n k (Code s) o = fragments_spoilt w n k 0 (Code s) o
pointer_spoilt w n k (Cell l) o = fragments_spoilt w n k 0 (Cell l) o

pointer_bytes_same : (w : Pairing) (n k : ℕ) (x x' : Base) (o : ℕ) → SameBase w n x x' →
    SameBytes w n (pointer_bytes k x o) (pointer_bytes k x' o)
pointer_bytes_same w n k Nowhere Nowhere zero s = number_bytes_same w n k 0
pointer_bytes_same w n k Nowhere Nowhere (suc o) s = fragments_alike w n k 0 Nowhere Nowhere (suc o) s
pointer_bytes_same w n k (Code s) (Code t) o e = fragments_alike w n k 0 (Code s) (Code t) o e
pointer_bytes_same w n k (Cell l) (Cell r) o e = fragments_alike w n k 0 (Cell l) (Cell r) o e
pointer_bytes_same w n k Nowhere (Code t) o s = absurd s
pointer_bytes_same w n k Nowhere (Cell r) o s = absurd s
pointer_bytes_same w n k (Code t) Nowhere o s = absurd s
pointer_bytes_same w n k (Code t) (Cell r) o s = absurd s
pointer_bytes_same w n k (Cell l) Nowhere o s = absurd s
pointer_bytes_same w n k (Cell l) (Code t) o s = absurd s

bits_stored_same : (w : Pairing) (n k : ℕ) (a a' : Option ℕ) → NoneOrSame a a' → SameBytes w n (bits_stored k a) (bits_stored k a')
bits_stored_same w n k None None x = spoilt_spoilt w n k
bits_stored_same w n k (Some m) None x = number_spoilt w n k m
bits_stored_same w n k a (Some i) (inl x) = absurd (cc x)
bits_stored_same w n k a (Some i) (inr x) = subst (λ (o : Option ℕ). SameBytes w n (bits_stored k o) (number_bytes k i)) (sym x)
    (number_bytes_same w n k i)

pointer_stored_same : (w : Pairing) (n : ℕ) (v u : Value) → Agrees w n v u → SameBytes w n (pointer_stored v) (pointer_stored u)
pointer_stored_same w n (Pointer x i) (Pointer y j) a =
    subst (λ (h : ℕ). SameBytes w n (pointer_bytes 8 x i) (pointer_bytes 8 y h)) a.1 (pointer_bytes_same w n 8 x y i a.0)
pointer_stored_same w n (Pointer x i) Poison a = pointer_spoilt w n 8 x i
pointer_stored_same w n (Number m) Poison a = spoilt_spoilt w n 8
pointer_stored_same w n Poison Poison a = spoilt_spoilt w n 8
pointer_stored_same w n (Number m) (Number m') a = spoilt_spoilt w n 8
pointer_stored_same w n Poison (Number m') a = absurd a
pointer_stored_same w n (Pointer x i) (Number m') a = absurd a
pointer_stored_same w n Poison (Pointer y j) a = absurd a
pointer_stored_same w n (Number m) (Pointer y j) a = absurd a

pub stored_same : (w : Pairing) (n : ℕ) (reg : Reg) (v u : Value) → Agrees w n v u → SameBytes w n (stored_bytes reg v) (stored_bytes reg u)
stored_same w n (Int k) v u a = bits_stored_same w n (k / 8) (bits_of k v) (bits_of k u) (bits_agree w n k v u a)
stored_same w n Ptr v u a = pointer_stored_same w n v u a

overwritten_same : (w : Pairing) (n : ℕ) (bs bs' : List Byte) (offset : ℕ) (new new' : List Byte) → SameBytes w n bs bs' →
    SameBytes w n new new' → SameBytes w n (overwritten bs offset new) (overwritten bs' offset new')
overwritten_same w n bs bs' offset new new' a b =
    let e = same_length w n new new' b in
    let tail = subst (λ (k : ℕ). SameBytes w n (drop (offset + length new) bs) (drop (offset + k) bs')) e
    (drop_same w n (offset + length new) bs bs' a) in
    same_append w n (take offset bs) (take offset bs') (new ++ drop (offset + length new) bs)
    (new' ++ drop (offset + length new') bs') (take_same w n offset bs bs' a)
    (same_append w n new new' (drop (offset + length new) bs) (drop (offset + length new') bs') b tail)

stores_if : (p : Point) (place : ℕ) (why why' : Cause) (l r : Bool) (m m' : Memory) → (r ≡ true → l ≡ true) →
    EffectsAlike p (Went None None m place []) (Went None None m' place []) →
    EffectsAlike p (stores place why (if l then Some m else None)) (stores place why' (if r then Some m' else None))
stores_if p place why why' l false m m' h g = tt
stores_if p place why why' true true m m' h g = g
stores_if p place why why' false true m m' h g = absurd (cc (h refl))

store_in_alike : (p : Point) → Related p → (why why' : Cause) (place l r : ℕ) → l < length p.left → p.pairing l ≡ r →
    (reg : Reg) (v u : Value) (offset align : ℕ) → Agrees p.pairing (length p.left) v u → (o o' : Option MemoryBlock) →
    slice_get p.left l ≡ o → slice_get p.right r ≡ o' → MaybeSame p.pairing (length p.left) o o' →
    EffectsAlike p (stores place why (store_in p.left l o reg v offset align))
    (stores place why' (store_in p.right r o' reg u offset align))
store_in_alike p rel why why' place l r lt e reg v u offset align agree (Some x) (Some x') at there s =
    let new : MemoryBlock = record x { bytes = overwritten x.bytes offset (stored_bytes reg v) } in
    let new' : MemoryBlock = record x' { bytes = overwritten x'.bytes offset (stored_bytes reg u) } in
    let same : SameBlock p.pairing (length p.left) new new' =
    record {
      marks = record { size = s.marks.size; align = s.marks.align; writable = s.marks.writable };
      live = s.live;
      bytes = overwritten_same p.pairing (length p.left) x.bytes x'.bytes offset (stored_bytes reg v) (stored_bytes reg u)
          s.bytes (stored_same p.pairing (length p.left) reg v u agree);
    } in
    let is : block_of p.left l ≡ x = block_is p.left l x at in
    let marks : SameMarks (block_of p.left l) new =
    subst (λ (y : MemoryBlock). SameMarks y new) (sym is) (record { size = refl; align = refl; writable = refl }) in
    let at' : block_of p.right (p.pairing l) ≡ x' = block_is p.right (p.pairing l) x' (ap (λ (i : ℕ). slice_get p.right i) e ∙ there) in
    let q = updated p l new new' in
    let go : WentAlike p None None None None (slice_set p.left l new) (slice_set p.right r new') place place [] [] =
    record {
      point = q;
      kept = λ g. update_kept {g = g} p rel l new new' lt same marks (λ d. ap (λ (y : MemoryBlock). y.live) (sym at') ∙ d)
          (λ below d. ap (λ (y : MemoryBlock). y.live) (sym at') ∙ d);
      left = refl;
      right = ap (λ (i : ℕ). slice_set p.right i new') e;
      place_is = refl;
      events = refl;
      value = tt;
      slot_is = tt;
    } in
    stores_if p place why why' (x.writable && reaches x offset (reg_size reg) align)
    (x'.writable && reaches x' offset (reg_size reg) align) (slice_set p.left l new) (slice_set p.right r new')
    (λ h. let y = and_parts x'.writable (reaches x' offset (reg_size reg) align) h in
    and_from x.writable (reaches x offset (reg_size reg) align) (s.marks.writable ∙ y.0)
    (reaches_more p.pairing (length p.left) x x' offset (reg_size reg) align s y.1)) go
store_in_alike p rel why why' place l r lt e reg v u offset align agree None o' at there s = absurd s
store_in_alike p rel why why' place l r lt e reg v u offset align agree (Some x) None at there s = absurd s

store_alike : (p : Point) → Related p → (why why' : Cause) (place : ℕ) (reg : Reg) (v u : Value) (d c : Value) (align : ℕ) →
    Agrees p.pairing (length p.left) v u → Agrees p.pairing (length p.left) d c →
    EffectsAlike p (stores place why (store p.left reg v d align)) (stores place why' (store p.right reg u c align))
store_alike p rel why why' place reg v u (Pointer (Cell l) i) (Pointer (Cell r) j) align x y =
    subst (λ (k : ℕ). EffectsAlike p (stores place why (store p.left reg v (Pointer (Cell l) i) align))
    (stores place why' (store p.right reg u (Pointer (Cell r) k) align))) y.1
    (store_in_alike p rel why why' place l r y.0.0 y.0.1 reg v u i align x (slice_get p.left l) (slice_get p.right r) refl
    refl (here_same p rel l r y.0.0 y.0.1))
store_alike p rel why why' place reg v u d Poison align x y = tt
store_alike p rel why why' place reg v u d (Number m) align x y = tt
store_alike p rel why why' place reg v u d (Pointer Nowhere j) align x y = tt
store_alike p rel why why' place reg v u d (Pointer (Code t) j) align x y = tt
store_alike p rel why why' place reg v u Poison (Pointer (Cell r) j) align x y = absurd y
store_alike p rel why why' place reg v u (Number m) (Pointer (Cell r) j) align x y = absurd y
store_alike p rel why why' place reg v u (Pointer Nowhere i) (Pointer (Cell r) j) align x y = absurd y.0
store_alike p rel why why' place reg v u (Pointer (Code t) i) (Pointer (Cell r) j) align x y = absurd y.0

-- ---- calls

puts_alike : (p : Point) → Related p → (place : ℕ) (vs us : List Value) → AllAgree p.pairing (length p.left) vs us →
    EffectsAlike p (puts_char p.left place vs) (puts_char p.right place us)
puts_alike p rel place (v ∷ []) (u ∷ []) h = by (bits_of 32 v) (bits_of 32 u) (bits_agree p.pairing (length p.left) 32 v u h.0)
  where
    by : (a b : Option ℕ) → NoneOrSame a b → EffectsAlike p (puts_bits p.left place a) (puts_bits p.right place b)
    by a None e = tt
    by (Some n) (Some m) (inr e) =
        let same : n ≡ m = cc e in
        subst (λ (i : ℕ). EffectsAlike p (puts_bits p.left place (Some n)) (puts_bits p.right place (Some i))) same
        (went_still p rel (Some (Number (n % 256))) (Some (Number (n % 256))) place (Wrote (n % 256) ∷ []) refl)
    by None (Some m) (inr e) = absurd (cc e)
    by a (Some m) (inl e) = absurd (cc e)
puts_alike p rel place vs [] h = tt
puts_alike p rel place vs (u ∷ u' ∷ us) h = tt
puts_alike p rel place [] (u ∷ []) h = absurd h
puts_alike p rel place (v ∷ v' ∷ vs) (u ∷ []) h = absurd h.1

gets_char_alike : (p : Point) → Related p → (place : ℕ) (o : Option ℕ) →
    EffectsAlike p (gets_char p.left place o) (gets_char p.right place o)
gets_char_alike p rel place (Some byte) = went_still p rel (Some (Number byte)) (Some (Number byte)) (suc place) (ReadByte byte ∷ []) refl
gets_char_alike p rel place None = went_still p rel (Some (Number 4294967295)) (Some (Number 4294967295)) place (ReadEnd ∷ []) refl

host_alike : (p : Point) → Related p → (host : Host) (input : List ℕ) (place : ℕ) (vs us : List Value) →
    AllAgree p.pairing (length p.left) vs us → EffectsAlike p (calls_host host input p.left place vs)
    (calls_host host input p.right place us)
host_alike p rel PutChar input place vs us h = puts_alike p rel place vs us h
host_alike p rel GetChar input place vs us h = gets_char_alike p rel place (slice_get input place)

kind_alike : (p : Point) → Related p → (kind : SymbolKind) (s : Symbol) (input : List ℕ) (place : ℕ) (result : Option Reg)
    (regs : List Reg) (vs us : List Value) → AllAgree p.pairing (length p.left) vs us →
    EffectsAlike p (calls_kind kind s input p.left place result regs vs) (calls_kind kind s input p.right place result regs us)
kind_alike p rel (AFunction params result') s input place result regs vs us h =
    if_alike p (regs_eq params regs && result_eq result' result) (Asked s vs) (Asked s us) (Undefined CallOfAnotherType) (refl, h)
kind_alike p rel (AHost host) s input place result regs vs us h =
    if_alike p (regs_eq (host_params host) regs && result_eq (Some (Int 32)) result) (calls_host host input p.left place vs)
    (calls_host host input p.right place us) (Undefined CallOfAnotherType) (host_alike p rel host input place vs us h)
kind_alike p rel (AVariable number) s input place result regs vs us h = tt
kind_alike p rel Missing s input place result regs vs us h = tt

call_alike : (sig : Signature) (p : Point) → Related p →
    (input : List ℕ) (place : ℕ) (result : Option Reg) (regs : List Reg) (vs us : List Value) (c d : Value) →
    AllAgree p.pairing (length p.left) vs us → Agrees p.pairing (length p.left) c d →
    EffectsAlike p (calls_value sig input p.left place result regs vs c) (calls_value sig input p.right place result regs us d)
call_alike sig p rel input place result regs vs us (Pointer (Code s) zero) (Pointer (Code t) zero) h e =
    subst (λ (x : Symbol). EffectsAlike p (calls_value sig input p.left place result regs vs (Pointer (Code s) zero))
    (calls_value sig input p.right place result regs us (Pointer (Code x) zero))) e.0
    (kind_alike p rel (sig.kind s) s input place result regs vs us h)
call_alike sig p rel input place result regs vs us (Pointer (Code s) (suc i)) (Pointer (Code t) zero) h e = absurd (cc (e.1))
call_alike sig p rel input place result regs vs us (Pointer Nowhere i) (Pointer (Code t) zero) h e = absurd e.0
call_alike sig p rel input place result regs vs us (Pointer (Cell l) i) (Pointer (Code t) zero) h e = absurd e.0
call_alike sig p rel input place result regs vs us Poison (Pointer (Code t) zero) h e = absurd e
call_alike sig p rel input place result regs vs us (Number n) (Pointer (Code t) zero) h e = absurd e
call_alike sig p rel input place result regs vs us c (Pointer (Code t) (suc j)) h e = tt
call_alike sig p rel input place result regs vs us c (Pointer Nowhere j) h e = tt
call_alike sig p rel input place result regs vs us c (Pointer (Cell r) j) h e = tt
call_alike sig p rel input place result regs vs us c Poison h e = tt
call_alike sig p rel input place result regs vs us c (Number m) h e = tt

-- ---- all

compares_agree : (p : Point) → Related p → (choice : ℕ) (pr : Predicate) (reg : Reg) (v u v' u' : Value) →
    Agrees p.pairing (length p.left) v v' → Agrees p.pairing (length p.left) u u' →
    (choice' : ℕ) × Agrees p.pairing (length p.left) (compares p.left choice pr reg v u) (compares p.right choice' pr reg v' u')
compares_agree p rel choice pr (Int k) v u v' u' a b = (0, compared_agrees p.pairing (length p.left) pr k v u v' u' a b)
compares_agree p rel choice pr Ptr v u v' u' a b = pointers_agree p rel choice pr v u v' u' a b

reserve_alike : (p : Point) → Related p → (place size align : ℕ) →
    EffectsAlike p (Went (Some (Pointer (Cell (length p.left)) 0)) (Some (length p.left)) (p.left ++ fresh size align ∷ [])
    place []) (Went (Some (Pointer (Cell (length p.right)) 0)) (Some (length p.right)) (p.right ++ fresh size align ∷ []) place [])
reserve_alike p rel place size align =
    let x = fresh size align in
    let q = more p x x in
    let longer = length-append p.left (x ∷ []) in
    record {
      point = q;
      kept = λ g. more_kept p rel x x (fresh_same (pairing_more p) (length (p.left ++ x ∷ [])) size align);
      left = refl;
      right = refl;
      place_is = refl;
      events = refl;
      value = ((omega (arith, longer), more_new p), refl);
      slot_is = (omega (arith, longer), more_new p, omega arith);
    }

-- what is done with agreed values is alike, for some answer to a free choice
pub execute_alike : (sig : Signature) (p : Point) → Related p → (input : List ℕ) (place choice : ℕ) (t t' : Task) →
    TasksAgree p.pairing (length p.left) t t' → (choice' : ℕ) ×
    EffectsAlike p (execute sig input p.left place choice t) (execute sig input p.right place choice' t')
execute_alike sig p rel input place choice (ToBinary op f k v u) (ToBinary op' f' k' v' u') h = (
  0,
  subst (λ (o : BinaryOp). EffectsAlike p (gives p.left place (binary op f k v u))
      (gives p.right place (binary o f' k' v' u'))) h.0
      (subst (λ (g : Flags). EffectsAlike p (gives p.left place (binary op f k v u))
      (gives p.right place (binary op g k' v' u'))) h.1
      (subst (λ (i : ℕ). EffectsAlike p (gives p.left place (binary op f k v u))
      (gives p.right place (binary op f i v' u'))) h.2
      (gives_alike p rel place (binary op f k v u) (binary op f k v' u')
      (binary_agrees p.pairing (length p.left) op f k v u v' u' h.3 h.4)))),
)
execute_alike sig p rel input place choice (ToCompare pr reg v u) (ToCompare pr' reg' v' u') h =
    let x = compares_agree p rel choice pr reg v u v' u' h.2 h.3 in
    let g = gives_alike p rel place (Is (compares p.left choice pr reg v u)) (Is (compares p.right x.0 pr reg v' u')) x.1 in (
      x.0,
      subst (λ (o : Predicate). EffectsAlike p (gives p.left place (Is (compares p.left choice pr reg v u)))
          (gives p.right place (Is (compares p.right x.0 o reg' v' u')))) h.0
          (subst (λ (o : Reg). EffectsAlike p (gives p.left place (Is (compares p.left choice pr reg v u)))
          (gives p.right place (Is (compares p.right x.0 pr o v' u')))) h.1 g),
    )
execute_alike sig p rel input place choice (ToCast op from to v) (ToCast op' from' to' v') h = (
  0,
  subst (λ (o : CastOp). EffectsAlike p (gives p.left place (Is (cast op from to v)))
      (gives p.right place (Is (cast o from' to' v')))) h.0
      (subst (λ (i : Reg). EffectsAlike p (gives p.left place (Is (cast op from to v)))
      (gives p.right place (Is (cast op i to' v')))) h.1
      (subst (λ (i : Reg). EffectsAlike p (gives p.left place (Is (cast op from to v)))
      (gives p.right place (Is (cast op from i v')))) h.2
      (gives_alike p rel place (Is (cast op from to v)) (Is (cast op from to v'))
      (cast_agrees p.pairing (length p.left) op from to v v' h.3)))),
)
execute_alike sig p rel input place choice (ToSelect c v u) (ToSelect c' v' u') h = (
  0,
  gives_alike p rel place (Is (selected c v u)) (Is (selected c' v' u'))
      (selected_agrees p.pairing (length p.left) c c' v u v' u' h.0 h.1 h.2),
)
execute_alike sig p rel input place choice (ToFreeze k v) (ToFreeze k' v') h =
    let x = frozen_agrees p.pairing (length p.left) k choice v v' h.1 in (
      x.0,
      subst (λ (i : Reg). EffectsAlike p (gives p.left place (Is (frozen k choice v)))
          (gives p.right place (Is (frozen i x.0 v')))) h.0
          (gives_alike p rel place (Is (frozen k choice v)) (Is (frozen k x.0 v')) x.1),
    )
execute_alike sig p rel input place choice (ToReserve size align) (ToReserve size' align') h = (
  0,
  subst (λ (i : ℕ). EffectsAlike p (execute sig input p.left place choice (ToReserve size align))
      (execute sig input p.right place 0 (ToReserve i align'))) h.0
      (subst (λ (i : ℕ). EffectsAlike p (execute sig input p.left place choice (ToReserve size align))
      (execute sig input p.right place 0 (ToReserve size i))) h.1 (reserve_alike p rel place size align)),
)
execute_alike sig p rel input place choice (ToLoad reg v align) (ToLoad reg' v' align') h = (
  0,
  subst (λ (r : Reg). EffectsAlike p (gives p.left place (load p.left reg v align))
      (gives p.right place (load p.right r v' align'))) h.0
      (subst (λ (i : ℕ). EffectsAlike p (gives p.left place (load p.left reg v align))
      (gives p.right place (load p.right reg v' i))) h.2
      (gives_alike p rel place (load p.left reg v align) (load p.right reg v' align) (load_agrees p rel reg v v' align h.1))),
)
execute_alike sig p rel input place choice (ToStore reg v u align) (ToStore reg' v' u' align') h = (
  0,
  subst (λ (r : Reg). EffectsAlike p (stores place (store_cause p.left reg u) (store p.left reg v u align))
      (stores place (store_cause p.right r u') (store p.right r v' u' align'))) h.0
      (subst (λ (i : ℕ). EffectsAlike p (stores place (store_cause p.left reg u) (store p.left reg v u align))
      (stores place (store_cause p.right reg u') (store p.right reg v' u' i))) h.3
      (store_alike p rel (store_cause p.left reg u) (store_cause p.right reg u') place reg v v' u u' align h.1 h.2)),
)
execute_alike sig p rel input place choice (ToAddress inbounds shape v is) (ToAddress inbounds' shape' v' is') h = (
  0,
  subst (λ (b : Bool). EffectsAlike p (gives p.left place (Is (address_of p.left inbounds shape v is)))
      (gives p.right place (Is (address_of p.right b shape' v' is')))) h.0
      (subst (λ (s : Form). EffectsAlike p (gives p.left place (Is (address_of p.left inbounds shape v is)))
      (gives p.right place (Is (address_of p.right inbounds s v' is')))) h.1
      (gives_alike p rel place (Is (address_of p.left inbounds shape v is)) (Is (address_of p.right inbounds shape v' is'))
      (address_agrees p rel inbounds shape v v' is is' h.2 h.3))),
)
execute_alike sig p rel input place choice (ToCall result regs vs c) (ToCall result' regs' vs' c') h = (
  0,
  subst (λ (r : Option Reg). EffectsAlike p (calls_value sig input p.left place result regs vs c)
      (calls_value sig input p.right place r regs' vs' c')) h.0
      (subst (λ (r : List Reg). EffectsAlike p (calls_value sig input p.left place result regs vs c)
      (calls_value sig input p.right place result r vs' c')) h.1
      (call_alike sig p rel input place result regs vs vs' c c' h.2 h.3)),
)
execute_alike sig p rel input place choice (ToBinary op f k v u) (ToCompare pr' reg' v' u') h = absurd h
execute_alike sig p rel input place choice (ToBinary op f k v u) (ToCast op' from' to' v') h = absurd h
execute_alike sig p rel input place choice (ToBinary op f k v u) (ToSelect c' v' u') h = absurd h
execute_alike sig p rel input place choice (ToBinary op f k v u) (ToFreeze k' v') h = absurd h
execute_alike sig p rel input place choice (ToBinary op f k v u) (ToReserve size' align') h = absurd h
execute_alike sig p rel input place choice (ToBinary op f k v u) (ToLoad reg' v' align') h = absurd h
execute_alike sig p rel input place choice (ToBinary op f k v u) (ToStore reg' v' u' align') h = absurd h
execute_alike sig p rel input place choice (ToBinary op f k v u) (ToAddress inbounds' shape' v' is') h = absurd h
execute_alike sig p rel input place choice (ToBinary op f k v u) (ToCall result' regs' vs' c') h = absurd h
execute_alike sig p rel input place choice (ToCompare pr reg v u) (ToBinary op' f' k' v' u') h = absurd h
execute_alike sig p rel input place choice (ToCompare pr reg v u) (ToCast op' from' to' v') h = absurd h
execute_alike sig p rel input place choice (ToCompare pr reg v u) (ToSelect c' v' u') h = absurd h
execute_alike sig p rel input place choice (ToCompare pr reg v u) (ToFreeze k' v') h = absurd h
execute_alike sig p rel input place choice (ToCompare pr reg v u) (ToReserve size' align') h = absurd h
execute_alike sig p rel input place choice (ToCompare pr reg v u) (ToLoad reg' v' align') h = absurd h
execute_alike sig p rel input place choice (ToCompare pr reg v u) (ToStore reg' v' u' align') h = absurd h
execute_alike sig p rel input place choice (ToCompare pr reg v u) (ToAddress inbounds' shape' v' is') h = absurd h
execute_alike sig p rel input place choice (ToCompare pr reg v u) (ToCall result' regs' vs' c') h = absurd h
execute_alike sig p rel input place choice (ToCast op from to v) (ToBinary op' f' k' v' u') h = absurd h
execute_alike sig p rel input place choice (ToCast op from to v) (ToCompare pr' reg' v' u') h = absurd h
execute_alike sig p rel input place choice (ToCast op from to v) (ToSelect c' v' u') h = absurd h
execute_alike sig p rel input place choice (ToCast op from to v) (ToFreeze k' v') h = absurd h
execute_alike sig p rel input place choice (ToCast op from to v) (ToReserve size' align') h = absurd h
execute_alike sig p rel input place choice (ToCast op from to v) (ToLoad reg' v' align') h = absurd h
execute_alike sig p rel input place choice (ToCast op from to v) (ToStore reg' v' u' align') h = absurd h
execute_alike sig p rel input place choice (ToCast op from to v) (ToAddress inbounds' shape' v' is') h = absurd h
execute_alike sig p rel input place choice (ToCast op from to v) (ToCall result' regs' vs' c') h = absurd h
execute_alike sig p rel input place choice (ToSelect c v u) (ToBinary op' f' k' v' u') h = absurd h
execute_alike sig p rel input place choice (ToSelect c v u) (ToCompare pr' reg' v' u') h = absurd h
execute_alike sig p rel input place choice (ToSelect c v u) (ToCast op' from' to' v') h = absurd h
execute_alike sig p rel input place choice (ToSelect c v u) (ToFreeze k' v') h = absurd h
execute_alike sig p rel input place choice (ToSelect c v u) (ToReserve size' align') h = absurd h
execute_alike sig p rel input place choice (ToSelect c v u) (ToLoad reg' v' align') h = absurd h
execute_alike sig p rel input place choice (ToSelect c v u) (ToStore reg' v' u' align') h = absurd h
execute_alike sig p rel input place choice (ToSelect c v u) (ToAddress inbounds' shape' v' is') h = absurd h
execute_alike sig p rel input place choice (ToSelect c v u) (ToCall result' regs' vs' c') h = absurd h
execute_alike sig p rel input place choice (ToFreeze k v) (ToBinary op' f' k' v' u') h = absurd h
execute_alike sig p rel input place choice (ToFreeze k v) (ToCompare pr' reg' v' u') h = absurd h
execute_alike sig p rel input place choice (ToFreeze k v) (ToCast op' from' to' v') h = absurd h
execute_alike sig p rel input place choice (ToFreeze k v) (ToSelect c' v' u') h = absurd h
execute_alike sig p rel input place choice (ToFreeze k v) (ToReserve size' align') h = absurd h
execute_alike sig p rel input place choice (ToFreeze k v) (ToLoad reg' v' align') h = absurd h
execute_alike sig p rel input place choice (ToFreeze k v) (ToStore reg' v' u' align') h = absurd h
execute_alike sig p rel input place choice (ToFreeze k v) (ToAddress inbounds' shape' v' is') h = absurd h
execute_alike sig p rel input place choice (ToFreeze k v) (ToCall result' regs' vs' c') h = absurd h
execute_alike sig p rel input place choice (ToReserve size align) (ToBinary op' f' k' v' u') h = absurd h
execute_alike sig p rel input place choice (ToReserve size align) (ToCompare pr' reg' v' u') h = absurd h
execute_alike sig p rel input place choice (ToReserve size align) (ToCast op' from' to' v') h = absurd h
execute_alike sig p rel input place choice (ToReserve size align) (ToSelect c' v' u') h = absurd h
execute_alike sig p rel input place choice (ToReserve size align) (ToFreeze k' v') h = absurd h
execute_alike sig p rel input place choice (ToReserve size align) (ToLoad reg' v' align') h = absurd h
execute_alike sig p rel input place choice (ToReserve size align) (ToStore reg' v' u' align') h = absurd h
execute_alike sig p rel input place choice (ToReserve size align) (ToAddress inbounds' shape' v' is') h = absurd h
execute_alike sig p rel input place choice (ToReserve size align) (ToCall result' regs' vs' c') h = absurd h
execute_alike sig p rel input place choice (ToLoad reg v align) (ToBinary op' f' k' v' u') h = absurd h
execute_alike sig p rel input place choice (ToLoad reg v align) (ToCompare pr' reg' v' u') h = absurd h
execute_alike sig p rel input place choice (ToLoad reg v align) (ToCast op' from' to' v') h = absurd h
execute_alike sig p rel input place choice (ToLoad reg v align) (ToSelect c' v' u') h = absurd h
execute_alike sig p rel input place choice (ToLoad reg v align) (ToFreeze k' v') h = absurd h
execute_alike sig p rel input place choice (ToLoad reg v align) (ToReserve size' align') h = absurd h
execute_alike sig p rel input place choice (ToLoad reg v align) (ToStore reg' v' u' align') h = absurd h
execute_alike sig p rel input place choice (ToLoad reg v align) (ToAddress inbounds' shape' v' is') h = absurd h
execute_alike sig p rel input place choice (ToLoad reg v align) (ToCall result' regs' vs' c') h = absurd h
execute_alike sig p rel input place choice (ToStore reg v u align) (ToBinary op' f' k' v' u') h = absurd h
execute_alike sig p rel input place choice (ToStore reg v u align) (ToCompare pr' reg' v' u') h = absurd h
execute_alike sig p rel input place choice (ToStore reg v u align) (ToCast op' from' to' v') h = absurd h
execute_alike sig p rel input place choice (ToStore reg v u align) (ToSelect c' v' u') h = absurd h
execute_alike sig p rel input place choice (ToStore reg v u align) (ToFreeze k' v') h = absurd h
execute_alike sig p rel input place choice (ToStore reg v u align) (ToReserve size' align') h = absurd h
execute_alike sig p rel input place choice (ToStore reg v u align) (ToLoad reg' v' align') h = absurd h
execute_alike sig p rel input place choice (ToStore reg v u align) (ToAddress inbounds' shape' v' is') h = absurd h
execute_alike sig p rel input place choice (ToStore reg v u align) (ToCall result' regs' vs' c') h = absurd h
execute_alike sig p rel input place choice (ToAddress inbounds shape v is) (ToBinary op' f' k' v' u') h = absurd h
execute_alike sig p rel input place choice (ToAddress inbounds shape v is) (ToCompare pr' reg' v' u') h = absurd h
execute_alike sig p rel input place choice (ToAddress inbounds shape v is) (ToCast op' from' to' v') h = absurd h
execute_alike sig p rel input place choice (ToAddress inbounds shape v is) (ToSelect c' v' u') h = absurd h
execute_alike sig p rel input place choice (ToAddress inbounds shape v is) (ToFreeze k' v') h = absurd h
execute_alike sig p rel input place choice (ToAddress inbounds shape v is) (ToReserve size' align') h = absurd h
execute_alike sig p rel input place choice (ToAddress inbounds shape v is) (ToLoad reg' v' align') h = absurd h
execute_alike sig p rel input place choice (ToAddress inbounds shape v is) (ToStore reg' v' u' align') h = absurd h
execute_alike sig p rel input place choice (ToAddress inbounds shape v is) (ToCall result' regs' vs' c') h = absurd h
execute_alike sig p rel input place choice (ToCall result regs vs c) (ToBinary op' f' k' v' u') h = absurd h
execute_alike sig p rel input place choice (ToCall result regs vs c) (ToCompare pr' reg' v' u') h = absurd h
execute_alike sig p rel input place choice (ToCall result regs vs c) (ToCast op' from' to' v') h = absurd h
execute_alike sig p rel input place choice (ToCall result regs vs c) (ToSelect c' v' u') h = absurd h
execute_alike sig p rel input place choice (ToCall result regs vs c) (ToFreeze k' v') h = absurd h
execute_alike sig p rel input place choice (ToCall result regs vs c) (ToReserve size' align') h = absurd h
execute_alike sig p rel input place choice (ToCall result regs vs c) (ToLoad reg' v' align') h = absurd h
execute_alike sig p rel input place choice (ToCall result regs vs c) (ToStore reg' v' u' align') h = absurd h
execute_alike sig p rel input place choice (ToCall result regs vs c) (ToAddress inbounds' shape' v' is') h = absurd h
execute_alike sig p rel input place choice ToPoison ToPoison h = (0, gives_alike p rel place (Is Poison) (Is Poison) tt)
execute_alike sig p rel input place choice (ToBinary op f k v u) ToPoison h = absurd h
execute_alike sig p rel input place choice (ToCompare pr reg v u) ToPoison h = absurd h
execute_alike sig p rel input place choice (ToCast op from to v) ToPoison h = absurd h
execute_alike sig p rel input place choice (ToSelect c v u) ToPoison h = absurd h
execute_alike sig p rel input place choice (ToFreeze k v) ToPoison h = absurd h
execute_alike sig p rel input place choice (ToReserve size align) ToPoison h = absurd h
execute_alike sig p rel input place choice (ToLoad reg v align) ToPoison h = absurd h
execute_alike sig p rel input place choice (ToStore reg v u align) ToPoison h = absurd h
execute_alike sig p rel input place choice (ToAddress inbounds shape v is) ToPoison h = absurd h
execute_alike sig p rel input place choice (ToCall result regs vs c) ToPoison h = absurd h
execute_alike sig p rel input place choice ToPoison (ToBinary op' f' k' v' u') h = absurd h
execute_alike sig p rel input place choice ToPoison (ToCompare pr' reg' v' u') h = absurd h
execute_alike sig p rel input place choice ToPoison (ToCast op' from' to' v') h = absurd h
execute_alike sig p rel input place choice ToPoison (ToSelect c' v' u') h = absurd h
execute_alike sig p rel input place choice ToPoison (ToFreeze k' v') h = absurd h
execute_alike sig p rel input place choice ToPoison (ToReserve size' align') h = absurd h
execute_alike sig p rel input place choice ToPoison (ToLoad reg' v' align') h = absurd h
execute_alike sig p rel input place choice ToPoison (ToStore reg' v' u' align') h = absurd h
execute_alike sig p rel input place choice ToPoison (ToAddress inbounds' shape' v' is') h = absurd h
execute_alike sig p rel input place choice ToPoison (ToCall result' regs' vs' c') h = absurd h
