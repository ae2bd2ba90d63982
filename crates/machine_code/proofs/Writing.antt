-- Images that are written from the front.
use Rattle.std.proofs.Common.{◌≡◌, ℕ, suc, ◌+◌, ◌-◌, ◌/◌, ◌^◌, ◌≤◌, ◌<◌, Bool, if◌then◌else◌, Some, None, List, [], ◌∷◌, ◌++◌, length, get_or, map, drop, reverse, ◌⊎◌, inl, inr, refl, sym, ap, subst, ◌∙◌, append_assoc, arith}
use Rattle.std.proofs.Math.Nat.{mod-eq_of_lt}
use Rattle.std.proofs.Math.Seq.{drop-append-add, drop-cons, take-append_seam}
use Rattle.std.proofs.lemmas.Bool.{lt-ltb}
use Rattle.std.proofs.lemmas.List.{append-nil, drop-replicate, length-append, length-replicate, replicate-append-replicate, reverse-append}
use Rattle.ir_tree.specs.Fits.{Fits}
use Rattle.ir_tree.specs.Forms.{Form, int}
use Rattle.ir_tree.specs.Initials.{Initial, flat_of, head_of, parts_of}
use Rattle.ir_tree.specs.Layout.{IsLaidOut, size}
use Rattle.ir_tree.specs.declared.init_node.InitHead.{InitHead}
use Rattle.ir_tree.specs.declared.init_node.InitPart.{InitPart}
use Rattle.ir_tree.specs.declared.init_node.InitPart.TheVariants.{Typed}
use Rattle.ir_tree.specs.declared.operand.Operand.{Operand}
use Rattle.ir_tree.specs.declared.operand.Reg.{Reg}
use Rattle.ir_tree.specs.declared.operand.Reg.TheVariants.{Int}
use Rattle.ir_tree.specs.declared.operand.Symbol.{Symbol}
use Rattle.ir_meaning.specs.Access.{overwritten}
use Rattle.ir_meaning.specs.Bytes.{bits_stored, reg_size, stored_bytes}
use Rattle.ir_meaning.specs.declared.value.Byte.{Byte}
use Rattle.ir_meaning.specs.declared.value.Byte.TheVariants.{Plain}
use Rattle.ir_meaning.specs.declared.value.Value.{Value}
use Rattle.ir_meaning.specs.declared.value.Value.TheVariants.{Number}
use Rattle.ir_meaning.proofs.Slots.Contents.{stored_length}
use Rattle.ir_machine.specs.Bytes.{bytes_len, bytes_meant}
use Rattle.ir_machine.specs.Meant.{meant}
use Rattle.ir_machine.specs.Origins.{Holds, HoldsNone, HoldsNoMore}
use Rattle.ir_machine.specs.declared.bytes.Bytes.{Bytes}
use Rattle.ir_machine.specs.declared.scalar.Scalar.{Scalar}
use Rattle.ir_machine.specs.declared.scalar.Scalar.TheVariants as scalar
use Rattle.ir_meaning.specs.Constants.{initial_bytes, scalar_bytes, zero_bytes}
use Rattle.ir_meaning.proofs.Sized.{initial_size}
use Rattle.machine_code.specs.MemoryAddresses.{HoldsFrom, IsBaseIn, IsFrom, KeepsFrom, value_in}
use Rattle.machine_code.specs.Images.{IsWritten, TakesAll, Wrote, head_bytes, open_behind, opened_by, padding, part_bytes, parts_bytes}
use Rattle.machine_code.specs.declared.bases.Bases.{Bases}
use Rattle.machine_code.specs.declared.image.Image.{Image}
use Rattle.machine_code.specs.declared.open.Open.{Open}
use Rattle.machine_code.proofs.Laying.{value_laid, value_takes}

zeros_long : (n : ℕ) → length (zero_bytes n) ≡ n
zeros_long n = length-replicate n (Plain 0)

-- ---- what is written

pub wrote_none : (old : Image) → Wrote old (λ (names : List Symbol). []) old
wrote_none old = record {
  long = refl;
  writes = λ names written w. subst (λ (bs : List Byte). IsWritten names old bs) (sym (append-nil written)) w;
}

pub wrote_both : (a b c : Image) (xs ys : List Symbol → List Byte) → Wrote a xs b → Wrote b ys c → Wrote a (λ (names : List Symbol). xs names ++ ys names) c
wrote_both a b c xs ys h k = record {
  long = k.long ∙ h.long;
  writes = λ names written w.
      subst (λ (bs : List Byte). IsWritten names c bs) (append_assoc written (xs names) (ys names)) (k.writes names (written ++ xs names) (h.writes names written w));
}

pub wrote_same : (a b : Image) (xs ys : List Symbol → List Byte) → ((names : List Symbol) → xs names ≡ ys names) → Wrote a xs b → Wrote a ys b
wrote_same a b xs ys same h = record {
  long = h.long;
  writes = λ names written w. subst (λ (bs : List Byte). IsWritten names b (written ++ bs)) (same names) (h.writes names written w);
}

-- what is open doesn't matter
pub wrote_beside : (a b a' b' : Image) (xs : List Symbol → List Byte) → a'.bytes ≡ a.bytes → a'.place ≡ a.place → b'.bytes ≡ b.bytes → b'.place ≡ b.place → Wrote a xs b → Wrote a' xs b'
wrote_beside a b a' b' xs e f g k h = record {
  long = ap (λ (x : Bytes). bytes_len x) g ∙ h.long ∙ sym (ap (λ (x : Bytes). bytes_len x) e);
  writes = λ names written w. beside names b b' (written ++ xs names) g k (h.writes names written (beside names a' a written (sym e) (sym f) w));
} where
  beside : (names : List Symbol) (x y : Image) (written : List Byte) → y.bytes ≡ x.bytes → y.place ≡ x.place → IsWritten names x written → IsWritten names y written
  beside names x y written same at w = record {
    place = at ∙ w.place;
    within = subst (λ (n : ℕ). length written ≤ n) (sym (ap (λ (z : Bytes). bytes_len z) same)) w.within;
    bytes = ap (λ (z : Bytes). bytes_meant names z) same ∙ w.bytes ∙ ap (λ (z : Bytes). written ++ zero_bytes (bytes_len z - length written)) (sym same);
  }

-- zeros are passed over
pub skipped : (old : Image) (count place : ℕ) → old.place + count ≤ bytes_len old.bytes → place ≡ old.place + count → Wrote old (λ (names : List Symbol). zero_bytes count) (record old { place = place })
skipped old count place room at = record {
  long = refl;
  writes = λ names written w.
      let long : length (written ++ zero_bytes count) ≡ length written + count = length-append written (zero_bytes count) ∙ ap (λ (n : ℕ). length written + n) (zeros_long count) in
      let left : count + (bytes_len old.bytes - length (written ++ zero_bytes count)) ≡ bytes_len old.bytes - length written = omega (arith, long, room, w.place) in
      record {
        place = omega (arith, at, w.place, long);
        within = omega (arith, long, room, w.place);
        bytes = w.bytes ∙ ap (λ (n : ℕ). written ++ zero_bytes n) (sym left)
            ∙ ap (λ (bs : List Byte). written ++ bs) (sym (replicate-append-replicate count (bytes_len old.bytes - length (written ++ zero_bytes count)) (Plain 0)))
            ∙ sym (append_assoc written (zero_bytes count) (zero_bytes (bytes_len old.bytes - length (written ++ zero_bytes count))));
      };
}

-- a part behind its padding, in an aggregate that is taken from the stack and put back
pub wrote_part : (old popped padded entered new : Image) (pad : ℕ) (xs : List Symbol → List Byte) → popped.bytes ≡ old.bytes → popped.place ≡ old.place →
    Wrote popped (λ (names : List Symbol). zero_bytes pad) padded → Wrote padded (λ (names : List Symbol). []) entered → Wrote entered xs new → Wrote old (λ (names : List Symbol). zero_bytes pad ++ xs names) new
wrote_part old popped padded entered new pad xs e f h k l =
    let first = wrote_beside popped padded old padded (λ (names : List Symbol). zero_bytes pad) (sym e) (sym f) refl refl h in
    let both = wrote_both old padded entered (λ (names : List Symbol). zero_bytes pad) (λ (names : List Symbol). []) first k in
    let same = wrote_same old entered (λ (names : List Symbol). zero_bytes pad ++ []) (λ (names : List Symbol). zero_bytes pad) (λ names. append-nil (zero_bytes pad)) both in
    wrote_both old entered new (λ (names : List Symbol). zero_bytes pad) xs same l

-- the beginning of a value, by what it is
pub wrote_head : (t : Bases) (f : Form) (head head' : InitHead) (old new : Image) → head ≡ head' → Wrote old (λ (names : List Symbol). head_bytes (value_in t names) f head') new → Wrote old (λ (names : List Symbol). head_bytes (value_in t names) f head) new
wrote_head t f head head' old new e h = wrote_same old new _ _ (λ names. ap (λ (x : InitHead). head_bytes (value_in t names) f x) (sym e)) h

-- there is room for an integer, where there is for the scalar
pub int_room : (f : Form) (w : ℕ) (v : Value) (place long : ℕ) → f ≡ int w → place + length (scalar_bytes f v) ≤ long → place + w / 8 ≤ long
int_room f w v place long e h =
    let same : length (scalar_bytes f v) ≡ w / 8 = ap (λ (g : Form). length (scalar_bytes g v)) e ∙ stored_length (Int w) v in
    omega (arith, h, same)

-- a part with the padding before it
pub wrote_typed : (t : Bases) (opens rest : List Open) (o : Open) (p : InitPart) (f : Form) (head : InitHead) (old new : Image) → opens ≡ o ∷ rest → p ≡ Typed f head →
    Wrote old (λ (names : List Symbol). zero_bytes (padding o f) ++ head_bytes (value_in t names) f head) new → Wrote old (λ (names : List Symbol). part_bytes (value_in t names) opens p) new
wrote_typed t opens rest o p f head old new e g h =
    wrote_same old new _ _ (λ names. ap (λ (x : InitPart). part_bytes (value_in t names) (o ∷ rest) x) (sym g) ∙ ap (λ (os : List Open). part_bytes (value_in t names) os p) (sym e)) h

-- the stack with one more, and without its last
pub pushed : (xs ys : List Open) (o : Open) → ys ≡ xs ++ o ∷ [] → reverse ys ≡ o ∷ reverse xs
pushed xs ys o e = ap (λ (zs : List Open). reverse zs) e ∙ reverse-append xs (o ∷ [])

-- bytes in place of the first zeros
over_zeros : (written new : List Byte) (r : ℕ) → overwritten (written ++ zero_bytes r) (length written) new ≡ (written ++ new) ++ zero_bytes (r - length new)
over_zeros written new r =
    ap (λ (bs : List Byte). bs ++ (new ++ drop (length written + length new) (written ++ zero_bytes r))) (take-append_seam written (zero_bytes r))
    ∙ ap (λ (bs : List Byte). written ++ (new ++ bs)) (drop-append-add written (zero_bytes r) (length new) ∙ drop-replicate (length new) r (Plain 0))
    ∙ sym (append_assoc written new (zero_bytes (r - length new)))

pub stored : (old : Image) (bytes : Bytes) (place size : ℕ) (reg : Reg) (value : Scalar) → size ≡ reg_size reg → old.place + size ≤ bytes_len old.bytes → place ≡ old.place + size →
    ((names : List Symbol) → bytes_meant names bytes ≡ overwritten (bytes_meant names old.bytes) old.place (stored_bytes reg (meant names value))) → bytes_len bytes ≡ bytes_len old.bytes →
    Wrote old (λ (names : List Symbol). stored_bytes reg (meant names value)) (record old { bytes = bytes; place = place })
stored old bytes place size reg value many room at meant_so long = record {
  long = long;
  writes = λ names written w.
      let new = stored_bytes reg (meant names value) in
      let count : length new ≡ reg_size reg = stored_length reg (meant names value) in
      let whole : length (written ++ new) ≡ length written + length new = length-append written new in
      let left : (bytes_len old.bytes - length written) - length new ≡ bytes_len bytes - length (written ++ new) = omega (arith, whole, long) in
      record {
        place = omega (arith, at, w.place, whole, count, many);
        within = omega (arith, whole, count, many, room, w.place, long);
        bytes = meant_so names
            ∙ ap (λ (bs : List Byte). overwritten bs old.place new) w.bytes
            ∙ ap (λ (n : ℕ). overwritten (written ++ zero_bytes (bytes_len old.bytes - length written)) n new) w.place
            ∙ over_zeros written new (bytes_len old.bytes - length written)
            ∙ ap (λ (n : ℕ). (written ++ new) ++ zero_bytes n) left;
      };
}

-- a pointer that is stored is an address
pub stored_from : (t : Bases) (old new : Bytes) (value : Scalar) → IsFrom t value → HoldsNoMore old value new → KeepsFrom t old new
stored_from t old new value from held h p z = by (held p z) where
  by : Holds old p ⊎ (value ≡ scalar.Pointer p) → IsBaseIn t p.base
  by (inl y) = h p y
  by (inr e) = subst (λ (v : Scalar). IsFrom t v) e from

pub same_keeps : (t : Bases) (old new : Bytes) → new ≡ old → KeepsFrom t old new
same_keeps t old new e h = subst (λ (b : Bytes). HoldsFrom t b) (sym e) h

-- a byte is stored as it is
pub byte_stored : (n c : ℕ) → n ≡ c → c < 2 ^ 8 → stored_bytes (Int 8) (Number n) ≡ map Plain (c ∷ [])
byte_stored n c e l =
    ap (λ (m : ℕ). stored_bytes (Int 8) (Number m)) e
    ∙ ap (λ (b : Bool). bits_stored (8 / 8) (if b then Some c else None)) (lt-ltb c (2 ^ 8) l)
    ∙ ap (λ (m : ℕ). Plain m ∷ []) (mod-eq_of_lt l)

-- ---- whole images

-- the parts that are left are to come behind what is written
pub record IsUnder (t : Bases) (f : Form) (v : Initial) (image : Image) (ps : List InitPart) : Type 0 where
  pub takes : TakesAll (reverse image.opens.items) ps
  pub long : bytes_len image.bytes ≡ size f
  pub writes : (names : List Symbol) → (written : List Byte) × (IsWritten names image written × (written ++ parts_bytes (value_in t names) (reverse image.opens.items) ps ≡ initial_bytes (value_in t names) f v))
  pub holds : HoldsFrom t image.bytes

-- the beginning leaves what is to come of the parts
pub begun_under : (t : Bases) (f : Form) (v : Initial) (head : InitHead) (ps : List InitPart) (old new : Image) → Fits f v → IsLaidOut f → (head, ps) ≡ flat_of v →
    old.place ≡ 0 → old.opens.items ≡ [] → bytes_len old.bytes ≡ size f → ((names : List Symbol) → bytes_meant names old.bytes ≡ zero_bytes (size f)) → HoldsNone old.bytes →
    Wrote old (λ (names : List Symbol). head_bytes (value_in t names) f head) new → KeepsFrom t old.bytes new.bytes → reverse new.opens.items ≡ opened_by f head (reverse old.opens.items) → IsUnder t f v new ps
begun_under t f v head ps old new fit laid flat at none long fresh empty wrote keeps opened = record {
  takes = subst (λ (os : List Open). TakesAll os ps) (sym opens) (subst (λ (xs : List InitPart). TakesAll (opened_by f (head_of v) []) xs) (sym same.1) (value_takes f v [] [] fit laid tt));
  long = wrote.long ∙ long;
  writes = λ names. (
    head_bytes (value_in t names) f head,
    (
      wrote.writes names [] (record {
        place = at;
        within = omega arith;
        bytes = fresh names ∙ ap (λ (n : ℕ). zero_bytes n) (omega (arith, long));
      }),
      ap (λ (os : List Open). head_bytes (value_in t names) f head ++ parts_bytes (value_in t names) os ps) opens
          ∙ ap (λ (h : InitHead). head_bytes (value_in t names) f h ++ parts_bytes (value_in t names) (opened_by f (head_of v) []) ps) same.0
          ∙ ap (λ (xs : List InitPart). head_bytes (value_in t names) f (head_of v) ++ parts_bytes (value_in t names) (opened_by f (head_of v) []) xs) same.1
          ∙ value_laid (value_in t names) f v [] []
          ∙ append-nil (initial_bytes (value_in t names) f v),
    ),
  );
  holds = keeps (λ p h. absurd (empty p h));
} where
  same : (head ≡ head_of v) × (ps ≡ parts_of v [])
  same = (ap (λ (x : InitHead × List InitPart). x.0) flat, ap (λ (x : InitHead × List InitPart). x.1) flat)

  opens : reverse new.opens.items ≡ opened_by f (head_of v) []
  opens = opened ∙ ap (λ (os : List Open). opened_by f head (reverse os)) none ∙ ap (λ (h : InitHead). opened_by f h []) same.0

-- there is room for the beginning, whatever its operand
pub head_room : (value : Operand → Value) (f : Form) (v : Initial) (head : InitHead) (ps : List InitPart) → Fits f v → IsLaidOut f → (head, ps) ≡ flat_of v → length (head_bytes value f head) ≤ size f
head_room value f v head ps fit laid flat =
    let same : head ≡ head_of v = ap (λ (x : InitHead × List InitPart). x.0) flat in
    let whole : length (head_bytes value f (head_of v) ++ parts_bytes value (opened_by f (head_of v) []) (parts_of v [])) ≡ size f =
    ap length (value_laid value f v [] [] ∙ append-nil (initial_bytes value f v)) ∙ initial_size value f v fit laid in
    omega (arith, ap (λ (h : InitHead). length (head_bytes value f h)) same, length-append (head_bytes value f (head_of v)) (parts_bytes value (opened_by f (head_of v) []) (parts_of v [])), whole)

module _ (t : Bases) (f : Form) (v : Initial) (fit : Fits f v) (laid : IsLaidOut f) where
  -- the next of the parts that are left
  pub under_next : (image : Image) (ps : List InitPart) (k : ℕ) (p : InitPart) → k < length ps → p ≡ get_or ps k p → IsUnder t f v image (drop k ps) → IsUnder t f v image (p ∷ drop (k + 1) ps)
  under_next image ps k p l e h =
      let one : suc k ≡ k + 1 = omega arith in
      subst (λ (xs : List InitPart). IsUnder t f v image xs)
      (drop-cons ps k p l ∙ ap (λ (x : InitPart). x ∷ drop (suc k) ps) (sym e) ∙ ap (λ (j : ℕ). p ∷ drop j ps) one) h

  -- there is room for the next part
  pub part_room : (image : Image) (p : InitPart) (ps : List InitPart) → IsUnder t f v image (p ∷ ps) → image.place + length (part_bytes (value_in t []) (reverse image.opens.items) p) ≤ bytes_len image.bytes
  part_room image p ps h =
      let w = h.writes [] in
      let value = value_in t [] in
      let opens = reverse image.opens.items in
      let rest = parts_bytes value (open_behind opens p) ps in
      let whole : length (w.0 ++ (part_bytes value opens p ++ rest)) ≡ size f = ap length w.1.1 ∙ initial_size value f v fit laid in
      omega (arith, whole, length-append w.0 (part_bytes value opens p ++ rest), length-append (part_bytes value opens p) rest, w.1.0.place, h.long)

  pub part_under : (old new : Image) (p : InitPart) (ps : List InitPart) → IsUnder t f v old (p ∷ ps) →
      Wrote old (λ (names : List Symbol). part_bytes (value_in t names) (reverse old.opens.items) p) new → KeepsFrom t old.bytes new.bytes → reverse new.opens.items ≡ open_behind (reverse old.opens.items) p → IsUnder t f v new ps
  part_under old new p ps h wrote keeps opened = record {
    takes = subst (λ (os : List Open). TakesAll os ps) (sym opened) h.takes.1;
    long = wrote.long ∙ h.long;
    writes = λ names.
        let w = h.writes names in
        let value = value_in t names in
        let opens = reverse old.opens.items in (
          w.0 ++ part_bytes value opens p,
          (
            wrote.writes names w.0 w.1.0,
            ap (λ (os : List Open). (w.0 ++ part_bytes value opens p) ++ parts_bytes value os ps) opened
                ∙ append_assoc w.0 (part_bytes value opens p) (parts_bytes value (open_behind opens p) ps)
                ∙ w.1.1,
          ),
        );
    holds = keeps h.holds;
  }

  -- where no part is left, all is written
  pub all_under : (image : Image) → IsUnder t f v image [] → (names : List Symbol) → bytes_meant names image.bytes ≡ initial_bytes (value_in t names) f v
  all_under image h names =
      let w = h.writes names in
      let same : w.0 ≡ initial_bytes (value_in t names) f v = sym (append-nil w.0) ∙ w.1.1 in
      let full : bytes_len image.bytes - length w.0 ≡ 0 = omega (arith, ap length same, initial_size (value_in t names) f v fit laid, h.long) in
      w.1.0.bytes ∙ ap (λ (n : ℕ). w.0 ++ zero_bytes n) full ∙ append-nil w.0 ∙ same
