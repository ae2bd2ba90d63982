-- A printed shape expands to itself, and one step over bytes to its offset.
use Rattle.std.proofs.Common.{◌≡◌, ℕ, zero, suc, ◌+◌, ◌*◌, ◌%◌, ◌^◌, ◌≤◌, ◌<◌, max, inl, Bool, true, false, cond, ◌&&◌, nat_le, Ok, Err, List, [], ◌∷◌, length, refl, ap, ◌∙◌, arith}
use Rattle.ir_parse_names.specs.Addresses.{extended, offset_of, level_offset, offset_behind}
use Rattle.ir_parse_names.specs.Resolving.{◌>>=◌, each}
use Rattle.ir_parse_names.specs.Types.{Types, head_from, head_of, scalar, limit, within, opened, without_parts, expand, expanded}
use Rattle.ir_parse_parts.specs.Shapes as w
use Rattle.ir_parse_parts.specs.Shapes.{list_of as written_list}
use Rattle.ir_parse_parts.specs.declared.address.Index.{Index}
use Rattle.ir_parse_parts.specs.declared.address.Level.{Level}
use Rattle.ir_parse_parts.specs.declared.address.Steps.{Steps}
use Rattle.ir_parse_parts.specs.declared.shape.Typed.{Typed}
use Rattle.ir_tree.specs.Formed.{AreStored, AllStored, nesting, deepest, IsShape}
use Rattle.ir_tree.specs.Forms.{Form, Forms, int, pointer, array, structure, no_parts, part, forms_of, list_of}
use Rattle.ir_tree.specs.Layout.{size, IsLaidOut, AreLaidOut}
use Rattle.ir_round_trip.specs.PartsPrinted.{written_shape, written_parts, IsDisplaced}
use Rattle.ir_round_trip.proofs.Binds.{bound}

-- ---- shapes

head_again : (n : ℕ) (types : Types) (f : Form) → head_from n types (written_shape f) ≡ Ok (written_shape f)
head_again n types (int v) = refl
head_again n types pointer = refl
head_again n types (array count of) = refl
head_again n types (structure packed parts) = refl

begins_again : (types : Types) (f : Form) → head_of types (written_shape f) ≡ Ok (written_shape f)
unfolding head_of
begins_again types f = head_again (length types + 1) types f

at_most : (n m : ℕ) → n ≤ m → nat_le n m ≡ true
at_most n m h = grind arith

within_again : (line : ℕ) (f : Form) → size f ≤ 2 ^ 31 → within line f ≡ Ok f
within_again line f h = ap (λ (b : Bool). cond b (Ok f) (Err (limit line))) (at_most (size f) (2 ^ 31) h)

scalar_again : (line v : ℕ) → 8 ≤ v → v ≤ 64 → scalar line v ≡ Ok (int v)
scalar_again line v low high = ap (λ (b : Bool). cond b (Ok (int v)) (Err (limit line))) (both (nat_le 8 v) (nat_le v 64) (at_most 8 v low) (at_most v 64 high))
  where
    both : (a b : Bool) → a ≡ true → b ≡ true → a && b ≡ true
    both true b d e = e
    both false b d e = absurd cc

forms_again : (fs : Forms) → forms_of (list_of fs) ≡ fs
forms_again no_parts = refl
forms_again (part f fs) = ap (part f) (forms_again fs)

mutual
  expands_again : (n line : ℕ) (types : Types) (f : Form) → AreStored f → nesting f ≤ n → IsLaidOut f → expand n types line (written_shape f) ≡ Ok f
  expands_again zero line types (int v) s le h = bound (without_parts line) (begins_again types (int v)) (scalar_again line v h.0 h.1)
  expands_again zero line types pointer s le h = bound (without_parts line) (begins_again types pointer) refl
  expands_again zero line types (array count of) s le h = absurd (omega (arith, le))
  expands_again zero line types (structure packed parts) s le h = absurd (omega (arith, le))
  expands_again (suc n) line types (int v) s le h = bound (opened (expand n types line) line) (begins_again types (int v)) (scalar_again line v h.0 h.1)
  expands_again (suc n) line types pointer s le h = bound (opened (expand n types line) line) (begins_again types pointer) refl
  expands_again (suc n) line types (array count of) s le h =
      bound (opened (expand n types line) line) (begins_again types (array count of))
      (bound (λ f. within line (array count f)) (expands_again n line types of s (omega (arith, le)) h.1) (within_again line (array count of) h.0))
  expands_again (suc n) line types (structure packed parts) s le h =
      bound (opened (expand n types line) line) (begins_again types (structure packed parts))
      (bound (λ fs. within line (structure packed (forms_of fs))) (all_again n line types parts s (omega (arith, le)) h.1)
      (ap (λ (fs : Forms). within line (structure packed fs)) (forms_again parts) ∙ within_again line (structure packed parts) h.0))

  all_again : (n line : ℕ) (types : Types) (fs : Forms) → AllStored fs → deepest fs ≤ n → AreLaidOut fs → each (expand n types line) (written_list (written_parts fs)) ≡ Ok (list_of fs)
  all_again n line types no_parts s le h = refl
  all_again n line types (part f fs) s le h =
      bound (λ y. each (expand n types line) (written_list (written_parts fs)) >>= λ ys. Ok (y ∷ ys)) (expands_again n line types f s.0 (left (nesting f) (deepest fs) n le) h.0)
      (bound (λ ys. Ok (f ∷ ys)) (all_again n line types fs s.1 (right (nesting f) (deepest fs) n le) h.1) refl)
    where
      left : (a b n : ℕ) → max a b ≤ n → a ≤ n
      left a b n h = omega (arith, h)

      right : (a b n : ℕ) → max a b ≤ n → b ≤ n
      right a b n h = omega (arith, h)

pub shape_again : (types : Types) (typed : Typed) (f : Form) → IsShape f → typed.shape ≡ written_shape f → expanded types typed ≡ Ok f
unfolding expanded
shape_again types typed f h e = ap (expand 32 types typed.line) e ∙ expands_again 32 typed.line types f h.stored h.nested h.sized

-- ---- addresses

byte : IsShape (int 8)
byte = record { stored = inl refl; nested = omega arith; sized = (omega arith, omega arith) }

index_again : (i : Index) (offset : ℕ) → i.width ≡ 64 → i.bits ≡ offset → offset < 2 ^ 64 → offset_of (int 8) (i ∷ []) ≡ Ok offset
index_again i offset e f lt =
    ap (λ (v : ℕ). Ok (((extended v i.bits * 1) % 2 ^ 64 + 0) % 2 ^ 64)) e
    ∙ ap (λ (b : ℕ). Ok (((b * 1) % 2 ^ 64 + 0) % 2 ^ 64)) f
    ∙ ap (λ (m : ℕ). Ok m) (small offset lt)
  where
    small : (m : ℕ) → m < 2 ^ 64 → ((m * 1) % 2 ^ 64 + 0) % 2 ^ 64 ≡ m
    small m lt = omega (arith, lt)

level_again : (types : Types) (l : Level) (i : Index) (offset : ℕ) → l.typed.shape ≡ w.int 8 → l.indices ≡ i ∷ [] → i.width ≡ 64 → i.bits ≡ offset → offset < 2 ^ 64 → level_offset types l ≡ Ok offset
unfolding level_offset
level_again types l i offset over one e f lt = bound (λ f. offset_of f l.indices) (shape_again types l.typed (int 8) byte over) (ap (offset_of (int 8)) one ∙ index_again i offset e f lt)

pub offset_again : (types : Types) (name : List ℕ) (offset : ℕ) (steps : Steps) → offset < 2 ^ 64 → IsDisplaced name offset steps → offset_behind 0 types steps.levels ≡ Ok offset
offset_again types name offset steps lt d =
    ap (offset_behind 0 types) d.one_level
    ∙ bound (λ m. offset_behind ((0 + m) % 2 ^ 64) types []) (level_again types d.level d.index offset d.over_bytes d.one_index d.width d.bits lt) (ap (λ (m : ℕ). Ok m) (small offset lt))
  where
    small : (m : ℕ) → m < 2 ^ 64 → (0 + m) % 2 ^ 64 ≡ m
    small m lt = omega (arith, lt)
