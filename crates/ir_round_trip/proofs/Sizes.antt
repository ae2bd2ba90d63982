-- The extent of a printed shape is its size and its alignment (LangRef, "Data Layout").
use Rattle.std.proofs.Common.{◌≡◌, ℕ, ◌+◌, ◌*◌, ◌/◌, ◌≤◌, max, Bool, true, false, refl, sym, ap, subst, ◌∙◌, arith, inl, inr, mul_left_comm}
use Rattle.ir_parse_operands.specs.Extents as read
use Rattle.ir_parse_operands.specs.Extents.{wider, bytes, extent, extent_of, members_extent, no_bytes, grown, padded, align_by}
use Rattle.ir_parse_operands.specs.declared.extents.Align.{Align}
use Rattle.ir_parse_operands.specs.declared.extents.Align.TheVariants.{One, Two, Four, Eight}
use Rattle.ir_parse_operands.specs.declared.extents.Extent.{Extent}
use Rattle.ir_tree.specs.Formed.{IsStored, AreStored, AllStored}
use Rattle.ir_tree.specs.Forms.{Form, Forms, int, pointer, array, structure, no_parts, part}
use Rattle.ir_tree.proofs.Layouts.{max_widest}
use Rattle.ir_tree.specs.Layout.{rounded, align, widest, size, ends}
use Rattle.ir_round_trip.specs.PartsPrinted.{written_shape, written_parts}

-- ---- alignments in bytes

pub wider_is : (a b : Align) → bytes (wider a b) 1 ≡ max (bytes a 1) (bytes b 1)
wider_is One One = refl
wider_is One Two = refl
wider_is One Four = refl
wider_is One Eight = refl
wider_is Two One = refl
wider_is Two Two = refl
wider_is Two Four = refl
wider_is Two Eight = refl
wider_is Four One = refl
wider_is Four Two = refl
wider_is Four Four = refl
wider_is Four Eight = refl
wider_is Eight One = refl
wider_is Eight Two = refl
wider_is Eight Four = refl
wider_is Eight Eight = refl

rounded_by : (a : Align) (n : ℕ) → read.rounded a n ≡ rounded n (bytes a 1)
rounded_by One n = omega arith
rounded_by Two n = refl
rounded_by Four n = refl
rounded_by Eight n = refl

some_bytes : (a : Align) → 1 ≤ bytes a 1
some_bytes One = omega arith
some_bytes Two = omega arith
some_bytes Four = omega arith
some_bytes Eight = omega arith

-- ---- extents

int_align : (w : ℕ) → IsStored w → bytes (align_by w) 1 ≡ w / 8
int_align w (inl e) = subst (λ n. bytes (align_by n) 1 ≡ n / 8) (sym e) refl
int_align w (inr (inl e)) = subst (λ n. bytes (align_by n) 1 ≡ n / 8) (sym e) refl
int_align w (inr (inr (inl e))) = subst (λ n. bytes (align_by n) 1 ≡ n / 8) (sym e) refl
int_align w (inr (inr (inr e))) = subst (λ n. bytes (align_by n) 1 ≡ n / 8) (sym e) refl

packed_align : (s : Extent) (fs : Forms) → (members_extent true s (written_parts fs)).align ≡ s.align
packed_align s no_parts = refl
packed_align s (part f fs) = packed_align (grown true s (extent_of (written_shape f))) fs ∙ narrow s.align
  where
    narrow : (a : Align) → wider a One ≡ a
    narrow One = refl
    narrow Two = refl
    narrow Four = refl
    narrow Eight = refl

mutual
  pub same_align : (f : Form) → AreStored f → bytes (extent_of (written_shape f)).align 1 ≡ align f
  same_align (int w) h = int_align w h
  same_align pointer h = refl
  same_align (array n of) h = same_align of h
  same_align (structure true parts) h = ap (λ (a : Align). bytes a 1) (packed_align no_bytes parts)
  same_align (structure false parts) h = same_widest no_bytes parts h ∙ max_widest parts

  pub same_widest : (s : Extent) (fs : Forms) → AllStored fs → bytes (members_extent false s (written_parts fs)).align 1 ≡ max (bytes s.align 1) (widest fs)
  same_widest s no_parts h = omega (arith, some_bytes s.align)
  same_widest s (part f fs) h =
      same_widest (grown false s (extent_of (written_shape f))) fs h.1
      ∙ ap (λ (n : ℕ). max n (widest fs)) (wider_is s.align (extent_of (written_shape f)).align ∙ ap (λ (n : ℕ). max (bytes s.align 1) n) (same_align f h.0))
      ∙ omega arith

mutual
  pub same_size : (f : Form) → AreStored f → (extent_of (written_shape f)).size ≡ size f
  same_size (int w) h = int_align w h
  same_size pointer h = refl
  same_size (array n of) h = ap (λ (z : ℕ). n * z) (same_size of h)
  same_size (structure true parts) h =
      ap (λ (a : Align). read.rounded a (members_extent true no_bytes (written_parts parts)).size) (packed_align no_bytes parts) ∙ same_ends true no_bytes parts h
  same_size (structure false parts) h =
      rounded_by (members_extent false no_bytes (written_parts parts)).align (members_extent false no_bytes (written_parts parts)).size
      ∙ ap (λ (n : ℕ). rounded n (bytes (members_extent false no_bytes (written_parts parts)).align 1)) (same_ends false no_bytes parts h)
      ∙ ap (rounded (ends false 0 parts)) (same_align (structure false parts) h)

  pub same_ends : (packed : Bool) (s : Extent) (fs : Forms) → AllStored fs → (members_extent packed s (written_parts fs)).size ≡ ends packed s.size fs
  same_ends packed s no_parts h = refl
  same_ends true s (part f fs) h = same_ends true (grown true s (extent_of (written_shape f))) fs h.1 ∙ ap (λ (z : ℕ). ends true (s.size + z) fs) (same_size f h.0)
  same_ends false s (part f fs) h =
      same_ends false (grown false s (extent_of (written_shape f))) fs h.1
      ∙ ap (λ (n : ℕ). ends false (n + (extent_of (written_shape f)).size) fs) (rounded_by (extent_of (written_shape f)).align s.size ∙ ap (rounded s.size) (same_align f h.0))
      ∙ ap (λ (z : ℕ). ends false (rounded s.size (align f) + z) fs) (same_size f h.0)

-- ---- sizes are multiples of alignments

-- so many times an alignment
pub record IsMultiple (e : Extent) : Type 0 where
  pub times : ℕ
  pub whole : e.size ≡ bytes e.align times

pub multiplied : (a : Align) (n q : ℕ) → n * bytes a q ≡ bytes a (n * q)
multiplied One n q = refl
multiplied Two n q = mul_left_comm n 2 q
multiplied Four n q = mul_left_comm n 4 q
multiplied Eight n q = mul_left_comm n 8 q

rounded_multiple : (s : Extent) → IsMultiple (padded s)
rounded_multiple s = by_align s.align
  where
    by_align : (a : Align) → IsMultiple (extent (read.rounded a s.size) a)
    by_align One = record { times = s.size; whole = refl }
    by_align Two = record { times = (s.size + 1) / 2; whole = omega arith }
    by_align Four = record { times = (s.size + 3) / 4; whole = omega arith }
    by_align Eight = record { times = (s.size + 7) / 8; whole = omega arith }

pub is_multiple : (f : Form) → IsMultiple (extent_of (written_shape f))
is_multiple (int w) = record { times = 1; whole = refl }
is_multiple pointer = record { times = 1; whole = refl }
is_multiple (array n of) =
    let m = is_multiple of in
    record { times = n * m.times; whole = ap (λ (z : ℕ). n * z) m.whole ∙ multiplied (extent_of (written_shape of)).align n m.times }
is_multiple (structure packed parts) = rounded_multiple (members_extent packed no_bytes (written_parts parts))
