-- Sizes and alignments of shapes, as on x86-64, and the room that is left for a shape (LangRef, "Data Layout"). A type
-- name takes no bytes here: what it stands for isn't known yet.
use Rattle.std.specs.Prelude.{ℕ, zero, suc, ◌+◌, ◌-◌, ◌*◌, ◌/◌, ◌≤◌, nat_eq, nat_le, Bool, true, false, ◌&&◌, if◌then◌else◌}
use Rattle.ir_parse_operands.specs.declared.extents.Align.{Align}
use Rattle.ir_parse_operands.specs.declared.extents.Align.TheVariants.{One, Two, Four, Eight}
use Rattle.ir_parse_operands.specs.declared.extents.Extent.{Extent}
use Rattle.ir_parse_operands.specs.declared.extents.Room.{Room}
use Rattle.ir_parse_parts.specs.Shapes.{Written, int, pointer, array, structure, named, WrittenParts, no_parts, part}

-- the greater of two alignments
abbrev pub wider : Align → Align → Align
wider One b = b
wider Two One = Two
wider Two b = b
wider Four Eight = Eight
wider Four b = Four
wider Eight b = Eight

-- multiples of an alignment, in bytes
abbrev pub bytes : Align → ℕ → ℕ
bytes One n = n
bytes Two n = 2 * n
bytes Four n = 4 * n
bytes Eight n = 8 * n

-- the least multiple from a place on
abbrev pub rounded : Align → ℕ → ℕ
rounded One n = n
rounded Two n = (n + 1) / 2 * 2
rounded Four n = (n + 3) / 4 * 4
rounded Eight n = (n + 7) / 8 * 8

-- how many multiples are no greater, 0 among them
abbrev pub multiples : Align → ℕ → ℕ
multiples One n = n + 1
multiples Two n = n / 2 + 1
multiples Four n = n / 4 + 1
multiples Eight n = n / 8 + 1

-- ---- extents

abbrev pub extent : ℕ → Align → Extent
extent size align = record { size = size; align = align }

abbrev pub no_bytes : Extent
no_bytes = extent 0 One

-- the alignment of iN
abbrev pub align_by : ℕ → Align
align_by width = if nat_le width 8 then One else (if nat_le width 16 then Two else (if nat_le width 32 then Four else Eight))

abbrev pub scalar_extent : Align → Extent
scalar_extent a = extent (bytes a 1) a

-- a member of a packed structure may stand anywhere
abbrev pub placed : Bool → Align → Align
placed packed a = if packed then One else a

-- members, and one more behind them
abbrev pub grown : Bool → Extent → Extent → Extent
grown packed s e = extent (rounded (placed packed e.align) s.size + e.size) (wider s.align (placed packed e.align))

-- members, and the padding behind them
abbrev pub padded : Extent → Extent
padded s = extent (rounded s.align s.size) s.align

abbrev mutual
  pub extent_of : Written → Extent
  extent_of (int w) = scalar_extent (align_by w)
  extent_of pointer = scalar_extent Eight
  extent_of (array n of) = extent (n * (extent_of of).size) (extent_of of).align
  extent_of (structure packed parts) = padded (members_extent packed no_bytes parts)
  extent_of (named name) = no_bytes

  -- these members behind others
  pub members_extent : Bool → Extent → WrittenParts → Extent
  members_extent packed s no_parts = s
  members_extent packed s (part p more) = members_extent packed (grown packed s (extent_of p)) more

-- ---- levels of arrays and structures, where a type name is none

abbrev mutual
  -- at most so many
  pub nests_within : ℕ → Written → Bool
  nests_within n (int w) = true
  nests_within n pointer = true
  nests_within zero (array count of) = false
  nests_within (suc n) (array count of) = nests_within n of
  nests_within zero (structure packed parts) = false
  nests_within (suc n) (structure packed parts) = all_nest_within n parts
  nests_within n (named name) = true

  pub all_nest_within : ℕ → WrittenParts → Bool
  all_nest_within n no_parts = true
  all_nest_within n (part p more) = nests_within n p && all_nest_within n more

-- ---- room: for each alignment, how many sizes a shape of this alignment may have, which are multiples of it from 0 on

abbrev pub room_for : Room → Align → ℕ
room_for room One = room.one
room_for room Two = room.two
room_for room Four = room.four
room_for room Eight = room.eight

abbrev pub room_by : (Align → ℕ) → Room
room_by f = record { one = f One; two = f Two; four = f Four; eight = f Eight }

-- 2^31 bytes
abbrev pub whole : Room
whole = room_by (λ a. multiples a 2147483648)

-- for each of so many elements
abbrev pub share : ℕ → ℕ → Align → ℕ
share n room a = if nat_eq room 0 then 0 else (if nat_eq n 0 then multiples a 2147483648 else (room - 1) / n + 1)

abbrev pub shared : ℕ → Room → Room
shared n room = room_by (λ a. share n (room_for room a) a)

-- from a place to an end
abbrev pub between : Align → ℕ → ℕ → ℕ
between a place end = if nat_le place end then multiples a (end - place) else 0

abbrev pub behind : ℕ → Align → ℕ → Align → ℕ
behind room m place a = if nat_eq room 0 then 0 else between a place (bytes m (room - 1))

-- for a member behind others
abbrev pub left_for : Bool → Room → Extent → Align → ℕ
left_for packed room s a = behind (room_for room (wider s.align (placed packed a))) (wider s.align (placed packed a)) (rounded (placed packed a) s.size) a

abbrev pub left : Bool → Room → Extent → Room
left packed room s = room_by (left_for packed room s)

-- a shape of this extent has room
abbrev pub Fits : Room → Extent → Type 0
Fits room e = e.size + bytes e.align 1 ≤ bytes e.align (room_for room e.align)

-- room within 2^31 bytes, where there is some for no bytes
pub record IsRoom (room : Room) : Type 0 where
  pub some : 1 ≤ room.one
  pub one : room.one ≤ 2147483649
  pub two : room.two ≤ 1073741825
  pub four : room.four ≤ 536870913
  pub eight : room.eight ≤ 268435457
