-- How many bytes a shape has, how it is aligned and how deep it nests, from what is written and what is known of type names, and
-- without spelling it out (LangRef, "Data Layout").
use Rattle.std.specs.Prelude.{◌≡◌, ℕ, ◌+◌, ◌*◌, ◌/◌, ◌≤◌, ◌^◌, max, nat_le, nat_lt, Bool, ◌&&◌, if◌then◌else◌, List, [], ◌∷◌, length, slice_index_or, Option, None, Some, Result, Ok, Err}
use Rattle.std.specs.Borrow.{Bor}
use Rattle.ir_lex.specs.Tok.{Tok}
use Rattle.ir_parse_parts.specs.Shapes.{Written, int, pointer, array, structure, named, WrittenParts, no_parts, part}
use Rattle.ir_tree.specs.Formed.{nesting}
use Rattle.ir_tree.specs.Forms.{Form}
use Rattle.ir_tree.specs.Layout as layout
use Rattle.ir_tree.specs.Layout.{rounded, IsLaidOut}
use Rattle.ir_parse_names.specs.declared.fault.Fault.{Fault}
use Rattle.ir_parse_names.specs.Keys.{key_of}
use Rattle.ir_parse_names.specs.Locals.{unknown}
use Rattle.ir_parse_names.specs.Resolving.{◌>>=◌}
use Rattle.ir_parse_names.specs.Stages.{Passes, passes}
use Rattle.ir_parse_names.specs.TypeNames.{place_of}
use Rattle.ir_parse_names.specs.Types.{Types, shape_at, head_from, chased, is_width, limit, expand}
use Rattle.ir_parse_sizes.specs.declared.measure.Measure.{Measure}
use Rattle.ir_parse_sizes.specs.declared.weigh.Known.{Known}

-- m says this of a shape that is spelled out
pub record Fits (m : Measure) (f : Form) : Type 0 where
  pub size : layout.size f ≡ m.size
  pub align : layout.align f ≡ m.align
  pub levels : nesting f ≡ m.levels
  pub laid : IsLaidOut f

abbrev pub AllFit : List Measure → List Form → Type 0
AllFit [] [] = Unit {0}
AllFit [] (f ∷ fs) = ⊥
AllFit (m ∷ ms) [] = ⊥
AllFit (m ∷ ms) (f ∷ fs) = Fits m f × AllFit ms fs

-- ---- of what is written

abbrev pub measure : ℕ → ℕ → ℕ → Measure
measure size align levels = record { size = size; align = align; levels = levels }

-- a shape past the limits is a fault on this line
abbrev pub within : ℕ → Measure → Result Measure Fault
within line m = if nat_le m.size (2 ^ 31) && nat_le m.levels 32 then Ok m else Err (limit line)

abbrev pub scalar : ℕ → ℕ → Result Measure Fault
scalar line w = if is_width w then Ok (measure (w / 8) (w / 8) 0) else Err (limit line)

abbrev pub array_of : ℕ → ℕ → Measure → Result Measure Fault
array_of line count m = within line (measure (count * m.size) m.align (m.levels + 1))

-- whether so many of it are within the limits
abbrev pub many_fit : ℕ → ℕ → Measure → Passes
many_fit line count m = passes (array_of line count m)

abbrev pub begins : Bool → ℕ → Measure → ℕ
begins packed place m = if packed then place else rounded place m.align

-- the end of the parts, of which the first may begin at a place
abbrev pub ends : Bool → ℕ → List Measure → ℕ
ends packed place [] = place
ends packed place (m ∷ ms) = ends packed (begins packed place m + m.size) ms

abbrev pub widest : List Measure → ℕ
widest [] = 1
widest (m ∷ ms) = max m.align (widest ms)

abbrev pub deepest_of : List Measure → ℕ
deepest_of [] = 0
deepest_of (m ∷ ms) = max m.levels (deepest_of ms)

abbrev pub struct_size : Bool → List Measure → ℕ
struct_size packed ms = if packed then ends packed 0 ms else rounded (ends packed 0 ms) (widest ms)

abbrev pub struct_align : Bool → List Measure → ℕ
struct_align packed ms = if packed then 1 else widest ms

abbrev pub structure_of : ℕ → Bool → List Measure → Result Measure Fault
structure_of line packed ms = within line (measure (struct_size packed ms) (struct_align packed ms) (deepest_of ms + 1))

-- ---- by what is known of type names

abbrev pub or_limit : ℕ → Option Measure → Result Measure Fault
or_limit line None = Err (limit line)
or_limit line (Some m) = Ok m

-- what a name on a line stands for
abbrev pub known_as : ℕ → ℕ → Option Known → Result Measure Fault
known_as line name_line None = Err (unknown name_line)
known_as line name_line (Some k) = or_limit line k.measure

abbrev pub known_at : List (Option Known) → Option ℕ → Option Known
known_at ks None = None
known_at ks (Some p) = slice_index_or ks p None

abbrev mutual
  pub weigh : Types → List (Option Known) → ℕ → Written → Result Measure Fault
  weigh types ks line (int w) = scalar line w
  weigh types ks line pointer = Ok (measure 8 8 0)
  weigh types ks line (array count of) = weigh types ks line of >>= array_of line count
  weigh types ks line (structure packed parts) = weigh_all types ks line parts >>= structure_of line packed
  weigh types ks line (named name) = known_as line name.line (known_at ks (place_of types (key_of name)))

  pub weigh_all : Types → List (Option Known) → ℕ → WrittenParts → Result (List Measure) Fault
  weigh_all types ks line no_parts = Ok []
  weigh_all types ks line (part s more) = weigh types ks line s >>= λ m. weigh_all types ks line more >>= λ ms. Ok (m ∷ ms)

-- ---- what is known

-- the shape as its names expand with so many levels left, if it has at most so many
abbrev pub told : Form → ℕ → ℕ → Result Form Fault
told f n line = if nat_le (nesting f) n then Ok f else Err (limit line)

-- a shape expands to one of this measure, and without one it is past a limit
abbrev pub IsMeasured : Types → Written → Option Measure → Type 0
IsMeasured types s None = (n line : ℕ) → n ≤ 32 → expand n types line s ≡ Err (limit line)
IsMeasured types s (Some m) = (f : Form) × Fits m f × ((n line : ℕ) → n ≤ 32 → expand n types line s ≡ told f n line)

-- the definition at a place leads by so many names to a shape of this measure
pub record IsKnown (types : Types) (p : ℕ) (k : Known) : Type 0 where
  pub head : Written
  pub leads : chased k.names types 0 (shape_at types p) ≡ Ok head
  pub few : k.names ≤ length types
  pub measured : IsMeasured types head k.measure

abbrev pub IsKnownIf : Types → ℕ → Option Known → Type 0
IsKnownIf types p None = Unit {0}
IsKnownIf types p (Some k) = IsKnown types p k

abbrev pub AreKnown : Types → List (Option Known) → Type 0
AreKnown types ks = (p : ℕ) → IsKnownIf types p (slice_index_or ks p None)

-- the definition of a name, by what its own definition leads to
abbrev pub chained : ℕ → Option Known → Option Known
chained most None = None
chained most (Some k) = if nat_lt k.names most then Some (record { names = k.names + 1; measure = k.measure }) else None

-- the name that a shape is, and none of one that is its own head
abbrev pub MatchesName : Option (Bor Tok) → Written → Type 0
MatchesName None s = (n : ℕ) (types : Types) → head_from n types s ≡ Ok s
MatchesName (Some name) s = s ≡ named name.now

-- ---- in bounds

pub record IsSmall (m : Measure) : Type 0 where
  pub size : m.size ≤ 2 ^ 31
  pub least : 1 ≤ m.align
  pub most : m.align ≤ 8
  pub levels : m.levels ≤ 32

abbrev pub AreSmall : List Measure → Type 0
AreSmall [] = Unit {0}
AreSmall (m ∷ ms) = IsSmall m × AreSmall ms

abbrev pub IsSmallIf : Option Measure → Type 0
IsSmallIf None = Unit {0}
IsSmallIf (Some m) = IsSmall m

abbrev pub IsKnownSmall : Option Known → Type 0
IsKnownSmall None = Unit {0}
IsKnownSmall (Some k) = IsSmallIf k.measure

abbrev pub AreKnownSmall : List (Option Known) → Type 0
AreKnownSmall ks = (p : ℕ) → IsKnownSmall (slice_index_or ks p None)
