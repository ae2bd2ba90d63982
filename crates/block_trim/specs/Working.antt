-- Blocks while they are joined.
use Rattle.std.specs.Prelude.{◌≡◌, ◌≢◌, ℕ, ◌<◌, ◌≤◌, nat_eq, Bool, false, ◌&&◌, ◌||◌, not, is_some, if◌then◌else◌, List, [], ◌∷◌, ◌++◌, length, map, slice_get, Option, Some, None}
use Rattle.std.specs.HashMap as hash_map
use Rattle.std.specs.HashSet as hash_set
use Rattle.ir_tree.specs.Flow.{leading}
use Rattle.ir_tree.specs.Rules.{place}
use Rattle.ir_tree.specs.declared.block.Block.{Block}
use Rattle.ir_tree.specs.declared.block.Terminator.{Terminator}
use Rattle.ir_tree.specs.declared.block.Terminator.TheVariants.{Jump}
use Rattle.ir_tree.specs.declared.function.Function.{Function}
use Rattle.block_trim.specs.Merged.{IsOneOf, Joins, behind_entry, phi_named, renamed}
use Rattle.block_trim.specs.declared.joining.Content.{Content}
use Rattle.block_trim.specs.declared.joining.Join.{Join}
use Rattle.block_trim.specs.declared.joining.Joining.{Joining}
use Rattle.block_trim.specs.declared.names.Names.{Names}

-- ---- names

-- the name of a block after these joins
abbrev pub naming : List Join → ℕ → ℕ
naming [] n = n
naming (j ∷ js) n = naming js (renamed j.second j.first n)

abbrev pub or_number : ℕ → Option ℕ → ℕ
or_number n None = n
or_number n (Some m) = m

abbrev pub name_in : Names → ℕ → ℕ
name_in t n = or_number n (hash_map.get nat_eq t.table n)

-- ---- contents

-- what a block that is left has behind its phis
abbrev pub left : Joining → ℕ → Option Content
left j n = hash_map.get nat_eq j.contents n

abbrev pub block_of : (ℕ → ℕ) → Block → Content → Block
block_of name b c = record { number = b.number; phis = map (phi_named name) b.phis; lines = c.lines; end = c.end }

abbrev pub with_block : (ℕ → ℕ) → Block → Option Content → List Block → List Block
with_block name b None bs = bs
with_block name b (Some c) bs = block_of name b c ∷ bs

-- the blocks that are left
abbrev pub blocks_of : (ℕ → ℕ) → (ℕ → Option Content) → List Block → List Block
blocks_of name contents [] = []
blocks_of name contents (b ∷ bs) = with_block name b (contents b.number) (blocks_of name contents bs)

abbrev pub without : ℕ → (ℕ → Option Content) → ℕ → Option Content
without m contents n = if nat_eq m n then None else contents n

-- the same, where a content goes as it is found
abbrev pub blocks_taken : (ℕ → ℕ) → (ℕ → Option Content) → List Block → List Block
blocks_taken name contents [] = []
blocks_taken name contents (b ∷ bs) = with_block name b (contents b.number) (blocks_taken name (without b.number contents) bs)

abbrev pub IsNumber : List Block → ℕ → Type 0
IsNumber bs n = (b : Block) × IsOneOf bs b × (b.number ≡ n)

abbrev pub IsContentOf : Block → Content → Type 0
IsContentOf b c = (c.lines ≡ b.lines) × (c.end ≡ b.end)

-- the first blocks, so many of these, have their own contents, and nothing else has any
pub record HasContents (count : ℕ) (bs : List Block) (contents : ℕ → Option Content) : Type 0 where
  pub each : (i : ℕ) (b : Block) → i < count → slice_get bs i ≡ Some b → (c : Content) × (contents b.number ≡ Some c) × IsContentOf b c
  pub known : (n : ℕ) (c : Content) → contents n ≡ Some c → IsNumber bs n

-- ---- what may be joined

-- one of these blocks has the number, no phis, and one edge by the test
abbrev pub may_go : (ℕ → Bool) → List Block → ℕ → Bool
may_go one [] n = false
may_go one (b ∷ bs) n = (nat_eq b.number n && (nat_eq (length b.phis) 0 && one b.number)) || may_go one bs n

abbrev pub has_one_edge : List Block → ℕ → Bool
has_one_edge bs n = nat_eq (length (leading n 0 bs)) 1

-- a block that is left has the number, and may go into the block m
abbrev pub can_go : Joining → ℕ → ℕ → Bool
can_go j m n = (not (nat_eq n m) && hash_set.contains nat_eq j.candidates n) && is_some (left j n)

abbrev pub target_if : (ℕ → Bool) → Terminator → Option ℕ
target_if test (Jump target) = if test target then Some target else None
target_if test _ = None

abbrev pub next_of : (ℕ → Bool) → Option Content → Option ℕ
next_of test None = None
next_of test (Some c) = target_if test c.end

-- the block that goes into the block n
abbrev pub next : Joining → ℕ → Option ℕ
next j n = next_of (can_go j n) (left j n)

-- nothing goes into a block before that of the number n
abbrev pub IsTurnOf : Function → Joining → ℕ → Type 0
IsTurnOf f j n = (i : ℕ) (b : Block) → i < place f.blocks n → slice_get f.blocks i ≡ Some b → next j b.number ≡ None

-- ---- one join

-- a block has the second content behind the first, and the others have theirs
pub record IsGrown {S : Type 0} (old new : hash_map.HashMap ℕ Content S) (number : ℕ) (a b : Content) : Type 0 where
  pub content : Content
  pub lines : content.lines ≡ a.lines ++ b.lines
  pub end : content.end ≡ b.end
  pub as_many : hash_map.hash_map_len new ≤ hash_map.hash_map_len old
  pub left : (n : ℕ) → hash_map.get nat_eq new n ≡ (if nat_eq number n then Some content else hash_map.get nat_eq old n)

pub record IsJoined (old new : Joining) (first second : ℕ) (a b : Content) : Type 0 where
  pub candidates : new.candidates ≡ old.candidates
  pub joins : new.joins.items ≡ old.joins.items ++ record { first = first; second = second } ∷ []
  pub content : Content
  pub lines : content.lines ≡ a.lines ++ b.lines
  pub end : content.end ≡ b.end
  pub fewer : hash_map.hash_map_len new.contents < hash_map.hash_map_len old.contents
  pub left : (n : ℕ) → hash_map.get nat_eq new.contents n ≡ (if nat_eq first n then Some content else if nat_eq second n then None else hash_map.get nat_eq old.contents n)

-- ---- all joins

abbrev pub at_work : Joining → Function → Function
at_work j f = record f { blocks = blocks_of (naming j.joins.items) (left j) f.blocks }

-- joins lead from f to what is left of it
pub record Joined (f : Function) (j : Joining) : Type 0 where
  pub joins : (k : ℕ) × Joins k f (at_work j f)
  pub candidates : (n : ℕ) → hash_set.contains nat_eq j.candidates n ≡ may_go (has_one_edge f.blocks) (behind_entry f.blocks) n
  pub known : (n : ℕ) (c : Content) → left j n ≡ Some c → IsNumber f.blocks n
  -- what can't go stays
  pub stays : (b : Block) → IsOneOf f.blocks b → may_go (has_one_edge f.blocks) (behind_entry f.blocks) b.number ≡ false → left j b.number ≢ None
  -- no edge to a block that is left is lost or new
  pub edges : (n : ℕ) → left j n ≢ None → length (leading n 0 (at_work j f).blocks) ≡ length (leading n 0 f.blocks)
