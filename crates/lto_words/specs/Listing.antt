-- The list file of a batch: what its lines are.
use Rattle.std.specs.Prelude.{◌≡◌, ◌==◌, ◌&&◌, ◌<◌, ◌≤◌, ◌+◌, ◌⊎◌, ℕ, Bool, true, not, List, [], ◌∷◌, length, Result, Ok, Err, ⊤}
use Rattle.std.specs.List.{list_all, slice_split}
use Rattle.std.specs.Str.{is_utf8}
use Rattle.lto_words.specs.Values.{is_empty}
use Rattle.lto_words.specs.declared.listing.ListedLink.{ListedLink}
use Rattle.ir_tree.specs.declared.failure.Failure.{Failure}
use Rattle.ir_tree.specs.declared.failure.Failure.TheVariants.{Fault, NoMemory}
use Rattle.lto_words.specs.declared.listing.BadLine.{BadLine}

-- ---- a line

-- the name of a file: UTF-8, and not empty
abbrev pub is_name : List ℕ → Bool
is_name name = not (is_empty name) && is_utf8 name

-- what stands between the spaces (32)
abbrev pub names_in : List ℕ → List (List ℕ)
names_in line = slice_split (λ b. b == 32) line

-- a line names the file that a link is put in, and then its modules
pub record Lists (line : List ℕ) (link : ListedLink) : Type 0 where
  pub names : names_in line ≡ link.out ∷ link.files
  pub each : list_all is_name (names_in line) ≡ true
  pub some : 0 < length link.files
  pub few : length link.files ≤ 4096

-- ---- all lines

-- these parts, but for an empty one at the end
abbrev pub but_empty_end : List (List ℕ) → List (List ℕ)
but_empty_end [] = []
but_empty_end ([] ∷ []) = []
but_empty_end ([] ∷ (part ∷ parts)) = [] ∷ but_empty_end (part ∷ parts)
but_empty_end ((b ∷ bs) ∷ parts) = (b ∷ bs) ∷ but_empty_end parts

-- each line ends in a line feed (10), which the last may lack
abbrev pub lines_of : List ℕ → List (List ℕ)
lines_of bytes = but_empty_end (slice_split (λ b. b == 10) bytes)

-- the line of this number is the link, and there are 16 links at most
abbrev pub IsLink : ℕ → List ℕ → ListedLink → Type 0
IsLink number line link = (number ≤ 16) × Lists line link

-- these lines, counted from this number, are these links
abbrev pub AreLinks : ℕ → List (List ℕ) → List ListedLink → Type 0
AreLinks number [] [] = ⊤
AreLinks number [] (link ∷ links) = ⊥
AreLinks number (line ∷ lines) [] = ⊥
AreLinks number (line ∷ lines) (link ∷ links) = IsLink number line link × AreLinks (number + 1) lines links

-- of these lines, counted from this number, the first that is no link
abbrev pub IsFirstBad : ℕ → List (List ℕ) → ℕ → Type 0
IsFirstBad number [] bad = ⊥
IsFirstBad number (line ∷ lines) bad =
    ((bad ≡ number) × ((link : ListedLink) → IsLink number line link → ⊥)) ⊎ (((link : ListedLink) × IsLink number line link) × IsFirstBad (number + 1) lines bad)

-- ---- the file

-- it lists these links
abbrev pub IsList : List ℕ → List ListedLink → Type 0
IsList bytes links = AreLinks 1 (lines_of bytes) links

-- its first line that is no link has this number; lines count from 1
abbrev pub FirstBadLine : List ℕ → ℕ → Type 0
FirstBadLine bytes line = IsFirstBad 1 (lines_of bytes) line

-- what a reader of it answers
abbrev pub IsListed : List ℕ → Result (List ListedLink) (Failure BadLine) → Type 0
IsListed bytes (Ok links) = IsList bytes links
IsListed bytes (Err (Fault bad)) = FirstBadLine bytes bad.line
IsListed bytes (Err NoMemory) = ⊤
