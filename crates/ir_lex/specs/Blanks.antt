-- Blanks and comments, which stand between tokens, and lines.
use Rattle.std.specs.Prelude.{ℕ, suc, Bool, true, false, ◌||◌, not, nat_eq, nat_lt, if◌then◌else◌, Option, Some, None, List, [], ◌∷◌}

-- a place in the text: its line, and the bytes from there on
pub record Place : Type 0 where
  pub line : ℕ
  pub bytes : List ℕ

abbrev pub place : ℕ → List ℕ → Place
place line bytes = record { line = line; bytes = bytes }

-- ---- blanks, comments and lines

abbrev pub is_blank : ℕ → Bool
is_blank b = nat_eq b 32 || (nat_eq b 9 || (nat_eq b 13 || nat_eq b 10))

abbrev pub line_after : ℕ → ℕ → ℕ
line_after line b = if nat_eq b 10 then suc line else line

-- whether a byte is passed over, and whether a comment is open behind it
abbrev pub pass : Bool → ℕ → Option Bool
pass true b = Some (not (nat_eq b 10))
pass false b = if is_blank b then Some false else (if nat_eq b 59 then Some true else None)

-- where the blanks and comments at the front end; the flag says whether a comment is open
abbrev pub skip : Bool → ℕ → List ℕ → Place
skip comment line [] = place line []
skip comment line (b ∷ bs) = elim (pass comment b) [ None ↦ place line (b ∷ bs) | Some o ↦ skip o (line_after line b) bs ]

-- the line behind these bytes
abbrev pub line_behind : ℕ → List ℕ → ℕ
line_behind line [] = line
line_behind line (b ∷ bs) = line_behind (line_after line b) bs

abbrev pub is_empty : List ℕ → Bool
is_empty [] = true
is_empty (b ∷ bs) = false

-- whether a line that goes on to one place, behind which the next token or the end stands at another, ends between
abbrev pub ends_before : ℕ → Place → Bool
ends_before line next = is_empty next.bytes || nat_lt line next.line
