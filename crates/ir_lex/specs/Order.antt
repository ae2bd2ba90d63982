-- Where tokens stand in their text.
use Rattle.std.specs.Prelude.{◌≡◌, ℕ, suc, ◌+◌, nat_eq, if◌then◌else◌, List, [], ◌∷◌, ◌++◌}
use Rattle.ir_lex.specs.Tok.{Tok}

-- how many line feeds there are
abbrev pub feeds : List ℕ → ℕ
feeds [] = 0
feeds (b ∷ bs) = if nat_eq b 10 then suc (feeds bs) else feeds bs

-- a token behind so many line feeds and a gap: its text is the slice behind the gap, and its line is that of its first byte
pub record IsSlice (before : ℕ) (bytes gap rest : List ℕ) (t : Tok) : Type 0 where
  pub slice : bytes ≡ gap ++ (t.text ++ rest)
  pub line : t.line ≡ 1 + (before + feeds gap)

-- the tokens are slices of these bytes in their order, so many line feeds behind the text's beginning
abbrev pub InOrder : ℕ → List ℕ → List Tok → Type 0
InOrder before bytes [] = Unit {0}
InOrder before bytes (t ∷ ts) = (gap : List ℕ) × (rest : List ℕ) × IsSlice before bytes gap rest t × InOrder (before + (feeds gap + feeds t.text)) rest ts
