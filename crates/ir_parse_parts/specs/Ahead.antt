-- Classes of tokens that a reader looks ahead for.
use Rattle.std.specs.Prelude.{ℕ, List, [], ◌∷◌}
use Rattle.ir_lex.specs.declared.token_kind.TokenKind.TheVariants as kinds
use Rattle.ir_lex.specs.TokenKinds.{number}
use Rattle.ir_parse_parts.specs.Metadata.{META}

-- an array, a struct or a packed struct begins with them
abbrev pub BRACKETS : List ℕ
BRACKETS = number kinds.OpenBracket ∷ number kinds.OpenBrace ∷ number kinds.OpenAngle ∷ []

abbrev pub WRAPS : List ℕ
WRAPS = number kinds.Nuw ∷ number kinds.Nsw ∷ []

-- the flags of an address
abbrev pub STEPPING : List ℕ
STEPPING = number kinds.Inbounds ∷ number kinds.Nuw ∷ number kinds.Nusw ∷ []

-- an alignment, or what may stand in its place
abbrev pub ALIGNED : List ℕ
ALIGNED = number kinds.Align ∷ META
