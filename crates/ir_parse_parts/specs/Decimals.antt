-- Numbers as they are written in digits, and the alignments among them.
use Rattle.std.specs.Prelude.{ℕ, ◌+◌, ◌-◌, ◌*◌, ◌&&◌, not, nat_eq, if◌then◌else◌, Result, Ok, Err, List, [], ◌∷◌}
use Rattle.std.specs.List.{fold}
use Rattle.ir_lex.specs.declared.token_kind.TokenKind.TheVariants as kinds
use Rattle.ir_lex.specs.TokenKinds.{number}
use Rattle.ir_lex.specs.Rows.{begins}
use Rattle.ir_lex.specs.Tok.{Tok}
use Rattle.ir_parse_parts.specs.Alphabet.{contains}
use Rattle.ir_parse_parts.specs.declared.fault.TokenFault.{TokenFault}
use Rattle.ir_parse_parts.specs.declared.fault.TokenFault.TheVariants.{Number}
use Rattle.ir_parse_parts.specs.Classes.{refusal}

abbrev pub with_digit : ℕ → ℕ → ℕ
with_digit n digit = 10 * n + (digit - 48)

-- the number that these digits write
abbrev pub decimal : List ℕ → ℕ
decimal digits = fold with_digit 0 digits

-- powers of two up to 2^30
abbrev pub ALIGNMENTS : List ℕ
ALIGNMENTS = 1 ∷ 2 ∷ 4 ∷ 8 ∷ 16 ∷ 32 ∷ 64 ∷ 128 ∷ 256 ∷ 512 ∷ 1024 ∷ 2048 ∷ 4096 ∷ 8192 ∷ 16384 ∷ 32768 ∷ 65536 ∷ 131072 ∷ 262144 ∷ 524288 ∷ 1048576 ∷ 2097152 ∷ 4194304 ∷ 8388608 ∷ 16777216 ∷ 33554432 ∷ 67108864 ∷ 134217728 ∷ 268435456 ∷ 536870912 ∷ 1073741824 ∷ []

unfoldable pub alignment_of : List ℕ → Result ℕ TokenFault
alignment_of text = if contains ALIGNMENTS (decimal text) && not (begins 45 text) then Ok (decimal text) else Err Number

-- an alignment in bytes (LangRef, "Load Instruction")
unfoldable pub is_alignment : Tok → Result ℕ TokenFault
is_alignment t = if nat_eq (number t.kind) (number kinds.Number) then alignment_of t.text else Err (refusal (number t.kind))
