-- A small grammar over tokens that are plain data: numbers in brackets, with commas between, each below a bound, and
-- at most so many behind the first.
use Rattle.std.specs.Prelude.{ℕ, suc, nat_lt, if◌then◌else◌, List, [], ◌∷◌, Result, Ok, Err}
use Rattle.ir_parse_parts.specs.declared.fault.Fault.{Fault}
use Rattle.ir_parse_parts.specs.declared.fault.TokenFault.{TokenFault}
use Rattle.ir_parse_parts.specs.declared.fault.TokenFault.TheVariants.{Syntax, Number}
use Rattle.ir_parse_parts.specs.Alphabet.{Alphabet, among}
use Rattle.ir_parse_parts.specs.Forms as form
use Rattle.ir_parse_parts.specs.Forms.{Form}
use Rattle.ir_parse_parts.specs.Readers as reader
use Rattle.ir_parse_parts.specs.Readers.{Reader}
use Rattle.ir_parse_parts.specs.Rules.{is_class}

pub data Sign : Type 0 where
  opening : Sign
  closing : Sign
  comma : Sign
  numeral : ℕ → Sign

abbrev pub class_of : Sign → ℕ
class_of opening = 0
class_of closing = 1
class_of comma = 2
class_of (numeral n) = 3

abbrev pub signs : Alphabet Sign
signs = record { class = class_of; numerals = 3 ∷ []; literals = 3 ∷ []; Real = λ t. Unit {0} }

abbrev pub not_here : ℕ → TokenFault
not_here n = Syntax

abbrev pub sign : ℕ → Sign → Result (Unit {0}) TokenFault
sign = is_class signs not_here

-- a number that is at most this
unfoldable pub within : ℕ → Sign → Result ℕ TokenFault
within most opening = Err Syntax
within most closing = Err Syntax
within most comma = Err Syntax
within most (numeral n) = if nat_lt n (suc most) then Ok n else Err Number

-- ---- the grammar

module _ (most : ℕ) where
  unfoldable pub further : Form Sign ℕ
  further = form.◌>>=◌ (form.token (sign 2)) (λ _. form.token (within most))

  unfoldable pub numbers : ℕ → Form Sign (List ℕ)
  numbers room = form.either (form.◌>>=◌ (form.token (within most)) (λ first. form.◌>>=◌ (form.Many further room) (λ others. form.gives (first ∷ others)))) (form.gives [])

  unfoldable pub listing : ℕ → Form Sign (List ℕ)
  listing room = form.◌>>=◌ (form.token (sign 0)) (λ _. form.◌>>=◌ (numbers room) (λ ns. form.◌>>=◌ (form.token (sign 1)) (λ _. form.gives ns)))

  -- the same without a limit on how many
  unfoldable pub all_numbers : Form Sign (List ℕ)
  all_numbers = form.either (form.◌>>=◌ (form.token (within most)) (λ first. form.◌>>=◌ (form.Star further) (λ others. form.gives (first ∷ others)))) (form.gives [])

  unfoldable pub any_listing : Form Sign (List ℕ)
  any_listing = form.◌>>=◌ (form.token (sign 0)) (λ _. form.◌>>=◌ all_numbers (λ ns. form.◌>>=◌ (form.token (sign 1)) (λ _. form.gives ns)))

  -- ---- the reader

  unfoldable pub further_at : Reader Sign ℕ
  further_at = reader.◌>>=◌ (reader.token_at (sign 2)) (λ _. reader.token_at (within most))

  unfoldable pub numbers_at : ℕ → Reader Sign (List ℕ)
  numbers_at room = reader.pick (among signs (3 ∷ [])) (reader.◌>>=◌ (reader.token_at (within most)) (λ first. reader.◌>>=◌ (reader.many_at (among signs (2 ∷ [])) further_at room) (λ others. reader.done (first ∷ others)))) (reader.done [])

  unfoldable pub listing_at : ℕ → Reader Sign (List ℕ)
  listing_at room = reader.◌>>=◌ (reader.token_at (sign 0)) (λ _. reader.◌>>=◌ (numbers_at room) (λ ns. reader.◌>>=◌ (reader.token_at (sign 1)) (λ _. reader.done ns)))

  -- what the reader gives of all tokens
  abbrev pub list_of : ℕ → List Sign → Result (List ℕ) Fault
  list_of room ts = reader.whole_of {A = List ℕ} (λ t. Syntax) (listing_at room ts)
