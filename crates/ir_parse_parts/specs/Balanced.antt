-- Balanced groups, without recursion: the brackets that are open are a list.
use Rattle.std.specs.Prelude.{◌≡◌, Bool, true, false, if◌then◌else◌, Option, Some, None, Result, Ok, List, [], ◌∷◌}
use Rattle.ir_parse_parts.specs.declared.fault.Fault.{Fault}
use Rattle.ir_parse_parts.specs.declared.fault.TokenFault.TheVariants.{Syntax}
use Rattle.ir_parse_parts.specs.Alphabet.{Alphabet, is_number}
use Rattle.ir_parse_parts.specs.Forms.{Form}
use Rattle.ir_parse_parts.specs.Readers.{Reader, fault_at}

-- what a token does to the brackets
pub data Move (B : Type 0) : Type 0 where
  opens : B → Move B
  closes : B → Move B
  stays : Move B

-- kinds of brackets: what each token does to them, and which kinds are the same
pub record Brackets (T B : Type 0) : Type 0 where
  pub move : T → Move B
  pub same : B → B → Bool

module _ {T B : Type 0} (brackets : Brackets T B) where
  -- the brackets that are open behind a token, innermost first; none where the token closes another one
  abbrev pub moved : Move B → B → List B → Option (List B)
  moved (opens c) b bs = Some (c ∷ b ∷ bs)
  moved (closes c) b bs = if brackets.same b c then Some bs else None
  moved stays b bs = Some (b ∷ bs)

  -- these tokens close the brackets that are open, and nothing more
  abbrev pub Closing : List B → Form T (Unit {0})
  Closing [] [] u = Unit {0}
  Closing [] (t ∷ ts) u = ⊥
  Closing (b ∷ bs) [] u = ⊥
  Closing (b ∷ bs) (t ∷ ts) u = elim (moved (brackets.move t) b bs) as (λ o. Type 0) [ None ↦ ⊥ | Some stack ↦ Closing stack ts u ]

  abbrev pub closing_at : List B → Reader T (Unit {0})
  closing_at [] ts = Ok (tt, ts)
  closing_at (b ∷ bs) [] = fault_at Syntax []
  closing_at (b ∷ bs) (t ∷ ts) = elim (moved (brackets.move t) b bs) as (λ o. Result (Unit {0} × List T) Fault) [ None ↦ fault_at Syntax (t ∷ ts) | Some stack ↦ closing_at stack ts ]

  -- each bracket has a token that closes it, which some text has, and no number is a bracket
  pub record HaveClosers (alphabet : Alphabet T) : Type 0 where
    pub closer : B → T
    pub closes_it : (b : B) (bs : List B) → moved (brackets.move (closer b)) b bs ≡ Some bs
    pub real : (b : B) → alphabet.Real (closer b)
    pub number_stays : (t : T) → is_number alphabet t ≡ true → brackets.move t ≡ stays

abbrev pub none_open : {B : Type 0} → List B → Bool
none_open [] = true
none_open (b ∷ bs) = false
