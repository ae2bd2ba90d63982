-- Forms that go token by token through states, without recursion: each token leads on, ends the form, or fits nowhere.
use Rattle.std.specs.Prelude.{◌≡◌, true, Result, Ok, List, [], ◌∷◌}
use Rattle.ir_parse_parts.specs.declared.fault.Fault.{Fault}
use Rattle.ir_parse_parts.specs.declared.fault.TokenFault.TheVariants.{Syntax}
use Rattle.ir_parse_parts.specs.Alphabet.{Alphabet, AllReal, is_number}
use Rattle.ir_parse_parts.specs.Forms.{Form}
use Rattle.ir_parse_parts.specs.Readers.{Reader, fault_at}

-- what a token does in a state
pub data Step (S : Type 0) : Type 0 where
  bad : Step S
  last : Step S
  onward : S → Step S

module _ {T S : Type 0} (step : S → T → Step S) where
  -- tokens that lead from this state to the end, and no further
  abbrev pub Run : S → Form T (Unit {0})
  Run s [] u = ⊥
  Run s (t ∷ ts) u = elim (step s t) as (λ x. Type 0) [ bad ↦ ⊥ | last ↦ ts ≡ [] | onward next ↦ Run next ts u ]

  abbrev pub run_at : S → Reader T (Unit {0})
  run_at s [] = fault_at Syntax []
  run_at s (t ∷ ts) = elim (step s t) as (λ x. Result (Unit {0} × List T) Fault) [ bad ↦ fault_at Syntax (t ∷ ts) | last ↦ Ok (tt, ts) | onward next ↦ run_at next ts ]

  -- from each state some tokens lead to the end, which some text has, and no number fits nowhere
  pub record HaveEnds (alphabet : Alphabet T) : Type 0 where
    pub ending : S → List T
    pub leads : (s : S) → Run s (ending s) tt
    pub real : (s : S) → AllReal alphabet (ending s)
    pub number_fits : (s : S) (t : T) → is_number alphabet t ≡ true → step s t ≡ bad → ⊥
