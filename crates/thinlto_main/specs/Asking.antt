-- What the words ask for, and what the program does so far.
use Rattle.std.specs.Prelude.{◌≡◌, ℕ, Bool, true, false, List}
use Rattle.lto_words.specs.Commands.{IsCommand}
use Rattle.lto_words.specs.declared.request.Command.{Command}
use Rattle.lto_words.specs.declared.request.Command.TheVariants.{Link, Batch, Index, Run, Gen}

-- no modules are generated
abbrev pub is_offered : Command → Bool
is_offered (Link options out names) = true
is_offered (Batch options list) = true
is_offered (Index exports limit names) = true
is_offered (Run root args steps names) = true
is_offered (Gen seed modules jobs) = false

-- the words are a command that the program does, and this holds of it
pub record Asked (words : List (List ℕ)) (P : Command → Type 0) : Type 0 where
  pub command : Command
  pub is : IsCommand words command
  pub offered : is_offered command ≡ true
  pub so : P command

-- they are none
abbrev pub AskNothing : List (List ℕ) → Type 0
AskNothing words = (c : Command) → IsCommand words c → is_offered c ≡ true → ⊥
