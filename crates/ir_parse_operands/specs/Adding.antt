-- What is read, added to what was read before.
use Rattle.std.specs.Prelude.{Bool, true, List, [], ◌∷◌, ◌++◌}
use Rattle.ir_lex.specs.Tok.{Tok}
use Rattle.ir_parse_parts.specs.Readers.{Reader, ◌>>=◌, done}

-- what is read, behind these
abbrev pub pushed_at : {A : Type 0} → List A → Reader Tok A → Reader Tok (List A)
pushed_at front f = do
  x ← f
  done (front ++ x ∷ [])

-- a piece that is read, gathered by step, beside the state behind it
abbrev pub gathered_at : {A S B : Type 0} → (B → A → B) → B → Reader Tok (A × S) → Reader Tok (B × S)
gathered_at step front f = do
  x ← f
  done (step front x.0, x.1)

-- a list may end behind each of its pieces
abbrev pub anywhere : Bool → Bool
anywhere s = true
