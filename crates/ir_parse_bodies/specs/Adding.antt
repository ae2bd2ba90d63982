-- Lists that what is read is added to.
use Rattle.std.specs.Prelude.{Option, List, [], ◌∷◌, ◌++◌}
use Rattle.ir_lex.specs.Tok.{Tok}
use Rattle.ir_parse_parts.specs.Readers.{Reader, ◌>>=◌, done}
use Rattle.ir_parse_bodies.specs.Blocks.{keep}

-- what is read, put behind these where it is kept
abbrev pub kept_at : {A : Type 0} → List A → Reader Tok (Option A) → Reader Tok (List A)
kept_at front f = do
  x ← f
  done (keep front x)

-- what is read, put behind these, beside what else is read
abbrev pub added_at : {A S : Type 0} → List A → Reader Tok (A × S) → Reader Tok (List A × S)
added_at front f = do
  x ← f
  done (front ++ x.0 ∷ [], x.1)

-- all that is read, put behind these
abbrev pub joined_at : {A : Type 0} → List A → Reader Tok (List A) → Reader Tok (List A)
joined_at front f = do
  more ← f
  done (front ++ more)
