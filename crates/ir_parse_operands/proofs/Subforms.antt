-- A form within another, part by part.
use Rattle.std.proofs.Common.{List, inl, inr}
use Rattle.ir_parse_parts.specs.Forms.{Form, ◌>>=◌, either}

-- what the first spells the second spells
abbrev pub Sub : {T A : Type 0} → Form T A → Form T A → Type 0
Sub {T} {A} p q = (ts : List T) (a : A) → p ts a → q ts a

pub itself : {T A : Type 0} (p : Form T A) → Sub p p
itself p ts a s = s

pub then_sub : {T A B : Type 0} {g g' : Form T A} {k k' : A → Form T B} → Sub g g' → ((a : A) → Sub (k a) (k' a)) → Sub (g >>= k) (g' >>= k')
unfolding ◌>>=◌
then_sub p q ts b (front, back, a, e, s, d) = (front, back, a, e, p front a s, q a back b d)

pub either_sub : {T A : Type 0} {g g' h h' : Form T A} → Sub g g' → Sub h h' → Sub (either g h) (either g' h')
unfolding either
either_sub p q ts a (inl s) = inl (p ts a s)
either_sub p q ts a (inr s) = inr (q ts a s)
