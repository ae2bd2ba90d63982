-- A written shape is stored as the words of its prefix form, which are read from the last to the first.
use Rattle.std.specs.Prelude.{◌≡◌, refl, ℕ, zero, suc, Bool, true, false, List, [], ◌∷◌}
use Rattle.std.proofs.Common.{ap, ◌∙◌}
use Rattle.std.specs.Coded.{Coded, code_by}
use Rattle.ir_lex.specs.Tok.{Tok}
use Rattle.ir_parse_parts.specs.Shapes.{Written, int, pointer, array, structure, named, WrittenParts, no_parts, part}

-- whether it has parts, whether it is the second of its kind, a mark, a number, and the name of a named one
abbrev pub Word : Type 0
Word = Bool × (Bool × (Bool × (ℕ × List Tok)))

abbrev pub count_of : WrittenParts → ℕ
count_of no_parts = 0
count_of (part s more) = suc (count_of more)

abbrev mutual
  pub words : Written → List Word → List Word
  words (int w) rest = (false, (false, (false, (w, [])))) ∷ rest
  words pointer rest = (false, (true, (false, (0, [])))) ∷ rest
  words (array n of) rest = (true, (false, (false, (n, [])))) ∷ words of rest
  words (structure packed parts) rest = (true, (true, (packed, (count_of parts, [])))) ∷ words_all parts rest
  words (named name) rest = (false, (true, (true, (0, name ∷ [])))) ∷ rest

  pub words_all : WrittenParts → List Word → List Word
  words_all no_parts rest = rest
  words_all (part s more) rest = words s (words_all more rest)

abbrev pub before : WrittenParts → List Written → List Written
before no_parts shapes = shapes
before (part s more) shapes = s ∷ before more shapes

abbrev pub first : ℕ → List Written → WrittenParts
first zero shapes = no_parts
first (suc n) [] = no_parts
first (suc n) (s ∷ shapes) = part s (first n shapes)

abbrev pub behind : ℕ → List Written → List Written
behind zero shapes = shapes
behind (suc n) [] = []
behind (suc n) (s ∷ shapes) = behind n shapes

abbrev pub many : ℕ → List Written → List Written
many n [] = []
many n (s ∷ shapes) = array n s ∷ shapes

abbrev pub called : List Tok → Written
called [] = pointer
called (name ∷ more) = named name

abbrev pub put : Bool → Bool → Bool → ℕ → List Tok → List Written → List Written
put false false mark n names shapes = int n ∷ shapes
put false true mark n names shapes = called names ∷ shapes
put true false mark n names shapes = many n shapes
put true true mark n names shapes = structure mark (first n shapes) ∷ behind n shapes

abbrev pub read : List Word → List Written
read [] = []
read (w ∷ ws) = put w.0 w.1.0 w.1.1.0 w.1.1.1.0 w.1.1.1.1 (read ws)

abbrev pub first_shape : List Written → Written
first_shape [] = pointer
first_shape (s ∷ shapes) = s

first-before : (more : WrittenParts) (shapes : List Written) → first (count_of more) (before more shapes) ≡ more
first-before no_parts shapes = refl
first-before (part s more) shapes = ap (part s) (first-before more shapes)

behind-before : (more : WrittenParts) (shapes : List Written) → behind (count_of more) (before more shapes) ≡ shapes
behind-before no_parts shapes = refl
behind-before (part s more) shapes = behind-before more shapes

struct-before : (packed : Bool) (more : WrittenParts) (shapes : List Written) → (structure packed (first (count_of more) (before more shapes)) ∷ behind (count_of more) (before more shapes)) ≡ (structure packed more ∷ shapes)
struct-before packed more shapes = rw (first-before more shapes, behind-before more shapes) refl

mutual
  pub read-words : (s : Written) (rest : List Word) → read (words s rest) ≡ s ∷ read rest
  read-words (int w) rest = refl
  read-words pointer rest = refl
  read-words (array n of) rest = ap (many n) (read-words of rest)
  read-words (structure packed parts) rest = ap (put true true packed (count_of parts) []) (read-words_all parts rest) ∙ struct-before packed parts (read rest)
  read-words (named name) rest = refl

  pub read-words_all : (parts : WrittenParts) (rest : List Word) → read (words_all parts rest) ≡ before parts (read rest)
  read-words_all no_parts rest = refl
  read-words_all (part s more) rest = read-words s (words_all more rest) ∙ ap (λ shapes. s ∷ shapes) (read-words_all more rest)

abbrev pub code_from : Coded (List Word) → Coded Written
code_from of_words = code_by (List Word) of_words (λ s. words s []) (λ ws. first_shape (read ws)) (λ s. ap first_shape (read-words s []))
