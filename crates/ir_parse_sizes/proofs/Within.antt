-- A stage over the shapes and constant addresses of a module passes type names that are used.
use Rattle.std.proofs.Common.{◌≡◌, refl, sym, ap, subst, ◌∙◌, ℕ, ◌+◌, ◌<◌, List, [], ◌∷◌, ◌++◌, length, drop, get_or, Option, None, Some, Result, Ok, Err}
use Rattle.ir_parse_parts.specs.Shapes.{Written, int, pointer, array, structure, named, WrittenParts, no_parts, part}
use Rattle.ir_parse_parts.specs.declared.address.Level.{Level}
use Rattle.ir_parse_parts.specs.declared.address.Steps.{Steps}
use Rattle.ir_parse_parts.specs.declared.shape.Typed.{Typed}
use Rattle.ir_lex.specs.Tok.{Tok}
use Rattle.ir_tree.specs.declared.failure.Failure.{Failure}
use Rattle.ir_parse_names.specs.declared.fault.Fault.{Fault}
use Rattle.ir_tree.specs.declared.failure.Failure.TheVariants as errors
use Rattle.ir_parse_names.specs.Bodies.{allocated}
use Rattle.ir_parse_names.specs.Marks.{Mark, type_name, many, address, all, uses, all_uses, uses_if, level_uses, typed_marks}
use Rattle.ir_parse_names.specs.Resolving.{ResolvesTo, ◌>>=◌}
use Rattle.ir_parse_names.specs.Stages.{Passes, passes, address_within, typed_within, mark_within, marks_within}
use Rattle.ir_parse_names.specs.Types.{Types, expanded}
use Rattle.ir_parse_names.proofs.Each.{here}

-- marks, and then more
pub behind : (types : Types) (xs ys : List Mark) → marks_within types (xs ++ ys) ≡ (marks_within types xs >>= λ _. marks_within types ys)
behind types [] ys = refl
behind types (x ∷ xs) ys = first (mark_within types x) (behind types xs ys)
  where
    first : (r : Passes) → marks_within types (xs ++ ys) ≡ (marks_within types xs >>= λ _. marks_within types ys) → (r >>= λ _. marks_within types (xs ++ ys)) ≡ ((r >>= λ _. marks_within types xs) >>= λ _. marks_within types ys)
    first (Ok u) h = h
    first (Err e) h = refl

both_pass : (types : Types) (xs ys : List Mark) → marks_within types xs ≡ Ok tt → marks_within types ys ≡ Ok tt → marks_within types (xs ++ ys) ≡ Ok tt
both_pass types xs ys h g = behind types xs ys ∙ ap (λ (r : Passes). r >>= λ _. marks_within types ys) h ∙ g

mutual
  uses_pass : (types : Types) (s : Written) → marks_within types (uses s) ≡ Ok tt
  uses_pass types (int w) = refl
  uses_pass types pointer = refl
  uses_pass types (array count of) = uses_pass types of
  uses_pass types (structure packed parts) = all_pass types parts
  uses_pass types (named name) = refl

  all_pass : (types : Types) (parts : WrittenParts) → marks_within types (all_uses parts) ≡ Ok tt
  all_pass types no_parts = refl
  all_pass types (part s more) = both_pass types (uses s) (all_uses more) (uses_pass types s) (all_pass types more)

levels_pass : (types : Types) (ls : List Level) → marks_within types (level_uses ls) ≡ Ok tt
levels_pass types [] = refl
levels_pass types (l ∷ ls) = both_pass types (level_uses ls) (uses l.typed.shape) (levels_pass types ls) (uses_pass types l.typed.shape)

alone : (r : Passes) (ms : List Mark) (types : Types) → marks_within types ms ≡ Ok tt → (r >>= λ _. marks_within types ms) ≡ r
alone (Ok tt) ms types h = h
alone (Err e) ms types h = refl

-- the names behind a mark pass
pub address_passes : (types : Types) (steps : Steps) → marks_within types (address steps ∷ level_uses steps.levels) ≡ address_within types steps
address_passes types steps = alone (address_within types steps) (level_uses steps.levels) types (levels_pass types steps.levels)

pub shape_passes : (types : Types) (typed : Typed) → marks_within types (typed_marks typed) ≡ passes (expanded types typed)
shape_passes types typed = alone (passes (expanded types typed)) (uses typed.shape) types (uses_pass types typed.shape)

pub reserved_passes : (types : Types) (typed : Typed) (count : ℕ) → marks_within types (many typed count ∷ uses typed.shape) ≡ passes (allocated types typed count)
reserved_passes types typed count = alone (passes (allocated types typed count)) (uses typed.shape) types (uses_pass types typed.shape)

if_pass : (types : Types) (typed : Option Typed) → marks_within types (uses_if typed) ≡ Ok tt
if_pass types None = refl
if_pass types (Some typed) = uses_pass types typed.shape

pub type_name_passes : (types : Types) (name : Tok) (typed : Option Typed) → marks_within types (type_name name typed ∷ uses_if typed) ≡ typed_within types typed
type_name_passes types name typed = alone (typed_within types typed) (uses_if typed) types (if_pass types typed)

-- ---- loops

-- one more item of a list, whose marks pass or not
module _ {A : Type 0} (types : Types) (f : A → List Mark) (xs : List A) (k : ℕ) (x : A) (r : Passes) (at : k < length xs) (is : x ≡ get_or xs k x) (h : marks_within types (all f (drop k xs)) ≡ r) where
  abbrev more : Passes → Passes
  more q = q >>= λ _. marks_within types (all f (drop (k + 1) xs))

  step : marks_within types (all f (drop k xs)) ≡ more (marks_within types (f x))
  step = ap (λ (ys : List A). marks_within types (all f ys)) (here xs k x at is) ∙ behind types (f x) (all f (drop (k + 1) xs))

  pub goes_on : marks_within types (f x) ≡ Ok tt → marks_within types (all f (drop (k + 1) xs)) ≡ r
  goes_on e = sym (step ∙ ap more e) ∙ h

  pub fails : (e : Failure Fault) (q : Result (Unit {0}) (Failure Fault)) → q ≡ Err e → ResolvesTo {X = Unit {0}} {Y = Unit {0}} (λ u. u) (Err e) (marks_within types (f x)) → ResolvesTo {X = Unit {0}} {Y = Unit {0}} (λ u. u) q r
  fails errors.NoMemory q same s = subst (λ (p : Result (Unit {0}) (Failure Fault)). ResolvesTo {X = Unit {0}} {Y = Unit {0}} (λ u. u) p r) (sym same) tt
  fails (errors.Fault fault) q same s = subst (λ (p : Result (Unit {0}) (Failure Fault)). ResolvesTo {X = Unit {0}} {Y = Unit {0}} (λ u. u) p r) (sym same) (sym h ∙ step ∙ ap more s)
