-- Variables are numbered in order: each number that a symbol has is below their count.
use Rattle.std.proofs.Common.{◌≡◌, ℕ, ◌+◌, ◌<◌, Bool, true, false, cond, List, [], ◌∷◌, length, Option, Some, None, refl, subst, arith}
use Rattle.ir_tree.specs.Initials.{Initial}
use Rattle.ir_tree.specs.declared.block.Block.{Block}
use Rattle.ir_tree.specs.declared.function.Variable.{Variable}
use Rattle.ir_tree.specs.declared.module.GlobalValue.{GlobalValue}
use Rattle.ir_tree.specs.declared.module.GlobalValue.TheVariants as global
use Rattle.ir_tree.specs.declared.operand.Operand.{Operand}
use Rattle.ir_tree.specs.declared.operand.Symbol.{Symbol}
use Rattle.std.specs.Prelude.{codes}
use Rattle.std.specs.Str.{bytes_eq}
use Rattle.ir_meaning.specs.Frame.{AHost, AVariable, GetChar, Missing, PutChar, value_of}
use Rattle.ir_meaning.specs.Memory.{Memory}
use Rattle.ir_tree.specs.Symbols.{symbol_eq}
use Rattle.ir_meaning.specs.declared.value.Value.{Value}
use Rattle.ir_meaning.specs.Formed.{IsFormed}
use Rattle.ir_meaning.specs.Programs.{Body, Definition, Storage, behind, body_of, defined, defined_blocks, defined_init, definition_from, definition_of, is_declared, kind_of, opening_from, or_else, program_of, signature_of, storage_in, storage_of, symbol_of, undefined_kind}

-- a variable has this number
abbrev NumberedBy : ℕ → Option Definition → Type 0
NumberedBy n None = Unit {0}
NumberedBy n (Some (Body f)) = Unit {0}
NumberedBy n (Some (Storage k v init)) = k ≡ n

defined_numbered : (n : ℕ) (g : GlobalValue) → NumberedBy n (defined n g)
defined_numbered n (global.Function f) = at (defined_blocks f)
  where
    at : (blocks : List Block) → NumberedBy n (body_of blocks f)
    at [] = tt
    at (b ∷ bs) = tt
defined_numbered n (global.Variable v) = at (defined_init v)
  where
    at : (init : Option Initial) → NumberedBy n (storage_of init n v)
    at None = tt
    at (Some init) = refl

-- the number of a variable isn't in its block
pub storage_same : (value : Operand → Value) (n m : ℕ) (g : GlobalValue) (rest : Memory) → storage_in value (defined n g) rest ≡ storage_in value (defined m g) rest
storage_same value n m (global.Function f) rest = refl
storage_same value n m (global.Variable v) rest = at (defined_init v)
  where
    at : (init : Option Initial) → storage_in value (storage_of init n v) rest ≡ storage_in value (storage_of init m v) rest
    at None = refl
    at (Some init) = refl

number_of : (j n k : ℕ) (v w : Variable) (i init : Initial) → Some (Storage j w i) ≡ Some (Storage k v init) → j ≡ n → n ≡ k
number_of j n k v w i init e by = cc

numbered_behind : (value : Operand → Value) (d later : Option Definition) (b : Bool) (n k : ℕ) (v : Variable) (init : Initial) (rest : Memory)
    → NumberedBy n d → (later ≡ Some (Storage k v init) → k < behind n d + length rest)
    → or_else (cond b d None) later ≡ Some (Storage k v init) → k < n + length (storage_in value d rest)
numbered_behind value None later true n k v init rest by further e = further e
numbered_behind value None later false n k v init rest by further e = further e
numbered_behind value (Some (Body f)) later true n k v init rest by further e = absurd (cc e)
numbered_behind value (Some (Body f)) later false n k v init rest by further e = further e
numbered_behind value (Some (Storage j w i)) later true n k v init rest by further e = omega (arith, number_of j n k v w i init e by)
numbered_behind value (Some (Storage j w i)) later false n k v init rest by further e = omega (arith, further e)

pub numbered : (value : Operand → Value) (gs : List GlobalValue) (n : ℕ) (s : Symbol) (k : ℕ) (v : Variable) (init : Initial)
    → definition_from n gs s ≡ Some (Storage k v init) → k < n + length (opening_from value gs)
numbered value [] n s k v init e = absurd (cc e)
numbered value (g ∷ gs) n s k v init e =
    subst (λ (m : Memory). k < n + length m) (storage_same value n 0 g (opening_from value gs))
    (numbered_behind value (defined n g) (definition_from (behind n (defined n g)) gs s) (symbol_eq (symbol_of g) s) n k v init (opening_from value gs)
    (defined_numbered n g) (numbered value gs (behind n (defined n g)) s k v init) e)

no_outside : (number : ℕ) (home : Option ℕ) (name : List ℕ) → undefined_kind home name ≡ AVariable number → ⊥
no_outside number None name e = at (bytes_eq name (codes "putchar")) (bytes_eq name (codes "getchar")) e
  where
    at : (b c : Bool) → cond b (AHost PutChar) (cond c (AHost GetChar) Missing) ≡ AVariable number → ⊥
    at true c e = cc
    at false true e = cc
    at false false e = cc
no_outside number (Some k) name e = cc

-- a symbol that isn't defined is no variable
pub no_variable : (number : ℕ) (declared : Bool) (s : Symbol) → kind_of declared s None ≡ AVariable number → ⊥
no_variable number true s e = no_outside number s.home s.name e
no_variable number false s e = cc e

variable_number : (j number : ℕ) → AVariable j ≡ AVariable number → j ≡ number
variable_number j number e = cc

pub programs_formed : (gs : List GlobalValue) → IsFormed (program_of gs)
programs_formed gs s number = at (definition_of gs s) refl
  where
    at : (d : Option Definition) → definition_of gs s ≡ d → kind_of (is_declared gs s) s d ≡ AVariable number → number < length (program_of gs).opening
    at None there e = absurd (no_variable number (is_declared gs s) s e)
    at (Some (Body f)) there e = absurd (cc e)
    at (Some (Storage j v init)) there e =
        subst (λ (i : ℕ). i < length (program_of gs).opening) (variable_number j number e) (omega (arith, numbered (value_of (signature_of gs) []) gs 0 s j v init there))
