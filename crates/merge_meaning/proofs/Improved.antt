-- A program with better functions in the places of its functions is better, and has the same symbols.
use Rattle.std.proofs.Common.{◌≡◌, ◌∙◌, ℕ, Bool, true, false, ◌||◌, cond, List, [], ◌∷◌, Option, Some, None, refl, ap, ap₂, sym, subst}
use Rattle.std.specs.List.{AllZip}
use Rattle.ir_tree.specs.Formed.{Distinct}
use Rattle.ir_tree.specs.Initials.{Initial}
use Rattle.ir_tree.specs.Wholes.{symbols}
use Rattle.ir_tree.specs.declared.block.Block.{Block}
use Rattle.ir_tree.specs.declared.function.Function.{Function}
use Rattle.ir_tree.specs.declared.function.Variable.{Variable}
use Rattle.ir_tree.specs.declared.module.GlobalValue.{GlobalValue}
use Rattle.ir_tree.specs.declared.module.GlobalValue.TheVariants as global
use Rattle.ir_tree.specs.declared.operand.Operand.{Operand}
use Rattle.ir_tree.specs.declared.operand.Symbol.{Symbol}
use Rattle.ir_meaning.specs.Frame.{AFunction, AVariable, Signature, value_of}
use Rattle.ir_meaning.specs.Memory.{Memory}
use Rattle.ir_meaning.specs.Near.{Replaces}
use Rattle.ir_meaning.specs.Program.{Program}
use Rattle.ir_tree.specs.Symbols.{symbol_eq}
use Rattle.ir_meaning.specs.declared.value.Value.{Value}
use Rattle.ir_meaning.specs.Programs.{Body, Definition, Storage, behind, body_of, code_of, defined, defined_blocks, defined_init, definition_from, definition_of, is_declared, kind_of, opening_from, or_else, program_of, signature_of, storage_in, storage_of, symbol_of}
use Rattle.merge_meaning.specs.Laws.{ImprovedIsBetter, ImprovedIsOnce}
use Rattle.merge_meaning.specs.Linked.{Improves, StandsFor, has_body}
use Rattle.merge_meaning.proofs.Looked as looked

module _ (p : Program) (bound : ℕ) where
  -- what defines a symbol afterwards: a function that may stand for the one before, or the same variable
  abbrev Follows : Option Definition → Option Definition → Type 0
  Follows None None = Unit {0}
  Follows (Some (Body f)) (Some (Body g)) = StandsFor p bound f g
  Follows (Some (Storage n v init)) (Some (Storage k w other)) = (k ≡ n) × (w ≡ v) × (other ≡ init)
  Follows _ _ = ⊥

  bodies : (f g : Function) → StandsFor p bound f g → (bs cs : List Block) → has_body cs ≡ has_body bs → Follows (body_of bs f) (body_of cs g)
  bodies f g same [] [] e = tt
  bodies f g same [] (c ∷ cs) e = absurd (cc e)
  bodies f g same (b ∷ bs) [] e = absurd (cc e)
  bodies f g same (b ∷ bs) (c ∷ cs) e = same

  storages : (n : ℕ) (v : Variable) (init : Option Initial) → Follows (storage_of init n v) (storage_of init n v)
  storages n v None = tt
  storages n v (Some init) = (refl, refl, refl)

  one_follows : (n : ℕ) (g h : GlobalValue) → Improves p bound g h → Follows (defined n g) (defined n h)
  one_follows n (global.Function f) (global.Function g) same = bodies f g same (defined_blocks f) (defined_blocks g) same.body
  one_follows n (global.Variable v) (global.Variable w) same =
      subst (λ (u : Variable). Follows (storage_of (defined_init v) n v) (storage_of (defined_init u) n u)) (sym same) (storages n v (defined_init v))
  one_follows n (global.Function f) (global.Variable w) same = absurd same
  one_follows n (global.Variable v) (global.Function g) same = absurd same

  same_symbol : (g h : GlobalValue) → Improves p bound g h → symbol_of h ≡ symbol_of g
  same_symbol (global.Function f) (global.Function g) same = same.symbol
  same_symbol (global.Variable v) (global.Variable w) same = ap (λ (u : Variable). u.symbol) same
  same_symbol (global.Function f) (global.Variable w) same = absurd same
  same_symbol (global.Variable v) (global.Function g) same = absurd same

  symbols_stay : (gs hs : List GlobalValue) → AllZip (Improves p bound) gs hs → symbols hs ≡ symbols gs
  symbols_stay [] [] z = refl
  symbols_stay [] (h ∷ hs) z = absurd z
  symbols_stay (g ∷ gs) [] z = absurd z
  symbols_stay (g ∷ gs) (h ∷ hs) z =
      ap₂ (λ (s : Symbol). λ (ss : List Symbol). s ∷ ss) (sym (looked.same_symbol h) ∙ same_symbol g h z.0 ∙ looked.same_symbol g) (symbols_stay gs hs z.1)

  same_behind : (n : ℕ) (d e : Option Definition) → Follows d e → behind n e ≡ behind n d
  same_behind n None None h = refl
  same_behind n (Some (Body f)) (Some (Body g)) h = refl
  same_behind n (Some (Storage k v init)) (Some (Storage l w other)) h = refl
  same_behind n None (Some e) h = absurd h
  same_behind n (Some (Body f)) None h = absurd h
  same_behind n (Some (Body f)) (Some (Storage l w other)) h = absurd h
  same_behind n (Some (Storage k v init)) None h = absurd h
  same_behind n (Some (Storage k v init)) (Some (Body g)) h = absurd h

  either_follows : (b : Bool) (d e d' e' : Option Definition) → Follows d e → Follows d' e' → Follows (or_else (cond b d None) d') (or_else (cond b e None) e')
  either_follows false d e d' e' first rest = rest
  either_follows true None None d' e' first rest = rest
  either_follows true (Some (Body f)) (Some (Body g)) d' e' first rest = first
  either_follows true (Some (Storage k v init)) (Some (Storage l w other)) d' e' first rest = first
  either_follows true None (Some e) d' e' first rest = absurd first
  either_follows true (Some (Body f)) None d' e' first rest = absurd first
  either_follows true (Some (Body f)) (Some (Storage l w other)) d' e' first rest = absurd first
  either_follows true (Some (Storage k v init)) None d' e' first rest = absurd first
  either_follows true (Some (Storage k v init)) (Some (Body g)) d' e' first rest = absurd first

  follows : (gs hs : List GlobalValue) (n : ℕ) → AllZip (Improves p bound) gs hs → (s : Symbol) → Follows (definition_from n gs s) (definition_from n hs s)
  follows [] [] n z s = tt
  follows [] (h ∷ hs) n z s = absurd z
  follows (g ∷ gs) [] n z s = absurd z
  follows (g ∷ gs) (h ∷ hs) n z s =
      subst (λ (t : Symbol). Follows (definition_from n (g ∷ gs) s) (or_else (cond (symbol_eq t s) (defined n h) None) (definition_from (behind n (defined n h)) hs s)))
      (sym (same_symbol g h z.0))
      (subst (λ (k : ℕ). Follows (definition_from n (g ∷ gs) s) (or_else (cond (symbol_eq (symbol_of g) s) (defined n h) None) (definition_from k hs s)))
      (sym (same_behind n (defined n g) (defined n h) (one_follows n g h z.0)))
      (either_follows (symbol_eq (symbol_of g) s) (defined n g) (defined n h)
      (definition_from (behind n (defined n g)) gs s) (definition_from (behind n (defined n g)) hs s)
      (one_follows n g h z.0) (follows gs hs (behind n (defined n g)) z.1 s)))

  declared_stays : (gs hs : List GlobalValue) → AllZip (Improves p bound) gs hs → (s : Symbol) → is_declared hs s ≡ is_declared gs s
  declared_stays [] [] z s = refl
  declared_stays [] (h ∷ hs) z s = absurd z
  declared_stays (g ∷ gs) [] z s = absurd z
  declared_stays (g ∷ gs) (h ∷ hs) z s = ap₂ (λ (u : Symbol). λ (b : Bool). symbol_eq u s || b) (same_symbol g h z.0) (declared_stays gs hs z.1 s)

  kind_follows : (s : Symbol) (b c : Bool) (d e : Option Definition) → c ≡ b → Follows d e → kind_of c s e ≡ kind_of b s d
  kind_follows s b c None None same h = ap (λ (x : Bool). kind_of x s None) same
  kind_follows s b c (Some (Body f)) (Some (Body g)) same h = ap₂ AFunction h.params h.result
  kind_follows s b c (Some (Storage k v init)) (Some (Storage l w other)) same h = ap AVariable h.0
  kind_follows s b c None (Some e) same h = absurd h
  kind_follows s b c (Some (Body f)) None same h = absurd h
  kind_follows s b c (Some (Body f)) (Some (Storage l w other)) same h = absurd h
  kind_follows s b c (Some (Storage k v init)) None same h = absurd h
  kind_follows s b c (Some (Storage k v init)) (Some (Body g)) same h = absurd h

  code_follows : (d e : Option Definition) → Follows d e → Replaces p bound (code_of e) (code_of d)
  code_follows None None h = tt
  code_follows (Some (Body f)) (Some (Body g)) h = h.better
  code_follows (Some (Storage k v init)) (Some (Storage l w other)) h = tt
  code_follows None (Some e) h = absurd h
  code_follows (Some (Body f)) None h = absurd h
  code_follows (Some (Body f)) (Some (Storage l w other)) h = absurd h
  code_follows (Some (Storage k v init)) None h = absurd h
  code_follows (Some (Storage k v init)) (Some (Body g)) h = absurd h

  storage_follows : (value : Operand → Value) (d e : Option Definition) (rest rest' : Memory) → Follows d e → rest' ≡ rest → storage_in value e rest' ≡ storage_in value d rest
  storage_follows value None None rest rest' h e = e
  storage_follows value (Some (Body f)) (Some (Body g)) rest rest' h e = e
  storage_follows value (Some (Storage k v init)) (Some (Storage l w other)) rest rest' h e =
      subst (λ (u : Variable). storage_in value (Some (Storage l u other)) rest' ≡ storage_in value (Some (Storage k v init)) rest) (sym h.1)
      (subst (λ (i : Initial). storage_in value (Some (Storage l v i)) rest' ≡ storage_in value (Some (Storage k v init)) rest) (sym h.2)
      (ap (λ (m : Memory). storage_in value (Some (Storage k v init)) m) e))
  storage_follows value None (Some e) rest rest' h _ = absurd h
  storage_follows value (Some (Body f)) None rest rest' h _ = absurd h
  storage_follows value (Some (Body f)) (Some (Storage l w other)) rest rest' h _ = absurd h
  storage_follows value (Some (Storage k v init)) None rest rest' h _ = absurd h
  storage_follows value (Some (Storage k v init)) (Some (Body g)) rest rest' h _ = absurd h

  opening_follows : (value : Operand → Value) (gs hs : List GlobalValue) → AllZip (Improves p bound) gs hs → opening_from value hs ≡ opening_from value gs
  opening_follows value [] [] z = refl
  opening_follows value [] (h ∷ hs) z = absurd z
  opening_follows value (g ∷ gs) [] z = absurd z
  opening_follows value (g ∷ gs) (h ∷ hs) z =
      storage_follows value (defined 0 g) (defined 0 h) (opening_from value gs) (opening_from value hs) (one_follows 0 g h z.0) (opening_follows value gs hs z.1)

pub improved_once : ImprovedIsOnce
improved_once p bound gs hs z once = subst (λ (ss : List Symbol). Distinct ss) (sym (symbols_stay p bound gs hs z)) once

pub improved : ImprovedIsBetter
improved gs hs bound z = record {
  signature = same;
  opening = ap (λ (sig : Signature). opening_from (value_of sig []) hs) same ∙ opening_follows (program_of gs) bound (value_of (signature_of gs) []) gs hs z;
  code = λ s. code_follows (program_of gs) bound (definition_of gs s) (definition_of hs s) (follows (program_of gs) bound gs hs 0 z s);
}
  where
    same : signature_of hs ≡ signature_of gs
    same = λ i. record {
      kind = λ s. kind_follows (program_of gs) bound s (is_declared gs s) (is_declared hs s) (definition_of gs s) (definition_of hs s)
          (declared_stays (program_of gs) bound gs hs z s) (follows (program_of gs) bound gs hs 0 z s) i;
    }
