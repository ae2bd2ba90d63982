-- Functions all of whose uses are covered by one family of sets: each operand is a local of the set at its point.
use Rattle.std.proofs.Common.{◌≡◌, ℕ, nat_eq, Bool, true, false, ◌||◌, List, [], ◌∷◌, ◌++◌, Option, Some, None, refl, sym, ◌∙◌, ap}
use Rattle.std.specs.Prelude.{slice_get}
use Rattle.std.specs.List.{cons_option}
use Rattle.std.proofs.lemmas.List.Folds.{list_any-append}
use Rattle.ir_tree.specs.Flow.{Among, IsJustified, availability, definitions, edges, holds, locals, phi_locals, results}
use Rattle.ir_tree.specs.Formed.{Distinct, numbers}
use Rattle.ir_tree.specs.Rules.{IsNoPhi}
use Rattle.ir_tree.specs.declared.block.Block.{Block}
use Rattle.ir_tree.specs.declared.function.Function.{Function}
use Rattle.ir_tree.specs.declared.instr.Incoming.{Incoming}
use Rattle.ir_tree.specs.declared.instr.Line.{Line}
use Rattle.ir_tree.specs.declared.instr.Phi.{Phi}
use Rattle.ir_tree.specs.declared.operand.Operand.{Operand}
use Rattle.ir_meaning.specs.Facts.{edge_operand}
use Rattle.ir_meaning.specs.Needed.{EndReads, IsKept, UsesKept}

-- ---- sets along the lines of a block

abbrev pub named : Option ℕ → ℕ → Bool
named None x = false
named (Some y) x = nat_eq x y

abbrev pub with_named : (ℕ → Bool) → Option ℕ → ℕ → Bool
with_named s o x = s x || named o x

abbrev pub behind : (ℕ → Bool) → List Line → ℕ → Bool
behind s [] = s
behind s (l ∷ ls) = behind (with_named s l.local) ls

-- behind a block's phis, and at its end
abbrev pub opening : (ℕ → ℕ → Bool) → ℕ → Block → ℕ → Bool
opening r p b x = r p x || holds (phi_locals b) x

abbrev pub closing : (ℕ → ℕ → Bool) → ℕ → Block → ℕ → Bool
closing r p b x = r p x || holds (definitions b) x

or_none : (a : Bool) → (a || false) ≡ a
or_none true = refl
or_none false = refl

or_moved : (a b c : Bool) → ((a || b) || c) ≡ (a || (b || c))
or_moved true b c = refl
or_moved false b c = refl

pub behind_is : (s : ℕ → Bool) (ls : List Line) (x : ℕ) → behind s ls x ≡ (s x || holds (results ls) x)
behind_is s [] x = sym (or_none (s x))
behind_is s (l ∷ ls) x = behind_is (with_named s l.local) ls x ∙ by l.local
  where
    by : (o : Option ℕ) → ((s x || named o x) || holds (results ls) x) ≡ (s x || holds (cons_option o (results ls)) x)
    by None = ap (λ (b : Bool). b || holds (results ls) x) (or_none (s x))
    by (Some y) = or_moved (s x) (nat_eq x y) (holds (results ls) x)

pub closing_is : (r : ℕ → ℕ → Bool) (p : ℕ) (b : Block) (x : ℕ) → behind (opening r p b) b.lines x ≡ closing r p b x
closing_is r p b x =
    behind_is (opening r p b) b.lines x
    ∙ or_moved (r p x) (holds (phi_locals b) x) (holds (results b.lines) x)
    ∙ ap (λ (v : Bool). r p x || v) (sym (list_any-append (nat_eq x) (phi_locals b) (results b.lines)))

-- ---- what is covered

abbrev pub LinesCovered : (ℕ → Bool) → List Line → Type 0
LinesCovered s [] = Unit {0}
LinesCovered s (l ∷ ls) = IsNoPhi l.instr × UsesKept s l.instr × LinesCovered (with_named s l.local) ls

-- an operand that is taken at the end of the block of a number
pub record TakenAt (r : ℕ → ℕ → Bool) (f : Function) (n : ℕ) (o : Operand) : Type 0 where
  pub place : ℕ
  pub block : Block
  pub found : slice_get f.blocks place ≡ Some block
  pub number : block.number ≡ n
  pub kept : IsKept (closing r place block) o

abbrev pub EdgesCovered : (ℕ → ℕ → Bool) → Function → List Incoming → Type 0
EdgesCovered r f [] = Unit {0}
EdgesCovered r f (e ∷ es) = TakenAt r f e.from e.value × EdgesCovered r f es

abbrev pub PhisCovered : (ℕ → ℕ → Bool) → Function → List Phi → Type 0
PhisCovered r f [] = Unit {0}
PhisCovered r f (p ∷ ps) = EdgesCovered r f p.incoming × PhisCovered r f ps

-- each phi takes an operand on the edge from a block
abbrev pub HasEntry : ℕ → List Incoming → Type 0
HasEntry n es = (o : Operand) × (edge_operand n es ≡ Some o)

abbrev pub PhisEntered : ℕ → List Phi → Type 0
PhisEntered n [] = Unit {0}
PhisEntered n (p ∷ ps) = HasEntry n p.incoming × PhisEntered n ps

pub record BlockCovered (r : ℕ → ℕ → Bool) (f : Function) (p : ℕ) (b : Block) : Type 0 where
  pub phis : PhisCovered r f b.phis
  pub lines : LinesCovered (opening r p b) b.lines
  pub end : EndReads (closing r p b) b.end
  pub entered : (q : ℕ) (a : Block) → Among q (edges f p) → slice_get f.blocks q ≡ Some a → PhisEntered a.number b.phis

pub record Covers (r : ℕ → ℕ → Bool) (f : Function) : Type 0 where
  pub justified : IsJustified (availability f) r
  pub blocks : (p : ℕ) (b : Block) → slice_get f.blocks p ≡ Some b → BlockCovered r f p b
  pub bare : (b : Block) → slice_get f.blocks 0 ≡ Some b → b.phis ≡ []
  pub once : Distinct (locals f ++ numbers f)
