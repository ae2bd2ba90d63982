-- The root of a run: what is found in the code is the program's function, and where nothing is found there is none that takes
-- the arguments.
use Rattle.std.proofs.Common.{◌≡◌, ◌∙◌, ℕ, suc, ◌<◌, Bool, true, false, if◌then◌else◌, List, [], ◌∷◌, length, map, slice_get, Option, Some, None, IfSome, refl, ap, sym, subst, arith}
use Rattle.std.specs.Prelude.{All}
use Rattle.ir_tree.specs.Formed.{IsResult}
use Rattle.ir_tree.specs.Initials.{Initial}
use Rattle.ir_tree.specs.declared.block.Block.{Block}
use Rattle.ir_tree.specs.declared.function.Function.{Function}
use Rattle.ir_tree.specs.declared.function.Param.{Param}
use Rattle.ir_tree.specs.declared.function.Variable.{Variable}
use Rattle.ir_tree.specs.declared.module.GlobalValue.{GlobalValue}
use Rattle.ir_tree.specs.declared.module.GlobalValue.TheVariants as global
use Rattle.ir_tree.specs.declared.operand.Reg.{Reg}
use Rattle.ir_tree.specs.declared.operand.Symbol.{Symbol}
use Rattle.ir_tree.proofs.Symbols.{symbol_true}
use Rattle.ir_meaning.specs.Act.{enter}
use Rattle.ir_meaning.specs.Run.{start, start_of}
use Rattle.ir_tree.specs.Symbols.{symbol_eq}
use Rattle.ir_meaning.specs.declared.value.Value.{Value}
use Rattle.ir_meaning.specs.declared.value.Value.TheVariants.{Number}
use Rattle.ir_meaning.specs.Programs.{Body, Definition, Storage, behind, body_of, code_of, defined, defined_blocks, defined_init, definition_from, or_else, program_of, regs_of, shared, storage_of, symbol_of}
use Rattle.ir_meaning.specs.Runnable.{AreRunnable, IsRunnableFunction, IsRunnableGlobal}
use Rattle.lto_words.specs.declared.list.Decimal.{Decimal}
use Rattle.machine_code.proofs.Rooting.{long_types}
use Rattle.machine_code.specs.Roots as lowered
use Rattle.machine_code.proofs.Lists.{all_got}
use Rattle.machine_code.proofs.Naming.{code_is, symbol_is}
use Rattle.machine_code.specs.Tables.{number_at}
use Rattle.ir_interp.specs.Steps.{CanBegin, numbers_meant}
use Rattle.ir_interp.specs.declared.code.Code.{Code}
use Rattle.run_program.specs.Arguments.{IsGiven, IsTyped}
use Rattle.run_program.specs.Roots.{IsBegun, IsRoot, NoRoot, begun_with, function_in}
use Rattle.run_program.specs.Starting.{arguments, result_of, root_of, started, taken_by}
use Rattle.run_program.specs.declared.root.Begun.{Begun}
use Rattle.run_program.proofs.Taking.{as_many_taken, integers_taken, params_typed, reg_typed}

-- ---- the program's function at a place

has_code : (n : ℕ) (f : Function) → 0 < length (defined_blocks f) → code_of (defined n (global.Function f)) ≡ Some f
has_code n f l = by (defined_blocks f) l where
  by : (bs : List Block) → 0 < length bs → code_of (body_of bs f) ≡ Some f
  by [] h = absurd (omega (arith, h))
  by (b ∷ bs) h = refl

module _ (gs : List GlobalValue) (a : AreRunnable gs) (name : List ℕ) (i : ℕ) (types : List Reg) (r : lowered.IsRoot gs name i types) where
  root_is : root_of (program_of gs) name ≡ Some r.function
  root_is = ap (λ (s : Symbol). (program_of gs).code s) (sym r.named) ∙ code_is gs a.once i (global.Function r.function) r.there ∙ has_code (number_at 0 gs i) r.function r.defined

  found_root : (o : Option Function) → o ≡ function_in (slice_get gs i) → o ≡ Some r.function
  found_root o e = e ∙ ap (λ (g : Option GlobalValue). function_in g) r.there

  root_runs : IsRunnableFunction r.function
  root_runs = all_got IsRunnableGlobal gs i (global.Function r.function) r.there a.each

  -- something is found there
  pub root_there : None ≡ function_in (slice_get gs i) → ⊥
  root_there e = let none : None ≡ Some r.function = found_root None e in cc none

  module _ (f : Function) (found : Some f ≡ function_in (slice_get gs i)) where
    same_root : f ≡ r.function
    same_root = let both : Some f ≡ Some r.function = found_root (Some f) found in cc both

    pub is_root : IsRoot gs name i f
    is_root = record {
      symbol = symbol_is gs i (global.Function r.function) r.there ∙ r.named;
      is = root_is ∙ sym (found_root (Some f) found);
    }

    pub root_count : length types ≡ length f.params
    root_count = ap (λ (ts : List Reg). length ts) (sym r.typed) ∙ long_types r.function.params ∙ ap (λ (x : Function). length x.params) (sym same_root)

    pub root_typed : All (λ (p : Param). IsTyped p.reg) f.params
    root_typed = params_typed f.params (subst (λ (x : Function). IsRunnableFunction x) (sym same_root) root_runs).params

    pub root_gives : IsGiven f.result
    root_gives = by f.result (subst (λ (x : Function). IsRunnableFunction x) (sym same_root) root_runs).result
      where
        by : (o : Option Reg) → IsResult o → IsGiven o
        by None h = tt
        by (Some reg) h = reg_typed reg h

-- ---- the place of the program's function

record Placed (gs : List GlobalValue) (s : Symbol) (f : Function) : Type 0 where
  index : ℕ
  there : slice_get gs index ≡ Some (global.Function f)
  symbol : f.symbol ≡ s
  defined : 0 < length (defined_blocks f)

no_body : (n : ℕ) (v : Variable) (o : Option Initial) (f : Function) → storage_of o n v ≡ Some (Body f) → ⊥
no_body n v None f e = cc e
no_body n v (Some init) f e = cc e

function_body : (g f : Function) (bs : List Block) → defined_blocks g ≡ bs → body_of bs g ≡ Some (Body f) → (g ≡ f) × (0 < length (defined_blocks g))
function_body g f [] z e = absurd (cc e)
function_body g f (b ∷ bs) z e = let same : g ≡ f = cc e in (same, omega (arith, ap (λ (xs : List Block). length xs) z))

first_placed : (n : ℕ) (g : GlobalValue) (gs : List GlobalValue) (s : Symbol) (f : Function) → symbol_of g ≡ s → defined n g ≡ Some (Body f) → Placed (g ∷ gs) s f
first_placed n (global.Variable v) gs s f is e = absurd (no_body n v (defined_init v) f e)
first_placed n (global.Function h) gs s f is e =
    let body = function_body h f (defined_blocks h) refl e in
    record {
      index = 0;
      there = ap (λ (x : Function). Some (global.Function x)) body.0;
      symbol = ap (λ (x : Function). x.symbol) (sym body.0) ∙ is;
      defined = subst (λ (x : Function). 0 < length (defined_blocks x)) body.0 body.1;
    }

code_placed : (n : ℕ) (gs : List GlobalValue) (s : Symbol) (f : Function) → code_of (definition_from n gs s) ≡ Some f → Placed gs s f
code_placed n [] s f e = absurd (cc e)
code_placed n (g ∷ gs) s f e = by (symbol_eq (symbol_of g) s) refl (defined n g) refl (λ h. later (code_placed (behind n (defined n g)) gs s f h)) e
  where
    later : Placed gs s f → Placed (g ∷ gs) s f
    later p = record { index = suc p.index; there = p.there; symbol = p.symbol; defined = p.defined }

    by : (b : Bool) → symbol_eq (symbol_of g) s ≡ b → (d : Option Definition) → defined n g ≡ d
        → (code_of (definition_from (behind n (defined n g)) gs s) ≡ Some f → Placed (g ∷ gs) s f)
        → code_of (or_else (if b then d else None) (definition_from (behind n (defined n g)) gs s)) ≡ Some f → Placed (g ∷ gs) s f
    by false is d e rest h = rest h
    by true is None e rest h = rest h
    by true is (Some (Body k)) e rest h = let same : k ≡ f = cc h in first_placed n g gs s f (symbol_true (symbol_of g) s is) (e ∙ ap (λ (x : Function). Some (Body x)) same)
    by true is (Some (Storage m v init)) e rest h = absurd (cc h)

-- where the code has no root, no function of the name takes integers alone
pub no_root : (gs : List GlobalValue) (name : List ℕ) → ((i : ℕ) (types : List Reg) → lowered.IsRoot gs name i types → ⊥) → NoRoot gs name
no_root gs name never f is integers =
    let p = code_placed 0 gs (shared name) f is in
    never p.index (regs_of f.params) (record { function = f; there = p.there; named = p.symbol; defined = p.defined; integers = integers; typed = refl })

-- ---- the beginning

meant_numbers : (ns : List ℕ) → numbers_meant ns ≡ map (λ (n : ℕ). Number n) ns
meant_numbers [] = refl
meant_numbers (n ∷ ns) = ap (λ (vs : List Value). Number n ∷ vs) (meant_numbers ns)

module _ (gs : List GlobalValue) (root : List ℕ) (args : List Decimal) where
  pub none_begins : NoRoot gs root → IsBegun gs root args None
  none_begins never = ap (λ (o : Option (List ℕ)). started (program_of gs) root o) (by (root_of (program_of gs) root) refl)
    where
      at : (f : Function) → root_of (program_of gs) root ≡ Some f → (o : Option (List ℕ)) → arguments f.params args ≡ o → o ≡ None
      at f is None e = refl
      at f is (Some ns) e = absurd (never f is (integers_taken f.params args ns e))

      by : (o : Option Function) → root_of (program_of gs) root ≡ o → taken_by o args ≡ None
      by None is = refl
      by (Some f) is = at f is (arguments f.params args) refl

  module _ (i : ℕ) (f : Function) (r : IsRoot gs root i f) where
    takes : (taken : Option (List ℕ)) → taken ≡ arguments f.params args → taken_by (root_of (program_of gs) root) args ≡ taken
    takes taken e = ap (λ (o : Option Function). taken_by o args) r.is ∙ sym e

    enters : (vs : List Value) → start (program_of gs) (shared root) vs ≡ Some (record { top = enter f vs; below = []; memory = (program_of gs).opening; place = 0 })
    enters vs = ap (λ (o : Option Function). start_of o vs (program_of gs).opening) r.is

    pub root_begins : (taken : Option (List ℕ)) → taken ≡ arguments f.params args → IsBegun gs root args (begun_with i f.result taken)
    root_begins None e = ap (λ (o : Option (List ℕ)). started (program_of gs) root o) (takes None e)
    root_begins (Some ns) e = record {
      first = record { top = enter f (map (λ (n : ℕ). Number n) ns); below = []; memory = (program_of gs).opening; place = 0 };
      begins = ap (λ (o : Option (List ℕ)). started (program_of gs) root o) (takes (Some ns) e) ∙ enters (map (λ (n : ℕ). Number n) ns);
      starts =
          ap (λ (s : Symbol). start (program_of gs) s (numbers_meant ns)) r.symbol
          ∙ ap (λ (vs : List Value). start (program_of gs) (shared root) vs) (meant_numbers ns)
          ∙ enters (map (λ (n : ℕ). Number n) ns);
      gives = sym (ap (λ (o : Option Function). result_of o) r.is);
    }

-- the code can begin with what is taken
pub can_begin : (code : Code) (i : ℕ) (f : Function) (args : List Decimal) (taken : Option (List ℕ)) → CanBegin code i (length f.params) → taken ≡ arguments f.params args
    → IfSome (begun_with i f.result taken) (λ (b : Begun). CanBegin code b.index (length b.numbers))
can_begin code i f args None can e = tt
can_begin code i f args (Some ns) can e = subst (λ (n : ℕ). CanBegin code i n) (sym (as_many_taken f.params args ns (sym e))) can

pub begun_gives : (i : ℕ) (f : Function) (taken : Option (List ℕ)) → IsGiven f.result → IfSome (begun_with i f.result taken) (λ (b : Begun). IsGiven b.gives)
begun_gives i f None gives = tt
begun_gives i f (Some ns) gives = gives
