-- A definition that is settled is formed and sound as it was, and so are the declarations of the outside's functions.
use Rattle.std.proofs.Common.{◌≡◌, ℕ, zero, suc, Bool, true, false, cond, List, [], ◌∷◌, None, refl, ap, arith}
use Rattle.std.proofs.lemmas.List.Elements.{All-cons, All-nil, All-weaker}
use Rattle.std.specs.List.{All}
use Rattle.ir_tree.specs.Formed.{Distinct, Formed, IsReg, ItemFormed}
use Rattle.ir_tree.specs.Items.{Item, phi_item, line_item, end_item, items}
use Rattle.ir_tree.specs.Linkages.{defines}
use Rattle.ir_tree.specs.Rules.{HasEdges, Keeps, LineOnEdges, OnEdges}
use Rattle.ir_tree.specs.Wholes.{GlobalFormed, GlobalSound}
use Rattle.ir_tree.specs.declared.block.Block.{Block}
use Rattle.ir_tree.specs.declared.function.Function.{Function}
use Rattle.ir_tree.specs.declared.function.Linkage.{Linkage}
use Rattle.ir_tree.specs.declared.function.Param.{Param}
use Rattle.ir_tree.specs.declared.function.Variable.{Variable}
use Rattle.ir_tree.specs.declared.instr.Incoming.{Incoming}
use Rattle.ir_tree.specs.declared.instr.Instr.{Instr}
use Rattle.ir_tree.specs.declared.instr.Instr.TheVariants as kind
use Rattle.ir_tree.specs.declared.module.GlobalValue.{GlobalValue}
use Rattle.ir_tree.specs.declared.module.GlobalValue.TheVariants as global
use Rattle.ir_tree.specs.declared.operand.Reg.TheVariants.{Int}
use Rattle.ir_tree.specs.declared.rule.Rule.{Rule}
use Rattle.ir_tree.specs.declared.rule.Rule.TheVariants.{TypeMismatch, NotAvailable, PhiEdges, PhiPlace, EntryBranch, Index, Cast, CaseTwice}
use Rattle.ir_meaning.specs.Programs.{body_of, storage_of}
use Rattle.merge_meaning.specs.Linked.{IsDefinition}
use Rattle.merge_meaning.specs.Hosts.{getchar, putchar}
use Rattle.emit.specs.Emissions.{linkage_of, settled}

-- ---- a definition has a body or an initialiser

pub has_blocks : (f : Function) → IsDefinition (global.Function f) → f.blocks ≡ [] → ⊥
has_blocks f is none = is (by (defines f.linkage))
  where
    by : (b : Bool) → body_of (cond b f.blocks []) f ≡ None
    by true = ap (λ (bs : List Block). body_of bs f) none
    by false = refl

has_init : (v : Variable) → IsDefinition (global.Variable v) → v.init ≡ None → ⊥
has_init v is none = is (by (defines v.linkage))
  where
    by : (b : Bool) → storage_of (cond b v.init None) 0 v ≡ None
    by true = ap (λ init. storage_of init 0 v) none
    by false = refl

-- ---- under another linkage

abbrev under : Linkage → Function → Function
under l f = record f { linkage = l }

item_under : (l : Linkage) (f : Function) (item : Item) → ItemFormed f item → ItemFormed (under l f) item
item_under l f item h = record { operands = h.operands; sources = h.sources; kind = h.kind }

formed_under : (l : Linkage) (f : Function) → IsDefinition (global.Function f) → Formed f → Formed (under l f)
formed_under l f is h = record {
  result = h.result;
  params = h.params;
  once = h.once;
  items = All-weaker (ItemFormed f) (ItemFormed (under l f)) (item_under l f) (items f) h.items;
  declared = λ none. absurd (has_blocks f is none);
}

edges_under : (l : Linkage) (f : Function) (b : ℕ) (es : List Incoming) → OnEdges f b es → OnEdges (under l f) b es
edges_under l f b es h = record { each = h.each; equal = h.equal }

line_under : (l : Linkage) (f : Function) (b : ℕ) (i : Instr) → LineOnEdges f b i → LineOnEdges (under l f) b i
line_under l f b (kind.Phi reg incoming) h = edges_under l f b incoming h
line_under l f b _ h = h

has_edges : (l : Linkage) (f : Function) (item : Item) → HasEdges f item → HasEdges (under l f) item
has_edges l f (phi_item b phi) h = edges_under l f b phi.incoming h
has_edges l f (line_item b k line) h = line_under l f b line.instr h
has_edges l f (end_item b t) h = h

keeps_under : (l : Linkage) (f : Function) (rule : Rule) → All (Keeps f rule) (items f) → All (Keeps (under l f) rule) (items f)
keeps_under l f TypeMismatch h = h
keeps_under l f NotAvailable h = h
keeps_under l f PhiEdges h = All-weaker (HasEdges f) (HasEdges (under l f)) (has_edges l f) (items f) h
keeps_under l f PhiPlace h = h
keeps_under l f EntryBranch h = h
keeps_under l f Index h = h
keeps_under l f Cast h = h
keeps_under l f CaseTwice h = h

pub settled_formed : (exports : List (List ℕ)) (h : GlobalValue) → IsDefinition h → GlobalFormed h → GlobalFormed (settled exports h)
settled_formed exports (global.Variable v) is h = record { shape = h.shape; align = h.align; operands = h.operands; declared = λ none. absurd (has_init v is none) }
settled_formed exports (global.Function f) is h = formed_under (linkage_of exports f.symbol.name) f is h

pub settled_sound : (exports : List (List ℕ)) (h : GlobalValue) → IsDefinition h → GlobalSound h → GlobalSound (settled exports h)
settled_sound exports (global.Variable v) is h = h
settled_sound exports (global.Function f) is h = record {
  formed = formed_under (linkage_of exports f.symbol.name) f is h.formed;
  rules = λ rule. keeps_under (linkage_of exports f.symbol.name) f rule (h.rules rule);
}

-- ---- functions of the outside

no_param : Distinct {X = ℕ} []
no_param i j x a b = absurd (cc a)

one_param : Distinct {X = ℕ} (0 ∷ [])
one_param zero zero x a b = refl
one_param zero (suc j) x a b = absurd (cc b)
one_param (suc i) j x a b = absurd (cc a)

pub getchar_formed : GlobalFormed getchar
getchar_formed = record { result = (omega arith, omega arith); params = All-nil _; once = no_param; items = All-nil _; declared = λ none. (refl, refl, refl) }

pub putchar_formed : GlobalFormed putchar
putchar_formed = record {
  result = (omega arith, omega arith);
  params = All-cons (λ (p : Param). IsReg p.reg) (record { local = 0; reg = Int 32 }) [] (omega arith, omega arith) (All-nil _);
  once = one_param;
  items = All-nil _;
  declared = λ none. (refl, refl, refl);
}

pub getchar_sound : GlobalSound getchar
getchar_sound = record { formed = getchar_formed; rules = λ rule. All-nil _ }

pub putchar_sound : GlobalSound putchar
putchar_sound = record { formed = putchar_formed; rules = λ rule. All-nil _ }
