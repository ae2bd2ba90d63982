-- Results of resolution, and the stages that a module that is read passed.
use Rattle.std.proofs.Common.{◌≡◌, ℕ, Bool, Option, Some, None, Result, Ok, Err, List, [], ◌∷◌, ◌++◌, map, refl, sym, ap, subst, ◌∙◌}
use Rattle.std.specs.List.{AllByRecursion as Each}
use Rattle.ir_parse_values.specs.Blocks.{as_phi, phi_of, phi_before, lines_behind, phis_of, rest_of, params_from}
use Rattle.ir_parse_names.specs.Bodies.{align_or}
use Rattle.ir_parse_names.specs.Groups.{groups_of}
use Rattle.ir_parse_names.specs.Marks.{marks_of}
use Rattle.ir_parse_names.specs.Resolving.{◌>>=◌}
use Rattle.ir_parse_names.specs.Stages.{marks_within, globals_named}
use Rattle.ir_parse_names.specs.Symbols.{symbol_of}
use Rattle.ir_parse_names.specs.TypeNames.{type_names}
use Rattle.ir_parse_names.specs.Types.{Types}
use Rattle.ir_parse.specs.Stages.{module_in, module_with}
use Rattle.ir_parse.specs.Targets.{datalayout_of, triple_of}
use Rattle.ir_parse.specs.Values.{put, values_in}
use Rattle.ir_parse_parts.specs.declared.raw.FunctionHeader.{FunctionHeader}
use Rattle.ir_parse_parts.specs.declared.raw.Item.{Item}
use Rattle.ir_parse_parts.specs.declared.raw.Variable as raw_variable
use Rattle.ir_tree.specs.Forms.{Form}
use Rattle.ir_tree.specs.Initials.{Initial}
use Rattle.ir_tree.specs.Layout.{align}
use Rattle.ir_tree.specs.declared.block.Block.{Block}
use Rattle.ir_tree.specs.declared.function.Function.{Function}
use Rattle.ir_tree.specs.declared.function.Variable.{Variable}
use Rattle.ir_tree.specs.declared.instr.Instr.{Instr}
use Rattle.ir_tree.specs.declared.instr.Instr.TheVariants as ti
use Rattle.ir_tree.specs.declared.instr.Line.{Line}
use Rattle.ir_tree.specs.declared.instr.Phi.{Phi}
use Rattle.ir_tree.specs.declared.module.GlobalValue.{GlobalValue}
use Rattle.ir_tree.specs.declared.module.Module.{Module}
use Rattle.ir_round_trip.specs.Bodies.{phi_as_line}

-- ---- results

pub one : {A E : Type 0} {x y : A} → ◌≡◌ {A = Result A E} (Ok x) (Ok y) → x ≡ y
one e = cc

-- what is given behind another result
pub took : {A B E : Type 0} (r : Result A E) (f : A → Result B E) (y : B) → r >>= f ≡ Ok y → (x : A) × (r ≡ Ok x) × (f x ≡ Ok y)
took (Ok x) f y e = (x, refl, e)
took (Err d) f y e = absurd cc

-- ---- phis stand first

a_phi : (local : Option ℕ) (i : Instr) (p : Phi) → phi_of local i ≡ Some p → phi_as_line p ≡ record { local = local; instr = i }
a_phi (Some n) (ti.Phi reg incoming) p e = let same : record { local = n; reg = reg; incoming = incoming } ≡ p = cc in ap phi_as_line (sym same)
a_phi local i p e = absurd cc

-- the phis and the lines behind them are the lines of the text
pub parted : (ls : List Line) → map phi_as_line (phis_of ls) ++ rest_of ls ≡ ls
parted [] = refl
parted (l ∷ ls) = by (parted ls) (as_phi l) refl
  where
    by : map phi_as_line (phis_of ls) ++ rest_of ls ≡ ls → (o : Option Phi) → as_phi l ≡ o → map phi_as_line (phi_before o (phis_of ls)) ++ lines_behind o (l ∷ ls) (rest_of ls) ≡ l ∷ ls
    by more None e = refl
    by more (Some p) e = ap (λ (k : Line). k ∷ (map phi_as_line (phis_of ls) ++ rest_of ls)) (a_phi l.local l.instr p e) ∙ ap (λ (ks : List Line). l ∷ ks) more

-- ---- what is made of heads and of variables

abbrev pub read_function : FunctionHeader → Bool → Bool → List Block → Function
read_function head noinline optnone bs =
    record { symbol = symbol_of head.name; linkage = head.linkage; result = head.result; params = params_from 0 head.params; noinline = noinline; optnone = optnone; blocks = bs }

abbrev pub read_variable : raw_variable.Variable → Form → Option Initial → Variable
read_variable r f i = record { symbol = symbol_of r.name; linkage = r.linkage; constant = r.constant; shape = f; init = i; align = align_or (align f) r.align }

-- ---- values

abbrev pub IfThere : (GlobalValue → Type 0) → Option GlobalValue → Type 0
IfThere P None = Unit {0}
IfThere P (Some g) = P g

pub put_each : (P : GlobalValue → Type 0) (o : Option GlobalValue) (gs : List GlobalValue) → IfThere P o → Each P gs → Each P (put o gs)
put_each P None gs h more = more
put_each P (Some g) gs h more = (h, more)

-- ---- modules

abbrev read_module : List Item → List GlobalValue → Module
read_module is gs = record { datalayout = datalayout_of is; triple = triple_of is; globals = gs }

-- the stages of a module, each with what it gives
pub record Staged (is : List Item) (m : Module) : Type 0 where
  pub types : Types
  pub typed : type_names (marks_of is) ≡ Ok types
  pub values : values_in types (groups_of is) is ≡ Ok m.globals
  pub layout : datalayout_of is ≡ m.datalayout
  pub triple : triple_of is ≡ m.triple

pub staged : (is : List Item) (m : Module) → module_in is ≡ Ok m → Staged is m
unfolding module_in module_with
staged is m e =
    let types = took (type_names (marks_of is)) _ m e in
    let within = took (marks_within types.0 (marks_of is)) _ m types.2 in
    let named = took (globals_named (marks_of is)) _ m within.2 in
    let values = took (values_in types.0 (groups_of is) is) (λ gs. Ok (read_module is gs)) m named.2 in
    let same : read_module is values.0 ≡ m = one values.2 in
    subst (Staged is) same (record { types = types.0; typed = types.1; values = values.1; layout = refl; triple = refl })
