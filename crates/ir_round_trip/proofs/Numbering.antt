-- The functions of a module that was read are numbered along their text.
use Rattle.std.proofs.Common.{◌≡◌, ℕ, ◌+◌, Bool, true, false, cond, Option, Some, None, Result, Ok, List, [], ◌∷◌, length, refl, sym, ap, subst, ◌∙◌, arith}
use Rattle.std.specs.List.{AllByRecursion as Each}
use Rattle.ir_parse_values.specs.Blocks.{as_phi, lines_behind, rest_of, body_of, body_in, block_of, block_in, behind_block, blocks_in, params_from, blocks_of, function_in}
use Rattle.ir_parse_names.specs.Bodies.{local_at, behind_line, lines_in, behind_lines, instr_in, end_in}
use Rattle.ir_parse_names.specs.Groups.{groups_of, is_noinline, is_optnone}
use Rattle.ir_parse_names.specs.Locals.{LocalTable}
use Rattle.ir_parse_names.specs.Numbering.{is_defined, locals_of}
use Rattle.ir_parse_names.specs.Resolving.{◌>>=◌}
use Rattle.ir_parse_names.specs.Types.{Types}
use Rattle.ir_parse_names.specs.Variables.{variable_in}
use Rattle.ir_parse_values.specs.declared.block.Body.{Body}
use Rattle.ir_parse_names.specs.declared.fault.Fault.{Fault}
use Rattle.ir_parse_names.specs.declared.groups.Groups.{Groups}
use Rattle.ir_parse.specs.Reading.{Reads}
use Rattle.ir_parse.specs.Values.{put, value_in, values_in}
use Rattle.ir_parse_parts.specs.declared.raw.Block as raw_block
use Rattle.ir_parse_parts.specs.declared.raw.FunctionHeader.{FunctionHeader}
use Rattle.ir_parse_parts.specs.declared.raw.Item.{Item}
use Rattle.ir_parse_parts.specs.declared.raw.Item.TheVariants as items
use Rattle.ir_parse_parts.specs.declared.raw.WrittenLine as raw_line
use Rattle.ir_parse_parts.specs.declared.raw.Param as raw_param
use Rattle.ir_tree.specs.declared.block.Block.{Block}
use Rattle.ir_tree.specs.declared.block.Terminator.{Terminator}
use Rattle.ir_tree.specs.declared.function.Function.{Function}
use Rattle.ir_tree.specs.declared.instr.Instr.{Instr}
use Rattle.ir_tree.specs.declared.instr.Line.{Line}
use Rattle.ir_tree.specs.declared.instr.Phi.{Phi}
use Rattle.ir_tree.specs.declared.module.GlobalValue.{GlobalValue}
use Rattle.ir_tree.specs.declared.module.GlobalValue.TheVariants as globals
use Rattle.ir_tree.specs.declared.module.Module.{Module}
use Rattle.ir_round_trip.specs.Numbered.{LocalsNumbered}
use Rattle.ir_round_trip.specs.Bodies.{stated}
use Rattle.ir_round_trip.specs.PrintedKnown.{FirstIsNoPhi}
use Rattle.ir_round_trip.proofs.Stages.{IfThere, one, parted, put_each, read_function, staged, took}
use Rattle.ir_round_trip.specs.Sorts.{ParamsFollow, ResultFollows, LinesFollow, BlocksFollow, past, past_lines, past_params, IsNumbered}

-- ---- parameters

params_follow : (n : ℕ) (ps : List raw_param.Param) → ParamsFollow n (params_from n ps)
params_follow n [] = tt
params_follow n (p ∷ ps) = (refl, params_follow (n + 1) ps)

behind_params : (n : ℕ) (ps : List raw_param.Param) → past_params n (params_from n ps) ≡ n + length ps
behind_params n [] = omega arith
behind_params n (p ∷ ps) = behind_params (n + 1) ps ∙ omega arith

-- ---- phis stand first

no_phi_first : (ls : List Line) → FirstIsNoPhi (rest_of ls)
no_phi_first [] = tt
no_phi_first (l ∷ ls) = by (no_phi_first ls) (as_phi l) refl
  where
    by : FirstIsNoPhi (rest_of ls) → (o : Option Phi) → as_phi l ≡ o → FirstIsNoPhi (lines_behind o (l ∷ ls) (rest_of ls))
    by more None e = e
    by more (Some p) e = more

-- ---- lines

module _ (types : Types) (known : LocalTable) where
  local_follows : (n : ℕ) (l : raw_line.WrittenLine) → ResultFollows n (local_at n l) × (past n (local_at n l) ≡ behind_line n l)
  local_follows n l = by (is_defined l)
    where
      by : (b : Bool) → ResultFollows n (cond b (Some n) None) × (past n (cond b (Some n) None) ≡ cond b (n + 1) n)
      by true = (refl, refl)
      by false = (tt, refl)

  abbrev LinesRight : ℕ → List raw_line.WrittenLine → List Line → Type 0
  LinesRight n ls ts = LinesFollow n ts × (past_lines n ts ≡ behind_lines n ls)

  abbrev read_line : ℕ → raw_line.WrittenLine → Instr → Line
  read_line n l i = record { local = local_at n l; instr = i }

  lines_follow : (n : ℕ) (ls : List raw_line.WrittenLine) (ts : List Line) → lines_in types known n ls ≡ Ok ts → LinesRight n ls ts
  lines_follow n [] ts e = subst (LinesRight n []) (one e) (tt, refl)
  lines_follow n (l ∷ ls) ts e =
      let i = took (instr_in types known l.instr) (λ i. lines_in types known (behind_line n l) ls >>= λ more. Ok (read_line n l i ∷ more)) ts e in
      let more = took (lines_in types known (behind_line n l) ls) (λ more. Ok (read_line n l i.0 ∷ more)) ts i.2 in
      let rest = lines_follow (behind_line n l) ls more.0 more.1 in
      let here = local_follows n l in
      subst (LinesRight n (l ∷ ls)) (one more.2) ((here.0, subst (λ (m : ℕ). LinesFollow m more.0) (sym here.1) rest.0), ap (λ (m : ℕ). past_lines m more.0) here.1 ∙ rest.1)

  -- ---- blocks

  record BlockRight (n : ℕ) (b : raw_block.Block) (t : Block) : Type 0 where
    number : t.number ≡ n
    lines : LinesRight (n + 1) b.lines (stated t)
    first : FirstIsNoPhi t.lines

  abbrev read_block : ℕ → Body → Terminator → Block
  read_block n body e = record { number = n; phis = body.phis; lines = body.lines; end = e }

  block_follows : (n : ℕ) (b : raw_block.Block) (t : Block) → block_in types known n b ≡ Ok t → BlockRight n b t
  unfolding block_of
  block_follows n b t e =
      let body = took (body_in types known (n + 1) b.lines) (λ body. end_in types known b.end >>= λ end. Ok (read_block n body end)) t e in
      let end = took (end_in types known b.end) (λ end. Ok (read_block n body.0 end)) t body.2 in
      let ls = took (lines_in types known (n + 1) b.lines) (λ ls. Ok (body_of ls)) body.0 body.1 in
      let right : BlockRight n b (read_block n (body_of ls.0) end.0) = record {
        number = refl;
        lines = subst (LinesRight (n + 1) b.lines) (sym (parted ls.0)) (lines_follow (n + 1) b.lines ls.0 ls.1);
        first = no_phi_first ls.0;
      } in
      subst (BlockRight n b) (one end.2) (subst (λ (x : Body). BlockRight n b (read_block n x end.0)) (one ls.2) right)

  abbrev BlocksRight : ℕ → List Block → Type 0
  BlocksRight n ts = BlocksFollow n ts × Each (λ (t : Block). FirstIsNoPhi t.lines) ts

  blocks_follow : (n : ℕ) (bs : List raw_block.Block) (ts : List Block) → blocks_in types known n bs ≡ Ok ts → BlocksRight n ts
  blocks_follow n [] ts e = subst (BlocksRight n) (one e) (tt, tt)
  blocks_follow n (b ∷ bs) ts e =
      let t = took (block_in types known n b) (λ t. blocks_in types known (behind_block n b) bs >>= λ more. Ok (t ∷ more)) ts e in
      let more = took (blocks_in types known (behind_block n b) bs) (λ more. Ok (t.0 ∷ more)) ts t.2 in
      let here = block_follows n b t.0 t.1 in
      let rest = blocks_follow (behind_block n b) bs more.0 more.1 in
      subst (BlocksRight n) (one more.2) (((here.number, here.lines.0), subst (λ (m : ℕ). BlocksFollow m more.0) (sym here.lines.1) rest.0), (here.first, rest.1))

-- ---- functions

-- and no phi stands first behind the phis of a block
abbrev pub FunctionRight : Function → Type 0
FunctionRight f = IsNumbered f × Each (λ (t : Block). FirstIsNoPhi t.lines) f.blocks

pub function_numbered : (types : Types) (head : FunctionHeader) (blocks : List raw_block.Block) (noinline optnone : Bool) (f : Function) → function_in types head blocks noinline optnone ≡ Ok f → FunctionRight f
unfolding function_in
function_numbered types head blocks noinline optnone f e =
    let bs = took (blocks_of types head.params blocks) (λ bs. Ok (read_function head noinline optnone bs)) f e in
    let known = took (locals_of head.params blocks) (λ known. blocks_in types known (length head.params) blocks) bs.0 bs.1 in
    let right = blocks_follow types known.0 (length head.params) blocks bs.0 known.2 in
    let behind : length head.params ≡ past_params 0 (params_from 0 head.params) = sym (behind_params 0 head.params ∙ omega arith) in
    subst FunctionRight (one bs.2) ((params_follow 0 head.params, subst (λ (m : ℕ). BlocksFollow m bs.0) behind right.0), right.1)

-- ---- modules

-- of each function
abbrev pub ValueRight : GlobalValue → Type 0
ValueRight (globals.Variable v) = Unit {0}
ValueRight (globals.Function f) = FunctionRight f

module _ (types : Types) (groups : Groups) where
  no_value : (o : Option GlobalValue) → ◌≡◌ {A = Result (Option GlobalValue) Fault} (Ok None) (Ok o) → IfThere ValueRight o
  no_value o e = subst (IfThere ValueRight) (one e) tt

  function_value : (head : FunctionHeader) (blocks : List raw_block.Block) (noinline optnone : Bool) (o : Option GlobalValue) → function_in types head blocks noinline optnone >>= (λ f. Ok (Some (globals.Function f))) ≡ Ok o → IfThere ValueRight o
  function_value head blocks noinline optnone o e =
      let f = took (function_in types head blocks noinline optnone) (λ f. Ok (Some (globals.Function f))) o e in
      subst (IfThere ValueRight) (one f.2) (function_numbered types head blocks noinline optnone f.0 f.1)

  value_right : (i : Item) (o : Option GlobalValue) → value_in types groups i ≡ Ok o → IfThere ValueRight o
  value_right (items.Variable v) o e =
      let x = took (variable_in types v) (λ t. Ok (Some (globals.Variable t))) o e in subst (IfThere ValueRight) (one x.2) tt
  value_right (items.Declaration head) o e = function_value head [] false false o e
  value_right (items.Definition head blocks) o e = function_value head blocks (is_noinline groups head) (is_optnone groups head) o e
  value_right (items.Datalayout string) o e = no_value o e
  value_right (items.Triple string) o e = no_value o e
  value_right (items.Attributes group noinline optnone) o e = no_value o e
  value_right (items.Type name typed) o e = no_value o e

  values_right : (is : List Item) (gs : List GlobalValue) → values_in types groups is ≡ Ok gs → Each ValueRight gs
  values_right [] gs e = subst (Each ValueRight) (one e) tt
  values_right (i ∷ is) gs e =
      let o = took (value_in types groups i) (λ o. values_in types groups is >>= λ more. Ok (put o more)) gs e in
      let more = took (values_in types groups is) (λ more. Ok (put o.0 more)) gs o.2 in
      subst (Each ValueRight) (one more.2) (put_each ValueRight o.0 more.0 (value_right i o.0 o.1) (values_right is more.0 more.1))

pub read_right : (bytes : List ℕ) (m : Module) (lines : List (List ℕ)) → Reads bytes m lines → Each ValueRight m.globals
read_right bytes m lines r = let s = staged r.items m r.stand in values_right s.types (groups_of r.items) r.items m.globals s.values

numbered : (gs : List GlobalValue) → Each ValueRight gs → Each LocalsNumbered gs
numbered [] h = tt
numbered (globals.Variable v ∷ gs) h = (tt, numbered gs h.1)
numbered (globals.Function f ∷ gs) h = (h.0.0, numbered gs h.1)

pub read_numbered : (bytes : List ℕ) (m : Module) (lines : List (List ℕ)) → Reads bytes m lines → Each LocalsNumbered m.globals
read_numbered bytes m lines r = numbered m.globals (read_right bytes m lines r)
