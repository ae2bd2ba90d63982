-- The strings of a module that was read from bytes are bytes.
use Rattle.std.proofs.Common.{◌≡◌, ℕ, Bool, Option, Some, None, Result, Ok, List, [], ◌∷◌, false, subst}
use Rattle.std.specs.List.{AllByRecursion as Each}
use Rattle.std.specs.Prelude.{filter_map, IfSome}
use Rattle.ir_lex.specs.Tok.{Tok}
use Rattle.ir_parse_values.specs.Blocks.{function_in}
use Rattle.ir_parse_names.specs.Bodies.{operand_in}
use Rattle.ir_parse_names.specs.Groups.{groups_of, is_noinline, is_optnone}
use Rattle.ir_parse_names.specs.Locals.{LocalTable, none_known}
use Rattle.ir_parse_names.specs.Resolving.{◌>>=◌, each}
use Rattle.ir_parse_names.specs.Types.{Types, expanded}
use Rattle.ir_parse_names.specs.Variables.{constant_for, head_in, part_in, init_in, init_if, variable_in}
use Rattle.ir_parse_names.specs.declared.fault.Fault.{Fault}
use Rattle.ir_parse_names.specs.declared.groups.Groups.{Groups}
use Rattle.ir_parse.specs.Reading.{Reads}
use Rattle.ir_parse.specs.Targets.{last_or, text_of, triple_string}
use Rattle.ir_parse.specs.Values.{put, value_in, values_in}
use Rattle.ir_parse_parts.specs.declared.raw.Block as raw_block
use Rattle.ir_parse_parts.specs.declared.raw.FunctionHeader as raw_function
use Rattle.ir_parse_parts.specs.declared.raw.Init as raw_init
use Rattle.ir_parse_parts.specs.declared.raw.InitHead as raw_head
use Rattle.ir_parse_parts.specs.declared.raw.InitHead.TheVariants as rh
use Rattle.ir_parse_parts.specs.declared.raw.InitPart as raw_part
use Rattle.ir_parse_parts.specs.declared.raw.InitPart.TheVariants as rp
use Rattle.ir_parse_parts.specs.declared.raw.Item.{Item}
use Rattle.ir_parse_parts.specs.declared.raw.Item.TheVariants as items
use Rattle.ir_parse_parts.specs.declared.raw.Variable as raw_variable
use Rattle.ir_parse_parts.specs.Shapes.{Written}
use Rattle.ir_tree.specs.Forms.{Form}
use Rattle.ir_tree.specs.Initials.{Initial, Initials, Levels, around, begun, headed, levels, tree_of}
use Rattle.ir_tree.specs.Names.{AllBytes}
use Rattle.ir_tree.specs.declared.function.Variable.{Variable}
use Rattle.ir_tree.specs.declared.init_node.InitHead.{InitHead}
use Rattle.ir_tree.specs.declared.init_node.InitHead.TheVariants as th
use Rattle.ir_tree.specs.declared.init_node.InitPart.{InitPart}
use Rattle.ir_tree.specs.declared.init_node.InitPart.TheVariants as tp
use Rattle.ir_tree.specs.declared.module.GlobalValue.{GlobalValue}
use Rattle.ir_tree.specs.declared.module.GlobalValue.TheVariants as globals
use Rattle.ir_tree.specs.declared.module.Module.{Module}
use Rattle.ir_round_trip.proofs.Stages.{IfThere, one, put_each, read_variable, staged, took}
use Rattle.ir_round_trip.proofs.Contents.{content_bytes}
use Rattle.ir_round_trip.proofs.Cut.{tokens_cut}
use Rattle.ir_round_trip.proofs.WithinItems.{module_spelled}
use Rattle.ir_round_trip.specs.Spelled.{BeginningSpelled, InitSpelled, ItemSpelled, PartSpelled}
use Rattle.ir_round_trip.specs.Tokens.{OfBytes}
use Rattle.ir_round_trip.specs.Numbered.{InitialBytes, InitialsBytes, InitBytes, StringsAreBytes}

-- ---- the parts of an initialiser

abbrev HeadBytes : InitHead → Type 0
HeadBytes (th.Bytes text) = AllBytes text
HeadBytes h = Unit {0}

abbrev PartBytes : InitPart → Type 0
PartBytes (tp.Typed f h) = HeadBytes h
PartBytes tp.End = Unit {0}

abbrev LevelsBytes : Levels → Type 0
LevelsBytes l = InitialsBytes l.0 × Each InitialsBytes l.1

around_bytes : (ls : List Initials) → Each InitialsBytes ls → LevelsBytes (around ls)
around_bytes [] h = (tt, tt)
around_bytes (vs ∷ more) h = h

begun_bytes : (f : Form) (h : InitHead) (l : Levels) → HeadBytes h → LevelsBytes l → LevelsBytes (begun f h l)
begun_bytes f (th.Plain operand) l b h = ((tt, h.0), h.1)
begun_bytes f th.Zeros l b h = ((tt, h.0), h.1)
begun_bytes f (th.Bytes text) l b h = ((b, h.0), h.1)
begun_bytes f th.Array l b h = let more = around_bytes l.1 h.1 in ((h.0, more.0), more.1)
begun_bytes f (th.Struct packed) l b h = let more = around_bytes l.1 h.1 in ((h.0, more.0), more.1)

levels_bytes : (ps : List InitPart) → Each PartBytes ps → LevelsBytes (levels ps)
levels_bytes [] h = (tt, tt)
levels_bytes (tp.Typed f head ∷ ps) h = begun_bytes f head (levels ps) h.0 (levels_bytes ps h.1)
levels_bytes (tp.End ∷ ps) h = let rest = levels_bytes ps h.1 in (tt, (rest.0, rest.1))

headed_bytes : (h : InitHead) (vs : Initials) → HeadBytes h → InitialsBytes vs → InitialBytes (headed h vs)
headed_bytes (th.Plain operand) vs b h = tt
headed_bytes th.Zeros vs b h = tt
headed_bytes (th.Bytes text) vs b h = b
headed_bytes th.Array vs b h = h
headed_bytes (th.Struct packed) vs b h = h

-- ---- as they resolve

module _ (types : Types) where
  head_bytes : (known : LocalTable) (s : Written) (f : Form) (r : raw_head.InitHead) (h : InitHead) → BeginningSpelled s r → head_in types known f r ≡ Ok h → HeadBytes h
  head_bytes known s f (rh.Plain operand) h b e = let x = took (operand_in types known operand) (λ o. Ok (th.Plain (constant_for f o))) h e in subst HeadBytes (one x.2) tt
  head_bytes known s f rh.Zeros h b e = subst HeadBytes (one e) tt
  head_bytes known s f (rh.Bytes string) h b e = subst HeadBytes (one e) (content_bytes string.form string.text b)
  head_bytes known s f (rh.Number t) h b e = subst HeadBytes (one e) tt
  head_bytes known s f rh.Array h b e = subst HeadBytes (one e) tt
  head_bytes known s f (rh.Struct packed) h b e = subst HeadBytes (one e) tt

  part_bytes : (known : LocalTable) (r : raw_part.InitPart) (p : InitPart) → PartSpelled r → part_in types known r ≡ Ok p → PartBytes p
  part_bytes known (rp.Typed typed head) p b e =
      let f = took (expanded types typed) (λ f. head_in types known f head >>= λ h. Ok (tp.Typed f h)) p e in
      let h = took (head_in types known f.0 head) (λ h. Ok (tp.Typed f.0 h)) p f.2 in
      subst PartBytes (one h.2) (head_bytes known typed.shape f.0 head h.0 b.1 h.1)
  part_bytes known rp.End p b e = subst PartBytes (one e) tt

  parts_bytes : (known : LocalTable) (rs : List raw_part.InitPart) (ps : List InitPart) → Each PartSpelled rs → each (part_in types known) rs ≡ Ok ps → Each PartBytes ps
  parts_bytes known [] ps b e = subst (Each PartBytes) (one e) tt
  parts_bytes known (r ∷ rs) ps b e =
      let p = took (part_in types known r) (λ p. each (part_in types known) rs >>= λ more. Ok (p ∷ more)) ps e in
      let more = took (each (part_in types known) rs) (λ more. Ok (p.0 ∷ more)) ps p.2 in
      subst (Each PartBytes) (one more.2) (part_bytes known r p.0 b.0 p.1, parts_bytes known rs more.0 b.1 more.1)

  init_bytes : (s : Written) (f : Form) (i : Option raw_init.Init) (v : Option Initial) → InitSpelled s i → init_if types f i ≡ Ok v → InitBytes v
  unfolding init_in
  init_bytes s f None v b e = subst InitBytes (one e) tt
  init_bytes s f (Some i) v b e =
      let tree = took (init_in types f i) (λ x. Ok (Some x)) v e in
      let root = took (head_in types none_known f i.root) (λ root. each (part_in types none_known) i.parts >>= λ parts. Ok (tree_of (root, parts))) tree.0 tree.1 in
      let parts = took (each (part_in types none_known) i.parts) (λ parts. Ok (tree_of (root.0, parts))) tree.0 root.2 in
      subst InitBytes (one tree.2) (subst InitialBytes (one parts.2) (headed_bytes root.0 (levels parts.0).0 (head_bytes none_known s f i.root root.0 b.0 root.1) (levels_bytes parts.0 (parts_bytes none_known i.parts parts.0 b.1 parts.1)).0))

  variable_bytes : (r : raw_variable.Variable) (v : Variable) → InitSpelled r.typed.shape r.init → variable_in types r ≡ Ok v → InitBytes v.init
  unfolding variable_in
  variable_bytes r v b e =
      let f = took (expanded types r.typed) (λ f. init_if types f r.init >>= λ i. Ok (read_variable r f i)) v e in
      let i = took (init_if types f.0 r.init) (λ i. Ok (read_variable r f.0 i)) v f.2 in
      subst (λ (x : Variable). InitBytes x.init) (one i.2) (init_bytes r.typed.shape f.0 r.init i.0 b i.1)

  -- ---- values

  module _ (groups : Groups) where
    no_strings : (o : Option GlobalValue) → ◌≡◌ {A = Result (Option GlobalValue) Fault} (Ok None) (Ok o) → IfThere StringsAreBytes o
    no_strings o e = subst (IfThere StringsAreBytes) (one e) tt

    function_strings : (head : raw_function.FunctionHeader) (blocks : List raw_block.Block) (noinline optnone : Bool) (o : Option GlobalValue) → function_in types head blocks noinline optnone >>= (λ f. Ok (Some (globals.Function f))) ≡ Ok o → IfThere StringsAreBytes o
    function_strings head blocks noinline optnone o e =
        let f = took (function_in types head blocks noinline optnone) (λ f. Ok (Some (globals.Function f))) o e in subst (IfThere StringsAreBytes) (one f.2) tt

    value_strings : (i : Item) (o : Option GlobalValue) → ItemSpelled i → value_in types groups i ≡ Ok o → IfThere StringsAreBytes o
    value_strings (items.Variable v) o b e =
        let x = took (variable_in types v) (λ t. Ok (Some (globals.Variable t))) o e in subst (IfThere StringsAreBytes) (one x.2) (variable_bytes v x.0 b.2 x.1)
    value_strings (items.Declaration head) o b e = function_strings head [] false false o e
    value_strings (items.Definition head blocks) o b e = function_strings head blocks (is_noinline groups head) (is_optnone groups head) o e
    value_strings (items.Datalayout string) o b e = no_strings o e
    value_strings (items.Triple string) o b e = no_strings o e
    value_strings (items.Attributes group noinline optnone) o b e = no_strings o e
    value_strings (items.Type name typed) o b e = no_strings o e

    values_strings : (is : List Item) (gs : List GlobalValue) → Each ItemSpelled is → values_in types groups is ≡ Ok gs → Each StringsAreBytes gs
    values_strings [] gs b e = subst (Each StringsAreBytes) (one e) tt
    values_strings (i ∷ is) gs b e =
        let o = took (value_in types groups i) (λ o. values_in types groups is >>= λ more. Ok (put o more)) gs e in
        let more = took (values_in types groups is) (λ more. Ok (put o.0 more)) gs o.2 in
        subst (Each StringsAreBytes) (one more.2) (put_each StringsAreBytes o.0 more.0 (value_strings i o.0 b.0 o.1) (values_strings is more.0 b.1 more.1))

-- ---- the triple

triple_bytes : (before : Option Tok) (is : List Item) → IfSome before OfBytes → Each ItemSpelled is → AllBytes (text_of (last_or before (filter_map triple_string is)))
triple_bytes None [] h b = tt
triple_bytes (Some string) [] h b = content_bytes string.form string.text h
triple_bytes before (items.Triple string ∷ is) h b = triple_bytes (Some string) is b.0 b.1
triple_bytes before (i ∷ is) h b = triple_bytes before is h b.1

-- ---- modules

pub record OfStrings (m : Module) : Type 0 where
  pub values : Each StringsAreBytes m.globals
  pub triple : AllBytes m.triple

pub read_strings : (bytes : List ℕ) (m : Module) (lines : List (List ℕ)) → AllBytes bytes → Reads bytes m lines → OfStrings m
read_strings bytes m lines h r =
    let s = staged r.items m r.stand in
    let b : Each ItemSpelled r.items = (module_spelled r.written r.items (tokens_cut bytes r.written h r.cut) r.spelled).all in
    record { values = values_strings s.types (groups_of r.items) r.items m.globals b s.values; triple = subst AllBytes s.triple (triple_bytes None r.items tt b) }
