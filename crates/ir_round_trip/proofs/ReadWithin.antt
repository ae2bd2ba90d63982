-- A module that was read of bytes is within the limits.
use Rattle.std.proofs.Common.{◌≡◌, ℕ, suc, ◌+◌, ◌≤◌, Bool, true, false, if◌then◌else◌, Option, Some, None, Result, Ok, List, [], ◌∷◌, length, refl, sym, ap, subst, ◌∙◌, arith}
use Rattle.std.specs.List.{AllByRecursion as Each}
use Rattle.std.specs.Prelude.{filter_map, IfSome}
use Rattle.std.proofs.lemmas.List.Elements.{All-from_recursion}
use Rattle.ir_parse_bodies.specs.Blocks.{FURTHER_BLOCKS, INSTRUCTIONS}
use Rattle.ir_parse.specs.Modules.{FURTHER_PARAMETERS, GLOBAL_NAMES}
use Rattle.ir_lex.specs.Quotes.{content}
use Rattle.ir_lex.specs.Tok.{Tok}
use Rattle.ir_parse_values.specs.Blocks.{block_of, block_in, behind_block, blocks_in, blocks_of, body_in, body_of, function_in, params_from}
use Rattle.ir_parse_names.specs.Bodies.{behind_line, end_in, instr_in, lines_in, operand_in}
use Rattle.ir_parse_names.specs.Groups.{groups_of, is_noinline, is_optnone}
use Rattle.ir_parse_names.specs.Locals.{LocalTable, none_known}
use Rattle.ir_parse_names.specs.Numbering.{locals_of}
use Rattle.ir_parse_names.specs.Resolving.{◌>>=◌, each}
use Rattle.ir_parse_names.specs.Types.{Types, is_width, expanded}
use Rattle.ir_parse_names.specs.Variables.{constant_for, head_in, literal_or, number_for, part_in, init_in, init_if, variable_in}
use Rattle.ir_parse_values.specs.declared.block.Body.{Body}
use Rattle.ir_parse_names.specs.declared.fault.Fault.{Fault}
use Rattle.ir_parse_names.specs.declared.groups.Groups.{Groups}
use Rattle.ir_parse.specs.Targets.{last_or, layout_string, text_of}
use Rattle.ir_parse.specs.Values.{put, value_in, values_in}
use Rattle.ir_parse_heads.specs.Targets.{fits_layout}
use Rattle.ir_parse_parts.specs.declared.raw.Block as raw_block
use Rattle.ir_parse_parts.specs.declared.raw.FunctionHeader.{FunctionHeader}
use Rattle.ir_parse_parts.specs.declared.raw.Init as raw_init
use Rattle.ir_parse_parts.specs.declared.raw.InitHead as raw_head
use Rattle.ir_parse_parts.specs.declared.raw.InitHead.TheVariants as rh
use Rattle.ir_parse_parts.specs.declared.raw.InitPart as raw_part
use Rattle.ir_parse_parts.specs.declared.raw.InitPart.TheVariants as rp
use Rattle.ir_parse_parts.specs.declared.raw.Item.{Item}
use Rattle.ir_parse_parts.specs.declared.raw.Item.TheVariants as items
use Rattle.ir_parse_parts.specs.declared.raw.WrittenLine as raw_line
use Rattle.ir_parse_parts.specs.declared.raw.Param.{Param}
use Rattle.ir_parse_parts.specs.declared.raw.Variable as raw_variable
use Rattle.ir_parse_parts.specs.Literals.{literal}
use Rattle.ir_tree.specs.Forms.{Form, int, pointer, array, structure}
use Rattle.ir_tree.specs.Initials.{Initial, Initials, Levels, around, begun, headed, levels, tree_of}
use Rattle.ir_tree.specs.Names.{AllBytes}
use Rattle.ir_tree.specs.Wholes.{all_operands, init_operands, global_symbol, initial_operands, symbols}
use Rattle.ir_tree.specs.declared.block.Block.{Block}
use Rattle.ir_tree.specs.declared.function.Function.{Function}
use Rattle.ir_tree.specs.declared.function.Variable.{Variable}
use Rattle.ir_tree.specs.declared.init_node.InitHead.{InitHead}
use Rattle.ir_tree.specs.declared.init_node.InitHead.TheVariants as th
use Rattle.ir_tree.specs.declared.init_node.InitPart.{InitPart}
use Rattle.ir_tree.specs.declared.init_node.InitPart.TheVariants as tp
use Rattle.ir_tree.specs.declared.instr.Line.{Line}
use Rattle.ir_tree.specs.declared.module.GlobalValue.{GlobalValue}
use Rattle.ir_tree.specs.declared.module.GlobalValue.TheVariants as globals
use Rattle.ir_tree.specs.declared.operand.Operand.{Operand}
use Rattle.ir_tree.specs.declared.operand.Operand.TheVariants as to
use Rattle.ir_round_trip.specs.Bodies.{instructions, stated}
use Rattle.ir_round_trip.specs.ModulesReadable.{LayoutReadable}
use Rattle.ir_round_trip.specs.PrintedLaws.{ContentsAreBytes, ItemsAreWithin, TokensAreCut}
use Rattle.ir_round_trip.specs.Spelled.{BodySpelled, Counted, FewParams, HeadSpelled, ItemSpelled, LayoutSpelled, NameSpelled, count_in, count_of, lines_in as raw_lines}
use Rattle.ir_round_trip.proofs.Means.{joined}
use Rattle.ir_round_trip.specs.Laws.{ReadIsWithin}
use Rattle.ir_round_trip.specs.Within.{FunctionWithin, NameWithin, OffsetFits, ValueWithin, VariableWithin}
use Rattle.ir_round_trip.proofs.Counts.{TypesCounted, expanded_counts}
use Rattle.ir_round_trip.proofs.Resolving.{block_with, items_within, line_of, operand_fits}
use Rattle.ir_round_trip.proofs.Stages.{IfThere, one, parted, put_each, read_function, read_variable, staged, took}
use Rattle.ir_round_trip.proofs.TypesCounted.{types_counted}

-- ---- the layout

layout_is : (text : List ℕ) → AllBytes text → fits_layout text ≡ true → LayoutReadable text
layout_is [] b f = tt
layout_is (c ∷ cs) b f = (b, f)

layout_readable : ContentsAreBytes → (before : Option Tok) (is : List Item) → IfSome before LayoutSpelled → Each ItemSpelled is → LayoutReadable (text_of (last_or before (filter_map layout_string is)))
layout_readable contents None [] h s = tt
layout_readable contents (Some string) [] h s = layout_is (content string.form string.text) (contents string.form string.text h.0) h.1
layout_readable contents before (items.Datalayout string ∷ is) h s = layout_readable contents (Some string) is s.0 s.1
layout_readable contents before (i ∷ is) h s = layout_readable contents before is h s.1

-- ---- how many

many_params : (n : ℕ) (ps : List Param) → length (params_from n ps) ≡ length ps
many_params n [] = refl
many_params n (p ∷ ps) = ap suc (many_params (n + 1) ps)

module _ (types : Types) where
  module _ (known : LocalTable) where
    many_lines : (n : ℕ) (rs : List raw_line.WrittenLine) (ls : List Line) → lines_in types known n rs ≡ Ok ls → length ls ≡ length rs
    many_lines n [] ls e = ap length (sym (one e))
    many_lines n (r ∷ rs) ls e =
        let i = took (instr_in types known r.instr) (λ i. lines_in types known (behind_line n r) rs >>= λ more. Ok (line_of n r i ∷ more)) ls e in
        let more = took (lines_in types known (behind_line n r) rs) (λ more. Ok (line_of n r i.0 ∷ more)) ls i.2 in
        ap length (sym (one more.2)) ∙ ap suc (many_lines (behind_line n r) rs more.0 more.1)

    many_stated : (n : ℕ) (r : raw_block.Block) (b : Block) → block_in types known n r ≡ Ok b → length (stated b) ≡ length r.lines
    unfolding block_of
    many_stated n r b e =
        let body = took (body_in types known (n + 1) r.lines) (λ body. end_in types known r.end >>= λ end. Ok (block_with n body end)) b e in
        let end = took (end_in types known r.end) (λ end. Ok (block_with n body.0 end)) b body.2 in
        let ls = took (lines_in types known (n + 1) r.lines) (λ ls. Ok (body_of ls)) body.0 body.1 in
        subst (λ (x : Block). length (stated x) ≡ length r.lines) (one end.2)
        (subst (λ (x : Body). length (stated (block_with n x end.0)) ≡ length r.lines) (one ls.2)
        (ap length (parted ls.0) ∙ many_lines (n + 1) r.lines ls.0 ls.1))

    record AsMany (rs : List raw_block.Block) (bs : List Block) : Type 0 where
      blocks : length bs ≡ length rs
      lines : instructions bs ≡ raw_lines rs

    as_many : (n : ℕ) (rs : List raw_block.Block) (bs : List Block) → blocks_in types known n rs ≡ Ok bs → AsMany rs bs
    as_many n [] bs e = subst (AsMany []) (one e) (record { blocks = refl; lines = refl })
    as_many n (r ∷ rs) bs e =
        let b = took (block_in types known n r) (λ b. blocks_in types known (behind_block n r) rs >>= λ more. Ok (b ∷ more)) bs e in
        let more = took (blocks_in types known (behind_block n r) rs) (λ more. Ok (b.0 ∷ more)) bs b.2 in
        let rest = as_many (behind_block n r) rs more.0 more.1 in
        let here : length (stated b.0) ≡ length r.lines = many_stated n r b.0 b.1 in
        let others : instructions more.0 ≡ raw_lines rs = rest.lines in
        subst (AsMany (r ∷ rs)) (one more.2) (record { blocks = ap suc rest.blocks; lines = omega (arith, here, others) })

  -- ---- functions

  function_within : TypesCounted types → (head : FunctionHeader) (rs : List raw_block.Block) (noinline optnone : Bool) (f : Function) → FewParams head → BodySpelled rs → function_in types head rs noinline optnone ≡ Ok f → FunctionWithin f
  unfolding function_in
  function_within t head rs noinline optnone f few body e =
      let bs = took (blocks_of types head.params rs) (λ bs. Ok (read_function head noinline optnone bs)) f e in
      let locals = took (locals_of head.params rs) (λ locals. blocks_in types locals (length head.params) rs) bs.0 bs.1 in
      let many = as_many locals.0 (length head.params) rs bs.0 locals.2 in
      let blocks : length bs.0 ≡ length rs = many.blocks in
      let lines : instructions bs.0 ≡ raw_lines rs = many.lines in
      let few_blocks : length rs ≤ suc FURTHER_BLOCKS = body.few_blocks in
      let few_lines : raw_lines rs ≤ INSTRUCTIONS = body.few_lines in
      let few_params : length head.params ≤ suc FURTHER_PARAMETERS = few in
      subst FunctionWithin (one bs.2) (record {
        few_parameters = omega (arith, few_params, many_params 0 head.params);
        few_blocks = omega (arith, few_blocks, blocks);
        few_instructions = omega (arith, few_lines, lines);
        items = All-from_recursion _ _ (items_within types t head.params rs bs.0 body.all bs.1);
      })

  -- ---- initialisers

  abbrev HeadFits : InitHead → Type 0
  HeadFits (th.Plain x) = OffsetFits x
  HeadFits h = Unit {0}

  abbrev PartFits : InitPart → Type 0
  PartFits (tp.Typed f h) = HeadFits h
  PartFits tp.End = Unit {0}

  abbrev AllFitting : Initials → Type 0
  AllFitting vs = Each OffsetFits (all_operands vs)

  abbrev LevelsFit : Levels → Type 0
  LevelsFit l = AllFitting l.0 × Each AllFitting l.1

  around_fit : (ls : List Initials) → Each AllFitting ls → LevelsFit (around ls)
  around_fit [] h = (tt, tt)
  around_fit (vs ∷ more) h = h

  begun_fit : (f : Form) (h : InitHead) (l : Levels) → HeadFits h → LevelsFit l → LevelsFit (begun f h l)
  begun_fit f (th.Plain x) l b h = ((b, h.0), h.1)
  begun_fit f th.Zeros l b h = h
  begun_fit f (th.Bytes text) l b h = h
  begun_fit f th.Array l b h = let more = around_fit l.1 h.1 in (joined OffsetFits (all_operands l.0) (all_operands (around l.1).0) h.0 more.0, more.1)
  begun_fit f (th.Struct packed) l b h = let more = around_fit l.1 h.1 in (joined OffsetFits (all_operands l.0) (all_operands (around l.1).0) h.0 more.0, more.1)

  levels_fit : (ps : List InitPart) → Each PartFits ps → LevelsFit (levels ps)
  levels_fit [] h = (tt, tt)
  levels_fit (tp.Typed f head ∷ ps) h = begun_fit f head (levels ps) h.0 (levels_fit ps h.1)
  levels_fit (tp.End ∷ ps) h = let rest = levels_fit ps h.1 in (tt, (rest.0, rest.1))

  headed_fit : (h : InitHead) (vs : Initials) → HeadFits h → AllFitting vs → Each OffsetFits (initial_operands (headed h vs))
  headed_fit (th.Plain x) vs b h = (b, tt)
  headed_fit th.Zeros vs b h = tt
  headed_fit (th.Bytes text) vs b h = tt
  headed_fit th.Array vs b h = h
  headed_fit (th.Struct packed) vs b h = h

  for_fits : (f : Form) (x : Operand) → OffsetFits x → OffsetFits (constant_for f x)
  for_fits f (to.Poison reg) h = tt
  for_fits f x h = h

  number_fits : (f : Form) (t : Tok) → OffsetFits (number_for f t)
  number_fits (int w) t = by (if is_width w then literal w t.text else None)
    where
      by : (o : Option ℕ) → OffsetFits (literal_or w o)
      by None = tt
      by (Some bits) = tt
  number_fits pointer t = tt
  number_fits (array n of) t = tt
  number_fits (structure packed parts) t = tt

  head_fits : (f : Form) (r : raw_head.InitHead) (h : InitHead) → head_in types none_known f r ≡ Ok h → HeadFits h
  head_fits f (rh.Plain operand) h e =
      let x = took (operand_in types none_known operand) (λ o. Ok (th.Plain (constant_for f o))) h e in subst HeadFits (one x.2) (for_fits f x.0 (operand_fits types none_known operand x.0 x.1))
  head_fits f rh.Zeros h e = subst HeadFits (one e) tt
  head_fits f (rh.Bytes string) h e = subst HeadFits (one e) tt
  head_fits f (rh.Number t) h e = subst HeadFits (one e) (number_fits f t)
  head_fits f rh.Array h e = subst HeadFits (one e) tt
  head_fits f (rh.Struct packed) h e = subst HeadFits (one e) tt

  part_fits : (r : raw_part.InitPart) (p : InitPart) → part_in types none_known r ≡ Ok p → PartFits p
  part_fits (rp.Typed typed head) p e =
      let f = took (expanded types typed) (λ f. head_in types none_known f head >>= λ h. Ok (tp.Typed f h)) p e in
      let h = took (head_in types none_known f.0 head) (λ h. Ok (tp.Typed f.0 h)) p f.2 in
      subst PartFits (one h.2) (head_fits f.0 head h.0 h.1)
  part_fits rp.End p e = subst PartFits (one e) tt

  parts_fit : (rs : List raw_part.InitPart) (ps : List InitPart) → each (part_in types none_known) rs ≡ Ok ps → Each PartFits ps
  parts_fit [] ps e = subst (Each PartFits) (one e) tt
  parts_fit (r ∷ rs) ps e =
      let p = took (part_in types none_known r) (λ p. each (part_in types none_known) rs >>= λ more. Ok (p ∷ more)) ps e in
      let more = took (each (part_in types none_known) rs) (λ more. Ok (p.0 ∷ more)) ps p.2 in
      subst (Each PartFits) (one more.2) (part_fits r p.0 p.1, parts_fit rs more.0 more.1)

  init_fits : (f : Form) (i : Option raw_init.Init) (v : Option Initial) → init_if types f i ≡ Ok v → Each OffsetFits (init_operands v)
  unfolding init_in
  init_fits f None v e = subst (λ (x : Option Initial). Each OffsetFits (init_operands x)) (one e) tt
  init_fits f (Some i) v e =
      let tree = took (init_in types f i) (λ x. Ok (Some x)) v e in
      let root = took (head_in types none_known f i.root) (λ root. each (part_in types none_known) i.parts >>= λ parts. Ok (tree_of (root, parts))) tree.0 tree.1 in
      let parts = took (each (part_in types none_known) i.parts) (λ parts. Ok (tree_of (root.0, parts))) tree.0 root.2 in
      subst (λ (x : Option Initial). Each OffsetFits (init_operands x)) (one tree.2)
      (subst (λ (x : Initial). Each OffsetFits (initial_operands x)) (one parts.2) (headed_fit root.0 (levels parts.0).0 (head_fits f i.root root.0 root.1) (levels_fit parts.0 (parts_fit i.parts parts.0 parts.1)).0))

  variable_within : TypesCounted types → (r : raw_variable.Variable) (v : Variable) → Counted r.typed.shape → variable_in types r ≡ Ok v → VariableWithin v
  unfolding variable_in
  variable_within t r v c e =
      let f = took (expanded types r.typed) (λ f. init_if types f r.init >>= λ i. Ok (read_variable r f i)) v e in
      let i = took (init_if types f.0 r.init) (λ i. Ok (read_variable r f.0 i)) v f.2 in
      subst VariableWithin (one i.2) (record { counts = expanded_counts types r.typed f.0 t c f.1; offsets = All-from_recursion OffsetFits _ (init_fits f.0 r.init i.0 i.1) })

  -- ---- values

  module _ (groups : Groups) (t : TypesCounted types) where
    -- with a name that can be printed
    abbrev GoodValue : GlobalValue → Type 0
    GoodValue g = ValueWithin g × NameWithin (global_symbol g)

    -- what an item stands for, and how many values there are
    abbrev ValueRight : Item → Option GlobalValue → Type 0
    ValueRight i o = IfThere GoodValue o × ((gs : List GlobalValue) → length (put o gs) ≡ count_of i + length gs)

    function_named : (head : FunctionHeader) (rs : List raw_block.Block) (noinline optnone : Bool) (f : Function) → NameSpelled head.name → function_in types head rs noinline optnone ≡ Ok f → NameWithin f.symbol
    unfolding function_in
    function_named head rs noinline optnone f n e =
        let bs = took (blocks_of types head.params rs) (λ bs. Ok (read_function head noinline optnone bs)) f e in
        subst (λ (x : Function). NameWithin x.symbol) (one bs.2) n

    variable_named : (r : raw_variable.Variable) (v : Variable) → NameSpelled r.name → variable_in types r ≡ Ok v → NameWithin v.symbol
    unfolding variable_in
    variable_named r v n e =
        let f = took (expanded types r.typed) (λ f. init_if types f r.init >>= λ i. Ok (read_variable r f i)) v e in
        let i = took (init_if types f.0 r.init) (λ i. Ok (read_variable r f.0 i)) v f.2 in
        subst (λ (x : Variable). NameWithin x.symbol) (one i.2) n

    no_value : (i : Item) → count_of i ≡ 0 → (o : Option GlobalValue) → ◌≡◌ {A = Result (Option GlobalValue) Fault} (Ok None) (Ok o) → ValueRight i o
    no_value i none o e = subst (ValueRight i) (one e) (tt, λ gs. omega (arith, none))

    a_value : (i : Item) → count_of i ≡ 1 → (g : GlobalValue) → GoodValue g → ValueRight i (Some g)
    a_value i single g w = (w, λ gs. omega (arith, single))

    function_value : (i : Item) → count_of i ≡ 1 → (head : FunctionHeader) (rs : List raw_block.Block) (noinline optnone : Bool) → HeadSpelled head → BodySpelled rs → (o : Option GlobalValue) → function_in types head rs noinline optnone >>= (λ f. Ok (Some (globals.Function f))) ≡ Ok o → ValueRight i o
    function_value i single head rs noinline optnone few body o e =
        let f = took (function_in types head rs noinline optnone) (λ f. Ok (Some (globals.Function f))) o e in
        subst (ValueRight i) (one f.2) (a_value i single (globals.Function f.0) (function_within t head rs noinline optnone f.0 few.1 body f.1, function_named head rs noinline optnone f.0 few.0 f.1))

    no_body : BodySpelled []
    no_body = record { few_blocks = omega arith; few_lines = omega arith; all = tt }

    value_right : (i : Item) (o : Option GlobalValue) → ItemSpelled i → value_in types groups i ≡ Ok o → ValueRight i o
    value_right (items.Variable v) o h e =
        let x = took (variable_in types v) (λ t. Ok (Some (globals.Variable t))) o e in
        subst (ValueRight (items.Variable v)) (one x.2) (a_value (items.Variable v) refl (globals.Variable x.0) (variable_within t v x.0 h.1 x.1, variable_named v x.0 h.0 x.1))
    value_right (items.Declaration head) o h e = function_value (items.Declaration head) refl head [] false false h no_body o e
    value_right (items.Definition head rs) o h e = function_value (items.Definition head rs) refl head rs (is_noinline groups head) (is_optnone groups head) h.0 h.1 o e
    value_right (items.Datalayout string) o h e = no_value (items.Datalayout string) refl o e
    value_right (items.Triple string) o h e = no_value (items.Triple string) refl o e
    value_right (items.Attributes group noinline optnone) o h e = no_value (items.Attributes group noinline optnone) refl o e
    value_right (items.Type name typed) o h e = no_value (items.Type name typed) refl o e

    record ValuesRight (is : List Item) (gs : List GlobalValue) : Type 0 where
      within : Each GoodValue gs
      many : length gs ≡ count_in is

    values_right : (is : List Item) (gs : List GlobalValue) → Each ItemSpelled is → values_in types groups is ≡ Ok gs → ValuesRight is gs
    values_right [] gs h e = subst (ValuesRight []) (one e) (record { within = tt; many = refl })
    values_right (i ∷ is) gs h e =
        let o = took (value_in types groups i) (λ o. values_in types groups is >>= λ more. Ok (put o more)) gs e in
        let more = took (values_in types groups is) (λ more. Ok (put o.0 more)) gs o.2 in
        let here = value_right i o.0 h.0 o.1 in
        let rest = values_right is more.0 h.1 more.1 in
        subst (ValuesRight (i ∷ is)) (one more.2) (record { within = put_each GoodValue o.0 more.0 here.0 rest.within; many = here.1 more.0 ∙ ap (λ (n : ℕ). count_of i + n) rest.many })

-- ---- modules

values_within : (gs : List GlobalValue) → Each (λ g. ValueWithin g × NameWithin (global_symbol g)) gs → Each ValueWithin gs × Each NameWithin (symbols gs)
values_within [] h = (tt, tt)
values_within (g ∷ gs) h = let rest = values_within gs h.1 in ((h.0.0, rest.0), (h.0.1, rest.1))

pub read_within : ContentsAreBytes → TokensAreCut → ItemsAreWithin → ReadIsWithin
read_within contents cut within bytes m lines h r =
    let s = staged r.items m r.stand in
    let spelled = within r.written r.items (cut bytes r.written h r.cut) r.spelled in
    let right = values_right s.types (groups_of r.items) (types_counted r.items s.types spelled.all s.typed) r.items m.globals spelled.all s.values in
    let all = values_within m.globals right.within in
    let many : length m.globals ≡ count_in r.items = right.many in
    let few : count_in r.items ≤ GLOBAL_NAMES = spelled.few in
    record {
      layout = subst LayoutReadable s.layout (layout_readable contents None r.items tt spelled.all);
      names = all.1;
      values = all.0;
      few = omega (arith, many, few);
    }
