-- In a module that was read of bytes constants are of the types before them, and parts of initialisers of shapes that memory may
-- hold.
use Rattle.std.proofs.Common.{◌≡◌, ℕ, zero, suc, Bool, true, false, cond, if◌then◌else◌, ◌⊎◌, inl, inr, Option, Some, None, Result, Ok, Err, List, [], ◌∷◌, refl, sym, ap, subst}
use Rattle.std.specs.List.{AllByRecursion as Each}
use Rattle.std.specs.Prelude.{All}
use Rattle.std.proofs.lemmas.List.Elements.{All-from_recursion, recursion_from_All}
use Rattle.ir_parse_names.specs.Addresses.{offset_behind}
use Rattle.ir_parse_values.specs.Blocks.{blocks_of, function_in}
use Rattle.ir_parse_names.specs.Bodies.{operand_in}
use Rattle.ir_parse_names.specs.Groups.{groups_of, is_noinline, is_optnone}
use Rattle.ir_parse_names.specs.Locals.{none_known, number_in}
use Rattle.ir_parse_names.specs.Resolving.{◌>>=◌, each}
use Rattle.ir_parse_names.specs.Symbols.{symbol_of}
use Rattle.ir_parse_names.specs.Types.{Types, expand, expanded, head_of, is_width, limit, scalar}
use Rattle.ir_parse_names.specs.Variables.{constant_for, constant_type, head_in, literal_or, number_for, part_in, init_in, init_if, variable_in}
use Rattle.ir_parse_names.specs.declared.fault.Fault.{Fault}
use Rattle.ir_parse_names.specs.declared.groups.Groups.{Groups}
use Rattle.ir_parse_names.specs.declared.locals.Sort.TheVariants as sorts
use Rattle.ir_parse.specs.Values.{put, value_in, values_in}
use Rattle.ir_lex.specs.Tok.{Tok}
use Rattle.ir_tree.specs.declared.operand.Reg.TheVariants.{Int}
use Rattle.ir_parse_parts.specs.Shapes as shapes
use Rattle.ir_parse_parts.specs.Shapes.{Written}
use Rattle.ir_parse_parts.specs.declared.raw.Block as raw_block
use Rattle.ir_parse_parts.specs.declared.raw.FunctionHeader.{FunctionHeader}
use Rattle.ir_parse_parts.specs.declared.raw.Init as raw_init
use Rattle.ir_parse_parts.specs.declared.raw.InitHead as raw_head
use Rattle.ir_parse_parts.specs.declared.raw.InitHead.TheVariants as rh
use Rattle.ir_parse_parts.specs.declared.raw.InitPart as raw_part
use Rattle.ir_parse_parts.specs.declared.raw.InitPart.TheVariants as rp
use Rattle.ir_parse_parts.specs.declared.raw.Item.{Item}
use Rattle.ir_parse_parts.specs.declared.raw.Item.TheVariants as items
use Rattle.ir_parse_parts.specs.declared.raw.Operand as raw_operand
use Rattle.ir_parse_parts.specs.declared.raw.Operand.TheVariants as ro
use Rattle.ir_parse_parts.specs.declared.raw.Variable as raw_variable
use Rattle.ir_parse_parts.specs.declared.shape.Typed.{Typed}
use Rattle.ir_parse_parts.specs.Literals.{literal}
use Rattle.ir_tree.specs.Forms.{Form, int, pointer, array, structure}
use Rattle.ir_tree.specs.Initials.{Initial, Initials, Levels, around, begun, headed, levels, tree_of}
use Rattle.ir_tree.specs.Items.{items_from}
use Rattle.ir_tree.specs.declared.function.Function.{Function}
use Rattle.ir_tree.specs.declared.function.Variable.{Variable}
use Rattle.ir_tree.specs.declared.init_node.InitHead.{InitHead}
use Rattle.ir_tree.specs.declared.init_node.InitHead.TheVariants as th
use Rattle.ir_tree.specs.declared.init_node.InitPart.{InitPart}
use Rattle.ir_tree.specs.declared.init_node.InitPart.TheVariants as tp
use Rattle.ir_tree.specs.declared.module.GlobalValue.{GlobalValue}
use Rattle.ir_tree.specs.declared.module.GlobalValue.TheVariants as globals
use Rattle.ir_tree.specs.declared.operand.Operand.{Operand}
use Rattle.ir_tree.specs.declared.operand.Operand.TheVariants as to
use Rattle.ir_round_trip.specs.PartsReadable.{ShapeReadable}
use Rattle.ir_round_trip.specs.PrintedTyped.{ItemTyped, NumberTyped, OperandTyped}
use Rattle.ir_parse.specs.Resolved.{ShapesAreWithin}
use Rattle.ir_parse.specs.Written.{ShapeWritten, TypesWritten}
use Rattle.ir_parse.specs.Items.{InitShaped, ItemWritten, PartShaped}
use Rattle.ir_parse.specs.Spelled.{ItemsAreWritten, TokensAreSized, TypesAreWritten}
use Rattle.ir_round_trip.specs.PrintedLaws.{ItemsAreWithin, TokensAreCut}
use Rattle.ir_round_trip.specs.Spelled.{BeginningSpelled, BlockSpelled, ConstantSpelled, Counted, InitSpelled, ItemSpelled, PartSpelled}
use Rattle.ir_round_trip.specs.Laws.{ReadIsTyped}
use Rattle.ir_round_trip.specs.Typed.{FunctionTyped, InitialTyped, InitialsTyped, InitTyped, ValueTyped}
use Rattle.ir_round_trip.proofs.Counts.{TypesCounted, expanded_counts}
use Rattle.ir_round_trip.proofs.Resolving.{items_typed}
use Rattle.ir_round_trip.proofs.Stages.{IfThere, one, put_each, read_function, read_variable, staged, took}
use Rattle.ir_round_trip.proofs.TypesCounted.{types_counted}

-- ---- the tree of the parts

abbrev HeadTyped : Form → InitHead → Type 0
HeadTyped f (th.Plain x) = OperandTyped (constant_type f) x
HeadTyped f h = Unit {0}

abbrev PartTyped : InitPart → Type 0
PartTyped (tp.Typed f h) = ShapeReadable f × HeadTyped f h
PartTyped tp.End = Unit {0}

abbrev LevelsTyped : Levels → Type 0
LevelsTyped l = InitialsTyped l.0 × Each InitialsTyped l.1

around_typed : (ls : List Initials) → Each InitialsTyped ls → LevelsTyped (around ls)
around_typed [] h = (tt, tt)
around_typed (vs ∷ more) h = h

begun_typed : (f : Form) (h : InitHead) (l : Levels) → ShapeReadable f → HeadTyped f h → LevelsTyped l → LevelsTyped (begun f h l)
begun_typed f (th.Plain x) l s t h = ((s, t, h.0), h.1)
begun_typed f th.Zeros l s t h = ((s, tt, h.0), h.1)
begun_typed f (th.Bytes text) l s t h = ((s, tt, h.0), h.1)
begun_typed f th.Array l s t h = let more = around_typed l.1 h.1 in ((s, h.0, more.0), more.1)
begun_typed f (th.Struct packed) l s t h = let more = around_typed l.1 h.1 in ((s, h.0, more.0), more.1)

levels_typed : (ps : List InitPart) → Each PartTyped ps → LevelsTyped (levels ps)
levels_typed [] h = (tt, tt)
levels_typed (tp.Typed f head ∷ ps) h = begun_typed f head (levels ps) h.0.0 h.0.1 (levels_typed ps h.1)
levels_typed (tp.End ∷ ps) h = let rest = levels_typed ps h.1 in (tt, (rest.0, rest.1))

headed_typed : (f : Form) (h : InitHead) (vs : Initials) → HeadTyped f h → InitialsTyped vs → InitialTyped f (headed h vs)
headed_typed f (th.Plain x) vs t h = t
headed_typed f th.Zeros vs t h = tt
headed_typed f (th.Bytes text) vs t h = tt
headed_typed f th.Array vs t h = h
headed_typed f (th.Struct packed) vs t h = h

-- ---- constants

module _ (types : Types) where
  -- an integer that is written stays one
  scalar_is : (line w : ℕ) (f : Form) → scalar line w ≡ Ok f → f ≡ int w
  scalar_is line w f e = by (is_width w) e
    where
      by : (b : Bool) → cond b (Ok (int w)) (Err (limit line)) ≡ Ok f → f ≡ int w
      by true e = sym (one e)
      by false e = absurd cc

  integer_expands : (n line w : ℕ) (f : Form) → expand n types line (shapes.int w) ≡ Ok f → f ≡ int w
  unfolding head_of
  integer_expands zero line w f e = scalar_is line w f e
  integer_expands (suc n) line w f e = scalar_is line w f e

  integer_stays : (typed : Typed) (w : ℕ) (f : Form) → typed.shape ≡ shapes.int w → expanded types typed ≡ Ok f → f ≡ int w
  unfolding expanded
  integer_stays typed w f is e = integer_expands 32 typed.line w f (subst (λ (s : Written). expand 32 types typed.line s ≡ Ok f) is e)

  number_typed : (typed : Typed) (f : Form) (width : ℕ) → (width ≡ 1) ⊎ (typed.shape ≡ shapes.int width) → expanded types typed ≡ Ok f → NumberTyped (constant_type f) width
  number_typed typed f width (inl word) e = inl word
  number_typed typed f width (inr is) e = inr (ap constant_type (integer_stays typed width f is e))

  abbrev IsFor : Form → Operand → Type 0
  IsFor f x = OperandTyped (constant_type f) (constant_for f x)

  constant_typed : (typed : Typed) (f : Form) (r : raw_operand.Operand) (x : Operand) → ConstantSpelled typed.shape r → expanded types typed ≡ Ok f → operand_in types none_known r ≡ Ok x → IsFor f x
  constant_typed typed f (ro.Local name) x h e d = let n = took (number_in none_known sorts.Value name) (λ n. Ok (to.Local n)) x d in subst (IsFor f) (one n.2) tt
  constant_typed typed f (ro.Global name) x h e d = subst (IsFor f) (one d) tt
  constant_typed typed f (ro.Number width bits) x h e d = subst (IsFor f) (one d) (number_typed typed f width h e)
  constant_typed typed f ro.Null x h e d = subst (IsFor f) (one d) tt
  constant_typed typed f (ro.Poison reg) x h e d = subst (IsFor f) (one d) refl
  constant_typed typed f (ro.Address steps) x h e d =
      let n = took (offset_behind 0 types steps.levels) (λ n. Ok (to.Symbol (symbol_of steps.name) n)) x d in subst (IsFor f) (one n.2) tt

  number_for_typed : (f : Form) (t : Tok) → OperandTyped (constant_type f) (number_for f t)
  number_for_typed (int w) t = by (if is_width w then literal w t.text else None)
    where
      by : (o : Option ℕ) → OperandTyped (Int w) (literal_or w o)
      by None = inl refl
      by (Some bits) = inr refl
  number_for_typed pointer t = inl refl
  number_for_typed (array n of) t = inl refl
  number_for_typed (structure packed parts) t = inl refl

  head_typed : (typed : Typed) (f : Form) (r : raw_head.InitHead) (h : InitHead) → BeginningSpelled typed.shape r → expanded types typed ≡ Ok f → head_in types none_known f r ≡ Ok h → HeadTyped f h
  head_typed typed f (rh.Plain constant) h b e d =
      let x = took (operand_in types none_known constant) (λ o. Ok (th.Plain (constant_for f o))) h d in subst (HeadTyped f) (one x.2) (constant_typed typed f constant x.0 b e x.1)
  head_typed typed f rh.Zeros h b e d = subst (HeadTyped f) (one d) tt
  head_typed typed f (rh.Bytes string) h b e d = subst (HeadTyped f) (one d) tt
  head_typed typed f (rh.Number t) h b e d = subst (HeadTyped f) (one d) (number_for_typed f t)
  head_typed typed f rh.Array h b e d = subst (HeadTyped f) (one d) tt
  head_typed typed f (rh.Struct packed) h b e d = subst (HeadTyped f) (one d) tt

  -- ---- initialisers

  module _ (counted : TypesCounted types) (written : TypesWritten types) (within : ShapesAreWithin) where
    shape_readable : (typed : Typed) (f : Form) → Counted typed.shape → ShapeWritten typed.shape → expanded types typed ≡ Ok f → ShapeReadable f
    shape_readable typed f c w e = record { shape = within types typed f written w e; counts = expanded_counts types typed f counted c e }

    part_typed : (r : raw_part.InitPart) (p : InitPart) → PartSpelled r → PartShaped r → part_in types none_known r ≡ Ok p → PartTyped p
    part_typed (rp.Typed typed head) p b w e =
        let f = took (expanded types typed) (λ f. head_in types none_known f head >>= λ h. Ok (tp.Typed f h)) p e in
        let h = took (head_in types none_known f.0 head) (λ h. Ok (tp.Typed f.0 h)) p f.2 in
        subst PartTyped (one h.2) (shape_readable typed f.0 b.0 w f.1, head_typed typed f.0 head h.0 b.1 f.1 h.1)
    part_typed rp.End p b w e = subst PartTyped (one e) tt

    parts_typed : (rs : List raw_part.InitPart) (ps : List InitPart) → Each PartSpelled rs → Each PartShaped rs → each (part_in types none_known) rs ≡ Ok ps → Each PartTyped ps
    parts_typed [] ps b w e = subst (Each PartTyped) (one e) tt
    parts_typed (r ∷ rs) ps b w e =
        let p = took (part_in types none_known r) (λ p. each (part_in types none_known) rs >>= λ more. Ok (p ∷ more)) ps e in
        let more = took (each (part_in types none_known) rs) (λ more. Ok (p.0 ∷ more)) ps p.2 in
        subst (Each PartTyped) (one more.2) (part_typed r p.0 b.0 w.0 p.1, parts_typed rs more.0 b.1 w.1 more.1)

    init_typed : (typed : Typed) (f : Form) (i : Option raw_init.Init) (v : Option Initial) → InitSpelled typed.shape i → InitShaped i → expanded types typed ≡ Ok f → init_if types f i ≡ Ok v → InitTyped f v
    unfolding init_in
    init_typed typed f None v b w e d = subst (InitTyped f) (one d) tt
    init_typed typed f (Some i) v b w e d =
        let tree = took (init_in types f i) (λ x. Ok (Some x)) v d in
        let root = took (head_in types none_known f i.root) (λ root. each (part_in types none_known) i.parts >>= λ parts. Ok (tree_of (root, parts))) tree.0 tree.1 in
        let parts = took (each (part_in types none_known) i.parts) (λ parts. Ok (tree_of (root.0, parts))) tree.0 root.2 in
        subst (InitTyped f) (one tree.2)
        (subst (InitialTyped f) (one parts.2)
        (headed_typed f root.0 (levels parts.0).0 (head_typed typed f i.root root.0 b.0 e root.1)
        (levels_typed parts.0 (parts_typed i.parts parts.0 b.1 w parts.1)).0))

    variable_typed : (r : raw_variable.Variable) (v : Variable) → InitSpelled r.typed.shape r.init → InitShaped r.init → variable_in types r ≡ Ok v → InitTyped v.shape v.init
    unfolding variable_in
    variable_typed r v b w d =
        let f = took (expanded types r.typed) (λ f. init_if types f r.init >>= λ i. Ok (read_variable r f i)) v d in
        let i = took (init_if types f.0 r.init) (λ i. Ok (read_variable r f.0 i)) v f.2 in
        subst (λ (x : Variable). InitTyped x.shape x.init) (one i.2) (init_typed r.typed f.0 r.init i.0 b w f.1 i.1)

    -- ---- functions

    function_typed : (head : FunctionHeader) (rs : List raw_block.Block) (noinline optnone : Bool) (f : Function) → Each BlockSpelled rs → function_in types head rs noinline optnone ≡ Ok f → FunctionTyped f
    unfolding function_in
    function_typed head rs noinline optnone f b d =
        let bs = took (blocks_of types head.params rs) (λ bs. Ok (read_function head noinline optnone bs)) f d in
        subst FunctionTyped (one bs.2) (All-from_recursion ItemTyped (items_from 0 bs.0) (items_typed types counted head.params rs bs.0 b bs.1))

    -- ---- values

    module _ (groups : Groups) where
      no_value : (o : Option GlobalValue) → ◌≡◌ {A = Result (Option GlobalValue) Fault} (Ok None) (Ok o) → IfThere ValueTyped o
      no_value o d = subst (IfThere ValueTyped) (one d) tt

      function_value : (head : FunctionHeader) (rs : List raw_block.Block) (noinline optnone : Bool) → Each BlockSpelled rs → (o : Option GlobalValue) → function_in types head rs noinline optnone >>= (λ f. Ok (Some (globals.Function f))) ≡ Ok o → IfThere ValueTyped o
      function_value head rs noinline optnone b o d =
          let f = took (function_in types head rs noinline optnone) (λ f. Ok (Some (globals.Function f))) o d in
          subst (IfThere ValueTyped) (one f.2) (function_typed head rs noinline optnone f.0 b f.1)

      value_typed : (i : Item) (o : Option GlobalValue) → ItemSpelled i → ItemWritten i → value_in types groups i ≡ Ok o → IfThere ValueTyped o
      value_typed (items.Variable v) o b w d =
          let x = took (variable_in types v) (λ t. Ok (Some (globals.Variable t))) o d in subst (IfThere ValueTyped) (one x.2) (variable_typed v x.0 b.2 w.1 x.1)
      value_typed (items.Declaration head) o b w d = function_value head [] false false tt o d
      value_typed (items.Definition head rs) o b w d = function_value head rs (is_noinline groups head) (is_optnone groups head) b.1.all o d
      value_typed (items.Datalayout string) o b w d = no_value o d
      value_typed (items.Triple string) o b w d = no_value o d
      value_typed (items.Attributes group noinline optnone) o b w d = no_value o d
      value_typed (items.Type name typed) o b w d = no_value o d

      values_typed : (is : List Item) (gs : List GlobalValue) → Each ItemSpelled is → Each ItemWritten is → values_in types groups is ≡ Ok gs → Each ValueTyped gs
      values_typed [] gs b w d = subst (Each ValueTyped) (one d) tt
      values_typed (i ∷ is) gs b w d =
          let o = took (value_in types groups i) (λ o. values_in types groups is >>= λ more. Ok (put o more)) gs d in
          let more = took (values_in types groups is) (λ more. Ok (put o.0 more)) gs o.2 in
          subst (Each ValueTyped) (one more.2) (put_each ValueTyped o.0 more.0 (value_typed i o.0 b.0 w.0 o.1) (values_typed is more.0 b.1 w.1 more.1))

-- ---- modules

pub read_typed : TokensAreCut → ItemsAreWithin → TokensAreSized → ItemsAreWritten → TypesAreWritten → ShapesAreWithin → ReadIsTyped
read_typed cut spelled sized made typed within bytes m lines h r =
    let s = staged r.items m r.stand in
    let b : Each ItemSpelled r.items = (spelled r.written r.items (cut bytes r.written h r.cut) r.spelled).all in
    let w : All ItemWritten r.items = made r.written r.items (sized bytes r.written r.cut) r.spelled in
    values_typed s.types (types_counted r.items s.types b s.typed) (typed r.items s.types w s.typed) within (groups_of r.items) r.items m.globals b (recursion_from_All ItemWritten r.items w) s.values
