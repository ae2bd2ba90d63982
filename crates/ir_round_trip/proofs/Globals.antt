-- Items of printed globals: what they name, and what they stand for.
use Rattle.std.proofs.Common.{◌≡◌, ℕ, Bool, false, ◌||◌, Option, Some, None, Ok, List, [], ◌∷◌, ◌++◌, map, refl, sym, ap, subst, ◌∙◌}
use Rattle.std.specs.List.{AllByRecursion as Each}
use Rattle.std.specs.Prelude.{filter_map}
use Rattle.std.specs.List.{cons_option}
use Rattle.std.proofs.lemmas.List.Elements.{recursion_from_All}
use Rattle.ir_parse.specs.Modules.{FURTHER_PARAMETERS}
use Rattle.ir_lex.specs.Tok.{Tok}
use Rattle.ir_parse_values.specs.Blocks.{function_in}
use Rattle.ir_parse_names.specs.Groups.{any_of, no_groups, is_optnone}
use Rattle.ir_parse_names.specs.Marks.{Mark, global, all, block_marks, typed_marks, init_marks, item_marks, marks_of}
use Rattle.ir_parse_names.specs.Resolving.{◌>>=◌}
use Rattle.ir_parse_names.specs.Types.{Types}
use Rattle.ir_parse_names.specs.declared.groups.Groups.{Groups}
use Rattle.ir_parse.specs.Targets.{layout_string, triple_string}
use Rattle.ir_parse.specs.Values.{put, value_in, values_in}
use Rattle.ir_parse_parts.specs.declared.raw.FunctionHeader.{FunctionHeader}
use Rattle.ir_parse_parts.specs.declared.raw.Item.{Item}
use Rattle.ir_parse_parts.specs.declared.raw.Item.TheVariants as items
use Rattle.ir_tree.specs.Formed.{Formed}
use Rattle.ir_tree.specs.Items as item
use Rattle.ir_tree.specs.Wholes.{GlobalFormed, GlobalKnown, IsKnown, ItemKnown, global_symbol, init_operands, symbols}
use Rattle.ir_tree.specs.declared.block.Block.{Block}
use Rattle.ir_tree.specs.declared.function.Function.{Function}
use Rattle.ir_tree.specs.declared.module.GlobalValue.{GlobalValue}
use Rattle.ir_tree.specs.declared.module.GlobalValue.TheVariants as globals
use Rattle.ir_tree.specs.declared.operand.Symbol.{Symbol}
use Rattle.ir_round_trip.specs.Known.{ValueKnown}
use Rattle.ir_round_trip.proofs.Bodies.{ArgumentNamed, ItemNamed, BlockNamed, blocks_named, blocks_inner}
use Rattle.ir_round_trip.proofs.Each.{joined}
use Rattle.ir_round_trip.proofs.Initialisers.{init_inner}
use Rattle.ir_round_trip.proofs.Names.{names_of, is_spelled, printed_name}
use Rattle.ir_round_trip.proofs.Operands.{Marks, typed_inner}
use Rattle.ir_round_trip.proofs.Passing.{Right, Inner, names_in, names_append, all_right, no_names}
use Rattle.ir_round_trip.specs.Modules.{global_value, IsFunctionOf, IsGlobalItem, IsItem}
use Rattle.ir_round_trip.specs.ModulesReadable.{FunctionReadable, GlobalReadable}
use Rattle.ir_round_trip.specs.Readable.{BlockReadable, BodyReadable}
use Rattle.ir_round_trip.proofs.Binds.{bound}
use Rattle.ir_round_trip.proofs.PrintedFunctions.{declaration_again, definition_again}
use Rattle.ir_round_trip.proofs.ResolvedVariables.{variable_again}
use Rattle.ir_round_trip.specs.PrintedKnown.{FunctionKnown}
use Rattle.ir_round_trip.specs.PartsPrinted.{Paired, IsGlobal, IsDeclared}
use Rattle.ir_round_trip.specs.PartsReadable.{HeadReadable}
use Rattle.ir_round_trip.specs.Printable.{IsName}

body_readable : (bs : List Block) → BodyReadable bs → Each BlockReadable bs
body_readable [] h = absurd h
body_readable (b ∷ bs) h = h

module _ (known : List Symbol) where
  -- ---- what an item names

  record Naming (name : List ℕ) (ms : List Mark) : Type 0 where
    right : Each (Right (names_of known)) ms
    names : names_in ms ≡ name ∷ []

  naming : (name : List ℕ) (t : Tok) (ms : List Mark) → IsName name → IsGlobal name t → Marks known ms → Naming name (global t ∷ ms)
  naming name t ms n i h = record {
    right = (record { untyped = tt; within = λ types. refl; there = tt; spelled = is_spelled name t n i }, all_right (names_of known) ms h);
    names = ap (λ (x : List ℕ). x ∷ names_in ms) (printed_name name t n i) ∙ ap (λ ns. name ∷ ns) (no_names (names_of known) ms h);
  }

  -- a global, and the item that is read of it
  pub record Stands (g : GlobalValue) (i : Item) : Type 0 where
    pub right : Each (Right (names_of known)) (item_marks i)
    pub names : names_in (item_marks i) ≡ (global_symbol g).name ∷ []
    pub value : (types : Types) (groups : Groups) → value_in types groups i ≡ Ok (Some g)
    pub layout : layout_string i ≡ None
    pub triple : triple_string i ≡ None

  -- a declaration says nothing of its own
  says_nothing : (says : Bool) (named : List Tok) → says ≡ false → named ≡ [] → says || any_of [] named ≡ false
  says_nothing says named s n = ap (λ (b : Bool). b || any_of [] named) s ∙ ap (any_of []) n

  declaration_value : (types : Types) (f : Function) (h : FunctionHeader) → f.blocks ≡ [] → Formed f → HeadReadable FURTHER_PARAMETERS f → FunctionKnown f → IsDeclared f h → function_in types h [] false false ≡ Ok f
  declaration_value types f h e formed r k d =
      subst (λ (b : Bool). function_in types h [] false b ≡ Ok f) (says_nothing h.optnone h.groups d.optnone d.groups)
      (subst (λ (b : Bool). function_in types h [] b (is_optnone no_groups h) ≡ Ok f) (says_nothing h.noinline h.groups d.noinline d.groups)
      (declaration_again types no_groups FURTHER_PARAMETERS f h e (formed.declared e) r k d))

  function_stands : (bs : List Block) (f : Function) (i : Item) → f.blocks ≡ bs → Formed f → FunctionReadable FURTHER_PARAMETERS bs f → FunctionKnown f → Each (BlockNamed known) f.blocks → IsFunctionOf bs f i → Stands (globals.Function f) i
  function_stands [] f (items.Declaration h) e formed r k n p =
      let own = naming f.symbol.name h.name [] r.name p.name tt in
      record {
        right = own.right;
        names = own.names;
        value = λ types groups. bound (λ x. Ok (Some (globals.Function x))) (declaration_value types f h e formed r k p) refl;
        layout = refl;
        triple = refl;
      }
  function_stands [] f i e formed r k n p = absurd p
  function_stands (b ∷ bs) f (items.Definition h rs) e formed r k n p =
      let own = naming f.symbol.name h.name (all block_marks rs) r.head.name p.0.name (blocks_inner known f.blocks rs (body_readable f.blocks r.body) n p.1) in
      record {
        right = own.right;
        names = own.names;
        value = λ types groups. bound (λ x. Ok (Some (globals.Function x))) (definition_again types groups FURTHER_PARAMETERS f h rs r k p.0 p.1) refl;
        layout = refl;
        triple = refl;
      }
  function_stands (b ∷ bs) f i e formed r k n p = absurd p

  arguments_of : (is : List item.Item) → Each (ItemKnown known) is → Each (ItemNamed known) is
  arguments_of [] h = tt
  arguments_of (i ∷ is) h = (recursion_from_All (ArgumentNamed known) (item.operands i) h.0, arguments_of is h.1)

  global_stands : (g : GlobalValue) (i : Item) → GlobalFormed g → GlobalReadable FURTHER_PARAMETERS g → ValueKnown g → GlobalKnown known g → IsGlobalItem g i → Stands g i
  global_stands (globals.Variable v) (items.Variable r) formed h k n p =
      let inner : Marks known (typed_marks r.typed ++ init_marks r.init) =
      joined (Inner (names_of known)) (typed_marks r.typed) (init_marks r.init) (typed_inner known r.typed v.shape h.shape p.shape)
      (init_inner known v.shape v.init r.init h.init (recursion_from_All (IsKnown known) (init_operands v.init) n) p.init) in
      let own = naming v.symbol.name r.name (typed_marks r.typed ++ init_marks r.init) h.name p.name inner in
      record {
        right = own.right;
        names = own.names;
        value = λ types groups. bound (λ x. Ok (Some (globals.Variable x))) (variable_again types v r h k p) refl;
        layout = refl;
        triple = refl;
      }
  global_stands (globals.Variable v) i formed h k n p = absurd p
  global_stands (globals.Function f) i formed h k n p =
      function_stands f.blocks f i refl formed h k (blocks_named known 0 f.blocks (arguments_of (item.items f) (recursion_from_All (ItemKnown known) (item.items f) n))) p

  -- ---- all globals

  -- the globals of a module, and the items that are read of them, with the strings of its target lines
  pub record AllStand (layouts triples : List Tok) (gs : List GlobalValue) (is : List Item) : Type 0 where
    pub right : Each (Right (names_of known)) (marks_of is)
    pub names : names_in (marks_of is) ≡ names_of (symbols gs)
    pub values : (types : Types) (groups : Groups) → values_in types groups is ≡ Ok gs
    pub layout : filter_map layout_string is ≡ layouts
    pub triple : filter_map triple_string is ≡ triples

  one_more : (g : GlobalValue) (gs : List GlobalValue) (i : Item) (is : List Item) → Stands g i → AllStand [] [] gs is → AllStand [] [] (g ∷ gs) (i ∷ is)
  one_more g gs i is s more = record {
    right = joined (Right (names_of known)) (item_marks i) (marks_of is) s.right more.right;
    names = names_append (item_marks i) (marks_of is) ∙ ap (λ ns. ns ++ names_in (marks_of is)) s.names ∙ ap (λ ns. (global_symbol g).name ∷ ns) more.names;
    values = λ types groups. bound (λ o. values_in types groups is >>= λ vs. Ok (put o vs)) (s.value types groups) (bound (λ vs. Ok (put (Some g) vs)) (more.values types groups) refl);
    layout = ap (λ (o : Option Tok). cons_option o (filter_map layout_string is)) s.layout ∙ more.layout;
    triple = ap (λ (o : Option Tok). cons_option o (filter_map triple_string is)) s.triple ∙ more.triple;
  }

  pub globals_stand : (gs : List GlobalValue) (is : List Item) → Each GlobalFormed gs → Each (GlobalReadable FURTHER_PARAMETERS) gs → Each ValueKnown gs → Each (GlobalKnown known) gs → Paired IsItem (map global_value gs) is → AllStand [] [] gs is
  globals_stand [] [] formed h k n p = record { right = tt; names = refl; values = λ types groups. refl; layout = refl; triple = refl }
  globals_stand [] (i ∷ is) formed h k n p = absurd p
  globals_stand (g ∷ gs) [] formed h k n p = absurd p
  globals_stand (g ∷ gs) (i ∷ is) formed h k n p = one_more g gs i is (global_stands g i formed.0 h.0 k.0 n.0 p.0) (globals_stand gs is formed.1 h.1 k.1 n.1 p.1)

  -- ---- target lines

  pub after_layout : {layouts triples : List Tok} {gs : List GlobalValue} {is : List Item} (string : Tok) (i : Item) → i ≡ items.Datalayout string → AllStand layouts triples gs is → AllStand (string ∷ layouts) triples gs (i ∷ is)
  after_layout {layouts} {triples} {gs} {is} string i e a =
      subst (λ (j : Item). AllStand (string ∷ layouts) triples gs (j ∷ is)) (sym e)
      (record {
        right = a.right;
        names = a.names;
        values = λ types groups. bound (λ vs. Ok (put None vs)) (a.values types groups) refl;
        layout = ap (λ ts. string ∷ ts) a.layout;
        triple = a.triple;
      })

  pub after_triple : {layouts triples : List Tok} {gs : List GlobalValue} {is : List Item} (string : Tok) (i : Item) → i ≡ items.Triple string → AllStand layouts triples gs is → AllStand layouts (string ∷ triples) gs (i ∷ is)
  after_triple {layouts} {triples} {gs} {is} string i e a =
      subst (λ (j : Item). AllStand layouts (string ∷ triples) gs (j ∷ is)) (sym e)
      (record {
        right = a.right;
        names = a.names;
        values = λ types groups. bound (λ vs. Ok (put None vs)) (a.values types groups) refl;
        layout = a.layout;
        triple = ap (λ ts. string ∷ ts) a.triple;
      })
