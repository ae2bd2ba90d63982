-- A module that is read is formed, each global name is there once, each that is used is there, and each part has a line.
use Rattle.std.proofs.Common.{◌≡◌, ℕ, Bool, false, List, [], ◌∷◌, ◌++◌, map, flat_map, length, Option, Some, None, Result, Ok, refl, sym, ap, subst, ◌∙◌}
use Rattle.std.specs.Prelude.{All, Contains, IfOk}
use Rattle.std.specs.List.{AllZip, AllByRecursion as Each, cons_option}
use Rattle.std.proofs.lemmas.List.{map-append}
use Rattle.std.proofs.lemmas.List.Elements.{All-from_recursion, recursion_from_All}
use Rattle.ir_lex.specs.Tok.{Tok}
use Rattle.ir_parse_parts.specs.declared.raw.Block as raw_block
use Rattle.ir_parse_parts.specs.declared.raw.FunctionHeader as raw_head
use Rattle.ir_parse_parts.specs.declared.raw.Variable as raw_variable
use Rattle.ir_parse_parts.specs.declared.raw.Item.{Item}
use Rattle.ir_parse_parts.specs.declared.raw.Item.TheVariants as item
use Rattle.ir_tree.specs.Formed.{Distinct, Formed}
use Rattle.ir_tree.specs.Items.{items}
use Rattle.ir_tree.specs.Wholes.{GlobalFormed, GlobalKnown, HasLines, IsParsed, VariableFormed, symbols}
use Rattle.ir_tree.specs.declared.function.Function.{Function}
use Rattle.ir_tree.specs.declared.function.Variable.{Variable}
use Rattle.ir_tree.specs.declared.module.GlobalValue.{GlobalValue}
use Rattle.ir_tree.specs.declared.module.GlobalValue.TheVariants as global
use Rattle.ir_tree.specs.declared.module.Module.{Module}
use Rattle.ir_tree.specs.declared.operand.Symbol.{Symbol}
use Rattle.ir_parse_names.specs.declared.groups.Groups.{Groups}
use Rattle.ir_parse_values.specs.Blocks.{function_in}
use Rattle.ir_parse_names.specs.Globals.{Globals, no_globals}
use Rattle.ir_parse_names.specs.Groups.{groups_of, is_noinline, is_optnone}
use Rattle.ir_parse_names.specs.Marks.{all, block_marks, item_marks, marks_of, typed_marks, init_marks}
use Rattle.ir_parse_names.specs.Resolving.{◌>>=◌}
use Rattle.ir_parse_names.specs.Stages.{global_names, globals_named, marks_within}
use Rattle.ir_parse_names.specs.Symbols.{symbol_name, symbol_of}
use Rattle.ir_parse_names.specs.TypeNames.{type_names}
use Rattle.ir_parse_names.specs.Types.{Types}
use Rattle.ir_parse_names.specs.Variables.{variable_in}
use Rattle.ir_parse.specs.LineLaws.{LinesFit}
use Rattle.ir_parse.specs.Lines.{item_lines, lines_of, block_lines}
use Rattle.ir_parse.specs.Resolved.{FunctionsAreFormed, VariablesAreFormed}
use Rattle.ir_parse.specs.Written.{IsWritten, TypesWritten, VariableWritten}
use Rattle.ir_parse.specs.Items.{ItemWritten}
use Rattle.ir_parse.specs.Spelled.{ItemsAreWritten, TokensAreSized, TypesAreWritten}
use Rattle.ir_parse.specs.Laws.{ReadIsParsed}
use Rattle.ir_parse.specs.Stages.{module_in, module_with}
use Rattle.ir_parse.specs.Targets.{datalayout_of, triple_of}
use Rattle.ir_parse.specs.Values.{put, value_in, values_in}
use Rattle.ir_parse.proofs.Gives.{Gives, gives, bind, whatever}
use Rattle.ir_parse.proofs.GlobalNames.{Named, all_known, at_home, defined_names, found_symbol, item_names, names_are, names_of}
use Rattle.ir_parse.proofs.KnownFunctions.{FunctionKnown, function_known, function_symbol}
use Rattle.ir_parse.proofs.KnownVariables.{VariableKnown, variable_known, variable_symbol}
use Rattle.ir_parse.proofs.Marked.{MarkKnown, MarksKnown, front_of, back_of}
use Rattle.ir_parse.proofs.Once.{Once, distinct, once_map}

-- ---- an item

abbrev IfThere : (GlobalValue → Type 0) → Option GlobalValue → Type 0
IfThere P None = Unit {0}
IfThere P (Some g) = P g

abbrev Lined : Option GlobalValue → Option (List ℕ) → Type 0
Lined None None = Unit {0}
Lined None (Some lines) = ⊥
Lined (Some g) None = ⊥
Lined (Some g) (Some lines) = HasLines g lines

record Good (known : List Symbol) (i : Item) (o : Option GlobalValue) : Type 0 where
  formed : IfThere GlobalFormed o
  named : (gs : List GlobalValue) → symbols (put o gs) ≡ map symbol_of (item_names i) ++ symbols gs
  used : IfThere (GlobalKnown known) o
  lined : Lined o (item_lines i)

nothing_good : (known : List Symbol) (i : Item) → item_names i ≡ [] → item_lines i ≡ None → Good known i None
nothing_good known i e l = record {
  formed = tt;
  named = λ gs. ap (λ ts. map symbol_of ts ++ symbols gs) (sym e);
  used = tt;
  lined = subst (λ (o : Option (List ℕ)). Lined None o) (sym l) tt;
}

if_ok : {A E : Type 0} (P : A → Type 0) (r : Result A E) (x : A) → IfOk r P → r ≡ Ok x → P x
if_ok P r x h e = subst (λ (q : Result _ _). IfOk q P) e h

module _ (functions : FunctionsAreFormed) (variables : VariablesAreFormed) (lines : LinesFit) (types : Types) (are : TypesWritten types) (groups : Groups) (known : List Symbol) where
  record FunctionGood (head : raw_head.FunctionHeader) (blocks : List raw_block.Block) (f : Function) : Type 0 where
    formed : Formed f
    symbol : f.symbol ≡ symbol_of head.name
    used : FunctionKnown known f
    lined : length (flat_map block_lines blocks) ≡ length (items f)

  record VariableGood (v : raw_variable.Variable) (r : Variable) : Type 0 where
    formed : VariableFormed r
    symbol : r.symbol ≡ symbol_of v.name
    used : VariableKnown known r

  function_good : (head : raw_head.FunctionHeader) (blocks : List raw_block.Block) (noinline optnone : Bool) → IsWritten head blocks noinline optnone → MarksKnown known (all block_marks blocks)
      → Gives (function_in types head blocks noinline optnone) (FunctionGood head blocks)
  function_good head blocks noinline optnone w h = record {
    given = λ f e. record {
      formed = functions types head blocks noinline optnone f are w e;
      symbol = (function_symbol types head blocks noinline optnone).given f e;
      used = (function_known types known head blocks noinline optnone h).given f e;
      lined = if_ok (λ (f : Function). length (flat_map block_lines blocks) ≡ length (items f)) (function_in types head blocks noinline optnone) f (lines types head blocks noinline optnone) e;
    };
  }

  variable_good : (v : raw_variable.Variable) → VariableWritten v → MarksKnown known (typed_marks v.typed ++ init_marks v.init) → Gives (variable_in types v) (VariableGood v)
  variable_good v w h = record {
    given = λ r e. record {
      formed = variables types v r are w e;
      symbol = (variable_symbol types v).given r e;
      used = (variable_known known types v h).given r e;
    };
  }

  value_good : (i : Item) → ItemWritten i → MarksKnown known (item_marks i) → Gives (value_in types groups i) (Good known i)
  value_good (item.Datalayout text) w h = gives (Good known (item.Datalayout text)) None (nothing_good known (item.Datalayout text) refl refl)
  value_good (item.Triple text) w h = gives (Good known (item.Triple text)) None (nothing_good known (item.Triple text) refl refl)
  value_good (item.Attributes group noinline optnone) w h = gives (Good known (item.Attributes group noinline optnone)) None (nothing_good known (item.Attributes group noinline optnone) refl refl)
  value_good (item.Type name typed) w h = gives (Good known (item.Type name typed)) None (nothing_good known (item.Type name typed) refl refl)
  value_good (item.Variable v) w h =
      bind (VariableGood v) (Good known (item.Variable v)) (variable_in types v) (λ t. Ok (Some (global.Variable t))) (variable_good v w.0 h.1) (λ t g.
      gives (Good known (item.Variable v)) (Some (global.Variable t))
      (record { formed = g.formed; named = λ gs. ap (λ s. s ∷ symbols gs) g.symbol; used = g.used; lined = refl }))
  value_good (item.Declaration head) w h =
      bind (FunctionGood head []) (Good known (item.Declaration head)) (function_in types head [] false false) (λ f. Ok (Some (global.Function f))) (function_good head [] false false w.written tt) (λ f g.
      gives (Good known (item.Declaration head)) (Some (global.Function f))
      (record { formed = g.formed; named = λ gs. ap (λ s. s ∷ symbols gs) g.symbol; used = g.used; lined = g.lined }))
  value_good (item.Definition head blocks) w h =
      bind (FunctionGood head blocks) (Good known (item.Definition head blocks)) (function_in types head blocks (is_noinline groups head) (is_optnone groups head)) (λ f. Ok (Some (global.Function f)))
      (function_good head blocks (is_noinline groups head) (is_optnone groups head) (w (is_noinline groups head) (is_optnone groups head)) h.1) (λ f g.
      gives (Good known (item.Definition head blocks)) (Some (global.Function f))
      (record { formed = g.formed; named = λ gs. ap (λ s. s ∷ symbols gs) g.symbol; used = g.used; lined = g.lined }))

  -- ---- all items

  record AllGood (is : List Item) (gs : List GlobalValue) : Type 0 where
    formed : Each GlobalFormed gs
    named : symbols gs ≡ map symbol_of (names_of is)
    used : Each (GlobalKnown known) gs
    lined : AllZip HasLines gs (lines_of is)

  put_each : (P : GlobalValue → Type 0) (o : Option GlobalValue) (gs : List GlobalValue) → IfThere P o → Each P gs → Each P (put o gs)
  put_each P None gs h more = more
  put_each P (Some g) gs h more = (h, more)

  put_lines : (o : Option GlobalValue) (l : Option (List ℕ)) (gs : List GlobalValue) (ls : List (List ℕ)) → Lined o l → AllZip HasLines gs ls → AllZip HasLines (put o gs) (cons_option l ls)
  put_lines None None gs ls h more = more
  put_lines None (Some l) gs ls h more = absurd h
  put_lines (Some g) None gs ls h more = absurd h
  put_lines (Some g) (Some l) gs ls h more = (h, more)

  together : (i : Item) (is : List Item) (o : Option GlobalValue) (gs : List GlobalValue) → Good known i o → AllGood is gs → AllGood (i ∷ is) (put o gs)
  together i is o gs g more = record {
    formed = put_each GlobalFormed o gs g.formed more.formed;
    named = g.named gs ∙ ap (λ ss. map symbol_of (item_names i) ++ ss) more.named ∙ sym (map-append symbol_of (item_names i) (names_of is));
    used = put_each (GlobalKnown known) o gs g.used more.used;
    lined = put_lines o (item_lines i) gs (lines_of is) g.lined more.lined;
  }

  values_good : (is : List Item) → Each ItemWritten is → MarksKnown known (marks_of is) → Gives (values_in types groups is) (AllGood is)
  values_good [] w h = gives (AllGood []) [] (record { formed = tt; named = refl; used = tt; lined = tt })
  values_good (i ∷ is) w h =
      bind (Good known i) (AllGood (i ∷ is)) (value_in types groups i) (λ o. values_in types groups is >>= λ gs. Ok (put o gs)) (value_good i w.0 (front_of (MarkKnown known) (item_marks i) (marks_of is) h)) (λ o g.
      bind (AllGood is) (AllGood (i ∷ is)) (values_in types groups is) (λ gs. Ok (put o gs)) (values_good is w.1 (back_of (MarkKnown known) (item_marks i) (marks_of is) h)) (λ gs more.
      gives (AllGood (i ∷ is)) (put o gs) (together i is o gs g more)))

-- ---- the module

at_home_again : (ts : List Tok) → map at_home (map symbol_name ts) ≡ map symbol_of ts
at_home_again [] = refl
at_home_again (t ∷ ts) = ap (λ ss. symbol_of t ∷ ss) (at_home_again ts)

homeless : (ts : List Tok) → Each (λ (s : Symbol). s.home ≡ None) (map symbol_of ts)
homeless [] = tt
homeless (t ∷ ts) = (refl, homeless ts)

names_apart : (x y : List ℕ) → at_home x ≡ at_home y → x ≡ y
names_apart x y e = ap (λ (s : Symbol). s.name) e

module _ (is : List Item) where
  abbrev the_symbols : List Symbol
  the_symbols = map symbol_of (names_of is)

  abbrev found : List (List ℕ)
  found = global_names [] (marks_of is)

  marks_known : (g : Globals) → Named found no_globals (marks_of is) g → MarksKnown the_symbols (marks_of is)
  marks_known g n = all_known the_symbols found (marks_of is) (λ name h. subst (λ ts. Contains (map symbol_of ts) (symbol_of name)) (defined_names is) (found_symbol (marks_of is) name h)) n.checked

  once : (g : Globals) → Named found no_globals (marks_of is) g → Distinct the_symbols
  once g n =
      let names : g.names ≡ map symbol_name (names_of is) = n.names ∙ ap (map symbol_name) (defined_names is) in
      let each : Once (map symbol_name (names_of is)) = subst (λ (ns : List (List ℕ)). Once ns) names (n.once tt) in
      distinct the_symbols (subst (λ (ss : List Symbol). Once ss) (at_home_again (names_of is)) (once_map at_home names_apart (map symbol_name (names_of is)) each))

module _ (functions : FunctionsAreFormed) (variables : VariablesAreFormed) (lines : LinesFit) (typed : TypesAreWritten) where
  abbrev made : List Item → List GlobalValue → Module
  made is values = record { datalayout = datalayout_of is; triple = triple_of is; globals = values }

  parsed : (types : Types) (are : TypesWritten types) (is : List Item) (g : Globals) (n : Named (found is) no_globals (marks_of is) g) (gs : List GlobalValue)
      → AllGood functions variables lines types are (groups_of is) (the_symbols is) is gs → IsParsed (made is gs) (lines_of is)
  parsed types are is g n gs a = record {
    whole = record {
      formed = All-from_recursion GlobalFormed gs a.formed;
      once = subst (λ (ss : List Symbol). Distinct ss) (sym a.named) (once is g n);
      homeless = subst (λ (ss : List Symbol). All (λ (s : Symbol). s.home ≡ None) ss) (sym a.named) (All-from_recursion (λ (s : Symbol). s.home ≡ None) (the_symbols is) (homeless (names_of is)));
      known = subst (λ (ss : List Symbol). All (GlobalKnown ss) gs) (sym a.named) (All-from_recursion (GlobalKnown (the_symbols is)) gs a.used);
    };
    lined = a.lined;
  }

  pub module_parsed : (is : List Item) → All ItemWritten is → Gives (module_in is) (λ m. IsParsed m (lines_of is))
  unfolding module_in module_with
  module_parsed is w =
      bind TypesWritten (λ m. IsParsed m (lines_of is)) (type_names (marks_of is)) _ (record { given = λ types e. typed is types w e }) (λ types are.
      bind _ (λ m. IsParsed m (lines_of is)) (marks_within types (marks_of is)) _ (whatever (marks_within types (marks_of is))) (λ u _.
      bind (Named (found is) no_globals (marks_of is)) (λ m. IsParsed m (lines_of is)) (globals_named (marks_of is)) _ (names_are (marks_of is)) (λ g n.
      bind (AllGood functions variables lines types are (groups_of is) (the_symbols is) is) (λ m. IsParsed m (lines_of is)) (values_in types (groups_of is) is) (λ values. Ok (made is values))
      (values_good functions variables lines types are (groups_of is) (the_symbols is) is (recursion_from_All ItemWritten is w) (marks_known is g n)) (λ gs a.
      gives (λ m. IsParsed m (lines_of is)) (made is gs) (parsed types are is g n gs a)))))

-- what is read is formed
pub read_parsed : FunctionsAreFormed → VariablesAreFormed → LinesFit → TypesAreWritten → TokensAreSized → ItemsAreWritten → ReadIsParsed
read_parsed functions variables lines typed sized written bytes m ls r =
    let w : All ItemWritten r.items = written r.written r.items (sized bytes r.written r.cut) r.spelled in
    subst (λ (x : List (List ℕ)). IsParsed m x) (sym r.lined) ((module_parsed functions variables lines typed r.items w).given m r.stand)
