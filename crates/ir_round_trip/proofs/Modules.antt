-- What is read of a printed module stands for that module, and so is its text read again.
use Rattle.std.proofs.Common.{◌≡◌, ℕ, None, Ok, List, [], ◌∷◌, ◌++◌, map, refl, sym, ap, subst, ◌∙◌}
use Rattle.std.specs.List.{AllByRecursion as Each}
use Rattle.std.proofs.lemmas.List.Elements.{recursion_from_All}
use Rattle.ir_parse.specs.Lines.{lines_of}
use Rattle.ir_parse.specs.Modules.{FURTHER_PARAMETERS, whole_module}
use Rattle.ir_lex.specs.Lexing.{AreTokens}
use Rattle.ir_lex.specs.Quotes.{content}
use Rattle.ir_lex.specs.Tok.{Tok}
use Rattle.ir_lex.specs.declared.token.TokenForm.TheVariants as forms
use Rattle.ir_parse_names.specs.Groups.{groups_of}
use Rattle.ir_parse_names.specs.Marks.{marks_of}
use Rattle.ir_parse.specs.Stages.{module_in, module_with}
use Rattle.ir_parse.specs.Targets.{datalayout_of, last_or, text_of, triple_of}
use Rattle.ir_print.specs.Modules.{module_text}
use Rattle.ir_parse_parts.specs.declared.raw.Item.{Item}
use Rattle.ir_tree.specs.Names.{AllBytes}
use Rattle.ir_tree.specs.Wholes.{GlobalFormed, GlobalKnown, symbols}
use Rattle.ir_tree.specs.declared.module.GlobalValue.{GlobalValue}
use Rattle.ir_tree.specs.declared.module.Module.{Module}
use Rattle.ir_tree.specs.declared.operand.Symbol.{Symbol}
use Rattle.ir_round_trip.specs.Known.{ModuleKnown}
use Rattle.ir_round_trip.specs.Laws.{ReadableIsRead}
use Rattle.ir_round_trip.proofs.Globals.{AllStand, after_layout, after_triple, globals_stand}
use Rattle.ir_round_trip.proofs.Names.{fresh, names_differ, names_of}
use Rattle.ir_round_trip.proofs.Passing.{Fresh, Right, globals_pass, no_types, within_pass}
use Rattle.ir_round_trip.specs.Modules.{layout, triple, global_value, target, IsItem, AreItems}
use Rattle.ir_round_trip.specs.ModulesReadable.{GlobalReadable, LayoutReadable, ModuleReadable}
use Rattle.ir_round_trip.proofs.Binds.{bound}
use Rattle.ir_round_trip.specs.PartsPrinted.{Paired, IsString}
use Rattle.ir_round_trip.proofs.Quoted.{string_content}

-- ---- target lines

string_again : (text : List ℕ) (t : Tok) → AllBytes text → IsString text t → content t.form t.text ≡ text
string_again text t a i = ap (λ k. content k t.text) i.form ∙ ap (content forms.Str) i.text ∙ string_content text a

layout_bytes : (text : List ℕ) → LayoutReadable text → AllBytes text
layout_bytes [] h = tt
layout_bytes (b ∷ bs) h = h.0

-- items of these globals, with a line for this triple where it isn't empty
record Behind (known : List Symbol) (text : List ℕ) (gs : List GlobalValue) (is : List Item) : Type 0 where
  triples : List Tok
  all : AllStand known [] triples gs is
  triple_is : text_of (last_or None triples) ≡ text

-- and before it one for this data layout
record Targeted (known : List Symbol) (data_layout target_triple : List ℕ) (gs : List GlobalValue) (is : List Item) : Type 0 where
  layouts : List Tok
  triples : List Tok
  all : AllStand known layouts triples gs is
  layout_is : text_of (last_or None layouts) ≡ data_layout
  triple_is : text_of (last_or None triples) ≡ target_triple

module _ (known : List Symbol) (gs : List GlobalValue) (rest : (is : List Item) → Paired IsItem (map global_value gs) is → AllStand known [] [] gs is) where
  with_triple : (text : List ℕ) (is : List Item) → AllBytes text → Paired IsItem (target triple text ++ map global_value gs) is → Behind known text gs is
  with_triple [] is h p = record { triples = []; all = rest is p; triple_is = refl }
  with_triple (b ∷ bs) [] h p = absurd p
  with_triple (b ∷ bs) (i ∷ is) h p = record { triples = p.0.0 ∷ []; all = after_triple known p.0.0 i p.0.1 (rest is p.1); triple_is = string_again (b ∷ bs) p.0.0 h p.0.2 }

  with_targets : (text other : List ℕ) (is : List Item) → AllBytes text → AllBytes other → Paired IsItem (target layout text ++ (target triple other ++ map global_value gs)) is → Targeted known text other gs is
  with_targets [] other is h k p = let w = with_triple other is k p in record { layouts = []; triples = w.triples; all = w.all; layout_is = refl; triple_is = w.triple_is }
  with_targets (b ∷ bs) other [] h k p = absurd p
  with_targets (b ∷ bs) other (i ∷ is) h k p =
      let w = with_triple other is k p.1 in
      record { layouts = p.0.0 ∷ []; triples = w.triples; all = after_layout known p.0.0 i p.0.1 w.all; layout_is = string_again (b ∷ bs) p.0.0 h p.0.2; triple_is = w.triple_is }

-- ---- the stages

made : (m : Module) (is : List Item) → datalayout_of is ≡ m.datalayout → triple_of is ≡ m.triple → record { datalayout = datalayout_of is; triple = triple_of is; globals = m.globals } ≡ m
made m is d t = ap (λ (x : List ℕ). record { datalayout = x; triple = triple_of is; globals = m.globals }) d ∙ ap (λ (x : List ℕ). record { datalayout = m.datalayout; triple = x; globals = m.globals }) t

pub module_again : (m : Module) (is : List Item) → LayoutReadable m.datalayout → Each (GlobalReadable FURTHER_PARAMETERS) m.globals → ModuleKnown m → AreItems m is → module_in is ≡ Ok m
unfolding module_in module_with
module_again m is l r k p =
    let known = symbols m.globals in
    let w = with_targets known m.globals (λ js q. globals_stand known m.globals js (recursion_from_All GlobalFormed m.globals k.whole.formed) r k.values (recursion_from_All (GlobalKnown known) m.globals k.whole.known) q)
    m.datalayout m.triple is (layout_bytes m.datalayout l) k.triple p in
    let new : Fresh [] (names_of known) = fresh [] (names_of known) (names_differ known k.whole.once (recursion_from_All (λ (s : Symbol). s.home ≡ None) known k.whole.homeless)) in
    let g = globals_pass (marks_of is) (subst (λ (ns : List (List ℕ)). Each (Right ns) (marks_of is)) (sym w.all.names) w.all.right) (subst (Fresh []) (sym w.all.names) new) in
    bound _ (no_types (names_of known) (marks_of is) w.all.right)
    (bound _ (within_pass (names_of known) [] (marks_of is) w.all.right)
    (bound _ g.1
    (bound _ (w.all.values [] (groups_of is))
    (ap (λ (x : Module). Ok x) (made m is (ap (λ ts. text_of (last_or None ts)) w.all.layout ∙ w.layout_is) (ap (λ ts. text_of (last_or None ts)) w.all.triple ∙ w.triple_is))))))

-- ---- its text

abbrev Spelled : Type 0
Spelled = (m : Module) → ModuleReadable m → (ts : List Tok) × AreTokens (module_text m) ts × ((all : List Item) × whole_module ts all × AreItems m all)

pub readable_read : Spelled → ReadableIsRead
readable_read spelled m r k =
    let s = spelled m r in
    let items : List Item = s.2.0 in
    (lines_of items, record { written = s.0; items = items; cut = s.1; spelled = s.2.1; stand = module_again m items r.layout r.globals k s.2.2; lined = refl })
