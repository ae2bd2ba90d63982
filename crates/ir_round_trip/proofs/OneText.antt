-- Modules with one printed text are one, however many global names they have.
use Rattle.std.proofs.Common.{◌≡◌, ◌∙◌, ◌+◌, ◌≤◌, ℕ, Ok, List, [], length, arith, sym, ap, subst}
use Rattle.ir_parse.specs.ItemForms.{items}
use Rattle.ir_parse.specs.Modules.{FURTHER_PARAMETERS}
use Rattle.ir_parse.proofs.ItemRules.{items_rule}
use Rattle.ir_lex.specs.Lexing.{AreTokens}
use Rattle.ir_lex.specs.Tok.{Tok}
use Rattle.ir_lex.proofs.Unique.{same_list}
use Rattle.ir_parse.specs.Stages.{module_in}
use Rattle.ir_print.specs.Modules.{entries, module_text}
use Rattle.ir_parse_parts.specs.declared.raw.Item.{Item}
use Rattle.ir_tree.specs.declared.module.Module.{Module}
use Rattle.ir_parse_parts.proofs.Composed.{reads_is}
use Rattle.ir_round_trip.specs.OneText.{ModuleSpelled, PrintedIsOne}
use Rattle.ir_round_trip.specs.Texts.{tokens_in}
use Rattle.ir_round_trip.proofs.Modules.{module_again}
use Rattle.ir_round_trip.proofs.PartsModules.{module_cut}
use Rattle.ir_round_trip.proofs.Printable.{module_printable}
use Rattle.ir_round_trip.proofs.PrintedModules.{entries_read}
use Rattle.ir_round_trip.proofs.Verified.{module_known}
use Rattle.ir_round_trip.proofs.Within.{globals_readable, verified_typed}

-- the text is cut into tokens that the grammar has, with so many global names, as items that stand for the module
record Spells (names : ℕ) (m : Module) (text : List ℕ) : Type 0 where
  written : List Tok
  read : List Item
  cut : AreTokens text written
  spelled : items FURTHER_PARAMETERS names written read
  stand : module_in read ≡ Ok m

spells : (names : ℕ) (m : Module) → ModuleSpelled m → length m.globals ≤ names → Spells names m (module_text m)
spells names m s few =
    let globals = globals_readable m.globals s.verified.whole s.numbered.locals s.names s.values (verified_typed m s.verified s.values) in
    let is = entries_read names m s.layout globals few 1 in
    record {
      written = tokens_in 1 (entries m);
      read = is.0;
      cut = module_cut m (module_printable m globals);
      spelled = is.1;
      stand = module_again m is.0 s.layout globals (module_known m s.verified s.numbered) is.2;
    }

-- the grammar has tokens as one list of items
items_once : (names : ℕ) (ts : List Tok) (is js : List Item) → items FURTHER_PARAMETERS names ts is → items FURTHER_PARAMETERS names ts js → is ≡ js
items_once names ts is js s r =
    let law = (items_rule FURTHER_PARAMETERS names).law in
    (reads_is is js [] [] (sym (law.complete ts [] is s tt) ∙ law.complete ts [] js r tt)).0

stands_once : (is js : List Item) (m n : Module) → is ≡ js → module_in is ≡ Ok m → module_in js ≡ Ok n → m ≡ n
stands_once is js m n same a b = let both : Ok m ≡ Ok n = sym a ∙ ap module_in same ∙ b in cc

spells_once : (names : ℕ) (text : List ℕ) (m n : Module) → Spells names m text → Spells names n text → m ≡ n
spells_once names text m n a b =
    let written : a.written ≡ b.written = same_list text a.written b.written a.cut b.cut in
    stands_once a.read b.read m n (items_once names b.written a.read b.read (subst (λ (ts : List Tok). items FURTHER_PARAMETERS names ts a.read) written a.spelled) b.spelled) a.stand b.stand

pub printed_once : PrintedIsOne
printed_once m n v w same =
    let names = length m.globals + length n.globals in
    spells_once names (module_text m) m n (spells names m v (omega arith)) (subst (Spells names n) (sym same) (spells names n w (omega arith)))
