-- How the text of a definition begins, and how the text of a module is put together.
use Rattle.std.proofs.Common.{◌≡◌, ◌∙◌, ℕ, Bool, true, not, List, [], ◌∷◌, ◌++◌, Option, Some, None, codes, nat_eq, append_assoc, append-nil, refl, sym, ap}
use Rattle.std.specs.Fmt.{digits}
use Rattle.std.specs.List.{starts_with}
use Rattle.ir_lex.specs.Pieces.{Piece}
use Rattle.ir_tree.specs.Names.{quoted}
use Rattle.ir_tree.specs.declared.block.Block.{Block}
use Rattle.ir_tree.specs.declared.function.Function.{Function}
use Rattle.ir_tree.specs.declared.function.Linkage.{Linkage}
use Rattle.ir_tree.specs.declared.function.Linkage.TheVariants as linkages
use Rattle.ir_tree.specs.declared.module.GlobalValue.{GlobalValue}
use Rattle.ir_tree.specs.declared.module.GlobalValue.TheVariants as global
use Rattle.ir_tree.specs.declared.module.Module.{Module}
use Rattle.ir_tree.specs.declared.operand.Reg.{Reg}
use Rattle.ir_tree.specs.declared.operand.Reg.TheVariants.{Int, Ptr}
use Rattle.ir_print.specs.Functions.{by_blocks, linkage}
use Rattle.ir_print.specs.Modules.{global_value, global_values, module_text, target_lines, text_of}
use Rattle.ir_print.specs.Tokens.{tight, word}
use Rattle.ir_print.specs.Types.{result}
use Rattle.ir_print.proofs.Written.{three_wrote}
use Rattle.lto_task.proofs.Values.{values_append}
use Rattle.merge_meaning.specs.Linked.{IsDefinition}
use Rattle.merge_meaning.specs.Hosts.{getchar, putchar}
use Rattle.emit.specs.Emissions.{is_variable, settled}
use Rattle.emit.specs.Joins.{getchar_line, putchar_line}
use Rattle.emit.proofs.Settled.{has_blocks}

-- ---- how it begins

abbrev begins : List Piece → Bool
begins ps = starts_with nat_eq (text_of (ps ∷ [])) (codes "define ")

-- what follows the word stands apart
behind_word : (l : Linkage) (r : Option Reg) (name rest : List Piece) → begins (word tight (codes "define") ++ (linkage l ++ ((result r ++ name) ++ rest))) ≡ true
behind_word linkages.Private r name rest = refl
behind_word linkages.Internal r name rest = refl
behind_word linkages.External None name rest = refl
behind_word linkages.External (Some (Int w)) name rest = refl
behind_word linkages.External (Some Ptr) name rest = refl
behind_word linkages.Linkonce r name rest = refl
behind_word linkages.LinkonceOdr r name rest = refl
behind_word linkages.Weak r name rest = refl
behind_word linkages.WeakOdr r name rest = refl
behind_word linkages.AvailableExternally r name rest = refl

function_begins : (bs : List Block) (f : Function) → (bs ≡ [] → ⊥) → begins (by_blocks bs f) ≡ true
function_begins [] f some = absurd (some refl)
function_begins (b ∷ bs) f some = behind_word f.linkage f.result _ _

-- a definition's text begins with the word exactly where it is a function
pub begins_so : (exports : List (List ℕ)) (g : GlobalValue) → IsDefinition g → begins (global_value (settled exports g)) ≡ not (is_variable g)
begins_so exports (global.Variable v) is = refl
begins_so exports (global.Function f) is = function_begins f.blocks _ (has_blocks f is)

-- ---- functions of the outside

pub getchar_printed : getchar_line ≡ text_of (global_values (getchar ∷ []))
unfolding digits quoted
getchar_printed = refl

pub putchar_printed : putchar_line ≡ text_of (global_values (putchar ∷ []))
unfolding digits quoted
putchar_printed = refl

-- ---- put together

-- the lines of three groups, one behind the other
pub three_groups : (gs hs ks : List GlobalValue) → text_of (global_values (gs ++ (hs ++ ks))) ≡ text_of (global_values gs) ++ (text_of (global_values hs) ++ text_of (global_values ks))
three_groups gs hs ks = values_append gs (hs ++ ks) ∙ ap (λ (t : List ℕ). text_of (global_values gs) ++ t) (values_append hs ks)

-- the target lines, and behind them the lines of the values
pub behind_header : (m : Module) (gs : List GlobalValue) → module_text (record m { globals = [] }) ++ text_of (global_values gs) ≡ module_text (record m { globals = gs })
behind_header m gs =
    let first = text_of (target_lines (codes "datalayout") m.datalayout) in
    let second = text_of (target_lines (codes "triple") m.triple) in
    ap (λ (t : List ℕ). t ++ text_of (global_values gs)) (sym (three_wrote (target_lines (codes "datalayout") m.datalayout) (target_lines (codes "triple") m.triple) [] [] first (first ++ second) _ refl refl refl (sym (append-nil (first ++ second)))))
    ∙ three_wrote (target_lines (codes "datalayout") m.datalayout) (target_lines (codes "triple") m.triple) (global_values gs) [] first (first ++ second) _ refl refl refl refl
