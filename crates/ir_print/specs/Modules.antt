-- Modules as they are printed: the target lines that aren't empty, then the global values in the order of the tree, each on
-- lines of its own, and no empty lines (LangRef, "Module Structure").
use Rattle.std.specs.Prelude.{ℕ, List, [], ◌∷◌, ◌++◌, codes}
use Rattle.ir_lex.specs.Pieces.{Piece, bytes_of}
use Rattle.ir_tree.specs.declared.module.GlobalValue.{GlobalValue}
use Rattle.ir_tree.specs.declared.module.GlobalValue.TheVariants as globals
use Rattle.ir_tree.specs.declared.module.Module.{Module}
use Rattle.ir_print.specs.Tokens.{tight, space, word, mark, string}
use Rattle.ir_print.specs.Functions.{function}
use Rattle.ir_print.specs.Variables.{variable}

abbrev pub target_line : List ℕ → List ℕ → List Piece
target_line name text = word tight (codes "target") ++ (word space name ++ (mark space 61 ++ string space text))

abbrev pub target_lines : List ℕ → List ℕ → List (List Piece)
target_lines name [] = []
target_lines name (b ∷ bs) = target_line name (b ∷ bs) ∷ []

abbrev pub global_value : GlobalValue → List Piece
global_value (globals.Variable v) = variable v
global_value (globals.Function f) = function f

abbrev pub global_values : List GlobalValue → List (List Piece)
global_values [] = []
global_values (g ∷ gs) = global_value g ∷ global_values gs

abbrev pub entries : Module → List (List Piece)
entries m = target_lines (codes "datalayout") m.datalayout ++ (target_lines (codes "triple") m.triple ++ global_values m.globals)

-- each behind the other, with a line feed behind each
abbrev pub text_of : List (List Piece) → List ℕ
text_of [] = []
text_of (entry ∷ more) = bytes_of entry ++ (10 ∷ text_of more)

abbrev pub module_text : Module → List ℕ
module_text m = text_of (entries m)
