-- The table of commands: the options of each, with the range and the default of those whose values are numbers.
use Rattle.std.specs.Prelude.{◌≡◌, ℕ, Bool, true, false, not, List, [], ◌∷◌, ◌++◌, map, fold, Option, Some, None, is_some, option_map, codes}
use Rattle.std.specs.Borrow.{Bor}
use Rattle.clap.specs.Words.{App, Rule, Shape, Text, app_of, new_app, new_rule, with_subcommand}
use Rattle.clap.specs.Simple.{new_shape}
use Rattle.clap.specs.declared.builder.ArgAction.TheVariants.{Append}
use Rattle.clap.specs.declared.builder.Command.{Command}
use Rattle.clap.specs.declared.builder.command.Command.TheViews.{out-Command}
use Rattle.lto_words.specs.declared.argument.Argument.{Argument}
use Rattle.lto_words.specs.declared.argument.Argument.TheVariants as argument

-- ---- options

-- an option whose value is a number from `least` to `most`; without a default it has to be given
pub record Numbered : Type 0 where
  pub name : Text
  pub least : ℕ
  pub most : ℕ
  pub default : Option ℕ

abbrev pub jobs : Numbered
jobs = record { name = codes "jobs"; least = 1; most = 64; default = Some 1 }

abbrev pub import_limit : Numbered
import_limit = record { name = codes "import-limit"; least = 0; most = 200000; default = Some 100 }

abbrev pub inline_limit : Numbered
inline_limit = record { name = codes "inline-limit"; least = 0; most = 20000; default = Some 40 }

abbrev pub steps : Numbered
steps = record { name = codes "steps"; least = 1; most = 4000000000; default = Some 1000000 }

abbrev pub seed : Numbered
seed = record { name = codes "seed"; least = 0; most = 2147483647; default = None }

abbrev pub modules : Numbered
modules = record { name = codes "modules"; least = 1; most = 4096; default = None }

-- ---- as the rules of `clap`: an option has one value and is given at most once

-- `--name VALUE`
abbrev pub option : Text → Bool → Rule
option name must = record (new_rule name) { long = Some name; required = must }

abbrev pub numbered : Numbered → Rule
numbered o = option o.name (not (is_some o.default))

-- `-o OUT`
abbrev pub out : Rule
out = record (new_rule (codes "o")) { short = Some 111; required = true }

-- `FILE..`
abbrev pub files : Rule
files = record (new_rule (codes "FILE")) { action = Some Append; required = true }

-- `LISTFILE`
abbrev pub list_file : Rule
list_file = record (new_rule (codes "LISTFILE")) { required = true }

abbrev pub cache : Rule
cache = option (codes "cache") false

abbrev pub export : Rule
export = option (codes "export") false

abbrev pub root : Rule
root = option (codes "root") false

abbrev pub args : Rule
args = option (codes "args") false

-- what an argument asks
abbrev pub rule : Argument → Rule
rule (argument.Text name) = option name.now false
rule (argument.Number o) = option o.name.now (not (is_some o.default))
rule argument.Out = out
rule argument.Files = files
rule argument.ListFile = list_file

-- ---- commands

-- a command with these rules
abbrev pub command : Text → List Rule → Shape
command name rules = record (new_shape name) { rules = rules }

-- the same by its name and its arguments
abbrev pub shape : Bor Text × Bor (List Argument) → Shape
shape row = command row.0.now (map rule row.1.now)

-- the options of links
abbrev pub link_options : List Rule
link_options = numbered jobs ∷ cache ∷ export ∷ numbered import_limit ∷ numbered inline_limit ∷ []

abbrev pub link : Shape
link = command (codes "link") (link_options ++ out ∷ files ∷ [])

abbrev pub batch : Shape
batch = command (codes "batch") (link_options ++ list_file ∷ [])

abbrev pub index : Shape
index = command (codes "index") (export ∷ numbered import_limit ∷ files ∷ [])

abbrev pub run : Shape
run = command (codes "run") (root ∷ args ∷ numbered steps ∷ files ∷ [])

abbrev pub gen : Shape
gen = command (codes "gen") (numbered seed ∷ numbered modules ∷ numbered jobs ∷ [])

-- the program: its words begin with the command's name, and there is neither `help` nor `--help`
abbrev pub program : App
program = record {
  top = record (new_shape (codes "thinlto")) {
    no_binary_name = true;
    disable_help_flag = true;
    disable_help_subcommand = true;
    subcommand_required = true;
  };
  subs = [];
}

unfoldable pub thinlto : App
thinlto = fold with_subcommand program (link ∷ batch ∷ index ∷ run ∷ gen ∷ [])

-- ---- commands that are built

-- the command has this shape, and no argument that goes down to its subcommands
pub record Builds (a : App) (c : Command) : Type 0 where
  pub app : app_of c ≡ a
  pub local : (out-Command c).has_globals ≡ false

-- a shape alone
abbrev pub alone : Shape → App
alone s = record { top = s; subs = [] }
