-- The table of commands, as it is built.
use Rattle.std.proofs.Common.{◌≡◌, ◌∙◌, ◌<◌, ◌+◌, ◌||◌, ◌++◌, ◌∷◌, [], ℕ, List, ap, ap₂, subst, sym, false, get_or, length, map, take, fold}
use Rattle.std.proofs.lemmas.List.{map_push, take_more}
use Rattle.std.proofs.lemmas.List.Sums.{fold-append}
use Rattle.std.specs.Borrow.{Bor}
use Rattle.clap.specs.Words.{AddsArg, AddsSubcommand, App, Shape, Text, rule_of, with_rule, with_subcommand}
use Rattle.clap.specs.declared.builder.Arg.{Arg}
use Rattle.clap.specs.declared.builder.Command.{Command}
use Rattle.lto_words.specs.declared.argument.Argument.{Argument}
use Rattle.lto_words.specs.Table.{Builds, alone, command, rule, shape}

-- a command with one more of its arguments
pub argument_more : (name : Text) (arguments : List Argument) (i : ℕ) (d : Argument) (old new : Command) (arg : Arg) → i < length arguments
    → Builds (alone (command name (map rule (take i arguments)))) old → AddsArg old arg new → rule_of arg ≡ rule (get_or arguments i d) → arg.global ≡ false
    → Builds (alone (command name (map rule (take (i + 1) arguments)))) new
argument_more name arguments i d old new arg lt built adds is local =
    let rules : map rule (take (i + 1) arguments) ≡ map rule (take i arguments) ++ rule (get_or arguments i d) ∷ [] =
    ap (map rule) (take_more arguments i d lt) ∙ map_push rule (take i arguments) (get_or arguments i d) in
    record {
      app = adds.shape local ∙ ap₂ with_rule built.app is ∙ sym (ap (λ rs. alone (command name rs)) rules);
      local = adds.globals ∙ ap₂ (λ a b. a || b) built.local local;
    }

-- ---- the program

-- a program with one command more
with_one_more : (a b : App) (old sub new : Command) → Builds a old → Builds b sub → AddsSubcommand old sub new → Builds (with_subcommand a b.top) new
with_one_more a b old sub new program command adds = record {
  app = adds.shape command.local ∙ ap₂ (λ (p c : App). with_subcommand p c.top) program.app command.app;
  local = adds.globals ∙ ap₂ (λ a b. a || b) program.local command.local;
}

-- a program with the command of one more row
pub command_more : (a : App) (rows : List (Bor Text × Bor (List Argument))) (i : ℕ) (d : Bor Text × Bor (List Argument)) (old sub new : Command) → i < length rows
    → Builds (fold with_subcommand a (map shape (take i rows))) old → Builds (alone (shape (get_or rows i d))) sub → AddsSubcommand old sub new
    → Builds (fold with_subcommand a (map shape (take (i + 1) rows))) new
command_more a rows i d old sub new lt program command adds =
    let before : List Shape = map shape (take i rows) in
    let shapes : map shape (take (i + 1) rows) ≡ before ++ shape (get_or rows i d) ∷ [] = ap (map shape) (take_more rows i d lt) ∙ map_push shape (take i rows) (get_or rows i d) in
    let whole : fold with_subcommand a (map shape (take (i + 1) rows)) ≡ with_subcommand (fold with_subcommand a before) (shape (get_or rows i d)) =
    ap (λ (ss : List Shape). fold with_subcommand a ss) shapes ∙ fold-append with_subcommand a before (shape (get_or rows i d) ∷ []) in
    subst (λ (b : App). Builds b new) (sym whole) (with_one_more (fold with_subcommand a before) (alone (shape (get_or rows i d))) old sub new program command adds)
